-- Where a label comes from, as it is told.
use Rattle.std.proofs.Common.{◌≡◌, ℕ, List, ◌++◌, Option, codes, inl, inr, sym, ap, subst, ◌∙◌}
use Rattle.label_lattice.specs.declared.label.Label.{Label}
use Rattle.label_lattice.specs.Order.{Order, name_of}
use Rattle.mit_syntax.specs.declared.token.Token.{Token}
use Rattle.mit_syntax.specs.Program.{Syntax}
use Rattle.timing_types.specs.Labelled.{LabelledProgram}
use Rattle.label_infer.specs.Least.{IsLeast}
use Rattle.flow_path.specs.declared.step.Spot.{Spot}
use Rattle.flow_path.specs.declared.origins.Origin.{Origin}
use Rattle.flow_path.specs.Origins.{label_there}
use Rattle.flow_print.specs.Lines.{origins_text}
use Rattle.tool_texts.specs.declared.status.Status.TheVariants.{Done, WriteFault}
use Rattle.tool_texts.specs.declared.stop.Stop.{Stop}
use Rattle.tool_texts.specs.Ends.{IsStop, status_of, stop_text}
use Rattle.tool_texts.proofs.EndLemmas.{broke_map}
use Rattle.tool_stages.specs.Stages.{ProgramStops, Reads}
use Rattle.tool_stages.specs.Content.{Content}
use Rattle.lab_why.specs.Names.{IsThere}
use Rattle.lab_why.specs.Origins.{IsOriginAnswer, HasOrigins, NameStops, TellsOrigins}

pub has_origins : (c : Option (Option (List ℕ))) (p : Syntax) (q : LabelledProgram) (x : Reads c p) (w : List ℕ) (spot : Spot) (text : List ℕ)
    (tokens : List Token) (t v : List ℕ)
    → x.bytes ≡ text → x.tokens ≡ tokens → q.program ≡ p → v ≡ w → IsLeast p q.labels → TellsOrigins text tokens q v spot t → HasOrigins c p w spot t
has_origins c p q x w spot text tokens t v bytes list program word least told =
    let whole : ◌≡◌ {A = LabelledProgram} q (record { program = p; labels = q.labels }) =
    ap (λ (z : Syntax). record { program = z; labels = q.labels }) program in
    record {
      source = x;
      labels = q.labels;
      least = least;
      tells = subst (λ (z : LabelledProgram). TellsOrigins x.bytes x.tokens z w spot t) whole
          (subst (λ (z : List Token). TellsOrigins x.bytes z q w spot t) (sym list)
          (subst (λ (z : List ℕ). TellsOrigins z tokens q w spot t) (sym bytes)
          (subst (λ (z : List ℕ). TellsOrigins text tokens q z spot t) word told)));
    }

-- what stands in a program stands in the same program with its labels
pub still_there : (p : Syntax) (q : LabelledProgram) (spot : Spot) → q.program ≡ p → IsThere p spot → IsThere q.program spot
still_there p q spot e h = subst (λ (z : Syntax). IsThere z spot) (sym e) h

-- what stops the reading stops the command
pub program_stop : (Rises : List ℕ → Type 0) (content : Content) (file w : List ℕ) (e : Stop) → IsStop (ProgramStops (Rises file) (content file)) e
    → IsStop (IsOriginAnswer Rises content file w) e
program_stop Rises content file w e h =
    broke_map (ProgramStops (Rises file) (content file)) (IsOriginAnswer Rises content file w) (status_of e) (stop_text e) inl h

-- a word that names nothing stops the command
pub word_stop : (Rises : List ℕ → Type 0) (content : Content) (file w : List ℕ) (p : Syntax) (e : Stop) → Reads (content file) p → IsStop (NameStops p w) e
    → IsStop (IsOriginAnswer Rises content file w) e
word_stop Rises content file w p e reads h =
    broke_map (NameStops p w) (IsOriginAnswer Rises content file w) (status_of e) (stop_text e) (λ k. inr (p, reads, inl k)) h

-- no answer is a write fault
pub origin_no_fault : (Rises : List ℕ → Type 0) (content : Content) (file w : List ℕ) (t : List ℕ) → IsOriginAnswer Rises content file w WriteFault t → ⊥
origin_no_fault Rises content file w t (inl h) = h
origin_no_fault Rises content file w t (inr (p, reads, inl h)) = h
origin_no_fault Rises content file w t (inr (p, reads, inr (spot, is, h))) = let e : WriteFault ≡ Done = h.0 in cc

-- the pieces that are written are those of the text
pub tells_lines : (T : List ℕ) (ts : List Token) (q : LabelledProgram) (w : List ℕ) (spot : Spot) (ws shown : List Origin) (p : Syntax) (o : Order)
    (l : Label) (a n x t : List ℕ)
    → a ≡ w → n ≡ name_of o l.number → o ≡ p.order → l.number ≡ label_there q spot → p ≡ q.program → shown ≡ ws → x ≡ origins_text T ts p shown
    → t ≡ a ++ (codes " is " ++ (n ++ (codes "\n" ++ x)))
    → t ≡ w ++ (codes " is " ++ (name_of q.program.order (label_there q spot) ++ (codes "\n" ++ origins_text T ts q.program ws)))
tells_lines T ts q w spot ws shown p o l a n x t word name order label program same lines is =
    let named : n ≡ name_of q.program.order (label_there q spot) = name ∙ ap (λ (z : Order). name_of z l.number) (order ∙ ap (λ (z : Syntax). z.order) program)
    ∙ ap (name_of q.program.order) label in
    let told : x ≡ origins_text T ts q.program ws = lines ∙ ap (λ (z : Syntax). origins_text T ts z shown) program ∙ ap (origins_text T ts q.program) same in
    is ∙ ap (λ (z : List ℕ). z ++ (codes " is " ++ (n ++ (codes "\n" ++ x)))) word ∙ ap (λ (z : List ℕ). w ++ (codes " is " ++ (z ++ (codes "\n" ++ x)))) named
    ∙ ap (λ (z : List ℕ). w ++ (codes " is " ++ (name_of q.program.order (label_there q spot) ++ (codes "\n" ++ z)))) told
