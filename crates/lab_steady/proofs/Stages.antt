-- The stages of `steady`, from a program to what is told.
use Rattle.std.proofs.Common.{◌≡◌, ◌≤◌, ℕ, List, length, Bool, Option, Some, Result, Ok, Err, IfErr, IsErrAnd, refl, sym, subst, inl, inr}
use Rattle.tim_base.specs.Told.{limit}
use Rattle.label_lattice.specs.declared.label.Label.{Label}
use Rattle.label_lattice.specs.Order.{Order}
use Rattle.mit_syntax.specs.Program.{Syntax}
use Rattle.timing_types.specs.Labelled.{LabelledProgram}
use Rattle.label_infer.specs.Least.{IsLeast}
use Rattle.code_lower.specs.Lowered.{lowered}
use Rattle.steady_code.specs.declared.costing.Costing.{Costing}
use Rattle.tool_texts.specs.declared.status.Status.{Status}
use Rattle.tool_texts.specs.declared.status.Status.TheVariants as status
use Rattle.tool_texts.specs.declared.stop.Stop.{Stop}
use Rattle.tool_texts.specs.Ends.{IsStop, status_of, stop_text}
use Rattle.tool_texts.proofs.EndLemmas.{broke_map}
use Rattle.tool_stages.specs.Content.{Content}
use Rattle.tool_stages.specs.Stages.{Reads, ImageStops}
use Rattle.lab_runs.specs.Labels.{UnnamedStops, observer_option}
use Rattle.lab_steady.specs.Constant.{CostingStops, costing_of}
use Rattle.lab_steady.specs.Answer.{Names, IsAnswered, parts_option, OfProgram, Steadies, SteadiesBy}

module _ (costing : Costing) where
  -- where the word of `--observer` names no label, the stop that is handed on is for that
  pub observer_stop : {T : Type 0} (p : Syntax) (order : Order) (text observer parts : List ℕ) (whole : Bool) → order ≡ p.order → (r : Result T Stop)
      (e : Stop) → IsErrAnd r (λ x. x ≡ e) → IsStop (UnnamedStops observer_option order (Some observer)) e
      → IfErr r (IsStop (OfProgram costing text p observer parts whole))
  observer_stop p order text observer parts whole same (Ok x) e is h = tt
  observer_stop p order text observer parts whole same (Err x) e is h =
      subst (λ (z : Stop). IsStop (OfProgram costing text p observer parts whole) z) (sym is)
      (broke_map (UnnamedStops observer_option p.order (Some observer)) (OfProgram costing text p observer parts whole) (status_of e) (stop_text e)
      (λ k. inl k) (subst (λ (z : Order). IsStop (UnnamedStops observer_option z (Some observer)) e) same h))

  module _ (p : Syntax) (order : Order) (text observer parts : List ℕ) (whole : Bool) (same : order ≡ p.order) (o : Label)
      (names : Names order observer o) where
    names_o : Names p.order observer o
    names_o = subst (λ (z : Order). Names z observer o) same names

    pub parts_stop : (e : Stop) → IsStop (UnnamedStops parts_option order (Some parts)) e → IsStop (OfProgram costing text p observer parts whole) e
    parts_stop e h =
        broke_map (UnnamedStops parts_option p.order (Some parts)) (OfProgram costing text p observer parts whole) (status_of e) (stop_text e)
        (λ k. inr (o, names_o, inl k)) (subst (λ (z : Order). IsStop (UnnamedStops parts_option z (Some parts)) e) same h)

    module _ (h : Label) (agreed : Names order parts h) (q : LabelledProgram) (program : q.program ≡ p) (least : IsLeast p q.labels) where
      names_h : Names p.order parts h
      names_h = subst (λ (z : Order). Names z parts h) same agreed

      pub told_program : (s : Status) (t : List ℕ) → length (lowered q).instrs ≤ 200000 → IsAnswered costing text q o.number h.number whole s t
          → OfProgram costing text p observer parts whole s t
      told_program s t short a =
          inr (o, names_o, inr (h, names_h, (q, record { program = program; least = least }, inr (lowered q, (refl, short), a))))

      pub image_stops : (e : Stop) → IsStop (ImageStops q) e → IsStop (OfProgram costing text p observer parts whole) e
      image_stops e k =
          broke_map (ImageStops q) (OfProgram costing text p observer parts whole) (status_of e) (stop_text e)
          (λ x. inr (o, names_o, inr (h, names_h, (q, record { program = program; least = least }, inl x)))) k

  module _ (Rises : List ℕ → Type 0) (content : Content) (file text observer parts : List ℕ) (whole : Bool) (p : Syntax)
      (reads : (x : Reads (content file) p) × (x.bytes ≡ text)) where
    -- what is told of the program that a file holds
    pub told_source : (s : Status) (t : List ℕ) → OfProgram costing text p observer parts whole s t
        → Steadies costing Rises content file observer parts whole s t
    told_source s t h = inr (p, reads.0, (reads.0, subst (λ (z : List ℕ). OfProgram costing z p observer parts whole s t) (sym reads.1) h))

    pub source_stops : (e : Stop) → IsStop (OfProgram costing text p observer parts whole) e
        → IsStop (Steadies costing Rises content file observer parts whole) e
    source_stops e k =
        broke_map (OfProgram costing text p observer parts whole) (Steadies costing Rises content file observer parts whole) (status_of e) (stop_text e)
        (told_source (status_of e) (stop_text e)) k

    -- its text is not too long
    pub source_short : length text ≤ limit
    source_short = subst (λ (z : List ℕ). length z ≤ limit) reads.1 reads.0.short

  -- no answer to a program that is read is a read fault
  pub no_read : (text : List ℕ) (p : Syntax) (observer parts : List ℕ) (whole : Bool) (t : List ℕ)
      → OfProgram costing text p observer parts whole status.ReadFault t → ⊥
  no_read text p observer parts whole t (inl h) = h
  no_read text p observer parts whole t (inr (o, named, inl h)) = h
  no_read text p observer parts whole t (inr (o, named, inr (h, agreed, (q, infers, inl k)))) = k
  no_read text p observer parts whole t (inr (o, named, inr (h, agreed, (q, infers, inr (code, image, a))))) = a

-- ---- by the costs for which a word asks

module _ (constant : Option (List ℕ)) (Rises : List ℕ → Type 0) (content : Content) (file observer parts : List ℕ) (whole : Bool) where
  pub costing_refused : (e : Stop) → IsStop (CostingStops constant) e → IsStop (SteadiesBy constant Rises content file observer parts whole) e
  costing_refused e k =
      broke_map (CostingStops constant) (SteadiesBy constant Rises content file observer parts whole) (status_of e) (stop_text e) (λ x. inl x) k

  module _ (costing : Costing) (asked : costing_of constant ≡ Some costing) where
    pub told_by : (s : Status) (t : List ℕ) → Steadies costing Rises content file observer parts whole s t
        → SteadiesBy constant Rises content file observer parts whole s t
    told_by s t h = inr (costing, asked, h)

    pub stops_by : (e : Stop) → IsStop (Steadies costing Rises content file observer parts whole) e
        → IsStop (SteadiesBy constant Rises content file observer parts whole) e
    stops_by e k =
        broke_map (Steadies costing Rises content file observer parts whole) (SteadiesBy constant Rises content file observer parts whole) (status_of e)
        (stop_text e) (told_by (status_of e) (stop_text e)) k

-- a refused word is no read fault
pub no_costing_read : (constant : Option (List ℕ)) (t : List ℕ) → CostingStops constant status.ReadFault t → ⊥
no_costing_read constant t h = h
