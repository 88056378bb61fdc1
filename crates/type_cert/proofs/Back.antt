-- What is written of a typed program is a certificate of it.
use Rattle.std.proofs.Common.{◌≡◌, ℕ, ◌+◌, ◌<◌, ◌≤◌, refl, sym, ap, ◌∙◌, subst, List, [], ◌∷◌, ◌++◌, length, length-append, append_assoc, append-nil, get_or}
use Rattle.std.proofs.Common.{map, arith, ⊎_elim}
use Rattle.std.proofs.Math.Seq.{get_or-append_seam}
use Rattle.std.proofs.lemmas.Bool.{cases_lt}
use Rattle.std.proofs.lemmas.List.{ext_get_or, get_or_default, get_or_past, length-map}
use Rattle.label_lattice.specs.declared.label.Label.{Label}
use Rattle.label_lattice.specs.Lattice.{Lattice, IsLattice}
use Rattle.label_lattice.specs.Order.{lattice_of}
use Rattle.mit_syntax.specs.Plan.{count}
use Rattle.mit_syntax.specs.Todo.{Marks}
use Rattle.mit_syntax.specs.Declarations.{Declaration, Cell, cells, variables, cell_at}
use Rattle.mit_syntax.specs.Program.{Syntax, plan_of}
use Rattle.mit_syntax.specs.Valid.{IsValid}
use Rattle.timing_types.specs.Labelling.{Labelling, label_at, marks_of, level_of, IsKept}
use Rattle.timing_types.specs.Labelled.{LabelledProgram, HasType, placed_of}
use Rattle.timing_types.proofs.Walk.{not_broken, all_hold}
use Rattle.timing_types.specs.Walk.{conditions, AllHold}
use Rattle.label_infer.specs.Least.{Labels}
use Rattle.label_infer.specs.Given.{AllFrom}
use Rattle.label_infer.proofs.Placed.{from_first, from_all}
use Rattle.label_infer.proofs.Ranges.{joins_below}
use Rattle.label_infer.proofs.Completed.{lattice_laws}
use Rattle.type_cert.specs.declared.line.Line.{Line}
use Rattle.type_cert.specs.declared.place.Start.TheVariants.{First}
use Rattle.type_cert.specs.declared.place.Close.TheVariants.{Open}
use Rattle.type_cert.specs.Places.{label, places}
use Rattle.type_cert.specs.Demands.{HasLabels, IsFormed, Meets}
use Rattle.type_cert.specs.Certificate.{spread, places_of, no_line, line_at, levels_in, AllFit, FitsPlace, IsCertificate}
use Rattle.type_cert.specs.Derived.{derived, declared_labels, derived_text}
use Rattle.type_cert.proofs.Placing.{length_places}
use Rattle.type_cert.proofs.Spread.{length_spread}
use Rattle.type_cert.proofs.Whole.{both_labels, both_at}
use Rattle.type_cert.proofs.Complete.{length_derived, complete, derived_below}
use Rattle.type_cert.proofs.Held.{length_declared, declared_fit, spread_at, lines_marked, lines_levelled}

-- lists whose items fit by their numbers
fit_all : {A B : Type 0} (R : A → B → Type 0) (as' : List A) (all pre bs : List B) (d : B) (i : ℕ) → all ≡ pre ++ bs → length pre ≡ i → length as' ≡ length bs
    → AllFrom (λ j a. R a (get_or all j d)) i as' → AllFit R as' bs
fit_all R as' all pre [] d i is len e h = tt
fit_all R [] all pre (b ∷ bs) d i is len e h = absurd (omega (arith, e))
fit_all R (a ∷ as') all pre (b ∷ bs) d i is len e h =
    let at : get_or all i d ≡ b = ap (λ z. get_or z i d) is ∙ ap (λ z. get_or (pre ++ b ∷ bs) z d) (sym len) ∙ get_or-append_seam pre b bs d in
    let l = length-append pre (b ∷ []) in (
      subst (λ z. R a z) at h.0,
      fit_all R as' all (pre ++ b ∷ []) bs d (i + 1) (is ∙ sym (append_assoc pre (b ∷ []) bs))
          (omega (arith, l, len)) (omega (arith, e)) h.1,
    )

module _ (s : Syntax) (valid : IsValid s) (l : Labelling) (labels : Labels s l) (type : HasType (record { program = s; labels = l })) where
  abbrev q : LabelledProgram
  q = record { program = s; labels = l }

  abbrev b : ℕ
  b = s.order.bottom

  abbrev lat : Lattice
  lat = lattice_of s.order

  abbrev ds : List Declaration
  ds = s.declarations

  abbrev g : ℕ → ℕ
  g = label_at b l.variables

  abbrev ms : ℕ → Marks
  ms = marks_of s.order l

  abbrev lv : ℕ → ℕ
  lv = level_of s.order l

  abbrev vs : List Label
  vs = declared_labels g 0 ds

  abbrev es : List Line
  es = derived lat g (placed_of q) b b

  abbrev E : ℕ → Line
  E = line_at b es

  abbrev low : Label
  low = record { number = b }

  some : b < s.order.size
  some = valid.order.table.some

  ll : IsLattice lat
  ll = lattice_laws s.order valid.order

  zero_add : (n : ℕ) → 0 + n ≡ n
  zero_add n = omega arith

  kept : (y : ℕ) → y < variables ds → (c : Cell) → IsKept (get_or (cells ds) y c).label (g (0 + y))
  kept y h c =
      let k = labels.keeps.declared y h in
      let e : cell_at ds y ≡ get_or (cells ds) y c = get_or_default (cells ds) y _ c h in
      subst (λ z. IsKept (get_or (cells ds) y c).label (g z)) (sym (zero_add y)) (subst (λ (z : Cell). IsKept z.label (g y)) e k)

  spread_is : spread ds vs ≡ l.variables
  spread_is =
      let n = length_spread ds vs (length_declared g 0 ds) in
      let f = labels.keeps.variables_fit in
      ext_get_or low (spread ds vs) l.variables (n ∙ sym f)
      (λ i h. ap label (spread_at s.order.size b l.variables ds 0 i valid.arrays kept (subst (λ z. i < z) n h)) ∙ ap (λ z. label (g z)) (zero_add i))

  lines_count : length es ≡ count (plan_of s)
  lines_count = length_derived lat g ms lv (plan_of s) 0 b b

  commands_are : map both_labels es ≡ l.commands
  commands_are =
      let n = length-map es both_labels in
      let f = labels.keeps.commands_fit in
      ext_get_or (low, low) (map both_labels es) l.commands (n ∙ lines_count ∙ sym f)
      (λ i h.
      let m = from_first _ es i (no_line b) (lines_marked lat g ms lv (plan_of s) 0 b b) (subst (λ z. i < z) n h) in
      both_at b es i ∙ ap (λ z. (z, (E i).write)) m.0 ∙ ap (λ z. (label (ms i).er, z)) m.1)

  levels_are : levels_in es ≡ l.levels
  levels_are =
      let v = lines_levelled lat g ms lv (plan_of s) 0 0 b b valid.numbered in
      ext_get_or low (levels_in es) l.levels (v.count ∙ sym labels.keeps.levels_fit) (λ k h. from_first _ (levels_in es) k low v.have h)

  below : (j : ℕ) → HasLabels s.order.size (E j)
  below j =
      let d = derived_below lat g ms lv s.order.size some (joins_below s.order valid.order) labels.keeps.variables_below labels.keeps.commands_below
      labels.keeps.levels_below (plan_of s) 0 b b some some in
      ⊎_elim
      (λ (h : j < length es). from_first _ es j (no_line b) d h)
      (λ (h : length es ≤ j). subst (λ z. HasLabels s.order.size z) (sym (get_or_past es j (no_line b) h)) (record {
        pc = some;
        start = some;
        read =
            some;
        write = some;
        end = some;
        level = tt;
      }))
      (cases_lt j (length es))

  hold : AllHold lat (conditions lat g (placed_of q) b b)
  hold = all_hold lat (conditions lat g (placed_of q) b b) (not_broken lat ll g (placed_of q) type)

  fit : AllFit (FitsPlace s es) (places_of s vs) es
  fit =
      let at = from_all es [] es [] 0 (no_line b) (sym (append-nil es)) refl in
      let c = complete lat g ms lv E ll s.order.size ds below (plan_of s) 0 b First Open b at hold labels.own labels.keeps.written valid.known refl (λ _. tt) in
      let c2 = subst (λ z. AllFrom (λ j p. IsFormed s.order.size p.act (E j) × Meets lat E p (E j)) 0 (places lat (label_at b z) (plan_of s) 0 b First Open))
      (sym spread_is) c in
      let n = length_places lat (label_at b (spread ds vs)) (plan_of s) 0 b First Open in
      fit_all (FitsPlace s es) (places_of s vs) es [] es (no_line b) 0 refl refl (n ∙ sym lines_count) c2

  pub is_certificate : (bytes : List ℕ) → bytes ≡ derived_text q → IsCertificate q bytes
  is_certificate bytes is =
      record {
        variables = vs;
        lines = es;
        begins = record {
          text = is ∙ sym (append-nil (derived_text q));
          variables = declared_fit s.order.size b l.variables ds 0 valid.arrays labels.keeps.variables_below kept;
          complete = λ _. length_declared g 0 ds;
          commands = fit;
        };
        all_variables = length_declared g 0 ds;
        all_commands = lines_count;
        labels =
            sym (ap (λ z. made z (map both_labels es) (levels_in es)) spread_is ∙ ap (λ z. made l.variables z (levels_in es)) commands_are
            ∙ ap (λ z. made l.variables l.commands z) levels_are);
      }
    where
      made : List Label → List (Label × Label) → List Label → Labelling
      made a c d = record { variables = a; commands = c; levels = d }
