-- The end of the walk of a program is the least of its end labels.
use Rattle.std.proofs.Common.{◌≡◌, ℕ, List, sym, ap, ◌∙◌, subst}
use Rattle.std.specs.Prelude.{Bool, true, false}
use Rattle.std.proofs.lemmas.Bool.{both_ways}
use Rattle.label_lattice.specs.Lattice.{IsLattice, Flows}
use Rattle.label_lattice.specs.declared.label.Label.{Label}
use Rattle.label_lattice.specs.Order.{Order, lattice_of}
use Rattle.mit_syntax.specs.declared.ast.Command.{Command}
use Rattle.mit_syntax.specs.Plan.{list_plan}
use Rattle.mit_syntax.specs.Program.{Syntax, plan_of}
use Rattle.timing_types.specs.Typing.{Types}
use Rattle.timing_types.specs.Labelling.{Labelling, end_of}
use Rattle.timing_types.specs.Labelled.{LabelledProgram, order_of, labels_of, placed_of, bare_of, HasType}
use Rattle.timing_types.proofs.Walk.{typed_from, holds_from}
use Rattle.lab_bound.specs.Text.{CountsEnd}

module _ (q : LabelledProgram) where
  abbrev walked : ℕ
  walked = end_of q.program.order q.labels (plan_of q.program) 0 q.program.order.bottom q.program.order.bottom

  is_end : IsLattice (order_of q) → HasType q → Types (order_of q) (labels_of q) (order_of q).bottom (order_of q).bottom (bare_of q) walked
  is_end ll ty =
      let bottom = (order_of q).bottom in
      typed_from (order_of q) ll (labels_of q) (placed_of q) bottom bottom
      (holds_from (order_of q) ll (labels_of q) (placed_of q) bottom bottom bottom ty.0 (ll.same bottom) ty.1).0

  is_least : IsLattice (order_of q) → (o : ℕ) → CountsEnd q o → Flows (order_of q) walked o
  is_least ll o h =
      let bottom = (order_of q).bottom in
      ll.chain walked h.0 o (holds_from (order_of q) ll (labels_of q) (placed_of q) bottom bottom bottom h.0 (ll.same bottom) h.1).1 h.2

  -- as code reads the parts of a typed program
  module _ (s : Syntax) (o : Order) (l : Labelling) (cs : List Command) (b end : Label) (observer : ℕ) (r : Bool) (hs : s ≡ q.program) (ho : o ≡ s.order)
      (hl : l ≡ q.labels) (hc : list_plan cs ≡ plan_of s) (hb : b.number ≡ o.bottom) (he : end.number ≡ end_of o l (list_plan cs) 0 b.number b.number)
      (hr : r ≡ (lattice_of o).flows end.number observer) (ll : IsLattice (lattice_of o)) where
    order_is : o ≡ q.program.order
    order_is = ho ∙ ap (λ (z : Syntax). z.order) hs

    plan_is : list_plan cs ≡ plan_of q.program
    plan_is = hc ∙ ap (λ (z : Syntax). plan_of z) hs

    bottom_is : b.number ≡ q.program.order.bottom
    bottom_is = hb ∙ ap (λ (z : Order). z.bottom) order_is

    end_is : end.number ≡ walked
    end_is =
        he ∙ ap (λ z. end_of z l (list_plan cs) 0 b.number b.number) order_is
        ∙ ap (λ z. end_of q.program.order z (list_plan cs) 0 b.number b.number) hl
        ∙ ap (λ z. end_of q.program.order q.labels z 0 b.number b.number) plan_is
        ∙ ap (λ z. end_of q.program.order q.labels (plan_of q.program) 0 z z) bottom_is

    flows_is : r ≡ (order_of q).flows walked observer
    flows_is = hr ∙ ap (λ z. (lattice_of z).flows end.number observer) order_is ∙ ap (λ z. (order_of q).flows z observer) end_is

    laws : IsLattice (order_of q)
    laws = subst (λ z. IsLattice (lattice_of z)) order_is ll

    pub counted : HasType q → r ≡ true → CountsEnd q observer
    counted ty h = (walked, is_end laws ty, sym flows_is ∙ h)

    pub not_counted : r ≡ false → CountsEnd q observer → ⊥
    not_counted h k = both_ways r h (flows_is ∙ is_least laws observer k)
