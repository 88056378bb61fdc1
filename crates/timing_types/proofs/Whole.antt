-- The walk and the program-counter labels of a whole labelled program.
use Rattle.std.proofs.Common.{◌≡◌, ℕ, refl, sym, ap, ◌∙◌, subst, List, [], ◌++◌, length, append-nil}
use Rattle.std.specs.Prelude.{None, Some}
use Rattle.label_lattice.specs.Lattice.{IsLattice}
use Rattle.label_lattice.specs.declared.label.Label.{Label}
use Rattle.label_lattice.specs.Order.{Order, lattice_of}
use Rattle.mit_syntax.specs.declared.ast.Command.{Command}
use Rattle.mit_syntax.specs.Todo.{Done}
use Rattle.mit_syntax.specs.Plan.{list_plan}
use Rattle.mit_syntax.specs.Program.{Syntax, plan_of}
use Rattle.mit_syntax.specs.Valid.{IsValid}
use Rattle.timing_types.specs.declared.rule.TypeFault.{TypeFault}
use Rattle.timing_types.specs.Walk.{Passes}
use Rattle.timing_types.specs.Contexts.{contexts}
use Rattle.timing_types.specs.Labelling.{Labelling, variable_of, marks_of, level_of, tree_of, broken_of, contexts_of}
use Rattle.timing_types.specs.Labelled.{LabelledProgram, order_of, labels_of, placed_of, HasType, first_broken_of, AreContexts}
use Rattle.timing_types.proofs.Walk.{typed, not_broken, none_or_some}
use Rattle.timing_types.proofs.Pcs.{length_contexts, has_contexts}

module _ (q : LabelledProgram) where
  has_type : IsLattice (order_of q) → first_broken_of q ≡ None → HasType q
  has_type ll h = typed (order_of q) ll (labels_of q) (placed_of q) h

  are_contexts : (cs : List Label) → IsValid q.program → cs ≡ contexts (order_of q) (labels_of q) (plan_of q.program) q.program.order.bottom → AreContexts q cs
  are_contexts cs valid is =
      let o = q.program.order in
      let lat = order_of q in
      let g = labels_of q in
      let plan = plan_of q.program in
      record {
        fit = ap length is ∙ length_contexts lat g plan o.bottom;
        have = has_contexts lat g (marks_of o q.labels) (level_of o q.labels) o.bottom cs plan 0 0 o.bottom [] [] valid.numbered refl
            (is ∙ sym (append-nil (contexts lat g plan o.bottom)));
      }

  -- as code reads the parts of a labelled program
  module _ (s s' : Syntax) (o : Order) (l : Labelling) (cs : List Command) (b : Label) (hs : s ≡ q.program) (hs' : s' ≡ q.program)
      (ho : o ≡ s.order) (hl : l ≡ q.labels)
      (hc : list_plan cs ≡ plan_of s') (hb : b.number ≡ o.bottom) where
    order_is : o ≡ q.program.order
    order_is = ho ∙ ap (λ (z : Syntax). z.order) hs

    body_is : list_plan cs ≡ plan_of q.program
    body_is = hc ∙ ap (λ (z : Syntax). plan_of z) hs'

    bottom_is : b.number ≡ q.program.order.bottom
    bottom_is = hb ∙ ap (λ (z : Order). z.bottom) order_is

    broken_is : broken_of o l (list_plan cs) 0 b.number b.number ≡ first_broken_of q
    broken_is =
        ap (λ z. broken_of z l (list_plan cs) 0 b.number b.number) order_is
        ∙ ap (λ z. broken_of q.program.order z (list_plan cs) 0 b.number b.number) hl
        ∙ ap (λ z. broken_of q.program.order q.labels z 0 b.number b.number) body_is
        ∙ ap (λ z. broken_of q.program.order q.labels (plan_of q.program) 0 z z) bottom_is

    pub unbroken : (end : ℕ) → Passes (lattice_of o) (variable_of o l) b.number (tree_of o l (list_plan cs) 0) b.number Done end → first_broken_of q ≡ None
    unbroken end h = sym broken_is ∙ h.1

    pub walked : (end : ℕ) → IsLattice (lattice_of o) → Passes (lattice_of o) (variable_of o l) b.number (tree_of o l (list_plan cs) 0) b.number Done end
        → HasType q
    walked end ll h = has_type (subst (λ z. IsLattice (lattice_of z)) order_is ll) (unbroken end h)

    pub refused : (r : TypeFault) → IsLattice (lattice_of o) → broken_of o l (list_plan cs) 0 b.number b.number ≡ Some r
        → (first_broken_of q ≡ Some r) × (HasType q → ⊥)
    refused r ll h =
        let e = sym broken_is ∙ h in (
          e,
          λ ty. none_or_some (first_broken_of q) r
              (not_broken (order_of q) (subst (λ z. IsLattice (lattice_of z)) order_is ll) (labels_of q) (placed_of q) ty) e,
        )

    pub collected : (none pcs : List Label) → none ≡ [] → IsValid s' → pcs ≡ none ++ contexts_of o l (list_plan cs) b → AreContexts q pcs
    collected none pcs hn valid h =
        are_contexts pcs (subst (λ z. IsValid z) hs' valid)
        (h ∙ ap (λ z. z ++ contexts_of o l (list_plan cs) b) hn
        ∙ ap (λ z. contexts_of z l (list_plan cs) b) order_is
        ∙ ap (λ z. contexts_of q.program.order z (list_plan cs) b) hl
        ∙ ap (λ z. contexts_of q.program.order q.labels z b) body_is
        ∙ ap (λ z. contexts (order_of q) (labels_of q) (plan_of q.program) z) bottom_is)
