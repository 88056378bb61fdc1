use Rattle.std.proofs.Common.{◌≡◌, ◌<◌, ◌≤◌, ℕ, ◌+◌, ◌⊎◌, inl, inr, ⊎_elim, Bool, true, List, length, refl, sym, ap, ◌∙◌, subst, arith}
use Rattle.std.specs.Prelude.{slice_set, slice_index_or}
use Rattle.std.proofs.lemmas.Bool.{cases_lt}
use Rattle.std.proofs.lemmas.List.{length-set, get_or-set_same, get_or-set_other}
use Rattle.label_lattice.specs.Order.{Order, lattice_of}
use Rattle.mit_syntax.specs.Declarations.{variables}
use Rattle.timing_types.specs.Labelling.{Labelling, variable_of}
use Rattle.timing_types.specs.Labelled.{order_of, labels_of}
use Rattle.timing_types.proofs.labelled.Labelled.mark_seen.Goals as goal

flows_is : (order order' : Order) (labels labels' : Labelling) (x a o : ℕ) (b : Bool) → order ≡ order' → labels ≡ labels' → a ≡ variable_of order labels x
    → b ≡ (lattice_of order).flows a o →
    b ≡ (lattice_of order').flows (variable_of order' labels' x) o
flows_is order order' labels labels' x a o b e f g h =
    h ∙ (ap (λ z. (lattice_of order).flows z o) g
    ∙ (ap (λ z. (lattice_of z).flows (variable_of z labels x) o) e ∙ ap (λ z. (lattice_of order').flows (variable_of order' z x) o) f))

one_marked : (xs : List Bool) (k : ℕ) (b : Bool) (f : ℕ → Bool) → k < length xs → ((x : ℕ) → x < k → slice_index_or xs x true ≡ f x) → b ≡ f k → (x : ℕ)
    → x < k + 1 → slice_index_or (slice_set xs k b) x true ≡ f x
one_marked xs k b f long h e x l =
    ⊎_elim
    (λ (a : x < k). get_or-set_other xs k x b true (λ q. absurd (omega (arith, a, q))) ∙ h x a)
    (λ (a : k ≤ x). let q : x ≡ k = omega (arith, a, l) in
    ap (λ z. slice_index_or (slice_set xs k b) z true) q ∙ (get_or-set_same xs k b true long ∙ (e ∙ ap f (sym q))))
    (cases_lt x k)

pub loop-x-preserved : goal.loop-x-preserved
loop-x-preserved c =
    let h = c.loop-x.invariant in
    let long : c.loop-x.x < length c.loop-x.seen =
    omega (arith, h.long, c.requires, c.variables-x-end.ensures.value, ap (λ z. variables z.declarations) c.program-program.ensures.program) in
    record {
      long = length-set c.loop-x.seen c.loop-x.x c.flows.result ∙ h.long;
      marked =
          one_marked c.loop-x.seen c.loop-x.x c.flows.result
          (λ x. (order_of c.args.self.now).flows (labels_of c.args.self.now x) c.args.observer.number) long h.marked
          (flows_is _ _ _ _ c.loop-x.x _ c.args.observer.number c.flows.result (c.lattice-order.ensures ∙ ap (λ z. z.order) c.program-program.ensures.program)
          c.labels-labels.ensures c.variable.ensures c.flows.ensures);
      kept = λ x l. get_or-set_other c.loop-x.seen c.loop-x.x x c.flows.result true (λ q. absurd (omega (arith, l, q))) ∙ h.kept x (omega (arith, l));
    }

pub returns-clause-variables : goal.returns-clause-variables
returns-clause-variables c = λ x l.
    let h = c.loop-x.invariant in h.marked x (omega (
      arith,
      l,
      c.variables-x-end.ensures.value,
      ap (λ z. variables z.declarations) c.program-program.ensures.program,
    ))

pub returns-clause-others : goal.returns-clause-others
returns-clause-others c = λ x l.
    let h = c.loop-x.invariant in h.kept x (omega (
      arith,
      l,
      c.variables-x-end.ensures.value,
      ap (λ z. variables z.declarations) c.program-program.ensures.program,
    ))
