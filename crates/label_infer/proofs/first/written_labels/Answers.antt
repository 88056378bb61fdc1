use Rattle.std.proofs.Common.{◌≡◌, ◌<◌, ◌≤◌, ◌+◌, ℕ, ap, ◌∙◌, List, [], ◌∷◌, ◌++◌, length, get_or, length-append, Option, ⊎_elim, arith}
use Rattle.std.proofs.lemmas.Bool.{cases_lt}
use Rattle.std.proofs.lemmas.List.{get_or_append_left, get_or_push}
use Rattle.label_lattice.specs.declared.label.Label.{Label}
use Rattle.mit_syntax.specs.Declarations.{Declaration, cell_at}
use Rattle.mit_syntax.proofs.Numbers.{first_bound, first_all}
use Rattle.label_infer.proofs.first.written_labels.Goals as goal

-- one label more
next : (ds : List Declaration) (old new : List (Option Label)) (v : Option Label) (x : ℕ) → new ≡ old ++ v ∷ [] → length old ≡ x → v ≡ (cell_at ds x).label →
    ((k : ℕ) (d : Option Label) → k < x → get_or old k d ≡ (cell_at ds k).label) →
    (length new ≡ x + 1) × ((k : ℕ) (d : Option Label) → k < x + 1 → get_or new k d ≡ (cell_at ds k).label)
next ds old new v x e fit is before =
    let len = length-append old (v ∷ []) in (
      omega (arith, ap length e, len, fit),
      λ k d h. ap (λ z. get_or z k d) e
          ∙ ⊎_elim
          (λ (i : k < x). get_or_append_left old (v ∷ []) d k (omega (arith, i, fit)) ∙ before k d i)
          (λ (i : x ≤ k).
          let same : x ≡ k = omega (arith, i, h) in
          get_or_push old v d k (fit ∙ same) ∙ is ∙ ap (λ z. (cell_at ds z).label) same)
          (cases_lt k x),
    )

pub loop-x-preserved : goal.loop-x-preserved
loop-x-preserved c =
    let n = next c.args.p.now.declarations c.loop-x.found.items c.push.new.self.items c.variable_label.result c.loop-x.x
    c.in_ok-push.ensures.items c.loop-x.invariant.fit c.variable_label.ensures c.loop-x.invariant.labels in
    record { fit = n.0; labels = n.1 }

pub returns-clause-few : goal.returns-clause-few
returns-clause-few c =
    let ds = c.args.p.now.declarations in
    let n = c.variables-x-end.ensures.value in
    let few = c.variables-x-end.ensures.valid.few in
    let count = few.count in
    let elements = few.elements in
    let b = first_bound ds (length ds) in
    let a = first_all ds in
    let fit = c.loop-x.invariant.fit in
    let end = c.loop-x.auto.x-end in
    omega (arith, n, count, elements, a, b, fit, end)
