use Rattle.std.proofs.Common.{◌≡◌, refl, sym, ap, ◌∙◌, subst, length, length-set, slice_set, arith, false}
use Rattle.std.specs.Vec.{with_item, with_items}
use Rattle.std.proofs.lemmas.List.{with_items_is}
use Rattle.label_lattice.specs.Order.{lattice_of}
use Rattle.timing_types.specs.Labelling.{label_at}
use Rattle.label_infer.specs.Work.{Takes}
use Rattle.label_infer.specs.Holds.{IsThere}
use Rattle.label_infer.proofs.Blocking.{blocks_same, blocks_raised}
use Rattle.label_infer.proofs.Taking.{work}
use Rattle.label_infer.proofs.Took.{took_variable, took_level, waits_length, labels_length}
use Rattle.label_infer.proofs.worklist.Worklist.step.Goals as goal

pub raise-requires-clause-blocks : goal.raise-requires-clause-blocks
raise-requires-clause-blocks g c =
    let v = c.self.inside in
    blocks_same v.conditions.items c.deref-in-Variable.result.now (slice_set v.waits.items c.in-Some.i false) c.deref_mut.result.now c.take.new.self
    c.deref-in-Variable.ensures.value c.deref_mut.ensures.value
    (c.take.ensures v.conditions.items v.waits.items c.self.invariant.in_blocks)

pub invariant_of-self : goal.invariant_of-self
invariant_of-self g c =
    let v = c.self.inside in
    let i = c.in-Some.i in
    let x = c.in-Variable.x in
    let t = (lattice_of v.order.now).flows c.value-have.result.number (label_at v.order.now.bottom v.variables x) in
    let lw : length c.raise.new.waits ≡ v.waits.len =
    waits_length t x c.deref-in-Variable.result.now c.deref_mut.result.now c.raise.new.waits c.raise.ensures.waits ∙ c.deref_mut.ensures.len in
    let items = with_items_is (with_item v.waits i false) c.raise.new.waits lw in
    let w : length c.raise.new.waits ≡ length v.waits.items =
    waits_length t x c.deref-in-Variable.result.now c.deref_mut.result.now c.raise.new.waits c.raise.ensures.waits ∙ ap length c.deref_mut.ensures.value
    ∙ length-set v.waits.items i false in
    let n : length c.raise.new.variables ≡ length v.variables = labels_length t x _ v.variables c.raise.new.variables c.raise.ensures.variables in
    let same = ap length items ∙ w in
    let q = c.in-Some.ensures.0 in
    let d = ap length c.deref.ensures.value in
    record {
      fit = same ∙ c.self.invariant.fit;
      in_blocks = blocks_raised x v.conditions.items c.deref-in-Variable.result.now (slice_set v.waits.items i false) c.deref_mut.result.now
          c.raise.new.waits _ c.take.new.self t
          (length-set v.waits.items i false ∙ c.self.invariant.fit) c.deref-in-Variable.ensures.value c.deref_mut.ensures.value c.raise.ensures.waits items
          (c.take.ensures v.conditions.items v.waits.items c.self.invariant.in_blocks);
      cursor = omega (arith, q, d, same);
      small = let s = c.self.invariant.small in omega (arith, n, s);
      targets = λ j d e. subst (λ z. IsThere z (length v.levels.items) d.target) (sym n) (c.self.invariant.targets j d e);
    }

pub invariant_of-self-in-Level : goal.invariant_of-self-in-Level
invariant_of-self-in-Level g c =
    let v = c.self.inside in
    let len0 : length c.lift.new.labels ≡ v.levels.len = ap length c.lift.ensures ∙ length-set c.deref_mut-in-Level.result.now c.in-Level.k _
    ∙ c.deref_mut-in-Level.ensures.len in
    let items = with_items_is v.levels c.lift.new.labels len0 in
    let len : length (with_items v.levels c.lift.new.labels).items ≡ length v.levels.items =
    ap length items ∙ ap length c.lift.ensures ∙ length-set c.deref_mut-in-Level.result.now c.in-Level.k _ ∙ ap length c.deref_mut-in-Level.ensures.value in
    let q = c.in-Some.ensures.0 in
    let d = ap length c.deref.ensures.value in
    record {
      fit = length-set v.waits.items c.in-Some.i _ ∙ c.self.invariant.fit;
      in_blocks = c.take.ensures v.conditions.items v.waits.items c.self.invariant.in_blocks;
      cursor = let s = length-set v.waits.items c.in-Some.i false in omega (arith, q, d, s);
      small = c.self.invariant.small;
      targets = λ i x e. subst (λ z. IsThere (length v.variables) z x.target) (sym len) (c.self.invariant.targets i x e);
    }

pub returns-in-Variable-clause-taken : goal.returns-in-Variable-clause-taken
returns-in-Variable-clause-taken g c =
    let v = c.self.inside in
    let i = c.in-Some.i in
    let x = c.in-Variable.x in
    let have = c.value-have.result.number in
    let V = v.variables in
    let t = (lattice_of v.order.now).flows have (label_at v.order.now.bottom V x) in
    let lw : length c.raise.new.waits ≡ v.waits.len =
    waits_length t x c.deref-in-Variable.result.now c.deref_mut.result.now c.raise.new.waits c.raise.ensures.waits ∙ c.deref_mut.ensures.len in
    let W = (with_items (with_item v.waits i false) c.raise.new.waits).items in
    let U = c.raise.new.variables in
    let ew = with_items_is (with_item v.waits i false) c.raise.new.waits lw ∙ c.raise.ensures.waits in
    let eu = c.raise.ensures.variables in
    λ _. (
      i,
      c.condition_at-condition.result.now,
      subst (λ z. Takes z (work v.order.now v.conditions.items W U v.levels.items) i c.condition_at-condition.result.now) c.self.view_is
          (took_variable v.order.now v.conditions.items v.waits.items v.variables v.levels.items i c.condition_at-condition.result.now have
          c.deref-2.result.now c.deref.result.now v.variables c.deref-2.ensures.value c.deref.ensures.value refl
          c.in-Some.ensures.1 c.condition_at-condition.ensures c.value-have.ensures
          x c.deref-in-Variable.result.now c.deref_mut.result.now W V U
          c.in-Variable.is c.deref-in-Variable.ensures.value c.deref_mut.ensures.value refl ew eu),
    )

pub returns-in-Level-clause-taken : goal.returns-in-Level-clause-taken
returns-in-Level-clause-taken g c =
    let v = c.self.inside in
    let i = c.in-Some.i in
    let L = c.deref_mut-in-Level.result.now in
    let len0 : length c.lift.new.labels ≡ v.levels.len = ap length c.lift.ensures ∙ length-set L c.in-Level.k _ ∙ c.deref_mut-in-Level.ensures.len in
    let U = (with_items v.levels c.lift.new.labels).items in
    let eu = with_items_is v.levels c.lift.new.labels len0 ∙ c.lift.ensures in
    λ _. (
      i,
      c.condition_at-condition.result.now,
      subst (λ z. Takes z (work v.order.now v.conditions.items (slice_set v.waits.items i false) v.variables U) i c.condition_at-condition.result.now)
          c.self.view_is
          (took_level v.order.now v.conditions.items v.waits.items v.variables v.levels.items i c.condition_at-condition.result.now c.value-have.result.number
          c.deref-2.result.now c.deref.result.now v.variables c.deref-2.ensures.value c.deref.ensures.value refl
          c.in-Some.ensures.1 c.condition_at-condition.ensures c.value-have.ensures
          c.in-Level.k L U c.in-Level.is c.deref_mut-in-Level.ensures.value eu),
    )
