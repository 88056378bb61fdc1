use Rattle.std.proofs.Common.{◌≡◌, arith, refl, ap, below_more, false}
use Rattle.part_cache.proofs.Laws.{differ_at, same_to_end}
use Rattle.part_cache.proofs.cache.PartCache.same_sets.Goals as goal

pub returns-then-not-same_set : goal.returns-then-not-same_set
returns-then-not-same_set c =
    let n : c.self.inside.sets ≡ c.args.self.now.sets = ap (λ v. v.sets) c.self.view_is in
    differ_at c.args.self.now c.args.other.now c.args.label.number c.loop-set.set c.same_set.result c.requires.sets (omega arith) c.same_set.ensures
    c.if-not-same_set.true false refl

pub loop-set-preserved : goal.loop-set-preserved
loop-set-preserved c = below_more _ _ c.loop-set.invariant (c.same_set.ensures.0 c.if-not-same_set.false)

pub returns : goal.returns
returns c =
    let n : c.self.inside.sets ≡ c.args.self.now.sets = ap (λ v. v.sets) c.self.view_is in
    (λ t. same_to_end c.args.self.now c.args.other.now c.args.label.number c.loop-set.set c.requires.sets (omega arith) c.loop-set.invariant, λ e. refl)
