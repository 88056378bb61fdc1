use Rattle.std.proofs.Common.{rules, cond, ◌≡◌, ◌<◌, ◌++◌, [], ◌∷◌, length, refl, sym, ap, ◌∙◌, arith, to_z, of_z, w64}
use Rattle.std.proofs.lemmas.Int.{to_z-of_z}
use Rattle.std.proofs.lemmas.List.{length-set}
use Rattle.run_entries.specs.Told.{is_marked}
use Rattle.run_entries.proofs.Going.{close_went, close_late, close_none}
use Rattle.run_entries.proofs.replay.Replay.close.Goals as goal

pub returns-in_default : goal.returns-in_default
returns-in_default c numbers =
    close_none numbers c.args.marked.now c.args.clock c.args.limit _ c.args.self.now _ c.in_default.ensures.cases.0 c.in_default.ensures.rest
    c.in_default.ensures.items
    refl refl refl refl refl refl c.requires.within

pub returns-then-end-limit : goal.returns-then-end-limit
returns-then-end-limit c numbers =
    let n : to_z w64 (of_z w64 c.in-Some.open.estimate) ≡ c.in-Some.open.estimate = search (rules, to_z-of_z) in
    let same : length c.settle-prediction.new.self ≡ length c.args.self.now.misses =
    ap length c.settle-prediction.ensures.counts ∙ length-set c.args.self.now.misses c.in-Some.open.level.number _ in
    let l : c.in-Some.open.level.number < length c.args.self.now.misses =
    omega (arith, same, c.settle-prediction.ensures.labels, c.in-Some.open.known) in
    close_late numbers c.args.clock c.args.limit c.args.self.now c.pop.new.self.items c.in-Some.open _ c.saturating_sub-elapsed.result
    c.settle-prediction.result c.settle-prediction.new.self (c.in-Some.ensures).items l n c.saturating_sub-elapsed.ensures
    c.settle-prediction.ensures.counts c.settle-prediction.ensures.value c.if-end-limit.true

pub returns : goal.returns
returns c numbers =
    let n : to_z w64 (of_z w64 c.in-Some.open.estimate) ≡ c.in-Some.open.estimate = search (rules, to_z-of_z) in
    let same : length c.settle-prediction.new.self ≡ length c.args.self.now.misses =
    ap length c.settle-prediction.ensures.counts ∙ length-set c.args.self.now.misses c.in-Some.open.level.number _ in
    let l : c.in-Some.open.level.number < length c.args.self.now.misses =
    omega (arith, same, c.settle-prediction.ensures.labels, c.in-Some.open.known) in
    close_went numbers c.args.marked.now c.args.clock c.args.limit c.args.self.now _ c.pop.new.self.items c.in-Some.open _ c.saturating_sub-elapsed.result
    c.settle-prediction.result (c.in-Some.ensures).items l n c.saturating_sub-elapsed.ensures
    c.settle-prediction.ensures.counts c.settle-prediction.ensures.value refl refl c.in_ok-push.ensures.items
    (c.in_ok-push-2.ensures.items ∙ ap (λ z. c.args.self.now.counts.items ++ z ∷ []) c.misses-count.ensures.value)
    (c.in_ok-put_if.ensures ∙ (ap (λ z. c.args.self.now.shown.items ++ cond z (c.misses-count.result ∷ []) []) c.is_marked.ensures
    ∙ ap (λ z. c.args.self.now.shown.items ++ cond (is_marked c.args.marked.now c.in-Some.open.mark) (z ∷ []) []) c.misses-count.ensures.value)) refl
    (omega (arith, c.if-end-limit.false))
