use Rattle.std.proofs.Common.{◌≡◌, ◌+◌, ◌<◌, List, ℕ, map, get_or, length, sym, ap, ◌∙◌, subst, arith, Bor}
use Rattle.std.proofs.lemmas.List.{get_or-map, length-map}
use Rattle.std.specs.List.{position_or_len}
use Rattle.indexmap.specs.IndexSet.{insert_key}
use Rattle.black_box.specs.declared.release.Releases.{Releases}
use Rattle.black_box.specs.Audits.{same_cycles, shown}
use Rattle.black_box.proofs.Gathered.{IsGathered, gather_more, map-insert_key, position-map, cycles_test}
use Rattle.black_box.proofs.class.classify.Goals as goal

pub loop-run-preserved : goal.loop-run-preserved
loop-run-preserved c =
    let now : Bor (List ℕ) → List ℕ = λ k. k.now in
    let at : Releases → List ℕ = λ r. r.at.items in
    let x = c.as_slice.result.now in
    let i = c.loop-run.run-index in
    let keys = map now c.loop-run.seen.keys in
    let inside : c.loop-run.run-index < length (shown c.args.runs.now) = omega (arith, length-map c.args.runs.now at, c.loop-run-test.true) in
    let here : c.as_slice.result.now ≡ get_or (shown c.args.runs.now) c.loop-run.run-index c.as_slice.result.now =
    c.as_slice.ensures.value ∙ ap at c.run-item.is ∙ sym (get_or-map at c.args.runs.now i c.run-item.result x c.loop-run-test.true) in
    let place : c.in_ok-place.place ≡ position_or_len (same_cycles c.as_slice.result.now) (map now c.loop-run.seen.keys) =
    c.in_ok-place.ensures.index ∙ position-map same_cycles cycles_test now x c.loop-run.seen.keys in
    let new_keys : map now c.insert_full.new.self.keys ≡ insert_key same_cycles (map now c.loop-run.seen.keys) c.as_slice.result.now =
    ap (map now) c.in_ok-place.ensures.keys ∙ map-insert_key same_cycles cycles_test now c.loop-run.seen.keys c.as_slice.result in
    let more = gather_more (shown c.args.runs.now) i keys c.loop-run.places.items x c.in_ok-place.place c.loop-run.invariant inside here place in
    subst (λ z. IsGathered (shown c.args.runs.now) (i + 1) z c.push.new.self.items) (sym new_keys)
    (subst (λ z. IsGathered (shown c.args.runs.now) (i + 1) (insert_key same_cycles keys x) z) (sym c.in_ok-push.ensures.items) more)
