use Rattle.std.proofs.Common.{◌≡◌, ◌-◌, ◌∷◌, ◌++◌, [], sym, ap, ◌∙◌, subst, arith, vec_len, map, List, ℕ, Vec, slice_set, length, suc, ◌<◌, rules}
use Rattle.std.specs.declared.alloc.Global.{Global}
use Rattle.std.proofs.lemmas.List.{map-append}
use Rattle.black_box.specs.Files.{lists, Takes}
use Rattle.black_box.proofs.FileLemmas.{takes_run, takes_event}
use Rattle.black_box.proofs.ready.take_line.Goals as goal

pub returns-in_ok-push-in-Run-clause-taken : goal.returns-in_ok-push-in-Run-clause-taken
returns-in_ok-push-in-Run-clause-taken c =
    let f : Vec ℕ Global → List ℕ = λ x. x.items in
    let e : lists c.push.new.self ≡ lists c.args.runs.now ++ [] ∷ [] =
    ap (map f) c.in_ok-push-in-Run.ensures.items ∙ map-append f c.args.runs.now.items (c.new.result ∷ [])
    ∙ ap (λ z. lists c.args.runs.now ++ z ∷ []) c.new.ensures.items in
    subst (λ z. Takes z (lists c.args.runs.now) (lists c.push.new.self)) (sym c.in-Run.is) (takes_run (lists c.args.runs.now) (lists c.push.new.self) e)

last_place : (c : goal.In_ok-push-in-Some) → length c.args.runs.now.items ≡ suc (vec_len c.args.runs.now - 1)
last_place c =
    let some : 0 < vec_len c.args.runs.now = search rules in
    let long = c.args.runs.now.ok.0 in
    omega (arith, some, long)

pub returns-in_ok-push-in-Some-clause-taken : goal.returns-in_ok-push-in-Some-clause-taken
returns-in_ok-push-in-Some-clause-taken c =
    subst (λ z. Takes z (lists c.args.runs.now)
    (map (λ (x : Vec ℕ Global). x.items) (slice_set c.args.runs.now.items (vec_len c.args.runs.now - 1) c.push-in-Some.new.self))) (sym c.in-Ready.is)
    (takes_event c.args.runs.now.items (vec_len c.args.runs.now - 1) c.in-Ready.cycle c.in-Some.run'.now c.push-in-Some.new.self (last_place c)
    c.in-Some.ensures.value c.in_ok-push-in-Some.ensures.items)
