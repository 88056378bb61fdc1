use Rattle.std.proofs.Common.{rules, ◌≡◌, ap, ◌∙◌, arith, sym, refl, ◌+◌, to_z, of_z, w64}
use Rattle.std.proofs.lemmas.Int.{to_z-of_z}
use Rattle.first_replay.specs.Replay.{Assigned, estimate_by}
use Rattle.run_entries.specs.Entries.{what_of}
use Rattle.run_entries.specs.Views.{timed_of, numbers_of}
use Rattle.run_entries.proofs.Going.{after_later, went_for}
use Rattle.run_entries.proofs.replay.Replay.step.Goals as goal

pub returns-in_default : goal.returns-in_default
returns-in_default c =
    let h = after_later (numbers_of c.args.numbers.now) (what_of c.args.entry.now.deed) (c.args.self.now.clock + c.args.entry.now.cost)
    (timed_of c.args.self.now) in
    omega (arith, h, c.in_default.ensures)

pub returns-in-Nothing : goal.returns-in-Nothing
returns-in-Nothing c =
    went_for _ _ _ _ _ _ _ _ _ (ap what_of c.in-Nothing.is) (c.in-Some.ensures).0
    (c.wait.ensures.nothing (numbers_of c.args.numbers.now) c.args.marked.now c.args.limit refl (c.in-Some.ensures).1)

pub returns-in-Pushed : goal.returns-in-Pushed
returns-in-Pushed c =
    went_for _ _ _ _ _ _ _ _ _ (ap what_of c.in-Pushed.is) (c.in-Some.ensures).0
    (c.wait-in-Pushed.ensures.pushed (numbers_of c.args.numbers.now) c.args.marked.now c.args.limit c.in-Pushed.place refl (c.in-Some.ensures).1)

pub returns-in_ok-assign-in-Assigned : goal.returns-in_ok-assign-in-Assigned
returns-in_ok-assign-in-Assigned c =
    went_for _ _ _ _ _ _ _ _ _
    (ap what_of c.in-Assigned.is ∙ ap (λ z. Assigned c.in-Assigned.variable z) (sym (search (rules, to_z-of_z)))) (c.in-Some.ensures).0
    (c.in_ok-assign-in-Assigned.ensures (numbers_of c.args.numbers.now) c.args.marked.now c.args.limit (c.in-Some.ensures).1)

pub returns-in_ok-open-in-Opens : goal.returns-in_ok-open-in-Opens
returns-in_ok-open-in-Opens c =
    let one : to_z w64 (of_z w64 c.in-Opens.opening.estimate) ≡ c.in-Opens.opening.estimate = search (rules, to_z-of_z) in
    let two : to_z w64 (of_z w64 c.estimate-estimate.result) ≡ c.estimate-estimate.result = search (rules, to_z-of_z) in
    went_for _ _ _ _ _ _ _ _ _ (ap what_of c.in-Opens.is) (c.in-Some.ensures).0
    (c.in_ok-open-in-Opens.ensures c.args.limit (c.in-Some.ensures).1 (numbers_of c.args.numbers.now) c.args.marked.now
    (ap (λ z. estimate_by (numbers_of c.args.numbers.now) z c.args.self.now.pushed) (sym one) ∙ (sym c.estimate-estimate.ensures ∙ sym two)))
