use Rattle.std.proofs.Common.{rules, arith, ◌≡◌, ℕ, List, [], ◌∷◌, Bool, false, ℤ, refl, sym, ap, ◌∙◌, to_z, of_z, w64}
use Rattle.std.specs.Prelude.{All}
use Rattle.std.proofs.lemmas.List.Elements.{All-nil, All-cons}
use Rattle.std.proofs.lemmas.Int.{to_z-of_z}
use Rattle.env_contract.specs.Env.{Env}
use Rattle.label_code.specs.Machine.{Wrote}
use Rattle.cycle_machine.specs.Seen.{seen, with_log}
use Rattle.cycle_machine.specs.Turned.{IsHidden, is_shown_in}
use Rattle.cycle_machine.proofs.Quiet.{quiet_first, quiet_more, comes_next}
use Rattle.cycle_machine.proofs.run.run_stage.Goals as goal

-- one assignment that is not shown
one_hidden : (shown : List Bool) (x : ℕ) (n : ℤ) (t : ℕ) → is_shown_in shown x ≡ false → All (IsHidden shown) (Wrote x n t ∷ [])
one_hidden shown x n t e = All-cons (IsHidden shown) (Wrote x n t) [] e (All-nil (IsHidden shown))

pub stage-init : goal.stage-init
stage-init g c =
    let v : Env g.row.E.Denot = g.E.MachineEnv.env in (c.requires, quiet_first v c.args.image.now.instrs c.args.shown.now c.args.limit c.args.state.now)

pub stage-preserved-in-Went : goal.stage-preserved-in-Went
stage-preserved-in-Went g c =
    let v : Env g.row.E.Denot = g.E.MachineEnv.env in (
      c.in-Went.ensures.3,
      quiet_more v c.args.image.now.instrs c.args.shown.now c.args.limit c.args.state.now c.stage.state c.advance.new.state [] c.stage.invariant.1
          c.in-Went.ensures.0 (All-nil (IsHidden c.args.shown.now)) c.in-Went.ensures.1 c.in-Went.ensures.2,
    )

pub stage-preserved : goal.stage-preserved
stage-preserved g c =
    let v : Env g.row.E.Denot = g.E.MachineEnv.env in (
      c.in-Wrote.ensures.3,
      quiet_more v c.args.image.now.instrs c.args.shown.now c.args.limit c.args.state.now c.stage.state c.advance.new.state _
          c.stage.invariant.1 c.in-Wrote.ensures.0
          (one_hidden c.args.shown.now c.in-Wrote.variable c.in-Wrote.value c.advance.new.state.clock (sym c.is_shown.ensures ∙ c.if-is_shown.false))
          c.in-Wrote.ensures.1 c.in-Wrote.ensures.2,
    )

pub returns-then-is_shown : goal.returns-then-is_shown
returns-then-is_shown g c =
    let v : Env g.row.E.Denot = g.E.MachineEnv.env in
    let n : to_z w64 (of_z w64 c.in-Wrote.value) ≡ c.in-Wrote.value = search (rules, to_z-of_z) in (
      (
        comes_next v c.args.image.now.instrs c.args.shown.now c.args.limit c.args.state.now c.stage.state c.advance.new.state _ c.stage.invariant.1
            (c.in-Wrote.ensures.0 ∙ ap (λ z. with_log (Wrote c.in-Wrote.variable z c.advance.new.state.clock ∷ []) (seen c.advance.new.state)) (sym n))
            c.in-Wrote.ensures.1 c.in-Wrote.ensures.2,
        refl,
        sym c.is_shown.ensures ∙ c.if-is_shown.true,
      ),
      λ _. c.in-Wrote.ensures.3,
    )

pub returns-in-Began : goal.returns-in-Began
returns-in-Began g c =
    let v : Env g.row.E.Denot = g.E.MachineEnv.env in (
      (
        comes_next v c.args.image.now.instrs c.args.shown.now c.args.limit c.args.state.now c.stage.state c.advance.new.state _ c.stage.invariant.1
            c.in-Began.ensures.0 c.in-Began.ensures.1 c.in-Began.ensures.2,
        refl,
      ),
      λ _. c.in-Began.ensures.3,
    )

pub returns-in-Ended : goal.returns-in-Ended
returns-in-Ended g c =
    let v : Env g.row.E.Denot = g.E.MachineEnv.env in (
      (
        comes_next v c.args.image.now.instrs c.args.shown.now c.args.limit c.args.state.now c.stage.state c.advance.new.state _ c.stage.invariant.1
            c.in-Ended.ensures.0 c.in-Ended.ensures.1 c.in-Ended.ensures.2,
        refl,
      ),
      λ _. c.in-Ended.ensures.3,
    )

pub returns-in-Halted : goal.returns-in-Halted
returns-in-Halted g c =
    let v : Env g.row.E.Denot = g.E.MachineEnv.env in (
      (
        comes_next v c.args.image.now.instrs c.args.shown.now c.args.limit c.args.state.now c.stage.state c.advance.new.state _ c.stage.invariant.1
            c.in-Halted.ensures.0 c.in-Halted.ensures.1 c.in-Halted.ensures.2,
        refl,
      ),
      λ e. cc,
    )

pub returns : goal.returns
returns g c = record { quiet = c.stage.invariant.1; stands = c.stage.invariant.0; past = omega (arith, c.stage-test.false) }

pub returns-in-Late : goal.returns-in-Late
returns-in-Late g c = ((c.stage.state, c.stage.invariant.1, c.in-Late.ensures.0, c.in-Late.ensures.1), λ e. cc)
