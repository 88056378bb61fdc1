use Rattle.std.proofs.Common.{◌≡◌, ◌<◌, ◌≤◌, ◌+◌, map, length, drop, refl, subst, arith}
use Rattle.std.specs.Prelude.{Result, Ok, Err, IfErr}
use Rattle.std.specs.Result.{IsErrAnd}
use Rattle.std.proofs.Common.{sym}
use Rattle.leak_audit.specs.declared.survey.SurveyFault.{SurveyFault}
use Rattle.env_contract.specs.Env.{Env}
use Rattle.start_file.specs.Starts.{seen, IsFor}
use Rattle.leak_audit.specs.Agreement.{start_of, starts_of}
use Rattle.leak_audit.proofs.Agreeing.{starts-from, All-seen}
use Rattle.open_audit.proofs.Keeping.{none_kept, refuses, one_kept, kinds_below}
use Rattle.open_audit.proofs.runs.keep_runs.Goals as goal

-- what is handed on is the fault itself
same_fault : {T : Type 0} (r : Result T SurveyFault) (e : SurveyFault) (P : SurveyFault → Type 0) → IsErrAnd r (λ x. x ≡ e) → P e → IfErr r P
same_fault (Ok x) e P h k = tt
same_fault (Err x) e P h k = subst P (sym h) k

pub seen_variables-shown-requires : goal.seen_variables-shown-requires
seen_variables-shown-requires g c =
    let few = c.laws.ensures.shaped.1.variables in
    subst (λ z. z.variables ≤ 3072) c.requires.image few

pub loop-i-init : goal.loop-i-init
loop-i-init g c =
    let v : Env g.row.E.Denot = g.E.MachineEnv.env in
    let ss = starts_of (g.M.MakeEnv.made c.args.make.now) c.args.p.now.program.order (map seen c.args.starts.now) in
    let none = c.in_ok-kept.ensures in
    none_kept v c.args.p.now c.args.label.number c.args.limit ss 1 c.in_ok-kept.kept refl none.0 none.1

pub observe_start-requires-clause-start : goal.observe_start-requires-clause-start
observe_start-requires-clause-start g c =
    let lt : c.loop-i.i < length c.args.starts.now = omega arith in
    All-seen (IsFor c.args.p.now.program) c.args.starts.now c.loop-i.i c.index-starts-i.result c.requires.starts lt c.index-starts-i.is

pub returns-in_err-take-clause-fault : goal.returns-in_err-take-clause-fault
returns-in_err-take-clause-fault g c =
    let v : Env g.row.E.Denot = g.E.MachineEnv.env in
    let ss = starts_of (g.M.MakeEnv.made c.args.make.now) c.args.p.now.program.order (map seen c.args.starts.now) in
    let lt : c.loop-i.i < length c.args.starts.now = omega arith in
    let from = starts-from (g.M.MakeEnv.made c.args.make.now) c.args.p.now.program.order c.args.starts.now c.loop-i.i c.index-starts-i.result lt
    c.index-starts-i.is in
    same_fault c.from_residual-in_err-take.result c.in_err-take.field-0.0 _ c.from_residual-in_err-take.ensures.1
    (refuses v c.args.p.now c.args.label.number c.args.limit ss
    (start_of (g.M.MakeEnv.made c.args.make.now) c.args.p.now.program.order (seen c.index-starts-i.result)) (drop c.loop-i.i ss) (drop (c.loop-i.i + 1) ss)
    (c.loop-i.i + 1) c.loop-i.kept from c.loop-i.invariant c.in_ok-seen.seen _ c.in_ok-seen.ensures c.in_err-take.field-0.0 c.in_err-take.ensures.refuses)

pub loop-i-preserved : goal.loop-i-preserved
loop-i-preserved g c =
    let v : Env g.row.E.Denot = g.E.MachineEnv.env in
    let ss = starts_of (g.M.MakeEnv.made c.args.make.now) c.args.p.now.program.order (map seen c.args.starts.now) in
    let lt : c.loop-i.i < length c.args.starts.now = omega arith in
    let from = starts-from (g.M.MakeEnv.made c.args.make.now) c.args.p.now.program.order c.args.starts.now c.loop-i.i c.index-starts-i.result lt
    c.index-starts-i.is in
    one_kept v c.args.p.now c.args.label.number c.args.limit ss
    (start_of (g.M.MakeEnv.made c.args.make.now) c.args.p.now.program.order (seen c.index-starts-i.result)) (drop c.loop-i.i ss) (drop (c.loop-i.i + 1) ss)
    (c.loop-i.i + 1) c.loop-i.kept from c.loop-i.invariant c.in_ok-seen.seen _ c.in_ok-seen.ensures (c.loop-i.i + 1 + 1) c.take.new.self refl
    c.in_ok-take.ensures.takes

pub take-requires-clause-kinds : goal.take-requires-clause-kinds
take-requires-clause-kinds g c =
    let v : Env g.row.E.Denot = g.E.MachineEnv.env in
    let ss = starts_of (g.M.MakeEnv.made c.args.make.now) c.args.p.now.program.order (map seen c.args.starts.now) in
    let below = kinds_below v c.args.p.now c.args.label.number c.args.limit ss (drop c.loop-i.i ss) (c.loop-i.i + 1) c.loop-i.kept c.loop-i.invariant in
    omega (arith, below)
