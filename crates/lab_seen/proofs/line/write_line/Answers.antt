use Rattle.std.proofs.Common.{ℕ, List, ◌∙◌}
use Rattle.std.specs.Prelude.{Result, Ok, Err, OnErr, decimal}
use Rattle.env_contract.specs.Env.{Env}
use Rattle.cycle_machine.specs.Rest.{rest_of}
use Rattle.seen_line.specs.Field.{seen_text}
use Rattle.lab_seen.proofs.LineLemmas.{broke_head, broke_field, broke_end}
use Rattle.lab_seen.proofs.line.write_line.Goals as goal

on_err : {T E : Type 0} (r : Result T E) (P : Type 0) → P → OnErr r P
on_err (Ok x) P h = tt
on_err (Err e) P h = h

pub returns-in_err-write_all-clause-prefix : goal.returns-in_err-write_all-clause-prefix
returns-in_err-write_all-clause-prefix g c =
    let v : Env g.row.E.Denot = g.E.MachineEnv.env in
    let field : List ℕ = seen_text c.args.p.now c.args.observer (rest_of v c.args.limit c.args.machine.now) in
    on_err _ _ (broke_head c.bytes.result.now (decimal c.args.number) field (c.bytes.ensures ∙ c.head_line-head.ensures) (g.W.Sink.taken c.args.out.now)
    (g.W.Sink.taken c.write_all.new.out) c.in_err-write_all.ensures.prefix)

pub returns-in_err-write_seen-clause-prefix : goal.returns-in_err-write_seen-clause-prefix
returns-in_err-write_seen-clause-prefix g c =
    let v : Env g.row.E.Denot = g.E.MachineEnv.env in
    let field : List ℕ = seen_text c.args.p.now c.args.observer (rest_of v c.args.limit c.args.machine.now) in
    on_err _ _ (broke_field c.bytes.result.now (decimal c.args.number) field (c.bytes.ensures ∙ c.head_line-head.ensures) (g.W.Sink.taken c.args.out.now)
    (g.W.Sink.taken c.write_all.new.out) (g.W.Sink.taken c.write_seen.new.out)
    c.in_ok-write_all.ensures.ok c.in_err-write_seen.ensures.prefix)

pub returns-in_err-write_all-2-clause-prefix : goal.returns-in_err-write_all-2-clause-prefix
returns-in_err-write_all-2-clause-prefix g c =
    let v : Env g.row.E.Denot = g.E.MachineEnv.env in
    let field : List ℕ = seen_text c.args.p.now c.args.observer (rest_of v c.args.limit c.args.machine.now) in
    on_err _ _ (broke_end c.bytes.result.now (decimal c.args.number) field (c.bytes.ensures ∙ c.head_line-head.ensures) (g.W.Sink.taken c.args.out.now)
    (g.W.Sink.taken c.write_all.new.out) (g.W.Sink.taken c.write_seen.new.out) (g.W.Sink.taken c.write_all-2.new.out)
    c.in_ok-write_all.ensures.ok c.in_ok-write_seen.ensures.text c.in_err-write_all-2.ensures.prefix)
