use Rattle.std.proofs.Common.{rules, ◌≡◌, ap, ◌∙◌, subst}
use Rattle.std.specs.List.{each_same}
use Rattle.env_contract.specs.Env.{Env}
use Rattle.label_code.specs.Run.{Start}
use Rattle.start_file.specs.Starts.{seen}
use Rattle.leak_audit.specs.Agreement.{start_of}
use Rattle.leak_audit.specs.Observed.{IsObserved}
use Rattle.leak_audit.proofs.Running.{rest_start}
use Rattle.open_audit.proofs.runs.observe_start.Goals as goal

pub returns : goal.returns
returns g c =
    let v : Env g.row.E.Denot = g.E.MachineEnv.env in
    let s : Start g.row.E.Denot = start_of (g.M.MakeEnv.made c.args.make.now) c.args.p.now.program.order (seen c.args.start.now) in
    let at : Start g.row.E.Denot = record { memory = c.in_ok-memory.memory.items; env = c.in_ok-env.env } in
    let memory : c.in_ok-memory.memory.items ≡ c.args.start.now.memory.items =
    each_same c.args.start.now.memory.items c.in_ok-memory.memory.items c.in_ok-memory.ensures.cases.0 in
    let lattice : c.shared_lattice.result.now.value ≡ c.args.p.now.program.order = c.shared_lattice.ensures ∙ ap (λ i. i.order) c.requires.image in
    let env : c.in_ok-env.env ≡ g.M.MakeEnv.made c.args.make.now c.args.p.now.program.order c.args.start.now.touches.items =
    c.in_ok-env.ensures.value ∙ (ap (λ z. g.M.MakeEnv.made c.args.make.now z c.as_slice.result.now) lattice
    ∙ ap (g.M.MakeEnv.made c.args.make.now c.args.p.now.program.order) c.as_slice.ensures.value) in
    let is : at ≡ s = cc in
    subst (λ z. IsObserved c.args.p.now c.args.observer.now.label.number c.args.observer.now.relevant.now c.args.observer.now.room c.args.limit z
    c.in_ok-seen.seen)
    (rest_start v c.args.limit c.args.p.now c.in_ok-machine.machine c.in_ok-memory.memory.items c.in_ok-env.env s c.in_ok-machine.ensures.going
    (search rules) c.in_ok-machine.ensures.start is) c.in_ok-seen.ensures
