use Rattle.std.proofs.Common.{rules, ◌≡◌, sym, ap, ◌∙◌, subst, length}
use Rattle.mit_syntax.specs.Declarations.{variables}
use Rattle.env_contract.specs.Env.{Env}
use Rattle.label_code.specs.Run.{Start}
use Rattle.space_starts.specs.Space.{seen, start_at}
use Rattle.leak_audit.specs.Agreement.{start_of}
use Rattle.leak_audit.specs.Observed.{IsObserved}
use Rattle.leak_audit.proofs.Running.{rest_start}
use Rattle.space_walk.proofs.Same.{start_long}
use Rattle.space_walk.proofs.walk.observe_at.Goals as goal

pub load-requires-clause-values : goal.load-requires-clause-values
load-requires-clause-values g c =
    let s = seen c.args.space.now in
    let long : length c.in_ok-memory.memory.items ≡ variables c.args.p.now.program.declarations =
    ap length c.in_ok-memory.ensures.memory ∙ start_long s c.args.number c.requires.number ∙ c.requires.space.memory in
    long ∙ sym (ap (λ i. i.variables) c.requires.image)

pub returns-clause-observes : goal.returns-clause-observes
returns-clause-observes g c =
    let v : Env g.row.E.Denot = g.E.MachineEnv.env in
    let s : Start g.row.E.Denot = start_of (g.M.MakeEnv.made c.args.make.now) c.args.p.now.program.order (start_at (seen c.args.space.now) c.args.number) in
    let at : Start g.row.E.Denot = record { memory = c.in_ok-memory.memory.items; env = c.in_ok-env.env } in
    let memory : c.in_ok-memory.memory.items ≡ (start_at (seen c.args.space.now) c.args.number).memory = c.in_ok-memory.ensures.memory in
    let lattice : c.shared_lattice.result.now.value ≡ c.args.p.now.program.order = c.shared_lattice.ensures ∙ ap (λ i. i.order) c.requires.image in
    let env : c.in_ok-env.env ≡ (g.M.MakeEnv.made c.args.make.now) c.args.p.now.program.order c.args.space.now.touches.items =
    c.in_ok-env.ensures.value ∙ (ap (λ z. (g.M.MakeEnv.made c.args.make.now) z c.as_slice.result.now) lattice
    ∙ ap ((g.M.MakeEnv.made c.args.make.now) c.args.p.now.program.order) c.as_slice.ensures.value) in
    let is : at ≡ s = cc in
    subst (λ z. IsObserved c.args.p.now c.args.observer.now.label.number c.args.observer.now.relevant.now c.args.observer.now.room c.args.limit z
    c.in_ok-seen.seen)
    (rest_start v c.args.limit c.args.p.now c.in_ok-machine.machine c.in_ok-memory.memory.items c.in_ok-env.env s c.in_ok-machine.ensures.going
    (search rules) c.in_ok-machine.ensures.start is) c.in_ok-seen.ensures
