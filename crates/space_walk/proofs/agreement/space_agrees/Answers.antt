use Rattle.std.proofs.Common.{rules, ◌≡◌, ◌∙◌, ap, subst}
use Rattle.space_starts.specs.Space.{lists, seen}
use Rattle.space_walk.specs.Agreeing.{NoneRanges}
use Rattle.space_walk.proofs.Same.{all_agree}
use Rattle.space_walk.proofs.agreement.space_agrees.Goals as goal

pub returns : goal.returns
returns g c =
    let p = c.args.p.now in
    let o = c.args.observer.number in
    let touches = c.args.space.now.touches.items in
    let lattice : c.shared_lattice-lattice.result.now.value ≡ p.program.order = search rules in
    let env : c.in_ok-_made._made ≡ (g.M.MakeEnv.made c.args.make.now) p.program.order touches =
    c.in_ok-_made.ensures.value ∙ (ap (λ z. (g.M.MakeEnv.made c.args.make.now) z c.as_slice-2.result.now) lattice
    ∙ ap ((g.M.MakeEnv.made c.args.make.now) p.program.order) c.as_slice-2.ensures.value) in
    let at = subst (λ z. g.E.MachineEnv.serves z c.in_ok-_made._made) lattice c.in_ok-_made.ensures.serves in
    let served = subst (g.E.MachineEnv.serves p.program.order) env at in
    let none = subst (λ z. NoneRanges p o z) (ap lists c.as_slice.ensures.value) c.in_default.ensures in
    all_agree g.E.MachineEnv.env g.E.MachineEnv.serves (g.M.MakeEnv.made c.args.make.now) p o (seen c.args.space.now) served none
