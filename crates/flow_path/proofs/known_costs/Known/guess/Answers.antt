use Rattle.std.proofs.Common.{refl}
use Rattle.flow_path.proofs.Settling.{guessed}
use Rattle.flow_path.proofs.known_costs.Known.guess.Goals as goal

pub returns-then-may_be : goal.returns-then-may_be
returns-then-may_be c = λ t K.
    let q = c.may_be.ensures c.if-may_be.true in
    guessed c.args.p.now t c.args.self.now _ c.args.y c.args.cost q.1 q.0 q.2 q.3 refl refl K
