use Rattle.std.proofs.Common.{rules, ◌<◌, length}
use Rattle.flow_path.proofs.Settling.{few_at}
use Rattle.flow_path.proofs.known_costs.Known.cost_to.Goals as goal

pub returns-then-y-len-clause-few : goal.returns-then-y-len-clause-few
returns-then-y-len-clause-few c =
    let within : c.in-Variable.y < length c.args.self.now.variables.items = search rules in
    few_at c.args.p.now c.args.target.now c.args.self.now c.requires c.in-Variable.y c.index.result.now within c.index.ensures
