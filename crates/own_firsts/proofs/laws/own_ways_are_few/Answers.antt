use Rattle.own_firsts.proofs.Counted.{own_is_enough, own_example}
use Rattle.own_firsts.proofs.Listed.{own_ways, are_own_ways}
use Rattle.own_firsts.proofs.laws.own_ways_are_few.Goals as goal

pub returns-clause-are : goal.returns-clause-are
returns-clause-are c = λ t firsts n counts. (own_ways t firsts n counts, are_own_ways t firsts n counts)

pub returns-clause-few : goal.returns-clause-few
returns-clause-few c = own_is_enough

pub returns-clause-example : goal.returns-clause-example
returns-clause-example c = own_example
