use Rattle.std.proofs.Common.{rules}
use Rattle.std.proofs.lemmas.List.Sorted.{IsPartitionPoint-from_clause}
use Rattle.flow_print.specs.Places.{is_after}
use Rattle.flow_print.proofs.Walked.{parted}
use Rattle.flow_print.proofs.places.Spelling.passed.Goals as goal

pub returns-then-self-clause-before : goal.returns-then-self-clause-before
returns-then-self-clause-before c =
    let tokens = c.args.self.now.tokens.now in
    (IsPartitionPoint-from_clause (λ t. is_after c.args.q t.pos) tokens _ c.partition_point.ensures.partitioned
    (parted c.args.q tokens (c.args.self.now.risen c.if-self.true)) (λ a r q k. search rules)).0
