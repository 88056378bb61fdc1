use Rattle.std.proofs.Common.{◌≡◌, ◌<◌, ◌≤◌, ℕ, Bool, false, length, rules}
use Rattle.std.specs.Prelude.{MatchBool}
use Rattle.std.proofs.lemmas.Bool.{MatchBool-at_false}
use Rattle.label_lattice.specs.Order.{row, most_labels}
use Rattle.label_lattice.proofs.Chained.{below_more}
use Rattle.label_lattice.proofs.Built.{chained_no_cycle, chained_one_lowest, chained_lowest, chained_no_join, lowest_there, sound, table_is, kept, built}
use Rattle.label_lattice.proofs.lattice.Lattice.build.Goals as goal

few : {b : Bool} {n : ℕ} → b ≡ false → MatchBool b (most_labels < n) (n ≤ most_labels) → n ≤ most_labels
few = MatchBool-at_false _ _

pub closure-flows-requires : goal.closure-flows-requires
closure-flows-requires c = below_more (length c.args.names.now) row c.args.pairs.now (few c.if-are_too_many.false c.are_too_many.ensures) c.requires.pairs

pub returns-in-Some-first_pair-clause-fault : goal.returns-in-Some-first_pair-clause-fault
returns-in-Some-first_pair-clause-fault c = (
  few c.if-are_too_many.false c.are_too_many.ensures,
  chained_no_cycle (length c.args.names.now) (few c.if-are_too_many.false c.are_too_many.ensures) c.args.pairs.now c.closure-flows.result
      c.closure-flows.ensures c.in_default.ensures,
  chained_lowest (length c.args.names.now) (few c.if-are_too_many.false c.are_too_many.ensures) c.args.pairs.now c.closure-flows.result c.closure-flows.ensures
      c.in-Some-first_pair.a.number c.in-Some-first_pair.b.number c.in-Some-first_pair.ensures,
)

pub returns-in-Some-first_pair-2-clause-fault : goal.returns-in-Some-first_pair-2-clause-fault
returns-in-Some-first_pair-2-clause-fault c = (
  few c.if-are_too_many.false c.are_too_many.ensures,
  chained_no_cycle (length c.args.names.now) (few c.if-are_too_many.false c.are_too_many.ensures) c.args.pairs.now c.closure-flows.result
      c.closure-flows.ensures c.in_default.ensures,
  chained_one_lowest (length c.args.names.now) (few c.if-are_too_many.false c.are_too_many.ensures) c.args.pairs.now c.closure-flows.result
      c.closure-flows.ensures c.in_default-first_pair.ensures,
  chained_no_join (length c.args.names.now) (few c.if-are_too_many.false c.are_too_many.ensures) c.args.pairs.now c.closure-flows.result c.closure-flows.ensures
      c.in-Some-first_pair-2.a.number c.in-Some-first_pair-2.b.number c.in-Some-first_pair-2.ensures,
)

pub unreachable-requires : goal.unreachable-requires
unreachable-requires c =
    lowest_there (length c.args.names.now) (few c.if-are_too_many.false c.are_too_many.ensures) c.args.pairs.now c.closure-flows.result c.closure-flows.ensures
    c.in_default.ensures c.in_default-first_pair.ensures c.in_default-first_pair-2.ensures c.requires.some c.in_default-lowest.ensures

pub invariant_of-result : goal.invariant_of-result
invariant_of-result c =
    kept c.args.names.now c.with_room.result c.closure-flows.result c.joins.result c.in-Some-lowest.bottom c.with_room.ensures c.requires.some
    (few c.if-are_too_many.false c.are_too_many.ensures) c.are_names.ensures c.requires.differ
    (table_is (length c.args.names.now) (few c.if-are_too_many.false c.are_too_many.ensures) c.args.pairs.now c.closure-flows.result c.closure-flows.ensures
    c.in_default.ensures c.in_default-first_pair.ensures c.in_default-first_pair-2.ensures c.joins.result c.joins.ensures c.in-Some-lowest.bottom
    c.in-Some-lowest.ensures.0 c.in-Some-lowest.ensures.1)
    c.args.pairs.now c.requires.pairs c.closure-flows.ensures c.joins.ensures (search rules, search rules)

pub returns-clause-built : goal.returns-clause-built
returns-clause-built c =
    built c.args.names.now c.with_room.result c.closure-flows.result c.joins.result c.in-Some-lowest.bottom c.with_room.ensures c.requires.some
    (few c.if-are_too_many.false c.are_too_many.ensures) c.are_names.ensures c.requires.differ
    (table_is (length c.args.names.now) (few c.if-are_too_many.false c.are_too_many.ensures) c.args.pairs.now c.closure-flows.result c.closure-flows.ensures
    c.in_default.ensures c.in_default-first_pair.ensures c.in_default-first_pair-2.ensures c.joins.result c.joins.ensures c.in-Some-lowest.bottom
    c.in-Some-lowest.ensures.0 c.in-Some-lowest.ensures.1)
    c.args.pairs.now c.requires.pairs c.closure-flows.ensures c.joins.ensures (search rules, search rules)
    (sound (length c.args.names.now) (few c.if-are_too_many.false c.are_too_many.ensures) c.args.pairs.now c.closure-flows.result c.closure-flows.ensures
    c.in_default.ensures c.in_default-first_pair.ensures c.in_default-first_pair-2.ensures)
