use Rattle.std.proofs.Common.{◌≡◌, sym, ap, ◌∙◌, length, to_z, of_z, w64, rules}
use Rattle.std.specs.Prelude.{true, false, slice_index_or}
use Rattle.std.proofs.lemmas.Bool.{ltb-true}
use Rattle.std.proofs.lemmas.Int.{to_z-of_z}
use Rattle.mit_syntax.specs.Expression.{expression_of}
use Rattle.doubling_schedule.specs.Doubling.{prediction}
use Rattle.timing_types.specs.Labelled.{levels_of}
use Rattle.source_meaning.specs.InRange.{IsIn}
use Rattle.level_counts.proofs.NoteLemmas.{in_table, begun_is}
use Rattle.level_counts.proofs.note.begun.Goals as goal

pub value-requires-clause-within : goal.value-requires-clause-within
value-requires-clause-within c =
    in_table (λ e. expression_of e.now) c.args.estimates.now c.in-Began.mark c.in-Some.estimate.now (IsIn (length c.args.memory.now)) c.requires.within
    (ltb-true c.in-Began.mark (length c.args.estimates.now) (sym c.in-Some.ensures.lookup.0)) c.in-Some.ensures.lookup.1

pub returns-clause-is : goal.returns-clause-is
returns-clause-is c =
    let n : to_z w64 (of_z w64 c.value.result) ≡ c.value.result = search (rules, to_z-of_z) in
    let marked : slice_index_or c.args.relevant.now c.in-Began.mark false ≡ true = search rules in
    begun_is (λ e. expression_of e.now) (λ k. slice_index_or c.args.relevant.now k false) (levels_of c.args.p.now) c.args.estimates.now c.in-Began.mark
    c.from.result c.in-Some.estimate.now c.args.walk c.args.memory.now c.first_prediction.result
    c.in-Began.is marked (ltb-true c.in-Began.mark (length c.args.estimates.now) (sym c.in-Some.ensures.lookup.0)) c.in-Some.ensures.lookup.1
    (c.from.ensures ∙ c.level.ensures.value) (c.first_prediction.ensures.value ∙ ap (λ z. prediction z 0) (n ∙ c.value.ensures))
