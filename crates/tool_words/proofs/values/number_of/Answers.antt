use Rattle.std.proofs.Common.{◌∙◌, sym, ◌<◌, ◌^◌}
use Rattle.tool_words.proofs.NumberLemmas.{refused}
use Rattle.tool_words.proofs.values.number_of.Goals as goal

pub returns-in_default-3-clause-value : goal.returns-in_default-3-clause-value
returns-in_default-3-clause-value c =
    let bound : c.args.most < 2 ^ 64 = c.ranges.most.fits in
    refused c.args.least c.args.most c.args.text.now c.parse.result c.in_default.field-0 c.in_default.is
    (sym c.is_digits.ensures ∙ c.if-not-is_digits.false) (sym c.is_empty.ensures ∙ c.if-is_empty.false) bound c.parse.ensures.value.0
