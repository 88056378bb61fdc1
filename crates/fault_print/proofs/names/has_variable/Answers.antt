use Rattle.fault_print.proofs.NameSteps.{nothing, variable_at, variable_on}
use Rattle.fault_print.proofs.names.has_variable.Goals as goal

pub returns-then-is_named : goal.returns-then-is_named
returns-then-is_named c =
    variable_at c.args.text.now c.args.tokens.now c.loop-i.i nothing c.loop-i-test.true c.args.word.now c.loop-i.declared c.is_named.result _
    c.word_at.result.now c.word_at.ensures c.is_named.ensures c.if-is_named.true c.loop-i.invariant

pub loop-i-preserved : goal.loop-i-preserved
loop-i-preserved c =
    variable_on c.args.text.now c.args.tokens.now c.loop-i.i _ c.loop-i-test.true c.args.word.now c.loop-i.declared c.is_key-declared.result
    c.is_named.result _ c.sort_in.result c.word_at.result.now
    c.word_at.ensures c.is_named.ensures c.if-is_named.false c.sort_in.ensures c.is_key-declared.ensures c.loop-i.invariant
