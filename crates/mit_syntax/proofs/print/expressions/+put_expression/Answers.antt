use Rattle.std.proofs.Common.{ap, subst}
use Rattle.mit_syntax.specs.Expression.{Expression, expression_of}
use Rattle.mit_syntax.specs.Valid.{IsKnown}
use Rattle.mit_syntax.proofs.Putting.{puts_binary, puts_element}
use Rattle.mit_syntax.proofs.Facts.{scalar_below, array_first_below}
use Rattle.mit_syntax.proofs.print.expressions.+put_expression.Goals as goal

pub name-requires : goal.name-requires
name-requires t c =
    let k = subst (λ (e : Expression). IsKnown c.args.variables.now e) (ap expression_of c.in-Variable.is) c.requires.known in
    scalar_below c.args.variables.now k.0 c.in-Variable.x k.1

pub name-requires-in-Element : goal.name-requires-in-Element
name-requires-in-Element t c =
    let k = subst (λ (e : Expression). IsKnown c.args.variables.now e) (ap expression_of c.in-Element.is) c.requires.known in
    array_first_below c.args.variables.now k.0.0 c.in-Element.first c.in-Element.length k.0.1 c.requires.arrays

pub returns-in_ok-put_sign-in-Binary-2 : goal.returns-in_ok-put_sign-in-Binary-2
returns-in_ok-put_sign-in-Binary-2 t c =
    puts_binary c.args.variables.now c.args.need c.rank.result c.left_need.result c.right_need.result c.op_sign.result
    c.in-Binary.op (expression_of c.args.e.now)
    (expression_of c.in-Binary.left.value) (expression_of c.in-Binary.right.value) (expression_of c.deref.result.now)
    (expression_of c.deref-then-rank-need.result.now)
    (ap expression_of c.in-Binary.is) c.rank.ensures c.if-rank-need.true c.left_need.ensures c.op_sign.ensures c.right_need.ensures
    (ap expression_of c.deref.ensures) (ap expression_of c.deref-then-rank-need.ensures)
    c.in_ok-put_sign-in-Binary.ensures c.in_ok-put_expression-in-Binary.ensures c.in_ok-put_spaced-in-Binary.ensures c.in_ok-put_expression-in-Binary-2.ensures
    c.in_ok-put_sign-in-Binary-2.ensures

pub returns-in_ok-put_sign-in-Element-2 : goal.returns-in_ok-put_sign-in-Element-2
returns-in_ok-put_sign-in-Element-2 t c =
    puts_element c.args.variables.now c.args.need c.in-Element.first c.in-Element.length c.name-in-Element.result (expression_of c.args.e.now)
    (expression_of c.in-Element.index.value) (expression_of c.deref-in-Element.result.now)
    (ap expression_of c.in-Element.is) c.name-in-Element.ensures (ap expression_of c.deref-in-Element.ensures)
    c.in_ok-put_name-in-Element.ensures c.in_ok-put_sign-in-Element.ensures c.in_ok-put_expression-in-Element.ensures c.in_ok-put_sign-in-Element-2.ensures
