use Rattle.std.proofs.Common.{ap, arith}
use Rattle.mit_syntax.specs.Expression.{expression_of}
use Rattle.code_lower.specs.Layout.{expr_size}
use Rattle.code_lower.proofs.Extents.{expr_operands_within}
use Rattle.code_lower.proofs.size.+expr_extent.Goals as goal

pub above_operand-requires : goal.above_operand-requires
above_operand-requires t c =
    let q = expr_operands_within (expression_of c.deref-in-Binary.result.now) in
    let a = c.expr_extent-in-Binary.ensures.operands in
    let v = ap (λ z. expr_size (expression_of z)) c.deref-in-Binary.ensures in
    let s = ap (λ z. expr_size (expression_of z)) c.in-Binary.is in
    let r = c.requires in
    omega arith
