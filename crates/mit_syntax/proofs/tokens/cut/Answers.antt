use Rattle.std.proofs.lemmas.Result.{err_from_is_err_and}
use Rattle.mit_syntax.proofs.LexPieces.{one_more, next_none, next_some, the_end, a_fault}
use Rattle.mit_syntax.proofs.tokens.cut.Goals as goal

pub returns-in_err-token : goal.returns-in_err-token
returns-in_err-token c =
    let p = err_from_is_err_and c.from_residual.result c.from_residual.ensures.1 in
    rw (p.1, p.2) (a_fault c.args.text.now c.loop-lexer.lexer c.loop-lexer.list.items c.requires.utf8 c.loop-lexer.invariant _ c.in_err-token.ensures)

pub loop-lexer-preserved-in-Continue-branch-3 : goal.loop-lexer-preserved-in-Continue-branch-3
loop-lexer-preserved-in-Continue-branch-3 c =
    one_more _ c.loop-lexer.lexer _ c.loop-lexer.list.items _ _ c.loop-lexer.invariant c.in_ok-token.ensures
    (rw c.in-Some.is (next_some c.loop-lexer.list.items c.push.new.self.items c.in-Some.token c.in_ok-push.ensures.items))

pub loop-lexer-preserved : goal.loop-lexer-preserved
loop-lexer-preserved c =
    one_more _ c.loop-lexer.lexer _ c.loop-lexer.list.items _ _ c.loop-lexer.invariant c.in_ok-token.ensures
    (rw c.in_default.is (next_none c.loop-lexer.list.items))

pub returns : goal.returns
returns c =
    the_end c.args.text.now c.loop-lexer.lexer c.loop-lexer.list.items _ c.requires.utf8 c.loop-lexer.invariant c.loop-lexer-test.ensures
    (rw c.end.ensures at c.in_ok-push-2.ensures.items)
