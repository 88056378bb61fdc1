use Rattle.std.proofs.Common.{rules, ◌∙◌, ◌∷◌, sym, ◌≡◌, arith, to_z, of_z, w64}
use Rattle.std.proofs.lemmas.Int.{to_z-of_z}
use Rattle.std.proofs.lemmas.Result.{err_from_is_err_and}
use Rattle.mit_syntax.specs.declared.token.Sign.TheVariants.{LeftSquare, LeftRound}
use Rattle.mit_syntax.specs.Chunks.{sign}
use Rattle.mit_parser.specs.Words.{word}
use Rattle.mit_parser.specs.Machine.{want, an_atom, an_index, a_term, factors, a_sum, addends, an_expr, comparison, after_index}
use Rattle.mit_parser.specs.Reads.{scope_of}
use Rattle.mit_parser.proofs.Rules.{within, shows_number, shows_sign}
use Rattle.mit_parser.proofs.Levels.{terms, sums, wholes, op_goes_on}
use Rattle.mit_parser.proofs.Atoms.{atom_number, atom_scalar, atom_element, after_name, atom_paren, at_index, index_whole, rule, past_op, at_op, op_passes}
use Rattle.mit_parser.proofs.Atoms.{level_first, level_next, level_last, at_comparison, expr_compare}
use Rattle.mit_parser.proofs.parser.Parser.+expression.Goals as goal

pub atom-returns-in_ok-advance-in-Number : goal.atom-returns-in_ok-advance-in-Number
atom-returns-in_ok-advance-in-Number t c =
    let same : to_z w64 (of_z w64 c.in-Number.n) ≡ c.in-Number.n = search (rules, to_z-of_z) in
    rw same (atom_number _ _ _ c.in-Number.n (shows_number _ c.in-Number.n c.in-Number.ensures) c.in_ok-advance-in-Number.ensures)

pub atom-returns-in_ok-sign-in-Sign-LeftRound : goal.atom-returns-in_ok-sign-in-Sign-LeftRound
atom-returns-in_ok-sign-in-Sign-LeftRound t c =
    atom_paren _ _ _ _ _ _ (shows_sign _ LeftRound (rw c.in-Sign-LeftRound.field-0-is at c.in-Sign-LeftRound.ensures)) c.in_ok-advance-in-Sign-LeftRound.ensures
    c.in_ok-inner-in-Sign-LeftRound.ensures c.in_ok-sign-in-Sign-LeftRound.ensures

pub named-returns-then-not-at_sign : goal.named-returns-then-not-at_sign
named-returns-then-not-at_sign t c =
    rw (c.note.ensures, c.scalar_use-fault.ensures.fault) (atom_scalar (scope_of c.args.names.now) c.args.self.now c.advance.new.self c.name_here-name.result
    c.pos-pos.result _ c.name_here-name.ensures c.pos-pos.ensures c.in_ok-advance.ensures
    (sym c.at_sign.ensures ∙ c.if-not-at_sign.true) c.scalar_use-fault.ensures.number)

pub named-returns-in_err-index : goal.named-returns-in_err-index
named-returns-in_err-index t c =
    let p = err_from_is_err_and c.from_residual-in_err-index.result c.from_residual-in_err-index.ensures.1 in
    rw (p.1, p.2) (within c.args.self.now c.note-2.new.self c.index.new.self an_atom an_index (λ s. s) _
    (λ s. rw c.note-2.ensures (after_name c.args.self.now c.advance.new.self _ c.name_here-name.ensures c.in_ok-advance.ensures s)) c.in_err-index.ensures)

pub named-returns : goal.named-returns
named-returns t c =
    atom_element (scope_of c.args.names.now) c.args.self.now c.advance.new.self _ c.name_here-name.result c.pos-pos.result c.array_use-fault.result.1 _
    c.name_here-name.ensures c.pos-pos.ensures c.in_ok-advance.ensures
    (rw c.in_ok-new.ensures.ok (rw (c.note-2.ensures, c.array_use-fault.ensures.fault) at c.in_ok-index.ensures)) c.array_use-fault.ensures.place

pub index-returns-in_err-sign : goal.index-returns-in_err-sign
index-returns-in_err-sign t c =
    let p = err_from_is_err_and c.from_residual.result c.from_residual.ensures.1 in
    rw (p.1, p.2) (within c.args.self.now c.args.self.now c.sign.new.self an_index (want (word (sign LeftSquare))) after_index _
    (at_index c.args.self.now c.requires.there) c.in_err-sign.ensures)

pub index-returns : goal.index-returns
index-returns t c = index_whole _ _ _ _ _ _ c.requires.there c.requires.counted c.in_ok-sign.ensures c.in_ok-inner.ensures c.in_ok-sign-2.ensures

pub term-returns-in_err-left : goal.term-returns-in_err-left
term-returns-in_err-left t c =
    let p = err_from_is_err_and c.from_residual.result c.from_residual.ensures.1 in
    rw (p.1, p.2) (within c.args.self.now c.args.self.now c.atom.new.self a_term an_atom (λ s. factors ∷ s) _
    (λ s. rule terms s c.args.self.now) c.in_err-left.ensures)

pub term-loop-op-init : goal.term-loop-op-init
term-loop-op-init t c = level_first terms 4 (omega arith) _ _ _ _ c.in_ok-left.ensures

pub term-advance-requires : goal.term-advance-requires
term-advance-requires t c = op_goes_on 3 _ c.in-Some.op c.in-Some.ensures

pub term-returns-in_err-advance : goal.term-returns-in_err-advance
term-returns-in_err-advance t c =
    let p = err_from_is_err_and c.from_residual-in_err-advance.result c.from_residual-in_err-advance.ensures.1 in
    rw (p.1, p.2) (op_passes terms _ _ _ _ _ c.in-Some.op _ c.loop-op.invariant c.in-Some.ensures c.in_err-advance.ensures)

pub term-atom-requires-in-Some : goal.term-atom-requires-in-Some
term-atom-requires-in-Some t c =
    let d = past_op 3 c.loop-op.self c.advance.new.self c.in-Some.op c.in-Some.ensures c.in_ok-advance.ensures in
    let r = c.loop-op.invariant.rises in
    (omega (arith, d, r), tt)

pub term-returns-in_err-right : goal.term-returns-in_err-right
term-returns-in_err-right t c =
    let p = err_from_is_err_and c.from_residual-in_err-right.result c.from_residual-in_err-right.ensures.1 in
    rw (p.1, p.2) (within c.args.self.now c.advance.new.self c.atom-in-Some.new.self a_term an_atom (λ s. factors ∷ s) _
    (λ s. c.loop-op.invariant.goes s ∙ at_op terms _ _ c.in-Some.op c.in-Some.ensures c.in_ok-advance.ensures s) c.in_err-right.ensures)

pub term-loop-op-preserved : goal.term-loop-op-preserved
term-loop-op-preserved t c =
    level_next terms (omega arith) _ _ c.loop-op.self _ _ c.in-Some.op _ _ (rw c.in_ok-new.ensures.ok c.loop-op.invariant)
    c.in-Some.ensures c.in_ok-advance.ensures
    (rw c.in_ok-new-2.ensures.ok c.in_ok-right.ensures)

pub term-returns : goal.term-returns
term-returns t c = level_last terms _ _ _ _ c.loop-op.invariant c.in_default.ensures

pub sum-returns-in_err-left : goal.sum-returns-in_err-left
sum-returns-in_err-left t c =
    let p = err_from_is_err_and c.from_residual.result c.from_residual.ensures.1 in
    rw (p.1, p.2) (within c.args.self.now c.args.self.now c.term.new.self a_sum a_term (λ s. addends ∷ s) _
    (λ s. rule sums s c.args.self.now) c.in_err-left.ensures)

pub sum-loop-op-init : goal.sum-loop-op-init
sum-loop-op-init t c = level_first sums 3 (omega arith) _ _ _ _ c.in_ok-left.ensures

pub sum-advance-requires : goal.sum-advance-requires
sum-advance-requires t c = op_goes_on 2 _ c.in-Some.op c.in-Some.ensures

pub sum-returns-in_err-advance : goal.sum-returns-in_err-advance
sum-returns-in_err-advance t c =
    let p = err_from_is_err_and c.from_residual-in_err-advance.result c.from_residual-in_err-advance.ensures.1 in
    rw (p.1, p.2) (op_passes sums _ _ _ _ _ c.in-Some.op _ c.loop-op.invariant c.in-Some.ensures c.in_err-advance.ensures)

pub sum-term-requires-in-Some : goal.sum-term-requires-in-Some
sum-term-requires-in-Some t c =
    let d = past_op 2 c.loop-op.self c.advance.new.self c.in-Some.op c.in-Some.ensures c.in_ok-advance.ensures in
    let r = c.loop-op.invariant.rises in
    (omega (arith, d, r), tt)

pub sum-returns-in_err-right : goal.sum-returns-in_err-right
sum-returns-in_err-right t c =
    let p = err_from_is_err_and c.from_residual-in_err-right.result c.from_residual-in_err-right.ensures.1 in
    rw (p.1, p.2) (within c.args.self.now c.advance.new.self c.term-in-Some.new.self a_sum a_term (λ s. addends ∷ s) _
    (λ s. c.loop-op.invariant.goes s ∙ at_op sums _ _ c.in-Some.op c.in-Some.ensures c.in_ok-advance.ensures s) c.in_err-right.ensures)

pub sum-loop-op-preserved : goal.sum-loop-op-preserved
sum-loop-op-preserved t c =
    level_next sums (omega arith) _ _ c.loop-op.self _ _ c.in-Some.op _ _ (rw c.in_ok-new.ensures.ok c.loop-op.invariant)
    c.in-Some.ensures c.in_ok-advance.ensures
    (rw c.in_ok-new-2.ensures.ok c.in_ok-right.ensures)

pub sum-returns : goal.sum-returns
sum-returns t c = level_last sums _ _ _ _ c.loop-op.invariant c.in_default.ensures

pub expr-returns-in_err-left : goal.expr-returns-in_err-left
expr-returns-in_err-left t c =
    let p = err_from_is_err_and c.from_residual.result c.from_residual.ensures.1 in
    rw (p.1, p.2) (within c.args.self.now c.args.self.now c.sum.new.self an_expr a_sum (λ s. comparison ∷ s) _
    (λ s. rule wholes s c.args.self.now) c.in_err-left.ensures)

pub expr-returns-in_default : goal.expr-returns-in_default
expr-returns-in_default t c = level_last wholes _ _ _ _ (level_first wholes 2 (omega arith) _ _ _ _ c.in_ok-left.ensures) c.in_default.ensures

pub expr-advance-requires : goal.expr-advance-requires
expr-advance-requires t c = op_goes_on 1 _ c.in-Some.op c.in-Some.ensures

pub expr-returns-in_err-advance : goal.expr-returns-in_err-advance
expr-returns-in_err-advance t c =
    let p = err_from_is_err_and c.from_residual-in_err-advance.result c.from_residual-in_err-advance.ensures.1 in
    rw (p.1, p.2) (op_passes wholes _ _ _ _ _ c.in-Some.op _ (level_first wholes 2 (omega arith) _ _ _ _ c.in_ok-left.ensures)
    c.in-Some.ensures c.in_err-advance.ensures)

pub expr-sum-requires-2 : goal.expr-sum-requires-2
expr-sum-requires-2 t c =
    let d = past_op 1 c.sum.new.self c.advance.new.self c.in-Some.op c.in-Some.ensures c.in_ok-advance.ensures in
    let r = c.in_ok-left.ensures.rises in
    (omega (arith, d, r), tt)

pub expr-returns-in_err-right : goal.expr-returns-in_err-right
expr-returns-in_err-right t c =
    let p = err_from_is_err_and c.from_residual-in_err-right.result c.from_residual-in_err-right.ensures.1 in
    rw (p.1, p.2) (within c.args.self.now c.advance.new.self c.sum-2.new.self an_expr a_sum (λ s. s) _
    (at_comparison _ _ _ _ _ c.in-Some.op c.in_ok-left.ensures c.in-Some.ensures c.in_ok-advance.ensures) c.in_err-right.ensures)

pub expr-returns : goal.expr-returns
expr-returns t c =
    expr_compare _ _ c.sum.new.self _ _ c.in-Some.op _ _ (rw c.in_ok-new.ensures.ok c.in_ok-left.ensures) c.in-Some.ensures
    c.in_ok-advance.ensures (rw c.in_ok-new-2.ensures.ok c.in_ok-right.ensures)
