use Rattle.std.proofs.Common.{sym, ◌∙◌, ◌∷◌}
use Rattle.std.proofs.lemmas.Result.{err_from_is_err_and}
use Rattle.mit_syntax.specs.declared.token.Sign.TheVariants.{Assign}
use Rattle.mit_syntax.specs.Chunks.{sign}
use Rattle.mit_parser.specs.Words.{word}
use Rattle.mit_parser.specs.Reads.{scope_of}
use Rattle.mit_parser.specs.Machine.{want, a_command, an_index, an_expr, marks}
use Rattle.mit_parser.proofs.Rules.{within}
use Rattle.mit_parser.proofs.Listed.{command_assign, command_put, after_scalar, after_target}
use Rattle.mit_parser.proofs.parser.Parser.assignment.Goals as goal

pub returns-in_err-sign : goal.returns-in_err-sign
returns-in_err-sign c =
    let p = err_from_is_err_and c.from_residual-in_err-sign.result c.from_residual-in_err-sign.ensures.1 in
    rw (p.1, p.2) (within c.args.self.now c.note.new.self c.sign.new.self a_command (want (word (sign Assign))) (λ s. an_expr ∷ marks ∷ s) _
    (λ s. rw c.note.ensures (after_scalar (scope_of c.args.names.now) c.args.self.now c.pos-pos.result c.pos-pos.ensures c.advance.new.self _
    c.name_here-name.ensures c.in_ok-advance.ensures (sym c.at_sign.ensures ∙ c.if-not-at_sign.true) s)) c.in_err-sign.ensures)

pub returns-then-not-at_sign : goal.returns-then-not-at_sign
returns-then-not-at_sign c =
    command_assign (scope_of c.args.names.now) c.args.self.now c.pos-pos.result c.pos-pos.ensures c.advance.new.self c.sign.new.self c.expr.new.self
    c.marks.new.self c.name_here-name.result _ _ c.in_ok-labels.labels
    c.name_here-name.ensures c.in_ok-advance.ensures (sym c.at_sign.ensures ∙ c.if-not-at_sign.true) c.scalar_use-fault.ensures.number
    (rw (c.note.ensures, c.scalar_use-fault.ensures.fault) at c.in_ok-sign.ensures) c.in_ok-value.ensures c.in_ok-labels.ensures

pub returns-in_err-index : goal.returns-in_err-index
returns-in_err-index c =
    let p = err_from_is_err_and c.from_residual-in_err-index.result c.from_residual-in_err-index.ensures.1 in
    rw (p.1, p.2) (within c.args.self.now c.note-2.new.self c.index.new.self a_command an_index (λ s. want (word (sign Assign)) ∷ an_expr ∷ marks ∷ s) _
    (λ s. rw c.note-2.ensures (after_target (scope_of c.args.names.now) c.args.self.now c.pos-pos.result c.pos-pos.ensures c.advance.new.self _
    c.name_here-name.ensures c.in_ok-advance.ensures s)) c.in_err-index.ensures)

pub returns : goal.returns
returns c =
    command_put (scope_of c.args.names.now) c.args.self.now c.pos-pos.result c.pos-pos.ensures c.advance.new.self c.index.new.self c.sign-2.new.self
    c.expr-2.new.self c.marks-2.new.self c.name_here-name.result c.array_use-fault.result.1 _ _ c.in_ok-labels-2.labels
    c.name_here-name.ensures c.in_ok-advance.ensures c.array_use-fault.ensures.place
    (rw (c.note-2.ensures, c.array_use-fault.ensures.fault) at c.in_ok-index.ensures) c.in_ok-sign-2.ensures c.in_ok-value-2.ensures c.in_ok-labels-2.ensures
