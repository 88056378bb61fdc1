use Rattle.std.proofs.Common.{ap, ◌∙◌, sym, ◌∷◌, [], ◌++◌}
use Rattle.std.proofs.lemmas.Result.{err_from_is_err_and, MatchResult-weaker}
use Rattle.mit_syntax.specs.declared.token.Keyword.TheVariants.{If, While, Mitigate, Else}
use Rattle.mit_syntax.specs.declared.token.Sign.TheVariants.{Semicolon, LeftBrace}
use Rattle.mit_syntax.specs.Chunks.{sign, key}
use Rattle.mit_syntax.specs.Plan.{list_plan}
use Rattle.mit_parser.specs.Words.{word}
use Rattle.mit_parser.specs.Reads.{scope_of}
use Rattle.mit_parser.specs.Machine.{want, a_command, a_block, otherwise, commands, more, after_brace}
use Rattle.mit_parser.proofs.Rules.{within, shows_key, rule_commands, took_at}
use Rattle.mit_parser.proofs.Listed.{command_if, command_while, command_mitigate, block_all, else_block, else_none, commands_first, commands_next}
use Rattle.mit_parser.proofs.Listed.{commands_last, was_there, was_absent, after_else, rule_block}
use Rattle.mit_parser.proofs.parser.Parser.+command.Goals as goal

pub block-returns-in_err-sign : goal.block-returns-in_err-sign
block-returns-in_err-sign t c =
    let p = err_from_is_err_and c.from_residual.result c.from_residual.ensures.1 in
    rw (p.1, p.2) (within c.args.self.now c.args.self.now c.sign.new.self a_block (want (word (sign LeftBrace))) after_brace _
    (λ s. rule_block (scope_of c.args.names.now) s c.args.self.now.counts c.args.self.now.words) c.in_err-sign.ensures)

pub block-returns : goal.block-returns
block-returns t c = block_all _ _ _ _ _ _ c.in_ok-sign.ensures c.in_ok-list.ensures c.in_ok-sign-2.ensures

pub branching-returns : goal.branching-returns
branching-returns t c =
    command_if (scope_of c.args.names.now) c.args.self.now c.pos-pos.result c.pos-pos.ensures c.advance.new.self c.expr.new.self c.marks.new.self c.key.new.self
    c.block.new.self c.otherwise.new.self
    c.in_ok-guard.guard c.in_ok-labels.labels c.in_ok-then_part.then_part c.in_ok-else_part.else_part (shows_key _ If (sym c.requires)) c.in_ok-advance.ensures
    c.in_ok-guard.ensures c.in_ok-labels.ensures c.in_ok-key.ensures c.in_ok-then_part.ensures c.in_ok-else_part.ensures

pub repetition-returns : goal.repetition-returns
repetition-returns t c =
    command_while (scope_of c.args.names.now) c.args.self.now c.pos-pos.result c.pos-pos.ensures c.advance.new.self c.expr.new.self c.marks.new.self
    c.key.new.self c.block.new.self
    c.in_ok-guard.guard c.in_ok-labels.labels c.in_ok-body.body (shows_key _ While (sym c.requires)) c.in_ok-advance.ensures
    c.in_ok-guard.ensures c.in_ok-labels.ensures c.in_ok-key.ensures c.in_ok-body.ensures

pub mitigation-returns : goal.mitigation-returns
mitigation-returns t c =
    command_mitigate (scope_of c.args.names.now) c.args.self.now c.pos-pos.result c.pos-pos.ensures c.mitigate.new.self c.sign.new.self c.expr.new.self
    c.second.new.self c.sign-2.new.self c.marks.new.self c.block.new.self
    c.in_ok-mark.mark c.in_ok-estimate.estimate c.in_ok-level.level c.in_ok-labels.labels c.in_ok-body.body
    (shows_key _ Mitigate (sym c.requires)) c.in_ok-mark.ensures
    c.in_ok-sign.ensures c.in_ok-estimate.ensures c.in_ok-level.ensures c.in_ok-sign-2.ensures c.in_ok-labels.ensures c.in_ok-body.ensures

pub commands-returns-in_err-first : goal.commands-returns-in_err-first
commands-returns-in_err-first t c =
    let p = err_from_is_err_and c.from_residual.result c.from_residual.ensures.1 in
    rw (p.1, p.2) (within c.args.self.now c.args.self.now c.command.new.self commands a_command (λ s. more ∷ s) _
    (λ s. rule_commands s c.args.self.now.counts c.args.self.now.words) c.in_err-first.ensures)

pub commands-loop-alloc-init : goal.commands-loop-alloc-init
commands-loop-alloc-init t c = commands_first _ _ _ _ _ c.in_ok-first.ensures (c.in_ok-push.ensures.items
    ∙ ap (λ l. l ++ c.in_ok-first.first ∷ []) c.in_ok-list.ensures.items)

pub commands-loop-alloc-preserved : goal.commands-loop-alloc-preserved
commands-loop-alloc-preserved t c =
    commands_next _ _ _ _ _ _ _ _ c.loop-alloc.invariant
    (took_at (word (sign Semicolon)) _ _ (sym c.at_sign.ensures ∙ c.loop-alloc-test.true) c.in_ok-advance.ensures)
    c.in_ok-next.ensures c.in_ok-push-2.ensures.items

pub commands-returns : goal.commands-returns
commands-returns t c = commands_last _ _ _ _ c.loop-alloc.invariant (sym c.at_sign.ensures ∙ c.loop-alloc-test.false)

pub otherwise-returns-then-branch : goal.otherwise-returns-then-branch
otherwise-returns-then-branch t c =
    let was = was_there (word (key Else)) _ _ _ c.if-branch.true c.in_ok-accept_key.ensures in
    MatchResult-weaker c.block.result c.block.ensures
    (λ v k. else_block (scope_of c.args.names.now) c.args.pos c.args.self.now c.accept_key.new.self c.block.new.self (list_plan v.items) was k)
    (λ f k. within c.args.self.now c.accept_key.new.self c.block.new.self otherwise a_block
    (λ s. s) f (after_else (scope_of c.args.names.now) _ c.accept_key.new.self was) k)

pub otherwise-returns : goal.otherwise-returns
otherwise-returns t c =
    let was = was_absent (word (key Else)) _ _ _ c.if-branch.false c.in_ok-accept_key.ensures in
    rw (was.0, rw c.in_ok-list.ensures.items at c.in_ok-push.ensures.items) (else_none (scope_of c.args.names.now) c.args.pos c.args.self.now was.1)
