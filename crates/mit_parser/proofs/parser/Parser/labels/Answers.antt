use Rattle.std.proofs.Common.{◌∙◌, sym, ◌∷◌}
use Rattle.std.proofs.lemmas.Result.{err_from_is_err_and}
use Rattle.mit_syntax.specs.declared.token.Sign.TheVariants.{Comma}
use Rattle.mit_syntax.specs.Chunks.{sign}
use Rattle.mit_parser.specs.Words.{word}
use Rattle.mit_parser.specs.Machine.{a_name, names, more_names}
use Rattle.mit_parser.proofs.Rules.{within, took_at}
use Rattle.mit_parser.proofs.Heads.{rule_names, labels_first, labels_next, labels_last}
use Rattle.mit_parser.proofs.parser.Parser.labels.Goals as goal

pub returns-in_err-name : goal.returns-in_err-name
returns-in_err-name c =
    let p = err_from_is_err_and c.from_residual.result c.from_residual.ensures.1 in
    rw (p.1, p.2) (within c.args.self.now c.args.self.now c.name.new.self names a_name (λ s. more_names ∷ s) _
    (λ s. rule_names s c.args.self.now.counts c.args.self.now.words) c.in_err-name.ensures)

pub loop-self-init : goal.loop-self-init
loop-self-init c = labels_first c.args.self.now c.name.new.self c.add_label.new.self c.in_ok-name.name c.in_ok-name.pos _ _ c.new-labels.ensures.empty
    c.in_ok-name.ensures c.in_ok-add_label.ensures

pub loop-self-preserved : goal.loop-self-preserved
loop-self-preserved c =
    labels_next c.args.self.now c.loop-self.self c.advance.new.self c.name-in-loop-self.new.self c.add_label-in-loop-self.new.self c.in_ok-name-2.name
    c.in_ok-name-2.pos _ _ c.loop-self.invariant
    (took_at (word (sign Comma)) _ _ (sym c.at_sign.ensures ∙ c.loop-self-test.true) c.in_ok-advance.ensures) c.in_ok-name-2.ensures c.in_ok-add_label-2.ensures

pub returns : goal.returns
returns c = labels_last _ _ _ c.loop-self.invariant (sym c.at_sign.ensures ∙ c.loop-self-test.false)
