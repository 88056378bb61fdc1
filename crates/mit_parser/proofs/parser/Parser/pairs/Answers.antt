use Rattle.std.proofs.Common.{ap, ◌∙◌, sym, ◌∷◌, [], ◌++◌}
use Rattle.std.proofs.lemmas.Result.{err_from_is_err_and}
use Rattle.mit_syntax.specs.declared.token.Sign.TheVariants.{Comma}
use Rattle.mit_syntax.specs.Chunks.{sign}
use Rattle.mit_parser.specs.Words.{word}
use Rattle.mit_parser.specs.Machine.{a_pair, pairs, more_pairs}
use Rattle.mit_parser.proofs.Rules.{within, took_at}
use Rattle.mit_parser.proofs.Heads.{rule_pairs, pairs_first, pairs_next, pairs_last}
use Rattle.mit_parser.proofs.parser.Parser.pairs.Goals as goal

pub returns-in_err-first : goal.returns-in_err-first
returns-in_err-first c =
    let p = err_from_is_err_and c.from_residual.result c.from_residual.ensures.1 in
    rw (p.1, p.2) (within c.args.self.now c.args.self.now c.pair.new.self pairs a_pair (λ s. more_pairs ∷ s) _
    (λ s. rule_pairs s c.args.self.now.counts c.args.self.now.words) c.in_err-first.ensures)

pub loop-self-init : goal.loop-self-init
loop-self-init c = pairs_first c.args.labels.now.keys _ _ _ _ c.in_ok-first.ensures (c.in_ok-push.ensures.items
    ∙ ap (λ l. l ++ c.in_ok-first.first ∷ []) c.new-list.ensures.items)

pub loop-self-preserved : goal.loop-self-preserved
loop-self-preserved c =
    pairs_next c.args.labels.now.keys _ _ _ _ _ _ _ c.loop-self.invariant
    (took_at (word (sign Comma)) _ _ (sym c.at_sign.ensures ∙ c.loop-self-test.true) c.in_ok-advance.ensures)
    c.in_ok-next.ensures c.in_ok-push-2.ensures.items

pub returns : goal.returns
returns c = pairs_last c.args.labels.now.keys _ _ _ c.loop-self.invariant (sym c.at_sign.ensures ∙ c.loop-self-test.false)
