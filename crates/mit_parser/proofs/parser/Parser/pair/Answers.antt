use Rattle.std.proofs.Common.{◌∷◌, ◌∙◌}
use Rattle.std.proofs.lemmas.Result.{err_from_is_err_and}
use Rattle.mit_syntax.specs.declared.token.Sign.TheVariants.{Less}
use Rattle.mit_syntax.specs.Chunks.{sign}
use Rattle.mit_parser.specs.Words.{word}
use Rattle.mit_parser.specs.Machine.{want, a_name, a_pair}
use Rattle.mit_parser.proofs.Rules.{within}
use Rattle.mit_parser.proofs.Heads.{rule_pair, pair_goes, pair_all}
use Rattle.mit_parser.proofs.parser.Parser.pair.Goals as goal

pub returns-in_err-low : goal.returns-in_err-low
returns-in_err-low c =
    let p = err_from_is_err_and c.from_residual.result c.from_residual.ensures.1 in
    rw (p.1, p.2) (within c.args.self.now c.args.self.now c.label_number.new.self a_pair a_name (λ s. want (word (sign Less)) ∷ a_name ∷ s) _
    (λ s. rule_pair s c.args.self.now.counts c.args.self.now.words) c.in_err-low.ensures)

pub returns-in_err-sign : goal.returns-in_err-sign
returns-in_err-sign c =
    let p = err_from_is_err_and c.from_residual-in_err-sign.result c.from_residual-in_err-sign.ensures.1 in
    rw (p.1, p.2) (within c.args.self.now c.label_number.new.self c.sign.new.self a_pair (want (word (sign Less))) (λ s. a_name ∷ s) _
    (λ s. rule_pair s c.args.self.now.counts c.args.self.now.words ∙ c.in_ok-low.ensures.goes (want (word (sign Less)) ∷ a_name ∷ s)) c.in_err-sign.ensures)

pub returns-in_err-high : goal.returns-in_err-high
returns-in_err-high c =
    let p = err_from_is_err_and c.from_residual-in_err-high.result c.from_residual-in_err-high.ensures.1 in
    rw (p.1, p.2) (within c.args.self.now c.sign.new.self c.label_number-2.new.self a_pair a_name (λ s. s) _
    (pair_goes c.args.labels.now.keys c.args.self.now c.label_number.new.self c.sign.new.self c.in_ok-low.low c.in_ok-low.ensures c.in_ok-sign.ensures)
    c.in_err-high.ensures)

pub returns : goal.returns
returns c = pair_all c.args.labels.now.keys c.args.self.now c.label_number.new.self c.sign.new.self c.label_number-2.new.self c.in_ok-low.low c.in_ok-high.high
    c.in_ok-low.ensures c.in_ok-sign.ensures c.in_ok-high.ensures
