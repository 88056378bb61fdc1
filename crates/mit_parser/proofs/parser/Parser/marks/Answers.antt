use Rattle.std.proofs.lemmas.Result.{err_from_is_err_and}
use Rattle.mit_syntax.specs.declared.token.Sign.TheVariants.{At, RightSquare}
use Rattle.std.proofs.Common.{◌∷◌}
use Rattle.mit_syntax.specs.Chunks.{sign}
use Rattle.mit_parser.specs.Words.{word}
use Rattle.mit_parser.specs.Machine.{marks, second, want}
use Rattle.mit_parser.specs.Scope.{labels_in}
use Rattle.mit_parser.proofs.Rules.{within}
use Rattle.mit_parser.proofs.Listed.{marks_some, goes_on, was_there}
use Rattle.mit_parser.proofs.parser.Parser.marks.Goals as goal

pub returns-in_err-write : goal.returns-in_err-write
returns-in_err-write c =
    let p = err_from_is_err_and c.from_residual-in_err-write.result c.from_residual-in_err-write.ensures.1 in
    let t = was_there (word (sign At)) _ _ _ c.if-not-branch.false c.in_ok-accept_sign.ensures in
    rw (p.1, p.2) (within c.args.self.now c.label-read.new.self c.second.new.self marks second (λ s. want (word (sign RightSquare)) ∷ s) _
    (λ s. rw c.label-read.ensures.state (goes_on c.args.self.now c.accept_sign.new.self c.sign.new.self c.name.new.self c.in_ok-name.name c.in_ok-name.pos t
    c.in_ok-sign.ensures c.in_ok-name.ensures s)) c.in_err-write.ensures)

pub returns : goal.returns
returns c =
    rw c.both.ensures (marks_some (labels_in c.args.lattice.now) c.args.self.now c.accept_sign.new.self c.sign.new.self c.name.new.self c.second.new.self
    c.sign-2.new.self c.in_ok-name.name c.in_ok-name.pos
    c.label-read.result c.in_ok-write.write (was_there (word (sign At)) _ _ _ c.if-not-branch.false c.in_ok-accept_sign.ensures) c.in_ok-sign.ensures
    c.in_ok-name.ensures c.label-read.ensures.label
    (rw c.label-read.ensures.state at c.in_ok-write.ensures) c.in_ok-sign-2.ensures)
