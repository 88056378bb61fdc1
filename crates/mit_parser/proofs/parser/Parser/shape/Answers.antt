use Rattle.mit_syntax.specs.declared.token.Sign.TheVariants.{LeftSquare, Colon}
use Rattle.mit_syntax.specs.Chunks.{sign}
use Rattle.mit_parser.specs.Words.{word}
use Rattle.mit_parser.specs.Reads.{Took}
use Rattle.mit_parser.proofs.Listed.{was_there, was_absent}
use Rattle.mit_parser.proofs.Heads.{shape_array, shape_scalar, shape_none}
use Rattle.mit_parser.proofs.parser.Parser.shape.Goals as goal

pub returns-then-branch : goal.returns-then-branch
returns-then-branch c =
    shape_array c.args.self.now c.accept_sign.new.self c.number.new.self c.sign.new.self c.sign-then-branch.new.self c.name.new.self
    c.in_ok-length.length c.in_ok-label.label
    (was_there (word (sign LeftSquare)) _ _ _ c.if-branch.true c.in_ok-accept_sign.ensures) c.in_ok-length.ensures c.in_ok-sign.ensures
    c.in_ok-sign-2.ensures c.in_ok-label.ensures

pub returns-then-not-branch : goal.returns-then-not-branch
returns-then-not-branch c =
    let a = was_absent (word (sign LeftSquare)) _ _ _ c.if-branch.false c.in_ok-accept_sign.ensures in
    let b = was_absent (word (sign Colon)) _ _ _ c.if-not-branch.true c.in_ok-accept_sign-2.ensures in
    rw (b.0, a.0) (shape_none c.args.self.now a.1 (rw a.0 at b.1))

pub returns : goal.returns
returns c =
    let a = was_absent (word (sign LeftSquare)) _ _ _ c.if-branch.false c.in_ok-accept_sign.ensures in
    let t : Took (word (sign Colon)) c.accept_sign.new.self c.accept_sign-2.new.self =
    was_there (word (sign Colon)) _ _ _ c.if-not-branch.false c.in_ok-accept_sign-2.ensures in
    shape_scalar c.args.self.now c.accept_sign-2.new.self c.name-2.new.self c.in_ok-label-2.label a.1
    (rw a.0 at t) c.in_ok-label-2.ensures
