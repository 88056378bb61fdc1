use Rattle.mit_syntax.specs.Expression.{expression_of}
use Rattle.label_infer.specs.LeftSideOf.{left_side_of}
use Rattle.label_infer.specs.ConstraintsOf.{lat_of, label_of, around_of}
use Rattle.label_infer.proofs.Joined.{if_ok, both_is}
use Rattle.label_infer.proofs.left_sides.set_left.Goals as goal

pub returns : goal.returns
returns c =
    let k = c.args.k.now in
    let o = c.args.written.now in
    let t = left_side_of c.args.t.now in
    let le = label_of k (expression_of c.args.value.now) in
    let rest = around_of k o (left_side_of c.args.pc.now) t in
    if_ok c.both.result
    (λ f h. both_is (lat_of k) (left_side_of c.in_ok-le.le) le (left_side_of c.in_ok-rest.rest) rest (left_side_of f) h c.in_ok-le.ensures
    c.in_ok-rest.ensures) c.both.ensures
