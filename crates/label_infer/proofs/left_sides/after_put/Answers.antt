use Rattle.mit_syntax.specs.Expression.{expression_of}
use Rattle.label_infer.specs.LeftSideOf.{left_side_of}
use Rattle.label_infer.specs.ConstraintsOf.{lat_of, label_of, set_after}
use Rattle.label_infer.proofs.Joined.{if_ok, both_is}
use Rattle.label_infer.proofs.left_sides.after_put.Goals as goal

pub returns : goal.returns
returns c =
    let k = c.args.k.now in
    let o = c.args.written.now in
    let t = left_side_of c.args.t.now in
    let set = set_after k o t c.args.first (expression_of c.args.value.now) in
    let li = label_of k (expression_of c.args.index.now) in
    if_ok c.both.result
    (λ f h. both_is (lat_of k) (left_side_of c.in_ok-set.set) set (left_side_of c.in_ok-place.place) li (left_side_of f) h c.in_ok-set.ensures
    c.in_ok-place.ensures) c.both.ensures
