use Rattle.std.proofs.Common.{rules, ◌≡◌, ◌∷◌, [], ◌++◌}
use Rattle.first_image.specs.Tuned.{number_of}
use Rattle.first_image.proofs.Placing.{numbers_more}
use Rattle.first_image.proofs.place.numbers_in.Goals as goal

pub loop-place-preserved : goal.loop-place-preserved
loop-place-preserved c =
    let pushed : c.push.new.self.items ≡ c.loop-place.numbers.items ++ number_of c.at.result.work ∷ [] =
    search (rules, c.in_ok-push.ensures.items, c.number_of-number.ensures) in
    numbers_more c.args.image.now.instrs c.loop-place.place c.at.result c.loop-place.numbers.items c.push.new.self.items c.at.ensures c.loop-place.invariant
    pushed
