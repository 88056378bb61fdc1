use Rattle.std.proofs.Common.{◌≡◌, map, take}
use Rattle.first_image.specs.Tuned.{number_of}
use Rattle.first_image.proofs.place.numbers_in.Given as goal

abbrev pub invariant-loop-place : goal.invariant-loop-place
invariant-loop-place l = l.numbers.items ≡ map (λ i. number_of i.work) (take l.place l.image.instrs)
