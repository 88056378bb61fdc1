-- The number of classes, the counts by shared time and by own first predictions, the sharp count and the bound.
use Rattle.std.proofs.Common.{arith}
use Rattle.lab_bound.specs.Enough.{AllAreEnough}
use Rattle.lab_leak.specs.Answer.{sequences_in}
use Rattle.lab_leak.specs.Ordered.{AllAreOrdered}
use Rattle.lab_leak.proofs.Tallied.{are_tallied}

pub all_ordered : AllAreEnough → AllAreOrdered
all_ordered enough e t own some words p q o ss r levels spelled types low is told =
    let h = enough e t own some words p q o ss r levels spelled types low is told in
    let tallied = are_tallied (sequences_in e t q o ss) in
    let distinct = tallied.distinct in
    let few = h.bounds.few.count in
    record {
      tallied = tallied;
      sharp = omega (arith, distinct, few);
      shared = λ apart. let less = (h.bounds.shared apart).count in omega (arith, distinct, less);
      within = h.shared_within;
      own = λ firsts are.
          let each = h.own firsts are in
          ((λ apart. let less = (each.0.few apart).count in omega (arith, distinct, less)), each.1);
      bound = h.within;
    }
