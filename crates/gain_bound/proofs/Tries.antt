-- Tries are actions.
use Rattle.std.proofs.Common.{List, length}
use Rattle.std.specs.Prelude.{leb}
use Rattle.std.proofs.lemmas.Bool.{leb-true, le-leb}
use Rattle.gain_bound.specs.Tries.{named, TriesNameFew}
use Rattle.gain_bound.proofs.Gain.{choices_gain_few}

pub tries_name_few : (X V P : Type 0) → TriesNameFew X V P
tries_name_few X V P see same tests xs n h part alike weight k most each choose i =
    choices_gain_few X V (List P) see same tests xs n h weight (named part alike) (λ tries. leb (length tries) k) most
    (λ tries e. each tries (leb-true (length tries) k e)) choose (λ v. le-leb (length (choose v)) k (i v))
