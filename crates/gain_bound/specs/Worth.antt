-- What a view is worth, for any weights and any question.
use Rattle.std.specs.Prelude.{ℕ, List, Bool}
use Rattle.leak_bound.specs.Records.{Tests}
use Rattle.sharp_bound.specs.Guess.{FewShown}
use Rattle.gain_bound.specs.Gain.{FewGain}
use Rattle.gain_bound.specs.Information.{FewBits}

-- at most n times the best gain, of whatever actions A, and at most log2 n bits
pub record FewWorth {X V : Type 0} (A : Type 0) (see : X → V) (same : V → V → Bool) (xs : List X) (n : ℕ) : Type 0 where
  pub gains : (weight : X → ℕ) (gain : A → X → ℕ) (actions : List A) → FewGain see same xs n weight gain actions
  pub bits : (weight : X → ℕ) → FewBits see same xs n weight

-- so it is wherever a view is said to show few
abbrev pub ShownIsWorthFew : Type 0 → Type 0 → Type 0 → Type 0
ShownIsWorthFew X V A = (see : X → V) (same : V → V → Bool) → Tests same → (xs : List X) (n : ℕ) → FewShown see same xs n → FewWorth A see same xs n
