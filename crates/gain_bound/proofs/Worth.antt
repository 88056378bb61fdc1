-- Where few views are shown, they are worth little.
use Rattle.gain_bound.specs.Worth.{ShownIsWorthFew}
use Rattle.gain_bound.proofs.Gain.{views_gain_few}
use Rattle.gain_bound.proofs.Information.{views_tell_few}

pub shown_is_worth_few : (X V A : Type 0) → ShownIsWorthFew X V A
shown_is_worth_few X V A see same tests xs n shown =
    record {
      gains = views_gain_few X V A see same tests xs n shown.count;
      bits = views_tell_few X V see same tests xs n shown.count;
    }
