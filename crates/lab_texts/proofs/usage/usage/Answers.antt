use Rattle.std.proofs.Common.{refl}
use Rattle.lab_texts.specs.Usage.{lab_usage_text}
use Rattle.lab_texts.proofs.usage.usage.Goals as goal

pub returns : goal.returns
unfolding lab_usage_text
returns c = refl
