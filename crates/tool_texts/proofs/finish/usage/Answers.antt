use Rattle.std.proofs.Common.{refl}
use Rattle.tool_texts.specs.Texts.{usage_text}
use Rattle.tool_texts.proofs.finish.usage.Goals as goal

pub returns : goal.returns
unfolding usage_text
returns c = refl
