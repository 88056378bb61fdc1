use Rattle.std.specs.Prelude.{ℕ, List}
use Rattle.tim_base.specs.Faults.{Rose}
use Rattle.mit_tool.proofs.CertifiedLemmas.{taken}
use Rattle.mit_tool.proofs.laws.certified_is_taken.Goals as goal

pub returns : goal.returns
returns c = λ content before now file certificate t. taken (λ (name : List ℕ). Rose (before name) (now name)) content file certificate t
