-- When it is told of an audit that it has a report.
use Rattle.std.specs.Prelude.{ℕ, List, Some}
use Rattle.start_file.specs.Starts.{StartValue}
use Rattle.tool_stages.specs.declared.envs.Environment.{Environment}
use Rattle.tool_stages.specs.Content.{Content, IsKnown}
use Rattle.tool_stages.specs.Stages.{StartsAre}
use Rattle.tool_stages.specs.Goes.{CanBeAudited, CanCompile, OfObserver}

-- Nothing but want of memory stops the command: both files are told to hold bytes, and the program of the one can be
-- audited from the list of starts of the other.
pub record CanReady (content : Content) (file starts observer : List ℕ) (e : Environment) (t : ℕ) : Type 0 where
  pub known : IsKnown (content file)
  pub known_starts : IsKnown (content starts)
  pub goes : CanCompile (content file) (Some observer) (λ p q o. (ss : List StartValue) × StartsAre (content starts) p ss
      × OfObserver (λ l. CanBeAudited e t q l ss) o)
