use Rattle.std.proofs.Common.{refl}
use Rattle.leak_bound.specs.Over.{KeepsLaws}
use Rattle.part_tlb.specs.declared.bank.Hardware.{Hardware}
use Rattle.part_tlb.specs.Machine.{hardware_by_history}
use Rattle.history_bound.specs.Over.{AnyHistory}
use Rattle.tool_words.specs.declared.words.EnvName.{EnvName}
use Rattle.tool_words.specs.declared.words.EnvName.TheVariants.{Flat, Part, Part2}
use Rattle.tool_stages.specs.declared.envs.Environment.{Environment}
use Rattle.tool_stages.specs.declared.envs.Environment.TheVariants.{Named, Described}
use Rattle.tool_stages.specs.Envs.{IsPartitioned, environment}
use Rattle.tool_stages.proofs.EnvLemmas.{named_partitioned}
use Rattle.tool_stages.proofs.laws.partitioned_keep_the_laws.Goals as goal

pub returns-clause-laws : goal.returns-clause-laws
returns-clause-laws c = keep
  where
    keep : (e : Environment) → IsPartitioned e → KeepsLaws (environment e) AnyHistory
    keep (Named Flat) is = c.histories_keep_the_laws.ensures.no_level
    keep (Named Part) is = c.histories_keep_the_laws.ensures.one_level
    keep (Named Part2) is = c.histories_keep_the_laws.ensures.two_levels
    keep (Described m) is = c.histories_keep_the_laws.ensures.every m.hardware m.within.banks is

pub returns-clause-named : goal.returns-clause-named
returns-clause-named c = named_partitioned
