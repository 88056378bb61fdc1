-- The environment without caches.
use Rattle.std.specs.Prelude.{[]}
use Rattle.env_contract.specs.Env.{Env}
use Rattle.env_contract.specs.declared.flat.FlatEnv.{FlatEnv}

-- no state, and no penalties
abbrev pub flat_env : Env FlatEnv
flat_env = record { cost_of = λ k a er ew e. 0; next_of = λ k a er ew e. e; part = λ q l e. [] }
