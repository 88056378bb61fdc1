-- The entries of a run to its halt.
use Rattle.std.specs.Prelude.{◌≡◌, ◌≤◌, ◌<◌, ◌+◌, ℕ, List, [], ◌∷◌, ℤ, Bool, true, None}
use Rattle.env_contract.specs.Env.{Env}
use Rattle.label_code.specs.Machine.{Machine, steps}
use Rattle.label_code.specs.declared.code.Instr.{Instr}
use Rattle.first_replay.specs.Replay.{Entry, Timed, trace, replay}
use Rattle.run_entries.specs.Told.{counts_told}

-- the cycles of entries, without those that mitigations wait
abbrev pub work : List Entry → ℕ
work [] = 0
work (e ∷ es) = e.cost + work es

-- after so many steps the machine has halted, the entries of these steps take no more cycles than the limit, and whatever
-- numbers are pushed, replaying these entries comes to what replaying those of the steps comes to, with the same miss counts
pub record Tells {E : Type 0} (v : Env E) (image : List Instr) (limit : ℕ) (x : Machine E) (es : List Entry) : Type 0 where
  pub count : ℕ
  pub halted : (steps v image count x).halted ≡ true
  pub same : (numbers : ℕ → ℤ) (t : Timed) → t.last ≡ None → replay numbers es t ≡ replay numbers (trace v image count x) t
  pub counts : (such : ℕ → Bool) (numbers : ℕ → ℤ) (t : Timed) → t.last ≡ None →
      counts_told such numbers es t ≡ counts_told such numbers (trace v image count x) t
  pub within : work (trace v image count x) ≤ limit

-- the entries of some steps take more cycles than the limit, so no first predictions let the run halt by it
pub record IsTooLong {E : Type 0} (v : Env E) (image : List Instr) (limit : ℕ) (x : Machine E) : Type 0 where
  pub count : ℕ
  pub above : limit < work (trace v image count x)
