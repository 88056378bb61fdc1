-- The runs that a file holds, and why it is refused.
use Rattle.std.specs.Prelude.{◌≡◌, ℕ, ◌+◌, ◌++◌, ◌==◌, if◌then◌else◌, nat_lt, Bool, true, false, List, [], ◌∷◌, length, map, Option, None, Some, Vec}
use Rattle.std.specs.declared.alloc.Global.{Global}
use Rattle.black_box.specs.declared.fault.ReadyFault.{ReadyFault}
use Rattle.black_box.specs.declared.fault.ReadyFault.TheVariants.{BadLine, NoRuns, TooMany}
use Rattle.black_box.specs.declared.line.Line.{Line}
use Rattle.black_box.specs.declared.line.Line.TheVariants.{Run, Ready}
use Rattle.black_box.specs.Lines.{lines_of, first_bad, left, count_runs}

-- the ready cycles of each run
abbrev pub ready_lists : List (Vec ℕ Global) → List (List ℕ)
ready_lists runs = map (λ r. r.items) runs

abbrev pub lists : Vec (Vec ℕ Global) Global → List (List ℕ)
lists v = ready_lists v.items

-- the lines of runs: each begins with `run`, and its events follow
abbrev pub written : List (List ℕ) → List Line
written [] = []
written (r ∷ rs) = Run ∷ (map Ready r ++ written rs)

-- the lines of a file that say something are those of these runs
abbrev pub Holds : List ℕ → List (List ℕ) → Type 0
Holds bytes runs = left (lines_of bytes) ≡ written runs

-- why lines are refused, given the number of the first bad one
abbrev pub refusal_of : Option ℕ → List Line → Option ReadyFault
refusal_of (Some n) ls = Some (BadLine n)
refusal_of None ls =
    if length (left ls) == 0 then Some NoRuns
    else (if nat_lt 4096 (count_runs ls) then Some (TooMany (count_runs ls)) else None)

-- why a file is refused: for its first bad line, or if no line is left, or above 4,096 runs
abbrev pub refusal : List ℕ → Option ReadyFault
refusal bytes = refusal_of (first_bad false 1 (lines_of bytes)) (lines_of bytes)

-- a run has begun
abbrev pub has_runs : List (List ℕ) → Bool
has_runs [] = false
has_runs (r ∷ rs) = true

-- a line takes these runs to those
pub record Takes (line : Line) (old new : List (List ℕ)) : Type 0 where
  pub more : written new ≡ written old ++ left (line ∷ [])
  pub good : (n : ℕ) (rest : List Line) → first_bad (has_runs old) n (line ∷ rest) ≡ first_bad (has_runs new) (n + 1) rest

-- a fault names the first bad line
abbrev pub IsBadLine : Option ℕ → ReadyFault → Type 0
IsBadLine None e = ⊥
IsBadLine (Some n) e = e ≡ BadLine n
