-- A space of starts, and its starts by their numbers.
use Rattle.std.specs.Prelude.{◌≡◌, ℕ, ℤ, pos, zero, suc, ◌+◌, ◌-◌, ◌+ℤ◌, ◌<ℤ◌, ◌<◌, ◌≤◌, ◌^◌, ◌&&◌, if◌then◌else◌, int_le, nat_le, Bool, true, not}
use Rattle.std.specs.Prelude.{List, [], ◌∷◌, All, Vec, length, map}
use Rattle.std.specs.List.{list_all}
use Rattle.std.specs.declared.alloc.Global.{Global}
use Rattle.env_contract.specs.declared.place.Touch.{Touch}
use Rattle.mit_syntax.specs.Declarations.{variables}
use Rattle.mit_syntax.specs.Program.{Syntax}
use Rattle.start_file.specs.Starts.{StartValue}
use Rattle.start_space.specs.Space.{size, nth}
use Rattle.space_starts.specs.declared.space.Interval.{Interval}
use Rattle.space_starts.specs.declared.space.Space.{Space}

-- the last number of an interval
abbrev pub last_of : Interval → ℤ
last_of i = i.first +ℤ pos i.more

-- how many numbers some intervals have
abbrev pub many : List Interval → ℕ
many [] = 0
many (i ∷ is) = i.more + 1 + many is

-- the number with a number, from 0, in these intervals from left to right, each ascending
abbrev pub value_in : List Interval → ℕ → ℤ
value_in [] n = pos 0
value_in (i ∷ is) n = if nat_le n i.more then i.first +ℤ pos n else value_in is (n - (i.more + 1))

-- two intervals have a number in common
abbrev pub meet : Interval → Interval → Bool
meet i j = int_le i.first (last_of j) && int_le j.first (last_of i)

-- no two of these do
abbrev pub apart : List Interval → Bool
apart [] = true
apart (i ∷ is) = list_all (λ j. not (meet i j)) is && apart is

-- the values that each variable may have, and the touches of all starts, in order
pub record SpaceValue : Type 0 where
  pub memory : List (List Interval)
  pub touches : List Touch

-- what lists hold
abbrev pub lists : List (Vec Interval Global) → List (List Interval)
lists vs = map (λ v. v.items) vs

-- what a `Space` is
abbrev pub seen : Space → SpaceValue
seen s = record { memory = lists s.memory.items; touches = s.touches.items }

-- how many values each variable has
abbrev pub counts : List (List Interval) → List ℕ
counts vs = map many vs

-- how many starts there are
abbrev pub size_of : SpaceValue → ℕ
size_of s = size (counts s.memory)

-- the values that a choice takes, each by its number among those of its variable
abbrev pub chosen : List (List Interval) → List ℕ → List ℤ
chosen [] cs = []
chosen (v ∷ vs) [] = []
chosen (v ∷ vs) (c ∷ cs) = value_in v c ∷ chosen vs cs

-- the start with a number, from 0: the last variable goes round first
abbrev pub start_at : SpaceValue → ℕ → StartValue
start_at s n = record { memory = chosen s.memory (nth (counts s.memory) n); touches = s.touches }

-- so many starts from the one with a number on
abbrev pub starts_from : SpaceValue → ℕ → ℕ → List StartValue
starts_from s n zero = []
starts_from s n (suc c) = start_at s n ∷ starts_from s (n + 1) c

-- all starts, written out
abbrev pub all_starts : SpaceValue → List StartValue
all_starts s = starts_from s 0 (size_of s)

-- each number has 64 bits
abbrev pub IsInterval : Interval → Type 0
IsInterval i = last_of i <ℤ pos (2 ^ 63)

-- there is at least one value
pub record IsValues (is : List Interval) : Type 0 where
  pub some : 0 < length is
  pub fit : All IsInterval is

-- values for each variable, none twice, touches of labels of the program, and at most 2^40 starts
pub record IsSpaceFor (p : Syntax) (s : SpaceValue) : Type 0 where
  pub memory : length s.memory ≡ variables p.declarations
  pub touches : All (λ (t : Touch). t.label.number < p.order.size) s.touches
  pub values : All IsValues s.memory
  pub once : All (λ is. apart is ≡ true) s.memory
  pub few : size_of s ≤ 2 ^ 40
