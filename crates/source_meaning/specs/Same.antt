-- Two programs that mean the same.
use Rattle.std.specs.Prelude.{◌≡◌, ◌↔◌, ℕ, List, ℤ}
use Rattle.mit_syntax.specs.Todo.{Todo, Marked, commands_of}
use Rattle.mit_syntax.specs.Plan.{Plan}
use Rattle.source_meaning.specs.Source.{notes_of, HasEnded}

-- from each memory both have told the same after each number of steps, and have ended after the same numbers
pub record MeansSame {M L M' L' : Type 0} (p : Todo M L) (q : Todo M' L') : Type 0 where
  pub tells : (m : List ℤ) (n : ℕ) → notes_of p m n ≡ notes_of q m n
  pub ends : (m : List ℤ) (n : ℕ) → HasEnded p m n ↔ HasEnded q m n

-- a program with labels means what a program of the same commands does that writes others, or none
abbrev pub CommandsMean : Type 0
CommandsMean = (p : Marked) (q : Plan) → commands_of p ≡ commands_of q → MeansSame p q
