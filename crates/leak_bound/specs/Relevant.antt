-- Which mitigates are relevant for an observer, and how many of them a run begins or ends.
use Rattle.std.specs.Prelude.{◌≡◌, ℕ, ◌+◌, ◌<◌, List, [], ◌∷◌, ◌++◌, Bool, false, cond, not, ◌&&◌, ℤ, slice_index_or}
use Rattle.std.specs.List.{count_by}
use Rattle.mit_syntax.specs.Todo.{Todo, Marked, Done, Skip, Assign, Put, Sleep, If, While, Mitigate}
use Rattle.label_lattice.specs.Lattice.{Lattice}
use Rattle.timing_types.specs.Typing.{label_of}
use Rattle.source_meaning.specs.Source.{marks_of, HasEnded}
use Rattle.label_code.specs.Machine.{Event, Wrote, Began, Ended}

-- of each mitigate, in the order of the text: whether its pc flows to the observer and its level, which ls tells by
-- its mark, does not
abbrev pub relevances : {M L : Type 0} → Lattice → (ℕ → ℕ) → (ℕ → ℕ) → ℕ → ℕ → Todo M L → List Bool
relevances lat g ls o pc Done = []
relevances lat g ls o pc (Skip m r) = relevances lat g ls o pc r
relevances lat g ls o pc (Assign m x e r) = relevances lat g ls o pc r
relevances lat g ls o pc (Put m f n i e r) = relevances lat g ls o pc r
relevances lat g ls o pc (Sleep m e r) = relevances lat g ls o pc r
relevances lat g ls o pc (If m e a b r) =
    let inner = lat.join pc (label_of lat g e) in
    relevances lat g ls o inner a ++ (relevances lat g ls o inner b ++ relevances lat g ls o pc r)
relevances lat g ls o pc (While m e c r) = relevances lat g ls o (lat.join pc (label_of lat g e)) c ++ relevances lat g ls o pc r
relevances lat g ls o pc (Mitigate m k l e c r) =
    (lat.flows pc o && not (lat.flows (ls k) o)) ∷ (relevances lat g ls o pc c ++ relevances lat g ls o pc r)

-- whether the mitigate with a mark is relevant: marks are numbered from 0 in the order of the text
abbrev pub is_relevant : {M L : Type 0} → Lattice → (ℕ → ℕ) → (ℕ → ℕ) → ℕ → Todo M L → ℕ → Bool
is_relevant lat g ls o p k = slice_index_or (relevances lat g ls o lat.bottom p) k false

-- the program ends from this memory, and begins k relevant mitigates until then
abbrev pub Begins : {M L : Type 0} → Lattice → (ℕ → ℕ) → (ℕ → ℕ) → ℕ → Todo M L → List ℤ → ℕ → Type 0
Begins lat g ls o p m k = (n : ℕ) × HasEnded p m n × (count_by (is_relevant lat g ls o p) (marks_of p m n) ≡ k)

-- how many mitigations with such marks a log begins
abbrev pub begun_count : (ℕ → Bool) → List Event → ℕ
begun_count rel [] = 0
begun_count rel (Wrote x n c ∷ es) = begun_count rel es
begun_count rel (Began k c ∷ es) = cond (rel k) 1 0 + begun_count rel es
begun_count rel (Ended k c ∷ es) = begun_count rel es

-- how many mitigations with such marks a log ends
abbrev pub ended_count : (ℕ → Bool) → List Event → ℕ
ended_count rel [] = 0
ended_count rel (Wrote x n c ∷ es) = ended_count rel es
ended_count rel (Began k c ∷ es) = ended_count rel es
ended_count rel (Ended k c ∷ es) = cond (rel k) 1 0 + ended_count rel es

-- the levels of mitigates are below n
abbrev pub LevelsBelow : ℕ → Marked → Type 0
LevelsBelow n Done = Unit {0}
LevelsBelow n (Skip m r) = LevelsBelow n r
LevelsBelow n (Assign m x e r) = LevelsBelow n r
LevelsBelow n (Put m f k i e r) = LevelsBelow n r
LevelsBelow n (Sleep m e r) = LevelsBelow n r
LevelsBelow n (If m e a b r) = LevelsBelow n a × LevelsBelow n b × LevelsBelow n r
LevelsBelow n (While m e c r) = LevelsBelow n c × LevelsBelow n r
LevelsBelow n (Mitigate m k l e c r) = (l < n) × LevelsBelow n c × LevelsBelow n r

-- the levels of mitigates are those that ls tells by their marks
abbrev pub LevelsAre : (ℕ → ℕ) → Marked → Type 0
LevelsAre ls Done = Unit {0}
LevelsAre ls (Skip m r) = LevelsAre ls r
LevelsAre ls (Assign m x e r) = LevelsAre ls r
LevelsAre ls (Put m f k i e r) = LevelsAre ls r
LevelsAre ls (Sleep m e r) = LevelsAre ls r
LevelsAre ls (If m e a b r) = LevelsAre ls a × LevelsAre ls b × LevelsAre ls r
LevelsAre ls (While m e c r) = LevelsAre ls c × LevelsAre ls r
LevelsAre ls (Mitigate m k l e c r) = (l ≡ ls k) × LevelsAre ls c × LevelsAre ls r
