-- Time is shared: where no relevant mitigate stands in another, the mitigations of a halted run fit into T together.
use Rattle.std.specs.Prelude.{◌≡◌, ℕ, ◌<◌, List, length, Bool, true, false}
use Rattle.mit_syntax.specs.Todo.{Todo, Marked, Done, Skip, Assign, Put, Sleep, If, While, Mitigate, commands_of}
use Rattle.label_lattice.specs.Order.{Order, lattice_of}
use Rattle.env_contract.specs.Env.{Env}
use Rattle.label_code.specs.Run.{Start}
use Rattle.label_code.specs.declared.code.Instr.{Instr}
use Rattle.leak_bound.specs.Relevant.{is_relevant}
use Rattle.leak_bound.specs.Records.{Each, Pairwise, Tests}
use Rattle.leak_bound.specs.Sound.{Agree, seen_from, Halts, IsCompiled}
use Rattle.sharp_count.specs.Ways.{AreWays}
use Rattle.sharp_bound.specs.Firsts.{PredictsBy}
use Rattle.sharp_bound.specs.Guess.{FewShown}
use Rattle.sharp_bound.specs.Sharp.{BeginsEach}

-- no mitigate of a list is relevant
abbrev pub NoneRelevant : {M L : Type 0} → (ℕ → Bool) → Todo M L → Type 0
NoneRelevant rel Done = Unit {0}
NoneRelevant rel (Skip m r) = NoneRelevant rel r
NoneRelevant rel (Assign m x e r) = NoneRelevant rel r
NoneRelevant rel (Put m f n i e r) = NoneRelevant rel r
NoneRelevant rel (Sleep m e r) = NoneRelevant rel r
NoneRelevant rel (If m e a b r) = NoneRelevant rel a × NoneRelevant rel b × NoneRelevant rel r
NoneRelevant rel (While m e c r) = NoneRelevant rel c × NoneRelevant rel r
NoneRelevant rel (Mitigate m k l e c r) = (rel k ≡ false) × NoneRelevant rel c × NoneRelevant rel r

-- no relevant mitigate stands in another
abbrev pub StandApart : {M L : Type 0} → (ℕ → Bool) → Todo M L → Type 0
StandApart rel Done = Unit {0}
StandApart rel (Skip m r) = StandApart rel r
StandApart rel (Assign m x e r) = StandApart rel r
StandApart rel (Put m f n i e r) = StandApart rel r
StandApart rel (Sleep m e r) = StandApart rel r
StandApart rel (If m e a b r) = StandApart rel a × StandApart rel b × StandApart rel r
StandApart rel (While m e c r) = StandApart rel c × StandApart rel r
StandApart rel (Mitigate m k l e c r) = (rel k ≡ true → NoneRelevant rel c) × StandApart rel c × StandApart rel r

-- Of starts that agree pairwise for an observer and halt by T, as many relevant mitigates of each level begin, and a view
-- of the runs shows few: at most as many as there are choices of miss counts whose cycles add up to at most T.
abbrev pub FewShared : {E V M L : Type 0} → Env E → Order → (E → Type 0) → (ℕ → ℕ) → (ℕ → ℕ) → List Instr → Todo M L → ℕ → ℕ → (Start E → V) → Type 0
FewShared {E} {V} v order serves g ls image p o t view =
    StandApart (is_relevant (lattice_of order) g ls o p) (commands_of p) →
    (starts : List (Start E)) →
    Pairwise (Agree v (lattice_of order) serves g o) starts → Each (Halts v image t) starts →
    (firsts : ℕ → ℕ) → Each (λ s. PredictsBy v (lattice_of order) g ls image p o t firsts s) starts →
    (same : V → V → Bool) → Tests same →
    (counts : ℕ → ℕ)
    × Each (λ s. BeginsEach (lattice_of order) g ls o p s.memory counts) starts
    × ((ways : List (List (List ℕ))) → AreWays t firsts order.size counts ways → FewShown view same starts (length ways))

pub record SharpShared {E M L : Type 0} (v : Env E) (order : Order) (serves : E → Type 0) (g ls : ℕ → ℕ) (image : List Instr) (p : Todo M L) : Type 0 where
  pub few : (o : ℕ) → o < order.size → (t : ℕ) → 0 < t → FewShared v order serves g ls image p o t (seen_from v (lattice_of order) g image o t)

abbrev pub SharpSharedAll : {E : Type 0} → Env E → (Order → E → Type 0) → Type 0
SharpSharedAll v serves = (order : Order) (g ls : ℕ → ℕ) (image : List Instr) (p : Marked) → IsCompiled order g ls image p
    → SharpShared v order (serves order) g ls image p
