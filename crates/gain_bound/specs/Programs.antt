-- What the runs of an accepted program are worth to one who sees them, whatever the starts weigh and whatever is asked of them.
use Rattle.std.specs.Prelude.{ℕ, ◌<◌, List, length, Bool}
use Rattle.mit_syntax.specs.Todo.{Todo, commands_of}
use Rattle.mit_syntax.specs.Program.{plan_of}
use Rattle.label_lattice.specs.Order.{Order, lattice_of}
use Rattle.timing_types.specs.Labelled.{LabelledProgram, labels_of, levels_of, bare_of}
use Rattle.env_contract.specs.Env.{Env}
use Rattle.label_code.specs.Run.{Start}
use Rattle.label_code.specs.declared.code.Instr.{Instr}
use Rattle.code_lower.specs.Lowered.{lowered}
use Rattle.leak_bound.specs.Relevant.{is_relevant}
use Rattle.leak_bound.specs.Records.{Each, Pairwise, Tests}
use Rattle.leak_bound.specs.Sound.{Agree, seen_from, Halts}
use Rattle.leak_bound.specs.Source.{IsTypedWith}
use Rattle.leak_bound.specs.Rising.{sharp}
use Rattle.sharp_count.specs.Ways.{AreWays}
use Rattle.sharp_bound.specs.End.{seen_to_end, EndsLow}
use Rattle.sharp_bound.specs.Firsts.{PredictsBy}
use Rattle.sharp_bound.specs.Shared.{StandApart}
use Rattle.sharp_bound.specs.Sharp.{BeginsEach, ends_by, cut_count}
use Rattle.gain_bound.specs.Worth.{FewWorth}

-- Of starts that agree pairwise for an observer, with whatever weights: seeing a view of their runs multiplies what the best
-- of any actions A gains by at most a count, and tells at most the logarithm of that count.
module _ {E V M L : Type 0} (A : Type 0) (v : Env E) (order : Order) (serves : E → Type 0) (g ls : ℕ → ℕ) (image : List Instr) (p : Todo M L)
    (o t : ℕ) (view : Start E → V) where
  -- where the runs halt by T, the sharp count
  abbrev pub WorthHalted : Type 0
  WorthHalted =
      (starts : List (Start E)) →
      Pairwise (Agree v (lattice_of order) serves g o) starts → Each (Halts v image t) starts →
      (firsts : ℕ → ℕ) → Each (λ s. PredictsBy v (lattice_of order) g ls image p o t firsts s) starts →
      (same : V → V → Bool) → Tests same →
      (counts : ℕ → ℕ)
      × Each (λ s. BeginsEach (lattice_of order) g ls o p s.memory counts) starts
      × FewWorth A view same starts (sharp (ends_by t firsts) order.size counts)

  -- whether or not they halt, the count of runs that may be cut
  abbrev pub WorthCut : Type 0
  WorthCut =
      (starts : List (Start E)) → Pairwise (Agree v (lattice_of order) serves g o) starts →
      (firsts : ℕ → ℕ) → Each (λ s. PredictsBy v (lattice_of order) g ls image p o t firsts s) starts →
      (same : V → V → Bool) → Tests same →
      FewWorth A view same starts (cut_count v order g ls image p o t firsts starts)

  -- where they halt by T, and no relevant mitigate stands in another, the count by shared time
  abbrev pub WorthShared : Type 0
  WorthShared =
      StandApart (is_relevant (lattice_of order) g ls o p) (commands_of p) →
      (starts : List (Start E)) →
      Pairwise (Agree v (lattice_of order) serves g o) starts → Each (Halts v image t) starts →
      (firsts : ℕ → ℕ) → Each (λ s. PredictsBy v (lattice_of order) g ls image p o t firsts s) starts →
      (same : V → V → Bool) → Tests same →
      (counts : ℕ → ℕ)
      × Each (λ s. BeginsEach (lattice_of order) g ls o p s.memory counts) starts
      × ((ways : List (List (List ℕ))) → AreWays t firsts order.size counts ways → FewWorth A view same starts (length ways))

  pub record FewOfRuns : Type 0 where
    pub halted : WorthHalted
    pub cut : WorthCut
    pub shared : WorthShared

-- For a labelled program, in environments of which there is one for each lattice: of the assignments that the observer sees,
-- with their cycles; and, where the end label flows to the observer, of these and the cycle of the end.
module _ {E : Type 0} (A : Type 0) (v : Order → Env E) (serves : Order → E → Type 0) where
  abbrev pub WorthIn : LabelledProgram → ℕ → ℕ → {V : Type 0} → (Start E → V) → Type 0
  WorthIn q o t view =
      FewOfRuns A (v q.program.order) q.program.order (serves q.program.order) (labels_of q) (levels_of q) (lowered q).instrs (plan_of q.program) o t view

  pub record WorthLowered (q : LabelledProgram) : Type 0 where
    pub timed : (o : ℕ) → o < q.program.order.size → (t : ℕ) → 0 < t →
        WorthIn q o t (seen_from (v q.program.order) (lattice_of q.program.order) (labels_of q) (lowered q).instrs o t)
    pub ended : (o : ℕ) → o < q.program.order.size → EndsLow (lattice_of q.program.order) (labels_of q) (bare_of q) o → (t : ℕ) → 0 < t →
        WorthIn q o t (seen_to_end (v q.program.order) (lattice_of q.program.order) (labels_of q) (lowered q).instrs o t)

  abbrev pub LoweredWorthOver : Type 0
  LoweredWorthOver = (q : LabelledProgram) → IsTypedWith q → WorthLowered q
