-- What runs that have halted leave agrees where their starts agree.
use Rattle.std.proofs.Common.{ℕ, List, sym, subst}
use Rattle.mit_syntax.specs.Todo.{Marks, Marked}
use Rattle.label_lattice.specs.Lattice.{Lattice}
use Rattle.label_lattice.specs.Order.{Order, lattice_of}
use Rattle.env_contract.specs.Env.{Env}
use Rattle.env_contract.specs.Laws.{IsLawful}
use Rattle.label_code.specs.Run.{Start, run_from}
use Rattle.label_code.specs.declared.code.Instr.{Instr}
use Rattle.code_lower.specs.Layout.{size}
use Rattle.leak_bound.specs.Sound.{Agree, Halts, IsCompiled}
use Rattle.leak_bound.proofs.Headline as known
use Rattle.leak_bound.proofs.Low.{SameLow, fetched_low}
use Rattle.leak_bound.proofs.Whole.{past_halt}
use Rattle.further_counts.specs.Twice.{left_by}

module _ {E : Type 0} {serves : E → Type 0} (v : Env E) (order : Order) (g ls : ℕ → ℕ) (image : List Instr) (p : Marked) (made : IsCompiled order g ls image p)
    (laws : IsLawful v (lattice_of order) serves) where
  abbrev lat : Lattice
  lat = lattice_of order

  pub leaves_agree : (o t : ℕ) (x y : Start E) → Agree v lat serves g o x y → Halts v image t x → Halts v image t y
      → Agree v lat serves g o (left_by v image t x) (left_by v image t y)
  leaves_agree o t x y a h h' =
      let u = known.found v order g ls image p made laws t x in
      let w = known.found v order g ls image p made laws t y in
      let bottoms : Marks = record { er = lat.bottom; ew = lat.bottom } in
      let same = fetched_low v lat made.lattice laws g o t bottoms (size p) u.whole.after w.whole.after
      ((known.pair_of v order g ls image p made laws o t made.typed x y a).low (u.whole.in_time h) (w.whole.in_time h')) in
      let both = subst (λ c. SameLow v lat made.lattice laws g o t c (run_from v image t y).core) (sym (u.at_core h))
      (subst (λ c. SameLow v lat made.lattice laws g o t (past_halt v lat g image p made.code t u.whole.after) c) (sym (w.at_core h')) same) in
      record { one = both.one; other = both.other; long = both.long; low = both.memory; parts = both.parts }
