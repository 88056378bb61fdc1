-- Few sequences are seen, by own first predictions.
use Rattle.std.proofs.Common.{◌≡◌, ℕ, ◌≤◌, List, [], length, refl, sym, ap, subst, arith}
use Rattle.std.specs.Prelude.{Bool}
use Rattle.mit_syntax.specs.Todo.{Marked, Done, commands_of, then_todo}
use Rattle.label_lattice.specs.Lattice.{Lattice}
use Rattle.label_lattice.specs.Order.{Order, lattice_of}
use Rattle.source_meaning.proofs.Begins.{then_done}
use Rattle.env_contract.specs.Env.{Env}
use Rattle.env_contract.specs.Laws.{IsLawful}
use Rattle.label_code.specs.Machine.{Core}
use Rattle.label_code.specs.Run.{Start}
use Rattle.label_code.specs.declared.code.Instr.{Instr}
use Rattle.label_code.proofs.Upto.{upto}
use Rattle.code_lower.specs.Follows.{told}
use Rattle.leak_bound.specs.Records.{Entry}
use Rattle.leak_bound.specs.Sound.{Halts, seen_from, IsCompiled}
use Rattle.leak_bound.proofs.Record.{grows_run}
use Rattle.leak_bound.proofs.Whole.{first_core}
use Rattle.sharp_bound.specs.End.{seen_to_end}
use Rattle.sharp_bound.specs.Firsts.{notes_to}
use Rattle.sharp_bound.specs.Shared.{StandApart}
use Rattle.sharp_bound.proofs.Choices.{choice_of, is_choice}
use Rattle.leak_bound.proofs.Headline.{rel, tells, found, record_at, Told, told_seen}
use Rattle.sharp_bound.proofs.Final.{told_to_end, few_by_choice}
use Rattle.leak_bound.proofs.Counting.{picked, is_at}
use Rattle.own_firsts.specs.Predicted.{PredictsOwn, PredictsOwnBy}
use Rattle.own_firsts.specs.Ways.{IsOwnWay, AreOwnWays}
use Rattle.own_firsts.specs.Own.{FewOwn, SharpOwn}
use Rattle.own_firsts.proofs.Choices.{cycles_within}
use Rattle.own_firsts.proofs.Fits.{At, Predicted, fits_run}
use Rattle.own_firsts.proofs.Following.{From}
use Rattle.own_firsts.proofs.Spent.{spent_own, under_digits}

-- from a program's start, before any note
from_start : {E : Type 0} {serves : E → Type 0} (v : Env E) (order : Order) (g ls : ℕ → ℕ) (image : List Instr) (p : Marked)
    (made : IsCompiled order g ls image p) (laws : IsLawful v (lattice_of order) serves) (o lim : ℕ) (rel : ℕ → Bool) (firsts : ℕ → ℕ → ℕ) (total : ℕ)
    (s : Core E) → s.log ≡ [] → PredictsOwn rel ls firsts p s.memory total
    → At v (lattice_of order) made.lattice laws g o lim rel ls firsts total (then_todo (commands_of p) Done) s
from_start v order g ls image p made laws o lim rel firsts total s none h =
    let lat = lattice_of order in
    let start : [] ≡ told (upto lim s.log) = ap (λ z. told (upto lim z)) (sym none) in
    subst (λ z. At v lat made.lattice laws g o lim rel ls firsts total z s) (sym (then_done (commands_of p)))
    (subst (λ z. From v lat g o lim (Predicted v lat made.lattice laws g o lim rel ls firsts total) (commands_of p) s.memory z) start h)

module _ {E : Type 0} {serves : E → Type 0} (v : Env E) (order : Order) (g ls : ℕ → ℕ) (image : List Instr) (p : Marked) (made : IsCompiled order g ls image p)
    (laws : IsLawful v (lattice_of order) serves) where
  abbrev lat : Lattice
  lat = lattice_of order

  abbrev relevant : ℕ → ℕ → Bool
  relevant o = rel v order g ls image p made laws o

  abbrev record_to : ℕ → ℕ → Start E → List Entry
  record_to o t s = record_at v order g ls image p made laws o t s

  spent_by : (o t : ℕ) (firsts : ℕ → ℕ → ℕ) (s : Start E) → StandApart (relevant o) (commands_of p) → PredictsOwnBy v lat g ls image p o t firsts s
      → Halts v image t s → spent_own firsts (λ l. 0) (record_to o t s) ≤ t
  spent_by o t firsts s apart predicts halts =
      let w = (found v order g ls image p made laws t s).whole in
      let by = w.in_time halts in
      let total = notes_to v image t s in
      let told_all = ap (λ z. length (told z)) w.log in
      omega (
        arith,
        by,
        fits_run v lat made.lattice laws g o t (relevant o) ls firsts total lat.bottom (tells v order g ls image p made laws o) made.told apart
            (made.lattice.lowest o) w.run Done
            (from_start v order g ls image p made laws o t (relevant o) firsts total (first_core v lat g image p made.code t s) refl predicts) by
            (omega (arith, told_all)) (λ l. 0) (λ l. refl),
      )

  -- a start's choice is a way
  its_way : (o t : ℕ) (firsts : ℕ → ℕ → ℕ) (counts : ℕ → ℕ) → StandApart (relevant o) (commands_of p) → (s : Start E)
      → PredictsOwnBy v lat g ls image p o t firsts s → Halts v image t s → ((l : ℕ) → picked (is_at l) (record_to o t s) ≡ counts l)
      → IsOwnWay t firsts order.size counts (choice_of order.size (record_to o t s))
  its_way o t firsts counts apart s predicts halts h =
      let r = record_to o t s in
      let spent = spent_by o t firsts s apart predicts halts in (
        is_choice _ counts order.size r (under_digits firsts (λ l. 0) t r spent)
            (grows_run v lat g o t (found v order g ls image p made laws t s).whole.run).rises h,
        omega (arith, spent, cycles_within firsts order.size r),
      )

  few_own : {V : Type 0} (o t : ℕ) → (view : Start E → V) → Told v order g ls image p made laws o t view → FewOwn v order serves g ls image p o t view
  few_own o t view tells_view apart starts agree halts firsts predicts same tests =
      few_by_choice v order g ls image p made laws o t view tells_view (PredictsOwnBy v lat g ls image p o t firsts)
      (λ counts ways. AreOwnWays t firsts order.size counts ways)
      (λ counts ways are s its halt h. are.whole (choice_of order.size (record_to o t s)) (its_way o t firsts counts apart s its halt h))
      starts agree halts predicts same tests

  pub is_own : SharpOwn v order serves g ls image p p
  is_own =
      record {
        few = λ o low t some. few_own o t (seen_from v lat g image o t) (told_seen v order g ls image p made laws o t);
        ended = λ o low ends t some. few_own o t (seen_to_end v lat g image o t) (told_to_end v order g ls image p made laws o t ends);
      }
