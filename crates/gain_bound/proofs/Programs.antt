-- Where runs show few, they are worth little.
use Rattle.std.proofs.Common.{ℕ, List}
use Rattle.mit_syntax.specs.Todo.{Todo}
use Rattle.mit_syntax.specs.Program.{plan_of}
use Rattle.label_lattice.specs.Order.{Order, lattice_of}
use Rattle.timing_types.specs.Labelled.{labels_of, levels_of}
use Rattle.env_contract.specs.Env.{Env}
use Rattle.label_code.specs.Run.{Start}
use Rattle.label_code.specs.declared.code.Instr.{Instr}
use Rattle.code_lower.specs.Lowered.{lowered}
use Rattle.leak_bound.specs.Over.{KeepsLaws}
use Rattle.leak_bound.specs.Sound.{seen_from}
use Rattle.sharp_bound.specs.End.{seen_to_end}
use Rattle.sharp_bound.specs.Sharp.{FewHalted, FewCut}
use Rattle.sharp_bound.specs.Shared.{FewShared}
use Rattle.sharp_history.proofs.Over.{lowered_sharp, lowered_cut, lowered_end, lowered_shared}
use Rattle.gain_bound.specs.Programs.{FewOfRuns, LoweredWorthOver}
use Rattle.gain_bound.proofs.Worth.{shown_is_worth_few}

module _ {E V M L : Type 0} (A : Type 0) (v : Env E) (order : Order) (serves : E → Type 0) (g ls : ℕ → ℕ) (image : List Instr) (p : Todo M L)
    (o t : ℕ) (view : Start E → V) where
  few_of_runs : FewHalted v order serves g ls image p o t view → FewCut v order serves g ls image p o t view
      → FewShared v order serves g ls image p o t view → FewOfRuns A v order serves g ls image p o t view
  few_of_runs halted cut shared =
      record {
        halted = λ starts agree halts firsts predicts same tests.
            let few = halted starts agree halts firsts predicts same tests in
            (few.0, few.1, shown_is_worth_few _ _ A view same tests starts _ few.2);
        cut = λ starts agree firsts predicts same tests.
            shown_is_worth_few _ _ A view same tests starts _ (cut starts agree firsts predicts same tests).0;
        shared = λ apart starts agree halts firsts predicts same tests.
            let few = shared apart starts agree halts firsts predicts same tests in
            (few.0, few.1, λ ways are. shown_is_worth_few _ _ A view same tests starts _ (few.2 ways are));
      }

module _ {E : Type 0} (A : Type 0) (v : Order → Env E) (serves : Order → E → Type 0) (laws : KeepsLaws v serves) where
  pub lowered_worth : LoweredWorthOver A v serves
  lowered_worth q is =
      let order = q.program.order in
      let image = (lowered q).instrs in
      let end = lowered_end v serves laws q is in
      record {
        timed = λ o low t some. few_of_runs A (v order) order (serves order) (labels_of q) (levels_of q) image (plan_of q.program) o t
            (seen_from (v order) (lattice_of order) (labels_of q) image o t)
            ((lowered_sharp v serves laws q is).few o low t some) ((lowered_cut v serves laws q is).few o low t some)
            ((lowered_shared v serves laws q is).few o low t some);
        ended = λ o low ends t some. few_of_runs A (v order) order (serves order) (labels_of q) (levels_of q) image (plan_of q.program) o t
            (seen_to_end (v order) (lattice_of order) (labels_of q) image o t)
            (end.halted o low ends t some) (end.cut o low ends t some) (end.shared o low ends t some);
      }
