-- In environments that keep the laws, one for each lattice, the sharp count holds of what `lower` makes.
use Rattle.mit_syntax.specs.Program.{plan_of}
use Rattle.label_lattice.specs.Order.{Order}
use Rattle.timing_types.specs.Labelled.{labels_of, levels_of, bare_of}
use Rattle.timing_types.proofs.Commands.{keep_commands}
use Rattle.env_contract.specs.Env.{Env}
use Rattle.code_lower.specs.Lowered.{lowered}
use Rattle.leak_bound.specs.Over.{KeepsLaws}
use Rattle.leak_bound.proofs.Source.{made_of}
use Rattle.sharp_bound.proofs.Final.{is_sharp, is_sharp_cut, is_sharp_end, is_shared}
use Rattle.sharp_bound.proofs.Lowered.{few_halted_same, few_cut_same, few_shared_same}
use Rattle.own_firsts.proofs.Final.{is_own}
use Rattle.own_firsts.proofs.Lowered.{few_own_same}
use Rattle.sharp_history.specs.Over.{LoweredSharpOver, LoweredSharpCutOver, LoweredSharpEndOver, LoweredSharedOver, LoweredOwnOver}

module _ {E : Type 0} (v : Order → Env E) (serves : Order → E → Type 0) (laws : KeepsLaws v serves) where
  pub lowered_sharp : LoweredSharpOver v serves
  lowered_sharp q is =
      let order = q.program.order in
      let made = made_of q is in
      let few = (is_sharp (v order) order (labels_of q) (levels_of q) (lowered q).instrs (bare_of q) made (laws order made.lattice)).few in
      record {
        few = λ o low t some. few_halted_same (v order) order (serves order) (labels_of q) (levels_of q) (lowered q).instrs (bare_of q)
            (plan_of q.program) (keep_commands q) o t _ (few o low t some);
      }

  pub lowered_cut : LoweredSharpCutOver v serves
  lowered_cut q is =
      let order = q.program.order in
      let made = made_of q is in
      let few = (is_sharp_cut (v order) order (labels_of q) (levels_of q) (lowered q).instrs (bare_of q) made (laws order made.lattice)).few in
      record {
        few = λ o low t some. few_cut_same (v order) order (serves order) (labels_of q) (levels_of q) (lowered q).instrs (bare_of q) (plan_of q.program)
            (keep_commands q) o t _ (few o low t some);
      }

  pub lowered_end : LoweredSharpEndOver v serves
  lowered_end q is =
      let order = q.program.order in
      let made = made_of q is in
      let both = is_sharp_end (v order) order (labels_of q) (levels_of q) (lowered q).instrs (bare_of q) made (laws order made.lattice) in
      record {
        halted = λ o low ends t some. few_halted_same (v order) order (serves order) (labels_of q) (levels_of q) (lowered q).instrs (bare_of q)
            (plan_of q.program) (keep_commands q) o t _ (both.halted o low ends t some);
        cut = λ o low ends t some. few_cut_same (v order) order (serves order) (labels_of q) (levels_of q) (lowered q).instrs (bare_of q) (plan_of q.program)
            (keep_commands q) o t _ (both.cut o low ends t some);
        shared = λ o low ends t some. few_shared_same (v order) order (serves order) (labels_of q) (levels_of q) (lowered q).instrs (bare_of q)
            (plan_of q.program) (keep_commands q) o t _ (both.shared o low ends t some);
      }

  pub lowered_shared : LoweredSharedOver v serves
  lowered_shared q is =
      let order = q.program.order in
      let made = made_of q is in
      let few = (is_shared (v order) order (labels_of q) (levels_of q) (lowered q).instrs (bare_of q) made (laws order made.lattice)).few in
      record {
        few = λ o low t some. few_shared_same (v order) order (serves order) (labels_of q) (levels_of q) (lowered q).instrs (bare_of q)
            (plan_of q.program) (keep_commands q) o t _ (few o low t some);
      }

  pub lowered_own : LoweredOwnOver v serves
  lowered_own q is =
      let order = q.program.order in
      let made = made_of q is in
      let own = is_own (v order) order (labels_of q) (levels_of q) (lowered q).instrs (bare_of q) made (laws order made.lattice) in
      record {
        few = λ o low t some. few_own_same (v order) order (serves order) (labels_of q) (levels_of q) (lowered q).instrs (bare_of q)
            (plan_of q.program) (keep_commands q) o t _ (own.few o low t some);
        ended = λ o low ends t some. few_own_same (v order) order (serves order) (labels_of q) (levels_of q) (lowered q).instrs (bare_of q)
            (plan_of q.program) (keep_commands q) o t _ (own.ended o low ends t some);
      }
