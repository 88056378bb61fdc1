-- Runs after each other, of labelled programs.
use Rattle.std.proofs.Common.{subst}
use Rattle.mit_syntax.specs.Program.{plan_of}
use Rattle.label_lattice.specs.Order.{Order}
use Rattle.timing_types.specs.Labelled.{labels_of, levels_of, bare_of}
use Rattle.env_contract.specs.Env.{Env}
use Rattle.code_lower.specs.Lowered.{lowered}
use Rattle.leak_bound.proofs.Source.{made_of}
use Rattle.sharp_bound.specs.Sharp.{SharpSoundAll, SharpCutAll, SharpSound, SharpCut}
use Rattle.sharp_bound.proofs.Lowered.{lowered_sharp, lowered_cut}
use Rattle.further_counts.specs.Lowered.{LoweredManyAll, LoweredLeavesAgree}
use Rattle.further_counts.specs.Twice.{LeavesAgree}
use Rattle.further_counts.proofs.Many.{is_sharp_many}

module _ {E : Type 0} (v : Env E) (serves : Order → E → Type 0) where
  pub lowered_many : (X : Type 0) → SharpSoundAll v serves → SharpCutAll v serves → LoweredManyAll X v serves
  lowered_many X all all_cut order q is =
      is_sharp_many v order (λ i. labels_of (q i)) (λ i. levels_of (q i)) (λ i. (lowered (q i)).instrs) (λ i. plan_of (q i).program)
      (λ i. subst (λ z. SharpSound v z (serves z) (labels_of (q i)) (levels_of (q i)) (lowered (q i)).instrs (plan_of (q i).program)) (is i).1
      (lowered_sharp v serves all (q i) (is i).0))
      (λ i. subst (λ z. SharpCut v z (serves z) (labels_of (q i)) (levels_of (q i)) (lowered (q i)).instrs (plan_of (q i).program)) (is i).1
      (lowered_cut v serves all_cut (q i) (is i).0))

  pub lowered_left : LeavesAgree v serves → LoweredLeavesAgree v serves
  lowered_left all q is = all q.program.order (labels_of q) (levels_of q) (lowered q).instrs (bare_of q) (made_of q is)
