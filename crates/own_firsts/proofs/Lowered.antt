-- What is true of commands with labels is true of the same commands without them.
use Rattle.std.proofs.Common.{◌≡◌, ◌<◌, ℕ, List, length, sym, subst}
use Rattle.std.specs.Prelude.{ℤ}
use Rattle.mit_syntax.specs.Todo.{Todo, commands_of}
use Rattle.mit_syntax.specs.Program.{plan_of}
use Rattle.label_lattice.specs.Lattice.{Lattice}
use Rattle.label_lattice.specs.Order.{Order, lattice_of}
use Rattle.timing_types.specs.Labelled.{labels_of, levels_of, bare_of}
use Rattle.timing_types.proofs.Commands.{keep_commands}
use Rattle.source_meaning.specs.Source.{notes_of, source_start, source_steps}
use Rattle.env_contract.specs.Env.{Env}
use Rattle.label_code.specs.Run.{Start}
use Rattle.label_code.specs.declared.code.Instr.{Instr}
use Rattle.code_lower.specs.Lowered.{lowered}
use Rattle.leak_bound.specs.Relevant.{is_relevant}
use Rattle.leak_bound.proofs.Few.{Each-map}
use Rattle.leak_bound.proofs.Source.{relevant-same, made_of}
use Rattle.sharp_bound.specs.Firsts.{PredictsNext, notes_to}
use Rattle.sharp_bound.specs.Shared.{StandApart}
use Rattle.sharp_bound.specs.Sharp.{BeginsEach}
use Rattle.sharp_bound.proofs.Lowered.{begins_each_same}
use Rattle.own_firsts.specs.Predicted.{begun_of, PredictsOwn, PredictsOwnBy}
use Rattle.own_firsts.specs.Own.{FewOwn, SharpOwnAll, LoweredOwnAll}

module _ {M L M' L' : Type 0} (p : Todo M L) (q : Todo M' L') (e : commands_of p ≡ commands_of q) (lat : Lattice) (g ls : ℕ → ℕ) (o : ℕ) where
  predicts_same : (firsts : ℕ → ℕ → ℕ) (m : List ℤ) (total : ℕ) → PredictsOwn (is_relevant lat g ls o q) ls firsts q m total
      → PredictsOwn (is_relevant lat g ls o p) ls firsts p m total
  predicts_same firsts m total h =
      subst (λ rel. PredictsOwn rel ls firsts p m total) (sym (relevant-same p q e lat g ls o))
      (subst (λ c. (n : ℕ) → length (notes_of c m n) < total
      → PredictsNext (is_relevant lat g ls o q) ls (λ l. firsts l (begun_of (is_relevant lat g ls o q) ls (notes_of c m n) l))
      (source_steps n (source_start c m)).todo (source_steps n (source_start c m)).memory) (sym e) h)

module _ {E V M L M' L' : Type 0} (v : Env E) (order : Order) (serves : E → Type 0) (g ls : ℕ → ℕ) (image : List Instr) (p : Todo M L) (q : Todo M' L')
    (e : commands_of p ≡ commands_of q) (o t : ℕ) (view : Start E → V) where
  abbrev lat : Lattice
  lat = lattice_of order

  pub few_own_same : FewOwn v order serves g ls image p o t view → FewOwn v order serves g ls image q o t view
  few_own_same few apart starts agree halts firsts predicts same tests =
      let apart' : StandApart (is_relevant lat g ls o p) (commands_of p) =
      subst (λ rel. StandApart rel (commands_of p)) (sym (relevant-same p q e lat g ls o)) (subst (StandApart (is_relevant lat g ls o q)) (sym e) apart) in
      let r = few apart' starts agree halts firsts
      (Each-map (PredictsOwnBy v lat g ls image q o t firsts) (PredictsOwnBy v lat g ls image p o t firsts)
      (λ s a. predicts_same p q e lat g ls o firsts s.memory (notes_to v image t s) a) starts predicts)
      same tests in (
        r.0,
        Each-map (λ (s : Start E). BeginsEach lat g ls o p s.memory r.0) (λ s. BeginsEach lat g ls o q s.memory r.0)
            (λ s b. begins_each_same p q e lat g ls o s.memory r.0 b) starts r.1,
        r.2,
      )

module _ {E : Type 0} (v : Env E) (serves : Order → E → Type 0) where
  pub lowered_own : SharpOwnAll v serves → LoweredOwnAll v serves
  lowered_own all q is =
      let own = all q.program.order (labels_of q) (levels_of q) (lowered q).instrs (bare_of q) (made_of q is) in
      record {
        few = λ o low t some. few_own_same v q.program.order (serves q.program.order) (labels_of q) (levels_of q) (lowered q).instrs (bare_of q)
            (plan_of q.program) (keep_commands q) o t _ (own.few o low t some);
        ended = λ o low ends t some. few_own_same v q.program.order (serves q.program.order) (labels_of q) (levels_of q) (lowered q).instrs (bare_of q)
            (plan_of q.program) (keep_commands q) o t _ (own.ended o low ends t some);
      }
