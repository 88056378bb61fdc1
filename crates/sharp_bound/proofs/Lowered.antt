-- What is true of commands with labels is true of the same commands without them.
use Rattle.std.proofs.Common.{◌≡◌, ◌≤◌, ℕ, ◌+◌, List, [], ◌∷◌, sym, ap, ◌∙◌, subst, ◌<◌, length}
use Rattle.std.specs.Prelude.{eqb, ◌&&◌, ℤ}
use Rattle.std.specs.List.{count_by}
use Rattle.mit_syntax.specs.Todo.{Todo, commands_of}
use Rattle.mit_syntax.specs.Program.{plan_of}
use Rattle.label_lattice.specs.Lattice.{Lattice}
use Rattle.label_lattice.specs.Order.{Order, lattice_of}
use Rattle.timing_types.specs.Labelled.{labels_of, levels_of, bare_of}
use Rattle.timing_types.proofs.Commands.{keep_commands}
use Rattle.source_meaning.specs.Source.{started_in, notes_of, marks_of, source_start, source_steps}
use Rattle.source_meaning.proofs.Same.{same_commands}
use Rattle.env_contract.specs.Env.{Env}
use Rattle.label_code.specs.Run.{Start}
use Rattle.label_code.specs.declared.code.Instr.{Instr}
use Rattle.code_lower.specs.Lowered.{lowered}
use Rattle.leak_bound.specs.Relevant.{is_relevant}
use Rattle.leak_bound.specs.Sound.{bound, FirstBegins, most_ended}
use Rattle.leak_bound.proofs.Few.{Each-map}
use Rattle.leak_bound.proofs.Source.{relevant-same, begins_same, made_of}
use Rattle.leak_bound.specs.Rising.{sharp}
use Rattle.sharp_bound.specs.Firsts.{PredictsNext, Predicts, PredictsBy, notes_to}
use Rattle.sharp_bound.specs.Guess.{FewShown}
use Rattle.sharp_bound.specs.Sharp.{relevant_at, BeginsEach, ends_by, FewHalted, FewCut, SharpSoundAll, SharpCutAll}
use Rattle.sharp_bound.specs.End.{SharpEndAll}
use Rattle.sharp_bound.specs.Shared.{StandApart, FewShared, SharpSharedAll}
use Rattle.sharp_bound.specs.Lowered.{LoweredSharpAll, LoweredSharpCutAll, LoweredSharpEndAll, LoweredSharedAll}

module _ {M L M' L' : Type 0} (p : Todo M L) (q : Todo M' L') (e : commands_of p ≡ commands_of q) (lat : Lattice) (g ls : ℕ → ℕ) (o : ℕ) where
  predicts_same : (firsts : ℕ → ℕ) (m : List ℤ) (total : ℕ) → Predicts (is_relevant lat g ls o q) ls firsts q m total
      → Predicts (is_relevant lat g ls o p) ls firsts p m total
  predicts_same firsts m total h =
      subst (λ rel. Predicts rel ls firsts p m total) (sym (relevant-same p q e lat g ls o))
      (subst (λ c. (n : ℕ) → length (notes_of c m n) < total
      → PredictsNext (is_relevant lat g ls o q) ls firsts (source_steps n (source_start c m)).todo (source_steps n (source_start c m)).memory) (sym e) h)

  pub begins_each_same : (m : List ℤ) (counts : ℕ → ℕ) → BeginsEach lat g ls o p m counts → BeginsEach lat g ls o q m counts
  begins_each_same m counts b =
      let means = same_commands p q e in (
        b.0,
        (means.ends m b.0).0 b.1,
        λ l. ap (λ z. count_by (λ k. z k && eqb (ls k) l) (marks_of q m b.0)) (sym (relevant-same p q e lat g ls o))
            ∙ ap (λ z. count_by (relevant_at lat g ls o p l) (started_in z)) (sym (means.tells m b.0))
            ∙ b.2 l,
      )

  first_same : {E : Type 0} (starts : List (Start E)) (k : ℕ) → FirstBegins lat g ls o p starts k → FirstBegins lat g ls o q starts k
  first_same [] k h = h
  first_same (s ∷ starts) k h = begins_same p q e lat g ls o s.memory k h

module _ {E V M L M' L' : Type 0} (v : Env E) (order : Order) (serves : E → Type 0) (g ls : ℕ → ℕ) (image : List Instr) (p : Todo M L) (q : Todo M' L')
    (e : commands_of p ≡ commands_of q) (o t : ℕ) (view : Start E → V) where
  abbrev lat : Lattice
  lat = lattice_of order

  pub few_halted_same : FewHalted v order serves g ls image p o t view → FewHalted v order serves g ls image q o t view
  few_halted_same few starts agree halts firsts predicts same tests =
      let r = few starts agree halts firsts
      (Each-map (PredictsBy v lat g ls image q o t firsts) (PredictsBy v lat g ls image p o t firsts)
      (λ s a. predicts_same p q e lat g ls o firsts s.memory (notes_to v image t s) a) starts predicts)
      same tests in (
        r.0,
        Each-map (λ (s : Start E). BeginsEach lat g ls o p s.memory r.0) (λ s. BeginsEach lat g ls o q s.memory r.0)
            (λ s b. begins_each_same p q e lat g ls o s.memory r.0 b) starts r.1,
        r.2,
        λ k b. r.3 k (first_same q p (sym e) lat g ls o starts k b),
      )

  pub few_cut_same : FewCut v order serves g ls image p o t view → FewCut v order serves g ls image q o t view
  few_cut_same few starts agree firsts predicts same tests =
      subst
      (λ rel.
      FewShown view same starts (sharp (λ l. ends_by t firsts l + 1) order.size (λ l. most_ended v image (λ k. rel k && eqb (ls k) l) t starts))
      × (sharp (λ l. ends_by t firsts l + 1) order.size (λ l. most_ended v image (λ k. rel k && eqb (ls k) l) t starts) ≤ bound order o t
      (most_ended v image rel t starts)))
      (relevant-same p q e lat g ls o)
      (few starts agree firsts
      (Each-map (PredictsBy v lat g ls image q o t firsts) (PredictsBy v lat g ls image p o t firsts)
      (λ s a. predicts_same p q e lat g ls o firsts s.memory (notes_to v image t s) a) starts predicts)
      same tests)

  pub few_shared_same : FewShared v order serves g ls image p o t view → FewShared v order serves g ls image q o t view
  few_shared_same few apart starts agree halts firsts predicts same tests =
      let apart' : StandApart (is_relevant lat g ls o p) (commands_of p) =
      subst (λ rel. StandApart rel (commands_of p)) (sym (relevant-same p q e lat g ls o)) (subst (StandApart (is_relevant lat g ls o q)) (sym e) apart) in
      let r = few apart' starts agree halts firsts
      (Each-map (PredictsBy v lat g ls image q o t firsts) (PredictsBy v lat g ls image p o t firsts)
      (λ s a. predicts_same p q e lat g ls o firsts s.memory (notes_to v image t s) a) starts predicts)
      same tests in (
        r.0,
        Each-map (λ (s : Start E). BeginsEach lat g ls o p s.memory r.0) (λ s. BeginsEach lat g ls o q s.memory r.0)
            (λ s b. begins_each_same p q e lat g ls o s.memory r.0 b) starts r.1,
        r.2,
      )

module _ {E : Type 0} (v : Env E) (serves : Order → E → Type 0) where
  pub lowered_sharp : SharpSoundAll v serves → LoweredSharpAll v serves
  lowered_sharp all q is =
      let few = (all q.program.order (labels_of q) (levels_of q) (lowered q).instrs (bare_of q) (made_of q is)).few in
      record {
        few = λ o low t some. few_halted_same v q.program.order (serves q.program.order) (labels_of q) (levels_of q) (lowered q).instrs (bare_of q)
            (plan_of q.program) (keep_commands q) o t _ (few o low t some);
      }

  pub lowered_cut : SharpCutAll v serves → LoweredSharpCutAll v serves
  lowered_cut all q is =
      let few = (all q.program.order (labels_of q) (levels_of q) (lowered q).instrs (bare_of q) (made_of q is)).few in
      record {
        few = λ o low t some. few_cut_same v q.program.order (serves q.program.order) (labels_of q) (levels_of q) (lowered q).instrs (bare_of q)
            (plan_of q.program) (keep_commands q) o t _ (few o low t some);
      }

  pub lowered_end : SharpEndAll v serves → LoweredSharpEndAll v serves
  lowered_end all q is =
      let both = all q.program.order (labels_of q) (levels_of q) (lowered q).instrs (bare_of q) (made_of q is) in
      record {
        halted = λ o low ends t some. few_halted_same v q.program.order (serves q.program.order) (labels_of q) (levels_of q) (lowered q).instrs (bare_of q)
            (plan_of q.program) (keep_commands q) o t _ (both.halted o low ends t some);
        cut = λ o low ends t some. few_cut_same v q.program.order (serves q.program.order) (labels_of q) (levels_of q) (lowered q).instrs (bare_of q)
            (plan_of q.program) (keep_commands q) o t _ (both.cut o low ends t some);
        shared = λ o low ends t some. few_shared_same v q.program.order (serves q.program.order) (labels_of q) (levels_of q) (lowered q).instrs (bare_of q)
            (plan_of q.program) (keep_commands q) o t _ (both.shared o low ends t some);
      }

  pub lowered_shared : SharpSharedAll v serves → LoweredSharedAll v serves
  lowered_shared all q is =
      let few = (all q.program.order (labels_of q) (levels_of q) (lowered q).instrs (bare_of q) (made_of q is)).few in
      record {
        few = λ o low t some. few_shared_same v q.program.order (serves q.program.order) (labels_of q) (levels_of q) (lowered q).instrs (bare_of q)
            (plan_of q.program) (keep_commands q) o t _ (few o low t some);
      }
