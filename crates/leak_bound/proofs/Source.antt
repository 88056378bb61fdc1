-- What is true of commands with labels is true of the same commands without them.
use Rattle.std.proofs.Common.{◌≡◌, ◌≤◌, ℕ, List, [], ◌∷◌, ◌++◌, refl, sym, ap, ◌∙◌, subst, map}
use Rattle.std.specs.Prelude.{false, not, ◌&&◌, ℤ, slice_index_or}
use Rattle.std.specs.List.{count_by}
use Rattle.mit_syntax.specs.Todo.{Todo, Done, Skip, Assign, Put, Sleep, If, While, Mitigate, map_todo, commands_of}
use Rattle.mit_syntax.specs.Program.{plan_of}
use Rattle.label_lattice.specs.Lattice.{Lattice}
use Rattle.label_lattice.specs.Order.{Order, lattice_of}
use Rattle.timing_types.specs.Typing.{label_of}
use Rattle.timing_types.specs.Labelled.{LabelledProgram, order_of, labels_of, levels_of, bare_of}
use Rattle.timing_types.proofs.Commands.{keep_commands}
use Rattle.source_meaning.specs.Source.{started_in, marks_of}
use Rattle.source_meaning.proofs.Same.{same_commands}
use Rattle.env_contract.specs.Env.{Env}
use Rattle.label_code.specs.Run.{Start}
use Rattle.label_code.specs.declared.code.Instr.{Instr}
use Rattle.code_lower.specs.Lowered.{lowered}
use Rattle.code_lower.proofs.Stands.{image_is}
use Rattle.code_lower.proofs.Meaning.{order_same}
use Rattle.leak_bound.specs.Records.{distinct_count}
use Rattle.leak_bound.specs.Relevant.{relevances, is_relevant, Begins}
use Rattle.leak_bound.specs.Sound.{seen_from, bound, FirstBegins, Sound, ShowsOne, CutSound, most_ended, IsCompiled}
use Rattle.leak_bound.specs.Source.{SameCounts, IsTypedWith}
use Rattle.leak_bound.proofs.Compiled.{compiled}
use Rattle.leak_bound.proofs.Few.{Each-map}

module _ {M L M' L' : Type 0} (f : M → M') (h : L → L') (lat : Lattice) (g ls : ℕ → ℕ) (o : ℕ) where
  relevances-map : (p : Todo M L) (pc : ℕ) → relevances lat g ls o pc (map_todo f h p) ≡ relevances lat g ls o pc p
  relevances-map Done pc = refl
  relevances-map (Skip m p) pc = relevances-map p pc
  relevances-map (Assign m x e p) pc = relevances-map p pc
  relevances-map (Put m a n i e p) pc = relevances-map p pc
  relevances-map (Sleep m e p) pc = relevances-map p pc
  relevances-map (If m e a b p) pc =
      let inner = lat.join pc (label_of lat g e) in
      ap (λ z. z ++ (relevances lat g ls o inner (map_todo f h b) ++ relevances lat g ls o pc (map_todo f h p))) (relevances-map a inner)
      ∙ ap (λ z. relevances lat g ls o inner a ++ (z ++ relevances lat g ls o pc (map_todo f h p))) (relevances-map b inner)
      ∙ ap (λ z. relevances lat g ls o inner a ++ (relevances lat g ls o inner b ++ z)) (relevances-map p pc)
  relevances-map (While m e c p) pc =
      let inner = lat.join pc (label_of lat g e) in
      ap (λ z. z ++ relevances lat g ls o pc (map_todo f h p)) (relevances-map c inner)
      ∙ ap (λ z. relevances lat g ls o inner c ++ z) (relevances-map p pc)
  relevances-map (Mitigate m k l e c p) pc =
      let own = lat.flows pc o && not (lat.flows (ls k) o) in
      ap (λ z. own ∷ (z ++ relevances lat g ls o pc (map_todo f h p))) (relevances-map c pc)
      ∙ ap (λ z. own ∷ (relevances lat g ls o pc c ++ z)) (relevances-map p pc)

module _ {M L M' L' : Type 0} (p : Todo M L) (q : Todo M' L') (e : commands_of p ≡ commands_of q) (lat : Lattice) (g ls : ℕ → ℕ) (o : ℕ) where
  pub relevances-same : (pc : ℕ) → relevances lat g ls o pc p ≡ relevances lat g ls o pc q
  relevances-same pc =
      sym (relevances-map (λ _. tt) (λ _. tt) lat g ls o p pc)
      ∙ ap (λ z. relevances lat g ls o pc z) e
      ∙ relevances-map (λ _. tt) (λ _. tt) lat g ls o q pc

  pub relevant-same : is_relevant lat g ls o p ≡ is_relevant lat g ls o q
  relevant-same = ap (λ z k. slice_index_or z k false) (relevances-same lat.bottom)

  pub begins_same : (m : List ℤ) (k : ℕ) → Begins lat g ls o p m k → Begins lat g ls o q m k
  begins_same m k b =
      let means = same_commands p q e in (
        b.0,
        (means.ends m b.0).0 b.1,
        ap (λ z. count_by z (marks_of q m b.0)) (sym relevant-same)
            ∙ ap (λ z. count_by (is_relevant lat g ls o p) (started_in z)) (sym (means.tells m b.0))
            ∙ b.2,
      )

  first_same : {E : Type 0} (starts : List (Start E)) (k : ℕ) → FirstBegins lat g ls o p starts k → FirstBegins lat g ls o q starts k
  first_same [] k h = h
  first_same (s ∷ starts) k h = begins_same s.memory k h

module _ {E M L M' L' : Type 0} (v : Env E) (order : Order) (serves : E → Type 0) (g ls : ℕ → ℕ) (image : List Instr) (p : Todo M L) (q : Todo M' L')
    (e : commands_of p ≡ commands_of q) where
  pub sound_same : Sound v order serves g ls image p → Sound v order serves g ls image q
  sound_same s =
      record {
        keeps = order_same v image p q (same_commands p q e) s.keeps;
        few = λ o low t some starts agree halts same tests.
            let lat = lattice_of order in
            let r = s.few o low t some starts agree halts same tests in (
              r.0,
              first_same p q e lat g ls o starts r.0 r.1,
              Each-map (λ (x : Start E). Begins lat g ls o p x.memory r.0) (λ x. Begins lat g ls o q x.memory r.0)
                  (λ x b. begins_same p q e lat g ls o x.memory r.0 b) starts r.2,
              r.3,
            );
      }

  pub shows_one_same : ShowsOne v order serves g ls image p → ShowsOne v order serves g ls image q
  shows_one_same s = λ o low none t x y a. s o low (λ k. ap (λ z. z k) (relevant-same p q e (lattice_of order) g ls o) ∙ none k) t x y a

  pub cut_sound_same : CutSound v order serves g ls image p → CutSound v order serves g ls image q
  cut_sound_same s =
      record {
        few = λ o low t some starts agree same tests.
            subst (λ z. distinct_count same (map (seen_from v (lattice_of order) g image o t) starts) ≤ bound order o t (most_ended v image z t starts))
            (relevant-same p q e (lattice_of order) g ls o)
            (s.few o low t some starts agree same tests);
      }

pub same_counts : (q : LabelledProgram) → SameCounts q
same_counts q =
    let e = keep_commands q in
    record {
      relevant = λ o k. ap (λ z. z k) (relevant-same (bare_of q) (plan_of q.program) e (order_of q) (labels_of q) (levels_of q) o);
      begins = λ o m k. (
        begins_same (bare_of q) (plan_of q.program) e (order_of q) (labels_of q) (levels_of q) o m k,
        begins_same (plan_of q.program) (bare_of q) (sym e) (order_of q) (labels_of q) (levels_of q) o m k,
      );
    }

-- a labelled program that is typed, with its image
pub made_of : (q : LabelledProgram) → IsTypedWith q → IsCompiled q.program.order (labels_of q) (levels_of q) (lowered q).instrs (bare_of q)
made_of q is = compiled q (lowered q).instrs is.lattice is.numbered is.labelling is.arrays is.typed (image_is (order_of q) (labels_of q) (bare_of q))
