-- A labelling with the labels of a worklist in which no condition waits.
use Rattle.std.proofs.Common.{◌≡◌, ℕ, Bool, true, false, refl, sym, subst, ◌∙◌, List, Result, Ok, Err, IfOk}
use Rattle.label_lattice.specs.declared.label.Label.{Label}
use Rattle.mit_syntax.specs.Program.{Syntax}
use Rattle.mit_syntax.specs.Valid.{IsValid}
use Rattle.timing_types.specs.Labelling.{Labelling}
use Rattle.label_infer.specs.declared.constraints.Condition.{Condition}
use Rattle.label_infer.specs.Least.{Labels, IsLeast, TypesMost}
use Rattle.label_infer.specs.Work.{Work, Takes, IsDone, IsWorkOf, IsInferred}
use Rattle.label_infer.proofs.Taking.{least_done, still_work, inferred}
use Rattle.label_infer.proofs.Typed.{types_most}

pub if_all : {A E : Type 0} (r : Result A E) (P Q R T : A → Type 0) → ((a : A) → P a → Q a → R a → T a) → IfOk r P → IfOk r Q → IfOk r R → IfOk r T
if_all (Ok a) P Q R T f p q t = f a p q t
if_all (Err e) P Q R T f p q t = tt

module _ (s : Syntax) (valid : IsValid s) (w : Work) (h : IsWorkOf s w) (done : IsDone w) (vs ls : List Label)
    (hv : vs ≡ w.variables) (hl : ls ≡ w.levels) where
  pub is_least : (l : Labelling) → l.variables ≡ vs → l.levels ≡ ls → Labels s l → IsLeast s l
  is_least l ev el labels = least_done s valid w h done l labels (ev ∙ hv) (el ∙ hl)

  pub types : (l : Labelling) → l.variables ≡ vs → l.levels ≡ ls → Labels s l → TypesMost s l
  types l ev el labels = types_most s valid l (is_least l ev el labels)

-- one step, or none
pub after_step : (took : Bool) (w w' : Work) → (took ≡ false → IsDone w × (w' ≡ w)) → (took ≡ true → (i : ℕ) × (c : Condition) × Takes w w' i c) → (s : Syntax)
    → IsValid s → IsWorkOf s w → IsWorkOf s w'
after_step true w w' f g s valid h = let t = g refl in still_work s valid w w' t.0 t.1 h t.2
after_step false w w' f g s valid h = subst (λ z. IsWorkOf s z) (sym (f refl).1) h

pub none_left : (w w' : Work) → IsDone w → w' ≡ w → (s : Syntax) → IsValid s → IsWorkOf s w → IsInferred s w'
none_left w w' done e s valid h = subst (λ z. IsInferred s z) (sym e) (inferred s valid w h done)
