-- Two starts of a space have one value where a variable has one.
use Rattle.std.proofs.Common.{◌≡◌, ◌∙◌, sym, refl, ap, ℕ, pos, zero, suc, ◌<◌, ◌≤◌, List, [], ◌∷◌, length, get_or, Some, Vec, arith}
use Rattle.std.specs.Prelude.{slice_get, Bool, not, nat_lt, ◌==◌}
use Rattle.std.proofs.lemmas.Bool.Decides.{nat_tests}
use Rattle.std.specs.declared.alloc.Global.{Global}
use Rattle.env_contract.specs.declared.place.Touch.{Touch}
use Rattle.env_contract.specs.Env.{Env}
use Rattle.label_lattice.specs.Order.{Order}
use Rattle.label_lattice.specs.Lattice.{Flows}
use Rattle.timing_types.specs.Labelled.{LabelledProgram, order_of, labels_of}
use Rattle.start_space.specs.Space.{IsChoice, nth}
use Rattle.start_space.proofs.Numbers.{chosen as choice_at}
use Rattle.space_starts.specs.declared.space.Interval.{Interval}
use Rattle.space_starts.specs.Space.{SpaceValue, many, value_in, lists, counts, chosen, size_of, start_at}
use Rattle.space_walk.specs.Agreeing.{NoneRanges, AllAgree}

-- a variable that has one value has it in each choice
pub same_value : (vs : List (List Interval)) (cs ds : List ℕ) (x : ℕ) → IsChoice (counts vs) cs → IsChoice (counts vs) ds
    → ((v : List Interval) → slice_get vs x ≡ Some v → many v ≤ 1) → get_or (chosen vs cs) x (pos 0) ≡ get_or (chosen vs ds) x (pos 0)
same_value [] cs ds x g h one = refl
same_value (v ∷ vs) [] ds x g h one = absurd g
same_value (v ∷ vs) (c ∷ cs) [] x g h one = absurd h
same_value (v ∷ vs) (c ∷ cs) (d ∷ ds) zero g h one =
    let few = one v refl in
    let lt = g.0 in
    let lt' = h.0 in
    let same : c ≡ d = omega (arith, few, lt, lt') in
    ap (value_in v) same
same_value (v ∷ vs) (c ∷ cs) (d ∷ ds) (suc x) g h one = same_value vs cs ds x g.1 h.1 one

pub same_length : (vs : List (List Interval)) (cs ds : List ℕ) → IsChoice (counts vs) cs → IsChoice (counts vs) ds
    → length (chosen vs cs) ≡ length (chosen vs ds)
same_length [] cs ds g h = refl
same_length (v ∷ vs) [] ds g h = absurd g
same_length (v ∷ vs) (c ∷ cs) [] g h = absurd h
same_length (v ∷ vs) (c ∷ cs) (d ∷ ds) g h = ap suc (same_length vs cs ds g.1 h.1)

pub chosen_long : (vs : List (List Interval)) (cs : List ℕ) → IsChoice (counts vs) cs → length (chosen vs cs) ≡ length vs
chosen_long [] cs g = refl
chosen_long (v ∷ vs) [] g = absurd g
chosen_long (v ∷ vs) (c ∷ cs) g = ap suc (chosen_long vs cs g.1)

-- a start has a value for each variable
pub start_long : (s : SpaceValue) (n : ℕ) → n < size_of s → length (start_at s n).memory ≡ length s.memory
start_long s n lt = chosen_long s.memory (nth (counts s.memory) n) (choice_at (counts s.memory) n lt).0

-- there are two values or more where there is another interval
pub several : (is : List Interval) (i : Interval) (js : List Interval) (e : Bool) → is ≡ i ∷ js → i.more ≤ 0 → e ≡ (length js == 0)
    → not e ≡ nat_lt 1 (many is)
several is i js e at le empty = ap not empty ∙ by js ∙ ap (λ z. nat_lt 1 (many z)) (sym at)
  where
    by : (ks : List Interval) → not (length ks == 0) ≡ nat_lt 1 (many (i ∷ ks))
    by [] = grind (arith, nat_tests, le)
    by (k ∷ ks) = grind (arith, nat_tests)

-- ---- what stands at a place

pub got : (vs : List (Vec Interval Global)) (x : ℕ) (v : List Interval) (d : Vec Interval Global) → slice_get (lists vs) x ≡ Some v → (get_or vs x d).items ≡ v
got [] zero v d e = absurd cc
got [] (suc x) v d e = absurd cc
got (w ∷ vs) zero v d e = cc
got (w ∷ vs) (suc x) v d e = got vs x v d e

pub there : (vs : List (Vec Interval Global)) (x : ℕ) (d : Vec Interval Global) → x < length vs → slice_get (lists vs) x ≡ Some (get_or vs x d).items
there [] x d lt = absurd (omega (arith, lt))
there (w ∷ vs) zero d lt = refl
there (w ∷ vs) (suc x) d lt = there vs x d (omega (arith, lt))

pub below : (vs : List (Vec Interval Global)) (x : ℕ) (v : List Interval) → slice_get (lists vs) x ≡ Some v → x < length vs
below [] zero v e = absurd cc
below [] (suc x) v e = absurd cc
below (w ∷ vs) zero v e = omega arith
below (w ∷ vs) (suc x) v e = let l = below vs x v e in omega (arith, l)

module _ {E : Type 0} (v : Env E) (serves : Order → E → Type 0) (made : Order → List Touch → E) (p : LabelledProgram) (o : ℕ) (s : SpaceValue) where
  pub all_agree : serves p.program.order (made p.program.order s.touches) → NoneRanges p o s.memory → AllAgree v serves made p o s
  all_agree served none n m lt lt' =
      let one = (choice_at (counts s.memory) n lt).0 in
      let two = (choice_at (counts s.memory) m lt').0 in
      record {
        one = served;
        other = served;
        long = same_length s.memory (nth (counts s.memory) n) (nth (counts s.memory) m) one two;
        low = λ x flows. same_value s.memory (nth (counts s.memory) n) (nth (counts s.memory) m) x one two (λ v at. few v x flows at);
        parts = λ q l f. refl;
      }
    where
      few : (w : List Interval) (x : ℕ) → Flows (order_of p) (labels_of p x) o → slice_get s.memory x ≡ Some w → many w ≤ 1
      few w x flows at = not_more (many w) (λ more. none x (flows, w, at, more))
        where
          not_more : (k : ℕ) → (1 < k → ⊥) → k ≤ 1
          not_more zero h = omega arith
          not_more (suc zero) h = omega arith
          not_more (suc (suc k)) h = absurd (h (omega arith))
