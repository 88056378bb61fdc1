-- The ends of sleep h tell all of h.
use Rattle.std.proofs.Common.{◌≡◌, ℕ, zero, suc, ◌+◌, ◌<◌, ◌≤◌, List, [], ◌∷◌, length, refl, sym, ap, ◌∙◌, arith}
use Rattle.std.specs.Prelude.{cond, pos}
use Rattle.mit_syntax.specs.Values.{read}
use Rattle.label_lattice.specs.Lattice.{Lattice, Flows, IsLattice}
use Rattle.label_lattice.specs.Order.{Order, lattice_of}
use Rattle.timing_types.specs.Typing.{IsTyped}
use Rattle.env_contract.specs.declared.place.Place.{Place}
use Rattle.env_contract.specs.Env.{Env}
use Rattle.label_code.specs.Machine.{Machine, Event, start, steps}
use Rattle.label_code.specs.Run.{run_from}
use Rattle.label_code.specs.declared.code.Instr.{Instr}
use Rattle.code_lower.specs.Layout.{IsImage}
use Rattle.leak_bound.specs.Records.{Each}
use Rattle.leak_bound.specs.Sound.{Agree, Halts}
use Rattle.leak_bound.proofs.Still.{still}
use Rattle.sharp_bound.specs.End.{end_from, seen_to_end, EndsLow}
use Rattle.further_counts.specs.Near.{h_high, ShowApart}
use Rattle.further_counts.specs.Sleeper.{sleeps, sleeps_image, asleep, sleepers, SleeperTells, EndTells}
use Rattle.further_counts.proofs.Near.{halts_there}

module _ {E : Type 0} (serves : E → Type 0) (part : Place → ℕ → E → List ℕ) (order : Order) (ll : IsLattice (lattice_of order)) (o high : ℕ)
    (apart : Flows (lattice_of order) high o → ⊥) where
  abbrev v : Env E
  v = still part

  abbrev lat : Lattice
  lat = lattice_of order

  abbrev g : ℕ → ℕ
  g = h_high high o

  abbrev image : List Instr
  image = sleeps_image lat high o

  typed : IsTyped lat g (sleeps lat)
  typed = (lat.join (lat.join lat.bottom high) lat.bottom, (ll.least lat.bottom lat.bottom lat.bottom (ll.lowest lat.bottom) (ll.lowest lat.bottom), refl))

  code : IsImage lat g image (sleeps lat)
  code = ((refl, refl, tt), refl)

  ends_high : EndsLow lat g (sleeps lat) o → ⊥
  ends_high h =
      let there : Flows lat high h.0 =
      ap (λ z. lat.flows high z) (sym h.1.1) ∙ ll.chain high _ _ (ll.right lat.bottom high) (ll.left (lat.join lat.bottom high) lat.bottom) in
      apart (ll.chain high h.0 o there h.2)

  agree_two : (e : E) → serves e → (a b : ℕ) → Agree v lat serves g o (asleep e a) (asleep e b)
  agree_two e s a b = record { one = s; other = s; long = refl; low = λ x f. low x f; parts = λ q l f. refl }
    where
      low : (x : ℕ) → Flows lat (g x) o → read (pos a ∷ []) x ≡ read (pos b ∷ []) x
      low zero f = absurd (apart f)
      low (suc x) f = refl

  agree_one : (e : E) → serves e → (a n : ℕ) → Each (Agree v lat serves g o (asleep e a)) (sleepers e n)
  agree_one e s a zero = tt
  agree_one e s a (suc n) = (agree_two e s a n, agree_one e s a n)

  agree_all : (e : E) → serves e → (m n : ℕ) → Each (λ s. Each (Agree v lat serves g o s) (sleepers e m)) (sleepers e n)
  agree_all e s m zero = tt
  agree_all e s m (suc n) = (agree_one e s n m, agree_all e s m n)

  -- three steps
  abbrev after : E → ℕ → Machine E
  after e n = steps v image 3 (start (asleep e n).memory e)

  ended : (e : E) (n t : ℕ) → n + 3 ≤ t → run_from v image t (asleep e n) ≡ after e n
  ended e n t le = halts_there v image t 3 (asleep e n) refl (omega (arith, le))

  end_is : (e : E) (n t : ℕ) → n + 3 ≤ t → end_from v image t (asleep e n) ≡ (n + 3) ∷ []
  end_is e n t le =
      let sum : 2 + n + 1 ≡ n + 3 = omega arith in
      ap (λ y. cond y.halted (y.core.clock ∷ []) []) (ended e n t le) ∙ ap (λ z. z ∷ []) sum

  halt : (e : E) (n t : ℕ) → n + 2 ≤ t → Each (Halts v image t) (sleepers e n)
  halt e zero t le = tt
  halt e (suc n) t le = (ap (λ y. y.halted) (ended e n t (omega arith)), halt e n t (omega arith))

  differ : (e : E) (n m t : ℕ) → m < n → n + 3 ≤ t → seen_to_end v lat g image o t (asleep e n) ≡ seen_to_end v lat g image o t (asleep e m) → ⊥
  differ e n m t lt le same =
      let lists : (n + 3) ∷ [] ≡ (m + 3) ∷ [] = sym (end_is e n t le) ∙ ap (λ (z : List Event × List ℕ). z.1) same ∙ end_is e m t (omega arith) in
      let cycles : n + 3 ≡ m + 3 = cc in
      absurd (omega (arith, cycles))

  apart_from : (e : E) (n m t : ℕ) → m ≤ n → n + 3 ≤ t
      → Each (λ s. seen_to_end v lat g image o t (asleep e n) ≡ seen_to_end v lat g image o t s → ⊥) (sleepers e m)
  apart_from e n zero t lt le = tt
  apart_from e n (suc m) t lt le = (differ e n m t (omega arith) le, apart_from e n m t (omega arith) le)

  all_apart : (e : E) (n t : ℕ) → n + 2 ≤ t → ShowApart (seen_to_end v lat g image o t) (sleepers e n)
  all_apart e zero t le = tt
  all_apart e (suc n) t le = (apart_from e n n t (omega arith) (omega arith), all_apart e n t (omega arith))

  long : (e : E) (n : ℕ) → length (sleepers e n) ≡ n
  long e zero = refl
  long e (suc n) = ap suc (long e n)

  tells : SleeperTells v order serves o high
  tells =
      record {
        accepted = record { lattice = ll; levels = tt; told = tt; marks = tt; arrays = (tt, tt); typed = typed; code = code };
        begins = λ memory. (1, refl, λ l. refl);
        ends_high = ends_high;
        long = long;
        agree = λ e s n. agree_all e s n n;
        halt = halt;
        apart = all_apart;
      }

pub end_tells : {E : Type 0} (serves : Order → E → Type 0) (part : Place → ℕ → E → List ℕ) → EndTells (still part) serves
end_tells serves part order ll o high low below apart = tells (serves order) part order ll o high apart
