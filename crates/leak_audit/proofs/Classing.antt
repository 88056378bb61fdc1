-- Different members in order of first appearance, one after the other.
use Rattle.std.proofs.Common.{◌≡◌, ◌≤◌, ℕ, ◌+◌, List, [], ◌∷◌, ◌++◌, length, map, filter, Bool, true, false, not, cond, ◌&&◌, ◌||◌, if◌then◌else◌, ℤ, refl}
use Rattle.std.proofs.Common.{sym, ap, ◌∙◌, subst, arith, length-append, append-nil}
use Rattle.std.specs.List.{list_any, position_or_len}
use Rattle.std.specs.Ordering.{int_eq}
use Rattle.std.specs.Prelude.{nat_eq}
use Rattle.std.proofs.lemmas.Bool.{both_ways}
use Rattle.std.proofs.lemmas.Bool.Decides.{Decides-eqb, Decides-int_eq}
use Rattle.std.proofs.lemmas.List.{map-append}
use Rattle.std.proofs.lemmas.List.Elements.{filter-append}
use Rattle.std.proofs.lemmas.List.Folds.{list_any-append}
use Rattle.std.proofs.lemmas.List.Recursion.{is_position_or_len}
use Rattle.indexmap.specs.IndexSet.{insert_key}
use Rattle.label_code.specs.Machine.{Event, Wrote, Began, Ended}
use Rattle.leak_bound.specs.Records.{Tests, distinct, classes_of}
use Rattle.leak_audit.specs.Sequences.{same_event, same_sequence, AllAmong, classes_in, Classed}

-- conjunctions
both : (a b : Bool) → a ≡ true → b ≡ true → (a && b) ≡ true
both a b p q = ap (λ z. z && b) p ∙ q

first_of : (a b : Bool) → (a && b) ≡ true → a ≡ true
first_of true b h = refl
first_of false b h = absurd cc

second_of : (a b : Bool) → (a && b) ≡ true → b ≡ true
second_of true b h = h
second_of false b h = absurd cc

-- the test of events, and that of sequences, are equality
same_event-refl : (e : Event) → same_event e e ≡ true
same_event-refl (Wrote x n c) = both _ _ ((Decides-eqb x x).1 refl) (both _ _ ((Decides-int_eq n n).1 refl) ((Decides-eqb c c).1 refl))
same_event-refl (Began k c) = both _ _ ((Decides-eqb k k).1 refl) ((Decides-eqb c c).1 refl)
same_event-refl (Ended k c) = both _ _ ((Decides-eqb k k).1 refl) ((Decides-eqb c c).1 refl)

wrote_same : (x y : ℕ) (n m : ℤ) (c d : ℕ) → x ≡ y → n ≡ m → c ≡ d → Wrote x n c ≡ Wrote y m d
wrote_same x y n m c d p q r = cc

began_same : (j k c d : ℕ) → j ≡ k → c ≡ d → Began j c ≡ Began k d
began_same j k c d p q = cc

ended_same : (j k c d : ℕ) → j ≡ k → c ≡ d → Ended j c ≡ Ended k d
ended_same j k c d p q = cc

same_event-is : (e f : Event) → same_event e f ≡ true → e ≡ f
same_event-is (Wrote x n c) (Wrote y m d) h =
    let r = second_of (nat_eq x y) (int_eq n m && nat_eq c d) h in
    wrote_same x y n m c d ((Decides-eqb x y).0 (first_of (nat_eq x y) (int_eq n m && nat_eq c d) h))
    ((Decides-int_eq n m).0 (first_of (int_eq n m) (nat_eq c d) r)) ((Decides-eqb c d).0 (second_of (int_eq n m) (nat_eq c d) r))
same_event-is (Wrote x n c) (Began k d) h = absurd cc
same_event-is (Wrote x n c) (Ended k d) h = absurd cc
same_event-is (Began j c) (Wrote y m d) h = absurd cc
same_event-is (Began j c) (Began k d) h =
    began_same j k c d ((Decides-eqb j k).0 (first_of (nat_eq j k) (nat_eq c d) h)) ((Decides-eqb c d).0 (second_of (nat_eq j k) (nat_eq c d) h))
same_event-is (Began j c) (Ended k d) h = absurd cc
same_event-is (Ended j c) (Wrote y m d) h = absurd cc
same_event-is (Ended j c) (Began k d) h = absurd cc
same_event-is (Ended j c) (Ended k d) h =
    ended_same j k c d ((Decides-eqb j k).0 (first_of (nat_eq j k) (nat_eq c d) h)) ((Decides-eqb c d).0 (second_of (nat_eq j k) (nat_eq c d) h))

same_sequence-refl : (es : List Event) → same_sequence es es ≡ true
same_sequence-refl [] = refl
same_sequence-refl (e ∷ es) = both _ _ (same_event-refl e) (same_sequence-refl es)

same_sequence-is : (es fs : List Event) → same_sequence es fs ≡ true → es ≡ fs
same_sequence-is [] [] h = refl
same_sequence-is [] (f ∷ fs) h = absurd cc
same_sequence-is (e ∷ es) [] h = absurd cc
same_sequence-is (e ∷ es) (f ∷ fs) h =
    let p : e ≡ f = same_event-is e f (first_of (same_event e f) (same_sequence es fs) h) in
    let q : es ≡ fs = same_sequence-is es fs (second_of (same_event e f) (same_sequence es fs) h) in
    ap (λ z. z ∷ es) p ∙ ap (λ z. f ∷ z) q

pub tests_sequences : Tests same_sequence
tests_sequences = record {
  same_from = λ v w e. subst (λ z. same_sequence v z ≡ true) e (same_sequence-refl v);
  same_to = same_sequence-is;
}

-- the place of the first that passes, or the length
abbrev place : {V : Type 0} → (V → Bool) → List V → ℕ
place p [] = 0
place p (x ∷ xs) = cond (p x) 0 (1 + place p xs)

module _ {V : Type 0} (same : V → V → Bool) (tests : Tests same) where
  abbrev apart : V → V → Bool
  apart x y = not (same x y)

  same_back : (x y : V) (b : Bool) → same x y ≡ b → same y x ≡ b
  same_back x y true e = tests.same_from y x (sym (tests.same_to x y e))
  same_back x y false e = go (same y x) refl
    where
      go : (b : Bool) → same y x ≡ b → same y x ≡ false
      go true f = absurd (both_ways (same x y) e (tests.same_from x y (sym (tests.same_to y x f))))
      go false f = f

  -- what another member filters out is no member
  -- what is the same as two members makes them the same
  same_across : (x y d : V) → same y x ≡ false → same y d ≡ true → (b : Bool) → same x d ≡ b → same x d ≡ false
  same_across x y d e f true g = absurd (both_ways (same y x) e (tests.same_from y x (tests.same_to y d f ∙ sym (tests.same_to x d g))))
  same_across x y d e f false g = g

  any-filter : (y x : V) → same y x ≡ false → (ds : List V) → list_any (same x) (filter (apart y) ds) ≡ list_any (same x) ds
  any-filter y x e [] = refl
  any-filter y x e (d ∷ ds) = go (same y d) refl (any-filter y x e ds)
    where
      go : (b : Bool) → same y d ≡ b → list_any (same x) (filter (apart y) ds) ≡ list_any (same x) ds
          → list_any (same x) (filter (apart y) (d ∷ ds)) ≡ list_any (same x) (d ∷ ds)
      go true f more =
          ap (λ c. list_any (same x) (cond (not c) (d ∷ filter (apart y) ds) (filter (apart y) ds))) f
          ∙ (more ∙ sym (ap (λ c. c || list_any (same x) ds) (same_across x y d e f (same x d) refl)))
      go false f more =
          ap (λ c. list_any (same x) (cond (not c) (d ∷ filter (apart y) ds) (filter (apart y) ds))) f
          ∙ ap (λ z. same x d || z) more

  filter-one : (y x : V) (b : Bool) → same y x ≡ b → filter (apart y) (x ∷ []) ≡ cond b [] (x ∷ [])
  filter-one y x true e = ap (λ c. cond (not c) (x ∷ []) []) e
  filter-one y x false e = ap (λ c. cond (not c) (x ∷ []) []) e

  -- a member more is one that is there, or goes last
  pub distinct-push : (xs : List V) (x : V) → distinct same (xs ++ x ∷ []) ≡ insert_key same (distinct same xs) x
  distinct-push [] x = refl
  distinct-push (y ∷ ys) x = ap (λ z. y ∷ filter (apart y) z) (distinct-push ys x) ∙ go (same y x) refl (list_any (same x) ds) refl
    where
      ds : List V
      ds = distinct same ys

      go : (b : Bool) → same y x ≡ b → (c : Bool) → list_any (same x) ds ≡ c
          → y ∷ filter (apart y) (insert_key same ds x) ≡ insert_key same (y ∷ filter (apart y) ds) x
      go true e true f =
          ap (λ c. y ∷ filter (apart y) (if c then ds else ds ++ x ∷ [])) f
          ∙ sym (ap (λ c. if c || list_any (same x) (filter (apart y) ds) then y ∷ filter (apart y) ds else
          (y ∷ filter (apart y) ds) ++ x ∷ []) (same_back y x true e))
      go true e false f =
          ap (λ c. y ∷ filter (apart y) (if c then ds else ds ++ x ∷ [])) f
          ∙ (ap (λ z. y ∷ z) (filter-append (apart y) ds (x ∷ [])
          ∙ (ap (λ z. filter (apart y) ds ++ z) (filter-one y x true e) ∙ append-nil (filter (apart y) ds)))
          ∙ sym (ap (λ c. if c || list_any (same x) (filter (apart y) ds) then y ∷ filter (apart y) ds else
          (y ∷ filter (apart y) ds) ++ x ∷ []) (same_back y x true e)))
      go false e true f =
          ap (λ c. y ∷ filter (apart y) (if c then ds else ds ++ x ∷ [])) f
          ∙ sym (ap (λ c. if c || list_any (same x) (filter (apart y) ds) then y ∷ filter (apart y) ds else
          (y ∷ filter (apart y) ds) ++ x ∷ []) (same_back y x false e)
          ∙ ap (λ c. if c then y ∷ filter (apart y) ds else (y ∷ filter (apart y) ds) ++ x ∷ []) (any-filter y x e ds ∙ f))
      go false e false f =
          ap (λ c. y ∷ filter (apart y) (if c then ds else ds ++ x ∷ [])) f
          ∙ (ap (λ z. y ∷ z) (filter-append (apart y) ds (x ∷ []) ∙ ap (λ z. filter (apart y) ds ++ z) (filter-one y x false e))
          ∙ sym (ap (λ c. if c || list_any (same x) (filter (apart y) ds) then y ∷ filter (apart y) ds else
          (y ∷ filter (apart y) ds) ++ x ∷ []) (same_back y x false e)
          ∙ ap (λ c. if c then y ∷ filter (apart y) ds else (y ∷ filter (apart y) ds) ++ x ∷ []) (any-filter y x e ds ∙ f)))

  any-push : (p : V → Bool) (l : List V) (x : V) → list_any p l ≡ true → list_any p (l ++ x ∷ []) ≡ true
  any-push p l x h = list_any-append p l (x ∷ []) ∙ ap (λ c. c || list_any p (x ∷ [])) h

  or_true : (b c : Bool) → c ≡ true → (b || c) ≡ true
  or_true true c e = refl
  or_true false c e = e

  any-last : (p : V → Bool) (l : List V) (x : V) → p x ≡ true → list_any p (l ++ x ∷ []) ≡ true
  any-last p l x h = list_any-append p l (x ∷ []) ∙ or_true (list_any p l) (list_any p (x ∷ [])) (ap (λ c. c || false) h)

  -- a member that is the same as one of these is the same as one of them and another
  any-insert : (ds : List V) (x z : V) → list_any (same z) ds ≡ true → list_any (same z) (insert_key same ds x) ≡ true
  any-insert ds x z h = go (list_any (same x) ds) refl
    where
      go : (b : Bool) → list_any (same x) ds ≡ b → list_any (same z) (insert_key same ds x) ≡ true
      go true e = ap (λ c. list_any (same z) (if c then ds else ds ++ x ∷ [])) e ∙ h
      go false e = ap (λ c. list_any (same z) (if c then ds else ds ++ x ∷ [])) e ∙ any-push (same z) ds x h

  any-inserted : (ds : List V) (x : V) → list_any (same x) (insert_key same ds x) ≡ true
  any-inserted ds x = go (list_any (same x) ds) refl
    where
      go : (b : Bool) → list_any (same x) ds ≡ b → list_any (same x) (insert_key same ds x) ≡ true
      go true e = ap (λ c. list_any (same x) (if c then ds else ds ++ x ∷ [])) e ∙ e
      go false e = ap (λ c. list_any (same x) (if c then ds else ds ++ x ∷ [])) e ∙ any-last (same x) ds x (tests.same_from x x refl)

  -- places stay
  place-push : (p : V → Bool) (l : List V) (x : V) → list_any p l ≡ true → place p (l ++ x ∷ []) ≡ place p l
  place-push p [] x h = absurd cc
  place-push p (d ∷ l) x h = by (p d) refl (λ e. place-push p l x e)
    where
      by : (b : Bool) → p d ≡ b → (list_any p l ≡ true → place p (l ++ x ∷ []) ≡ place p l)
          → cond (p d) 0 (1 + place p (l ++ x ∷ [])) ≡ cond (p d) 0 (1 + place p l)
      by true f more = ap (λ c. cond c 0 (1 + place p (l ++ x ∷ []))) f ∙ sym (ap (λ c. cond c 0 (1 + place p l)) f)
      by false f more =
          ap (λ c. cond c 0 (1 + place p (l ++ x ∷ []))) f
          ∙ (ap (λ n. 1 + n) (more (sym (ap (λ c. c || list_any p l) f) ∙ h)) ∙ sym (ap (λ c. cond c 0 (1 + place p l)) f))

  place-last : (p : V → Bool) (l : List V) (x : V) → p x ≡ true → place p (l ++ x ∷ []) ≡ place p l
  place-last p [] x h = ap (λ c. cond c 0 (1 + 0)) h
  place-last p (d ∷ l) x h = ap (λ n. cond (p d) 0 (1 + n)) (place-last p l x h)

  place-insert : (ds : List V) (x z : V) → list_any (same z) ds ≡ true → place (same z) (insert_key same ds x) ≡ place (same z) ds
  place-insert ds x z h = go (list_any (same x) ds) refl
    where
      go : (b : Bool) → list_any (same x) ds ≡ b → place (same z) (insert_key same ds x) ≡ place (same z) ds
      go true e = ap (λ c. place (same z) (if c then ds else ds ++ x ∷ [])) e
      go false e = ap (λ c. place (same z) (if c then ds else ds ++ x ∷ [])) e ∙ place-push (same z) ds x h

  place-inserted : (ds : List V) (x : V) → place (same x) (insert_key same ds x) ≡ place (same x) ds
  place-inserted ds x = go (list_any (same x) ds) refl
    where
      go : (b : Bool) → list_any (same x) ds ≡ b → place (same x) (insert_key same ds x) ≡ place (same x) ds
      go true e = ap (λ c. place (same x) (if c then ds else ds ++ x ∷ [])) e
      go false e = ap (λ c. place (same x) (if c then ds else ds ++ x ∷ [])) e ∙ place-last (same x) ds x (tests.same_from x x refl)

  place_is : (p : V → Bool) (l : List V) → position_or_len p l ≡ place p l
  place_is p l = sym (is_position_or_len (place p) p refl (λ x xs. refl) l)

  among-insert : (ds : List V) (x : V) (zs : List V) → AllAmong same ds zs → AllAmong same (insert_key same ds x) zs
  among-insert ds x [] h = tt
  among-insert ds x (z ∷ zs) h = (any-insert ds x z h.0, among-insert ds x zs h.1)

  among-push : (ds zs : List V) (x : V) → AllAmong same ds zs → list_any (same x) ds ≡ true → AllAmong same ds (zs ++ x ∷ [])
  among-push ds [] x h k = (k, tt)
  among-push ds (z ∷ zs) x h k = (h.0, among-push ds zs x h.1 k)

  classes-insert : (ds : List V) (x : V) (zs : List V) → AllAmong same ds zs → classes_in same (insert_key same ds x) zs ≡ classes_in same ds zs
  classes-insert ds x [] h = refl
  classes-insert ds x (z ∷ zs) h =
      let new : position_or_len (same z) (insert_key same ds x) ≡ position_or_len (same z) ds =
      place_is (same z) (insert_key same ds x) ∙ (place-insert ds x z h.0 ∙ sym (place_is (same z) ds)) in
      ap (λ n. (n + 1) ∷ classes_in same (insert_key same ds x) zs) new ∙ ap (λ l. (position_or_len (same z) ds + 1) ∷ l) (classes-insert ds x zs h.1)

  pub none_classed : Classed same [] [] []
  none_classed = record { different = refl; classes = refl; among = tt; few = omega arith }

  insert-few : (ds : List V) (x : V) → length (insert_key same ds x) ≤ length ds + 1
  insert-few ds x = go (list_any (same x) ds) refl
    where
      go : (b : Bool) → list_any (same x) ds ≡ b → length (insert_key same ds x) ≤ length ds + 1
      go true e = omega (arith, ap (λ c. length (if c then ds else ds ++ x ∷ [])) e)
      go false e = omega (arith, ap (λ c. length (if c then ds else ds ++ x ∷ [])) e, length-append ds (x ∷ []))

  pub one_classed : (xs ds : List V) (cs : List ℕ) (x : V) → Classed same xs ds cs
      → Classed same (xs ++ x ∷ []) (insert_key same ds x) (cs ++ (position_or_len (same x) ds + 1) ∷ [])
  one_classed xs ds cs x h =
      let own : position_or_len (same x) (insert_key same ds x) ≡ position_or_len (same x) ds =
      place_is (same x) (insert_key same ds x) ∙ (place-inserted ds x ∙ sym (place_is (same x) ds)) in
      let few = h.few in
      record {
        different = ap (λ z. insert_key same z x) h.different ∙ sym (distinct-push xs x);
        classes =
            ap (λ z. z ++ (position_or_len (same x) ds + 1) ∷ []) (h.classes ∙ sym (classes-insert ds x xs h.among))
            ∙ (ap (λ n. classes_in same (insert_key same ds x) xs ++ (n + 1) ∷ []) (sym own)
            ∙ sym (map-append (λ z. position_or_len (same z) (insert_key same ds x) + 1) xs (x ∷ [])));
        among = among-push (insert_key same ds x) xs x (among-insert ds x xs h.among) (any-inserted ds x);
        few = omega (arith, insert-few ds x, length-append xs (x ∷ []));
      }

  -- at the end
  pub all_classed : (xs ds : List V) (cs : List ℕ) → Classed same xs ds cs → cs ≡ classes_of same xs
  all_classed xs ds cs h = h.classes ∙ ap (λ z. classes_in same z xs) h.different

-- a test of keys that is the test of what they show
module _ {K V : Type 0} (f : K → V) (eq : K → K → Bool) (same : V → V → Bool) (is : (k l : K) → eq k l ≡ same (f k) (f l)) where
  any-shown : (k : K) (ks : List K) → list_any (eq k) ks ≡ list_any (same (f k)) (map f ks)
  any-shown k [] = refl
  any-shown k (l ∷ ks) = ap (λ b. b || list_any (eq k) ks) (is k l) ∙ ap (λ b. same (f k) (f l) || b) (any-shown k ks)

  place-shown : (k : K) (ks : List K) → place (eq k) ks ≡ place (same (f k)) (map f ks)
  place-shown k [] = refl
  place-shown k (l ∷ ks) = ap (λ b. cond b 0 (1 + place (eq k) ks)) (is k l) ∙ ap (λ n. cond (same (f k) (f l)) 0 (1 + n)) (place-shown k ks)

  pub insert-shown : (ks : List K) (k : K) → map f (insert_key eq ks k) ≡ insert_key same (map f ks) (f k)
  insert-shown ks k = ap (λ c. map f (if c then ks else ks ++ k ∷ [])) (any-shown k ks) ∙ go (list_any (same (f k)) (map f ks))
    where
      go : (b : Bool) → map f (if b then ks else ks ++ k ∷ []) ≡ (if b then map f ks else map f ks ++ f k ∷ [])
      go true = refl
      go false = map-append f ks (k ∷ [])

  pub position-shown : (k : K) (ks : List K) → position_or_len (eq k) ks ≡ position_or_len (same (f k)) (map f ks)
  position-shown k ks =
      sym (is_position_or_len (place (eq k)) (eq k) refl (λ x xs. refl) ks)
      ∙ (place-shown k ks ∙ is_position_or_len (place (same (f k))) (same (f k)) refl (λ x xs. refl) (map f ks))
