-- A record as a choice of miss counts for each level, with the cycles of its entries.
use Rattle.std.proofs.Common.{◌≡◌, ℕ, zero, suc, ◌+◌, ◌*◌, ◌^◌, ◌≤◌, List, [], ◌∷◌, Bool, true, false, refl, sym, ap, ◌∙◌, ⊎_elim, arith}
use Rattle.std.specs.Prelude.{cond, eqb, max}
use Rattle.std.proofs.lemmas.Bool.{cases_eq, eqb-true, eq-eqb}
use Rattle.leak_bound.specs.Records.{Entry}
use Rattle.sharp_bound.proofs.Choices.{counts_at, choice_of}
use Rattle.own_firsts.specs.Ways.{cycles_from, cycles_by}
use Rattle.own_firsts.proofs.Spent.{one_after, spent_own}

module _ (firsts : ℕ → ℕ → ℕ) where
  -- the cycles of a choice, where `base` tells of each level how many entries come before
  abbrev cycles_after : (ℕ → ℕ) → ℕ → List (List ℕ) → ℕ
  cycles_after base zero c = 0
  cycles_after base (suc l) [] = 0
  cycles_after base (suc l) (ms ∷ c) = cycles_from (firsts l) (base l) ms + cycles_after base l c

  abbrev of_level : (ℕ → ℕ) → ℕ → List Entry → ℕ
  of_level base l r = cycles_from (firsts l) (base l) (counts_at l r)

  -- an entry of another level
  other_level : (base : ℕ → ℕ) (l : ℕ) (e : Entry) (r : List Entry) → (e.0 ≡ l → ⊥) → of_level base l (e ∷ r) ≡ of_level (one_after base e.0) l r
  other_level base l e r ne = go (eqb e.0 l) refl
    where
      go : (b : Bool) → eqb e.0 l ≡ b
          → cycles_from (firsts l) (base l) (cond b (e.1 ∷ counts_at l r) (counts_at l r)) ≡ cycles_from (firsts l) (base l + cond b 1 0) (counts_at l r)
      go true q = absurd (ne (eqb-true e.0 l q))
      go false q = let s : base l ≡ base l + 0 = omega arith in ap (λ z. cycles_from (firsts l) z (counts_at l r)) s

  its_level : (base : ℕ → ℕ) (l : ℕ) (e : Entry) (r : List Entry) → e.0 ≡ l
      → of_level base l (e ∷ r) ≡ 2 ^ e.1 * max (firsts e.0 (base e.0)) 1 + of_level (one_after base e.0) l r
  its_level base l e r q =
      go (eqb e.0 l) (eq-eqb e.0 l q)
      ∙ ap (λ z. 2 ^ e.1 * max (firsts z (base z)) 1 + of_level (one_after base e.0) l r) (sym q)
    where
      go : (b : Bool) → b ≡ true → cycles_from (firsts l) (base l) (cond b (e.1 ∷ counts_at l r) (counts_at l r))
          ≡ 2 ^ e.1 * max (firsts l (base l)) 1 + cycles_from (firsts l) (base l + cond b 1 0) (counts_at l r)
      go true q = refl
      go false q = absurd cc

  above : (base : ℕ → ℕ) (n : ℕ) (e : Entry) (r : List Entry) → n ≤ e.0
      → cycles_after base n (choice_of n (e ∷ r)) ≡ cycles_after (one_after base e.0) n (choice_of n r)
  above base zero e r h = refl
  above base (suc l) e r h = omega (arith, other_level base l e r (λ q. absurd (omega (arith, q, h))), above base l e r (omega (arith, h)))

  one_entry : (base : ℕ → ℕ) (n : ℕ) (e : Entry) (r : List Entry) → cycles_after base n (choice_of n (e ∷ r))
      ≤ 2 ^ e.1 * max (firsts e.0 (base e.0)) 1 + cycles_after (one_after base e.0) n (choice_of n r)
  one_entry base zero e r = omega arith
  one_entry base (suc l) e r =
      ⊎_elim
      (λ (q : e.0 ≡ l). omega (arith, its_level base l e r q, above base l e r (omega (arith, q))))
      (λ (ne : e.0 ≡ l → ⊥). omega (arith, other_level base l e r ne, one_entry base l e r))
      (cases_eq e.0 l)

  no_cycles : (base : ℕ → ℕ) (n : ℕ) → cycles_after base n (choice_of n []) ≡ 0
  no_cycles base zero = refl
  no_cycles base (suc l) = omega (arith, no_cycles base l)

  within : (base : ℕ → ℕ) (n : ℕ) (r : List Entry) → cycles_after base n (choice_of n r) ≤ spent_own firsts base r
  within base n [] = omega (arith, no_cycles base n)
  within base n (e ∷ r) = omega (arith, one_entry base n e r, within (one_after base e.0) n r)

  from_none : (n : ℕ) (c : List (List ℕ)) → cycles_after (λ l. 0) n c ≡ cycles_by firsts n c
  from_none zero c = refl
  from_none (suc l) [] = refl
  from_none (suc l) (ms ∷ c) = ap (λ z. cycles_from (firsts l) 0 ms + z) (from_none l c)

  pub cycles_within : (n : ℕ) (r : List Entry) → cycles_by firsts n (choice_of n r) ≤ spent_own firsts (λ l. 0) r
  cycles_within n r = omega (arith, within (λ l. 0) n r, from_none n (choice_of n r))
