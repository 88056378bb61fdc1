-- What one more touch changes in what a bank holds, and what a look-up reads of it.
use Rattle.std.proofs.Common.{◌≡◌, ℕ, zero, suc, ◌+◌, ◌/◌, ◌%◌, ◌<◌, List, [], ◌∷◌, ◌++◌, get_or, Bool, true, false, refl, sym, ap, ◌∙◌, ◌⊎◌, inl, inr, arith}
use Rattle.std.specs.Prelude.{map, eqb, cond, ◌&&◌, reverse}
use Rattle.std.specs.List.{list_any, range_with_len}
use Rattle.std.proofs.lemmas.List.{append-nil}
use Rattle.std.proofs.lemmas.List.FromFn.{get_or-map-range_with_len}
use Rattle.std.proofs.lemmas.Nat.{mod_below}
use Rattle.std.proofs.lemmas.Bool.{cases_eq, cases_Bool, ne_eqb}
use Rattle.label_lattice.specs.Lattice.{Flows}
use Rattle.label_lattice.specs.Order.{Order, lattice_of}
use Rattle.env_contract.specs.declared.place.Place.{Place}
use Rattle.env_contract.specs.declared.place.Touch.{Touch}
use Rattle.part_cache.specs.History.{Touched, tags_in, holds_by, some_below, held_by}
use Rattle.part_cache.specs.Rows.{numbers_of}
use Rattle.part_cache.specs.Ways.{replaced}
use Rattle.part_cache.proofs.Replaced.{any_held}
use Rattle.part_cache.proofs.Stands.{is_at, held_here, held_elsewhere}
use Rattle.part_cache.proofs.Laws.{rows_from_numbers}
use Rattle.part_tlb.specs.Machine.{is_place}
use Rattle.part_tlb.specs.declared.bank.Bank.{Bank}
use Rattle.part_tlb.specs.declared.bank.Hardware.{Hardware}
use Rattle.part_tlb.specs.Machine.{home, touches_in, hits_in, held_in, bank_part}
use Rattle.hardware.specs.Limits.{IsBank}

map_same : (f g : ℕ → List ℕ) (a n : ℕ) → ((k : ℕ) → k < a + n → f k ≡ g k) → map f (range_with_len a n) ≡ map g (range_with_len a n)
map_same f g a zero h = refl
map_same f g a (suc n) h = rw (h a (omega arith), map_same f g (a + 1) n (λ k lt. h k (omega arith))) refl

pub some_below_same : (n : ℕ) (p q : ℕ → Bool) → ((k : ℕ) → k < n → p k ≡ q k) → some_below n p ≡ some_below n q
some_below_same zero p q h = refl
some_below_same (suc n) p q h = rw (h n (omega arith), some_below_same n p q (λ k lt. h k (omega arith))) refl

module _ (hw : Hardware) (order : Order) (b : Bank) (is : IsBank b) (p : Place) where
  -- a touch as the bank sees it
  abbrev pub seen : Touch → Touched
  seen x = record { label = home hw order x.label.number; tag = x.address / b.bytes }

  abbrev pub touches : List Touch → List Touched
  touches h = touches_in hw order b p h

  abbrev pub holding : List Touch → ℕ → ℕ → List ℕ
  holding h label set = held_in hw order b p h label set

  abbrev pub part : ℕ → List Touch → List ℕ
  part label h = bank_part hw order b p label h

  pub touches-push : (h : List Touch) (x : Touch) → touches (h ++ x ∷ []) ≡ touches h ++ cond (is_place p x.place) (seen x ∷ []) []
  touches-push [] x = refl
  touches-push (y ∷ h) x = go (is_place p y.place) (touches-push h x)
    where
      go : (c : Bool) → touches (h ++ x ∷ []) ≡ touches h ++ cond (is_place p x.place) (seen x ∷ []) [] →
          cond c (seen y ∷ touches (h ++ x ∷ [])) (touches (h ++ x ∷ []))
          ≡ cond c (seen y ∷ touches h) (touches h) ++ cond (is_place p x.place) (seen x ∷ []) []
      go true e = ap (λ t. seen y ∷ t) e
      go false e = e

  -- a touch at the place is the latest; one elsewhere is none
  pub touches-here : (h : List Touch) (x : Touch) → is_place p x.place ≡ true → touches (h ++ x ∷ []) ≡ touches h ++ seen x ∷ []
  touches-here h x same = touches-push h x ∙ ap (λ c. touches h ++ cond c (seen x ∷ []) []) same

  pub touches-other : (h : List Touch) (x : Touch) → is_place p x.place ≡ false → touches (h ++ x ∷ []) ≡ touches h
  touches-other h x apart = touches-push h x ∙ ap (λ c. touches h ++ cond c (seen x ∷ []) []) apart ∙ append-nil (touches h)

  -- the numbers tell what each set holds, and are told by it
  pub sets_from_numbers : (l l' : ℕ) (h h' : List Touch) → part l h ≡ part l' h' → (set : ℕ) → set < b.sets → holding h l set ≡ holding h' l' set
  sets_from_numbers l l' h h' e set below =
      sym (get_or-map-range_with_len (holding h l) 0 b.sets set set [] below (omega arith))
      ∙ ap (λ rows. get_or rows set [])
      (rows_from_numbers (map (holding h l) (range_with_len 0 b.sets)) (map (holding h' l') (range_with_len 0 b.sets)) e)
      ∙ get_or-map-range_with_len (holding h' l') 0 b.sets set set [] below (omega arith)

  pub numbers_from_sets : (l : ℕ) (h h' : List Touch) → ((set : ℕ) → set < b.sets → holding h l set ≡ holding h' l set) → part l h ≡ part l h'
  numbers_from_sets l h h' same = ap numbers_of (map_same (holding h l) (holding h' l) 0 b.sets (λ k lt. same k (omega arith)))

  -- a touch in another partition or another set
  beside : (x : Touch) (h : List Touch) (l set : ℕ) → is_place p x.place ≡ true → is_at b.sets l set (seen x) ≡ false
      → holding (h ++ x ∷ []) l set ≡ holding h l set
  beside x h l set same apart =
      ap (λ (t : List Touched). held_by b.replacement b.sets b.ways t l set) (touches-here h x same)
      ∙ held_elsewhere b.replacement b.sets b.ways (touches h) (seen x) l set apart

  in_elsewhere : (x : Touch) (h : List Touch) (l set : ℕ) → (l ≡ home hw order x.label.number → ⊥) → holding (h ++ x ∷ []) l set ≡ holding h l set
  in_elsewhere x h l set ne = go (cases_Bool (is_place p x.place))
    where
      go : ((is_place p x.place ≡ true) ⊎ (is_place p x.place ≡ false)) → holding (h ++ x ∷ []) l set ≡ holding h l set
      go (inl same) = beside x h l set same (ap (λ c. c && eqb (x.address / b.bytes % b.sets) set) (ne_eqb (home hw order x.label.number) l (λ e. ne (sym e))))
      go (inr apart) = ap (λ (t : List Touched). held_by b.replacement b.sets b.ways t l set) (touches-other h x apart)

  -- a touch leaves the other partitions
  pub touch_elsewhere : (x : Touch) (l : ℕ) (h : List Touch) → (l ≡ home hw order x.label.number → ⊥) → part l (h ++ x ∷ []) ≡ part l h
  touch_elsewhere x l h ne = numbers_from_sets l (h ++ x ∷ []) h (λ set below. in_elsewhere x h l set ne)

  -- in its own partition a touch leaves what the rule of replacement says
  pub touch_leaves : (x : Touch) (g : List Touch) → is_place p x.place ≡ true → holding (g ++ x ∷ []) (seen x).label ((seen x).tag % b.sets)
      ≡ replaced b.replacement b.ways (seen x).tag (holding g (seen x).label ((seen x).tag % b.sets))
  touch_leaves x g same =
      ap (λ (t : List Touched). held_by b.replacement b.sets b.ways t (seen x).label ((seen x).tag % b.sets)) (touches-here g x same)
      ∙ held_here b.replacement b.sets b.ways (touches g) (seen x).label (seen x).tag is.some_way

  in_own : (x : Touch) (h h' : List Touch) (set : ℕ) → set < b.sets
      → ((s : ℕ) → s < b.sets → holding h (seen x).label s ≡ holding h' (seen x).label s)
      → holding (h ++ x ∷ []) (seen x).label set ≡ holding (h' ++ x ∷ []) (seen x).label set
  in_own x h h' set below alike = go (cases_Bool (is_place p x.place)) (cases_eq (tag % b.sets) set)
    where
      tag : ℕ
      tag = (seen x).tag

      own : ℕ
      own = (seen x).label

      go : ((is_place p x.place ≡ true) ⊎ (is_place p x.place ≡ false)) → ((tag % b.sets ≡ set) ⊎ (tag % b.sets ≡ set → ⊥))
          → holding (h ++ x ∷ []) own set ≡ holding (h' ++ x ∷ []) own set
      go (inl same) (inl e) =
          ap (holding (h ++ x ∷ []) own) (sym e)
          ∙ touch_leaves x h same
          ∙ ap (replaced b.replacement b.ways tag) (alike (tag % b.sets) (mod_below tag b.sets is.some_set))
          ∙ sym (touch_leaves x h' same)
          ∙ ap (holding (h' ++ x ∷ []) own) e
      go (inl same) (inr ne) =
          let apart : is_at b.sets own set (seen x) ≡ false = grind (arith, ne_eqb (tag % b.sets) set ne) in
          beside x h own set same apart ∙ alike set below ∙ sym (beside x h' own set same apart)
      go (inr apart) e =
          ap (λ (t : List Touched). held_by b.replacement b.sets b.ways t own set) (touches-other h x apart)
          ∙ alike set below
          ∙ ap (λ (t : List Touched). held_by b.replacement b.sets b.ways t own set) (sym (touches-other h' x apart))

  -- after the same touch a partition depends on what it held before
  pub touch_agrees : (x : Touch) (l : ℕ) (h h' : List Touch) → part l h ≡ part l h' → part l (h ++ x ∷ []) ≡ part l (h' ++ x ∷ [])
  touch_agrees x l h h' e = go (cases_eq l (seen x).label) (sets_from_numbers l l h h' e)
    where
      go : ((l ≡ (seen x).label) ⊎ (l ≡ (seen x).label → ⊥)) → ((s : ℕ) → s < b.sets → holding h l s ≡ holding h' l s)
          → part l (h ++ x ∷ []) ≡ part l (h' ++ x ∷ [])
      go (inl same) alike =
          ap (λ n. part n (h ++ x ∷ [])) same
          ∙ numbers_from_sets (seen x).label (h ++ x ∷ []) (h' ++ x ∷ [])
          (λ set below. in_own x h h' set below (λ s lt. ap (λ n. holding h n s) (sym same) ∙ alike s lt ∙ ap (λ n. holding h' n s) same))
          ∙ ap (λ n. part n (h' ++ x ∷ [])) (sym same)
      go (inr ne) alike = touch_elsewhere x l h ne ∙ e ∙ sym (touch_elsewhere x l h' ne)

  -- a partition holds a tag where it is among those held
  pub holds_is : (h : List Touch) (l tag : ℕ) → holds_by b.replacement b.sets b.ways (touches h) l tag ≡ list_any (eqb tag) (holding h l (tag % b.sets))
  holds_is h l tag = sym (any_held b.replacement b.ways tag (reverse (tags_in b.sets l (tag % b.sets) (touches h))))

  -- a look-up reads the partitions whose labels flow to the home of er
  pub hits_same : (er a : ℕ) (h h' : List Touch) → ((l : ℕ) → Flows (lattice_of order) l (home hw order er) → part l h ≡ part l h')
      → hits_in hw order b p h er a ≡ hits_in hw order b p h' er a
  hits_same er a h h' agree =
      some_below_same order.size (λ l. flows l && keeps h l) (λ l. flows l && keeps h' l) (λ l lt. go l (cases_Bool (flows l)))
    where
      tag : ℕ
      tag = a / b.bytes

      flows : ℕ → Bool
      flows l = (lattice_of order).flows l (home hw order er)

      keeps : List Touch → ℕ → Bool
      keeps g l = holds_by b.replacement b.sets b.ways (touches g) l tag

      go : (l : ℕ) → ((flows l ≡ true) ⊎ (flows l ≡ false)) → (flows l && keeps h l) ≡ (flows l && keeps h' l)
      go l (inl f) =
          ap (λ c. flows l && c)
          (holds_is h l tag
          ∙ ap (list_any (eqb tag)) (sets_from_numbers l l h h' (agree l f) (tag % b.sets) (mod_below tag b.sets is.some_set))
          ∙ sym (holds_is h' l tag))
      go l (inr f) = ap (λ c. c && keeps h l) f ∙ sym (ap (λ c. c && keeps h' l) f)
