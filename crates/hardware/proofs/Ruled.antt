-- Machines keep the laws whatever their rule of replacement.
use Rattle.std.proofs.Common.{◌≡◌, ℕ, zero, suc, ◌+◌, ◌/◌, ◌%◌, ◌<◌, List, [], ◌∷◌, ◌++◌}
use Rattle.std.proofs.Common.{get_or, Bool, true, false, refl, sym, ap, ◌∙◌, subst, ◌⊎◌, inl, inr, arith}
use Rattle.std.proofs.Common.{Option, Some, None}
use Rattle.std.specs.Prelude.{map, eqb, cond, ◌&&◌, IfSome}
use Rattle.std.specs.List.{range_with_len}
use Rattle.std.specs.Option.{option_map_or}
use Rattle.std.proofs.lemmas.List.{append-nil}
use Rattle.std.proofs.lemmas.List.FromFn.{get_or-map-range_with_len}
use Rattle.std.proofs.lemmas.Nat.{mod_below}
use Rattle.std.proofs.lemmas.Bool.{cases_Bool, ne_eqb}
use Rattle.label_lattice.specs.Lattice.{Flows}
use Rattle.label_lattice.specs.Order.{Order, lattice_of}
use Rattle.env_contract.specs.declared.place.Kind.{Kind}
use Rattle.env_contract.specs.declared.place.Place.{Place}
use Rattle.env_contract.specs.declared.place.Place.TheVariants.{Page, Second}
use Rattle.env_contract.specs.declared.place.Touch.{Touch}
use Rattle.part_cache.specs.History.{Touched, tags_in}
use Rattle.part_cache.specs.Rows.{numbers_of}
use Rattle.part_cache.proofs.Stands.{is_at}
use Rattle.part_cache.proofs.Laws.{rows_from_numbers}
use Rattle.part_tlb.specs.Machine.{is_place, line_place}
use Rattle.part_tlb.specs.declared.bank.Bank.{Bank}
use Rattle.part_tlb.specs.declared.bank.Hardware.{Hardware}
use Rattle.part_tlb.specs.Machine.{bank_at, home, home_by, touch_at, touches_in}
use Rattle.hardware.specs.Limits.{IsBank, HasBanks}
use Rattle.hardware.specs.Rules.{Rule, IsTold, set_after, Spot, all_touched, set_in}
use Rattle.hardware.specs.Rules.{ruled_hits, ruled_hits_at, ruled_cost_at, ruled_cost, ruled_bank, ruled_part}
use Rattle.hardware.specs.Rules.{RuledAreLawful}
use Rattle.hardware.specs.Touching.{some_below_same, touches-push}

map_same : (f g : ℕ → List ℕ) (a n : ℕ) → ((k : ℕ) → k < a + n → f k ≡ g k) → map f (range_with_len a n) ≡ map g (range_with_len a n)
map_same f g a zero h = refl
map_same f g a (suc n) h = rw (h a (omega arith), map_same f g (a + 1) n (λ k lt. h k (omega arith))) refl

tags_in-push : (sets label set : ℕ) (h : List Touched) (x : Touched)
    → tags_in sets label set (h ++ x ∷ []) ≡ tags_in sets label set h ++ cond (is_at sets label set x) (x.tag ∷ []) []
tags_in-push sets label set [] x = refl
tags_in-push sets label set (y ∷ h) x = go (is_at sets label set y) (tags_in-push sets label set h x)
  where
    go : (b : Bool) → tags_in sets label set (h ++ x ∷ []) ≡ tags_in sets label set h ++ cond (is_at sets label set x) (x.tag ∷ []) [] →
        cond b (y.tag ∷ tags_in sets label set (h ++ x ∷ [])) (tags_in sets label set (h ++ x ∷ []))
        ≡ cond b (y.tag ∷ tags_in sets label set h) (tags_in sets label set h) ++ cond (is_at sets label set x) (x.tag ∷ []) []
    go true e = ap (λ t. y.tag ∷ t) e
    go false e = e

module _ {S : Type 0} (rule : Rule S) (told : IsTold rule) where
  set_after-push : (ways : ℕ) (s : S) (tags : List ℕ) (c : Bool) (tag : ℕ)
      → set_after rule ways s (tags ++ cond c (tag ∷ []) []) ≡ cond c (rule.touch ways tag (set_after rule ways s tags)) (set_after rule ways s tags)
  set_after-push ways s [] true tag = refl
  set_after-push ways s [] false tag = refl
  set_after-push ways s (t ∷ tags) c tag = set_after-push ways (rule.touch ways t s) tags c tag

  module _ (hw : Hardware) (order : Order) (b : Bank) (is : IsBank b) (p : Place) where
    abbrev seen : Touch → Touched
    seen x = record { label = home hw order x.label.number; tag = x.address / b.bytes }

    abbrev set_of : List Touch → ℕ → ℕ → S
    set_of h label set = set_in rule hw order b p h label set

    abbrev part : ℕ → List Touch → List ℕ
    part label h = ruled_bank rule hw order b p label h

    -- what one more touch makes of a set: nothing where it is elsewhere
    abbrev moved : Touch → ℕ → ℕ → S → S
    moved x label set s = cond (is_place p x.place) (cond (is_at b.sets label set (seen x)) (rule.touch b.ways (seen x).tag s) s) s

    step : (x : Touch) (h : List Touch) (label set : ℕ) → set_of (h ++ x ∷ []) label set ≡ moved x label set (set_of h label set)
    step x h label set =
        ap (λ (t : List Touched). set_after rule b.ways rule.empty (tags_in b.sets label set t)) (touches-push hw order b is p h x)
        ∙ go (is_place p x.place)
      where
        ts : List Touched
        ts = touches_in hw order b p h

        go : (c : Bool) → set_after rule b.ways rule.empty (tags_in b.sets label set (ts ++ cond c (seen x ∷ []) []))
            ≡ cond c (cond (is_at b.sets label set (seen x)) (rule.touch b.ways (seen x).tag (set_after rule b.ways rule.empty (tags_in b.sets label set ts)))
            (set_after rule b.ways rule.empty (tags_in b.sets label set ts))) (set_after rule b.ways rule.empty (tags_in b.sets label set ts))
        go true =
            ap (set_after rule b.ways rule.empty) (tags_in-push b.sets label set ts (seen x))
            ∙ set_after-push b.ways rule.empty (tags_in b.sets label set ts) (is_at b.sets label set (seen x)) (seen x).tag
        go false = ap (λ (t : List Touched). set_after rule b.ways rule.empty (tags_in b.sets label set t)) (append-nil ts)

    stays : (x : Touch) (label set : ℕ) (s : S) → (label ≡ home hw order x.label.number → ⊥) → moved x label set s ≡ s
    stays x label set s ne = go (is_place p x.place)
      where
        at : is_at b.sets label set (seen x) ≡ false
        at = ap (λ c. c && eqb (x.address / b.bytes % b.sets) set) (ne_eqb (home hw order x.label.number) label (λ e. ne (sym e)))

        go : (c : Bool) → cond c (cond (is_at b.sets label set (seen x)) (rule.touch b.ways (seen x).tag s) s) s ≡ s
        go true = ap (λ c. cond c (rule.touch b.ways (seen x).tag s) s) at
        go false = refl

    sets_from_numbers : (l : ℕ) (h h' : List Touch) → part l h ≡ part l h' → (set : ℕ) → set < b.sets → set_of h l set ≡ set_of h' l set
    sets_from_numbers l h h' e set below =
        told (set_of h l set) (set_of h' l set)
        (sym (get_or-map-range_with_len (λ set. rule.numbers (set_of h l set)) 0 b.sets set set [] below (omega arith))
        ∙ ap (λ rows. get_or rows set [])
        (rows_from_numbers (map (λ set. rule.numbers (set_of h l set)) (range_with_len 0 b.sets))
        (map (λ set. rule.numbers (set_of h' l set)) (range_with_len 0 b.sets)) e)
        ∙ get_or-map-range_with_len (λ set. rule.numbers (set_of h' l set)) 0 b.sets set set [] below (omega arith))

    numbers_from_sets : (l : ℕ) (h h' : List Touch) → ((set : ℕ) → set < b.sets → set_of h l set ≡ set_of h' l set) → part l h ≡ part l h'
    numbers_from_sets l h h' same =
        ap numbers_of
        (map_same (λ set. rule.numbers (set_of h l set)) (λ set. rule.numbers (set_of h' l set)) 0 b.sets (λ k lt. ap rule.numbers (same k (omega arith))))

    pub bank_elsewhere : (x : Touch) (l : ℕ) (h : List Touch) → (l ≡ home hw order x.label.number → ⊥) → part l (h ++ x ∷ []) ≡ part l h
    bank_elsewhere x l h ne =
        numbers_from_sets l (h ++ x ∷ []) h (λ set below. step x h l set ∙ stays x l set (set_of h l set) ne)

    pub bank_agrees : (x : Touch) (l : ℕ) (h h' : List Touch) → part l h ≡ part l h' → part l (h ++ x ∷ []) ≡ part l (h' ++ x ∷ [])
    bank_agrees x l h h' e =
        numbers_from_sets l (h ++ x ∷ []) (h' ++ x ∷ [])
        (λ set below. step x h l set ∙ ap (moved x l set) (sets_from_numbers l h h' e set below) ∙ sym (step x h' l set))

    pub bank_hits_same : (er a : ℕ) (h h' : List Touch) → ((l : ℕ) → Flows (lattice_of order) l (home hw order er) → part l h ≡ part l h')
        → ruled_hits rule hw order b p h er a ≡ ruled_hits rule hw order b p h' er a
    bank_hits_same er a h h' agree =
        some_below_same order.size (λ l. flows l && keeps h l) (λ l. flows l && keeps h' l) (λ l lt. go l (cases_Bool (flows l)))
      where
        flows : ℕ → Bool
        flows l = (lattice_of order).flows l (home hw order er)

        keeps : List Touch → ℕ → Bool
        keeps g l = rule.has (a / b.bytes) (set_of g l (a / b.bytes % b.sets))

        go : (l : ℕ) → ((flows l ≡ true) ⊎ (flows l ≡ false)) → (flows l && keeps h l) ≡ (flows l && keeps h' l)
        go l (inl f) =
            ap (λ s. flows l && rule.has (a / b.bytes) s)
            (sets_from_numbers l h h' (agree l f) (a / b.bytes % b.sets) (mod_below (a / b.bytes) b.sets is.some_set))
        go l (inr f) = ap (λ c. c && keeps h l) f ∙ sym (ap (λ c. c && keeps h' l) f)

  -- ---- at each place
  module _ (hw : Hardware) (has : HasBanks hw) (order : Order) where
    elsewhere : (p : Place) (x : Touch) (l : ℕ) (h : List Touch) → (l ≡ home hw order x.label.number → ⊥)
        → ruled_part rule hw order p l (h ++ x ∷ []) ≡ ruled_part rule hw order p l h
    elsewhere p x l h ne = go (bank_at hw p) (has.each p)
      where
        go : (o : Option Bank) → IfSome o IsBank → option_map_or (λ (b : Bank). ruled_bank rule hw order b p l (h ++ x ∷ [])) o []
            ≡ option_map_or (λ (b : Bank). ruled_bank rule hw order b p l h) o []
        go None is = refl
        go (Some b) is = bank_elsewhere hw order b is p x l h ne

    agrees : (p : Place) (x : Touch) (l : ℕ) (h h' : List Touch) → ruled_part rule hw order p l h ≡ ruled_part rule hw order p l h'
        → ruled_part rule hw order p l (h ++ x ∷ []) ≡ ruled_part rule hw order p l (h' ++ x ∷ [])
    agrees p x l h h' e = go (bank_at hw p) (has.each p) e
      where
        go : (o : Option Bank) → IfSome o IsBank
            → option_map_or (λ (b : Bank). ruled_bank rule hw order b p l h) o [] ≡ option_map_or (λ (b : Bank). ruled_bank rule hw order b p l h') o []
            → option_map_or (λ (b : Bank). ruled_bank rule hw order b p l (h ++ x ∷ [])) o []
            ≡ option_map_or (λ (b : Bank). ruled_bank rule hw order b p l (h' ++ x ∷ [])) o []
        go None is e = refl
        go (Some b) is e = bank_agrees hw order b is p x l h h' e

    all_elsewhere : (q : Place) (spots : List Spot) (ew l : ℕ) (h : List Touch) → (l ≡ home hw order ew → ⊥)
        → ruled_part rule hw order q l (all_touched spots ew h) ≡ ruled_part rule hw order q l h
    all_elsewhere q [] ew l h ne = refl
    all_elsewhere q (s ∷ spots) ew l h ne =
        all_elsewhere q spots ew l (touch_at s.place s.address ew h) ne
        ∙ elsewhere q (record { place = s.place; label = record { number = ew }; address = s.address }) l h ne

    all_agree : (q : Place) (spots : List Spot) (ew l : ℕ) (h h' : List Touch) → ruled_part rule hw order q l h ≡ ruled_part rule hw order q l h'
        → ruled_part rule hw order q l (all_touched spots ew h) ≡ ruled_part rule hw order q l (all_touched spots ew h')
    all_agree q [] ew l h h' e = e
    all_agree q (s ∷ spots) ew l h h' e =
        all_agree q spots ew l (touch_at s.place s.address ew h) (touch_at s.place s.address ew h')
        (agrees q (record { place = s.place; label = record { number = ew }; address = s.address }) l h h' e)

    module _ (er a : ℕ) (h h' : List Touch) (alike : (p : Place) (l : ℕ) → Flows (lattice_of order) l (home hw order er)
        → ruled_part rule hw order p l h ≡ ruled_part rule hw order p l h') where
      bank_same : (p : Place) (o : Option Bank) → IfSome o IsBank
          → ((l : ℕ) → Flows (lattice_of order) l (home hw order er)
          → option_map_or (λ (b : Bank). ruled_bank rule hw order b p l h) o [] ≡ option_map_or (λ (b : Bank). ruled_bank rule hw order b p l h') o [])
          → (option_map_or (λ b. ruled_hits rule hw order b p h er a) o false ≡ option_map_or (λ b. ruled_hits rule hw order b p h' er a) o false)
          × (option_map_or (λ (b : Bank). cond (ruled_hits rule hw order b p h er a) b.hit b.miss) o 0
          ≡ option_map_or (λ (b : Bank). cond (ruled_hits rule hw order b p h' er a) b.hit b.miss) o 0)
      bank_same p None is e = (refl, refl)
      bank_same p (Some b) is e =
          let same = bank_hits_same hw order b is p er a h h' e in
          (same, ap (λ c. cond c b.hit b.miss) same)

      hit_same : (p : Place) → ruled_hits_at rule hw order p h er a ≡ ruled_hits_at rule hw order p h' er a
      hit_same p = (bank_same p (bank_at hw p) (has.each p) (alike p)).0

      look_same : (p : Place) → ruled_cost_at rule hw order p h er a ≡ ruled_cost_at rule hw order p h' er a
      look_same p = (bank_same p (bank_at hw p) (has.each p) (alike p)).1

      cost_same : (k : Kind) → ruled_cost rule hw order k a er h ≡ ruled_cost rule hw order k a er h'
      cost_same k =
          costs _ _ _ _ _ _ _ _ (look_same Page) (look_same (line_place k)) (hit_same (line_place k)) (look_same Second)
        where
          costs : (a a' b b' : ℕ) (c c' : Bool) (d d' : ℕ) → a ≡ a' → b ≡ b' → c ≡ c' → d ≡ d' → a + b + cond c 0 d ≡ a' + b' + cond c' 0 d'
          costs a a' b b' c c' d d' e f g h = rw (e, f, g, h) refl

  pub ruled_are_lawful : RuledAreLawful rule
  ruled_are_lawful adds hw has own order good =
      record {
        keeps = λ k a er ew h s. tt;
        write_label = λ k a er ew h s q l apart.
            all_elsewhere hw has order q (adds k a) ew l h
            (λ e. apart (subst (Flows (lattice_of order) ew) (sym (e ∙ ap (λ s. home_by s order ew) own)) (good.same ew)));
        read_label = λ k a er ew h h' s s' agree.
            cost_same hw has order er a h h' (λ p l f. agree p l (subst (Flows (lattice_of order) l) (ap (λ s. home_by s order er) own) f)) k;
        agreement = λ k a er ew o h h' s s' agree q l flows. all_agree hw has order q (adds k a) ew l h h' (agree q l flows);
      }
