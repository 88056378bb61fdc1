-- Under the rule that a bank names a set is what a look back into the history says.
use Rattle.std.proofs.Common.{◌≡◌, ℕ, zero, suc, ◌+◌, ◌/◌, ◌%◌, ◌<◌, List, [], ◌∷◌, ◌++◌, Bool, false, refl, sym, ap, ◌∙◌, Option, Some, None}
use Rattle.std.specs.Prelude.{map, eqb, cond, ◌&&◌, reverse, IfSome}
use Rattle.std.specs.List.{range_with_len, list_any}
use Rattle.std.specs.Option.{option_map_or}
use Rattle.std.proofs.lemmas.List.{append-nil, append_assoc, reverse-append}
use Rattle.label_lattice.specs.Order.{Order, lattice_of}
use Rattle.env_contract.specs.declared.place.Kind.{Kind}
use Rattle.env_contract.specs.declared.place.Place.{Place}
use Rattle.env_contract.specs.declared.place.Place.TheVariants.{Page, Second}
use Rattle.env_contract.specs.declared.place.Touch.{Touch}
use Rattle.part_cache.specs.declared.replacement.Replacement.{Replacement}
use Rattle.part_cache.specs.History.{tags_in, row_of, holds_by, held_by}
use Rattle.part_cache.specs.Rows.{numbers_of}
use Rattle.part_cache.proofs.Replaced.{row_none, row_front, any_held}
use Rattle.part_tlb.specs.Machine.{line_place}
use Rattle.part_tlb.specs.declared.bank.Bank.{Bank}
use Rattle.part_tlb.specs.declared.bank.Hardware.{Hardware}
use Rattle.part_tlb.specs.Machine.{bank_at, home, touches_in, hits_in, hits_at, cost_at, access_cost, bank_part, part_at, hardware_by_history}
use Rattle.hardware.specs.Limits.{IsBank, HasBanks}
use Rattle.hardware.specs.Rules.{rule_of, ReplacesBy, set_after, set_in, ruled_hits, ruled_hits_at, ruled_cost_at, ruled_cost, ruled_bank, ruled_part}
use Rattle.hardware.specs.Rules.{RuleIsMachine}
use Rattle.hardware.specs.Touching.{some_below_same}

-- what tags leave of a set that earlier ones made
after_more : (r : Replacement) (ways : ℕ) → 0 < ways → (before tags : List ℕ)
    → set_after (rule_of r) ways (row_of r ways (reverse before)) tags ≡ row_of r ways (reverse (before ++ tags))
after_more r ways some before [] = ap (λ ts. row_of r ways (reverse ts)) (sym (append-nil before))
after_more r ways some before (t ∷ tags) =
    ap (λ s. set_after (rule_of r) ways s tags)
    (sym (row_front r ways t (reverse before) some) ∙ ap (row_of r ways) (sym (reverse-append before (t ∷ []))))
    ∙ after_more r ways some (before ++ t ∷ []) tags
    ∙ ap (λ ts. row_of r ways (reverse ts)) (append_assoc before (t ∷ []) tags)

set_is : (r : Replacement) (ways : ℕ) → 0 < ways → (tags : List ℕ) → set_after (rule_of r) ways [] tags ≡ row_of r ways (reverse tags)
set_is r ways some tags = ap (λ s. set_after (rule_of r) ways s tags) (sym (row_none r ways)) ∙ after_more r ways some [] tags

module _ (hw : Hardware) (order : Order) (b : Bank) (is : IsBank b) (p : Place) (h : List Touch) where
  set_held : (l set : ℕ) → set_in (rule_of b.replacement) hw order b p h l set ≡ held_by b.replacement b.sets b.ways (touches_in hw order b p h) l set
  set_held l set =
      set_is b.replacement b.ways is.some_way (tags_in b.sets l set (touches_in hw order b p h))

  map_sets : (n : ℕ) (l a : ℕ) → map (λ set. set_in (rule_of b.replacement) hw order b p h l set) (range_with_len a n)
      ≡ map (held_by b.replacement b.sets b.ways (touches_in hw order b p h) l) (range_with_len a n)
  map_sets zero l a = refl
  map_sets (suc n) l a = rw (set_held l a, map_sets n l (a + 1)) refl

  pub bank_same : (l : ℕ) → ruled_bank (rule_of b.replacement) hw order b p l h ≡ bank_part hw order b p l h
  bank_same l = ap numbers_of (map_sets b.sets l 0)

  pub bank_hits : (er a : ℕ) → ruled_hits (rule_of b.replacement) hw order b p h er a ≡ hits_in hw order b p h er a
  bank_hits er a =
      some_below_same order.size
      (λ l. (lattice_of order).flows l (home hw order er) && list_any (eqb tag) (set_in (rule_of b.replacement) hw order b p h l (tag % b.sets)))
      (λ l. (lattice_of order).flows l (home hw order er) && holds_by b.replacement b.sets b.ways (touches_in hw order b p h) l tag)
      (λ l lt. ap (λ c. (lattice_of order).flows l (home hw order er) && c)
      (ap (list_any (eqb tag)) (set_held l (tag % b.sets))
      ∙ any_held b.replacement b.ways tag (reverse (tags_in b.sets l (tag % b.sets) (touches_in hw order b p h)))))
    where
      tag : ℕ
      tag = a / b.bytes

module _ (r : Replacement) (hw : Hardware) (has : HasBanks hw) (by : ReplacesBy r hw) (order : Order) (h : List Touch) where
  part_same : (p : Place) (l : ℕ) → ruled_part (rule_of r) hw order p l h ≡ part_at hw order p l h
  part_same p l = go (bank_at hw p) (has.each p) (by p)
    where
      go : (o : Option Bank) → IfSome o IsBank → IfSome o (λ (b : Bank). b.replacement ≡ r)
          → option_map_or (λ (b : Bank). ruled_bank (rule_of r) hw order b p l h) o []
          ≡ option_map_or (λ (b : Bank). bank_part hw order b p l h) o []
      go None is same = refl
      go (Some b) is same = ap (λ s. ruled_bank (rule_of s) hw order b p l h) (sym same) ∙ bank_same hw order b is p h l

  look : (p : Place) (er a : ℕ) → (ruled_hits_at (rule_of r) hw order p h er a ≡ hits_at hw order p h er a)
      × (ruled_cost_at (rule_of r) hw order p h er a ≡ cost_at hw order p h er a)
  look p er a = go (bank_at hw p) (has.each p) (by p)
    where
      go : (o : Option Bank) → IfSome o IsBank → IfSome o (λ (b : Bank). b.replacement ≡ r)
          → (option_map_or (λ b. ruled_hits (rule_of r) hw order b p h er a) o false ≡ option_map_or (λ b. hits_in hw order b p h er a) o false)
          × (option_map_or (λ (b : Bank). cond (ruled_hits (rule_of r) hw order b p h er a) b.hit b.miss) o 0
          ≡ option_map_or (λ (b : Bank). cond (hits_in hw order b p h er a) b.hit b.miss) o 0)
      go None is same = (refl, refl)
      go (Some b) is same =
          let e = ap (λ s. ruled_hits (rule_of s) hw order b p h er a) (sym same) ∙ bank_hits hw order b is p h er a in
          (e, ap (λ c. cond c b.hit b.miss) e)

  cost_same : (k : Kind) (a er : ℕ) → ruled_cost (rule_of r) hw order k a er h ≡ access_cost hw order k a er h
  cost_same k a er =
      costs _ _ _ _ _ _ _ _ (look Page er a).1 (look (line_place k) er a).1 (look (line_place k) er a).0 (look Second er a).1
    where
      costs : (a a' b b' : ℕ) (c c' : Bool) (d d' : ℕ) → a ≡ a' → b ≡ b' → c ≡ c' → d ≡ d' → a + b + cond c 0 d ≡ a' + b' + cond c' 0 d'
      costs a a' b b' c c' d d' e f g h = rw (e, f, g, h) refl

pub rule_is : (r : Replacement) → RuleIsMachine r
rule_is r hw has by order =
    record {
      cost = λ k a er ew h g er_in ew_in e. cost_same r hw has by order h k a er ∙ ap (λ t. access_cost hw order k a er t) e;
      next = λ k a er ew h g er_in ew_in e. ap ((hardware_by_history hw order).next_of k a er ew) e;
      part = λ q l h g lt e. part_same r hw has by order h q l ∙ ap (part_at hw order q l) e;
    }
