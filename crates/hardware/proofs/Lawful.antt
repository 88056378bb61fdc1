-- Machines keep the laws: all three with partitions, two of them always.
use Rattle.std.proofs.Common.{◌≡◌, ℕ, ◌+◌, List, [], ◌∷◌, ◌++◌, false, refl, sym, ap, ◌∙◌, subst, Option, Some, None}
use Rattle.std.specs.Prelude.{cond, IfSome}
use Rattle.std.specs.Option.{option_map_or}
use Rattle.label_lattice.specs.Lattice.{Flows, IsLattice}
use Rattle.label_lattice.specs.Order.{Order, lattice_of}
use Rattle.env_contract.specs.declared.place.Kind.{Kind}
use Rattle.env_contract.specs.declared.place.Place.{Place}
use Rattle.env_contract.specs.declared.place.Place.TheVariants.{Page, Second}
use Rattle.env_contract.specs.declared.place.Touch.{Touch}
use Rattle.env_contract.specs.Laws.{AgreeBelow}
use Rattle.part_tlb.specs.Machine.{line_place}
use Rattle.part_tlb.specs.declared.bank.Bank.{Bank}
use Rattle.part_tlb.specs.declared.bank.Hardware.{Hardware}
use Rattle.part_tlb.specs.declared.bank.Sharing.{Sharing}
use Rattle.part_tlb.specs.declared.bank.Sharing.TheVariants.{Partitioned, Shared}
use Rattle.part_tlb.specs.Machine.{bank_at, home, home_by, touch_at, accessed, hits_in, hits_at, cost_at, access_cost, bank_part, part_at, hardware_by_history}
use Rattle.hardware.specs.Limits.{IsBank, HasBanks}
use Rattle.hardware.specs.Laws.{PartitionedAreLawful, AllReadAndAgree}
use Rattle.hardware.specs.Touching.{touch_elsewhere, touch_agrees, hits_same}

-- a label to which ew does not flow is not ew
not_own : (order : Order) → IsLattice (lattice_of order) → (ew l : ℕ) → (Flows (lattice_of order) ew l → ⊥) → l ≡ ew → ⊥
not_own order good ew l apart e = apart (subst (Flows (lattice_of order) ew) (sym e) (good.same ew))

module _ (hw : Hardware) (has : HasBanks hw) (order : Order) where
  -- ---- one touch, at each place
  elsewhere_by : (p : Place) (o : Option Bank) → IfSome o IsBank → (x : Touch) (l : ℕ) (h : List Touch) → (l ≡ home hw order x.label.number → ⊥)
      → option_map_or (λ (b : Bank). bank_part hw order b p l (h ++ x ∷ [])) o [] ≡ option_map_or (λ (b : Bank). bank_part hw order b p l h) o []
  elsewhere_by p None is x l h ne = refl
  elsewhere_by p (Some b) is x l h ne = touch_elsewhere hw order b is p x l h ne

  pub elsewhere : (p : Place) (x : Touch) (l : ℕ) (h : List Touch) → (l ≡ home hw order x.label.number → ⊥)
      → part_at hw order p l (h ++ x ∷ []) ≡ part_at hw order p l h
  elsewhere p x l h ne = elsewhere_by p (bank_at hw p) (has.each p) x l h ne

  agrees_by : (p : Place) (o : Option Bank) → IfSome o IsBank → (x : Touch) (l : ℕ) (h h' : List Touch)
      → option_map_or (λ (b : Bank). bank_part hw order b p l h) o [] ≡ option_map_or (λ (b : Bank). bank_part hw order b p l h') o []
      → option_map_or (λ (b : Bank). bank_part hw order b p l (h ++ x ∷ [])) o []
      ≡ option_map_or (λ (b : Bank). bank_part hw order b p l (h' ++ x ∷ [])) o []
  agrees_by p None is x l h h' e = refl
  agrees_by p (Some b) is x l h h' e = touch_agrees hw order b is p x l h h' e

  pub agrees : (p : Place) (x : Touch) (l : ℕ) (h h' : List Touch) → part_at hw order p l h ≡ part_at hw order p l h'
      → part_at hw order p l (h ++ x ∷ []) ≡ part_at hw order p l (h' ++ x ∷ [])
  agrees p x l h h' e = agrees_by p (bank_at hw p) (has.each p) x l h h' e

  -- ---- one look-up, at each place
  module _ (er a : ℕ) (h h' : List Touch) (alike : (p : Place) (l : ℕ) → Flows (lattice_of order) l (home hw order er)
      → part_at hw order p l h ≡ part_at hw order p l h') where
    bank_same : (p : Place) (o : Option Bank) → IfSome o IsBank
        → ((l : ℕ) → Flows (lattice_of order) l (home hw order er)
        → option_map_or (λ (b : Bank). bank_part hw order b p l h) o [] ≡ option_map_or (λ (b : Bank). bank_part hw order b p l h') o [])
        → (option_map_or (λ b. hits_in hw order b p h er a) o false ≡ option_map_or (λ b. hits_in hw order b p h' er a) o false)
        × (option_map_or (λ (b : Bank). cond (hits_in hw order b p h er a) b.hit b.miss) o 0
        ≡ option_map_or (λ (b : Bank). cond (hits_in hw order b p h' er a) b.hit b.miss) o 0)
    bank_same p None is e = (refl, refl)
    bank_same p (Some b) is e =
        let same = hits_same hw order b is p er a h h' e in
        (same, ap (λ c. cond c b.hit b.miss) same)

    hit_same : (p : Place) → hits_at hw order p h er a ≡ hits_at hw order p h' er a
    hit_same p = (bank_same p (bank_at hw p) (has.each p) (alike p)).0

    look_same : (p : Place) → cost_at hw order p h er a ≡ cost_at hw order p h' er a
    look_same p = (bank_same p (bank_at hw p) (has.each p) (alike p)).1

    pub cost_same : (k : Kind) → access_cost hw order k a er h ≡ access_cost hw order k a er h'
    cost_same k =
        ap (λ n. n + cost_at hw order (line_place k) h er a + cond (hits_at hw order (line_place k) h er a) 0 (cost_at hw order Second h er a)) (look_same Page)
        ∙ ap (λ n. cost_at hw order Page h' er a + n + cond (hits_at hw order (line_place k) h er a) 0 (cost_at hw order Second h er a))
        (look_same (line_place k))
        ∙ ap (λ c. cost_at hw order Page h' er a + cost_at hw order (line_place k) h' er a + cond c 0 (cost_at hw order Second h er a))
        (hit_same (line_place k))
        ∙ ap (λ n. cost_at hw order Page h' er a + cost_at hw order (line_place k) h' er a + cond (hits_at hw order (line_place k) h' er a) 0 n)
        (look_same Second)

  -- ---- one access
  abbrev paged : ℕ → ℕ → List Touch → List Touch
  paged a ew h = touch_at Page a ew h

  abbrev lined : Kind → ℕ → ℕ → List Touch → List Touch
  lined k a ew h = touch_at (line_place k) a ew (touch_at Page a ew h)

  abbrev new : Place → ℕ → ℕ → Touch
  new p a ew = record { place = p; label = record { number = ew }; address = a }

  pub access_elsewhere : (q : Place) (k : Kind) (a ew l : ℕ) (h : List Touch) → (l ≡ home hw order ew → ⊥)
      → part_at hw order q l (accessed k a ew h) ≡ part_at hw order q l h
  access_elsewhere q k a ew l h ne =
      elsewhere q (new Second a ew) l (lined k a ew h) ne ∙ elsewhere q (new (line_place k) a ew) l (paged a ew h) ne ∙ elsewhere q (new Page a ew) l h ne

  pub access_agrees : (q : Place) (k : Kind) (a ew l : ℕ) (h h' : List Touch) → part_at hw order q l h ≡ part_at hw order q l h'
      → part_at hw order q l (accessed k a ew h) ≡ part_at hw order q l (accessed k a ew h')
  access_agrees q k a ew l h h' e =
      agrees q (new Second a ew) l (lined k a ew h) (lined k a ew h')
      (agrees q (new (line_place k) a ew) l (paged a ew h) (paged a ew h') (agrees q (new Page a ew) l h h' e))

  -- what flows to the home of a label flows to the label
  home_below : IsLattice (lattice_of order) → (s : Sharing) (er l : ℕ) → Flows (lattice_of order) l (home_by s order er) → Flows (lattice_of order) l er
  home_below good Partitioned er l f = f
  home_below good Shared er l f = good.chain l order.bottom er f (good.lowest er)

  pub read_same : IsLattice (lattice_of order) → (k : Kind) (a er : ℕ) (h h' : List Touch)
      → AgreeBelow (hardware_by_history hw order) (lattice_of order) er h h' → access_cost hw order k a er h ≡ access_cost hw order k a er h'
  read_same good k a er h h' agree = cost_same er a h h' (λ p l f. agree p l (home_below good hw.sharing er l f)) k

pub all_read_and_agree : AllReadAndAgree
all_read_and_agree hw has =
    record {
      read_label = λ order good k a er ew h h' agree. read_same hw has order good k a er h h' agree;
      agreement = λ order good k a er ew o h h' agree q l flows. access_agrees hw has order q k a ew l h h' (agree q l flows);
    }

pub partitioned_are_lawful : PartitionedAreLawful
partitioned_are_lawful hw has own order good =
    record {
      keeps = λ k a er ew h s. tt;
      write_label = λ k a er ew h s q l apart.
          access_elsewhere hw has order q k a ew l h
          (λ e. not_own order good ew l apart (e ∙ ap (λ s. home_by s order ew) own));
      read_label = λ k a er ew h h' s s' agree. read_same hw has order good k a er h h' agree;
      agreement = λ k a er ew o h h' s s' agree q l flows. access_agrees hw has order q k a ew l h h' (agree q l flows);
    }
