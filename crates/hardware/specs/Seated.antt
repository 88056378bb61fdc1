-- A machine's environment answers by the history that it stands for.
use Rattle.std.proofs.Common.{◌≡◌, ℕ, ◌+◌, ◌/◌, ◌<◌, ◌≤◌, List, [], ◌∷◌, ◌++◌, Bool, true, false, refl, sym, ap, ◌∙◌, subst, arith, Option, Some, None}
use Rattle.std.specs.Prelude.{cond, max, IfSome}
use Rattle.std.proofs.Common.{length, get_or, drop}
use Rattle.std.proofs.lemmas.List.{append-nil, append_assoc, drop_more}
use Rattle.std.specs.Option.{option_map_or}
use Rattle.label_lattice.specs.Order.{Order}
use Rattle.env_contract.specs.declared.place.Kind.{Kind}
use Rattle.env_contract.specs.declared.place.Kind.TheVariants as kind
use Rattle.env_contract.specs.declared.place.Place.{Place}
use Rattle.env_contract.specs.declared.place.Place.TheVariants.{Page, Code, Data, Second}
use Rattle.env_contract.specs.declared.place.Touch.{Touch}
use Rattle.env_contract.specs.Alike.{DoesAs}
use Rattle.part_cache.specs.History.{hits_by}
use Rattle.part_cache.specs.Rows.{StandsBy, found, touched_by}
use Rattle.part_cache.proofs.Empty.{IsCacheOf-empty, StandsBy-empty_cache}
use Rattle.part_cache.proofs.Stands.{StandsBy-touched}
use Rattle.part_cache.proofs.Laws.{touched_serves, part_of_held}
use Rattle.part_tlb.specs.Machine.{is_place, line_place}
use Rattle.part_tlb.specs.Standing.{found_hits}
use Rattle.part_tlb.specs.declared.bank.Bank.{Bank}
use Rattle.part_tlb.specs.declared.bank.Hardware.{Hardware}
use Rattle.part_tlb.specs.declared.bank.Sharing.{Sharing}
use Rattle.part_tlb.specs.Machine.{bank_at, home, home_by, touch_at, accessed, touches_in}
use Rattle.part_tlb.specs.Machine.{hits_in, hits_at, cost_at, access_cost, bank_part, hardware_by_history}
use Rattle.hardware.specs.declared.seat.Seat.{Seat}
use Rattle.hardware.specs.declared.machine.HardwareEnv.{HardwareEnv}
use Rattle.hardware.specs.Limits.{IsBank, HasBanks, IsCheap, most_at, most_cost}
use Rattle.hardware.specs.Seats.{IsSeatOf, seat_home, AreOfOne, IsSomeSeat, option_found, option_cost, option_touched, option_part, empty_option}
use Rattle.hardware.specs.Envs.{seat_at, machine_touched, line_seat, machine_cost, machine_after, machine_env, IsMadeOf, IsOfSome, Stand, Keeps}
use Rattle.hardware.specs.Envs.{empty_machine, machine_warmed}
use Rattle.hardware.specs.Touching.{touches-here, touches-other}

-- the partition of a label
pub home_is : (sharing : Sharing) (order : Order) (b : Bank) (s : Seat) → IsSeatOf sharing order b s → (l : ℕ) → seat_home s l ≡ home_by sharing order l
home_is sharing order b s m l = ap (λ x. home_by x s.cache.order l) m.shared ∙ ap (λ o. home_by sharing o l) m.cache.same_order

-- ---- one seat
pub of_one_touched : (sharing : Sharing) (order : Order) (o : Option Bank) (s : Option Seat) (a ew : ℕ) → AreOfOne sharing order o s
    → AreOfOne sharing order o (option_touched s a ew)
of_one_touched sharing order None None a ew m = tt
of_one_touched sharing order None (Some s) a ew m = m
of_one_touched sharing order (Some b) None a ew m = m
of_one_touched sharing order (Some b) (Some s) a ew m =
    record {
      same = m.same;
      shared = m.shared;
      good = m.good;
      cache = touched_serves order b.sets b.ways s.bank.replacement s.cache (a / s.bank.bytes) (seat_home s ew) m.cache;
    }

-- what a look-up costs at most
pub cost_most : (sharing : Sharing) (order : Order) (o : Option Bank) (s : Option Seat) (a er : ℕ) → AreOfOne sharing order o s
    → option_cost s a er ≤ option_map_or (λ (b : Bank). max b.hit b.miss) o 0
cost_most sharing order None None a er m = omega arith
cost_most sharing order None (Some s) a er m = absurd m
cost_most sharing order (Some b) None a er m = absurd m
cost_most sharing order (Some b) (Some s) a er m = go (found s.cache (a / s.bank.bytes) (seat_home s er))
  where
    go : (c : Bool) → cond c s.bank.hit s.bank.miss ≤ max b.hit b.miss
    go true = let e : s.bank.hit ≡ b.hit = ap (λ (b : Bank). b.hit) m.same in omega arith
    go false = let e : s.bank.miss ≡ b.miss = ap (λ (b : Bank). b.miss) m.same in omega arith

module _ (hw : Hardware) (order : Order) (p : Place) (h : List Touch) where
  found_is : (o : Option Bank) (s : Option Seat) → AreOfOne hw.sharing order o s → Stand hw order p h o s → (a er : ℕ)
      → option_found s a er ≡ option_map_or (λ b. hits_in hw order b p h er a) o false
  found_is None None m d a er = refl
  found_is None (Some s) m d a er = absurd m
  found_is (Some b) None m d a er = absurd m
  found_is (Some b) (Some s) m d a er =
      found_hits b.replacement order b.sets b.ways s.cache (a / s.bank.bytes) (seat_home s er) (touches_in hw order b p h) m.cache d
      ∙ ap (λ l. hits_by b.replacement order b.sets b.ways (touches_in hw order b p h) l (a / s.bank.bytes)) (home_is hw.sharing order b s m er)
      ∙ ap (λ (c : Bank). hits_by b.replacement order b.sets b.ways (touches_in hw order b p h) (home hw order er) (a / c.bytes)) m.same

  cost_is : (o : Option Bank) (s : Option Seat) → AreOfOne hw.sharing order o s → Stand hw order p h o s → (a er : ℕ)
      → option_cost s a er ≡ option_map_or (λ (b : Bank). cond (hits_in hw order b p h er a) b.hit b.miss) o 0
  cost_is None None m d a er = refl
  cost_is None (Some s) m d a er = absurd m
  cost_is (Some b) None m d a er = absurd m
  cost_is (Some b) (Some s) m d a er =
      ap (λ (c : Bank). cond (found s.cache (a / s.bank.bytes) (seat_home s er)) c.hit c.miss) m.same
      ∙ ap (λ c. cond c b.hit b.miss) (found_is (Some b) (Some s) m d a er)

  part_is : (o : Option Bank) (s : Option Seat) → AreOfOne hw.sharing order o s → Stand hw order p h o s → (l : ℕ) → l < order.size
      → option_part l s ≡ option_map_or (λ (b : Bank). bank_part hw order b p l h) o []
  part_is None None m d l lt = refl
  part_is None (Some s) m d l lt = absurd m
  part_is (Some b) None m d l lt = absurd m
  part_is (Some b) (Some s) m d l lt = part_of_held order b.sets b.ways b.replacement s.cache l (touches_in hw order b p h) m.cache lt d

  -- a touch at the place, and one elsewhere
  stand_here : (o : Option Bank) (s : Option Seat) → AreOfOne hw.sharing order o s → Stand hw order p h o s → (q : Place) → is_place p q ≡ true
      → (a ew : ℕ) → Stand hw order p (touch_at q a ew h) o (option_touched s a ew)
  stand_here None None m d q same a ew = tt
  stand_here None (Some s) m d q same a ew = m
  stand_here (Some b) None m d q same a ew = m
  stand_here (Some b) (Some s) m d q same a ew =
      subst (λ r. StandsBy b.replacement (touched_by r s.cache (a / s.bank.bytes) (seat_home s ew)) (touches_in hw order b p (touch_at q a ew h)))
      (sym (ap (λ (c : Bank). c.replacement) m.same))
      (subst (StandsBy b.replacement (touched_by b.replacement s.cache (a / s.bank.bytes) (seat_home s ew)))
      (ap (λ l. touches_in hw order b p h ++ record { label = l; tag = a / s.bank.bytes } ∷ []) (home_is hw.sharing order b s m ew)
      ∙ ap (λ (c : Bank). touches_in hw order b p h ++ record { label = home hw order ew; tag = a / c.bytes } ∷ []) m.same
      ∙ sym (touches-here hw order b m.good p h (record { place = q; label = record { number = ew }; address = a }) same))
      (StandsBy-touched s.cache m.cache.cache b.replacement (a / s.bank.bytes) (seat_home s ew) (touches_in hw order b p h) d))

  stand_there : (o : Option Bank) (s : Option Seat) → AreOfOne hw.sharing order o s → Stand hw order p h o s → (q : Place) → is_place p q ≡ false
      → (a ew : ℕ) → Stand hw order p (touch_at q a ew h) o s
  stand_there None None m d q apart a ew = tt
  stand_there None (Some s) m d q apart a ew = m
  stand_there (Some b) None m d q apart a ew = m
  stand_there (Some b) (Some s) m d q apart a ew =
      subst (StandsBy b.replacement s.cache)
      (sym (touches-other hw order b m.good p h (record { place = q; label = record { number = ew }; address = a }) apart)) d

-- each bank of an environment of some machine is one of some bank
pub seat_of_some : (order : Order) (e : HardwareEnv) → IsOfSome order e → (p : Place) → IsSomeSeat order (seat_at e p)
seat_of_some order e is p = record { sharing = is.hardware.sharing; bank = bank_at is.hardware p; is = is.made.seats p }

-- ---- one touch of the environment
module _ (hw : Hardware) (order : Order) where
  pub seats_after : (e : HardwareEnv) → ((p : Place) → AreOfOne hw.sharing order (bank_at hw p) (seat_at e p)) → (q : Place) (a ew : ℕ)
      → (p : Place) → AreOfOne hw.sharing order (bank_at hw p) (seat_at (machine_touched q a ew e) p)
  seats_after e m Page a ew Page = of_one_touched hw.sharing order (bank_at hw Page) e.buffer a ew (m Page)
  seats_after e m Page a ew Code = m Code
  seats_after e m Page a ew Data = m Data
  seats_after e m Page a ew Second = m Second
  seats_after e m Code a ew Page = m Page
  seats_after e m Code a ew Code = of_one_touched hw.sharing order (bank_at hw Code) e.code_cache a ew (m Code)
  seats_after e m Code a ew Data = m Data
  seats_after e m Code a ew Second = m Second
  seats_after e m Data a ew Page = m Page
  seats_after e m Data a ew Code = m Code
  seats_after e m Data a ew Data = of_one_touched hw.sharing order (bank_at hw Data) e.data_cache a ew (m Data)
  seats_after e m Data a ew Second = m Second
  seats_after e m Second a ew Page = m Page
  seats_after e m Second a ew Code = m Code
  seats_after e m Second a ew Data = m Data
  seats_after e m Second a ew Second = of_one_touched hw.sharing order (bank_at hw Second) e.second a ew (m Second)

  pub made_touched : (e : HardwareEnv) → IsMadeOf hw order e → (q : Place) (a ew : ℕ) → IsMadeOf hw order (machine_touched q a ew e)
  made_touched e m q a ew = record { seats = seats_after e m.seats q a ew; cheap = m.cheap }

  stands_after : (e : HardwareEnv) (h : List Touch) → Keeps hw order e h → (q : Place) (a ew : ℕ) → (p : Place)
      → Stand hw order p (touch_at q a ew h) (bank_at hw p) (seat_at (machine_touched q a ew e) p)
  stands_after e h k q a ew p = go q p
    where
      here : (p : Place) → is_place p p ≡ true → Stand hw order p (touch_at p a ew h) (bank_at hw p) (option_touched (seat_at e p) a ew)
      here p same = stand_here hw order p h (bank_at hw p) (seat_at e p) (k.made.seats p) (k.stands p) p same a ew

      there : (p q : Place) → is_place p q ≡ false → Stand hw order p (touch_at q a ew h) (bank_at hw p) (seat_at e p)
      there p q apart = stand_there hw order p h (bank_at hw p) (seat_at e p) (k.made.seats p) (k.stands p) q apart a ew

      go : (q p : Place) → Stand hw order p (touch_at q a ew h) (bank_at hw p) (seat_at (machine_touched q a ew e) p)
      go Page Page = here Page refl
      go Page Code = there Code Page refl
      go Page Data = there Data Page refl
      go Page Second = there Second Page refl
      go Code Page = there Page Code refl
      go Code Code = here Code refl
      go Code Data = there Data Code refl
      go Code Second = there Second Code refl
      go Data Page = there Page Data refl
      go Data Code = there Code Data refl
      go Data Data = here Data refl
      go Data Second = there Second Data refl
      go Second Page = there Page Second refl
      go Second Code = there Code Second refl
      go Second Data = there Data Second refl
      go Second Second = here Second refl

  pub keeps_touched : (e : HardwareEnv) (h : List Touch) → Keeps hw order e h → (q : Place) (a ew : ℕ)
      → Keeps hw order (machine_touched q a ew e) (touch_at q a ew h)
  keeps_touched e h k q a ew = record { made = made_touched e k.made q a ew; stands = stands_after e h k q a ew }

  -- ---- one access
  pub made_access : (e : HardwareEnv) → IsMadeOf hw order e → (k : Kind) (a er ew : ℕ) → IsMadeOf hw order (machine_after k a er ew e)
  made_access e m k a er ew =
      let paged : HardwareEnv = machine_touched Page a ew e in
      made_touched (machine_touched (line_place k) a ew paged) (made_touched paged (made_touched e m Page a ew) (line_place k) a ew) Second a ew

  pub keeps_access : (e : HardwareEnv) (h : List Touch) → Keeps hw order e h → (k : Kind) (a er ew : ℕ)
      → Keeps hw order (machine_after k a er ew e) (accessed k a ew h)
  keeps_access e h keeps k a er ew =
      let paged : HardwareEnv = machine_touched Page a ew e in
      keeps_touched (machine_touched (line_place k) a ew paged) (touch_at (line_place k) a ew (touch_at Page a ew h))
      (keeps_touched paged (touch_at Page a ew h) (keeps_touched e h keeps Page a ew) (line_place k) a ew) Second a ew

  line_is : (k : Kind) (e : HardwareEnv) → line_seat k e ≡ seat_at e (line_place k)
  line_is kind.Code e = refl
  line_is kind.Data e = refl

  pub cost_told : (e : HardwareEnv) (h : List Touch) → Keeps hw order e h → (k : Kind) (a er ew : ℕ)
      → machine_cost k a er ew e ≡ access_cost hw order k a er h
  cost_told e h keeps k a er ew =
      ap (λ s. option_cost e.buffer a er + option_cost s a er + cond (option_found s a er) 0 (option_cost e.second a er)) (line_is k e)
      ∙ ap (λ n. n + option_cost (seat_at e (line_place k)) a er + cond (option_found (seat_at e (line_place k)) a er) 0 (option_cost e.second a er))
      (cost Page)
      ∙ ap (λ n. cost_at hw order Page h er a + n + cond (option_found (seat_at e (line_place k)) a er) 0 (option_cost e.second a er)) (cost (line_place k))
      ∙ ap (λ c. cost_at hw order Page h er a + cost_at hw order (line_place k) h er a + cond c 0 (option_cost e.second a er))
      (found_is hw order (line_place k) h (bank_at hw (line_place k)) (seat_at e (line_place k))
      (keeps.made.seats (line_place k)) (keeps.stands (line_place k)) a er)
      ∙ ap (λ n. cost_at hw order Page h er a + cost_at hw order (line_place k) h er a + cond (hits_at hw order (line_place k) h er a) 0 n) (cost Second)
    where
      cost : (p : Place) → option_cost (seat_at e p) a er ≡ cost_at hw order p h er a
      cost p = cost_is hw order p h (bank_at hw p) (seat_at e p) (keeps.made.seats p) (keeps.stands p) a er

  pub machine_does : DoesAs machine_env (hardware_by_history hw order) order.size (Keeps hw order)
  machine_does =
      record {
        cost = λ k a er ew e h er_in ew_in keeps. cost_told e h keeps k a er ew;
        next = λ k a er ew e h er_in ew_in keeps. keeps_access e h keeps k a er ew;
        part = λ q l e h lt keeps. part_is hw order q h (bank_at hw q) (seat_at e q) (keeps.made.seats q) (keeps.stands q) l lt;
      }

  -- ---- bounds
  pub cost_small : (e : HardwareEnv) → IsMadeOf hw order e → (k : Kind) (a r : ℕ)
      → option_cost e.buffer a r + option_cost (line_seat k e) a r + option_cost e.second a r ≤ 1000
  cost_small e m k a r =
      let one : option_cost e.buffer a r ≤ most_at hw Page = cost_most hw.sharing order (bank_at hw Page) e.buffer a r (m.seats Page) in
      let line : option_cost (line_seat k e) a r ≤ most_at hw (line_place k) =
      subst (λ s. option_cost s a r ≤ most_at hw (line_place k)) (sym (line_is k e))
      (cost_most hw.sharing order (bank_at hw (line_place k)) (seat_at e (line_place k)) a r (m.seats (line_place k))) in
      let far : option_cost e.second a r ≤ most_at hw Second = cost_most hw.sharing order (bank_at hw Second) e.second a r (m.seats Second) in
      let cheap : most_cost hw k ≤ 1000 = m.cheap k in omega arith

  pub machine_small : (e : HardwareEnv) → IsMadeOf hw order e → (k : Kind) (a er ew : ℕ) → machine_cost k a er ew e ≤ 1000
  machine_small e m k a er ew = go (option_found (line_seat k e) a er) (cost_small e m k a er)
    where
      go : (c : Bool) → option_cost e.buffer a er + option_cost (line_seat k e) a er + option_cost e.second a er ≤ 1000
          → option_cost e.buffer a er + option_cost (line_seat k e) a er + cond c 0 (option_cost e.second a er) ≤ 1000
      go true le = omega arith
      go false le = le

  -- the environment after the look-up of the page
  pub made_paged : (e : HardwareEnv) → IsMadeOf hw order e → (s : Option Seat) (a ew : ℕ) → s ≡ option_touched e.buffer a ew
      → IsMadeOf hw order (record e { buffer = s })
  made_paged e m s a ew is = subst (λ s. IsMadeOf hw order (record e { buffer = s })) (sym is) (made_touched e m Page a ew)

  pub second_left : (e f : HardwareEnv) → IsMadeOf hw order e → (k : Kind) (a ew : ℕ) → f ≡ machine_touched (line_place k) a ew e
      → AreOfOne hw.sharing order (bank_at hw Second) f.second
  second_left e f m k a ew is =
      subst (λ (g : HardwareEnv). AreOfOne hw.sharing order (bank_at hw Second) g.second) (sym is) (seats_after e m.seats (line_place k) a ew Second)

  -- ---- a machine with nothing in it
  module _ (good : HasBanks hw) where
    empty_of_one : (o : Option Bank) → IfSome o IsBank → AreOfOne hw.sharing order o (empty_option hw.sharing order o)
    empty_of_one None is = tt
    empty_of_one (Some b) is =
        record { same = refl; shared = refl; good = is; cache = IsCacheOf-empty order b.sets b.ways is.some_set is.some_way }

    empty_stands : (p : Place) (o : Option Bank) → Stand hw order p [] o (empty_option hw.sharing order o)
    empty_stands p None = tt
    empty_stands p (Some b) = StandsBy-empty_cache b.replacement order b.sets b.ways

    pub empty_made : IsCheap hw → IsMadeOf hw order (empty_machine hw order)
    empty_made cheap = record { seats = at; cheap = cheap }
      where
        at : (p : Place) → AreOfOne hw.sharing order (bank_at hw p) (seat_at (empty_machine hw order) p)
        at Page = empty_of_one hw.buffer (good.each Page)
        at Code = empty_of_one hw.code_cache (good.each Code)
        at Data = empty_of_one hw.data_cache (good.each Data)
        at Second = empty_of_one hw.second (good.each Second)

    keeps_empty : IsCheap hw → Keeps hw order (empty_machine hw order) []
    keeps_empty cheap = record { made = empty_made cheap; stands = at }
      where
        at : (p : Place) → Stand hw order p [] (bank_at hw p) (seat_at (empty_machine hw order) p)
        at Page = empty_stands Page hw.buffer
        at Code = empty_stands Code hw.code_cache
        at Data = empty_stands Data hw.data_cache
        at Second = empty_stands Second hw.second

  -- ---- the touches of a list
  keeps_all : (e : HardwareEnv) (ts h : List Touch) → Keeps hw order e h → Keeps hw order (machine_warmed e ts) (h ++ ts)
  keeps_all e [] h keeps = subst (Keeps hw order e) (sym (append-nil h)) keeps
  keeps_all e (t ∷ ts) h keeps =
      let next : HardwareEnv = machine_touched t.place t.address t.label.number e in
      subst (Keeps hw order (machine_warmed next ts)) (append_assoc h (t ∷ []) ts)
      (keeps_all next ts (h ++ t ∷ []) (keeps_touched e h keeps t.place t.address t.label.number))

  pub keeps_warmed : HasBanks hw → IsCheap hw → (ts : List Touch) → Keeps hw order (machine_warmed (empty_machine hw order) ts) ts
  keeps_warmed good cheap ts =
      keeps_all (empty_machine hw order) ts [] (keeps_empty good cheap)

-- one touch of the list
pub warm_step : (e e' w : HardwareEnv) (ts : List Touch) (i : ℕ) (d : Touch) → i < length ts
    → e' ≡ machine_touched (get_or ts i d).place (get_or ts i d).address (get_or ts i d).label.number e
    → machine_warmed e (drop i ts) ≡ w → machine_warmed e' (drop (i + 1) ts) ≡ w
warm_step e e' w ts i d h s r =
    ap (λ x. machine_warmed x (drop (i + 1) ts)) s ∙ ap (machine_warmed e) (sym (drop_more ts i d h)) ∙ r
