-- The environments of structures are lawful.
use Rattle.std.proofs.Common.{◌≡◌, ℕ, ◌+◌, ◌/◌, refl, sym, ap, ◌∙◌, subst}
use Rattle.std.specs.Prelude.{cond, ◌||◌, IfSome}
use Rattle.label_lattice.specs.Lattice.{Flows, IsLattice}
use Rattle.label_lattice.specs.Order.{Order, lattice_of}
use Rattle.env_contract.specs.declared.place.Kind.{Kind}
use Rattle.env_contract.specs.declared.place.Kind.TheVariants as kind
use Rattle.env_contract.specs.declared.place.Place.{Place}
use Rattle.env_contract.specs.declared.place.Place.TheVariants.{Page, Code, Data, Second}
use Rattle.env_contract.specs.Laws.{IsLawful}
use Rattle.part_cache.specs.Rows.{IsCacheOf, found}
use Rattle.part_cache.proofs.Laws.{found_same}
use Rattle.part_tlb.specs.declared.part.PartEnv.{PartEnv}
use Rattle.part_tlb.specs.declared.part2.Part2Env.{Part2Env}
use Rattle.part_tlb.specs.Machine.{line_place}
use Rattle.part_tlb.specs.Sizes.{line_cost, sets_at, ways_at}
use Rattle.part_tlb.specs.Structures.{IsMadeFor, part_at}
use Rattle.part_tlb.specs.Envs.{part_structure, line_cache, part_touched, part_penalty, part_after, part2_structure, part2_touched}
use Rattle.part_tlb.specs.Envs.{part2_after, part_env, part2_env}
use Rattle.part_tlb.specs.Keeps.{Moves, touches, leaves, touch_serves, touch_elsewhere, touch_agrees}

-- a label to which ew does not flow is not ew
not_own : (order : Order) → IsLattice (lattice_of order) → (ew l : ℕ) → (Flows (lattice_of order) ew l → ⊥) → l ≡ ew → ⊥
not_own order good ew l apart e = apart (subst (Flows (lattice_of order) ew) (sym e) (good.same ew))

-- ---- one level
pub part_moves : (p q : Place) → IfSome (part_structure p) (Moves part_touched p q)
part_moves Page Page = touches refl (λ t w e. refl)
part_moves Page Code = leaves refl (λ t w e. refl)
part_moves Page Data = leaves refl (λ t w e. refl)
part_moves Page Second = leaves refl (λ t w e. refl)
part_moves Code Page = leaves refl (λ t w e. refl)
part_moves Code Code = touches refl (λ t w e. refl)
part_moves Code Data = leaves refl (λ t w e. refl)
part_moves Code Second = leaves refl (λ t w e. refl)
part_moves Data Page = leaves refl (λ t w e. refl)
part_moves Data Code = leaves refl (λ t w e. refl)
part_moves Data Data = touches refl (λ t w e. refl)
part_moves Data Second = leaves refl (λ t w e. refl)
part_moves Second q = tt

line_same : (order : Order) (k : Kind) (tag er : ℕ) (e f : PartEnv) → IsMadeFor part_structure order e → IsMadeFor part_structure order f
    → ((q : Place) (l : ℕ) → Flows (lattice_of order) l er → part_at part_structure q l e ≡ part_at part_structure q l f)
    → found (line_cache k e) tag er ≡ found (line_cache k f) tag er
line_same order kind.Code tag er e f s t agree = found_same order 8 2 e.code_cache f.code_cache tag er (s.each Code) (t.each Code) (agree Code)
line_same order kind.Data tag er e f s t agree = found_same order 8 2 e.data_cache f.data_cache tag er (s.each Data) (t.each Data) (agree Data)

penalty_same : (order : Order) (k : Kind) (a er ew : ℕ) (e f : PartEnv) → IsMadeFor part_structure order e → IsMadeFor part_structure order f
    → ((q : Place) (l : ℕ) → Flows (lattice_of order) l er → part_at part_structure q l e ≡ part_at part_structure q l f)
    → part_penalty k a er ew e ≡ part_penalty k a er ew f
penalty_same order k a er ew e f s t agree =
    ap (λ b. cond b 0 20 + cond (found (line_cache k e) (a / 32) er) 0 (line_cost k))
    (found_same order 1 4 e.buffer f.buffer (a / 1024) er (s.each Page) (t.each Page) (agree Page))
    ∙ ap (λ b. cond (found f.buffer (a / 1024) er) 0 20 + cond b 0 (line_cost k)) (line_same order k (a / 32) er e f s t agree)

pub part_keeps : (order : Order) (k : Kind) (a er ew : ℕ) (e : PartEnv) → IsMadeFor part_structure order e
    → IsMadeFor part_structure order (part_after k a er ew e)
part_keeps order k a er ew e s =
    touch_serves part_structure part_touched part_moves order (line_place k) (a / 32) ew (part_touched Page (a / 1024) ew e)
    (touch_serves part_structure part_touched part_moves order Page (a / 1024) ew e s)

pub part_lawful : (order : Order) → IsLattice (lattice_of order) → IsLawful part_env (lattice_of order) (IsMadeFor part_structure order)
part_lawful order good =
    record {
      keeps = part_keeps order;
      write_label = λ k a er ew e s q l apart.
          let ne = not_own order good ew l apart in
          touch_elsewhere part_structure part_touched part_moves order (line_place k) (a / 32) ew (paged a ew e) (serves Page (a / 1024) ew e s) q l ne
          ∙ touch_elsewhere part_structure part_touched part_moves order Page (a / 1024) ew e s q l ne;
      read_label = λ k a er ew e f s t agree. penalty_same order k a er ew e f s t agree;
      agreement = λ k a er ew h e f s t agree q l flows.
          touch_agrees part_structure part_touched part_moves order (line_place k) (a / 32) ew (paged a ew e) (paged a ew f)
          (serves Page (a / 1024) ew e s) (serves Page (a / 1024) ew f t) q l
          (touch_agrees part_structure part_touched part_moves order Page (a / 1024) ew e f s t q l (agree q l flows));
    }
  where
    paged : ℕ → ℕ → PartEnv → PartEnv
    paged a ew e = part_touched Page (a / 1024) ew e

    serves : (q : Place) (tag ew : ℕ) (e : PartEnv) → IsMadeFor part_structure order e → IsMadeFor part_structure order (part_touched q tag ew e)
    serves = touch_serves part_structure part_touched part_moves order

-- ---- two levels
pub part2_moves : (p q : Place) → IfSome (part2_structure p) (Moves part2_touched p q)
part2_moves Page Page = touches refl (λ t w e. refl)
part2_moves Page Code = leaves refl (λ t w e. refl)
part2_moves Page Data = leaves refl (λ t w e. refl)
part2_moves Page Second = leaves refl (λ t w e. refl)
part2_moves Code Page = leaves refl (λ t w e. refl)
part2_moves Code Code = touches refl (λ t w e. refl)
part2_moves Code Data = leaves refl (λ t w e. refl)
part2_moves Code Second = leaves refl (λ t w e. refl)
part2_moves Data Page = leaves refl (λ t w e. refl)
part2_moves Data Code = leaves refl (λ t w e. refl)
part2_moves Data Data = touches refl (λ t w e. refl)
part2_moves Data Second = leaves refl (λ t w e. refl)
part2_moves Second Page = leaves refl (λ t w e. refl)
part2_moves Second Code = leaves refl (λ t w e. refl)
part2_moves Second Data = leaves refl (λ t w e. refl)
part2_moves Second Second = touches refl (λ t w e. refl)

-- the first level of an environment of two is one of one level
pub first_serves : (order : Order) (e : Part2Env) → IsMadeFor part2_structure order e → IsMadeFor part_structure order e.first
first_serves order e s = record { each = go }
  where
    go : (p : Place) → IfSome (part_structure p) (λ at. IsCacheOf order (sets_at p) (ways_at p) (at e.first))
    go Page = s.each Page
    go Code = s.each Code
    go Data = s.each Data
    go Second = tt

first_agrees : (order : Order) (er : ℕ) (e f : Part2Env)
    → ((q : Place) (l : ℕ) → Flows (lattice_of order) l er → part_at part2_structure q l e ≡ part_at part2_structure q l f) → (q : Place) (l : ℕ)
    → Flows (lattice_of order) l er → part_at part_structure q l e.first ≡ part_at part_structure q l f.first
first_agrees order er e f agree Page = agree Page
first_agrees order er e f agree Code = agree Code
first_agrees order er e f agree Data = agree Data
first_agrees order er e f agree Second = λ l flows. refl

lined_keeps : (order : Order) (k : Kind) (a ew : ℕ) (e : Part2Env) → IsMadeFor part2_structure order e
    → IsMadeFor part2_structure order (part2_touched (line_place k) (a / 32) ew (part2_touched Page (a / 1024) ew e))
lined_keeps order k a ew e s =
    touch_serves part2_structure part2_touched part2_moves order (line_place k) (a / 32) ew (part2_touched Page (a / 1024) ew e)
    (touch_serves part2_structure part2_touched part2_moves order Page (a / 1024) ew e s)

pub part2_keeps : (order : Order) (k : Kind) (a er ew : ℕ) (e : Part2Env) → IsMadeFor part2_structure order e
    → IsMadeFor part2_structure order (part2_after k a er ew e)
part2_keeps order k a er ew e s =
    touch_serves part2_structure part2_touched part2_moves order Second (a / 32) ew
    (part2_touched (line_place k) (a / 32) ew (part2_touched Page (a / 1024) ew e))
    (lined_keeps order k a ew e s)

pub part2_lawful : (order : Order) → IsLattice (lattice_of order) → IsLawful part2_env (lattice_of order) (IsMadeFor part2_structure order)
part2_lawful order good =
    record {
      keeps = part2_keeps order;
      write_label = λ k a er ew e s q l apart.
          let ne = not_own order good ew l apart in
          elsewhere Second (a / 32) ew (lined k a ew e) (lined_keeps order k a ew e s) q l ne
          ∙ elsewhere (line_place k) (a / 32) ew (paged a ew e) (serves Page (a / 1024) ew e s) q l ne
          ∙ elsewhere Page (a / 1024) ew e s q l ne;
      read_label = λ k a er ew e f s t agree.
          let s' = first_serves order e s in
          let t' = first_serves order f t in
          let agree' = first_agrees order er e f agree in
          ap (λ n. n + cond (found (line_cache k e.first) (a / 32) er || found e.second (a / 32) er) 0 30)
          (penalty_same order k a er ew e.first f.first s' t' agree')
          ∙ ap (λ b. part_penalty k a er ew f.first + cond (b || found e.second (a / 32) er) 0 30) (line_same order k (a / 32) er e.first f.first s' t' agree')
          ∙ ap (λ b. part_penalty k a er ew f.first + cond (found (line_cache k f.first) (a / 32) er || b) 0 30)
          (found_same order 32 4 e.second f.second (a / 32) er (s.each Second) (t.each Second) (agree Second));
      agreement = λ k a er ew h e f s t agree q l flows.
          agrees Second (a / 32) ew (lined k a ew e) (lined k a ew f) (lined_keeps order k a ew e s) (lined_keeps order k a ew f t) q l
          (agrees (line_place k) (a / 32) ew (paged a ew e) (paged a ew f) (serves Page (a / 1024) ew e s) (serves Page (a / 1024) ew f t) q l
          (agrees Page (a / 1024) ew e f s t q l (agree q l flows)));
    }
  where
    paged : ℕ → ℕ → Part2Env → Part2Env
    paged a ew e = part2_touched Page (a / 1024) ew e

    lined : Kind → ℕ → ℕ → Part2Env → Part2Env
    lined k a ew e = part2_touched (line_place k) (a / 32) ew (paged a ew e)

    serves : (q : Place) (tag ew : ℕ) (e : Part2Env) → IsMadeFor part2_structure order e → IsMadeFor part2_structure order (part2_touched q tag ew e)
    serves = touch_serves part2_structure part2_touched part2_moves order

    elsewhere : (q : Place) (tag ew : ℕ) (e : Part2Env) → IsMadeFor part2_structure order e → (p : Place) (l : ℕ) → (l ≡ ew → ⊥)
        → part_at part2_structure p l (part2_touched q tag ew e) ≡ part_at part2_structure p l e
    elsewhere = touch_elsewhere part2_structure part2_touched part2_moves order

    agrees : (q : Place) (tag ew : ℕ) (e f : Part2Env) → IsMadeFor part2_structure order e → IsMadeFor part2_structure order f → (p : Place) (l : ℕ)
        → part_at part2_structure p l e ≡ part_at part2_structure p l f
        → part_at part2_structure p l (part2_touched q tag ew e) ≡ part_at part2_structure p l (part2_touched q tag ew f)
    agrees = touch_agrees part2_structure part2_touched part2_moves order
