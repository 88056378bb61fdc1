-- The environments do as histories alone do.
use Rattle.std.proofs.Common.{◌≡◌, ℕ, ◌<◌, List, [], refl, ap, ◌∙◌, arith}
use Rattle.std.specs.Prelude.{map}
use Rattle.std.specs.List.{All, range_with_len}
use Rattle.label_lattice.specs.Order.{Order}
use Rattle.env_contract.specs.declared.place.Kind.{Kind}
use Rattle.env_contract.specs.declared.place.Kind.TheVariants as kind
use Rattle.env_contract.specs.declared.place.Place.{Place}
use Rattle.env_contract.specs.declared.place.Place.TheVariants.{Page, Code, Data, Second}
use Rattle.env_contract.specs.declared.place.Touch.{Touch}
use Rattle.env_contract.specs.Alike.{DoesAs}
use Rattle.env_contract.specs.Flat.{flat_env}
use Rattle.part_cache.specs.declared.replacement.Replacement.TheVariants.{LeastRecent}
use Rattle.part_cache.specs.History.{Touched, held}
use Rattle.part_cache.specs.Rows.{numbers_of}
use Rattle.part_cache.proofs.Laws.{part_of_held}
use Rattle.part_cache.proofs.Empty.{IsCacheOf-empty, StandsBy-empty_cache}
use Rattle.part_tlb.specs.declared.part.PartEnv.{PartEnv}
use Rattle.part_tlb.specs.declared.part2.Part2Env.{Part2Env}
use Rattle.part_tlb.specs.Machine.{touches_in, access_cost, part_at as machine_part, hardware_by_history}
use Rattle.part_tlb.specs.Named.{buffer_bank, code_bank, data_bank, second_bank, flat_machine, part_machine, part2_machine}
use Rattle.part_tlb.specs.Sizes.{touches_at}
use Rattle.part_tlb.specs.Structures.{Keeps, part_at, warmed}
use Rattle.part_tlb.specs.Envs.{part_structure, part_touched, empty_part, part2_structure, part2_touched}
use Rattle.part_tlb.specs.Envs.{empty_part2, part_env, part2_env}
use Rattle.part_tlb.specs.Laws.{part_moves, part2_moves, part_keeps, part2_keeps}
use Rattle.part_tlb.specs.Standing.{touches_are, warmed_serves, warmed_stands, part_penalty_is, part_after_stands, part2_penalty_is}
use Rattle.part_tlb.specs.Standing.{part2_after_stands, part_serves}
use Rattle.part_tlb.specs.Standing.{part_stands, part2_serves, part2_stands}

-- what is held after touches, as one list of numbers
held_same : (sets ways l : ℕ) (ts us : List Touched) → ts ≡ us
    → numbers_of (map (held sets ways ts l) (range_with_len 0 sets)) ≡ numbers_of (map (held sets ways us l) (range_with_len 0 sets))
held_same sets ways l ts us e = ap (λ (t : List Touched). numbers_of (map (held sets ways t l) (range_with_len 0 sets))) e

-- ---- without caches
none_cost : (order : Order) (k : Kind) (a er : ℕ) (h : List Touch) → 0 ≡ access_cost flat_machine order k a er h
none_cost order kind.Code a er h = refl
none_cost order kind.Data a er h = refl

none_part : (order : Order) (q : Place) (l : ℕ) (h : List Touch) → [] ≡ machine_part flat_machine order q l h
none_part order Page l h = refl
none_part order Code l h = refl
none_part order Data l h = refl
none_part order Second l h = refl

pub no_level : (order : Order) → DoesAs flat_env (hardware_by_history flat_machine order) order.size (λ e h. Unit {0})
no_level order =
    record {
      cost = λ k a er ew e h er_in ew_in s. none_cost order k a er h;
      next = λ k a er ew e h er_in ew_in s. tt;
      part = λ q l e h lt s. none_part order q l h;
    }

-- ---- one level
one_part : (order : Order) (q : Place) (l : ℕ) (e : PartEnv) (h : List Touch) → l < order.size → Keeps part_structure order e h
    → part_at part_structure q l e ≡ machine_part part_machine order q l h
one_part order Page l e h lt k =
    part_of_held order 1 4 LeastRecent e.buffer l (touches_at Page h) (k.made.each Page) lt (k.stands.each Page)
    ∙ held_same 1 4 l (touches_at Page h) (touches_in part_machine order buffer_bank Page h)
    (touches_are part_machine order buffer_bank Page (λ l. refl) (λ a. refl) h)
one_part order Code l e h lt k =
    part_of_held order 8 2 LeastRecent e.code_cache l (touches_at Code h) (k.made.each Code) lt (k.stands.each Code)
    ∙ held_same 8 2 l (touches_at Code h) (touches_in part_machine order code_bank Code h)
    (touches_are part_machine order code_bank Code (λ l. refl) (λ a. refl) h)
one_part order Data l e h lt k =
    part_of_held order 8 2 LeastRecent e.data_cache l (touches_at Data h) (k.made.each Data) lt (k.stands.each Data)
    ∙ held_same 8 2 l (touches_at Data h) (touches_in part_machine order data_bank Data h)
    (touches_are part_machine order data_bank Data (λ l. refl) (λ a. refl) h)
one_part order Second l e h lt k = refl

pub one_level : (order : Order) → DoesAs part_env (hardware_by_history part_machine order) order.size (Keeps part_structure order)
one_level order =
    record {
      cost = λ k a er ew e h er_in ew_in keeps. part_penalty_is order k a er ew e h keeps.made keeps.stands;
      next = λ k a er ew e h er_in ew_in keeps.
          record {
            made = part_keeps order k a er ew e keeps.made;
            stands = part_after_stands order k a er ew e h keeps.made ew_in keeps.stands;
          };
      part = λ q l e h lt keeps. one_part order q l e h lt keeps;
    }

empty_keeps : (order : Order) → Keeps part_structure order (empty_part order) []
empty_keeps order =
    record {
      made = part_serves order (empty_part order) (IsCacheOf-empty order 1 4 (omega arith) (omega arith))
          (IsCacheOf-empty order 8 2 (omega arith) (omega arith)) (IsCacheOf-empty order 8 2 (omega arith) (omega arith));
      stands = part_stands (empty_part order) (StandsBy-empty_cache LeastRecent order 1 4) (StandsBy-empty_cache LeastRecent order 8 2)
          (StandsBy-empty_cache LeastRecent order 8 2);
    }

pub one_start : (order : Order) (touches : List Touch) → All (λ t. t.label.number < order.size) touches
    → Keeps part_structure order (warmed part_touched (empty_part order) touches) touches
one_start order touches below =
    let k = empty_keeps order in
    record {
      made = warmed_serves part_structure part_touched part_moves order (empty_part order) touches k.made;
      stands = warmed_stands part_structure part_touched part_moves order (empty_part order) touches [] k.made below k.stands;
    }

-- ---- two levels
two_part : (order : Order) (q : Place) (l : ℕ) (e : Part2Env) (h : List Touch) → l < order.size → Keeps part2_structure order e h
    → part_at part2_structure q l e ≡ machine_part part2_machine order q l h
two_part order Page l e h lt k =
    part_of_held order 1 4 LeastRecent e.first.buffer l (touches_at Page h) (k.made.each Page) lt (k.stands.each Page)
    ∙ held_same 1 4 l (touches_at Page h) (touches_in part2_machine order buffer_bank Page h)
    (touches_are part2_machine order buffer_bank Page (λ l. refl) (λ a. refl) h)
two_part order Code l e h lt k =
    part_of_held order 8 2 LeastRecent e.first.code_cache l (touches_at Code h) (k.made.each Code) lt (k.stands.each Code)
    ∙ held_same 8 2 l (touches_at Code h) (touches_in part2_machine order code_bank Code h)
    (touches_are part2_machine order code_bank Code (λ l. refl) (λ a. refl) h)
two_part order Data l e h lt k =
    part_of_held order 8 2 LeastRecent e.first.data_cache l (touches_at Data h) (k.made.each Data) lt (k.stands.each Data)
    ∙ held_same 8 2 l (touches_at Data h) (touches_in part2_machine order data_bank Data h)
    (touches_are part2_machine order data_bank Data (λ l. refl) (λ a. refl) h)
two_part order Second l e h lt k =
    part_of_held order 32 4 LeastRecent e.second l (touches_at Second h) (k.made.each Second) lt (k.stands.each Second)
    ∙ held_same 32 4 l (touches_at Second h) (touches_in part2_machine order second_bank Second h)
    (touches_are part2_machine order second_bank Second (λ l. refl) (λ a. refl) h)

pub two_levels : (order : Order) → DoesAs part2_env (hardware_by_history part2_machine order) order.size (Keeps part2_structure order)
two_levels order =
    record {
      cost = λ k a er ew e h er_in ew_in keeps. part2_penalty_is order k a er ew e h keeps.made keeps.stands;
      next = λ k a er ew e h er_in ew_in keeps.
          record {
            made = part2_keeps order k a er ew e keeps.made;
            stands = part2_after_stands order k a er ew e h keeps.made ew_in keeps.stands;
          };
      part = λ q l e h lt keeps. two_part order q l e h lt keeps;
    }

empty2_keeps : (order : Order) → Keeps part2_structure order (empty_part2 order) []
empty2_keeps order =
    let k = empty_keeps order in
    record {
      made = part2_serves order (empty_part2 order) k.made (IsCacheOf-empty order 32 4 (omega arith) (omega arith));
      stands = part2_stands (empty_part2 order) k.stands (StandsBy-empty_cache LeastRecent order 32 4);
    }

pub two_start : (order : Order) (touches : List Touch) → All (λ t. t.label.number < order.size) touches
    → Keeps part2_structure order (warmed part2_touched (empty_part2 order) touches) touches
two_start order touches below =
    let k = empty2_keeps order in
    record {
      made = warmed_serves part2_structure part2_touched part2_moves order (empty_part2 order) touches k.made;
      stands = warmed_stands part2_structure part2_touched part2_moves order (empty_part2 order) touches [] k.made below k.stands;
    }
