-- The environments of one and of two levels of caches, as contracts see them.
use Rattle.std.specs.Prelude.{ℕ, ◌+◌, ◌/◌, cond, ◌||◌, Option, Some, None}
use Rattle.label_lattice.specs.Order.{Order}
use Rattle.env_contract.specs.declared.place.Kind.{Kind}
use Rattle.env_contract.specs.declared.place.Kind.TheVariants as kind
use Rattle.env_contract.specs.declared.place.Place.{Place}
use Rattle.env_contract.specs.declared.place.Place.TheVariants.{Page, Code, Data, Second}
use Rattle.env_contract.specs.Env.{Env}
use Rattle.part_cache.specs.Rows.{Rows, found, touched, empty_cache}
use Rattle.part_tlb.specs.Machine.{line_place}
use Rattle.part_tlb.specs.Sizes.{line_cost, sets_at, ways_at}
use Rattle.part_tlb.specs.Structures.{part_at}
use Rattle.part_tlb.specs.declared.part.PartEnv.{PartEnv}
use Rattle.part_tlb.specs.declared.part2.Part2Env.{Part2Env}

-- ---- one level
abbrev pub part_structure : Place → Option (PartEnv → Rows)
part_structure Page = Some (λ e. e.buffer)
part_structure Code = Some (λ e. e.code_cache)
part_structure Data = Some (λ e. e.data_cache)
part_structure Second = None

-- the first-level cache of an access
abbrev pub line_cache : Kind → PartEnv → Rows
line_cache kind.Code e = e.code_cache
line_cache kind.Data e = e.data_cache

abbrev pub part_touched : Place → ℕ → ℕ → PartEnv → PartEnv
part_touched Page tag ew e = record e { buffer = touched e.buffer tag ew }
part_touched Code tag ew e = record e { code_cache = touched e.code_cache tag ew }
part_touched Data tag ew e = record e { data_cache = touched e.data_cache tag ew }
part_touched Second tag ew e = e

abbrev pub part_penalty : Kind → ℕ → ℕ → ℕ → PartEnv → ℕ
part_penalty k address er ew e =
    cond (found e.buffer (address / 1024) er) 0 20 + cond (found (line_cache k e) (address / 32) er) 0 (line_cost k)

abbrev pub part_after : Kind → ℕ → ℕ → ℕ → PartEnv → PartEnv
part_after k address er ew e = part_touched (line_place k) (address / 32) ew (part_touched Page (address / 1024) ew e)

abbrev pub part_env : Env PartEnv
part_env = record { cost_of = part_penalty; next_of = part_after; part = part_at part_structure }

abbrev pub empty_at : Order → Place → Rows
empty_at order p = empty_cache order (sets_at p) (ways_at p)

abbrev pub empty_part : Order → PartEnv
empty_part order = record { buffer = empty_at order Page; code_cache = empty_at order Code; data_cache = empty_at order Data }

-- ---- two levels
abbrev pub part2_structure : Place → Option (Part2Env → Rows)
part2_structure Page = Some (λ e. e.first.buffer)
part2_structure Code = Some (λ e. e.first.code_cache)
part2_structure Data = Some (λ e. e.first.data_cache)
part2_structure Second = Some (λ e. e.second)

abbrev pub part2_touched : Place → ℕ → ℕ → Part2Env → Part2Env
part2_touched Page tag ew e = record e { first = part_touched Page tag ew e.first }
part2_touched Code tag ew e = record e { first = part_touched Code tag ew e.first }
part2_touched Data tag ew e = record e { first = part_touched Data tag ew e.first }
part2_touched Second tag ew e = record e { second = touched e.second tag ew }

abbrev pub part2_penalty : Kind → ℕ → ℕ → ℕ → Part2Env → ℕ
part2_penalty k address er ew e =
    part_penalty k address er ew e.first
    + cond (found (line_cache k e.first) (address / 32) er || found e.second (address / 32) er) 0 30

abbrev pub part2_after : Kind → ℕ → ℕ → ℕ → Part2Env → Part2Env
part2_after k address er ew e =
    part2_touched Second (address / 32) ew (part2_touched (line_place k) (address / 32) ew (part2_touched Page (address / 1024) ew e))

abbrev pub part2_env : Env Part2Env
part2_env = record { cost_of = part2_penalty; next_of = part2_after; part = part_at part2_structure }

abbrev pub empty_part2 : Order → Part2Env
empty_part2 order = record { first = empty_part order; second = empty_at order Second }
