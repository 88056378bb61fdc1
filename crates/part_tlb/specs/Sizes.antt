-- The sizes and the costs of the banks of `part` and `part2`, by their places.
use Rattle.std.specs.Prelude.{ℕ, ◌/◌, cond, List, [], ◌∷◌}
use Rattle.env_contract.specs.declared.place.Kind.{Kind}
use Rattle.env_contract.specs.declared.place.Place.{Place}
use Rattle.env_contract.specs.declared.place.Place.TheVariants.{Page, Code, Data, Second}
use Rattle.env_contract.specs.declared.place.Touch.{Touch}
use Rattle.part_cache.specs.History.{Touched}
use Rattle.part_tlb.specs.declared.bank.Bank.{Bank}
use Rattle.part_tlb.specs.Machine.{is_place, line_place}
use Rattle.part_tlb.specs.Named.{buffer_bank, code_bank, data_bank, second_bank}

abbrev pub bank_of : Place → Bank
bank_of Page = buffer_bank
bank_of Code = code_bank
bank_of Data = data_bank
bank_of Second = second_bank

abbrev pub sets_at : Place → ℕ
sets_at p = (bank_of p).sets

abbrev pub ways_at : Place → ℕ
ways_at p = (bank_of p).ways

-- the tag of a byte address: its page of 1024 bytes, or else its line of 32
abbrev pub tag_at : Place → ℕ → ℕ
tag_at p address = address / (bank_of p).bytes

-- what a miss of a line in the first level costs
abbrev pub line_cost : Kind → ℕ
line_cost k = (bank_of (line_place k)).miss

-- the touches of one place, in their order, where each label has a partition of its own
abbrev pub touches_at : Place → List Touch → List Touched
touches_at p [] = []
touches_at p (x ∷ xs) = cond (is_place p x.place) (record { label = x.label.number; tag = tag_at p x.address } ∷ touches_at p xs) (touches_at p xs)
