-- What is kept of the runs from starts: the classes of starts whose runs show the same.
use Rattle.std.specs.Prelude.{ℕ, ◌+◌, List, [], ◌∷◌, ◌++◌, length, map, cond, nat_lt}
use Rattle.label_code.specs.Machine.{Event}
use Rattle.class_counts.specs.Tally.{add, tally}
use Rattle.leak_bound.specs.Records.{place_in}
use Rattle.leak_audit.specs.Sequences.{same_sequence}

-- each different sequence with the weight of its starts, and the number, from 1, of its first start
pub record Classes : Type 0 where
  pub seen : List (List Event × ℕ)
  pub firsts : List ℕ

-- The classes of starts by what their runs show, each with the weight of its start, in this order. The first start has the
-- number n, from 0.
abbrev pub classes_shown : ℕ → List (List Event × ℕ) → Classes
classes_shown n ps = record {
  seen = tally same_sequence [] ps;
  firsts = map (λ c. n + place_in same_sequence (map (λ p. p.0) ps) c.0) (tally same_sequence [] ps);
}

abbrev pub no_classes : Classes
no_classes = record { seen = []; firsts = [] }

-- how many events all sequences have together
abbrev pub events_in : List (List Event × ℕ) → ℕ
events_in [] = 0
events_in (c ∷ cs) = length c.0 + events_in cs

-- one start more, with its number from 0, what its run shows, and its weight
abbrev pub with_start : Classes → ℕ → List Event → ℕ → Classes
with_start k n sequence weight = record {
  seen = add same_sequence k.seen sequence weight;
  firsts = cond (nat_lt (length k.seen) (length (add same_sequence k.seen sequence weight))) (k.firsts ++ (n + 1) ∷ []) k.firsts;
}
