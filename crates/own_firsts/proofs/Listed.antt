-- All ways in which mitigations can end, each with its own first prediction.
use Rattle.std.proofs.Common.{◌≡◌, ℕ, Bool, true}
use Rattle.std.specs.Prelude.{leb}
use Rattle.std.specs.List.{filter}
use Rattle.std.proofs.lemmas.Bool.{leb-true, le-leb}
use Rattle.leak_bound.specs.Digits.{digits}
use Rattle.leak_bound.proofs.Few.{Each-map, Each-pass}
use Rattle.std.specs.Prelude.{List}
use Rattle.sharp_count.specs.Ways.{IsChoice}
use Rattle.sharp_count.proofs.Ways.{Choice, choices, each_choice, whole_choices, differ_choices, among_passed, differ_passed}
use Rattle.own_firsts.specs.Ways.{cycles_by, IsOwnWay, AreOwnWays}

module _ (t : ℕ) (firsts : ℕ → ℕ → ℕ) (n : ℕ) (counts : ℕ → ℕ) where
  abbrev all : List Choice
  all = choices (λ l. digits t) n counts

  abbrev fits : Choice → Bool
  fits c = leb (cycles_by firsts n c) t

  -- those whose cycles add up to at most T
  abbrev pub own_ways : List Choice
  own_ways = filter fits all

  pub are_own_ways : AreOwnWays t firsts n counts own_ways
  are_own_ways = record {
    each = Each-map (λ c. IsChoice (λ l. digits t) n counts c × (fits c ≡ true)) (IsOwnWay t firsts n counts)
        (λ c h. (h.0, leb-true (cycles_by firsts n c) t h.1)) own_ways
        (Each-pass (IsChoice (λ l. digits t) n counts) fits all (each_choice (λ l. digits t) n counts));
    whole = λ c h. among_passed fits c all (le-leb (cycles_by firsts n c) t h.1) (whole_choices (λ l. digits t) n counts c h.0);
    differ = differ_passed fits all (differ_choices (λ l. digits t) n counts);
  }
