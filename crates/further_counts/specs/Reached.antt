-- That a view may be worth as much as the number of views.
use Rattle.std.specs.Prelude.{◌≡◌, ℕ, ◌<◌, ◌≤◌, List, eqb, map}
use Rattle.leak_bound.specs.Records.{distinct}
use Rattle.sharp_bound.specs.Guess.{greatest, best_sum, FewShown}

-- No smaller number does: there are n members of weight 1 that show n views, and whose greatest weights for each view
-- make up n.
abbrev pub GuessReached : Type 0
GuessReached =
    (n : ℕ) → 0 < n → (xs : List ℕ) ×
    FewShown (λ x. x) eqb xs n × (greatest (λ x. 1) xs ≡ 1) × (n ≤ best_sum (λ x. x) eqb (λ x. 1) xs (distinct eqb (map (λ x. x) xs)))
