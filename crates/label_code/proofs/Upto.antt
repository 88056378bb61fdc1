-- What a log has of the time up to a cut.
use Rattle.std.proofs.Common.{◌≡◌, ℕ, ◌<◌, List, [], ◌∷◌, ◌++◌, append-nil, refl, ap, ◌∙◌}
use Rattle.std.specs.Prelude.{Bool, true, false, cond, leb}
use Rattle.std.proofs.lemmas.Bool.{cond-false, lt-leb}
use Rattle.label_code.specs.Machine.{Event, Wrote, Began, Ended}

abbrev pub clock_of : Event → ℕ
clock_of (Wrote x n c) = c
clock_of (Began k c) = c
clock_of (Ended k c) = c

-- the events up to the cut
abbrev pub upto : ℕ → List Event → List Event
upto lim [] = []
upto lim (e ∷ es) = cond (leb (clock_of e) lim) (e ∷ upto lim es) (upto lim es)

pub upto-append : (lim : ℕ) (es fs : List Event) → upto lim (es ++ fs) ≡ upto lim es ++ upto lim fs
upto-append lim [] fs = refl
upto-append lim (e ∷ es) fs = go (leb (clock_of e) lim) (upto-append lim es fs)
  where
    go : (b : Bool) → upto lim (es ++ fs) ≡ upto lim es ++ upto lim fs
        → cond b (e ∷ upto lim (es ++ fs)) (upto lim (es ++ fs)) ≡ cond b (e ∷ upto lim es) (upto lim es) ++ upto lim fs
    go true q = ap (λ t. e ∷ t) q
    go false q = q

-- an event past the cut
pub upto-late : (lim : ℕ) (es : List Event) (e : Event) → lim < clock_of e → upto lim (es ++ e ∷ []) ≡ upto lim es
upto-late lim es e h = upto-append lim es (e ∷ []) ∙ ap (λ z. upto lim es ++ z) (cond-false (leb (clock_of e) lim) (e ∷ []) [] (lt-leb (clock_of e) lim h))
    ∙ append-nil (upto lim es)
