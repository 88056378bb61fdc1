-- What an observer sees of a log up to a cut.
use Rattle.std.proofs.Common.{◌≡◌, ℕ, ◌<◌, List, [], ◌∷◌, ◌++◌, append-nil, refl, ap, ◌∙◌}
use Rattle.std.specs.Prelude.{Bool, true, false, cond, leb}
use Rattle.std.proofs.lemmas.Bool.{cond-false, lt-leb}
use Rattle.label_lattice.specs.Lattice.{Lattice}
use Rattle.label_code.specs.Machine.{Event, Wrote, Began, Ended}
use Rattle.label_code.proofs.Upto.{clock_of, upto, upto-append}
use Rattle.label_code.specs.Visible.{visible}

abbrev pub shown : Lattice → (ℕ → ℕ) → ℕ → ℕ → List Event → List Event
shown lat g o lim es = visible lat g o (upto lim es)

pub visible-append : (lat : Lattice) (g : ℕ → ℕ) (o : ℕ) (es fs : List Event) → visible lat g o (es ++ fs) ≡ visible lat g o es ++ visible lat g o fs
visible-append lat g o [] fs = refl
visible-append lat g o (Wrote x n c ∷ es) fs = go (lat.flows (g x) o) (visible-append lat g o es fs)
  where
    go : (b : Bool) → visible lat g o (es ++ fs) ≡ visible lat g o es ++ visible lat g o fs
        → cond b (Wrote x n c ∷ visible lat g o (es ++ fs)) (visible lat g o (es ++ fs)) ≡ cond b (Wrote x n c ∷ visible lat g o es) (visible lat g o es)
        ++ visible lat g o fs
    go true e = ap (λ t. Wrote x n c ∷ t) e
    go false e = e
visible-append lat g o (Began k c ∷ es) fs = visible-append lat g o es fs
visible-append lat g o (Ended k c ∷ es) fs = visible-append lat g o es fs

pub shown-append : (lat : Lattice) (g : ℕ → ℕ) (o lim : ℕ) (es fs : List Event) → shown lat g o lim (es ++ fs) ≡ shown lat g o lim es ++ shown lat g o lim fs
shown-append lat g o lim es fs = ap (visible lat g o) (upto-append lim es fs) ∙ visible-append lat g o (upto lim es) (upto lim fs)

pub shown-late : (lat : Lattice) (g : ℕ → ℕ) (o lim : ℕ) (e : Event) → lim < clock_of e → shown lat g o lim (e ∷ []) ≡ []
shown-late lat g o lim e h = ap (visible lat g o) (cond-false (leb (clock_of e) lim) (e ∷ []) [] (lt-leb (clock_of e) lim h))

-- an event that is not seen
pub shown-none : (lat : Lattice) (g : ℕ → ℕ) (o lim : ℕ) (es : List Event) (e : Event) → visible lat g o (e ∷ []) ≡ []
    → shown lat g o lim (es ++ e ∷ []) ≡ shown lat g o lim es
shown-none lat g o lim es e h = shown-append lat g o lim es (e ∷ []) ∙ ap (λ z. shown lat g o lim es ++ z) (go (leb (clock_of e) lim))
    ∙ append-nil (shown lat g o lim es)
  where
    go : (b : Bool) → visible lat g o (cond b (e ∷ []) []) ≡ []
    go true = h
    go false = refl
