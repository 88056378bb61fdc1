-- Events that are not shown are seen by nobody of whom the list says so.
use Rattle.std.proofs.Common.{◌≡◌, ℕ, List, [], ◌∷◌, Bool, false, refl, ◌∙◌}
use Rattle.std.specs.Prelude.{All}
use Rattle.std.proofs.lemmas.Bool.{cond-false}
use Rattle.std.proofs.lemmas.List.Elements.{All-head, All-tail}
use Rattle.label_lattice.specs.Lattice.{Lattice}
use Rattle.label_code.specs.Machine.{Event, Wrote, Began, Ended}
use Rattle.label_code.specs.Visible.{visible}
use Rattle.cycle_machine.specs.Turned.{is_shown_in, IsHidden}

pub none_visible : (list : List Bool) (lat : Lattice) (g : ℕ → ℕ) (o : ℕ) → ((x : ℕ) → is_shown_in list x ≡ false → lat.flows (g x) o ≡ false)
    → (es : List Event) → All (IsHidden list) es → visible lat g o es ≡ []
none_visible list lat g o hides [] h = refl
none_visible list lat g o hides (Wrote x n c ∷ es) h =
    cond-false (lat.flows (g x) o) (Wrote x n c ∷ visible lat g o es) (visible lat g o es) (hides x (All-head (IsHidden list) (Wrote x n c) es h))
    ∙ none_visible list lat g o hides es (All-tail (IsHidden list) (Wrote x n c) es h)
none_visible list lat g o hides (Began k c ∷ es) h = absurd (All-head (IsHidden list) (Began k c) es h)
none_visible list lat g o hides (Ended k c ∷ es) h = absurd (All-head (IsHidden list) (Ended k c) es h)
