-- Sets of variables, of which one row may stand for several.
use Rattle.std.proofs.Common.{◌≡◌, ℕ, refl, sym, ap, ◌∙◌}
use Rattle.std.specs.Prelude.{Bool, true, false, ◌||◌}
use mathlib.Core.Path.{fun_ext}
use Rattle.label_infer.specs.declared.row.Row.{Row}
use Rattle.label_infer.specs.Rows.{has_in}

-- a row that has the variables of two rows
pub joined_rows : (m a b a' b' : Row) → has_in m.words.items ≡ (λ y. has_in a'.words.items y || has_in b'.words.items y) → a' ≡ a → b' ≡ b
    → has_in m.words.items ≡ (λ y. has_in a.words.items y || has_in b.words.items y)
joined_rows m a b a' b' h ea eb =
    h ∙ ap (λ (r : Row). λ y. has_in r.words.items y || has_in b'.words.items y) ea
    ∙ ap (λ (r : Row). λ y. has_in a.words.items y || has_in r.words.items y) eb

-- one of two rows, which has those of the other, and is kept
pub kept_row : (a b a' b' e : Row) → has_in a'.words.items ≡ (λ y. has_in a'.words.items y || has_in b'.words.items y) → a' ≡ a → b' ≡ b → e ≡ a
    → has_in e.words.items ≡ (λ y. has_in a.words.items y || has_in b.words.items y)
kept_row a b a' b' e h ea eb ee = ap (λ (r : Row). has_in r.words.items) (ee ∙ sym ea) ∙ joined_rows a' a b a' b' h ea eb

other_way : (p q : Bool) → (p || q) ≡ (q || p)
other_way true true = refl
other_way true false = refl
other_way false true = refl
other_way false false = refl

pub swapped_rows : (a b : Row)
    → ◌≡◌ {A = ℕ → Bool} (λ y. has_in b.words.items y || has_in a.words.items y) (λ y. has_in a.words.items y || has_in b.words.items y)
swapped_rows a b = fun_ext (λ y. other_way (has_in b.words.items y) (has_in a.words.items y))
