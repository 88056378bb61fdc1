-- What is noted at a step.
use Rattle.std.proofs.Common.{◌≡◌, ◌<◌, ℕ, sym, ap, ◌∙◌, subst, List, length, All, map, Some, None, get_or, arith}
use Rattle.std.specs.Prelude.{ℤ, Bool, true, cond, slice_get, option_map}
use Rattle.std.proofs.lemmas.Option.{slice_get-map, slice_get-get_or}
use Rattle.std.proofs.lemmas.List.{get_or-map, length-map}
use Rattle.mit_syntax.specs.Expression.{Expression}
use Rattle.mit_syntax.specs.Values.{value_of}
use Rattle.doubling_schedule.specs.Doubling.{prediction}
use Rattle.source_meaning.specs.declared.walk.Walk.{Walk}
use Rattle.source_meaning.specs.declared.walk.Walk.TheVariants.{Began}
use Rattle.level_counts.specs.declared.note.Mitigation.{Mitigation}
use Rattle.level_counts.specs.Noted.{begun, begun_at}

-- what is true of all that a table gives is true of one
pub in_table : {X : Type 0} (f : X → Expression) (xs : List X) (k : ℕ) (x : X) (P : Expression → Type 0) → All P (map f xs) → k < length xs
    → x ≡ get_or xs k x → P (f x)
in_table f xs k x P h lt is =
    let l = length-map xs f in
    let at : get_or (map f xs) k (f x) ≡ f x = get_or-map f xs k x (f x) lt ∙ ap f (sym is) in
    subst P at (h k (f x) (omega (arith, lt, l)))

told_at : {X : Type 0} (f : X → Expression) (xs : List X) (k : ℕ) (x : X) → k < length xs → x ≡ get_or xs k x → slice_get (map f xs) k ≡ Some (f x)
told_at f xs k x lt is = slice_get-map f xs k ∙ ap (λ o. option_map f o) (slice_get-get_or xs k x lt ∙ ap (λ z. Some z) (sym is))

abbrev one : ℕ → ℕ → Mitigation
one l x = record { level = l; first = x }

pub begun_is : {X : Type 0} (f : X → Expression) (rel : ℕ → Bool) (ls : ℕ → ℕ) (xs : List X) (k l : ℕ) (x : X) (walk : Walk) (m : List ℤ) (first : ℕ) →
    walk ≡ Began k → rel k ≡ true → k < length xs → x ≡ get_or xs k x → l ≡ ls k → first ≡ prediction (value_of (f x) m) 0
    → Some (one l first) ≡ begun rel ls (map f xs) walk m
begun_is f rel ls xs k l x walk m first is yes' lt at level e =
    ap (λ z. Some (one z first)) level ∙ ap (λ z. Some (one (ls k) z)) e
    ∙ sym (ap (λ w. begun rel ls (map f xs) w m) is ∙ ap (λ b. cond b (begun_at (ls k) (slice_get (map f xs) k) m) None) yes'
    ∙ ap (λ o. begun_at (ls k) o m) (told_at f xs k x lt at))
