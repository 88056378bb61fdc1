-- Lists of touches compare as equal where they are the same.
use Rattle.std.proofs.Common.{◌≡◌, ℕ, List, Bool, true, false, refl, sym, ap, ◌∙◌, subst, true≢false, nat_eq, eqb-true, eq-eqb}
use Rattle.std.specs.Prelude.{◌&&◌}
use Rattle.std.specs.Bool.{Decides}
use Rattle.std.specs.Cmp.Lexicographic.{pointwise, pointwise_decides}
use Rattle.label_lattice.specs.declared.label.Label.{Label}
use Rattle.label_lattice.specs.contracts.label.LabelPartialEq as labels
use Rattle.env_contract.specs.declared.place.Place.{Place}
use Rattle.env_contract.specs.declared.place.Place.TheVariants.{Page, Code, Data, Second}
use Rattle.env_contract.specs.declared.place.Touch.{Touch}
use Rattle.env_contract.specs.contracts.place.PlacePartialEq as places
use Rattle.env_contract.specs.contracts.place.TouchPartialEq as touches

abbrev same_label : Label → Label → Bool
same_label = labels.TheImpl.ghosts.eq

abbrev same_place : Place → Place → Bool
same_place = places.TheImpl.ghosts.eq

abbrev pub same_touch : Touch → Touch → Bool
same_touch = touches.TheImpl.ghosts.eq

both : (p q : Bool) → (p && q) ≡ true → (p ≡ true) × (q ≡ true)
both true q e = (refl, e)
both false q e = absurd (true≢false (sym e))

place_exact : (p q : Place) → same_place p q ≡ true → p ≡ q
place_exact Page Page e = refl
place_exact Page Code e = absurd (true≢false (sym e))
place_exact Page Data e = absurd (true≢false (sym e))
place_exact Page Second e = absurd (true≢false (sym e))
place_exact Code Page e = absurd (true≢false (sym e))
place_exact Code Code e = refl
place_exact Code Data e = absurd (true≢false (sym e))
place_exact Code Second e = absurd (true≢false (sym e))
place_exact Data Page e = absurd (true≢false (sym e))
place_exact Data Code e = absurd (true≢false (sym e))
place_exact Data Data e = refl
place_exact Data Second e = absurd (true≢false (sym e))
place_exact Second Page e = absurd (true≢false (sym e))
place_exact Second Code e = absurd (true≢false (sym e))
place_exact Second Data e = absurd (true≢false (sym e))
place_exact Second Second e = refl

place_itself : (p : Place) → same_place p p ≡ true
place_itself Page = refl
place_itself Code = refl
place_itself Data = refl
place_itself Second = refl

touch_exact : (x y : Touch) → same_touch x y ≡ true → x ≡ y
touch_exact x y e =
    let of : Place → Label → ℕ → Touch = λ p l a. record { place = p; label = l; address = a } in
    let one = both (same_place x.place y.place) (same_label x.label y.label && nat_eq x.address y.address) e in
    let two = both (same_label x.label y.label) (nat_eq x.address y.address) one.1 in
    let label : x.label ≡ y.label = ap (λ n. record { number = n }) (eqb-true x.label.number y.label.number two.0) in
    ap (λ p. of p x.label x.address) (place_exact x.place y.place one.0)
    ∙ (ap (λ l. of y.place l x.address) label ∙ ap (of y.place y.label) (eqb-true x.address y.address two.1))

touch_itself : (x : Touch) → same_touch x x ≡ true
touch_itself x = λ i.
    place_itself x.place i && (eq-eqb x.label.number x.label.number refl i && eq-eqb x.address x.address refl i)

touch_decides : (x y : Touch) → Decides (same_touch x y) (x ≡ y)
touch_decides x y = (touch_exact x y, λ e. subst (λ z. same_touch x z ≡ true) e (touch_itself x))

pub touches_decide : (xs ys : List Touch) → Decides (pointwise same_touch xs ys) (xs ≡ ys)
touches_decide = pointwise_decides touch_decides
