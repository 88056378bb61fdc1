-- Fields and lines of classes, one after another.
use Rattle.std.proofs.Common.{◌≡◌, ◌∙◌, refl, sym, ap, ℕ, zero, suc, ◌+◌, ◌<◌, ◌≤◌, List, [], ◌∷◌, ◌++◌, length, map, drop, get_or, codes, arith}
use Rattle.std.proofs.Common.{drop-cons, add-one, append_assoc, append-nil, Some, None, Vec, Global}
use Rattle.std.proofs.lemmas.Option.{same_Some}
use Rattle.leak_classes.specs.Views.{class_of}
use Rattle.std.specs.Prelude.{slice_get}
use Rattle.std.proofs.lemmas.List.{drop_all}
use Rattle.mit_syntax.specs.Declarations.{Declaration}
use Rattle.label_code.specs.Machine.{Event}
use Rattle.leak_audit.specs.declared.sighting.Sighting.{Sighting}
use Rattle.leak_audit.specs.Observed.{event_of}
use Rattle.seen_line.specs.Field.{item_of, spaced}
use Rattle.space_leak.specs.Text.{class_line, class_lines}

-- what stands at a place, and what comes after it
pub next_at : {A : Type 0} (xs : List A) (i : ℕ) (x : A) → i < length xs → x ≡ get_or xs i x → drop i xs ≡ x ∷ drop (i + 1) xs
next_at xs i x lt e = drop-cons xs i x lt ∙ ap (λ y. y ∷ drop (suc i) xs) (sym e) ∙ ap (λ n. x ∷ drop n xs) (sym (add-one i))

-- ---- a field

abbrev pub rest_of : List Declaration → List Sighting → List ℕ
rest_of ds ss = spaced (map (item_of ds) (map event_of ss))

pub item_put : (ds : List Declaration) (ss : List Sighting) (i : ℕ) (s : Sighting) (old now mid new : List ℕ) → i < length ss → s ≡ get_or ss i s
    → now ++ rest_of ds (drop i ss) ≡ old → mid ≡ now ++ codes " " → new ≡ mid ++ item_of ds (event_of s) → new ++ rest_of ds (drop (i + 1) ss) ≡ old
item_put ds ss i s old now mid new lt at so first second =
    let rest = rest_of ds (drop (i + 1) ss) in
    let item = item_of ds (event_of s) in
    ap (λ z. z ++ rest) (second ∙ ap (λ z. z ++ item) first ∙ append_assoc now (codes " ") item)
    ∙ append_assoc now (codes " " ++ item) rest
    ∙ ap (λ z. now ++ rest_of ds z) (sym (next_at ss i s lt at)) ∙ so

pub items_put : (ds : List Declaration) (ss : List Sighting) (i : ℕ) (old now : List ℕ) → length ss ≤ i → now ++ rest_of ds (drop i ss) ≡ old → now ≡ old
items_put ds ss i old now le so = sym (append-nil now) ∙ ap (λ z. now ++ rest_of ds z) (sym (drop_all i ss le)) ∙ so

-- ---- classes

no_classes : (ds : List Declaration) (fs : List ℕ) → class_lines ds [] fs ≡ []
no_classes ds [] = refl
no_classes ds (f ∷ fs) = refl

no_firsts : (ds : List Declaration) (cs : List (List Event × ℕ)) → class_lines ds cs [] ≡ []
no_firsts ds [] = refl
no_firsts ds (c ∷ cs) = refl

pub slice_there : {A : Type 0} (xs : List A) (i : ℕ) (d : A) → i < length xs → slice_get xs i ≡ Some (get_or xs i d)
slice_there [] i d lt = absurd (omega (arith, lt))
slice_there (x ∷ xs) zero d lt = refl
slice_there (x ∷ xs) (suc i) d lt = slice_there xs i d (omega (arith, lt))

pub class_put : (ds : List Declaration) (cs : List (List Event × ℕ)) (fs : List ℕ) (i : ℕ) (old now new : List ℕ)
    → i < length cs → i < length fs → now ++ class_lines ds (drop i cs) (drop i fs) ≡ old
    → ((c : List Event × ℕ) → slice_get cs i ≡ Some c → new ≡ now ++ class_line ds c.0 c.1 (get_or fs i 0))
    → new ++ class_lines ds (drop (i + 1) cs) (drop (i + 1) fs) ≡ old
class_put ds cs fs i old now new lt lt' so put =
    let d : List Event × ℕ = ([], 0) in
    let c = get_or cs i d in
    let f = get_or fs i 0 in
    let rest = class_lines ds (drop (i + 1) cs) (drop (i + 1) fs) in
    let here : drop i cs ≡ c ∷ drop (i + 1) cs = drop-cons cs i d lt ∙ ap (λ n. c ∷ drop n cs) (sym (add-one i)) in
    let there : drop i fs ≡ f ∷ drop (i + 1) fs = drop-cons fs i 0 lt' ∙ ap (λ n. f ∷ drop n fs) (sym (add-one i)) in
    ap (λ z. z ++ rest) (put c (slice_there cs i d lt)) ∙ append_assoc now (class_line ds c.0 c.1 f) rest
    ∙ ap (λ z. now ++ class_lines ds z (f ∷ drop (i + 1) fs)) (sym here)
    ∙ ap (λ z. now ++ class_lines ds (drop i cs) z) (sym there) ∙ so

-- what stands at a place of a list of classes
pub class_there : (es : List (Vec Sighting Global × ℕ)) (i : ℕ) (e : Vec Sighting Global × ℕ) (c : List Event × ℕ) → Some e ≡ slice_get es i
    → slice_get (map class_of es) i ≡ Some c → class_of e ≡ c
class_there [] zero e c h k = absurd cc
class_there [] (suc i) e c h k = absurd cc
class_there (x ∷ es) zero e c h k = let same : e ≡ x = cc in ap class_of same ∙ same_Some (class_of x) c k
class_there (x ∷ es) (suc i) e c h k = class_there es i e c h k

pub class_not_there : (es : List (Vec Sighting Global × ℕ)) (i : ℕ) (c : List Event × ℕ) → None ≡ slice_get es i → slice_get (map class_of es) i ≡ Some c → ⊥
class_not_there [] zero c h k = cc
class_not_there [] (suc i) c h k = cc
class_not_there (x ∷ es) zero c h k = cc
class_not_there (x ∷ es) (suc i) c h k = class_not_there es i c h k

pub few_classes : (ds : List Declaration) (cs : List (List Event × ℕ)) (fs : List ℕ) (i : ℕ) (old now : List ℕ) → length cs ≤ i
    → now ++ class_lines ds (drop i cs) (drop i fs) ≡ old → now ≡ old
few_classes ds cs fs i old now le so =
    sym (append-nil now) ∙ ap (λ z. now ++ z) (sym (no_classes ds (drop i fs))) ∙ ap (λ z. now ++ class_lines ds z (drop i fs)) (sym (drop_all i cs le)) ∙ so

pub few_firsts : (ds : List Declaration) (cs : List (List Event × ℕ)) (fs : List ℕ) (i : ℕ) (old now : List ℕ) → length fs ≤ i
    → now ++ class_lines ds (drop i cs) (drop i fs) ≡ old → now ≡ old
few_firsts ds cs fs i old now le so =
    sym (append-nil now) ∙ ap (λ z. now ++ z) (sym (no_firsts ds (drop i cs))) ∙ ap (λ z. now ++ class_lines ds (drop i cs) z) (sym (drop_all i fs le)) ∙ so
