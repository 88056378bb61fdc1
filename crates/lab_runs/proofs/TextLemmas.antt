-- The texts of runs, while they are written one after the other.
use Rattle.std.proofs.Common.{◌≡◌, ◌<◌, ◌≤◌, ℕ, suc, ◌+◌, List, [], ◌∷◌, ◌++◌, length, map, take, drop, get_or, Option, sym, ap, ◌∙◌, subst, arith, add-one}
use Rattle.std.proofs.Common.{append-nil, append_assoc}
use Rattle.std.proofs.lemmas.List.{drop-map, drop_all, length-take, take-append-drop}
use Rattle.std.proofs.Math.Seq.{drop-cons, take-add}
use Rattle.std.proofs.KnownBytes.{Appends-trans}
use Rattle.std.specs.Io.KnownBytes.{Appends}
use Rattle.tim_base.specs.Sinks.{AppendsPrefix}
use Rattle.tool_texts.proofs.EndLemmas.{prefix_after, prefix_longer}
use Rattle.lab_runs.specs.Runs.{texts_from, texts, WritesSome}

-- the member at a place, and those after it
pub map-from : {X A : Type 0} (f : X → A) (xs : List X) (i : ℕ) (x : X) → i < length xs → x ≡ get_or xs i x → drop i (map f xs) ≡ f x ∷ drop (i + 1) (map f xs)
map-from f xs i x lt is =
    let all : drop i xs ≡ x ∷ drop (i + 1) xs = drop-cons xs i x lt ∙ (ap (λ z. z ∷ drop (suc i) xs) (sym is) ∙ ap (λ n. x ∷ drop n xs) (sym (add-one i))) in
    drop-map f i xs ∙ (ap (λ z. map f z) all ∙ ap (λ z. f x ∷ z) (sym (drop-map f (i + 1) xs)))

module _ {A : Type 0} (text : ℕ → A → List ℕ) where
  texts-append : (xs ys : List A) (r : ℕ) → texts_from text r (xs ++ ys) ≡ texts_from text r xs ++ texts_from text (r + length xs) ys
  texts-append [] ys r = let e : r ≡ r + 0 = omega arith in ap (λ n. texts_from text n ys) e
  texts-append (x ∷ xs) ys r =
      let e : r + 1 + length xs ≡ r + suc (length xs) = omega arith in
      ap (λ z. text r x ++ z) (texts-append xs ys (r + 1) ∙ ap (λ n. texts_from text (r + 1) xs ++ texts_from text n ys) e)
      ∙ sym (append_assoc (text r x) (texts_from text (r + 1) xs) (texts_from text (r + suc (length xs)) ys))

  module _ (xs : List A) (i : ℕ) (a : A) (lt : i < length xs) (from : drop i xs ≡ a ∷ drop (i + 1) xs) where
    place : 1 + length (take i xs) ≡ i + 1
    place = omega (arith, length-take i xs, lt)

    -- the texts up to one
    one_more : texts text (take (i + 1) xs) ≡ texts text (take i xs) ++ text (i + 1) a
    one_more =
        ap (texts text) (take-add i 1 xs ∙ ap (λ z. take i xs ++ take 1 z) from)
        ∙ (texts-append (take i xs) (a ∷ []) 1
        ∙ ap (λ z. texts text (take i xs) ++ z) (append-nil (text (1 + length (take i xs)) a) ∙ ap (λ n. text n a) place))

    -- all texts, from one on
    all_from : texts text (take i xs) ++ (text (i + 1) a ++ texts_from text (i + 1 + 1) (drop (i + 1) xs)) ≡ texts text xs
    all_from =
        ap (λ n. texts text (take i xs) ++ texts_from text n (a ∷ drop (i + 1) xs)) (sym place)
        ∙ (ap (λ z. texts text (take i xs) ++ texts_from text (1 + length (take i xs)) z) (sym from)
        ∙ (sym (texts-append (take i xs) (drop i xs) 1) ∙ ap (texts text) (take-append-drop i xs)))

    pub wrote_one : (old now new : Option (List ℕ)) → Appends old now (texts text (take i xs)) → Appends now new (text (i + 1) a)
        → Appends old new (texts text (take (i + 1) xs))
    wrote_one old now new h k = subst (Appends old new) (sym one_more) (Appends-trans old now new (texts text (take i xs)) (text (i + 1) a) h k)

    -- a write failed in a text
    pub broke_in : (old now new : Option (List ℕ)) → Appends old now (texts text (take i xs)) → AppendsPrefix now new (text (i + 1) a)
        → AppendsPrefix old new (texts text xs)
    broke_in old now new h k =
        let rest = texts_from text (i + 1 + 1) (drop (i + 1) xs) in
        prefix_after old now new (texts text (take i xs)) (text (i + 1) a ++ rest) (texts text xs) h (prefix_longer now new (text (i + 1) a) rest k) all_from

  -- memory was wanting before a text
  pub some_written : (xs : List A) (i : ℕ) (old now new : Option (List ℕ)) → Appends old now (texts text (take i xs)) → new ≡ now → WritesSome old new text xs
  some_written xs i old now new h same = record { runs = i; written = subst (λ z. Appends old z (texts text (take i xs))) (sym same) h }

-- ---- members of a list, one after the other

pub take_one : {A : Type 0} (xs : List A) (i : ℕ) (a : A) → drop i xs ≡ a ∷ drop (i + 1) xs → take (i + 1) xs ≡ take i xs ++ a ∷ []
take_one xs i a from = take-add i 1 xs ∙ ap (λ z. take i xs ++ take 1 z) from

pub take_end : {A : Type 0} (xs : List A) (i : ℕ) → length xs ≤ i → take i xs ≡ xs
take_end xs i le = sym (append-nil (take i xs)) ∙ (ap (λ z. take i xs ++ z) (sym (drop_all i xs le)) ∙ take-append-drop i xs)

pub texts_last : {A : Type 0} (text : ℕ → A → List ℕ) (xs : List A) (a : A) → texts text (xs ++ a ∷ []) ≡ texts text xs ++ text (1 + length xs) a
texts_last text xs a = texts-append text xs (a ∷ []) 1 ∙ ap (λ z. texts text xs ++ z) (append-nil (text (1 + length xs) a))
