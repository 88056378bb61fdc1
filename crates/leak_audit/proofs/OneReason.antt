-- What is refused is refused for one reason, and what is refused is not taken.
use Rattle.std.proofs.Common.{◌≡◌, ◌<◌, ◌≤◌, ℕ, ◌+◌, List, [], ◌∷◌, ◌++◌, length, Bool, true, false, refl, sym, ap, ◌∙◌, subst, ◌⊎◌, inl, inr, arith}
use Rattle.std.proofs.lemmas.Bool.{cases_order}
use Rattle.label_lattice.specs.Order.{Order}
use Rattle.label_lattice.specs.declared.label.Label.{Label}
use Rattle.timing_types.specs.Labelled.{LabelledProgram}
use Rattle.env_contract.specs.Env.{Env}
use Rattle.env_contract.specs.declared.place.Place.{Place}
use Rattle.env_contract.specs.declared.place.Place.TheVariants.{Page, Code, Data, Second}
use Rattle.label_code.specs.Machine.{label}
use Rattle.label_code.specs.Run.{Start}
use Rattle.code_lower.specs.Lowered.{lowered}
use Rattle.leak_bound.specs.Records.{Each, Pairwise}
use Rattle.leak_bound.specs.Sound.{Halts}
use Rattle.leak_audit.specs.declared.what.What.{What}
use Rattle.leak_audit.specs.declared.what.What.TheVariants.{Variable, Partition}
use Rattle.leak_audit.specs.declared.survey.SurveyFault.{SurveyFault}
use Rattle.leak_audit.specs.declared.survey.SurveyFault.TheVariants.{Unfinished, TooMuch, Memory}
use Rattle.leak_audit.specs.Agreement.{AgreeFor, Differs, place_number, IsBefore, IsFirstDifference, IsFirstApart, Disagrees}
use Rattle.leak_audit.specs.Surveyed.{shown_by, shown_by_all, IsRefused, IsFirstRefused}
use Rattle.leak_audit.proofs.Split.{Earlier, SameCut, two_cuts, Each-at}

place_same : (q r : Place) → place_number q ≡ place_number r → q ≡ r
place_same Page Page e = refl
place_same Page Code e = absurd (omega arith)
place_same Page Data e = absurd (omega arith)
place_same Page Second e = absurd (omega arith)
place_same Code Page e = absurd (omega arith)
place_same Code Code e = refl
place_same Code Data e = absurd (omega arith)
place_same Code Second e = absurd (omega arith)
place_same Data Page e = absurd (omega arith)
place_same Data Code e = absurd (omega arith)
place_same Data Data e = refl
place_same Data Second e = absurd (omega arith)
place_same Second Page e = absurd (omega arith)
place_same Second Code e = absurd (omega arith)
place_same Second Data e = absurd (omega arith)
place_same Second Second e = refl

label_same : (l k : Label) → l.number ≡ k.number → l ≡ k
label_same l k e = ap label e

-- of two places where starts may differ, one is before the other, or they are one
one_before : (a b : What) → (a ≡ b) ⊎ (IsBefore a b ⊎ IsBefore b a)
one_before (Variable x) (Variable y) = go (cases_order x y)
  where
    go : (x ≡ y) ⊎ ((x < y) ⊎ (y < x)) → (Variable x ≡ Variable y) ⊎ (IsBefore (Variable x) (Variable y) ⊎ IsBefore (Variable y) (Variable x))
    go (inl e) = inl (ap Variable e)
    go (inr lt) = inr lt
one_before (Variable x) (Partition q l) = inr (inl tt)
one_before (Partition q l) (Variable y) = inr (inr tt)
one_before (Partition q l) (Partition r k) = go (cases_order (place_number q) (place_number r)) (cases_order l.number k.number)
  where
    go : (place_number q ≡ place_number r) ⊎ ((place_number q < place_number r) ⊎ (place_number r < place_number q)) →
        (l.number ≡ k.number) ⊎ ((l.number < k.number) ⊎ (k.number < l.number)) →
        (Partition q l ≡ Partition r k) ⊎ (IsBefore (Partition q l) (Partition r k) ⊎ IsBefore (Partition r k) (Partition q l))
    go (inr (inl lt)) n = inr (inl (inl lt))
    go (inr (inr lt)) n = inr (inr (inl lt))
    go (inl e) (inl n) = inl (ap (λ z. Partition z l) (place_same q r e) ∙ ap (λ z. Partition r z) (label_same l k n))
    go (inl e) (inr (inl lt)) = inr (inl (inr (place_same q r e, lt)))
    go (inl e) (inr (inr lt)) = inr (inr (inr (sym (place_same q r e), lt)))

bool_apart : {X : Type 0} (b : Bool) → b ≡ true → b ≡ false → X
bool_apart b is isnt = absurd cc

module _ {E : Type 0} (v : Env E) (serves : Order → E → Type 0) (p : LabelledProgram) (o : ℕ) where
  first_same : (s s' : Start E) (w w' : What) → IsFirstDifference v p o s s' w → IsFirstDifference v p o s s' w' → w ≡ w'
  first_same s s' w w' a b = go (one_before w w')
    where
      go : (w ≡ w') ⊎ (IsBefore w w' ⊎ IsBefore w' w) → w ≡ w'
      go (inl e) = e
      go (inr (inl lt)) = absurd (b.first w lt a.here)
      go (inr (inr lt)) = absurd (a.first w' lt b.here)

  not_both : (s s' : Start E) (w : What) → AgreeFor v serves p o s s' → Differs v p o s s' w → ⊥
  not_both s s' (Variable x) a d = d.1 (a.low x d.0)
  not_both s s' (Partition q l) a d = d.1 (a.parts q l.number d.0)

  -- a start that does not agree is the first such one, and has one first difference
  apart_once : (one : Start E) (ss : List (Start E)) (run run' : ℕ) (w w' : What) → IsFirstApart v serves p o one ss run w
      → IsFirstApart v serves p o one ss run' w' → (run ≡ run') × (w ≡ w')
  apart_once one ss run run' w w' a b = go (two_cuts a.before b.before a.after b.after a.apart b.apart (sym a.are ∙ b.are))
    where
      go : SameCut a.before a.apart b.before b.apart ⊎ (Earlier a.before a.apart b.before ⊎ Earlier b.before b.apart a.before) → (run ≡ run') × (w ≡ w')
      go (inl same) = (
        a.number ∙ (ap (λ z. length z + 1) same.before ∙ sym b.number),
        first_same one b.apart w w' (subst (λ z. IsFirstDifference v p o one z w) same.at a.differs) b.differs,
      )
      go (inr (inl e)) = absurd (not_both one a.apart w
          (Each-at (AgreeFor v serves p o one) a.before e.between a.apart (subst (Each (AgreeFor v serves p o one)) e.are b.agree)) a.differs.here)
      go (inr (inr e)) = absurd (not_both one b.apart w'
          (Each-at (AgreeFor v serves p o one) b.before e.between b.apart (subst (Each (AgreeFor v serves p o one)) e.are a.agree)) b.differs.here)

  pub disagrees_once : (ss : List (Start E)) (run run' : ℕ) (w w' : What) → Disagrees v serves p o ss run w
      → Disagrees v serves p o ss run' w' → (run ≡ run') × (w ≡ w')
  disagrees_once [] run run' w w' a b = absurd a
  disagrees_once (s ∷ ss) run run' w w' a b = apart_once s (s ∷ ss) run run' w w' a b

  pub not_apart : (ss : List (Start E)) (run : ℕ) (w : What) → Pairwise (AgreeFor v serves p o) ss → Disagrees v serves p o ss run w → ⊥
  not_apart [] run w a d = d
  not_apart (s ∷ ss) run w a d =
      not_both s d.apart w (Each-at (AgreeFor v serves p o s) d.before d.after d.apart (subst (Each (AgreeFor v serves p o s)) d.are a.0)) d.differs.here

  module _ (t : ℕ) (must : Bool) where
    shown_at : (xs r : List (Start E)) (x : Start E) → shown_by_all v p o t xs + shown_by v p o t x ≤ shown_by_all v p o t (xs ++ x ∷ r)
    shown_at [] r x = omega arith
    shown_at (y ∷ xs) r x = omega (arith, shown_at xs r x)

    -- a run is not refused after which others are taken
    not_refused : (before r ss : List (Start E)) (s : Start E) (f : SurveyFault) → ss ≡ before ++ s ∷ r → IsRefused v p o t must before s f →
        (must ≡ true → Each (Halts v (lowered p).instrs t) ss) → shown_by_all v p o t ss ≤ 16777216 → ⊥
    not_refused before r ss s (Unfinished run cycle) e h halts few =
        let halted : Halts v (lowered p).instrs t s =
        Each-at (Halts v (lowered p).instrs t) before r s (subst (Each (Halts v (lowered p).instrs t)) e (halts h.0)) in
        bool_apart _ halted h.1
    not_refused before r ss s (TooMuch count) e h halts few =
        let all : shown_by_all v p o t ss ≡ shown_by_all v p o t (before ++ s ∷ r) = ap (shown_by_all v p o t) e in
        let count_is = h.1 in
        let above = h.2 in
        absurd (omega (arith, all, few, shown_at before r s, count_is, above))
    not_refused before r ss s Memory e h halts few = h

    same_reason : (before : List (Start E)) (s : Start E) (f g : SurveyFault) → IsRefused v p o t must before s f → IsRefused v p o t must before s g → f ≡ g
    same_reason before s (Unfinished run cycle) (Unfinished run' cycle') a b =
        ap (λ z. Unfinished z cycle) (a.2 ∙ sym b.2) ∙ ap (λ z. Unfinished run' z) (a.3 ∙ sym b.3)
    same_reason before s (Unfinished run cycle) (TooMuch count) a b = bool_apart _ (b.0 a.0) a.1
    same_reason before s (TooMuch count) (Unfinished run cycle) a b = bool_apart _ (a.0 b.0) b.1
    same_reason before s (TooMuch count) (TooMuch count') a b = ap TooMuch (a.1 ∙ sym b.1)
    same_reason before s Memory g a b = absurd a
    same_reason before s f Memory a b = absurd b

    pub refused_once : (ss : List (Start E)) (f g : SurveyFault) → IsFirstRefused v p o t must ss f → IsFirstRefused v p o t must ss g → f ≡ g
    refused_once ss f g a b = go (two_cuts a.before b.before a.after b.after a.refused b.refused (sym a.are ∙ b.are))
      where
        go : SameCut a.before a.refused b.before b.refused ⊎ (Earlier a.before a.refused b.before ⊎ Earlier b.before b.refused a.before) → f ≡ g
        go (inl same) = same_reason b.before b.refused f g
            (subst (λ z. IsRefused v p o t must z b.refused f) same.before (subst (λ z. IsRefused v p o t must a.before z f) same.at a.why)) b.why
        go (inr (inl e)) = absurd (not_refused a.before e.between b.before a.refused f e.are a.why b.halt b.few)
        go (inr (inr e)) = absurd (not_refused b.before e.between a.before b.refused g e.are b.why a.halt a.few)

    pub not_taken : (ss : List (Start E)) (f : SurveyFault) → IsFirstRefused v p o t must ss f → (must ≡ true → Each (Halts v (lowered p).instrs t) ss)
        → shown_by_all v p o t ss ≤ 16777216 → ⊥
    not_taken ss f a halts few = not_refused a.before a.after ss a.refused f a.are a.why halts few
