-- Starts that agree with a first one, one after the other.
use Rattle.std.proofs.Common.{◌≡◌, ◌<◌, ◌≤◌, ℕ, suc, ◌+◌, List, [], ◌∷◌, ◌++◌, length, map, drop, get_or, refl, sym, ap, ◌∙◌, subst, arith, add-one}
use Rattle.std.proofs.Common.{append-nil, append_assoc, length-append}
use Rattle.std.specs.Prelude.{All}
use Rattle.std.proofs.lemmas.List.{drop-map, drop_all, length-map, get_or-map}
use Rattle.std.proofs.Math.Seq.{drop-cons}
use Rattle.label_lattice.specs.Order.{Order}
use Rattle.timing_types.specs.Labelled.{LabelledProgram}
use Rattle.env_contract.specs.Env.{Env}
use Rattle.env_contract.specs.declared.place.Touch.{Touch}
use Rattle.label_code.specs.Run.{Start}
use Rattle.start_file.specs.declared.start.Start.{Start as Stored}
use Rattle.start_file.specs.Starts.{StartValue, seen}
use Rattle.leak_bound.specs.Records.{Each, Pairwise}
use Rattle.leak_bound.proofs.Few.{Each-map}
use Rattle.leak_audit.specs.declared.what.What.{What}
use Rattle.leak_audit.specs.Agreement.{start_of, starts_of, AgreeFor, IsFirstDifference, IsFirstApart, Disagrees}
use Rattle.leak_audit.proofs.Split.{Each-more}

module _ {E : Type 0} (made : Order → List Touch → E) (order : Order) where
  drop-starts : (xs : List Stored) (n : ℕ) → drop n (starts_of made order (map seen xs)) ≡ map (start_of made order) (map seen (drop n xs))
  drop-starts xs n = drop-map (start_of made order) n (map seen xs) ∙ ap (map (start_of made order)) (drop-map seen n xs)

  -- the start that stands at a place, and those after it
  pub starts-from : (xs : List Stored) (i : ℕ) (x : Stored) → i < length xs → x ≡ get_or xs i x →
      drop i (starts_of made order (map seen xs)) ≡ start_of made order (seen x) ∷ drop (i + 1) (starts_of made order (map seen xs))
  starts-from xs i x lt is =
      let all : drop i xs ≡ x ∷ drop (i + 1) xs = drop-cons xs i x lt ∙ (ap (λ z. z ∷ drop (suc i) xs) (sym is) ∙ ap (λ n. x ∷ drop n xs) (sym (add-one i))) in
      drop-starts xs i ∙ (ap (λ z. map (start_of made order) (map seen z)) all ∙ ap (λ z. start_of made order (seen x) ∷ z) (sym (drop-starts xs (i + 1))))

  -- none after the last
  pub starts-end : (xs : List Stored) (i : ℕ) → length xs ≤ i → drop i (starts_of made order (map seen xs)) ≡ []
  starts-end xs i le = drop-starts xs i ∙ ap (λ z. map (start_of made order) (map seen z)) (drop_all i xs le)

-- what is true of all starts is true of the one at a place
pub All-seen : (P : StartValue → Type 0) (xs : List Stored) (i : ℕ) (x : Stored) → All P (map seen xs) → i < length xs → x ≡ get_or xs i x → P (seen x)
All-seen P xs i x h lt is =
    let within : i < length (map seen xs) = omega (arith, length-map xs seen) in
    subst P (get_or-map seen xs i x (seen x) lt ∙ ap seen (sym is)) (h i (seen x) within)

module _ {E : Type 0} (v : Env E) (serves : Order → E → Type 0) (p : LabelledProgram) (o : ℕ) where
  abbrev pub Agrees : Start E → Start E → Type 0
  Agrees s s' = AgreeFor v serves p o s s'

  -- the starts before a place agree with the first one
  pub record AgreeTo (one : Start E) (ss rest : List (Start E)) (n : ℕ) : Type 0 where
    pub before : List (Start E)
    pub are : ss ≡ before ++ rest
    pub agree : Each (Agrees one) before
    pub number : n ≡ length before + 1

  pub agree_first : (one : Start E) (ss : List (Start E)) (n : ℕ) → n ≡ 1 → AgreeTo one ss ss n
  agree_first one ss n e = record { before = []; are = refl; agree = tt; number = e }

  pub agree_more : (one s : Start E) (ss rest more : List (Start E)) (n m : ℕ) → m ≡ n + 1 → rest ≡ s ∷ more → AgreeTo one ss rest n
      → Agrees one s → AgreeTo one ss more m
  agree_more one s ss rest more n m e is h a = record {
    before = h.before ++ s ∷ [];
    are = h.are ∙ (ap (λ z. h.before ++ z) is ∙ sym (append_assoc h.before (s ∷ []) more));
    agree = Each-more (Agrees one) h.before s h.agree a;
    number = omega (arith, e, h.number, length-append h.before (s ∷ []));
  }

  pub apart_here : (one s : Start E) (ss rest more : List (Start E)) (n : ℕ) (w : What) → rest ≡ s ∷ more → AgreeTo one ss rest n
      → IsFirstDifference v p o one s w → IsFirstApart v serves p o one ss n w
  apart_here one s ss rest more n w is h d =
      record { before = h.before; apart = s; after = more; are = h.are ∙ ap (λ z. h.before ++ z) is; agree = h.agree; number = h.number; differs = d }

  pub agree_end : (one : Start E) (ss rest : List (Start E)) (n : ℕ) → rest ≡ [] → AgreeTo one ss rest n → Each (Agrees one) ss
  agree_end one ss rest n none h = subst (Each (Agrees one)) (sym (h.are ∙ (ap (λ z. h.before ++ z) none ∙ append-nil h.before))) h.agree

  -- starts that agree with one agree with each other
  pub all_pairwise : (one : Start E) (ss : List (Start E)) → Each (Agrees one) ss → Pairwise Agrees ss
  all_pairwise one ss h = Each-map (Agrees one) (λ x. Each (Agrees x) ss) (λ x a. Each-map (Agrees one) (Agrees x) (λ y b. through x y a b) ss h) ss h
    where
      through : (x y : Start E) → Agrees one x → Agrees one y → Agrees x y
      through x y a b = record {
        one = a.other;
        other = b.other;
        long = sym a.long ∙ b.long;
        low = λ z f. sym (a.low z f) ∙ b.low z f;
        parts = λ q l f. sym (a.parts q l f) ∙ b.parts q l f;
      }

  pub disagrees : (one : Start E) (ss rest : List (Start E)) (run : ℕ) (w : What) → ss ≡ one ∷ rest → IsFirstApart v serves p o one ss run w
      → Disagrees v serves p o ss run w
  disagrees one ss rest run w e h = subst (λ z. Disagrees v serves p o z run w) (sym e) (subst (λ z. IsFirstApart v serves p o one z run w) e h)
