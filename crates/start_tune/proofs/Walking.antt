-- Where a walk over starts stands.
use Rattle.std.proofs.Common.{◌≡◌, ◌<◌, ◌≤◌, ◌^◌, ◌+◌, ◌*◌, ℕ, suc, List, [], ◌∷◌, ◌++◌, length, take, map, get_or, All, refl, sym, ap, ◌∙◌, subst, arith}
use Rattle.std.specs.List.{AllZip, sum_by}
use Rattle.std.proofs.lemmas.List.{take_more, take_all, length-map, get_or-map}
use Rattle.std.proofs.lemmas.List.Sums.{sum_by-cons}
use Rattle.std.proofs.lemmas.Slice.Zip.{AllZip-long}
use Rattle.class_counts.specs.Tally.{total}
use Rattle.label_lattice.specs.Order.{Order}
use Rattle.env_contract.specs.declared.place.Touch.{Touch}
use Rattle.env_contract.specs.Env.{Env}
use Rattle.label_code.specs.Shaped.{Code}
use Rattle.start_file.specs.declared.start.Start.{Start as Stored}
use Rattle.start_file.specs.Starts.{StartValue, seen}
use Rattle.first_replay.specs.Replay.{Entry}
use Rattle.first_front.specs.declared.class.Class.{Class}
use Rattle.entry_classes.specs.declared.known.Known.{Known}
use Rattle.entry_classes.specs.Classes.{AreClasses, Keeps}
use Rattle.start_tune.specs.Runs.{Fits, IsRun, IsUnending, AreRunClasses, OneIsUnending}

-- what is kept of the first so many runs
pub record Walked {E : Type 0} (v : Env E) (made : Order → List Touch → E) (t : ℕ) (c : Code) (ss : List StartValue) (i : ℕ) (k : Known) : Type 0 where
  pub runs : List (List Entry)
  pub each : AllZip (IsRun v made t c) (take i ss) runs
  pub kept : Keeps runs k
  pub total : total k.classes.entries ≡ i

zip_last : {A B : Type 0} (R : A → B → Type 0) (xs : List A) (ys : List B) (x : A) (y : B) → AllZip R xs ys → R x y → AllZip R (xs ++ x ∷ []) (ys ++ y ∷ [])
zip_last R [] [] x y h k = (k, h)
zip_last R [] (b ∷ ys) x y h k = absurd h
zip_last R (a ∷ xs) [] x y h k = absurd h
zip_last R (a ∷ xs) (b ∷ ys) x y h k = (h.0, zip_last R xs ys x y h.1 k)

-- the start at a place of the list
start_at : (xs : List Stored) (i : ℕ) (x : Stored) → i < length xs → x ≡ get_or xs i x → get_or (map seen xs) i (seen x) ≡ seen x
start_at xs i x lt is = get_or-map seen xs i x (seen x) lt ∙ ap seen (sym is)

pub fits_there : (c : Code) (xs : List Stored) (i : ℕ) (x : Stored) → All (Fits c) (map seen xs) → i < length xs → x ≡ get_or xs i x → Fits c (seen x)
fits_there c xs i x fits lt is =
    let long = length-map xs seen in subst (Fits c) (start_at xs i x lt is) (fits i (seen x) (omega (arith, lt, long)))

module _ {E : Type 0} (v : Env E) (made : Order → List Touch → E) (t : ℕ) (c : Code) where
  pub none_walked : (ss : List StartValue) (k : Known) → Keeps [] k → total k.classes.entries ≡ 0 → Walked v made t c ss 0 k
  none_walked ss k kept none = record { runs = []; each = tt; kept = kept; total = none }

  pub one_walked : (xs : List Stored) (i : ℕ) (x : Stored) (es : List Entry) (k k' : Known) → i < length xs → x ≡ get_or xs i x →
      Walked v made t c (map seen xs) i k → IsRun v made t c (seen x) es →
      ((runs : List (List Entry)) → Keeps runs k → Keeps (runs ++ es ∷ []) k') → total k'.classes.entries ≡ total k.classes.entries + 1 →
      Walked v made t c (map seen xs) (i + 1) k'
  one_walked xs i x es k k' lt is h run kept more =
      let long = length-map xs seen in
      let next : take (i + 1) (map seen xs) ≡ take i (map seen xs) ++ seen x ∷ [] =
      take_more (map seen xs) i (seen x) (omega (arith, lt, long)) ∙ ap (λ z. take i (map seen xs) ++ z ∷ []) (start_at xs i x lt is) in
      record {
        runs = h.runs ++ es ∷ [];
        each = subst (λ z. AllZip (IsRun v made t c) z (h.runs ++ es ∷ [])) (sym next) (zip_last (IsRun v made t c) (take i (map seen xs)) h.runs (seen x) es
            h.each run);
        kept = kept h.runs h.kept;
        total = more ∙ ap (λ z. z + 1) h.total;
      }

  pub one_unending : (xs : List Stored) (i : ℕ) (x : Stored) → i < length xs → x ≡ get_or xs i x → IsUnending v made t c (seen x)
      → OneIsUnending v made t c (map seen xs)
  one_unending xs i x lt is h = let long = length-map xs seen in (seen x, (i, (omega (arith, lt, long), sym (start_at xs i x lt is))), h)

  all_walked : (ss : List StartValue) (i : ℕ) (k : Known) → length ss ≤ i → Walked v made t c ss i k → (cs : List Class)
      → ((runs : List (List Entry)) → Keeps runs k → AreClasses runs cs) → AreRunClasses v made t c ss cs
  all_walked ss i k le h cs made_of = record {
    runs = h.runs;
    each = subst (λ z. AllZip (IsRun v made t c) z h.runs) (take_all i ss le) h.each;
    classes = made_of h.runs h.kept;
  }

  pub walk_ends : (xs : List Stored) (i : ℕ) (k : Known) → length xs ≤ i → Walked v made t c (map seen xs) i k → (cs : List Class)
      → ((runs : List (List Entry)) → Keeps runs k → AreClasses runs cs) → AreRunClasses v made t c (map seen xs) cs
  walk_ends xs i k le h cs made_of = let long = length-map xs seen in all_walked (map seen xs) i k (omega (arith, le, long)) h cs made_of

  starts_sum : (cs : List Class) → sum_by (λ x. x.starts * 1) cs ≡ sum_by (λ x. x.starts) cs
  starts_sum [] = refl
  starts_sum (x ∷ cs) =
      let a = sum_by-cons (λ y. y.starts * 1) x cs in let b = sum_by-cons (λ y. y.starts) x cs in let r = starts_sum cs in omega (arith, a, b, r)

  ones_sum : (runs : List (List Entry)) → sum_by (λ x. 1) runs ≡ length runs
  ones_sum [] = refl
  ones_sum (x ∷ runs) = let a = sum_by-cons (λ y. 1) x runs in let r = ones_sum runs in omega (arith, a, r)

  -- there are as many starts in the classes as starts
  pub few_starts : (xs : List Stored) (cs : List Class) → AreRunClasses v made t c (map seen xs) cs → length xs < 2 ^ 32 → sum_by (λ x. x.starts) cs < 2 ^ 64
  few_starts xs cs h few =
      let a = starts_sum cs in
      let b = h.classes.sums (λ x. 1) in
      let d = ones_sum h.runs in
      let long = length-map xs seen in
      let same = AllZip-long (IsRun v made t c) (map seen xs) h.runs h.each in
      omega (arith, a, b, d, long, same, few)
