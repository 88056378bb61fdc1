-- Lists that are pushed to, and the lesser first predictions of one run more.
use Rattle.std.proofs.Common.{◌≡◌, ◌<◌, ◌≤◌, ℕ, zero, suc, ◌+◌, ⊎_elim, refl, sym, ap, ◌∙◌, subst, List, [], ◌∷◌, ◌++◌, length, replicate, arith, Vec}
use Rattle.std.specs.Prelude.{slice_set, slice_index_or, get_or, cond, eqb, min}
use Rattle.std.specs.declared.alloc.Global.{Global}
use Rattle.std.proofs.lemmas.Bool.{cases_lt, cases_eq, ne_eqb}
use Rattle.std.proofs.lemmas.List.{length-set, length-map, map-append, map-set}
use Rattle.std.proofs.lemmas.List.{get_or-map, get_or_past, get_or-set_same, get_or-set_other, replicate-append-replicate}
use Rattle.own_firsts.specs.Count.{firsts_at, many_at, first_at}
use Rattle.level_counts.specs.Listed.{lists}
use Rattle.level_counts.specs.Noted.{lesser}

abbrev pub Lists : Type 0
Lists = List (Vec ℕ Global)

abbrev items : Vec ℕ Global → List ℕ
items v = v.items

pub one_empty_more : (old new : Lists) (v : Vec ℕ Global) (n : ℕ)
    → lists old ≡ replicate n [] → new ≡ old ++ v ∷ [] → v.items ≡ [] → lists new ≡ replicate (n + 1) []
one_empty_more old new v n h e none =
    ap lists e ∙ map-append items old (v ∷ []) ∙ ap (λ z. z ++ v.items ∷ []) h ∙ ap (λ z. replicate n [] ++ z ∷ []) none
    ∙ replicate-append-replicate n 1 []

-- what a place of a list of lists holds
pub firsts_in : (vs : Lists) (l : ℕ) (v : Vec ℕ Global) → l < length vs → v ≡ get_or vs l v → firsts_at (lists vs) l ≡ v.items
firsts_in vs l v lt is = get_or-map items vs l v [] lt ∙ ap items (sym is)

pub lists_set : (vs : Lists) (l : ℕ) (v new : Vec ℕ Global) (x : ℕ) → l < length vs → v ≡ get_or vs l v → new.items ≡ v.items ++ x ∷ []
    → lists (slice_set vs l new) ≡ slice_set (lists vs) l (firsts_at (lists vs) l ++ x ∷ [])
lists_set vs l v new x lt is e =
    map-set items vs l new ∙ ap (λ z. slice_set (lists vs) l z) (e ∙ ap (λ z. z ++ x ∷ []) (sym (firsts_in vs l v lt is)))

-- ---- the places of one level

pub lesser_none : (x : ℕ) → lesser x 0 ≡ x
lesser_none zero = refl
lesser_none (suc x) = ap (λ b. cond b 0 (cond (eqb 0 0) (suc x) (min (suc x) 0))) (ne_eqb (suc x) 0 (λ e. absurd (omega (arith, e))))

-- of the first i places
pub record TakenPlaces (old run : List ℕ) (i : ℕ) (new : List ℕ) : Type 0 where
  pub size : length new ≡ length old
  pub before : (k : ℕ) → k < i → slice_index_or new k 0 ≡ lesser (slice_index_or old k 0) (slice_index_or run k 0)
  pub after : (k : ℕ) → i ≤ k → slice_index_or new k 0 ≡ slice_index_or old k 0

pub places_first : (old run : List ℕ) → TakenPlaces old run 0 old
places_first old run = record { size = refl; before = λ k h. absurd (omega (arith, h)); after = λ k h. refl }

pub places_more : (old run new : List ℕ) (i x : ℕ) → TakenPlaces old run i new → i < length old → x ≡ lesser (slice_index_or new i 0) (slice_index_or run i 0)
    → TakenPlaces old run (i + 1) (slice_set new i x)
places_more old run new i x h lt e = record {
  size = length-set new i x ∙ h.size;
  before = λ k less. ⊎_elim (same k) (other k less) (cases_eq k i);
  after = λ k le. get_or-set_other new i k x 0 (λ q. absurd (omega (arith, q, le))) ∙ h.after k (omega (arith, le));
}
  where
    same : (k : ℕ) → k ≡ i → slice_index_or (slice_set new i x) k 0 ≡ lesser (slice_index_or old k 0) (slice_index_or run k 0)
    same k q =
        let sz = h.size in
        ap (λ z. slice_index_or (slice_set new i x) z 0) q ∙ get_or-set_same new i x 0 (omega (arith, lt, sz)) ∙ e
        ∙ ap (λ z. lesser z (slice_index_or run i 0)) (h.after i (omega arith))
        ∙ ap (λ z. lesser (slice_index_or old z 0) (slice_index_or run z 0)) (sym q)

    other : (k : ℕ) → k < i + 1 → (k ≡ i → ⊥) → slice_index_or (slice_set new i x) k 0 ≡ lesser (slice_index_or old k 0) (slice_index_or run k 0)
    other k less q = get_or-set_other new i k x 0 q ∙ h.before k (⊎_elim (λ (a : k < i). a) (λ (b : i ≤ k). absurd (q (omega (arith, b, less)))) (cases_lt k i))

pub places_all : (old run new : List ℕ) (i : ℕ) → TakenPlaces old run i new → ((k : ℕ) → i ≤ k → k < length old → length run ≤ k) → (k : ℕ) → k < length old
    → slice_index_or new k 0 ≡ lesser (slice_index_or old k 0) (slice_index_or run k 0)
places_all old run new i h past k lt =
    ⊎_elim
    (λ (a : k < i). h.before k a)
    (λ (b : i ≤ k).
    h.after k b ∙ sym (ap (lesser (slice_index_or old k 0)) (get_or_past run k 0 (past k b lt)) ∙ lesser_none (slice_index_or old k 0)))
    (cases_lt k i)

-- ---- the levels of one run

-- of the first i levels
pub record TakenRuns (old run : List (List ℕ)) (i : ℕ) (new : List (List ℕ)) : Type 0 where
  pub size : length new ≡ length old
  pub long : (l : ℕ) → many_at new l ≡ many_at old l
  pub before : (l : ℕ) → l < i → (k : ℕ) → k < many_at old l → first_at new l k ≡ lesser (first_at old l k) (first_at run l k)
  pub after : (l : ℕ) → i ≤ l → firsts_at new l ≡ firsts_at old l

pub runs_first : (old run : List (List ℕ)) → TakenRuns old run 0 old
runs_first old run = record { size = refl; long = λ l. refl; before = λ l h. absurd (omega (arith, h)); after = λ l h. refl }

pub runs_more : (old run new : List (List ℕ)) (i : ℕ) (fs : List ℕ) → TakenRuns old run i new → i < length old → length fs ≡ many_at new i
    → ((k : ℕ) → k < many_at new i → slice_index_or fs k 0 ≡ lesser (first_at new i k) (first_at run i k)) → TakenRuns old run (i + 1) (slice_set new i fs)
runs_more old run new i fs h lt same_long least = record {
  size = length-set new i fs ∙ h.size;
  long = λ l. ⊎_elim (λ (q : l ≡ i). ap length (here l q) ∙ same_long ∙ h.long i ∙ ap (many_at old) (sym q))
      (λ (q : l ≡ i → ⊥). ap length (get_or-set_other new i l fs [] q) ∙ h.long l) (cases_eq l i);
  before = λ l less. ⊎_elim (same l) (other l less) (cases_eq l i);
  after = λ l le. get_or-set_other new i l fs [] (λ q. absurd (omega (arith, q, le))) ∙ h.after l (omega (arith, le));
}
  where
    here : (l : ℕ) → l ≡ i → firsts_at (slice_set new i fs) l ≡ fs
    here l q = let sz = h.size in ap (firsts_at (slice_set new i fs)) q ∙ get_or-set_same new i fs [] (omega (arith, lt, sz))

    same : (l : ℕ) → l ≡ i → (k : ℕ) → k < many_at old l → first_at (slice_set new i fs) l k ≡ lesser (first_at old l k) (first_at run l k)
    same l q k less =
        let at : firsts_at new i ≡ firsts_at old i = h.after i (omega arith) in
        let e : many_at old l ≡ many_at new i = ap (many_at old) q ∙ ap length (sym at) in
        ap (λ z. slice_index_or z k 0) (here l q) ∙ least k (omega (arith, less, e)) ∙ ap (λ z. lesser (slice_index_or z k 0) (first_at run i k)) at
        ∙ ap (λ z. lesser (first_at old z k) (first_at run z k)) (sym q)

    other : (l : ℕ) → l < i + 1 → (l ≡ i → ⊥) → (k : ℕ) → k < many_at old l
        → first_at (slice_set new i fs) l k ≡ lesser (first_at old l k) (first_at run l k)
    other l less q k lower =
        ap (λ z. slice_index_or z k 0) (get_or-set_other new i l fs [] q)
        ∙ h.before l (⊎_elim (λ (a : l < i). a) (λ (b : i ≤ l). absurd (q (omega (arith, b, less)))) (cases_lt l i)) k lower

-- with the lists of the code
pub run_taken : (old run now : Lists) (l : ℕ) (v r new : Vec ℕ Global) → TakenRuns (lists old) (lists run) l (lists now) → length old ≡ length run
    → l < length run → v ≡ get_or now l v → r ≡ get_or run l r → length new.items ≡ length v.items
    → ((k : ℕ) → k < length v.items → slice_index_or new.items k 0 ≡ lesser (slice_index_or v.items k 0) (slice_index_or r.items k 0))
    → TakenRuns (lists old) (lists run) (l + 1) (lists (slice_set now l new))
run_taken old run now l v r new h same lt its other long least =
    let sz = h.size in
    let n = length-map old items in
    let m = length-map now items in
    let here : firsts_at (lists now) l ≡ v.items = firsts_in now l v (omega (arith, sz, n, m, same, lt)) its in
    let there : firsts_at (lists run) l ≡ r.items = firsts_in run l r lt other in
    subst (TakenRuns (lists old) (lists run) (l + 1)) (sym (map-set items now l new))
    (runs_more (lists old) (lists run) (lists now) l new.items h (omega (arith, n, same, lt)) (long ∙ ap length (sym here))
    (λ k less. least k (subst (λ z. k < length z) here less) ∙ ap (λ z. lesser (slice_index_or z k 0) (slice_index_or r.items k 0)) (sym here)
    ∙ ap (λ z. lesser (first_at (lists now) l k) (slice_index_or z k 0)) (sym there)))

pub runs_all : (old run new : List (List ℕ)) (i : ℕ) → TakenRuns old run i new → length old ≤ i → (l k : ℕ) → k < many_at old l
    → first_at new l k ≡ lesser (first_at old l k) (first_at run l k)
runs_all old run new i h all l k lt =
    ⊎_elim
    (λ (a : l < i). h.before l a k lt)
    (λ (b : i ≤ l).
    let none : many_at old l ≡ 0 = ap length (get_or_past old l [] (omega (arith, all, b))) in
    absurd (omega (arith, none, lt)))
    (cases_lt l i)
