-- How lines make runs.
use Rattle.std.proofs.Common.{◌≡◌, ℕ, suc, ◌+◌, ◌<◌, ◌≤◌, List, [], ◌∷◌, ◌++◌, length, map, take, drop, set, get_or, append_assoc, append-nil, refl, sym, ap}
use Rattle.std.proofs.Common.{◌∙◌, subst, arith, Vec, vec_len}
use Rattle.std.specs.Prelude.{true, false, Option, Some, None, ◌==◌, nat_lt, if◌then◌else◌}
use Rattle.std.specs.List.{slice_split}
use Rattle.std.specs.declared.alloc.Global.{Global}
use Rattle.std.proofs.lemmas.Bool.{cond-true, cond-false, lt-ltb, le-ltb, ne_eqb}
use Rattle.std.proofs.lemmas.List.{map-append, set_split, drop_all, drop_more, take-append-drop, length-map}
use Rattle.std.proofs.lemmas.List.Splits.{length-slice_split}
use Rattle.std.proofs.lemmas.List.Sums.{count_by-le-length}
use Rattle.black_box.specs.declared.fault.ReadyFault.{ReadyFault}
use Rattle.black_box.specs.declared.fault.ReadyFault.TheVariants.{NoRuns, TooMany}
use Rattle.black_box.specs.declared.line.Line.{Line}
use Rattle.black_box.specs.declared.line.Line.TheVariants.{Blank, Run, Ready, Bad}
use Rattle.black_box.specs.Lines.{line_of, lines_of, first_bad, left, count_runs}
use Rattle.black_box.specs.Files.{lists, written, has_runs, Takes, Holds, refusal, refusal_of, IsBadLine}

written-append : (rs ss : List (List ℕ)) → written (rs ++ ss) ≡ written rs ++ written ss
written-append [] ss = refl
written-append (r ∷ rs) ss =
    ap (λ x. Run ∷ (map Ready r ++ x)) (written-append rs ss)
    ∙ ap (λ x. Run ∷ x) (sym (append_assoc (map Ready r) (written rs) (written ss)))

has_runs_push : (rs : List (List ℕ)) (r : List ℕ) → has_runs (rs ++ r ∷ []) ≡ true
has_runs_push [] r = refl
has_runs_push (x ∷ rs) r = refl

pub takes_run : (old new : List (List ℕ)) → new ≡ old ++ [] ∷ [] → Takes Run old new
takes_run old new e =
    subst (λ z. Takes Run old z) (sym e)
    (record {
      more = written-append old ([] ∷ []);
      good = λ n rest. ap (λ b. first_bad b (n + 1) rest) (sym (has_runs_push old []));
    })

-- one more event in the last run
takes_last : (rs : List (List ℕ)) (r : List ℕ) (c : ℕ) → Takes (Ready c) (rs ++ r ∷ []) (rs ++ (r ++ c ∷ []) ∷ [])
takes_last rs r c = record {
  more =
      written-append rs ((r ++ c ∷ []) ∷ [])
      ∙ ap (λ x. written rs ++ Run ∷ x) (append-nil (map Ready (r ++ c ∷ [])) ∙ map-append Ready r (c ∷ [])
      ∙ ap (λ x. x ++ Ready c ∷ []) (sym (append-nil (map Ready r))))
      ∙ sym (append_assoc (written rs) (Run ∷ (map Ready r ++ [])) (Ready c ∷ []))
      ∙ ap (λ x. x ++ Ready c ∷ []) (sym (written-append rs (r ∷ [])));
  good = λ n rest.
      ap (λ b. first_bad b n (Ready c ∷ rest)) (has_runs_push rs r)
      ∙ ap (λ b. first_bad b (n + 1) rest) (sym (has_runs_push rs (r ++ c ∷ [])));
}

abbrev Numbers : Type 0
Numbers = Vec ℕ Global

last_of : (vs : List Numbers) (i : ℕ) (r : Numbers) → length vs ≡ suc i → r ≡ get_or vs i r → vs ≡ take i vs ++ r ∷ []
last_of vs i r long e =
    let rest : drop i vs ≡ r ∷ drop (i + 1) vs = drop_more vs i r (omega arith) ∙ ap (λ z. z ∷ drop (i + 1) vs) (sym e) in
    let none : drop (i + 1) vs ≡ [] = drop_all (i + 1) vs (omega arith) in
    sym (take-append-drop i vs) ∙ ap (λ z. take i vs ++ z) (rest ∙ ap (λ z. r ∷ z) none)

set_last : (vs : List Numbers) (i : ℕ) (v : Numbers) → length vs ≡ suc i → set vs i v ≡ take i vs ++ v ∷ []
set_last vs i v long =
    let none : drop (suc i) vs ≡ [] = drop_all (suc i) vs (omega arith) in
    set_split vs i v (omega arith) ∙ ap (λ z. take i vs ++ v ∷ z) none

pub takes_event : (vs : List Numbers) (i c : ℕ) (r v : Numbers) → length vs ≡ suc i → r ≡ get_or vs i r → v.items ≡ r.items ++ c ∷ []
    → Takes (Ready c) (map (λ (x : Numbers). x.items) vs) (map (λ (x : Numbers). x.items) (set vs i v))
takes_event vs i c r v long at e =
    let f : Numbers → List ℕ = λ x. x.items in
    let before : map f vs ≡ map f (take i vs) ++ r.items ∷ [] = ap (map f) (last_of vs i r long at) ∙ map-append f (take i vs) (r ∷ []) in
    let after : map f (set vs i v) ≡ map f (take i vs) ++ (r.items ++ c ∷ []) ∷ [] =
    ap (map f) (set_last vs i v long) ∙ map-append f (take i vs) (v ∷ []) ∙ ap (λ z. map f (take i vs) ++ z ∷ []) e in
    subst (λ z. Takes (Ready c) z (map f (set vs i v))) (sym before)
    (subst (λ z. Takes (Ready c) (map f (take i vs) ++ r.items ∷ []) z) (sym after) (takes_last (map f (take i vs)) r.items c))

-- ---- a file, line by line

left-cons : (l : Line) (ls : List Line) → left (l ∷ ls) ≡ left (l ∷ []) ++ left ls
left-cons Blank ls = refl
left-cons Run ls = refl
left-cons (Ready c) ls = refl
left-cons Bad ls = refl

-- n lines were read
pub record IsRead (all : List (List ℕ)) (n number : ℕ) (runs : List (List ℕ)) : Type 0 where
  pub numbered : number ≡ n
  pub short : length runs ≤ n
  pub first : first_bad (has_runs runs) (n + 1) (map line_of (drop n all)) ≡ first_bad false 1 (map line_of all)
  pub kept : written runs ++ left (map line_of (drop n all)) ≡ left (map line_of all)

pub read_none : (all : List (List ℕ)) → IsRead all 0 0 []
read_none all = record { numbered = refl; short = omega arith; first = refl; kept = refl }

next_line : (all : List (List ℕ)) (n : ℕ) (w : List ℕ) → n < length all → w ≡ get_or all n w
    → map line_of (drop n all) ≡ line_of w ∷ map line_of (drop (n + 1) all)
next_line all n w h e = ap (map line_of) (drop_more all n w h) ∙ ap (λ z. line_of z ∷ map line_of (drop (n + 1) all)) (sym e)

pub read_more : (all : List (List ℕ)) (n number : ℕ) (runs new : List (List ℕ)) (w : List ℕ) → IsRead all n number runs → n < length all → w ≡ get_or all n w
    → Takes (line_of w) runs new → length new ≤ length runs + 1 → IsRead all (n + 1) (number + 1) new
read_more all n number runs new w r h e takes long =
    let now = next_line all n w h e in
    record {
      numbered = let a = r.numbered in omega arith;
      short = let a = r.short in omega arith;
      first =
          sym (takes.good (n + 1) (map line_of (drop (n + 1) all)))
          ∙ ap (first_bad (has_runs runs) (n + 1)) (sym now)
          ∙ r.first;
      kept =
          ap (λ z. z ++ left (map line_of (drop (n + 1) all))) takes.more
          ∙ append_assoc (written runs) (left (line_of w ∷ [])) (left (map line_of (drop (n + 1) all)))
          ∙ ap (λ z. written runs ++ z) (sym (left-cons (line_of w) (map line_of (drop (n + 1) all))))
          ∙ ap (λ z. written runs ++ left z) (sym now)
          ∙ r.kept;
    }

pub read_bad : (all : List (List ℕ)) (n number : ℕ) (runs : List (List ℕ)) (w : List ℕ) → IsRead all n number runs → n < length all → w ≡ get_or all n w
    → ((rest : List Line) → first_bad (has_runs runs) (number + 1) (line_of w ∷ rest) ≡ Some (number + 1))
    → first_bad false 1 (map line_of all) ≡ Some (number + 1)
read_bad all n number runs w r h e bad =
    sym r.first
    ∙ ap (first_bad (has_runs runs) (n + 1)) (next_line all n w h e)
    ∙ ap (λ z. first_bad (has_runs runs) (z + 1) (line_of w ∷ map line_of (drop (n + 1) all))) (sym r.numbered)
    ∙ bad (map line_of (drop (n + 1) all))

pub read_all : (all : List (List ℕ)) (n number : ℕ) (runs : List (List ℕ)) → IsRead all n number runs → n ≡ length all → (left (map line_of all) ≡ written runs)
    × (first_bad false 1 (map line_of all) ≡ None)
read_all all n number runs r e =
    let none : map line_of (drop n all) ≡ [] = ap (map line_of) (drop_all n all (omega arith)) in (
      sym r.kept ∙ ap (λ z. written runs ++ left z) none ∙ append-nil (written runs),
      sym r.first ∙ ap (first_bad (has_runs runs) (n + 1)) none,
    )

pub few_lines : (bytes : List ℕ) → length (slice_split (λ b. b == 10) bytes) ≤ length bytes + 1
few_lines bytes = omega (arith, length-slice_split (λ b. b == 10) bytes, count_by-le-length (λ b. b == 10) bytes)

-- ---- a file is refused, or not

count_left : (ls : List Line) → count_runs (left ls) ≡ count_runs ls
count_left [] = refl
count_left (Blank ∷ ls) = count_left ls
count_left (Run ∷ ls) = ap (λ n. 1 + n) (count_left ls)
count_left (Ready c ∷ ls) = count_left ls
count_left (Bad ∷ ls) = count_left ls

count_events : (r : List ℕ) (ls : List Line) → count_runs (map Ready r ++ ls) ≡ count_runs ls
count_events [] ls = refl
count_events (c ∷ r) ls = count_events r ls

count_written : (rs : List (List ℕ)) → count_runs (written rs) ≡ length rs
count_written [] = refl
count_written (r ∷ rs) = omega (arith, count_events r (written rs), count_written rs)

module _ (bytes : List ℕ) where
  pub refused_bad : (e : ReadyFault) → IsBadLine (first_bad false 1 (lines_of bytes)) e → refusal bytes ≡ Some e
  refused_bad e bad = go (first_bad false 1 (lines_of bytes)) bad
    where
      go : (o : Option ℕ) → IsBadLine o e → refusal_of o (lines_of bytes) ≡ Some e
      go None h = absurd h
      go (Some n) h = ap Some (sym h)

  counted : (runs : List (List ℕ)) → Holds bytes runs → count_runs (lines_of bytes) ≡ length runs
  counted runs h = sym (count_left (lines_of bytes)) ∙ ap count_runs h ∙ count_written runs

  pub refused_empty : (runs : List (List ℕ)) → Holds bytes runs → first_bad false 1 (lines_of bytes) ≡ None → length runs ≡ 0 → refusal bytes ≡ Some NoRuns
  refused_empty [] h good e = ap (λ z. refusal_of z (lines_of bytes)) good ∙ ap (λ z. if length z == 0 then Some NoRuns else
      (if nat_lt 4096 (count_runs (lines_of bytes)) then Some (TooMany (count_runs (lines_of bytes))) else None)) h
  refused_empty (r ∷ runs) h good e = absurd (omega arith)

  some_left : (runs : List (List ℕ)) → Holds bytes runs → first_bad false 1 (lines_of bytes) ≡ None → 0 < length runs
      → refusal bytes ≡ (if nat_lt 4096 (length runs) then Some (TooMany (length runs)) else None)
  some_left [] h good some = absurd (omega arith)
  some_left (r ∷ runs) h good some =
      ap (λ z. refusal_of z (lines_of bytes)) good
      ∙ ap (λ z. if length z == 0 then Some NoRuns else
      (if nat_lt 4096 (count_runs (lines_of bytes)) then Some (TooMany (count_runs (lines_of bytes))) else None)) h
      ∙ cond-false {A = Option ReadyFault} (length (written (r ∷ runs)) == 0) (Some NoRuns) (if nat_lt 4096 (count_runs (lines_of bytes)) then
      Some (TooMany (count_runs (lines_of bytes))) else None) (ne_eqb (length (written (r ∷ runs))) 0 (λ e. absurd (omega (arith, e))))
      ∙ ap (λ k. if nat_lt 4096 k then Some (TooMany k) else None) (counted (r ∷ runs) h)

  pub refused_many : (runs : List (List ℕ)) → Holds bytes runs → first_bad false 1 (lines_of bytes) ≡ None → 4096 < length runs
      → refusal bytes ≡ Some (TooMany (length runs))
  refused_many runs h good many = some_left runs h good (omega arith) ∙ cond-true _ _ _ (lt-ltb 4096 (length runs) many)

  pub accepted : (runs : List (List ℕ)) → Holds bytes runs → first_bad false 1 (lines_of bytes) ≡ None → 0 < length runs
      → length runs ≤ 4096 → refusal bytes ≡ None
  accepted runs h good some few = some_left runs h good some ∙ cond-false _ _ _ (le-ltb 4096 (length runs) few)

pub length-lists : (v : Vec (Vec ℕ Global) Global) → length (lists v) ≡ vec_len v
length-lists v = length-map v.items (λ r. r.items) ∙ sym v.ok.0

-- ---- a file holds one list of runs

same_events : (r s : List ℕ) (rs ss : List (List ℕ)) → map Ready r ++ written rs ≡ map Ready s ++ written ss → (r ≡ s) × (written rs ≡ written ss)
same_events [] [] rs ss e = (refl, e)
same_events [] (d ∷ s) [] ss e = cc
same_events [] (d ∷ s) (x ∷ rs) ss e = cc
same_events (c ∷ r) [] rs [] e = cc
same_events (c ∷ r) [] rs (x ∷ ss) e = cc
same_events (c ∷ r) (d ∷ s) rs ss e =
    let rest : map Ready r ++ written rs ≡ map Ready s ++ written ss = cc in
    let i = same_events r s rs ss rest in
    let p = i.0 in
    let q : c ∷ r ≡ d ∷ s = cc in
    (q, i.1)

pub one_list : (rs ss : List (List ℕ)) → written rs ≡ written ss → rs ≡ ss
one_list [] [] e = refl
one_list [] (s ∷ ss) e = cc
one_list (r ∷ rs) [] e = cc
one_list (r ∷ rs) (s ∷ ss) e =
    let rest : map Ready r ++ written rs ≡ map Ready s ++ written ss = cc in
    let i = same_events r s rs ss rest in
    let p = i.0 in
    let q = one_list rs ss i.1 in
    cc
