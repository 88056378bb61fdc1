-- Lists by place, and the labels of commands and mitigates by their numbers.
use Rattle.std.proofs.Common.{◌≡◌, ℕ, zero, suc, ◌+◌, ◌<◌, refl, sym, ap, ◌∙◌, subst, List, [], ◌∷◌, ◌++◌, length, get_or, arith, length-append, append_assoc}
use Rattle.std.specs.Prelude.{Option, None, Some}
use Rattle.std.proofs.Math.Seq.{get_or-append_seam}
use Rattle.label_lattice.specs.Lattice.{Lattice}
use Rattle.label_lattice.specs.declared.label.Label.{Label}
use Rattle.mit_syntax.specs.Todo.{Marks, Done, Skip, Assign, Put, Sleep, If, While, Mitigate}
use Rattle.mit_syntax.specs.Plan.{Plan, count, mitigates}
use Rattle.mit_syntax.specs.Valid.{AreNumbered}
use Rattle.timing_types.specs.Typing.{label_of}
use Rattle.timing_types.specs.Walk.{here, put_index}
use Rattle.timing_types.specs.Labelling.{marks_from, IsKept, AreKept, Keeps}
use Rattle.label_infer.specs.Least.{own, HasOwn}
use Rattle.label_infer.specs.Given.{AllFrom, written_levels, own_pair, own_pairs}

pub from_move : {A : Type 0} (P : ℕ → A → Type 0) (xs : List A) (i j : ℕ) → i ≡ j → AllFrom P i xs → AllFrom P j xs
from_move P xs i j e h = subst (λ z. AllFrom P z xs) e h

pub from_parts : {A : Type 0} (P : ℕ → A → Type 0) (xs ys : List A) (i j : ℕ) → j ≡ i + length xs → AllFrom P i (xs ++ ys) → AllFrom P i xs × AllFrom P j ys
from_parts P [] ys i j e h = (tt, from_move P ys i j (omega (arith, e)) h)
from_parts P (x ∷ xs) ys i j e h = let q = from_parts P xs ys (i + 1) j (omega (arith, e)) h.1 in ((h.0, q.0), q.1)

pub from_both : {A : Type 0} (P : ℕ → A → Type 0) (xs ys : List A) (i j : ℕ) → j ≡ i + length xs → AllFrom P i xs → AllFrom P j ys → AllFrom P i (xs ++ ys)
from_both P [] ys i j e h k = from_move P ys j i (omega (arith, e)) k
from_both P (x ∷ xs) ys i j e h k = (h.0, from_both P xs ys (i + 1) j (omega (arith, e)) h.1 k)

-- by place
pub from_at : {A : Type 0} (P : ℕ → A → Type 0) (xs : List A) (i k : ℕ) (d : A) → AllFrom P i xs → k < length xs → P (i + k) (get_or xs k d)
from_at P [] i k d h l = absurd (omega (arith, l))
from_at P (x ∷ xs) i zero d h l = let e : i ≡ i + 0 = omega arith in subst (λ z. P z x) e h.0
from_at P (x ∷ xs) i (suc k) d h l =
    let e : i + 1 + k ≡ i + suc k = omega arith in
    subst (λ z. P z (get_or xs k d)) e (from_at P xs (i + 1) k d h.1 (omega (arith, l)))

pub from_first : {A : Type 0} (P : ℕ → A → Type 0) (xs : List A) (k : ℕ) (d : A) → AllFrom P 0 xs → k < length xs → P k (get_or xs k d)
from_first P xs k d h l = let e : 0 + k ≡ k = omega arith in subst (λ z. P z (get_or xs k d)) e (from_at P xs 0 k d h l)

-- a list in a longer one has its items at their places
pub from_all : {A : Type 0} (all pre xs post : List A) (i : ℕ) (d : A) → all ≡ pre ++ (xs ++ post) → length pre ≡ i → AllFrom (λ j x. get_or all j d ≡ x) i xs
from_all all pre [] post i d is len = tt
from_all all pre (x ∷ xs) post i d is len =
    let n : i ≡ length pre = sym len in
    let l = length-append pre (x ∷ []) in (
      ap (λ z. get_or z i d) is ∙ ap (λ z. get_or (pre ++ (x ∷ (xs ++ post))) z d) n ∙ get_or-append_seam pre x (xs ++ post) d,
      from_all all (pre ++ x ∷ []) xs post (i + 1) d (is ∙ sym (append_assoc pre (x ∷ []) (xs ++ post))) (omega (arith, l, len)),
    )

-- one property from another
pub from_map : {A : Type 0} (P Q : ℕ → A → Type 0) → ((k : ℕ) (x : A) → P k x → Q k x) → (xs : List A) (i : ℕ) → AllFrom P i xs → AllFrom Q i xs
from_map P Q f [] i h = tt
from_map P Q f (x ∷ xs) i h = (f i x h.0, from_map P Q f xs (i + 1) h.1)

pub from_pair : {A : Type 0} (P Q : ℕ → A → Type 0) (xs : List A) (i : ℕ) → AllFrom P i xs → AllFrom Q i xs → AllFrom (λ k x. P k x × Q k x) i xs
from_pair P Q [] i h k = tt
from_pair P Q (x ∷ xs) i h k = ((h.0, k.0), from_pair P Q xs (i + 1) h.1 k.1)

pub length_levels : (p : Plan) → length (written_levels p) ≡ mitigates p
length_levels Done = refl
length_levels (Skip w p) = length_levels p
length_levels (Assign w x e p) = length_levels p
length_levels (Put w f n j e p) = length_levels p
length_levels (Sleep w e p) = length_levels p
length_levels (If w e a b p) =
    let x = length_levels a in
    let y = length_levels b in
    let z = length_levels p in
    let s = length-append (written_levels a) (written_levels b ++ written_levels p) in
    let t = length-append (written_levels b) (written_levels p) in
    omega (arith, x, y, z, s, t)
length_levels (While w e c p) =
    let x = length_levels c in
    let z = length_levels p in
    let s = length-append (written_levels c) (written_levels p) in
    omega (arith, x, z, s)
length_levels (Mitigate w k l e c p) =
    let x = length_levels c in
    let z = length_levels p in
    let s = length-append (written_levels c) (written_levels p) in
    omega (arith, x, z, s)

pub length_pairs : (lat : Lattice) (g : ℕ → ℕ) (p : Plan) (pc : ℕ) → length (own_pairs lat g p pc) ≡ count p
length_pairs lat g Done pc = refl
length_pairs lat g (Skip w p) pc = let h = length_pairs lat g p pc in omega (arith, h)
length_pairs lat g (Assign w x e p) pc = let h = length_pairs lat g p pc in omega (arith, h)
length_pairs lat g (Put w f n j e p) pc = let h = length_pairs lat g p pc in omega (arith, h)
length_pairs lat g (Sleep w e p) pc = let h = length_pairs lat g p pc in omega (arith, h)
length_pairs lat g (If w e a b p) pc =
    let i = lat.join pc (label_of lat g e) in
    let x = length_pairs lat g a i in
    let y = length_pairs lat g b i in
    let z = length_pairs lat g p pc in
    let s = length-append (own_pairs lat g a i) (own_pairs lat g b i ++ own_pairs lat g p pc) in
    let t = length-append (own_pairs lat g b i) (own_pairs lat g p pc) in
    omega (arith, x, y, z, s, t)
length_pairs lat g (While w e c p) pc =
    let i = lat.join pc (label_of lat g e) in
    let x = length_pairs lat g c i in
    let z = length_pairs lat g p pc in
    let s = length-append (own_pairs lat g c i) (own_pairs lat g p pc) in
    omega (arith, x, z, s)
length_pairs lat g (Mitigate w k l e c p) pc =
    let x = length_pairs lat g c pc in
    let z = length_pairs lat g p pc in
    let s = length-append (own_pairs lat g c pc) (own_pairs lat g p pc) in
    omega (arith, x, z, s)

pair_own : (o : Option (Label × Label)) (h : ℕ) → marks_from (own_pair o h) ≡ own o h
pair_own None h = refl
pair_own (Some p) h = refl

own_kept : (o : Option (Label × Label)) (h : ℕ) (m : Marks) → m ≡ own o h → AreKept o m
own_kept None h m e = tt
own_kept (Some p) h m e = (ap (λ z. z.er) e, ap (λ z. z.ew) e)

-- the written levels, by their marks
abbrev pub LevelsKept : (ℕ → ℕ) → ℕ → Plan → Type 0
LevelsKept ls k p = AllFrom (λ j l. IsKept l (ls j)) k (written_levels p)

module _ (lat : Lattice) (g : ℕ → ℕ) (ms : ℕ → Marks) where
  abbrev pub Pairs : Plan → ℕ → ℕ → Type 0
  Pairs p i pc = AllFrom (λ j m. ms j ≡ marks_from m) i (own_pairs lat g p pc)

  -- each command has its own labels where they stand in order of the text
  pub has_own : (p : Plan) (i pc : ℕ) → Pairs p i pc → HasOwn lat g ms p i pc
  has_own Done i pc h = tt
  has_own (Skip w p) i pc h = (h.0 ∙ pair_own w.labels pc, has_own p (i + 1) pc h.1)
  has_own (Assign w x e p) i pc h = (h.0 ∙ pair_own w.labels (here lat g pc e), has_own p (i + 1) pc h.1)
  has_own (Put w f n j e p) i pc h = (h.0 ∙ pair_own w.labels (lat.join pc (put_index lat g j e)), has_own p (i + 1) pc h.1)
  has_own (Sleep w e p) i pc h = (h.0 ∙ pair_own w.labels (here lat g pc e), has_own p (i + 1) pc h.1)
  has_own (If w e a b p) i pc h =
      let P : ℕ → Label × Label → Type 0 = λ j m. ms j ≡ marks_from m in
      let n = lat.join pc (label_of lat g e) in
      let la = length_pairs lat g a n in
      let lb = length_pairs lat g b n in
      let q = from_parts P (own_pairs lat g a n) (own_pairs lat g b n ++ own_pairs lat g p pc) (i + 1) (i + 1 + count a) (omega (arith, la)) h.1 in
      let r = from_parts P (own_pairs lat g b n) (own_pairs lat g p pc) (i + 1 + count a) (i + 1 + count a + count b) (omega (arith, lb)) q.1 in
      (h.0 ∙ pair_own w.labels (here lat g pc e), has_own a (i + 1) n q.0, has_own b (i + 1 + count a) n r.0, has_own p (i + 1 + count a + count b) pc r.1)
  has_own (While w e c p) i pc h =
      let P : ℕ → Label × Label → Type 0 = λ j m. ms j ≡ marks_from m in
      let n = lat.join pc (label_of lat g e) in
      let lc = length_pairs lat g c n in
      let q = from_parts P (own_pairs lat g c n) (own_pairs lat g p pc) (i + 1) (i + 1 + count c) (omega (arith, lc)) h.1 in
      (h.0 ∙ pair_own w.labels (here lat g pc e), has_own c (i + 1) n q.0, has_own p (i + 1 + count c) pc q.1)
  has_own (Mitigate w k l e c p) i pc h =
      let P : ℕ → Label × Label → Type 0 = λ j m. ms j ≡ marks_from m in
      let lc = length_pairs lat g c pc in
      let q = from_parts P (own_pairs lat g c pc) (own_pairs lat g p pc) (i + 1) (i + 1 + count c) (omega (arith, lc)) h.1 in
      (h.0 ∙ pair_own w.labels (here lat g pc e), has_own c (i + 1) pc q.0, has_own p (i + 1 + count c) pc q.1)

  -- and the other way round
  pub own_listed : (p : Plan) (i pc : ℕ) → HasOwn lat g ms p i pc → Pairs p i pc
  own_listed Done i pc h = tt
  own_listed (Skip w p) i pc h = (h.0 ∙ sym (pair_own w.labels pc), own_listed p (i + 1) pc h.1)
  own_listed (Assign w x e p) i pc h = (h.0 ∙ sym (pair_own w.labels (here lat g pc e)), own_listed p (i + 1) pc h.1)
  own_listed (Put w f n j e p) i pc h = (h.0 ∙ sym (pair_own w.labels (lat.join pc (put_index lat g j e))), own_listed p (i + 1) pc h.1)
  own_listed (Sleep w e p) i pc h = (h.0 ∙ sym (pair_own w.labels (here lat g pc e)), own_listed p (i + 1) pc h.1)
  own_listed (If w e a b p) i pc h =
      let P : ℕ → Label × Label → Type 0 = λ j m. ms j ≡ marks_from m in
      let n = lat.join pc (label_of lat g e) in
      let la = length_pairs lat g a n in
      let lb = length_pairs lat g b n in (
        h.0 ∙ sym (pair_own w.labels (here lat g pc e)),
        from_both P (own_pairs lat g a n) (own_pairs lat g b n ++ own_pairs lat g p pc) (i + 1) (i + 1 + count a)
            (omega (arith, la)) (own_listed a (i + 1) n h.1)
            (from_both P (own_pairs lat g b n) (own_pairs lat g p pc) (i + 1 + count a) (i + 1 + count a + count b) (omega (arith, lb))
            (own_listed b (i + 1 + count a) n h.2)
            (own_listed p (i + 1 + count a + count b) pc h.3)),
      )
  own_listed (While w e c p) i pc h =
      let P : ℕ → Label × Label → Type 0 = λ j m. ms j ≡ marks_from m in
      let n = lat.join pc (label_of lat g e) in
      let lc = length_pairs lat g c n in (
        h.0 ∙ sym (pair_own w.labels (here lat g pc e)),
        from_both P (own_pairs lat g c n) (own_pairs lat g p pc) (i + 1) (i + 1 + count c) (omega (arith, lc)) (own_listed c (i + 1) n h.1)
            (own_listed p (i + 1 + count c) pc h.2),
      )
  own_listed (Mitigate w k l e c p) i pc h =
      let P : ℕ → Label × Label → Type 0 = λ j m. ms j ≡ marks_from m in
      let lc = length_pairs lat g c pc in (
        h.0 ∙ sym (pair_own w.labels (here lat g pc e)),
        from_both P (own_pairs lat g c pc) (own_pairs lat g p pc) (i + 1) (i + 1 + count c) (omega (arith, lc)) (own_listed c (i + 1) pc h.1)
            (own_listed p (i + 1 + count c) pc h.2),
      )

  -- all that is written is kept
  pub keeps : (ls : ℕ → ℕ) (p : Plan) (i k pc : ℕ) → HasOwn lat g ms p i pc → AreNumbered k p → LevelsKept ls k p → Keeps ms ls p i
  keeps ls Done i k pc h num v = tt
  keeps ls (Skip w p) i k pc h num v = (own_kept w.labels pc (ms i) h.0, keeps ls p (i + 1) k pc h.1 num v)
  keeps ls (Assign w x e p) i k pc h num v = (own_kept w.labels (here lat g pc e) (ms i) h.0, keeps ls p (i + 1) k pc h.1 num v)
  keeps ls (Put w f n j e p) i k pc h num v = (own_kept w.labels (lat.join pc (put_index lat g j e)) (ms i) h.0, keeps ls p (i + 1) k pc h.1 num v)
  keeps ls (Sleep w e p) i k pc h num v = (own_kept w.labels (here lat g pc e) (ms i) h.0, keeps ls p (i + 1) k pc h.1 num v)
  keeps ls (If w e a b p) i k pc h num v =
      let P : ℕ → Option Label → Type 0 = λ j l. IsKept l (ls j) in
      let n = lat.join pc (label_of lat g e) in
      let la = length_levels a in
      let lb = length_levels b in
      let q = from_parts P (written_levels a) (written_levels b ++ written_levels p) k (k + mitigates a) (omega (arith, la)) v in
      let r = from_parts P (written_levels b) (written_levels p) (k + mitigates a) (k + mitigates a + mitigates b) (omega (arith, lb)) q.1 in (
        own_kept w.labels (here lat g pc e) (ms i) h.0,
        keeps ls a (i + 1) k n h.1 num.0 q.0,
        keeps ls b (i + 1 + count a) (k + mitigates a) n h.2 num.1 r.0,
        keeps ls p (i + 1 + count a + count b) (k + mitigates a + mitigates b) pc h.3 num.2 r.1,
      )
  keeps ls (While w e c p) i k pc h num v =
      let P : ℕ → Option Label → Type 0 = λ j l. IsKept l (ls j) in
      let n = lat.join pc (label_of lat g e) in
      let lc = length_levels c in
      let q = from_parts P (written_levels c) (written_levels p) k (k + mitigates c) (omega (arith, lc)) v in
      (own_kept w.labels (here lat g pc e) (ms i) h.0, keeps ls c (i + 1) k n h.1 num.0 q.0, keeps ls p (i + 1 + count c) (k + mitigates c) pc h.2 num.1 q.1)
  keeps ls (Mitigate w j l e c p) i k pc h num v =
      let P : ℕ → Option Label → Type 0 = λ j l. IsKept l (ls j) in
      let lc = length_levels c in
      let q = from_parts P (written_levels c) (written_levels p) (k + 1) (k + 1 + mitigates c) (omega (arith, lc)) v.1 in
      let here_kept : IsKept l (ls j) = subst (λ z. IsKept l (ls z)) (sym num.0) v.0 in (
        own_kept w.labels (here lat g pc e) (ms i) h.0,
        here_kept,
        keeps ls c (i + 1) (k + 1) pc h.1 num.1 q.0,
        keeps ls p (i + 1 + count c) (k + 1 + mitigates c) pc h.2 num.2 q.1,
      )

-- the written levels are kept, by their marks
pub levels_kept : (ms : ℕ → Marks) (ls : ℕ → ℕ) (p : Plan) (i k : ℕ) → Keeps ms ls p i → AreNumbered k p → LevelsKept ls k p
levels_kept ms ls Done i k h num = tt
levels_kept ms ls (Skip w p) i k h num = levels_kept ms ls p (i + 1) k h.1 num
levels_kept ms ls (Assign w x e p) i k h num = levels_kept ms ls p (i + 1) k h.1 num
levels_kept ms ls (Put w f n j e p) i k h num = levels_kept ms ls p (i + 1) k h.1 num
levels_kept ms ls (Sleep w e p) i k h num = levels_kept ms ls p (i + 1) k h.1 num
levels_kept ms ls (If w e a b p) i k h num =
    let P : ℕ → Option Label → Type 0 = λ j l. IsKept l (ls j) in
    let la = length_levels a in
    let lb = length_levels b in
    from_both P (written_levels a) (written_levels b ++ written_levels p) k (k + mitigates a) (omega (arith, la)) (levels_kept ms ls a (i + 1) k h.1 num.0)
    (from_both P (written_levels b) (written_levels p) (k + mitigates a) (k + mitigates a + mitigates b) (omega (arith, lb))
    (levels_kept ms ls b (i + 1 + count a) (k + mitigates a) h.2 num.1)
    (levels_kept ms ls p (i + 1 + count a + count b) (k + mitigates a + mitigates b) h.3 num.2))
levels_kept ms ls (While w e c p) i k h num =
    let P : ℕ → Option Label → Type 0 = λ j l. IsKept l (ls j) in
    let lc = length_levels c in
    from_both P (written_levels c) (written_levels p) k (k + mitigates c) (omega (arith, lc)) (levels_kept ms ls c (i + 1) k h.1 num.0)
    (levels_kept ms ls p (i + 1 + count c) (k + mitigates c) h.2 num.1)
levels_kept ms ls (Mitigate w j l e c p) i k h num =
    let P : ℕ → Option Label → Type 0 = λ j l. IsKept l (ls j) in
    let lc = length_levels c in (
      subst (λ z. IsKept l (ls z)) num.0 h.1,
      from_both P (written_levels c) (written_levels p) (k + 1) (k + 1 + mitigates c) (omega (arith, lc)) (levels_kept ms ls c (i + 1) (k + 1) h.2 num.1)
          (levels_kept ms ls p (i + 1 + count c) (k + 1 + mitigates c) h.3 num.2),
    )
