-- The labels of variables, from those of the declarations.
use Rattle.std.proofs.Common.{◌≡◌, ℕ, ◌+◌, ◌-◌, ◌<◌, ◌≤◌, refl, sym, ap, ◌∙◌, subst, List, [], ◌∷◌, ◌++◌, length, length-append, append_assoc, append-nil}
use Rattle.std.proofs.Common.{take, drop, get_or, arith, ⊎_elim}
use Rattle.std.specs.Prelude.{Option, None, Some, replicate, unwrap_or, slice_get}
use Rattle.std.proofs.lemmas.Bool.{cases_lt}
use Rattle.std.proofs.lemmas.List.{get_or_append_left, get_or-append-add, get_or-replicate, length-replicate, drop_more, drop_all, take_all}
use Rattle.std.proofs.lemmas.Option.{slice_get_within, get_or_from_slice_get}
use Rattle.label_lattice.specs.declared.label.Label.{Label}
use Rattle.mit_syntax.specs.Declarations.{Declaration, Cell, cells_of, cells, variables, size_in, size_of}
use Rattle.mit_syntax.proofs.Numbers.{length-cells_of, cells_at}
use Rattle.timing_types.specs.Labelling.{label_at, IsKept}
use Rattle.type_cert.specs.Certificate.{spread, AllFit, FitsDeclaration}

pub length_spread : (ds : List Declaration) (ls : List Label) → length ls ≡ length ds → length (spread ds ls) ≡ variables ds
length_spread [] ls h = refl
length_spread (d ∷ ds) [] h = absurd (omega (arith, h))
length_spread (d ∷ ds) (l ∷ ls) h =
    let r = length_spread ds ls (omega (arith, h)) in
    let n = length-replicate (size_of d.1) l in
    let c = length-cells_of d.0 d.1.label d.1.length in
    let x = length-append (replicate (size_of d.1) l) (spread ds ls) in
    let y = length-append (cells_of d.0 d.1.label d.1.length) (cells ds) in
    omega (arith, r, n, c, x, y)

module _ (n : ℕ) where
  -- a place is one of the first declaration's, or one of the others
  first_there : (d : Declaration) (ds : List Declaration) (l : Label) (ls : List Label) (x : ℕ) (low : Label) → x < size_of d.1
      → get_or (spread (d ∷ ds) (l ∷ ls)) x low ≡ l
  first_there d ds l ls x low h =
      let m = length-replicate (size_of d.1) l in
      get_or_append_left (replicate (size_of d.1) l) (spread ds ls) low x (omega (arith, m, h)) ∙ get_or-replicate (size_of d.1) x l low h

  later_there : (d : Declaration) (ds : List Declaration) (l : Label) (ls : List Label) (x : ℕ) (low : Label) → size_of d.1 ≤ x →
      get_or (spread (d ∷ ds) (l ∷ ls)) x low ≡ get_or (spread ds ls) (x - size_of d.1) low
  later_there d ds l ls x low h =
      let m = length-replicate (size_of d.1) l in
      let e : x ≡ length (replicate (size_of d.1) l) + (x - size_of d.1) = omega (arith, m, h) in
      ap (λ z. get_or (replicate (size_of d.1) l ++ spread ds ls) z low) e ∙ get_or-append-add (replicate (size_of d.1) l) (spread ds ls) (x - size_of d.1) low

  pub spread_below : (ds : List Declaration) (ls : List Label) (b x : ℕ) → b < n → AllFit (FitsDeclaration n) ds ls → label_at b (spread ds ls) x < n
  spread_below [] ls b x hb h = hb
  spread_below (d ∷ ds) [] b x hb h = hb
  spread_below (d ∷ ds) (l ∷ ls) b x hb h =
      let low : Label = record { number = b } in
      ⊎_elim
      (λ (i : x < size_of d.1). subst (λ (z : Label). z.number < n) (sym (first_there d ds l ls x low i)) h.0.0)
      (λ (i : size_of d.1 ≤ x). subst (λ (z : Label). z.number < n) (sym (later_there d ds l ls x low i)) (spread_below ds ls b (x - size_of d.1) hb h.1))
      (cases_lt x (size_of d.1))

  pub spread_kept : (ds : List Declaration) (ls : List Label) (b x : ℕ) (c : Cell) → AllFit (FitsDeclaration n) ds ls
      → length ls ≡ length ds → x < variables ds →
      IsKept (get_or (cells ds) x c).label (label_at b (spread ds ls) x)
  spread_kept [] ls b x c h e i = absurd (omega (arith, i))
  spread_kept (d ∷ ds) [] b x c h e i = absurd (omega (arith, e))
  spread_kept (d ∷ ds) (l ∷ ls) b x c h e i =
      let low : Label = record { number = b } in
      let cd = cells_of d.0 d.1.label d.1.length in
      let m = length-cells_of d.0 d.1.label d.1.length in
      let y = length-append cd (cells ds) in
      ⊎_elim
      (λ (k : x < size_of d.1).
      let a : (get_or (cells (d ∷ ds)) x c).label ≡ d.1.label =
      ap (λ (z : Cell). z.label) (get_or_append_left cd (cells ds) c x (omega (arith, m, k)) ∙ cells_at d.0 d.1.label d.1.length x c k) in
      subst (λ z. IsKept z (label_at b (spread (d ∷ ds) (l ∷ ls)) x)) (sym a)
      (subst (λ (z : Label). IsKept d.1.label z.number) (sym (first_there d ds l ls x low k)) h.0.1))
      (λ (k : size_of d.1 ≤ x).
      let w : x ≡ length cd + (x - size_of d.1) = omega (arith, m, k) in
      let a : (get_or (cells (d ∷ ds)) x c).label ≡ (get_or (cells ds) (x - size_of d.1) c).label =
      ap (λ z. (get_or (cd ++ cells ds) z c).label) w ∙ ap (λ (z : Cell). z.label) (get_or-append-add cd (cells ds) (x - size_of d.1) c) in
      let r = spread_kept ds ls b (x - size_of d.1) c h.1 (omega (arith, e)) (omega (arith, i, m, y, k)) in
      subst (λ z. IsKept z (label_at b (spread (d ∷ ds) (l ∷ ls)) x)) (sym a)
      (subst (λ (z : Label). IsKept (get_or (cells ds) (x - size_of d.1) c).label z.number) (sym (later_there d ds l ls x low k)) r))
      (cases_lt x (size_of d.1))

-- the steps of making the labels of variables
pub size_is : (v : Option ℕ) → unwrap_or v 1 ≡ size_in v
size_is None = refl
size_is (Some n) = refl

pub spread_next : (ds : List Declaration) (ls all found new : List Label) (k size : ℕ) (d : Declaration) (l : Label) → slice_get ds k ≡ Some d → k < length ls
    → l ≡ get_or ls k l → size ≡ size_of d.1 →
    new ≡ found ++ replicate size l → all ≡ found ++ spread (drop k ds) (drop k ls) → all ≡ new ++ spread (drop (k + 1) ds) (drop (k + 1) ls)
spread_next ds ls all found new k size d l there h at es en so =
    let hd = slice_get_within ds k d there in
    let x : drop k ds ≡ d ∷ drop (k + 1) ds = drop_more ds k d hd ∙ ap (λ z. z ∷ drop (k + 1) ds) (get_or_from_slice_get ds k d d there) in
    let y : drop k ls ≡ l ∷ drop (k + 1) ls = drop_more ls k l h ∙ ap (λ z. z ∷ drop (k + 1) ls) (sym at) in
    let rest = spread (drop (k + 1) ds) (drop (k + 1) ls) in
    so ∙ ap (λ z. found ++ spread z (drop k ls)) x ∙ ap (λ z. found ++ spread (d ∷ drop (k + 1) ds) z) y ∙ ap (λ z. found ++ (replicate z l ++ rest)) (sym es)
    ∙ sym (append_assoc found (replicate size l) rest) ∙ ap (λ z. z ++ rest) (sym en)

pub spread_all : (ds : List Declaration) (ls all found : List Label) (k : ℕ) → length ds ≤ k → all ≡ found ++ spread (drop k ds) (drop k ls) → found ≡ all
spread_all ds ls all found k h so = sym (so ∙ ap (λ z. found ++ spread z (drop k ls)) (drop_all k ds h) ∙ append-nil found)

pub resized : (found : List Label) (n size len : ℕ) (l : Label) (new : List Label) → len ≡ length found → n ≡ len + size
    → new ≡ take n found ++ replicate (n - len) l → new ≡ found ++ replicate size l
resized found n size len l new el en is =
    let a : length found ≤ n = omega (arith, el, en) in
    let b : n - len ≡ size = omega (arith, en) in
    is ∙ ap (λ z. z ++ replicate (n - len) l) (take_all n found a) ∙ ap (λ z. found ++ replicate z l) b
