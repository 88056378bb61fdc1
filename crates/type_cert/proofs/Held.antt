-- The lines of a walk hold the labelling that is walked.
use Rattle.std.proofs.Common.{◌≡◌, ℕ, suc, ◌+◌, ◌-◌, ◌<◌, ◌≤◌, refl, sym, ap, ◌∙◌, subst, List, [], ◌∷◌, ◌++◌, length, length-append, take, get_or, map}
use Rattle.std.proofs.Common.{arith, ⊎_elim}
use Rattle.std.specs.Prelude.{Option, None, Some, replicate}
use Rattle.std.proofs.lemmas.Bool.{cases_lt}
use Rattle.std.proofs.lemmas.List.{get_or_append_left, get_or-append-add, get_or-replicate, length-replicate, take_more, map_more}
use Rattle.std.proofs.lemmas.List.Elements.{All-head, All-tail}
use Rattle.label_lattice.specs.declared.label.Label.{Label}
use Rattle.label_lattice.specs.Lattice.{Lattice}
use Rattle.mit_syntax.specs.Todo.{Marks, Done, Skip, Assign, Put, Sleep, If, While, Mitigate}
use Rattle.mit_syntax.specs.Plan.{Plan, count, mitigates}
use Rattle.mit_syntax.specs.Declarations.{Declaration, Cell, cells_of, cells, variables, size_in, size_of}
use Rattle.mit_syntax.specs.Valid.{IsShaped, AreShaped, AreNumbered}
use Rattle.mit_syntax.proofs.Numbers.{length-cells_of, cells_at}
use Rattle.timing_types.specs.Typing.{label_of, index_label}
use Rattle.timing_types.specs.Walk.{demand, put_index, after, loop_start, walk_end}
use Rattle.timing_types.specs.Placed.{placed, labelled}
use Rattle.timing_types.specs.Labelling.{label_at, IsKept}
use Rattle.label_infer.specs.Given.{AllFrom}
use Rattle.label_infer.proofs.Placed.{from_both}
use Rattle.type_cert.specs.declared.line.Line.{Line}
use Rattle.type_cert.specs.Places.{label}
use Rattle.type_cert.specs.Certificate.{spread, before, levels_in, AllFit, FitsDeclaration}
use Rattle.type_cert.specs.Contents.{pc_before, pcs_in}
use Rattle.type_cert.specs.Derived.{declared_labels, derived}
use Rattle.type_cert.proofs.Complete.{length_derived}

-- ---- the labels of declarations

pub length_declared : (g : ℕ → ℕ) (x : ℕ) (ds : List Declaration) → length (declared_labels g x ds) ≡ length ds
length_declared g x [] = refl
length_declared g x (d ∷ ds) = ap suc (length_declared g (x + size_of d.1) ds)

some_size : (l : Option Label) (n : Option ℕ) → IsShaped l n → 0 < size_in n
some_size l None h = omega arith
some_size None (Some n) h = absurd h
some_size (Some l) (Some n) h = h

-- the elements of one declaration have one label
one_kept : (l : Option Label) (n : Option ℕ) (k x y : ℕ) → IsShaped l n → k < size_in n → IsKept l x → IsKept l y → (k ≡ 0 → x ≡ y) → x ≡ y
one_kept None None k x y h i kx ky f = f (omega (arith, i))
one_kept None (Some n) k x y h i kx ky f = absurd h
one_kept (Some l) n k x y h i kx ky f = kx ∙ sym ky

module _ (n b : ℕ) (all : List Label) where
  abbrev low : Label
  low = record { number = b }

  abbrev g : ℕ → ℕ
  g = label_at b all

  abbrev Kept : List Declaration → ℕ → Type 0
  Kept ds x = (y : ℕ) → y < variables ds → (c : Cell) → IsKept (get_or (cells ds) y c).label (g (x + y))

  kept_here : (d : Declaration) (ds : List Declaration) (x k : ℕ) → Kept (d ∷ ds) x → k < size_of d.1 → IsKept d.1.label (g (x + k))
  kept_here d ds x k h i =
      let cd = cells_of d.0 d.1.label d.1.length in
      let m = length-cells_of d.0 d.1.label d.1.length in
      let c : Cell = record { name = []; label = None; place = None } in
      let y = length-append cd (cells ds) in
      let a : (get_or (cells (d ∷ ds)) k c).label ≡ d.1.label =
      ap (λ (z : Cell). z.label) (get_or_append_left cd (cells ds) c k (omega (arith, m, i)) ∙ cells_at d.0 d.1.label d.1.length k c i) in
      subst (λ z. IsKept z (g (x + k))) a (h k (omega (arith, m, i, y)) c)

  kept_later : (d : Declaration) (ds : List Declaration) (x : ℕ) → Kept (d ∷ ds) x → Kept ds (x + size_of d.1)
  kept_later d ds x h y i c =
      let cd = cells_of d.0 d.1.label d.1.length in
      let m = length-cells_of d.0 d.1.label d.1.length in
      let l = length-append cd (cells ds) in
      let e : size_of d.1 + y ≡ length cd + y = omega (arith, m) in
      let a : get_or (cells (d ∷ ds)) (size_of d.1 + y) c ≡ get_or (cells ds) y c =
      ap (λ z. get_or (cd ++ cells ds) z c) e ∙ get_or-append-add cd (cells ds) y c in
      let f : x + (size_of d.1 + y) ≡ x + size_of d.1 + y = omega arith in
      subst (λ z. IsKept (get_or (cells ds) y c).label (g z)) f
      (subst (λ (z : Cell). IsKept z.label (g (x + (size_of d.1 + y)))) a (h (size_of d.1 + y) (omega (arith, m, i, l)) c))

  pub declared_fit : (ds : List Declaration) (x : ℕ) → AreShaped ds → ((y : ℕ) → g y < n) → Kept ds x → AllFit (FitsDeclaration n) ds (declared_labels g x ds)
  declared_fit [] x sh gb h = tt
  declared_fit (d ∷ ds) x sh gb h =
      let shape = All-head (λ (z : Declaration). IsShaped z.1.label z.1.length) d ds sh in
      let z : x + 0 ≡ x = omega arith in (
        (gb x, subst (λ v. IsKept d.1.label (g v)) z (kept_here d ds x 0 h (some_size d.1.label d.1.length shape))),
        declared_fit ds (x + size_of d.1) (All-tail (λ (z : Declaration). IsShaped z.1.label z.1.length) d ds sh) gb (kept_later d ds x h),
      )

  -- the labels of the declarations give back those of the variables, one by one
  pub spread_at : (ds : List Declaration) (x k : ℕ) → AreShaped ds → Kept ds x → k < variables ds
      → (get_or (spread ds (declared_labels g x ds)) k low).number ≡ g (x + k)
  spread_at [] x k sh h i = absurd (omega (arith, i))
  spread_at (d ∷ ds) x k sh h i =
      let shape = All-head (λ (z : Declaration). IsShaped z.1.label z.1.length) d ds sh in
      let l = label (g x) in
      let size = size_of d.1 in
      let rest = spread ds (declared_labels g (x + size) ds) in
      let m = length-replicate size l in
      let mc = length-cells_of d.0 d.1.label d.1.length in
      let lc = length-append (cells_of d.0 d.1.label d.1.length) (cells ds) in
      ⊎_elim
      (λ (j : k < size).
      let e : get_or (replicate size l ++ rest) k low ≡ l =
      get_or_append_left (replicate size l) rest low k (omega (arith, m, j)) ∙ get_or-replicate size k l low j in
      let z : x + 0 ≡ x = omega arith in
      let first = subst (λ v. IsKept d.1.label (g v)) z (kept_here d ds x 0 h (omega (arith, j))) in
      ap (λ (v : Label). v.number) e ∙ one_kept d.1.label d.1.length k (g x) (g (x + k)) shape j first (kept_here d ds x k h j)
      (λ f. ap (λ v. g v) (omega (arith, f))))
      (λ (j : size ≤ k).
      let e : k ≡ length (replicate size l) + (k - size) = omega (arith, m, j) in
      let w : x + size + (k - size) ≡ x + k = omega (arith, j) in
      ap (λ v. (get_or (replicate size l ++ rest) v low).number) e ∙ ap (λ (v : Label). v.number) (get_or-append-add (replicate size l) rest (k - size) low)
      ∙ spread_at ds (x + size) (k - size) (All-tail (λ (z : Declaration). IsShaped z.1.label z.1.length) d ds sh) (kept_later d ds x h)
      (omega (arith, i, mc, lc, j)) ∙ ap g w)
      (cases_lt k size)

-- ---- the labels of commands, and the levels

pub levels-append : (xs ys : List Line) → levels_in (xs ++ ys) ≡ levels_in xs ++ levels_in ys
levels-append [] ys = refl
levels-append (x ∷ xs) ys = go x.level (levels-append xs ys)
  where
    go : (v : Option Label) → levels_in (xs ++ ys) ≡ levels_in xs ++ levels_in ys → before v (levels_in (xs ++ ys)) ≡ before v (levels_in xs) ++ levels_in ys
    go None h = h
    go (Some l) h = ap (λ z. l ∷ z) h

module _ (lat : Lattice) (g : ℕ → ℕ) (ms : ℕ → Marks) (ls : ℕ → ℕ) where
  abbrev D : Plan → ℕ → ℕ → ℕ → List Line
  D p i pc t = derived lat g (labelled ms ls p i) pc t

  abbrev W : Plan → ℕ → ℕ → ℕ → ℕ
  W p i pc t = walk_end lat g (labelled ms ls p i) pc t

  abbrev pub HasMarks : ℕ → Line → Type 0
  HasMarks j x = (x.read ≡ label (ms j).er) × (x.write ≡ label (ms j).ew)

  pub lines_marked : (p : Plan) (i pc t : ℕ) → AllFrom HasMarks i (D p i pc t)
  lines_marked Done i pc t = tt
  lines_marked (Skip w p) i pc t = ((refl, refl), lines_marked p (i + 1) pc _)
  lines_marked (Assign w x e p) i pc t = ((refl, refl), lines_marked p (i + 1) pc _)
  lines_marked (Put w f n j e p) i pc t = ((refl, refl), lines_marked p (i + 1) pc _)
  lines_marked (Sleep w e p) i pc t = ((refl, refl), lines_marked p (i + 1) pc _)
  lines_marked (If w e a b p) i pc t =
      let inner = lat.join pc (label_of lat g e) in
      let start = after lat g t (placed ms w i) e in
      let ib = i + 1 + count a in
      let ip = i + 1 + count a + count b in
      let end = lat.join (W a (i + 1) inner start) (W b ib inner start) in
      let na = length_derived lat g ms ls a (i + 1) inner start in
      let nb = length_derived lat g ms ls b ib inner start in (
        (refl, refl),
        from_both HasMarks (D a (i + 1) inner start) (D b ib inner start ++ D p ip pc end) (i + 1) ib (omega (arith, na)) (lines_marked a (i + 1) inner start)
            (from_both HasMarks (D b ib inner start) (D p ip pc end) ib ip (omega (arith, nb)) (lines_marked b ib inner start) (lines_marked p ip pc end)),
      )
  lines_marked (While w e d p) i pc t =
      let inner = lat.join pc (label_of lat g e) in
      let end = W d (i + 1) inner (loop_start lat g t (placed ms w i) e) in
      let ip = i + 1 + count d in
      let nd = length_derived lat g ms ls d (i + 1) inner end in (
        (refl, refl),
        from_both HasMarks (D d (i + 1) inner end) (D p ip pc end) (i + 1) ip (omega (arith, nd))
            (lines_marked d (i + 1) inner end) (lines_marked p ip pc end),
      )
  lines_marked (Mitigate w k l e d p) i pc t =
      let start = after lat g t (placed ms w i) e in
      let ip = i + 1 + count d in
      let nd = length_derived lat g ms ls d (i + 1) pc start in (
        (refl, refl),
        from_both HasMarks (D d (i + 1) pc start) (D p ip pc start) (i + 1) ip (omega (arith, nd)) (lines_marked d (i + 1) pc start)
            (lines_marked p ip pc start),
      )

  abbrev pub HasLevelAt : ℕ → Label → Type 0
  HasLevelAt k l = l ≡ label (ls k)

  pub record Levelled (xs : List Line) (k n : ℕ) : Type 0 where
    pub have : AllFrom HasLevelAt k (levels_in xs)
    pub count : length (levels_in xs) ≡ n

  both_levels : (xs ys : List Line) (k m n r : ℕ) → Levelled xs k m → Levelled ys (k + m) n → r ≡ m + n → Levelled (xs ++ ys) k r
  both_levels xs ys k m n r h j e =
      let e1 = levels-append xs ys in
      let l = length-append (levels_in xs) (levels_in ys) in
      let cx = h.count in
      let cy = j.count in
      record {
        have = subst (λ z. AllFrom HasLevelAt k z) (sym e1) (from_both HasLevelAt (levels_in xs) (levels_in ys) k (k + m) (omega (arith, cx)) h.have j.have);
        count = ap length e1 ∙ l ∙ omega (arith, cx, cy, e);
      }

  pub lines_levelled : (p : Plan) (i k pc t : ℕ) → AreNumbered k p → Levelled (D p i pc t) k (mitigates p)
  lines_levelled Done i k pc t num = record { have = tt; count = refl }
  lines_levelled (Skip w p) i k pc t num = let q = lines_levelled p (i + 1) k pc (lat.join t (ms i).er) num in record { have = q.have; count = q.count }
  lines_levelled (Assign w x e p) i k pc t num =
      let q = lines_levelled p (i + 1) k pc (lat.join (g x) (demand lat pc t (placed ms w i) (label_of lat g e) (index_label lat g e))) num in
      record { have = q.have; count = q.count }
  lines_levelled (Put w f n j e p) i k pc t num =
      let q = lines_levelled p (i + 1) k pc (lat.join (g f) (demand lat pc t (placed ms w i) (label_of lat g e) (put_index lat g j e))) num in
      record { have = q.have; count = q.count }
  lines_levelled (Sleep w e p) i k pc t num = let q = lines_levelled p (i + 1) k pc (after lat g t (placed ms w i) e) num in
      record { have = q.have; count = q.count }
  lines_levelled (If w e a b p) i k pc t num =
      let inner = lat.join pc (label_of lat g e) in
      let start = after lat g t (placed ms w i) e in
      let ib = i + 1 + count a in
      let ip = i + 1 + count a + count b in
      let end = lat.join (W a (i + 1) inner start) (W b ib inner start) in
      let qa = lines_levelled a (i + 1) k inner start num.0 in
      let qb = lines_levelled b ib (k + mitigates a) inner start num.1 in
      let qp = lines_levelled p ip (k + mitigates a + mitigates b) pc end num.2 in
      let q2 = both_levels (D b ib inner start) (D p ip pc end) (k + mitigates a) (mitigates b) (mitigates p) (mitigates b + mitigates p) qb qp refl in
      let q =
      both_levels (D a (i + 1) inner start) (D b ib inner start ++ D p ip pc end) k (mitigates a) (mitigates b + mitigates p)
      (mitigates a + mitigates b + mitigates p) qa q2 (omega arith) in
      record { have = q.have; count = q.count }
  lines_levelled (While w e d p) i k pc t num =
      let inner = lat.join pc (label_of lat g e) in
      let end = W d (i + 1) inner (loop_start lat g t (placed ms w i) e) in
      let ip = i + 1 + count d in
      let qd = lines_levelled d (i + 1) k inner end num.0 in
      let qp = lines_levelled p ip (k + mitigates d) pc end num.1 in
      let q = both_levels (D d (i + 1) inner end) (D p ip pc end) k (mitigates d) (mitigates p) (mitigates d + mitigates p) qd qp refl in
      record { have = q.have; count = q.count }
  lines_levelled (Mitigate w j l e d p) i k pc t num =
      let start = after lat g t (placed ms w i) e in
      let ip = i + 1 + count d in
      let qd = lines_levelled d (i + 1) (k + 1) pc start num.1 in
      let qp = lines_levelled p ip (k + 1 + mitigates d) pc start num.2 in
      let q = both_levels (D d (i + 1) pc start) (D p ip pc start) (k + 1) (mitigates d) (mitigates p) (mitigates d + mitigates p) qd qp refl in
      let qc = q.count in
      record { have = (ap (λ v. label (ls v)) num.0, q.have); count = omega (arith, qc) }

-- one more line
pub levels_more : (xs : List Line) (i : ℕ) (d : Line) → i < length xs → levels_in (take (i + 1) xs) ≡ levels_in (take i xs) ++ before (get_or xs i d).level []
levels_more xs i d h = ap levels_in (take_more xs i d h) ∙ levels-append (take i xs) (get_or xs i d ∷ [])

pcs-append : (xs ys : List Line) → pcs_in (xs ++ ys) ≡ pcs_in xs ++ pcs_in ys
pcs-append [] ys = refl
pcs-append (x ∷ xs) ys = go x.level (pcs-append xs ys)
  where
    go : (v : Option Label) → pcs_in (xs ++ ys) ≡ pcs_in xs ++ pcs_in ys → pc_before v x.pc (pcs_in (xs ++ ys)) ≡ pc_before v x.pc (pcs_in xs) ++ pcs_in ys
    go None h = h
    go (Some l) h = ap (λ z. x.pc ∷ z) h

pub pcs_more : (xs : List Line) (i : ℕ) (d : Line) → i < length xs
    → pcs_in (take (i + 1) xs) ≡ pcs_in (take i xs) ++ pc_before (get_or xs i d).level (get_or xs i d).pc []
pcs_more xs i d h = ap pcs_in (take_more xs i d h) ∙ pcs-append (take i xs) (get_or xs i d ∷ [])

pub commands_step : (xs : List Line) (i : ℕ) (d : Line) (old new : List (Label × Label)) → i < length xs
    → old ≡ map (λ (x : Line). (x.read, x.write)) (take i xs) →
    new ≡ old ++ ((get_or xs i d).read, (get_or xs i d).write) ∷ [] → new ≡ map (λ (x : Line). (x.read, x.write)) (take (i + 1) xs)
commands_step xs i d old new h e n =
    n ∙ ap (λ z. z ++ ((get_or xs i d).read, (get_or xs i d).write) ∷ []) e ∙ sym (map_more (λ (x : Line). (x.read, x.write)) xs i d h)

pub levels_step : (xs : List Line) (i : ℕ) (d : Line) (old new : List Label) → i < length xs → old ≡ levels_in (take i xs)
    → new ≡ old ++ before (get_or xs i d).level [] → new ≡ levels_in (take (i + 1) xs)
levels_step xs i d old new h e n = n ∙ ap (λ z. z ++ before (get_or xs i d).level []) e ∙ sym (levels_more xs i d h)

pub pcs_step : (xs : List Line) (i : ℕ) (d : Line) (old new : List Label) → i < length xs → old ≡ pcs_in (take i xs)
    → new ≡ old ++ pc_before (get_or xs i d).level (get_or xs i d).pc [] → new ≡ pcs_in (take (i + 1) xs)
pcs_step xs i d old new h e n = n ∙ ap (λ z. z ++ pc_before (get_or xs i d).level (get_or xs i d).pc []) e ∙ sym (pcs_more xs i d h)
