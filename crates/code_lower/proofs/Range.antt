-- Variables and labels of a program's code are in range.
use Rattle.std.proofs.Common.{◌<◌, ◌+◌, ℕ, List, [], ◌∷◌, ◌++◌}
use Rattle.label_lattice.specs.Lattice.{Lattice}
use Rattle.mit_syntax.specs.Expression.{Expression, Number, Variable, Binary, Element}
use Rattle.mit_syntax.specs.Todo.{Marks, Done, Skip, Assign, Put, Sleep, If, While, Mitigate}
use Rattle.mit_syntax.specs.Plan.{Plan, count}
use Rattle.mit_syntax.specs.Declarations.{Declaration, variables}
use Rattle.mit_syntax.specs.Valid.{AreShaped, IsKnown, AreKnown}
use Rattle.mit_syntax.proofs.Facts.{scalar_below, array_below, array_some}
use Rattle.timing_types.specs.Typing.{label_of}
use Rattle.timing_types.specs.Placed.{bare, labelled}
use Rattle.label_code.specs.declared.code.Instr.{Instr}
use Rattle.label_code.specs.declared.code.Work.TheVariants.{Apply, LoadAt, Store, StoreAt, Brz, Brnz, Jmp, Sleep as SleepWork, Mitb, Mite, Halt}
use Rattle.label_code.specs.Machine.{label, instr}
use Rattle.code_lower.specs.Layout.{expr_size, size, raised}
use Rattle.code_lower.specs.Code.{expr_code, code_of, image_of}
use Rattle.code_lower.proofs.Program.{AllInRange}

range_both : (v n : ℕ) (xs ys : List Instr) → AllInRange v n xs → AllInRange v n ys → AllInRange v n (xs ++ ys)
range_both v n [] ys h k = k
range_both v n (x ∷ xs) ys h k = (h.0, range_both v n xs ys h.1 k)

-- both labels are below n
abbrev pub AreBelow : ℕ → Marks → Type 0
AreBelow n m = (m.er < n) × (m.ew < n)

module _ (ds : List Declaration) (shaped : AreShaped ds) (n : ℕ) where
  expr_range : (m : Marks) (e : Expression) → AreBelow n m → IsKnown ds e → AllInRange (variables ds) n (expr_code m e)
  expr_range m (Number x) h k = ((tt, h.0, h.1), tt)
  expr_range m (Variable x) h k = ((scalar_below ds k.0 x k.1, h.0, h.1), tt)
  expr_range m (Binary o l r) h k =
      range_both (variables ds) n (expr_code m l) (expr_code m r ++ instr (Apply o) m ∷ []) (expr_range m l h k.0)
      (range_both (variables ds) n (expr_code m r) (instr (Apply o) m ∷ []) (expr_range m r h k.1) ((tt, h.0, h.1), tt))
  expr_range m (Element f j i) h k =
      range_both (variables ds) n (expr_code m i) (instr (LoadAt f j) m ∷ []) (expr_range m i h k.1)
      (((array_some ds k.0.0 f j k.0.1 shaped, array_below ds k.0.0 f j k.0.1), h.0, h.1), tt)

  -- an expression's code, and code after it
  after : (m : Marks) (e : Expression) (is : List Instr) → AreBelow n m → IsKnown ds e → AllInRange (variables ds) n is
      → AllInRange (variables ds) n (expr_code m e ++ is)
  after m e is h k r = range_both (variables ds) n (expr_code m e) is (expr_range m e h k) r

  module _ (lat : Lattice) (g : ℕ → ℕ) (low : lat.bottom < n) (g_below : (x : ℕ) → g x < n) (closed : (a b : ℕ) → a < n → b < n → lat.join a b < n) where
    label_below : (e : Expression) → label_of lat g e < n
    label_below (Number x) = low
    label_below (Variable x) = g_below x
    label_below (Binary o l r) = closed (label_of lat g l) (label_of lat g r) (label_below l) (label_below r)
    label_below (Element f j i) = closed (g f) (label_of lat g i) (g_below f) (label_below i)

    raised_below : (e : Expression) (m : Marks) → AreBelow n m → AreBelow n (raised lat g e m)
    raised_below e m h = (closed m.er (label_of lat g e) h.0 (label_below e), closed m.ew (label_of lat g e) h.1 (label_below e))

    module _ (ms : ℕ → Marks) (ls : ℕ → ℕ) (ms_below : (i : ℕ) → AreBelow n (ms i)) (ls_below : (k : ℕ) → ls k < n) where
      code_range : (p : Plan) (i a : ℕ) → AreKnown n ds p → AllInRange (variables ds) n (code_of lat g (bare (labelled ms ls p i)) a)
      code_range Done i a h = tt
      code_range (Skip w p) i a h = let b = ms_below i in ((tt, b.0, b.1), code_range p (i + 1) (a + 1) h.1)
      code_range (Assign w x e p) i a h =
          let b = ms_below i in
          after (ms i) e (instr (Store x) (ms i) ∷ code_of lat g (bare (labelled ms ls p (i + 1))) (a + expr_size e + 1)) b h.2
          ((scalar_below ds h.1.0 x h.1.1, b.0, b.1), code_range p (i + 1) (a + expr_size e + 1) h.3)
      code_range (Put w f j x e p) i a h =
          let b = ms_below i in
          let r : List Instr = instr (StoreAt f j) (ms i) ∷ code_of lat g (bare (labelled ms ls p (i + 1))) (a + expr_size x + expr_size e + 1) in
          after (ms i) x (expr_code (ms i) e ++ r) b h.2
          (after (ms i) e r b h.3
          (((array_some ds h.1.0 f j h.1.1 shaped, array_below ds h.1.0 f j h.1.1), b.0, b.1), code_range p (i + 1) (a + expr_size x + expr_size e + 1) h.4))
      code_range (Sleep w e p) i a h =
          let b = ms_below i in
          after (ms i) e (instr SleepWork (ms i) ∷ code_of lat g (bare (labelled ms ls p (i + 1))) (a + expr_size e + 1)) b h.1
          ((tt, b.0, b.1), code_range p (i + 1) (a + expr_size e + 1) h.2)
      code_range (If w e c d p) i a h =
          let b = ms_below i in
          let rb = raised_below e (ms i) b in
          let s = a + expr_size e in
          let c' = bare (labelled ms ls c (i + 1)) in
          let d' = bare (labelled ms ls d (i + 1 + count c)) in
          let p' = bare (labelled ms ls p (i + 1 + count c + count d)) in
          let j = s + 1 + size c' in
          let q = j + 1 + size d' in
          let r3 : List Instr = code_of lat g d' (j + 1) ++ code_of lat g p' q in
          let r2 : List Instr = instr (Jmp q) (raised lat g e (ms i)) ∷ r3 in
          after (ms i) e (instr (Brz (j + 1)) (ms i) ∷ (code_of lat g c' (s + 1) ++ r2)) b h.1 (
            (tt, b.0, b.1),
            range_both (variables ds) n (code_of lat g c' (s + 1)) r2 (code_range c (i + 1) (s + 1) h.4) (
              (tt, rb.0, rb.1),
              range_both (variables ds) n (code_of lat g d' (j + 1)) (code_of lat g p' q) (code_range d (i + 1 + count c) (j + 1) h.5)
                  (code_range p (i + 1 + count c + count d) q h.6),
            ),
          )
      code_range (While w e c p) i a h =
          let b = ms_below i in
          let rb = raised_below e (ms i) b in
          let s = a + expr_size e in
          let c' = bare (labelled ms ls c (i + 1)) in
          let p' = bare (labelled ms ls p (i + 1 + count c)) in
          let t = s + 1 + size c' in
          let q = t + expr_size e + 1 in
          let r3 : List Instr = instr (Brnz (s + 1)) (raised lat g e (ms i)) ∷ code_of lat g p' q in
          let r2 : List Instr = expr_code (raised lat g e (ms i)) e ++ r3 in
          after (ms i) e (instr (Brz q) (ms i) ∷ (code_of lat g c' (s + 1) ++ r2)) b h.1 (
            (tt, b.0, b.1),
            range_both (variables ds) n (code_of lat g c' (s + 1)) r2 (code_range c (i + 1) (s + 1) h.3)
                (after (raised lat g e (ms i)) e r3 rb h.1 ((tt, rb.0, rb.1), code_range p (i + 1 + count c) q h.4)),
          )
      code_range (Mitigate w k l e c p) i a h =
          let b = ms_below i in
          let s = a + expr_size e in
          let c' = bare (labelled ms ls c (i + 1)) in
          let p' = bare (labelled ms ls p (i + 1 + count c)) in
          let j = s + 1 + size c' in
          let r2 : List Instr = instr Mite (ms i) ∷ code_of lat g p' (j + 1) in
          after (ms i) e (instr (Mitb (label (ls k)) k) (ms i) ∷ (code_of lat g c' (s + 1) ++ r2)) b h.2 (
            (ls_below k, b.0, b.1),
            range_both (variables ds) n (code_of lat g c' (s + 1)) r2 (code_range c (i + 1) (s + 1) h.4)
                ((tt, b.0, b.1), code_range p (i + 1 + count c) (j + 1) h.5),
          )

      pub image_range : (p : Plan) (i : ℕ) → AreKnown n ds p → AllInRange (variables ds) n (image_of lat g (bare (labelled ms ls p i)))
      image_range p i h =
          range_both (variables ds) n (code_of lat g (bare (labelled ms ls p i)) 0) (instr Halt (record { er = lat.bottom; ew = lat.bottom }) ∷ [])
          (code_range p i 0 h) ((tt, low, low), tt)
