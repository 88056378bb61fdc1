-- The code as a list stands as the layout says.
use Rattle.std.proofs.Common.{◌≡◌, ℕ, ◌+◌, ◌<◌, List, [], ◌∷◌, ◌++◌, length, Some, refl, sym, ap, ◌∙◌, subst, arith, append_assoc, length-append}
use Rattle.std.specs.Prelude.{slice_get}
use Rattle.std.proofs.Math.Seq.{get_or-append_seam}
use Rattle.std.proofs.lemmas.Option.{slice_get-get_or}
use Rattle.mit_syntax.specs.Expression.{Expression}
use Rattle.mit_syntax.specs.Expression.{Number, Variable, Binary, Element}
use Rattle.label_code.specs.declared.code.Instr.{Instr}
use Rattle.label_code.specs.declared.code.Work.TheVariants.{Apply, Store, LoadAt, StoreAt, Brz, Brnz, Jmp, Sleep as SleepWork, Mitb, Mite, Nop, Halt}
use Rattle.mit_syntax.specs.Todo.{Marks, Marked, Done, Skip, Assign, Put, Sleep, If, While, Mitigate, then_todo}
use Rattle.label_lattice.specs.Lattice.{Lattice}
use Rattle.label_code.specs.Machine.{label, instr}
use Rattle.code_lower.specs.Layout.{Stands, expr_size, size, HasExpr, raised, HasCode, IsImage}
use Rattle.code_lower.specs.Code.{expr_code, code_of}

-- the instructions stand in the image at this place
abbrev HasAt : List Instr → ℕ → List Instr → Type 0
HasAt image a [] = Unit {0}
HasAt image a (i ∷ is) = (slice_get image a ≡ Some i) × HasAt image (a + 1) is

has_front : (image : List Instr) (a : ℕ) (is js : List Instr) → HasAt image a (is ++ js) → HasAt image a is
has_front image a [] js h = tt
has_front image a (i ∷ is) js h = (h.0, has_front image (a + 1) is js h.1)

has_back : (image : List Instr) (a : ℕ) (is js : List Instr) (n : ℕ) → length is ≡ n → HasAt image a (is ++ js) → HasAt image (a + n) js
has_back image a [] js n l h = let e : a ≡ a + n = omega (arith, l) in subst (λ z. HasAt image z js) e h
has_back image a (i ∷ is) js n l h =
    let e : a + 1 + length is ≡ a + n = omega (arith, l) in
    subst (λ z. HasAt image z js) e (has_back image (a + 1) is js (length is) refl h.1)

has_all : (is pre : List Instr) → HasAt (pre ++ is) (length pre) is
has_all [] pre = tt
has_all (i ∷ is) pre =
    let within : length pre < length (pre ++ i ∷ is) = omega (arith, length-append pre (i ∷ is)) in
    let here = slice_get-get_or (pre ++ i ∷ is) (length pre) i within ∙ ap Some (get_or-append_seam pre i is i) in
    let n : length (pre ++ i ∷ []) ≡ length pre + 1 = omega (arith, length-append pre (i ∷ [])) in
    let rest = subst (λ l. HasAt l (length (pre ++ i ∷ [])) is) (append_assoc pre (i ∷ []) is) (has_all is (pre ++ i ∷ [])) in
    (here, subst (λ m. HasAt (pre ++ i ∷ is) m is) n rest)

pub length-expr_code : (m : Marks) (e : Expression) → length (expr_code m e) ≡ expr_size e
length-expr_code m (Number n) = refl
length-expr_code m (Variable x) = refl
length-expr_code m (Binary o l r) =
    let t : List Instr = instr (Apply o) m ∷ [] in
    omega (arith, length-append (expr_code m l) (expr_code m r ++ t), length-append (expr_code m r) t, length-expr_code m l, length-expr_code m r)
length-expr_code m (Element f n i) =
    let t : List Instr = instr (LoadAt f n) m ∷ [] in omega (arith, length-append (expr_code m i) t, length-expr_code m i)

expr_stands : (image : List Instr) (m : Marks) (e : Expression) (a : ℕ) → HasAt image a (expr_code m e) → HasExpr image m e a
expr_stands image m (Number n) a h = h.0
expr_stands image m (Variable x) a h = h.0
expr_stands image m (Binary o l r) a h =
    let back = has_back image a (expr_code m l) _ (expr_size l) (length-expr_code m l) h in (
      expr_stands image m l a (has_front image a (expr_code m l) _ h),
      expr_stands image m r (a + expr_size l) (has_front image (a + expr_size l) (expr_code m r) _ back),
      (has_back image (a + expr_size l) (expr_code m r) _ (expr_size r) (length-expr_code m r) back).0,
    )
expr_stands image m (Element f n i) a h =
    (expr_stands image m i a (has_front image a (expr_code m i) _ h), (has_back image a (expr_code m i) _ (expr_size i) (length-expr_code m i) h).0)

-- where an expression's code and one more instruction stand, with what is below them
after_test : (image : List Instr) (m : Marks) (e : Expression) (i : Instr) (js : List Instr) (a : ℕ) → HasAt image a (expr_code m e ++ (i ∷ js))
    → HasExpr image m e a × (slice_get image (a + expr_size e) ≡ Some i) × HasAt image (a + expr_size e + 1) js
after_test image m e i js a h =
    let back = has_back image a (expr_code m e) (i ∷ js) (expr_size e) (length-expr_code m e) h in
    (expr_stands image m e a (has_front image a (expr_code m e) (i ∷ js) h), back.0, back.1)

module _ (lat : Lattice) (g : ℕ → ℕ) where
  pub length-code_of : (p : Marked) (a : ℕ) → length (code_of lat g p a) ≡ size p
  length-code_of Done a = refl
  length-code_of (Skip m r) a = omega (arith, length-code_of r (a + 1))
  length-code_of (Assign m x e r) a =
      let b = a + expr_size e in
      let t : List Instr = instr (Store x) m ∷ code_of lat g r (b + 1) in
      omega (arith, length-append (expr_code m e) t, length-expr_code m e, length-code_of r (b + 1))
  length-code_of (Put m f n i e r) a =
      let b = a + expr_size i + expr_size e in
      let t : List Instr = instr (StoreAt f n) m ∷ code_of lat g r (b + 1) in
      omega (
        arith,
        length-append (expr_code m i) (expr_code m e ++ t),
        length-append (expr_code m e) t,
        length-expr_code m i,
        length-expr_code m e,
        length-code_of r (b + 1),
      )
  length-code_of (Sleep m e r) a =
      let b = a + expr_size e in
      let t : List Instr = instr SleepWork m ∷ code_of lat g r (b + 1) in
      omega (arith, length-append (expr_code m e) t, length-expr_code m e, length-code_of r (b + 1))
  length-code_of (If m e c d r) a =
      let b = a + expr_size e in
      let j = b + 1 + size c in
      let q = j + 1 + size d in
      let cc_ = code_of lat g c (b + 1) in
      let cd = code_of lat g d (j + 1) in
      let cr = code_of lat g r q in
      let t2 : List Instr = instr (Jmp q) (raised lat g e m) ∷ (cd ++ cr) in
      let t1 : List Instr = instr (Brz (j + 1)) m ∷ (cc_ ++ t2) in
      omega (
        arith,
        length-append (expr_code m e) t1,
        length-append cc_ t2,
        length-append cd cr,
        length-expr_code m e,
        length-code_of c (b + 1),
        length-code_of d (j + 1),
        length-code_of r q,
      )
  length-code_of (While m e c r) a =
      let b = a + expr_size e in
      let t = b + 1 + size c in
      let q = t + expr_size e + 1 in
      let rm = raised lat g e m in
      let cc_ = code_of lat g c (b + 1) in
      let cr = code_of lat g r q in
      let t3 : List Instr = instr (Brnz (b + 1)) rm ∷ cr in
      let t2 : List Instr = expr_code rm e ++ t3 in
      let t1 : List Instr = instr (Brz q) m ∷ (cc_ ++ t2) in
      omega (
        arith,
        length-append (expr_code m e) t1,
        length-append cc_ t2,
        length-append (expr_code rm e) t3,
        length-expr_code m e,
        length-expr_code rm e,
        length-code_of c (b + 1),
        length-code_of r q,
      )
  length-code_of (Mitigate m k l e c r) a =
      let b = a + expr_size e in
      let j = b + 1 + size c in
      let cc_ = code_of lat g c (b + 1) in
      let cr = code_of lat g r (j + 1) in
      let t2 : List Instr = instr Mite m ∷ cr in
      let t1 : List Instr = instr (Mitb (label l) k) m ∷ (cc_ ++ t2) in
      omega (arith, length-append (expr_code m e) t1, length-append cc_ t2, length-expr_code m e, length-code_of c (b + 1), length-code_of r (j + 1))

  pub code_stands : (image : List Instr) (p : Marked) (a : ℕ) → HasAt image a (code_of lat g p a) → HasCode lat g image p a
  code_stands image Done a h = tt
  code_stands image (Skip m r) a h = (h.0, code_stands image r (a + 1) h.1)
  code_stands image (Assign m x e r) a h =
      let t = after_test image m e _ _ a h in (t.0, t.1, code_stands image r (a + expr_size e + 1) t.2)
  code_stands image (Put m f n i e r) a h =
      let x = has_back image a (expr_code m i) _ (expr_size i) (length-expr_code m i) h in
      let t = after_test image m e _ _ (a + expr_size i) x in
      (expr_stands image m i a (has_front image a (expr_code m i) _ h), t.0, t.1, code_stands image r (a + expr_size i + expr_size e + 1) t.2)
  code_stands image (Sleep m e r) a h =
      let t = after_test image m e _ _ a h in (t.0, t.1, code_stands image r (a + expr_size e + 1) t.2)
  code_stands image (If m e c d r) a h =
      let b = a + expr_size e in
      let j = b + 1 + size c in
      let q = j + 1 + size d in
      let t = after_test image m e _ _ a h in
      let x = has_back image (b + 1) (code_of lat g c (b + 1)) _ (size c) (length-code_of c (b + 1)) t.2 in
      let y = has_back image (j + 1) (code_of lat g d (j + 1)) _ (size d) (length-code_of d (j + 1)) x.1 in (
        t.0,
        t.1,
        code_stands image c (b + 1) (has_front image (b + 1) (code_of lat g c (b + 1)) _ t.2),
        x.0,
        code_stands image d (j + 1) (has_front image (j + 1) (code_of lat g d (j + 1)) _ x.1),
        code_stands image r q y,
      )
  code_stands image (While m e c r) a h =
      let b = a + expr_size e in
      let u = b + 1 + size c in
      let q = u + expr_size e + 1 in
      let t = after_test image m e _ _ a h in
      let x = has_back image (b + 1) (code_of lat g c (b + 1)) _ (size c) (length-code_of c (b + 1)) t.2 in
      let y = after_test image (raised lat g e m) e _ _ u x in
      (t.0, t.1, code_stands image c (b + 1) (has_front image (b + 1) (code_of lat g c (b + 1)) _ t.2), y.0, y.1, code_stands image r q y.2)
  code_stands image (Mitigate m k l e c r) a h =
      let b = a + expr_size e in
      let j = b + 1 + size c in
      let t = after_test image m e _ _ a h in
      let x = has_back image (b + 1) (code_of lat g c (b + 1)) _ (size c) (length-code_of c (b + 1)) t.2 in
      (t.0, t.1, code_stands image c (b + 1) (has_front image (b + 1) (code_of lat g c (b + 1)) _ t.2), x.0, code_stands image r (j + 1) x.1)

  -- a program's code and HALT
  pub image_is : (p : Marked) → IsImage lat g (code_of lat g p 0 ++ instr Halt (record { er = lat.bottom; ew = lat.bottom }) ∷ []) p
  image_is p =
      let code = code_of lat g p 0 in
      let halt : List Instr = instr Halt (record { er = lat.bottom; ew = lat.bottom }) ∷ [] in
      let all = has_all (code ++ halt) [] in
      let z : 0 + size p ≡ size p = omega arith in
      let back = has_back (code ++ halt) 0 code halt (size p) (length-code_of p 0) all in (
        code_stands (code ++ halt) p 0 (has_front (code ++ halt) 0 code halt all),
        subst (λ n. Stands (code ++ halt) n Halt (record { er = lat.bottom; ew = lat.bottom })) z back.0,
      )

  -- the code of one list after another
  pub code-then : (p q : Marked) (a : ℕ) → code_of lat g (then_todo p q) a ≡ code_of lat g p a ++ code_of lat g q (a + size p)
  code-then Done q a = let e : a ≡ a + 0 = omega arith in ap (code_of lat g q) e
  code-then (Skip m r) q a =
      let e : a + 1 + size r ≡ a + (1 + size r) = omega arith in
      ap (λ z. instr Nop m ∷ z) (code-then r q (a + 1) ∙ ap (λ z. code_of lat g r (a + 1) ++ code_of lat g q z) e)
  code-then (Assign m x e r) q a =
      let b = a + expr_size e + 1 in
      let s : b + size r ≡ a + size (Assign m x e r) = omega arith in
      ap (λ z. expr_code m e ++ (instr (Store x) m ∷ z)) (code-then r q b ∙ ap (λ z. code_of lat g r b ++ code_of lat g q z) s)
      ∙ sym (append_assoc (expr_code m e) (instr (Store x) m ∷ code_of lat g r b) _)
  code-then (Put m f n i e r) q a =
      let b = a + expr_size i + expr_size e + 1 in
      let s : b + size r ≡ a + size (Put m f n i e r) = omega arith in
      ap (λ z. expr_code m i ++ (expr_code m e ++ (instr (StoreAt f n) m ∷ z))) (code-then r q b ∙ ap (λ z. code_of lat g r b ++ code_of lat g q z) s)
      ∙ sym (simp append_assoc)
  code-then (Sleep m e r) q a =
      let b = a + expr_size e + 1 in
      let s : b + size r ≡ a + size (Sleep m e r) = omega arith in
      ap (λ z. expr_code m e ++ (instr SleepWork m ∷ z)) (code-then r q b ∙ ap (λ z. code_of lat g r b ++ code_of lat g q z) s)
      ∙ sym (append_assoc (expr_code m e) (instr SleepWork m ∷ code_of lat g r b) _)
  code-then (If m e c d r) q a =
      let b = a + expr_size e in
      let j = b + 1 + size c in
      let u = j + 1 + size d in
      let s : u + size r ≡ a + size (If m e c d r) = omega arith in
      ap (λ z. expr_code m e ++ (instr (Brz (j + 1)) m ∷ (code_of lat g c (b + 1) ++ (instr (Jmp u) (raised lat g e m) ∷ (code_of lat g d (j + 1) ++ z)))))
      (code-then r q u ∙ ap (λ z. code_of lat g r u ++ code_of lat g q z) s)
      ∙ sym (simp append_assoc)
  code-then (While m e c r) q a =
      let b = a + expr_size e in
      let t = b + 1 + size c in
      let u = t + expr_size e + 1 in
      let s : u + size r ≡ a + size (While m e c r) = omega arith in
      ap (λ z. expr_code m e ++ (instr (Brz u) m ∷ (code_of lat g c (b + 1)
      ++ (expr_code (raised lat g e m) e ++ (instr (Brnz (b + 1)) (raised lat g e m) ∷ z))))) (code-then r q u
      ∙ ap (λ z. code_of lat g r u ++ code_of lat g q z) s)
      ∙ sym (simp append_assoc)
  code-then (Mitigate m k l e c r) q a =
      let b = a + expr_size e in
      let j = b + 1 + size c in
      let s : j + 1 + size r ≡ a + size (Mitigate m k l e c r) = omega arith in
      ap (λ z. expr_code m e ++ (instr (Mitb (label l) k) m ∷ (code_of lat g c (b + 1) ++ (instr Mite m ∷ z)))) (code-then r q (j + 1)
      ∙ ap (λ z. code_of lat g r (j + 1) ++ code_of lat g q z) s)
      ∙ sym (simp append_assoc)
