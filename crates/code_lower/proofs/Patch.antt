-- A jump forward is written after the instructions that it passes.
use Rattle.std.proofs.Common.{◌≡◌, ℕ, ◌+◌, List, [], ◌∷◌, ◌++◌, length, sym, ap, ◌∙◌, arith, append_assoc, append-nil, length-append}
use Rattle.std.specs.Prelude.{slice_set}
use Rattle.std.proofs.Math.Seq.{set-append_seam}
use Rattle.mit_syntax.specs.Expression.{Expression}
use Rattle.mit_syntax.specs.Todo.{Marks, Marked, Done, If, While, Mitigate}
use Rattle.label_lattice.specs.Lattice.{Lattice}
use Rattle.label_code.specs.declared.code.Instr.{Instr}
use Rattle.label_code.specs.declared.code.Work.TheVariants.{Brz, Brnz, Jmp, Mitb, Mite}
use Rattle.label_code.specs.Machine.{label, instr}
use Rattle.code_lower.specs.Layout.{expr_size, size, raised}
use Rattle.code_lower.specs.Code.{expr_code, code_of}
use Rattle.code_lower.proofs.Stands.{length-expr_code, length-code_of}

two_writes : (c a b : List Instr) (x y i j : Instr) → slice_set (slice_set (c ++ x ∷ (a ++ y ∷ b)) (length c) i) (length (c ++ i ∷ a)) j ≡ c ++ i ∷ (a ++ j ∷ b)
two_writes c a b x y i j =
    ap (λ l. slice_set l (length (c ++ i ∷ a)) j) (set-append_seam c x (a ++ y ∷ b) i ∙ sym (append_assoc c (i ∷ a) (y ∷ b)))
    ∙ set-append_seam (c ++ i ∷ a) y b j
    ∙ append_assoc c (i ∷ a) (j ∷ b)

module _ (lat : Lattice) (g : ℕ → ℕ) where
  pub if_emitted : (base : List Instr) (m : Marks) (e : Expression) (c d : Marked) (c1 c2 c3 c4 c5 : List Instr) (x y : Instr) (n1 n2 : ℕ) →
      c1 ≡ base ++ expr_code m e → n1 ≡ length c1 → c2 ≡ c1 ++ x ∷ [] → c3 ≡ c2 ++ code_of lat g c (length c2) → n2 ≡ length c3 → c4 ≡ c3 ++ y ∷ []
      → c5 ≡ c4 ++ code_of lat g d (length c4) →
      slice_set (slice_set c5 n1 (instr (Brz (n2 + 1)) m)) n2 (instr (Jmp (length c5)) (raised lat g e m)) ≡ base
      ++ code_of lat g (If m e c d Done) (length base)
  if_emitted base m e c d c1 c2 c3 c4 c5 x y n1 n2 e1 m1 e2 e3 m2 e4 e5 =
      let te = expr_code m e in
      let b = length base + expr_size e in
      let j = b + 1 + size c in
      let q = j + 1 + size d in
      let l1 : length c1 ≡ b = omega (arith, ap length e1, length-append base te, length-expr_code m e) in
      let l2 : length c2 ≡ b + 1 = omega (arith, ap length e2, length-append c1 (x ∷ [])) in
      let l3 : length c3 ≡ j = omega (arith, ap length e3, length-append c2 (code_of lat g c (length c2)), length-code_of lat g c (length c2)) in
      let l4 : length c4 ≡ j + 1 = omega (arith, ap length e4, length-append c3 (y ∷ [])) in
      let l5 : length c5 ≡ q = omega (arith, ap length e5, length-append c4 (code_of lat g d (length c4)), length-code_of lat g d (length c4)) in
      let ca = code_of lat g c (b + 1) in
      let cd = code_of lat g d (j + 1) in
      let f3 : c3 ≡ c2 ++ ca = e3 ∙ ap (λ z. c2 ++ code_of lat g c z) l2 in
      let f5 : c5 ≡ c4 ++ cd = e5 ∙ ap (λ z. c4 ++ code_of lat g d z) l4 in
      let i = instr (Brz (j + 1)) m in
      let k = instr (Jmp q) (raised lat g e m) in
      let all : c5 ≡ (((c1 ++ x ∷ []) ++ ca) ++ y ∷ []) ++ cd = cc in
      let flat : (((c1 ++ x ∷ []) ++ ca) ++ y ∷ []) ++ cd ≡ c1 ++ x ∷ (ca ++ y ∷ cd) = simp append_assoc in
      let len : length (c1 ++ i ∷ ca) ≡ j = omega (arith, length-append c1 (i ∷ ca), length-code_of lat g c (b + 1), l1) in
      let at2 : n2 ≡ length (c1 ++ i ∷ ca) = omega arith in
      let to : n2 + 1 ≡ j + 1 = omega arith in
      ap (λ z. slice_set (slice_set c5 n1 (instr (Brz z) m)) n2 (instr (Jmp (length c5)) (raised lat g e m))) to
      ∙ ap (λ z. slice_set (slice_set c5 n1 i) n2 (instr (Jmp z) (raised lat g e m))) l5
      ∙ ap (λ z. slice_set (slice_set z n1 i) n2 k) (all ∙ flat)
      ∙ ap (λ z. slice_set (slice_set (c1 ++ x ∷ (ca ++ y ∷ cd)) z i) n2 k) m1
      ∙ ap (λ z. slice_set (slice_set (c1 ++ x ∷ (ca ++ y ∷ cd)) (length c1) i) z k) at2
      ∙ two_writes c1 ca cd x y i k
      ∙ ap (λ z. z ++ i ∷ (ca ++ k ∷ cd)) e1
      ∙ append_assoc base te (i ∷ (ca ++ k ∷ cd))
      ∙ ap (λ z. base ++ (te ++ i ∷ (ca ++ k ∷ z))) (sym (append-nil cd))

  pub while_emitted : (base : List Instr) (m : Marks) (e : Expression) (c : Marked) (c1 c2 c3 c4 c5 : List Instr) (x : Instr) (n1 : ℕ) →
      c1 ≡ base ++ expr_code m e → n1 ≡ length c1 → c2 ≡ c1 ++ x ∷ [] → c3 ≡ c2 ++ code_of lat g c (length c2) → c4 ≡ c3 ++ expr_code (raised lat g e m) e
      → c5 ≡ c4 ++ instr (Brnz (n1 + 1)) (raised lat g e m) ∷ [] →
      slice_set c5 n1 (instr (Brz (length c5)) m) ≡ base ++ code_of lat g (While m e c Done) (length base)
  while_emitted base m e c c1 c2 c3 c4 c5 x n1 e1 m1 e2 e3 e4 e5 =
      let te = expr_code m e in
      let rm = raised lat g e m in
      let th = expr_code rm e in
      let b = length base + expr_size e in
      let t = b + 1 + size c in
      let q = t + expr_size e + 1 in
      let l1 : length c1 ≡ b = omega (arith, ap length e1, length-append base te, length-expr_code m e) in
      let l2 : length c2 ≡ b + 1 = omega (arith, ap length e2, length-append c1 (x ∷ [])) in
      let ca = code_of lat g c (b + 1) in
      let f3 : c3 ≡ c2 ++ ca = e3 ∙ ap (λ z. c2 ++ code_of lat g c z) l2 in
      let l3 : length c3 ≡ t = omega (arith, ap length f3, length-append c2 ca, length-code_of lat g c (b + 1)) in
      let l4 : length c4 ≡ t + expr_size e = omega (arith, ap length e4, length-append c3 th, length-expr_code rm e) in
      let to : n1 + 1 ≡ b + 1 = omega arith in
      let k = instr (Brnz (b + 1)) rm in
      let f5 : c5 ≡ c4 ++ k ∷ [] = e5 ∙ ap (λ z. c4 ++ instr (Brnz z) rm ∷ []) to in
      let l5 : length c5 ≡ q = omega (arith, ap length f5, length-append c4 (k ∷ [])) in
      let all : c5 ≡ (((c1 ++ x ∷ []) ++ ca) ++ th) ++ k ∷ [] = cc in
      let flat : (((c1 ++ x ∷ []) ++ ca) ++ th) ++ k ∷ [] ≡ c1 ++ x ∷ (ca ++ (th ++ k ∷ [])) = simp append_assoc in
      let i = instr (Brz q) m in
      ap (λ z. slice_set c5 n1 (instr (Brz z) m)) l5
      ∙ ap (λ z. slice_set z n1 i) (all ∙ flat)
      ∙ ap (λ z. slice_set (c1 ++ x ∷ (ca ++ (th ++ k ∷ []))) z i) m1
      ∙ set-append_seam c1 x (ca ++ (th ++ k ∷ [])) i
      ∙ ap (λ z. z ++ i ∷ (ca ++ (th ++ k ∷ []))) e1
      ∙ append_assoc base te (i ∷ (ca ++ (th ++ k ∷ [])))

  -- the lengths along the way
  pub expr_length : (base c1 : List Instr) (m : Marks) (e : Expression) → c1 ≡ base ++ expr_code m e → length c1 ≡ length base + expr_size e
  expr_length base c1 m e e1 = omega (arith, ap length e1, length-append base (expr_code m e), length-expr_code m e)

  pub put_length : (base c1 c2 : List Instr) (m : Marks) (e : Expression) (x : Instr) → c1 ≡ base ++ expr_code m e → c2 ≡ c1 ++ x ∷ []
      → length c2 ≡ length base + expr_size e + 1
  put_length base c1 c2 m e x e1 e2 =
      omega (arith, ap length e1, length-append base (expr_code m e), length-expr_code m e, ap length e2, length-append c1 (x ∷ []))

  pub code_length : (c2 c3 : List Instr) (p : Marked) → c3 ≡ c2 ++ code_of lat g p (length c2) → length c3 ≡ length c2 + size p
  code_length c2 c3 p e = omega (arith, ap length e, length-append c2 (code_of lat g p (length c2)), length-code_of lat g p (length c2))

  pub one_length : (c3 c4 : List Instr) (y : Instr) → c4 ≡ c3 ++ y ∷ [] → length c4 ≡ length c3 + 1
  one_length c3 c4 y e = omega (arith, ap length e, length-append c3 (y ∷ []))

  pub mitigate_emitted : (base : List Instr) (m : Marks) (k l : ℕ) (e : Expression) (c : Marked) (c1 c2 c3 c4 : List Instr) →
      c1 ≡ base ++ expr_code m e → c2 ≡ c1 ++ instr (Mitb (label l) k) m ∷ [] → c3 ≡ c2 ++ code_of lat g c (length c2) → c4 ≡ c3 ++ instr Mite m ∷ [] →
      c4 ≡ base ++ code_of lat g (Mitigate m k l e c Done) (length base)
  mitigate_emitted base m k l e c c1 c2 c3 c4 e1 e2 e3 e4 =
      let te = expr_code m e in
      let b = length base + expr_size e in
      let x = instr (Mitb (label l) k) m in
      let l2 : length c2 ≡ b + 1 = put_length base c1 c2 m e x e1 e2 in
      let ca = code_of lat g c (b + 1) in
      let f3 : c3 ≡ c2 ++ ca = e3 ∙ ap (λ z. c2 ++ code_of lat g c z) l2 in
      let y = instr Mite m in
      let all : c4 ≡ (((base ++ te) ++ x ∷ []) ++ ca) ++ y ∷ [] = cc in
      all ∙ simp append_assoc
