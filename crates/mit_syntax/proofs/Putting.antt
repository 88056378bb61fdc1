-- One part after another.
use Rattle.std.proofs.Common.{◌≡◌, refl, subst, ap, ◌∙◌, List, [], ◌++◌, ℕ, zero, suc, ◌<◌, ◌-◌, sym, arith}
use Rattle.std.proofs.lemmas.Bool.{lt-ltb}
use Rattle.std.proofs.lemmas.List.{append-nil}
use Rattle.mit_syntax.specs.declared.ast.Op.{Op}
use Rattle.mit_syntax.specs.declared.token.Sign.{Sign}
use Rattle.mit_syntax.specs.declared.token.Sign.TheVariants.{LeftRound, RightRound, LeftSquare, RightSquare, Semicolon}
use Rattle.mit_syntax.specs.Chunks.{Chunk, text}
use Rattle.mit_syntax.specs.Declarations.{Declaration, cell_at}
use Rattle.mit_syntax.specs.Expression.{Expression, Binary, Element}
use Rattle.mit_syntax.specs.Operators.{op_sign, rank, left_need, right_need}
use Rattle.mit_syntax.specs.Layout.{Puts, a_sign, a_name, a_space, indent, new_line, separator, spaced, in_round, expression_part}

pub puts_then : {a b c : List ℕ} {f g : List Chunk → List Chunk} → Puts a b f → Puts b c g → Puts a c (λ q. f (g q))
puts_then {g} h k = record { is = λ q. k.is q ∙ h.is (g q) }

pub puts_none : (a : List ℕ) → Puts a a (λ q. q)
puts_none a = record { is = λ q. refl }

pub puts_indent : {a b c e : List ℕ} (d : ℕ) → 0 < d → Puts a b a_space → Puts b c a_space → Puts c e (indent (d - 1)) → Puts a e (indent d)
puts_indent zero h x y z = absurd (omega (arith, h))
puts_indent {c} {e} (suc d) h x y z =
    let same : suc d - 1 ≡ d = omega arith in
    let k : Puts c e (indent d) = subst (λ n. Puts c e (indent n)) same z in
    record { is = λ q. k.is q ∙ y.is (indent d q) ∙ x.is (a_space (indent d q)) }

pub puts_round : {a z : List ℕ} (ds : List Declaration) (need : ℕ) (o : Op) (l r : Expression) → rank o < need
    → Puts a z (λ q. a_sign LeftRound (expression_part ds (left_need o) l (spaced (op_sign o) (expression_part ds (right_need o) r (a_sign RightRound q)))))
    → Puts a z (expression_part ds need (Binary o l r))
puts_round {a} {z} ds need o l r h p =
    subst (λ b. Puts a z (in_round b (λ q. expression_part ds (left_need o) l (spaced (op_sign o) (expression_part ds (right_need o) r q)))))
    (sym (lt-ltb (rank o) need h)) p

-- the same part, from equal operands
pub expression_as : {a b : List ℕ} (ds : List Declaration) (m n : ℕ) (e f : Expression) → m ≡ n → e ≡ f → Puts a b (expression_part ds m e)
    → Puts a b (expression_part ds n f)
expression_as {a} {b} ds m n e f h k p = subst (λ x. Puts a b (expression_part ds n x)) k (subst (λ x. Puts a b (expression_part ds x e)) h p)

pub puts_binary : {a b c d f z : List ℕ} (ds : List Declaration) (need rk nl nr : ℕ) (s : Sign) (o : Op) (e l r l' r' : Expression)
    → e ≡ Binary o l r → rk ≡ rank o → rk < need → nl ≡ left_need o → s ≡ op_sign o → nr ≡ right_need o → l' ≡ l → r' ≡ r
    → Puts a b (a_sign LeftRound) → Puts b c (expression_part ds nl l') → Puts c d (spaced s) → Puts d f (expression_part ds nr r')
    → Puts f z (a_sign RightRound)
    → Puts a z (expression_part ds need e)
puts_binary {a} {c} {d} {z} ds need rk nl nr s o e l r l' r' h1 h2 h3 h4 h5 h6 h7 h8 p1 p2 p3 p4 p5 =
    subst (λ x. Puts a z (expression_part ds need x)) (sym h1)
    (puts_round ds need o l r (subst (λ x. x < need) h2 h3)
    (puts_then p1 (puts_then (expression_as ds nl (left_need o) l' l h4 h7 p2)
    (puts_then (subst (λ x. Puts c d (spaced x)) h5 p3) (puts_then (expression_as ds nr (right_need o) r' r h6 h8 p4) p5)))))

pub puts_element : {a b c d z : List ℕ} (ds : List Declaration) (need f n : ℕ) (w : List ℕ) (e i i' : Expression)
    → e ≡ Element f n i → w ≡ (cell_at ds f).name → i' ≡ i
    → Puts a b (a_name w) → Puts b c (a_sign LeftSquare) → Puts c d (expression_part ds 1 i') → Puts d z (a_sign RightSquare)
    → Puts a z (expression_part ds need e)
puts_element {a} {b} {z} ds need f n w e i i' h1 h2 h3 p1 p2 p3 p4 =
    subst (λ x. Puts a z (expression_part ds need x)) (sym h1)
    (puts_then (subst (λ x. Puts a b (a_name x)) h2 p1) (puts_then p2 (puts_then (expression_as ds 1 1 i' i refl h3 p3) p4)))

pub puts_separator : {a b c : List ℕ} (d i : ℕ) → 0 < i → Puts a b (a_sign Semicolon) → Puts b c (new_line d) → Puts a c (separator d i)
puts_separator d zero h x y = absurd (omega (arith, h))
puts_separator d (suc i) h x y = puts_then x y

-- a text from its chunks
pub whole_text : {a c : List ℕ} {f : List Chunk → List Chunk} → a ≡ [] → Puts a c f → c ≡ text (f [])
whole_text {c} {f} e k = sym (append-nil c) ∙ k.is [] ∙ ap (λ l. l ++ text (f [])) e
