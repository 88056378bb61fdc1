-- In the canonical text no two lexemes touch that could merge.
use Rattle.std.proofs.Common.{◌≡◌, refl, ℕ, zero, suc, ◌+◌, ◌<◌, ◌≤◌, List, [], ◌∷◌, Bool, true, false, Option, Some, None}
use Rattle.std.specs.Prelude.{ltb, pos, negsuc}
use Rattle.label_lattice.specs.declared.label.Label.{Label}
use Rattle.label_lattice.specs.Names.{IsName}
use Rattle.label_lattice.specs.Order.{Order, name_of}
use Rattle.mit_syntax.specs.declared.ast.Op.{Op}
use Rattle.mit_syntax.specs.declared.ast.Op.TheVariants.{Add}
use Rattle.mit_syntax.specs.declared.token.Keyword.TheVariants.{Else, Then, Do}
use Rattle.mit_syntax.specs.declared.token.Sign.TheVariants.{Assign as AssignSign, Semicolon, RightRound, RightBrace, RightSquare}
use Rattle.mit_syntax.specs.Chunks.{Chunk, space, line}
use Rattle.mit_syntax.specs.Expression.{Expression, Number, Variable, Binary, Element}
use Rattle.mit_syntax.specs.Operators.{op_sign, rank, left_need, right_need}
use Rattle.mit_syntax.specs.Todo.{Done, Skip, Assign, Put, Sleep, If, While, Mitigate}
use Rattle.mit_syntax.specs.Plan.{Plan}
use Rattle.mit_syntax.specs.Declarations.{Declaration, cell_at}
use Rattle.mit_syntax.specs.Valid.{IsBelow, AreMarksBelow, IsScalar, IsDeclaredArray, IsKnown, AreSome, AreKnown}
use Rattle.mit_syntax.specs.Layout.{Part, a_sign, a_name, spaced, spaced_key, in_round, expression_part, marks_part, level_part, indent, new_line}
use Rattle.mit_syntax.specs.Layout.{in_braces, after, commands_part, end_line, listed, more_listed, pair_part, labels_part, order_part, length_part}
use Rattle.mit_syntax.specs.Layout.{label_part, declaration_part, declarations_part, chunks_of}
use Rattle.parse_laws.proofs.Numerals.{number_kind}
use Rattle.parse_laws.proofs.Apart.{opens_no_word, opens_calm, Apart}

-- may stand behind any lexeme
abbrev pub IsShut : List Chunk → Type 0
IsShut q = (opens_no_word q ≡ true) × (opens_calm q ≡ true) × Apart q

-- may stand behind a sign
abbrev IsCalmly : List Chunk → Type 0
IsCalmly q = Apart q × (opens_calm q ≡ true)

-- each of a list
abbrev pub Every : {X : Type 0} → (X → Type 0) → List X → Type 0
Every P [] = Unit {0}
Every P (x ∷ xs) = P x × Every P xs

op_apart : (o : Op) (q : List Chunk) → Apart q → Apart (spaced (op_sign o) q)
op_apart Add q a = (refl, refl, a)
op_apart o q a = (refl, refl, a)

round_apart : (b : Bool) (f : List Chunk → List Chunk) → ((q : List Chunk) → IsShut q → IsCalmly (f q)) → (q : List Chunk)
    → IsShut q → IsCalmly (in_round b f q)
round_apart true f h q c = let k = h (a_sign RightRound q) (refl, refl, (refl, c.1, c.2)) in ((refl, k.1, k.0), refl)
round_apart false f h q c = h q c

indent_apart : (d : ℕ) (q : List Chunk) → Apart q → Apart (indent d q)
indent_apart zero q a = a
indent_apart (suc d) q a = indent_apart d q a

new_line_shut : (d : ℕ) (q : List Chunk) → Apart q → IsShut (new_line d q)
new_line_shut d q a = (refl, refl, indent_apart d q a)

semicolon_shut : (d : ℕ) (q : List Chunk) → Apart q → IsShut (a_sign Semicolon (new_line d q))
semicolon_shut d q a = (refl, refl, (refl, refl, indent_apart d q a))

end_line_shut : (q : List Chunk) → Apart q → IsShut (end_line q)
end_line_shut q a = (refl, refl, (refl, refl, a))

braces_apart : (d : ℕ) (f : List Chunk → List Chunk) → ((q : List Chunk) → IsShut q → Apart (f q)) → (q : List Chunk) → opens_calm q ≡ true
    → Apart q → Apart (in_braces d f q)
braces_apart d f h q c a = (refl, refl, indent_apart (d + 1) _ (h (new_line d (a_sign RightBrace q)) (new_line_shut d _ (refl, c, a))))

module _ {X : Type 0} (part : X → Part) (P : X → Type 0) (h : (x : X) → P x → (q : List Chunk) → IsShut q → Apart (part x q)) where
  more_listed_shut : (xs : List X) → Every P xs → (q : List Chunk) → IsShut q → IsShut (more_listed part xs q)
  more_listed_shut [] k q c = c
  more_listed_shut (x ∷ xs) k q c = (refl, refl, (refl, refl, h x k.0 _ (more_listed_shut xs k.1 q c)))

  listed_apart : (xs : List X) → Every P xs → (q : List Chunk) → IsShut q → Apart (listed part xs q)
  listed_apart [] k q c = c.2
  listed_apart (x ∷ xs) k q c = h x k.0 _ (more_listed_shut xs k.1 q c)

name_apart : (w : List ℕ) → IsName w → (q : List Chunk) → IsShut q → Apart (a_name w q)
name_apart w h q c = (h, c.0, c.2)

-- a length that may be written
abbrev pub IsLengthSmall : Option ℕ → Type 0
IsLengthSmall None = Unit {0}
IsLengthSmall (Some n) = n ≤ 9223372036854775807

length_shut : (n : Option ℕ) → IsLengthSmall n → (q : List Chunk) → IsShut q → IsShut (length_part n q)
length_shut None h q c = c
length_shut (Some n) h q c = (refl, refl, (refl, refl, (number_kind n h, refl, (refl, c.1, c.2))))

-- what the printing of a declaration needs of it
pub record IsWritable (n : ℕ) (d : Declaration) : Type 0 where
  pub name : IsName d.0
  pub label : IsBelow n d.1.label
  pub length : IsLengthSmall d.1.length

module _ (o : Order) (label_name : (n : ℕ) → n < o.size → IsName (name_of o n)) where
  pair_apart : (p : Label × Label) → (p.0.number < o.size) × (p.1.number < o.size) → (q : List Chunk) → IsShut q → Apart (pair_part o p q)
  pair_apart p h q c = (label_name p.0.number h.0, refl, (refl, refl, (label_name p.1.number h.1, c.0, c.2)))

  label_shut : (l : Option Label) → IsBelow o.size l → (q : List Chunk) → IsShut q → IsShut (label_part o l q)
  label_shut None h q c = c
  label_shut (Some l) h q c = (refl, refl, (refl, refl, (label_name l.number h, c.0, c.2)))

  declaration_apart : (d : Declaration) → IsWritable o.size d → (q : List Chunk) → Apart q → Apart (declaration_part o d q)
  declaration_apart d h q a =
      let k = length_shut d.1.length h.length _ (label_shut d.1.label h.label (end_line q) (end_line_shut q a)) in
      (refl, refl, (h.name, k.0, k.2))

  declarations_apart : (ds : List Declaration) → Every (IsWritable o.size) ds → (q : List Chunk) → Apart q → Apart (declarations_part o ds q)
  declarations_apart [] h q a = a
  declarations_apart (d ∷ ds) h q a = declaration_apart d h.0 _ (declarations_apart ds h.1 q a)

  order_apart : (ps : List (Label × Label)) → Every (λ (p : Label × Label). (p.0.number < o.size) × (p.1.number < o.size)) ps → (q : List Chunk)
      → Apart q → Apart (order_part o ps q)
  order_apart [] h q a = a
  order_apart (p ∷ ps) h q a =
      let P : Label × Label → Type 0 = λ (p : Label × Label). (p.0.number < o.size) × (p.1.number < o.size) in
      (refl, refl, listed_apart (pair_part o) P pair_apart (p ∷ ps) h (end_line q) (end_line_shut q a))

  labels_apart : Every IsName o.names → (q : List Chunk) → Apart q → Apart (labels_part o q)
  labels_apart h q a = (refl, refl, listed_apart a_name IsName name_apart o.names h (end_line q) (end_line_shut q a))

  marks_shut : (m : Option (Label × Label)) → AreMarksBelow o.size m → (q : List Chunk) → IsShut q → IsShut (marks_part o m q)
  marks_shut None h q c = c
  marks_shut (Some m) h q c = (
    refl,
    refl,
    (refl, refl, (refl, refl, (label_name m.0.number h.0, refl, (refl, refl, (label_name m.1.number h.1, refl, (refl, c.1, c.2)))))),
  )

  level_shut : (l : Option Label) → IsBelow o.size l → (q : List Chunk) → IsShut q → IsShut (level_part o l q)
  level_shut None h q c = c
  level_shut (Some l) h q c = (refl, refl, (refl, refl, (label_name l.number h, c.0, c.2)))

  module _ (ds : List Declaration) (scalar_name : (x : ℕ) → IsScalar ds x → IsName (cell_at ds x).name) (array_name : (f n : ℕ) → IsDeclaredArray ds f n
      → IsName (cell_at ds f).name) where
    expression_apart : (need : ℕ) (e : Expression) → IsKnown ds e → (q : List Chunk) → IsShut q → IsCalmly (expression_part ds need e q)
    expression_apart need (Number (pos n)) h q c = ((number_kind n h, c.0, c.2), refl)
    expression_apart need (Number (negsuc n)) h q c = absurd h
    expression_apart need (Variable x) h q c = ((scalar_name x h, c.0, c.2), refl)
    expression_apart need (Binary o l r) h q c =
        round_apart (ltb (rank o) need) (λ p. expression_part ds (left_need o) l (spaced (op_sign o) (expression_part ds (right_need o) r p)))
        (λ p d. expression_apart (left_need o) l h.0 (spaced (op_sign o) (expression_part ds (right_need o) r p)) (
          refl,
          refl,
          op_apart o (expression_part ds (right_need o) r p) (expression_apart (right_need o) r h.1 p d).0,
        )) q c
    expression_apart need (Element f n i) h q c =
        let k = expression_apart 1 i h.1 (a_sign RightSquare q) (refl, refl, (refl, c.1, c.2)) in
        ((array_name f n h.0, refl, (refl, k.1, k.0)), refl)

    after_shut : (d : ℕ) (p : Plan) → (AreSome p → (q : List Chunk) → IsShut q → Apart (commands_part o ds d p q)) → (q : List Chunk) → IsShut q
        → IsShut (after d p (commands_part o ds d p) q)
    after_shut d Done f q c = c
    after_shut d (Skip m r) f q c = semicolon_shut d _ (f tt q c)
    after_shut d (Assign m x e r) f q c = semicolon_shut d _ (f tt q c)
    after_shut d (Put m x n i e r) f q c = semicolon_shut d _ (f tt q c)
    after_shut d (Sleep m e r) f q c = semicolon_shut d _ (f tt q c)
    after_shut d (If m e a b r) f q c = semicolon_shut d _ (f tt q c)
    after_shut d (While m e a r) f q c = semicolon_shut d _ (f tt q c)
    after_shut d (Mitigate m k l e a r) f q c = semicolon_shut d _ (f tt q c)

    commands_apart : (d : ℕ) (p : Plan) → AreKnown o.size ds p → AreSome p → (q : List Chunk) → IsShut q → Apart (commands_part o ds d p q)
    commands_apart d Done h s q c = absurd s
    commands_apart d (Skip m r) h s q c =
        let k = marks_shut m.labels h.0 _ (after_shut d r (commands_apart d r h.1) q c) in
        (refl, k.0, k.2)
    commands_apart d (Assign m x e r) h s q c =
        let k = marks_shut m.labels h.0 _ (after_shut d r (commands_apart d r h.3) q c) in
        (scalar_name x h.1, refl, (refl, refl, (expression_apart 1 e h.2 _ k).0))
    commands_apart d (Put m f n i e r) h s q c =
        let k = marks_shut m.labels h.0 _ (after_shut d r (commands_apart d r h.4) q c) in
        let v = (expression_apart 1 e h.3 _ k).0 in
        let j = expression_apart 1 i h.2
        (a_sign RightSquare (spaced AssignSign (expression_part ds 1 e (marks_part o m.labels (after d r (commands_part o ds d r) q))))) (
          refl,
          refl,
          (refl, refl, (refl, refl, v)),
        ) in
        (array_name f n h.1, refl, (refl, j.1, j.0))
    commands_apart d (Sleep m e r) h s q c =
        let k = marks_shut m.labels h.0 _ (after_shut d r (commands_apart d r h.2) q c) in
        (refl, refl, (expression_apart 1 e h.1 _ k).0)
    commands_apart d (If m e a b r) h s q c =
        let k = after_shut d r (commands_apart d r h.6) q c in
        let v = braces_apart d (commands_part o ds (d + 1) b) (commands_apart (d + 1) b h.5 h.3) _ k.1 k.2 in
        let u = braces_apart d (commands_part o ds (d + 1) a) (commands_apart (d + 1) a h.4 h.2)
        (spaced_key Else (in_braces d (commands_part o ds (d + 1) b) (after d r (commands_part o ds d r) q))) refl (refl, refl, v) in
        let w = marks_shut m.labels h.0
        (spaced_key Then (in_braces d (commands_part o ds (d + 1) a)
        (spaced_key Else (in_braces d (commands_part o ds (d + 1) b) (after d r (commands_part o ds d r) q))))) (refl, refl, (refl, refl, u)) in
        (refl, refl, (expression_apart 1 e h.1 _ w).0)
    commands_apart d (While m e a r) h s q c =
        let k = after_shut d r (commands_apart d r h.4) q c in
        let u = braces_apart d (commands_part o ds (d + 1) a) (commands_apart (d + 1) a h.3 h.2) _ k.1 k.2 in
        let w = marks_shut m.labels h.0 (spaced_key Do (in_braces d (commands_part o ds (d + 1) a) (after d r (commands_part o ds d r) q))) (
          refl,
          refl,
          (refl, refl, u),
        ) in
        (refl, refl, (expression_apart 1 e h.1 _ w).0)
    commands_apart d (Mitigate m j l e a r) h s q c =
        let k = after_shut d r (commands_apart d r h.5) q c in
        let u = braces_apart d (commands_part o ds (d + 1) a) (commands_apart (d + 1) a h.4 h.3) _ k.1 k.2 in
        let w = marks_shut m.labels h.0 (space ∷ in_braces d (commands_part o ds (d + 1) a) (after d r (commands_part o ds d r) q)) (refl, refl, u) in
        let x = level_shut l h.1 (a_sign RightRound
        (marks_part o m.labels (space ∷ in_braces d (commands_part o ds (d + 1) a) (after d r (commands_part o ds d r) q)))) (
          refl,
          refl,
          (refl, w.1, w.2),
        ) in
        let v = expression_apart 1 e h.2 _ x in
        (refl, refl, (refl, v.1, v.0))

    pub chunks_apart : Every IsName o.names → (ps : List (Label × Label)) → Every (λ (p : Label × Label). (p.0.number < o.size) × (p.1.number < o.size)) ps
        → Every (IsWritable o.size) ds
        → (p : Plan) → AreKnown o.size ds p → AreSome p → Apart (chunks_of o ps ds p)
    chunks_apart n ps hp hd p h s =
        labels_apart n _ (order_apart ps hp _ (declarations_apart ds hd _ (commands_apart 0 p h s (line ∷ []) (refl, refl, tt))))
