-- The words of a printed expression are those of a tree that means it.
use Rattle.std.proofs.Common.{◌≡◌, ◌≤◌, ◌+◌, refl, ap, ◌∙◌, ℕ, List, ◌∷◌, Bool, true, false, Option, Some, None, arith, ltb-false}
use Rattle.std.specs.Prelude.{max, ltb, is_some, cond}
use Rattle.text_base.specs.declared.pos.Pos.{Pos}
use Rattle.mit_syntax.specs.declared.ast.Op.{Op}
use Rattle.mit_syntax.specs.declared.token.Sign.TheVariants.{LeftRound, RightRound, LeftSquare, RightSquare}
use Rattle.mit_syntax.specs.Chunks.{Chunk}
use Rattle.mit_syntax.specs.Expression.{Expression, Number, Variable, Binary, Element}
use Rattle.mit_syntax.specs.Operators.{op_sign, rank, left_need, right_need}
use Rattle.mit_syntax.specs.Declarations.{Declaration, cell_at, find_scalar, find_array}
use Rattle.mit_syntax.specs.Valid.{IsScalar, IsDeclaredArray, IsKnown}
use Rattle.mit_syntax.specs.Limits.{depth, operators}
use Rattle.mit_syntax.specs.Layout.{Part, a_sign, spaced, in_round, in_square, expression_part}
use Rattle.mit_parser.specs.declared.fault.ParseFault.{ParseFault}
use Rattle.mit_parser.specs.declared.fault.ParseFault.TheVariants.{Misuse, Unknown}
use Rattle.mit_parser.specs.Words.{Told, sign_at, name_at}
use Rattle.mit_parser.specs.Tree.{ExpressionTree, number_of, name_of, parens_of, binary_of, Index, no_index, index_of, front_expression, front_index}
use Rattle.mit_parser.specs.Limits.{expression_depth, index_depth, expression_size, index_size, IsIndexWithin}
use Rattle.mit_parser.specs.Scope.{Scope, or_else, kept, scalar_fault, array_fault}
use Rattle.mit_parser.specs.Meaning.{expression_value, index_value, named_value}
use Rattle.mit_parser.specs.Faults.{use_fault, note_expression, note_index}
use Rattle.mit_parser.proofs.Levels.{rank_some}
use Rattle.parse_laws.proofs.Saying.{Says}

-- the words begin with those of such a tree, and go on with the chunks
pub record Read {T : Type 0} (front_of : T → List Told → List Told) (Is : T → Type 0) (ws : List Told) (q : List Chunk) : Type 0 where
  pub tree : T
  pub rest : List Told
  pub are : ws ≡ front_of tree rest
  pub says : Says rest q
  pub is : Is tree

-- the words of this part do, before whatever follows
abbrev pub Reader : {T : Type 0} → (T → List Told → List Told) → (T → Type 0) → Part → Type 0
Reader front_of Is part = (ws : List Told) (q : List Chunk) → Says ws (part q) → Read front_of Is ws q

pub kept_none : (u : Option ParseFault) → kept u None ≡ u
kept_none None = refl
kept_none (Some f) = refl

module _ (sc : Scope) where
  -- a tree means the expression, has so many brackets and its operators at most, and nothing is wrong with its names
  pub record Means (n : ℕ) (e : Expression) (d : ℕ) (t : ExpressionTree n) : Type 0 where
    pub value : expression_value sc t ≡ e
    pub deep : expression_depth t ≤ d
    pub size : expression_size t ≤ operators e
    pub calm : (u : Option ParseFault) → note_expression sc t u ≡ u

  -- an index that means the expression
  pub record IsIndex (e : Expression) (i : Index) : Type 0 where
    pub value : index_value sc i ≡ Some e
    pub deep : index_depth i ≤ 1 + depth 1 e
    pub size : index_size i ≤ operators e
    pub calm : (u : Option ParseFault) → note_index sc i u ≡ u
    pub used : (w : List ℕ) (p : Pos) → use_fault sc w p i ≡ array_fault sc.declarations w p
    pub fits : (b : ℕ) → b + 1 + depth 1 e ≤ 100 → operators e ≤ 256 → IsIndexWithin b i

  module _ (ds : List Declaration) where
    -- the expression can be read where this rank is needed
    abbrev pub Reads : ℕ → Expression → Type 0
    Reads n e = Reader (front_expression {n = n}) (Means n e (depth n e)) (expression_part ds n e)

    -- in square brackets
    pub index_reader : (e : Expression) → Reads 1 e → Reader front_index (IsIndex e) (in_square (expression_part ds 1 e))
    index_reader e f ws q s =
        let a = f s.1 (a_sign RightSquare q) s.3 in
        let z = a.says in
        let h = a.is.deep in
        let k = a.is.size in
        record {
          tree = index_of s.0 a.tree z.0;
          rest = z.1;
          are = s.2 ∙ ap (λ l. sign_at LeftSquare s.0 ∷ l) (a.are ∙ ap (front_expression a.tree) z.2);
          says = z.3;
          is = record {
            value = ap (λ v. Some v) a.is.value;
            deep = omega (arith, h);
            size = a.is.size;
            calm = a.is.calm;
            used = λ w p. refl;
            fits = λ b x y. (omega (arith, h, x), omega (arith, k, y));
          };
        }

    module _ (o : Op) (l r : Expression) (f : Reads (left_need o) l) (g : Reads (right_need o) r) where
      abbrev both : ℕ
      both = max (depth (left_need o) l) (depth (right_need o) r)

      abbrev binary_part : Part
      binary_part q = expression_part ds (left_need o) l (spaced (op_sign o) (expression_part ds (right_need o) r q))

      bare : (n d : ℕ) → n ≤ rank o → both ≤ d → Reader (front_expression {n = n}) (Means n (Binary o l r) d) binary_part
      bare n d h i ws q s =
          let a = f ws (spaced (op_sign o) (expression_part ds (right_need o) r q)) s in
          let z = a.says in
          let b = g z.1 q z.3 in
          let j = a.is.deep in
          let k = b.is.deep in
          let m = a.is.size in
          let c = b.is.size in
          record {
            tree = binary_of o h a.tree z.0 b.tree;
            rest = b.rest;
            are = a.are ∙ ap (front_expression a.tree) (z.2 ∙ ap (λ k. sign_at (op_sign o) z.0 ∷ k) b.are);
            says = b.says;
            is = record {
              value = ap (λ v. Binary o v (expression_value sc b.tree)) a.is.value ∙ ap (Binary o l) b.is.value;
              deep = omega (arith, i, j, k);
              size = omega (arith, m, c);
              calm = λ u. ap (note_expression sc b.tree) (a.is.calm u) ∙ b.is.calm u;
            };
          }

      -- in parentheses where a higher rank is needed
      by_rank : (n : ℕ) (c : Bool) → ltb (rank o) n ≡ c
          → Reader (front_expression {n = n}) (Means n (Binary o l r) (cond c 1 0 + both)) (in_round c binary_part)
      by_rank n false e ws q s = bare n (0 + both) (ltb-false (rank o) n e) (omega arith) ws q s
      by_rank n true e ws q s =
          let a = bare 1 both (rank_some o).0 (omega arith) s.1 (a_sign RightRound q) s.3 in
          let z = a.says in
          let h = a.is.deep in
          record {
            tree = parens_of s.0 a.tree z.0;
            rest = z.1;
            are = s.2 ∙ ap (λ l. sign_at LeftRound s.0 ∷ l) (a.are ∙ ap (front_expression a.tree) z.2);
            says = z.3;
            is = record { value = a.is.value; deep = omega (arith, h); size = a.is.size; calm = a.is.calm };
          }

module _ (labels : List (List ℕ)) (ds : List Declaration) (scalar_found : (x : ℕ) → IsScalar ds x
    → find_scalar ds (cell_at ds x).name ≡ Some x) (array_found : (f n : ℕ) → IsDeclaredArray ds f n → find_array ds (cell_at ds f).name ≡ Some (f, n)) where
  abbrev sc : Scope
  sc = record { labels = labels; declarations = ds }

  pub scalar_calm : (x : ℕ) → IsScalar ds x → (p : Pos) (u : Option ParseFault) → kept u (scalar_fault ds (cell_at ds x).name p) ≡ u
  scalar_calm x h p u =
      ap (λ z. kept u (cond (is_some z) None (Some (cond (is_some (find_array ds (cell_at ds x).name)) (Misuse p) (Unknown p))))) (scalar_found x h)
      ∙ kept_none u

  pub array_calm : (f n : ℕ) → IsDeclaredArray ds f n → (p : Pos) (u : Option ParseFault) → kept u (array_fault ds (cell_at ds f).name p) ≡ u
  array_calm f n h p u =
      ap (λ z. kept u (cond (is_some z) None (Some (cond (is_some (find_scalar ds (cell_at ds f).name)) (Misuse p) (Unknown p))))) (array_found f n h)
      ∙ kept_none u

  -- each printed expression can be read where any rank is needed
  pub reads : (e : Expression) → IsKnown ds e → (n : ℕ) → Reads sc ds n e
  reads (Number k) h n ws q s =
      record {
        tree = number_of k s.0;
        rest = s.1;
        are = s.2;
        says = s.3;
        is = record { value = refl; deep = omega arith; size = omega arith; calm = λ u. refl };
      }
  reads (Variable x) h n ws q s =
      record {
        tree = name_of (cell_at ds x).name s.0 no_index;
        rest = s.1;
        are = s.2;
        says = s.3;
        is = record { value = ap (λ z. Variable (or_else 0 z)) (scalar_found x h); deep = omega arith; size = omega arith; calm = λ u. scalar_calm x h s.0 u };
      }
  reads (Element f m i) h n ws q s =
      let a = index_reader sc ds i (reads i h.1 1) s.1 q s.3 in
      let w : List ℕ = (cell_at ds f).name in
      record {
        tree = name_of w s.0 a.tree;
        rest = a.rest;
        are = s.2 ∙ ap (λ l. name_at w s.0 ∷ l) a.are;
        says = a.says;
        is = record {
          value = ap (named_value sc w) a.is.value
              ∙ ap (λ (z : Option (ℕ × ℕ)). Element (or_else {A = ℕ × ℕ} (0, 0) z).0 (or_else {A = ℕ × ℕ} (0, 0) z).1 i) (array_found f m h.0);
          deep = a.is.deep;
          size = a.is.size;
          calm = λ u. ap (λ z. note_index sc a.tree (kept u z)) (a.is.used w s.0) ∙ ap (note_index sc a.tree) (array_calm f m h.0 s.0 u) ∙ a.is.calm u;
        };
      }
  reads (Binary o l r) h n ws q s =
      by_rank sc ds o l r (reads l h.0 (left_need o)) (reads r h.1 (right_need o)) n (ltb (rank o) n) refl ws q s
