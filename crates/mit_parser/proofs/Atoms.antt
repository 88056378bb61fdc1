-- What each way through the functions of expressions gives.
use Rattle.std.proofs.Common.{◌≡◌, ◌+◌, ◌-◌, ◌≤◌, refl, ap, ◌∙◌, sym, ℕ, ℤ, max, Bool, true, false, cond, List, ◌∷◌, Some, None, arith}
use Rattle.text_base.specs.declared.pos.Pos.{Pos}
use Rattle.mit_syntax.specs.declared.token.Sign.TheVariants.{LeftRound, RightRound, LeftSquare, RightSquare}
use Rattle.mit_syntax.specs.declared.ast.Op.{Op}
use Rattle.mit_syntax.specs.Operators.{op_sign}
use Rattle.mit_syntax.specs.Expression.{Expression, Number as NumberOf, Variable as VariableOf, Binary as BinaryOf, Element as ElementOf}
use Rattle.mit_syntax.specs.Declarations.{find_scalar, find_array}
use Rattle.mit_syntax.specs.Chunks.{sign, number, name}
use Rattle.mit_parser.specs.declared.counts.Counts.{Counts}
use Rattle.mit_parser.specs.declared.fault.ParseFault.{ParseFault}
use Rattle.mit_parser.specs.Words.{Symbol, word, head_symbol, first_pos, is, sign_at}
use Rattle.mit_parser.specs.Operators.{op_at}
use Rattle.mit_parser.specs.Counting.{count, past_left, past_right}
use Rattle.mit_parser.specs.State.{State, with_fault}
use Rattle.mit_parser.specs.Scope.{Scope, or_else, kept, scalar_fault, array_fault}
use Rattle.mit_parser.specs.Tree.{ExpressionTree, Index, number_of, name_of, parens_of, no_index, index_of, front_expression}
use Rattle.mit_parser.specs.Meaning.{named_value, expression_value, index_value}
use Rattle.mit_parser.specs.Faults.{use_fault, note_expression, note_index}
use Rattle.mit_parser.specs.Machine.{Part, want, an_atom, an_index, an_expr, a_sum, comparison, step, atom_step, after_index, verdict}
use Rattle.mit_parser.specs.Reads.{Refused, Passed, Over, Took, IsExpression, IsAtom, IsIndex, IsSum, IsWhole, SoFar}
use Rattle.mit_parser.proofs.Rules.{passed, passes, within, left_out, told_is}
use Rattle.mit_parser.proofs.Weaken.{as_need, front_as, value_as, note_as, join, front_join, value_join, note_join}
use Rattle.mit_parser.proofs.Levels.{op_is, op_counts, Level, wholes, on_op, off_op}

-- the counts after a word that is known
pub counts_are : (old new : State) (s : Symbol) → head_symbol old.words ≡ s → Passed old new → new.counts ≡ count old.counts s
counts_are old new s e p = p.counts ∙ ap (count old.counts) (sym (ap head_symbol p.was) ∙ e)

-- the words before and after it
pub words_are : (old new : State) (s : Symbol) → head_symbol old.words ≡ s → (p : Passed old new)
    → old.words ≡ record { symbol = s; pos = p.first.pos } ∷ new.words
words_are old new s e p = p.was ∙ ap (λ b. b ∷ new.words) (told_is p.first s (sym (ap head_symbol p.was) ∙ e))

pub same_depth : (old new : State) (s : Symbol) → head_symbol old.words ≡ s → Passed old new → (count old.counts s).depth ≡ old.counts.depth
    → new.counts.depth ≡ old.counts.depth
same_depth old new s e p h = ap (λ c. c.depth) (counts_are old new s e p) ∙ h

pub pos_is : (old new : State) (p : Pos) → p ≡ first_pos old.words → (q : Passed old new) → p ≡ q.first.pos
pos_is old new p e q = e ∙ ap first_pos q.was

pub atom_number : (sc : Scope) (old new : State) (n : ℤ) → head_symbol old.words ≡ word (number n) → Passed old new → IsAtom sc old new (NumberOf n)
atom_number sc old new n e p =
    let d = same_depth old new (word (number n)) e p refl in
    record {
      tree = number_of n p.first.pos;
      spelled = words_are old new (word (number n)) e p;
      means = refl;
      notes = p.fault;
      next = p.marks;
      goes = λ s. passed (an_atom ∷ s) s p (ap (λ w. atom_step w s) e);
      shorter = omega (arith, p.shorter);
      rises = omega (arith, d);
    }

-- the machine after a name
pub after_name : (old mid : State) (w : List ℕ) → head_symbol old.words ≡ word (name w) → Passed old mid → (s : List Part)
    → verdict (an_atom ∷ s) old.counts old.words ≡ verdict (an_index ∷ s) mid.counts mid.words
after_name old mid w e p s = passed (an_atom ∷ s) (an_index ∷ s) p (ap (λ w. atom_step w s) e)

pub no_index_here : (now : State) (s : List Part) → is (word (sign LeftSquare)) (head_symbol now.words) ≡ false
    → verdict (an_index ∷ s) now.counts now.words ≡ verdict s now.counts now.words
no_index_here now s e = left_out (an_index ∷ s) s now.counts now.words (ap (λ b. cond b (Some (after_index s)) (step s (head_symbol now.words))) e)

pub atom_scalar : (sc : Scope) (old mid : State) (w : List ℕ) (p : Pos) (x : ℕ) → head_symbol old.words ≡ word (name w)
    → p ≡ first_pos old.words → Passed old mid
    → is (word (sign LeftSquare)) (head_symbol mid.words) ≡ false → x ≡ or_else 0 (find_scalar sc.declarations w)
    → IsAtom sc old (with_fault mid (kept mid.fault (scalar_fault sc.declarations w p))) (VariableOf x)
atom_scalar sc old mid w p x e q h n v =
    let d = same_depth old mid (word (name w)) e h refl in
    record {
      tree = name_of w h.first.pos no_index;
      spelled = words_are old mid (word (name w)) e h;
      means = ap (λ z. VariableOf z) (sym v);
      notes = ap (λ u. kept u (scalar_fault sc.declarations w p)) h.fault ∙ ap (λ z. kept old.fault (scalar_fault sc.declarations w z)) (pos_is old mid p q h);
      next = h.marks;
      goes = λ s. after_name old mid w e h s ∙ no_index_here mid s n;
      shorter = omega (arith, h.shorter);
      rises = omega (arith, d);
    }

pub use_indexed : (sc : Scope) (w : List ℕ) (p : Pos) (i : Index) (x : Expression) → index_value sc i ≡ Some x
    → use_fault sc w p i ≡ array_fault sc.declarations w p
use_indexed sc w p no_index x e = cc
use_indexed sc w p (index_of q t r) x e = refl

pub atom_element : (sc : Scope) (old mid new : State) (w : List ℕ) (p : Pos) (r : ℕ × ℕ) (b : Expression)
    → head_symbol old.words ≡ word (name w) → p ≡ first_pos old.words
    → Passed old mid → IsIndex sc (with_fault mid (kept mid.fault (array_fault sc.declarations w p))) new b → r ≡ or_else (0, 0) (find_array sc.declarations w)
    → IsAtom sc old new (ElementOf r.0 r.1 b)
atom_element sc old mid new w p r b e q h x v =
    let d = same_depth old mid (word (name w)) e h refl in
    let u = use_indexed sc w h.first.pos x.tree b x.means in
    record {
      tree = name_of w h.first.pos x.tree;
      spelled = words_are old mid (word (name w)) e h ∙ ap (λ l. record { symbol = word (name w); pos = h.first.pos } ∷ l) x.spelled;
      means = ap (named_value sc w) x.means ∙ ap (λ (z : ℕ × ℕ). ElementOf z.0 z.1 b) (sym v);
      notes = x.notes ∙ ap (λ z. note_index sc x.tree z) (ap (λ u. kept u (array_fault sc.declarations w p)) h.fault
          ∙ ap (λ z. kept old.fault (array_fault sc.declarations w z)) (pos_is old mid p q h) ∙ ap (kept old.fault) (sym u));
      next = x.next ∙ h.marks;
      goes = λ s. after_name old mid w e h s ∙ x.goes s;
      shorter = omega (arith, h.shorter, x.shorter);
      rises = omega (arith, d, x.rises);
    }

-- after an opening bracket
pub opened : (old mid : State) → head_symbol old.words ≡ word (sign LeftRound) → Passed old mid → (s : List Part)
    → verdict (an_atom ∷ s) old.counts old.words ≡ verdict (an_expr ∷ want (word (sign RightRound)) ∷ s) mid.counts mid.words
opened old mid e p s = passed (an_atom ∷ s) (an_expr ∷ want (word (sign RightRound)) ∷ s) p (ap (λ w. atom_step w s) e)

pub opened_depth : (old mid : State) → head_symbol old.words ≡ word (sign LeftRound) → Passed old mid → mid.counts.depth ≡ old.counts.depth + 1
opened_depth old mid e p = ap (λ c. c.depth) (counts_are old mid (word (sign LeftRound)) e p)

pub atom_paren : (sc : Scope) (old mid end new : State) (e : Expression) → head_symbol old.words ≡ word (sign LeftRound) → Passed old mid → IsWhole sc mid end e
    → Took (word (sign RightRound)) end new
    → IsAtom sc old new e
atom_paren sc old mid end new e h p x q =
    let d : new.counts.depth ≡ end.counts.depth - 1 = ap (λ c. c.depth) q.counts in
    let u = opened_depth old mid h p in
    record {
      tree = parens_of p.first.pos x.tree q.place;
      spelled = words_are old mid (word (sign LeftRound)) h p ∙ ap (λ l. sign_at LeftRound p.first.pos ∷ l) (x.spelled ∙ ap (front_expression x.tree) q.was);
      means = x.means;
      notes = q.fault ∙ x.notes ∙ ap (note_expression sc x.tree) p.fault;
      next = q.marks ∙ x.next ∙ p.marks;
      goes = λ s. opened old mid h p s ∙ x.goes (want (word (sign RightRound)) ∷ s) ∙ q.goes s;
      shorter = omega (arith, p.shorter, x.shorter, q.shorter);
      rises = omega (arith, d, u, x.rises);
    }

pub left_square : (c : Counts) → c.at ≡ false → (count c (word (sign LeftSquare))).depth ≡ c.depth + 1
left_square c e = ap (λ b. (cond {A = Counts} b (record { depth = c.depth; operators = 0; at = false; marks = true }) (past_left c)).depth) e

pub right_square : (c : Counts) → c.depth ≤ (count c (word (sign RightSquare))).depth + 1
right_square c = by c.marks refl
  where
    by : (b : Bool) → c.marks ≡ b → c.depth ≤ (count c (word (sign RightSquare))).depth + 1
    by true e = let h = ap (λ b. (cond {A = Counts} b (record { depth = c.depth; operators = 0; at = false; marks = false }) (past_right c)).depth) e in
        omega (arith, h)
    by false e = let h = ap (λ b. (cond {A = Counts} b (record { depth = c.depth; operators = 0; at = false; marks = false }) (past_right c)).depth) e in
        omega (arith, h)

pub square_depth : (old mid : State) → old.counts.at ≡ false → Took (word (sign LeftSquare)) old mid → mid.counts.depth ≡ old.counts.depth + 1
square_depth old mid h t = ap (λ c. c.depth) t.counts ∙ left_square old.counts h

-- the machine at the bracket of an index
pub at_index : (old : State) → is (word (sign LeftSquare)) (head_symbol old.words) ≡ true → (s : List Part)
    → verdict (an_index ∷ s) old.counts old.words ≡ verdict (want (word (sign LeftSquare)) ∷ after_index s) old.counts old.words
at_index old e s =
    left_out (an_index ∷ s) (want (word (sign LeftSquare)) ∷ after_index s) old.counts old.words
    (ap (λ b. cond b (Some (after_index s)) (step s (head_symbol old.words))) e ∙ sym (ap (λ b. cond b (Some (after_index s)) None) e))

pub index_whole : (sc : Scope) (old a b new : State) (e : Expression) → is (word (sign LeftSquare)) (head_symbol old.words) ≡ true → old.counts.at ≡ false
    → Took (word (sign LeftSquare)) old a → IsWhole sc a b e → Took (word (sign RightSquare)) b new → IsIndex sc old new e
index_whole sc old a b new e h f t x q =
    let u = square_depth old a f t in
    let d : new.counts.depth ≡ (count b.counts (word (sign RightSquare))).depth = ap (λ c. c.depth) q.counts in
    let r = right_square b.counts in
    record {
      tree = index_of t.place x.tree q.place;
      spelled = t.was ∙ ap (λ l. sign_at LeftSquare t.place ∷ l) (x.spelled ∙ ap (front_expression x.tree) q.was);
      means = ap Some x.means;
      notes = q.fault ∙ x.notes ∙ ap (note_expression sc x.tree) t.fault;
      next = q.marks ∙ x.next ∙ t.marks;
      goes = λ s. at_index old h s ∙ t.goes (after_index s) ∙ x.goes (want (word (sign RightSquare)) ∷ s) ∙ q.goes s;
      shorter = omega (arith, t.shorter, x.shorter, q.shorter);
      rises = omega (arith, u, d, r, x.rises);
    }

-- an operator changes no depth
pub past_op : (n : ℕ) (now mid : State) (op : Op) → Some op ≡ op_at n (head_symbol now.words) → Passed now mid → mid.counts.depth ≡ now.counts.depth
past_op n now mid op e p =
    same_depth now mid (word (sign (op_sign op))) (op_is n (head_symbol now.words) op e).1 p (ap (λ c. c.depth) (op_counts now.counts op))

module _ {n : ℕ} {part next follows : Part} {rest_of : List Part → List Part} (k : Level n part next follows rest_of) where
  -- the machine where the part begins
  pub rule : (s : List Part) (now : State) → verdict (part ∷ s) now.counts now.words ≡ verdict (next ∷ follows ∷ s) now.counts now.words
  rule s now = left_out (part ∷ s) (next ∷ follows ∷ s) now.counts now.words (k.begins s (head_symbol now.words))

  -- the machine at an operator
  pub at_op : (now mid : State) (op : Op) → Some op ≡ op_at n (head_symbol now.words) → Passed now mid → (s : List Part)
      → verdict (follows ∷ s) now.counts now.words ≡ verdict (next ∷ rest_of s) mid.counts mid.words
  at_op now mid op e p s = passed (follows ∷ s) (next ∷ rest_of s) p (on_op k s (head_symbol now.words) op (sym e))

  -- an operator that passes a limit
  pub op_passes : (sc : Scope) (old now new : State) (left : Expression) (op : Op) (f : ParseFault) → SoFar n part follows sc old now left
      → Some op ≡ op_at n (head_symbol now.words) → Over now new f → Refused part old new f
  op_passes sc old now new left op f t e v =
      within old now new part follows (λ s. s) f t.goes
      (passes now new follows f (λ s. (next ∷ rest_of s, on_op k s (head_symbol now.words) op (sym e))) v)

  -- the first part
  pub level_first : (m : ℕ) → n ≤ m → (sc : Scope) (old now : State) (e : Expression) → IsExpression m next sc old now e → SoFar n part follows sc old now e
  level_first m h sc old now e x =
      record {
        tree = as_need n h x.tree;
        spelled = x.spelled ∙ sym (front_as n h x.tree now.words);
        means = value_as n h sc x.tree ∙ x.means;
        notes = x.notes ∙ sym (note_as n h sc x.tree old.fault);
        next = x.next;
        goes = λ s. rule s old ∙ x.goes (follows ∷ s);
        shorter = x.shorter;
        rises = x.rises;
      }

  -- no more parts
  pub level_last : (sc : Scope) (old now : State) (e : Expression) → SoFar n part follows sc old now e → None ≡ op_at n (head_symbol now.words)
      → IsExpression n part sc old now e
  level_last sc old now e t h =
      record {
        tree = t.tree;
        spelled = t.spelled;
        means = t.means;
        notes = t.notes;
        next = t.next;
        goes = λ s. t.goes s ∙ left_out (follows ∷ s) s now.counts now.words (off_op k s (head_symbol now.words) (sym h));
        shorter = t.shorter;
        rises = t.rises;
      }

-- an expression, an operator and another expression
record Joined (n : ℕ) (sc : Scope) (old new : State) (e : Expression) : Type 0 where
  tree : ExpressionTree n
  spelled : old.words ≡ front_expression tree new.words
  means : expression_value sc tree ≡ e
  notes : new.fault ≡ note_expression sc tree old.fault

joined : (n m : ℕ) → max 2 n ≤ m → (sc : Scope) (old now mid new : State) (op : Op) (l r : Expression) (next : Part) (t : ExpressionTree m)
    → old.words ≡ front_expression t now.words → expression_value sc t ≡ l → now.fault ≡ note_expression sc t old.fault
    → Some op ≡ op_at n (head_symbol now.words) → (p : Passed now mid) → IsExpression (n + 1) next sc mid new r → Joined n sc old new (BinaryOf op l r)
joined n m h sc old now mid new op l r next t spelled means notes e p x =
    let k = op_is n (head_symbol now.words) op e in
    let here = words_are now mid (word (sign (op_sign op))) k.1 p ∙ ap (λ l. sign_at (op_sign op) p.first.pos ∷ l) x.spelled in
    record {
      tree = join op k.0 h t p.first.pos x.tree;
      spelled = spelled ∙ ap (front_expression t) here ∙ sym (front_join op k.0 h t p.first.pos x.tree new.words);
      means = value_join op k.0 h t p.first.pos x.tree sc
          ∙ ap (λ v. BinaryOf op v (expression_value sc x.tree)) means ∙ ap (λ v. BinaryOf op l v) x.means;
      notes = x.notes ∙ ap (note_expression sc x.tree) (p.fault ∙ notes)
          ∙ sym (note_join op k.0 h t p.first.pos x.tree sc old.fault);
    }

-- another part
pub level_next : {n : ℕ} {part next follows : Part} → Level n part next follows (λ s. follows ∷ s) → 2 ≤ n → (sc : Scope) (old now mid new : State) (op : Op)
    (l r : Expression) → SoFar n part follows sc old now l → Some op ≡ op_at n (head_symbol now.words) → Passed now mid
    → IsExpression (n + 1) next sc mid new r → SoFar n part follows sc old new (BinaryOf op l r)
level_next {n} {part} {next} {follows} k h sc old now mid new op l r t e p x =
    let d = past_op n now mid op e p in
    let y = joined n n (omega (arith, h)) sc old now mid new op l r next t.tree t.spelled t.means t.notes e p x in
    record {
      tree = y.tree;
      spelled = y.spelled;
      means = y.means;
      notes = y.notes;
      next = x.next ∙ p.marks ∙ t.next;
      goes = λ s. t.goes s ∙ at_op k now mid op e p s ∙ x.goes (follows ∷ s);
      shorter = omega (arith, t.shorter, p.shorter, x.shorter);
      rises = omega (arith, t.rises, d, x.rises);
    }

-- the machine after a sum and a comparison's sign
pub at_comparison : (sc : Scope) (old now mid : State) (e : Expression) (op : Op) → IsSum sc old now e → Some op ≡ op_at 1 (head_symbol now.words)
    → Passed now mid → (s : List Part) → verdict (an_expr ∷ s) old.counts old.words ≡ verdict (a_sum ∷ s) mid.counts mid.words
at_comparison sc old now mid e op x h p s = rule wholes s old ∙ x.goes (comparison ∷ s) ∙ at_op wholes now mid op h p s

pub expr_compare : (sc : Scope) (old now mid new : State) (op : Op) (l r : Expression) → IsSum sc old now l
    → Some op ≡ op_at 1 (head_symbol now.words) → Passed now mid → IsSum sc mid new r → IsWhole sc old new (BinaryOf op l r)
expr_compare sc old now mid new op l r x e p y =
    let d = past_op 1 now mid op e p in
    let z = joined 1 2 (omega arith) sc old now mid new op l r a_sum x.tree x.spelled x.means x.notes e p y in
    record {
      tree = z.tree;
      spelled = z.spelled;
      means = z.means;
      notes = z.notes;
      next = y.next ∙ p.marks ∙ x.next;
      goes = λ s. at_comparison sc old now mid l op x e p s ∙ y.goes s;
      shorter = omega (arith, x.shorter, p.shorter, y.shorter);
      rises = omega (arith, x.rises, d, y.rises);
    }
