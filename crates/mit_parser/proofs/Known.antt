-- Where nothing is wrong with the names of a tree, what it means is declared.
use Rattle.std.proofs.Common.{◌≡◌, ◌<◌, ◌+◌, refl, ap, ◌∙◌, sym, ℕ, List, ◌∷◌, length, cond, Option, Some, None}
use Rattle.std.specs.Prelude.{is_some}
use Rattle.text_base.specs.declared.pos.Pos.{Pos}
use Rattle.mit_syntax.specs.Expression.{Expression}
use Rattle.mit_syntax.specs.Plan.{Plan}
use Rattle.mit_syntax.specs.Declarations.{find_scalar, find_array}
use Rattle.mit_syntax.specs.Valid.{IsBelow, AreMarksBelow, IsScalar, IsDeclaredArray, IsKnown, AreSome, AreKnown}
use Rattle.mit_syntax.specs.declared.token.Keyword.TheVariants.{Then, Do}
use Rattle.mit_syntax.specs.declared.token.Sign.TheVariants.{Assign, RightRound, RightBrace, RightSquare}
use Rattle.mit_syntax.specs.Operators.{op_sign}
use Rattle.mit_parser.specs.declared.fault.ParseFault.{ParseFault}
use Rattle.mit_parser.specs.declared.fault.ParseFault.TheVariants.{Unknown, Misuse}
use Rattle.mit_parser.specs.Words.{Told, AreProper, sign_at, key_at}
use Rattle.mit_parser.specs.Scope.{Scope, or_else, kept, scalar_fault, array_fault, label_fault}
use Rattle.mit_parser.specs.Tree.{no_index, index_of, ExpressionTree, number_of, name_of, parens_of, binary_of, front_expression, AndName, no_name, and_name}
use Rattle.mit_parser.specs.Tree.{Marks, no_marks, marks_of, CommandTree, skip_of, assign_of, sleep_of, if_of, while_of, mitigate_of, Block, block_of}
use Rattle.mit_parser.specs.Tree.{ElsePart, no_else, else_of, Commands, commands_of, More, no_more, and_more, front_and_name, front_marks, front_command}
use Rattle.mit_parser.specs.Tree.{front_block, front_else, front_commands, front_more}
use Rattle.mit_parser.specs.Meaning.{expression_value, and_name_value, marks_value, next_command, next_block, plan_command, plan_block, plan_else}
use Rattle.mit_parser.specs.Meaning.{plan_commands, plan_more}
use Rattle.mit_parser.specs.Faults.{note_expression, note_and_name, note_marks, note_command, note_block, note_else, note_commands, note_more}
use Rattle.mit_parser.proofs.Numbered.{label_below}

pub kept_split : (u v : Option ParseFault) → kept u v ≡ None → (u ≡ None) × (v ≡ None)
kept_split None v e = (refl, e)
kept_split (Some f) v e = cc

module _ (sc : Scope) where
  scalar_known : (w : List ℕ) (p : Pos) → scalar_fault sc.declarations w p ≡ None → IsScalar sc.declarations (or_else 0 (find_scalar sc.declarations w))
  scalar_known w p e = by (find_scalar sc.declarations w) refl
    where
      by : (r : Option ℕ) → find_scalar sc.declarations w ≡ r → IsScalar sc.declarations (or_else 0 r)
      by None h =
          let q = sym (ap (λ r. cond (is_some r) None (Some (cond (is_some (find_array sc.declarations w)) (Misuse p) (Unknown p)))) h) ∙ e in
          cc
      by (Some x) h = (w, h)

  array_known : (w : List ℕ) (p : Pos) → array_fault sc.declarations w p ≡ None
      → IsDeclaredArray sc.declarations (or_else (0, 0) (find_array sc.declarations w)).0 (or_else (0, 0) (find_array sc.declarations w)).1
  array_known w p e = by (find_array sc.declarations w) refl
    where
      by : (r : Option (ℕ × ℕ)) → find_array sc.declarations w ≡ r → IsDeclaredArray sc.declarations (or_else (0, 0) r).0 (or_else (0, 0) r).1
      by None h =
          let q = sym (ap (λ r. cond (is_some r) None (Some (cond (is_some (find_scalar sc.declarations w)) (Misuse p) (Unknown p)))) h) ∙ e in
          cc
      by (Some x) h = (w, h)

  -- what is known of an expression, what came before, and the rest
  pub record Known (e : Expression) (u : Option ParseFault) (r : List Told) : Type 0 where
    pub known : IsKnown sc.declarations e
    pub none : u ≡ None
    pub proper : AreProper r

  none_expression : {n : ℕ} (t : ExpressionTree n) (u : Option ParseFault) → note_expression sc t u ≡ None → u ≡ None
  none_expression (number_of k p) u e = e
  none_expression (name_of w p no_index) u e = (kept_split u (scalar_fault sc.declarations w p) e).0
  none_expression (name_of w p (index_of q x s)) u e =
      (kept_split u (array_fault sc.declarations w p) (none_expression x (kept u (array_fault sc.declarations w p)) e)).0
  none_expression (parens_of p x q) u e = none_expression x u e
  none_expression (binary_of o h l p t) u e = none_expression l u (none_expression t (note_expression sc l u) e)

  known_expression : {n : ℕ} (t : ExpressionTree n) (u : Option ParseFault) (r : List Told) → note_expression sc t u ≡ None
      → AreProper (front_expression t r)
      → Known (expression_value sc t) u r
  known_expression (number_of k p) u r e h = record { known = h.0; none = e; proper = h.1 }
  known_expression (name_of w p no_index) u r e h =
      let k = kept_split u (scalar_fault sc.declarations w p) e in
      record { known = scalar_known w p k.1; none = k.0; proper = h.1 }
  known_expression (name_of w p (index_of q x s)) u r e h =
      let i = known_expression x (kept u (array_fault sc.declarations w p)) (sign_at RightSquare s ∷ r) e h.1.1 in
      let k = kept_split u (array_fault sc.declarations w p) i.none in
      record { known = (array_known w p k.1, i.known); none = k.0; proper = i.proper.1 }
  known_expression (parens_of p x q) u r e h =
      let i = known_expression x u (sign_at RightRound q ∷ r) e h.1 in
      record { known = i.known; none = i.none; proper = i.proper.1 }
  known_expression (binary_of o g l p t) u r e h =
      let none = none_expression t (note_expression sc l u) e in
      let x = known_expression l u (sign_at (op_sign o) p ∷ front_expression t r) none h in
      let y = known_expression t (note_expression sc l u) r e x.proper.1 in
      record { known = (x.known, y.known); none = x.none; proper = y.proper }

  module _ (some : 0 < length sc.labels) where
    second_below : (l : AndName) → IsBelow (length sc.labels) (and_name_value sc.labels l)
    second_below no_name = tt
    second_below (and_name p w q) = label_below sc.labels some w

    marks_below : (m : Marks) → AreMarksBelow (length sc.labels) (marks_value sc.labels m)
    marks_below no_marks = tt
    marks_below (marks_of p q w u no_name v) = (label_below sc.labels some w, label_below sc.labels some w)
    marks_below (marks_of p q w u (and_name x y z) v) = (label_below sc.labels some w, label_below sc.labels some y)

    none_second : (l : AndName) (u : Option ParseFault) → note_and_name sc.labels l u ≡ None → u ≡ None
    none_second no_name u e = e
    none_second (and_name p w q) u e = (kept_split u (label_fault sc.labels w q) e).0

    none_marks : (m : Marks) (u : Option ParseFault) → note_marks sc.labels m u ≡ None → u ≡ None
    none_marks no_marks u e = e
    none_marks (marks_of p q w r s v) u e = (kept_split u (label_fault sc.labels w r) (none_second s (kept u (label_fault sc.labels w r)) e)).0

    proper_second : (l : AndName) (r : List Told) → AreProper (front_and_name l r) → AreProper r
    proper_second no_name r h = h
    proper_second (and_name p w q) r h = h.1.1

    proper_marks : (m : Marks) (r : List Told) → AreProper (front_marks m r) → AreProper r
    proper_marks no_marks r h = h
    proper_marks (marks_of p q w u no_name v) r h = h.1.1.1.1
    proper_marks (marks_of p q w u (and_name x y z) v) r h = h.1.1.1.1.1.1

    abbrev AllKnown : Plan → Type 0
    AllKnown p = AreKnown (length sc.labels) sc.declarations p

    -- what is known of commands before others, of what came before, and of the rest
    pub record KnownList (p : Plan) (u : Option ParseFault) (r : List Told) : Type 0 where
      pub known : AllKnown p
      pub none : u ≡ None
      pub proper : AreProper r

    pub some_commands : (c : Commands) (k : ℕ) → AreSome (plan_commands sc k c)
    some_commands (commands_of (skip_of p m) x) k = tt
    some_commands (commands_of (assign_of w p no_index q e m) x) k = tt
    some_commands (commands_of (assign_of w p (index_of a b d) q e m) x) k = tt
    some_commands (commands_of (sleep_of p e m) x) k = tt
    some_commands (commands_of (if_of p e m q b o) x) k = tt
    some_commands (commands_of (while_of p e m q b) x) k = tt
    some_commands (commands_of (mitigate_of p q e l u m b) x) k = tt

    some_block : (b : Block) (k : ℕ) → AreSome (plan_block sc k b)
    some_block (block_of p c q) k = some_commands c k

    some_else : (o : ElsePart) (p : Pos) (k : ℕ) → AreSome (plan_else sc p k o)
    some_else no_else p k = tt
    some_else (else_of q b) p k = some_block b k

    mutual
      none_command : (c : CommandTree) (u : Option ParseFault) → note_command sc c u ≡ None → u ≡ None
      none_command (skip_of p m) u e = none_marks m u e
      none_command (assign_of w p no_index q x m) u e =
          (kept_split u (scalar_fault sc.declarations w p) (none_expression x (kept u (scalar_fault sc.declarations w p)) (none_marks m _ e))).0
      none_command (assign_of w p (index_of a i b) q x m) u e =
          (kept_split u (array_fault sc.declarations w p)
          (none_expression i (kept u (array_fault sc.declarations w p)) (none_expression x _ (none_marks m _ e)))).0
      none_command (sleep_of p x m) u e = none_expression x u (none_marks m _ e)
      none_command (if_of p x m q b o) u e = none_expression x u (none_marks m _ (none_block b _ (none_else o _ e)))
      none_command (while_of p x m q b) u e = none_expression x u (none_marks m _ (none_block b _ e))
      none_command (mitigate_of p q x l v m b) u e = none_expression x u (none_second l _ (none_marks m _ (none_block b _ e)))

      none_block : (b : Block) (u : Option ParseFault) → note_block sc b u ≡ None → u ≡ None
      none_block (block_of p c q) u e = none_commands c u e

      none_else : (o : ElsePart) (u : Option ParseFault) → note_else sc o u ≡ None → u ≡ None
      none_else no_else u e = e
      none_else (else_of p b) u e = none_block b u e

      pub none_commands : (c : Commands) (u : Option ParseFault) → note_commands sc c u ≡ None → u ≡ None
      none_commands (commands_of c m) u e = none_command c u (none_more m (note_command sc c u) e)

      none_more : (m : More) (u : Option ParseFault) → note_more sc m u ≡ None → u ≡ None
      none_more no_more u e = e
      none_more (and_more p c m) u e = none_command c u (none_more m (note_command sc c u) e)

    mutual
      known_command : (c : CommandTree) (k : ℕ) (rest : Plan) (u : Option ParseFault) (r : List Told) → note_command sc c u ≡ None
          → AreProper (front_command c r)
          → (AreProper r → AllKnown rest) → KnownList (plan_command sc k c rest) u r
      known_command (skip_of p m) k rest u r e h t =
          let z = proper_marks m r h.1 in
          record { known = (marks_below m, t z); none = none_marks m u e; proper = z }
      known_command (assign_of w p no_index q x m) k rest u r e h t =
          let v = none_marks m (note_expression sc x (kept u (scalar_fault sc.declarations w p))) e in
          let y = known_expression x (kept u (scalar_fault sc.declarations w p)) (front_marks m r) v h.1.1 in
          let s = kept_split u (scalar_fault sc.declarations w p) y.none in
          let z = proper_marks m r y.proper in
          record { known = (marks_below m, scalar_known w p s.1, y.known, t z); none = s.0; proper = z }
      known_command (assign_of w p (index_of a i b) q x m) k rest u r e h t =
          let v = none_marks m (note_expression sc x (note_expression sc i (kept u (array_fault sc.declarations w p)))) e in
          let n = none_expression x (note_expression sc i (kept u (array_fault sc.declarations w p))) v in
          let j = known_expression i (kept u (array_fault sc.declarations w p))
          (sign_at RightSquare b ∷ sign_at Assign q ∷ front_expression x (front_marks m r)) n h.1.1 in
          let y = known_expression x (note_expression sc i (kept u (array_fault sc.declarations w p))) (front_marks m r) v j.proper.1.1 in
          let s = kept_split u (array_fault sc.declarations w p) j.none in
          let z = proper_marks m r y.proper in
          record { known = (marks_below m, array_known w p s.1, j.known, y.known, t z); none = s.0; proper = z }
      known_command (sleep_of p x m) k rest u r e h t =
          let v = none_marks m (note_expression sc x u) e in
          let y = known_expression x u (front_marks m r) v h.1 in
          let z = proper_marks m r y.proper in
          record { known = (marks_below m, y.known, t z); none = y.none; proper = z }
      known_command (if_of p x m q b o) k rest u r e h t =
          let a = note_marks sc.labels m (note_expression sc x u) in
          let e1 = none_else o (note_block sc b a) e in
          let e2 = none_block b a e1 in
          let e3 = none_marks m (note_expression sc x u) e2 in
          let y = known_expression x u (front_marks m (key_at Then q ∷ front_block b (front_else o r))) e3 h.1 in
          let z = proper_marks m (key_at Then q ∷ front_block b (front_else o r)) y.proper in
          let f = known_block b k a (front_else o r) e1 z.1 in
          let g = known_else o p (next_block b k) (note_block sc b a) r e f.proper in
          record {
            known = (marks_below m, y.known, some_block b k, some_else o p (next_block b k), f.known, g.known, t g.proper);
            none = y.none;
            proper =
                g.proper;
          }
      known_command (while_of p x m q b) k rest u r e h t =
          let a = note_marks sc.labels m (note_expression sc x u) in
          let e2 = none_block b a e in
          let e3 = none_marks m (note_expression sc x u) e2 in
          let y = known_expression x u (front_marks m (key_at Do q ∷ front_block b r)) e3 h.1 in
          let z = proper_marks m (key_at Do q ∷ front_block b r) y.proper in
          let f = known_block b k a r e z.1 in
          record { known = (marks_below m, y.known, some_block b k, f.known, t f.proper); none = y.none; proper = f.proper }
      known_command (mitigate_of p q x l v m b) k rest u r e h t =
          let c = note_and_name sc.labels l (note_expression sc x u) in
          let a = note_marks sc.labels m c in
          let e2 = none_block b a e in
          let e3 = none_marks m c e2 in
          let e4 = none_second l (note_expression sc x u) e3 in
          let y = known_expression x u (front_and_name l (sign_at RightRound v ∷ front_marks m (front_block b r))) e4 h.1.1 in
          let i = proper_second l (sign_at RightRound v ∷ front_marks m (front_block b r)) y.proper in
          let z = proper_marks m (front_block b r) i.1 in
          let f = known_block b (k + 1) a r e z in
          record { known = (marks_below m, second_below l, y.known, some_block b (k + 1), f.known, t f.proper); none = y.none; proper = f.proper }

      known_block : (b : Block) (k : ℕ) (u : Option ParseFault) (r : List Told) → note_block sc b u ≡ None → AreProper (front_block b r)
          → KnownList (plan_block sc k b) u r
      known_block (block_of p c q) k u r e h =
          let x = known_commands c k u (sign_at RightBrace q ∷ r) e h.1 in
          record { known = x.known; none = x.none; proper = x.proper.1 }

      known_else : (o : ElsePart) (p : Pos) (k : ℕ) (u : Option ParseFault) (r : List Told) → note_else sc o u ≡ None → AreProper (front_else o r)
          → KnownList (plan_else sc p k o) u r
      known_else no_else p k u r e h = record { known = (tt, tt); none = e; proper = h }
      known_else (else_of q b) p k u r e h = known_block b k u r e h.1

      pub known_commands : (c : Commands) (k : ℕ) (u : Option ParseFault) (r : List Told) → note_commands sc c u ≡ None → AreProper (front_commands c r)
          → KnownList (plan_commands sc k c) u r
      known_commands (commands_of c m) k u r e h =
          let none = none_more m (note_command sc c u) e in
          let x = known_command c k (plan_more sc (next_command c k) m) u (front_more m r) none h
          (λ y. (known_more m (next_command c k) (note_command sc c u) r e y).known) in
          let y = known_more m (next_command c k) (note_command sc c u) r e x.proper in
          record { known = x.known; none = x.none; proper = y.proper }

      known_more : (m : More) (k : ℕ) (u : Option ParseFault) (r : List Told) → note_more sc m u ≡ None → AreProper (front_more m r)
          → KnownList (plan_more sc k m) u r
      known_more no_more k u r e h = record { known = tt; none = e; proper = h }
      known_more (and_more p c m) k u r e h =
          let none = none_more m (note_command sc c u) e in
          let x = known_command c k (plan_more sc (next_command c k) m) u (front_more m r) none h.1
          (λ y. (known_more m (next_command c k) (note_command sc c u) r e y).known) in
          let y = known_more m (next_command c k) (note_command sc c u) r e x.proper in
          record { known = x.known; none = x.none; proper = y.proper }
