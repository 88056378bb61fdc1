-- The words of printed commands are those of trees that mean them.
use Rattle.std.proofs.Common.{◌≡◌, ◌≤◌, ◌<◌, ◌+◌, refl, sym, ap, ◌∙◌, ℕ, zero, suc, List, ◌∷◌, Option, Some, None, arith}
use Rattle.label_lattice.specs.declared.label.Label.{Label}
use Rattle.label_lattice.specs.Order.{Order, name_of}
use Rattle.mit_syntax.specs.declared.token.Keyword.TheVariants.{Skip as SkipKey, If as IfKey, Then, Else, While as WhileKey, Do, Mitigate as MitigateKey}
use Rattle.mit_syntax.specs.declared.token.Keyword.TheVariants.{Sleep as SleepKey}
use Rattle.mit_syntax.specs.declared.token.Sign.TheVariants.{Assign as AssignSign, Semicolon, Comma, LeftRound, RightRound, LeftBrace, RightBrace, LeftSquare}
use Rattle.mit_syntax.specs.declared.token.Sign.TheVariants.{At}
use Rattle.mit_syntax.specs.Chunks.{Chunk, space}
use Rattle.mit_syntax.specs.Expression.{Expression}
use Rattle.mit_syntax.specs.Declarations.{Declaration, cell_at, find_scalar, find_array}
use Rattle.mit_syntax.specs.Todo.{Todo, Done, Skip, Assign, Put, Sleep, If, While, Mitigate}
use Rattle.mit_syntax.specs.Plan.{Plan, mitigates}
use Rattle.mit_syntax.specs.Valid.{IsBelow, AreMarksBelow, IsScalar, IsDeclaredArray, AreSome, AreKnown, AreNumbered}
use Rattle.mit_syntax.specs.Limits.{depth, IsSmall, AreSmall}
use Rattle.mit_syntax.specs.Layout.{a_sign, spaced, spaced_key, expression_part, marks_part, level_part, indent, new_line, in_braces, after, commands_part}
use Rattle.mit_parser.specs.declared.fault.ParseFault.{ParseFault}
use Rattle.mit_parser.specs.Words.{Told, sign_at, key_at, name_at}
use Rattle.mit_parser.specs.Tree.{ExpressionTree, Index, no_index, AndName, no_name, and_name, Marks, no_marks, marks_of, CommandTree, skip_of, assign_of}
use Rattle.mit_parser.specs.Tree.{sleep_of, if_of, while_of, mitigate_of, Block, block_of, else_of, commands_of, More, no_more, and_more, front_expression}
use Rattle.mit_parser.specs.Tree.{front_index, front_and_name, front_marks, front_command, front_block, front_more}
use Rattle.mit_parser.specs.Limits.{IsWithin, IsIndexWithin, CommandWithin, BlockWithin, MoreWithin}
use Rattle.mit_parser.specs.Scope.{Scope, find_label, or_else, kept, label_fault}
use Rattle.mit_parser.specs.Meaning.{label, and_name_value, marks_value, written, assigned, expression_value, next_command, next_block, next_more, plan_command}
use Rattle.mit_parser.specs.Meaning.{plan_block, plan_more}
use Rattle.mit_parser.specs.Faults.{note_and_name, note_marks, note_command, note_block, note_more}
use Rattle.parse_laws.specs.ReadBack.{unplaced}
use Rattle.parse_laws.proofs.Saying.{Says}
use Rattle.parse_laws.proofs.ReadHeader.{number_is, label_calm}
use Rattle.parse_laws.proofs.ReadExpression.{Reader, Means, IsIndex, reads, index_reader, scalar_calm, array_calm}

pub indent_says : (d : ℕ) (ws : List Told) (q : List Chunk) → Says ws (indent d q) → Says ws q
indent_says zero ws q s = s
indent_says (suc d) ws q s = indent_says d ws q s

-- one after the other changes nothing
quiet : {f g : Option ParseFault → Option ParseFault} → ((u : Option ParseFault) → f u ≡ u) → ((u : Option ParseFault) → g u ≡ u)
    → (u : Option ParseFault) → f (g u) ≡ u
quiet {f} {g} a b u = ap f (b u) ∙ a u

module _ {M L : Type 0} where
  skip_same : (m n : M) (p q : Todo M L) → m ≡ n → p ≡ q → Skip m p ≡ Skip n q
  skip_same m n p q a b = cc

  assign_same : (m n : M) (x y : ℕ) (e f : Expression) (p q : Todo M L) → m ≡ n → x ≡ y → e ≡ f → p ≡ q → Assign m x e p ≡ Assign n y f q
  assign_same m n x y e f p q a b c d = cc

  put_same : (m n : M) (x y j k : ℕ) (i h e f : Expression) (p q : Todo M L) → m ≡ n → x ≡ y → j ≡ k → i ≡ h → e ≡ f → p ≡ q → Put m x j i e p ≡ Put n y k h f q
  put_same m n x y j k i h e f p q a b c d g l = cc

  sleep_same : (m n : M) (e f : Expression) (p q : Todo M L) → m ≡ n → e ≡ f → p ≡ q → Sleep m e p ≡ Sleep n f q
  sleep_same m n e f p q a b c = cc

  if_same : (m n : M) (e f : Expression) (x y z w p q : Todo M L) → m ≡ n → e ≡ f → x ≡ y → z ≡ w → p ≡ q → If m e x z p ≡ If n f y w q
  if_same m n e f x y z w p q a b c d g = cc

  while_same : (m n : M) (e f : Expression) (x y p q : Todo M L) → m ≡ n → e ≡ f → x ≡ y → p ≡ q → While m e x p ≡ While n f y q
  while_same m n e f x y p q a b c d = cc

  mitigate_same : (m n : M) (j k : ℕ) (l h : L) (e f : Expression) (x y p q : Todo M L) → m ≡ n → j ≡ k → l ≡ h → e ≡ f → x ≡ y → p ≡ q
      → Mitigate m j l e x p ≡ Mitigate n k h f y q
  mitigate_same m n j k l h e f x y p q a b c d g i = cc

-- a command and those behind it
abbrev pub front_list : CommandTree × More → List Told → List Told
front_list t r = front_command t.0 (front_more t.1 r)

module _ (o : Order) (ds : List Declaration) (label_found : (n : ℕ) → n < o.size → find_label o.names (name_of o n) ≡ Some n) (scalar_found : (x : ℕ)
    → IsScalar ds x → find_scalar ds (cell_at ds x).name ≡ Some x) (array_found : (f n : ℕ) → IsDeclaredArray ds f n
    → find_array ds (cell_at ds f).name ≡ Some (f, n)) where
  abbrev sc : Scope
  sc = record { labels = o.names; declarations = ds }

  record IsMarks (m : Option (Label × Label)) (t : Marks) : Type 0 where
    pub value : marks_value o.names t ≡ m
    pub calm : (u : Option ParseFault) → note_marks o.names t u ≡ u

  marks_reader : (m : Option (Label × Label)) → AreMarksBelow o.size m → Reader front_marks (IsMarks m) (marks_part o m)
  marks_reader None h ws q s = record { tree = no_marks; rest = ws; are = refl; says = s; is = record { value = refl; calm = λ u. refl } }
  marks_reader (Some m) h ws q s =
      let a = s.3 in
      let b = a.3 in
      let c = b.3 in
      let d = c.3 in
      let e = d.3 in
      record {
        tree = marks_of s.0 a.0 (name_of o m.0.number) b.0 (and_name c.0 (name_of o m.1.number) d.0) e.0;
        rest = e.1;
        are = s.2 ∙ ap (λ l. sign_at At s.0 ∷ l) (a.2 ∙ ap (λ l. sign_at LeftSquare a.0 ∷ l) (b.2 ∙ ap (λ l. name_at (name_of o m.0.number) b.0 ∷ l)
            (c.2 ∙ ap (λ l. sign_at Comma c.0 ∷ l) (d.2 ∙ ap (λ l. name_at (name_of o m.1.number) d.0 ∷ l) e.2))));
        says = e.3;
        is = record {
          value = ap (λ (x : Label). Some (x, label o.names (name_of o m.1.number))) (number_is o label_found m.0 h.0)
              ∙ ap (λ (x : Label). Some (m.0, x)) (number_is o label_found m.1 h.1);
          calm = λ u. ap (λ v. kept v (label_fault o.names (name_of o m.1.number) d.0)) (label_calm o label_found m.0 h.0 b.0 u)
              ∙ label_calm o label_found m.1 h.1 d.0 u;
        };
      }

  record IsLevel (l : Option Label) (t : AndName) : Type 0 where
    pub value : and_name_value o.names t ≡ l
    pub calm : (u : Option ParseFault) → note_and_name o.names t u ≡ u

  level_reader : (l : Option Label) → IsBelow o.size l → Reader front_and_name (IsLevel l) (level_part o l)
  level_reader None h ws q s = record { tree = no_name; rest = ws; are = refl; says = s; is = record { value = refl; calm = λ u. refl } }
  level_reader (Some l) h ws q s =
      let a = s.3 in
      record {
        tree = and_name s.0 (name_of o l.number) a.0;
        rest = a.1;
        are = s.2 ∙ ap (λ k. sign_at Comma s.0 ∷ k) a.2;
        says = a.3;
        is = record { value = ap (λ (x : Label). Some x) (number_is o label_found l h); calm = λ u. label_calm o label_found l h a.0 u };
      }

  within : (d : ℕ) (e : Expression) (t : ExpressionTree 1) → IsSmall d e → Means sc 1 e (depth 1 e) t → IsWithin d t
  within d e t h k =
      let a = h.depth in
      let b = h.operators in
      let c = k.deep in
      let f = k.size in
      (omega (arith, a, c), omega (arith, b, f))

  index_within : (d : ℕ) (e : Expression) (t : Index) → IsSmall (d + 1) e → IsIndex sc e t → IsIndexWithin d t
  index_within d e t h k = k.fits d h.depth h.operators

  deep_enough : (d : ℕ) (e : Expression) → IsSmall (d + 1) e → d + 1 ≤ 100
  deep_enough d e h = let a = h.depth in omega (arith, a)

  -- trees that mean these commands, positions aside
  pub record AreList (d k : ℕ) (r : Plan) (t : CommandTree × More) : Type 0 where
    pub read : Plan
    pub plan : plan_command sc k t.0 (plan_more sc (next_command t.0 k) t.1) ≡ read
    pub same : unplaced read ≡ unplaced r
    pub within : CommandWithin d t.0 × MoreWithin d t.1
    pub calm : (u : Option ParseFault) → note_more sc t.1 (note_command sc t.0 u) ≡ u
    pub next : next_more t.1 (next_command t.0 k) ≡ k + mitigates r

  pub record AreMore (d k : ℕ) (r : Plan) (t : More) : Type 0 where
    pub read : Plan
    pub plan : plan_more sc k t ≡ read
    pub same : unplaced read ≡ unplaced r
    pub within : MoreWithin d t
    pub calm : (u : Option ParseFault) → note_more sc t u ≡ u
    pub next : next_more t k ≡ k + mitigates r

  record IsBlock (d k : ℕ) (r : Plan) (t : Block) : Type 0 where
    pub read : Plan
    pub plan : plan_block sc k t ≡ read
    pub same : unplaced read ≡ unplaced r
    pub within : BlockWithin d t
    pub calm : (u : Option ParseFault) → note_block sc t u ≡ u
    pub next : next_block t k ≡ k + mitigates r

  module _ (r : Plan) (d k : ℕ) where
    more_reader : Reader front_list (AreList d k r) (commands_part o ds d r)
        → Reader front_more (AreMore d k r) (λ q. a_sign Semicolon (new_line d (commands_part o ds d r q)))
    more_reader f ws q s =
        let a = f s.1 q (indent_says d s.1 (commands_part o ds d r q) s.3) in
        record {
          tree = and_more s.0 a.tree.0 a.tree.1;
          rest = a.rest;
          are = s.2 ∙ ap (λ l. sign_at Semicolon s.0 ∷ l) a.are;
          says = a.says;
          is = record { read = a.is.read; plan = a.is.plan; same = a.is.same; within = a.is.within; calm = a.is.calm; next = a.is.next };
        }

    block_reader : d + 1 ≤ 100 → Reader front_list (AreList (d + 1) k r) (commands_part o ds (d + 1) r)
        → Reader front_block (IsBlock d k r) (in_braces d (commands_part o ds (d + 1) r))
    block_reader h f ws q s =
        let q1 : List Chunk = new_line d (a_sign RightBrace q) in
        let a = f s.1 q1 (indent_says (d + 1) s.1 (commands_part o ds (d + 1) r q1) s.3) in
        let z = indent_says d a.rest (a_sign RightBrace q) a.says in
        record {
          tree = block_of s.0 (commands_of a.tree.0 a.tree.1) z.0;
          rest = z.1;
          are = s.2 ∙ ap (λ l. sign_at LeftBrace s.0 ∷ l) (a.are ∙ ap (front_list a.tree) z.2);
          says = z.3;
          is = record { read = a.is.read; plan = a.is.plan; same = a.is.same; within = (h, a.is.within); calm = a.is.calm; next = a.is.next };
        }

    -- commands can be read as a list, and behind others
    pub record PlanReads : Type 0 where
      pub first : AreSome r → Reader front_list (AreList d k r) (commands_part o ds d r)
      pub more : Reader front_more (AreMore d k r) (after d r (commands_part o ds d r))

  pub plan_reads : (r : Plan) (d k : ℕ) → AreKnown o.size ds r → AreNumbered k r → AreSmall d r → PlanReads r d k
  plan_reads Done d k h g m =
      record {
        first = λ s. absurd s;
        more = λ ws q s. record {
          tree = no_more;
          rest = ws;
          are = refl;
          says = s;
          is =
              record { read = Done; plan = refl; same = refl; within = tt; calm = λ u. refl; next = omega arith };
        };
      }
  plan_reads (Skip wr r) d k h g m =
      let f : Reader front_list (AreList d k (Skip wr r)) (commands_part o ds d (Skip wr r)) =
      λ ws q s.
      let q1 : List Chunk = after d r (commands_part o ds d r) q in
      let y = marks_reader wr.labels h.0 s.1 q1 s.3 in
      let R = (plan_reads r d k h.1 g m).more y.rest q y.says in
      record {
        tree = (skip_of s.0 y.tree, R.tree);
        rest = R.rest;
        are = s.2 ∙ ap (λ x. key_at SkipKey s.0 ∷ x) (y.are ∙ ap (front_marks y.tree) R.are);
        says = R.says;
        is = record {
          read = Skip (record { pos = s.0; labels = wr.labels }) R.is.read;
          plan = skip_same (written sc s.0 y.tree) (record { pos = s.0; labels = wr.labels }) _ _
              (ap (λ x. record { pos = s.0; labels = x }) y.is.value) R.is.plan;
          same = skip_same wr.labels wr.labels _ _ refl R.is.same;
          within = (tt, R.is.within);
          calm = quiet R.is.calm y.is.calm;
          next = R.is.next;
        };
      } in
      record { first = λ _. f; more = more_reader (Skip wr r) d k f }
  plan_reads (Assign wr v e r) d k h g m =
      let f : Reader front_list (AreList d k (Assign wr v e r)) (commands_part o ds d (Assign wr v e r)) =
      λ ws q s.
      let q1 : List Chunk = after d r (commands_part o ds d r) q in
      let a = s.3 in
      let x = reads o.names ds scalar_found array_found e h.2 1 a.1 (marks_part o wr.labels q1) a.3 in
      let y = marks_reader wr.labels h.0 x.rest q1 x.says in
      let R = (plan_reads r d k h.3 g m.1).more y.rest q y.says in
      let w : List ℕ = (cell_at ds v).name in
      record {
        tree = (assign_of w s.0 no_index a.0 x.tree y.tree, R.tree);
        rest = R.rest;
        are = s.2 ∙ ap (λ z. name_at w s.0 ∷ z)
            (a.2 ∙ ap (λ z. sign_at AssignSign a.0 ∷ z) (x.are ∙ ap (front_expression x.tree) (y.are ∙ ap (front_marks y.tree) R.are)));
        says = R.says;
        is = record {
          read = Assign (record { pos = s.0; labels = wr.labels }) v e R.is.read;
          plan = assign_same (written sc s.0 y.tree) (record { pos = s.0; labels = wr.labels }) _ _ _ _ _ _
              (ap (λ x. record { pos = s.0; labels = x }) y.is.value) (ap (or_else 0) (scalar_found v h.1)) x.is.value R.is.plan;
          same = assign_same wr.labels wr.labels v v e e _ _ refl refl refl R.is.same;
          within = ((tt, within d e x.tree m.0 x.is), R.is.within);
          calm = quiet R.is.calm (quiet y.is.calm (quiet x.is.calm (λ u. scalar_calm o.names ds scalar_found array_found v h.1 s.0 u)));
          next = R.is.next;
        };
      } in
      record { first = λ _. f; more = more_reader (Assign wr v e r) d k f }
  plan_reads (Put wr v n j e r) d k h g m =
      let f : Reader front_list (AreList d k (Put wr v n j e r)) (commands_part o ds d (Put wr v n j e r)) =
      λ ws q s.
      let q1 : List Chunk = after d r (commands_part o ds d r) q in
      let q2 : List Chunk = expression_part ds 1 e (marks_part o wr.labels q1) in
      let i = index_reader sc ds j (reads o.names ds scalar_found array_found j h.2 1) s.1 (spaced AssignSign q2) s.3 in
      let a = i.says in
      let x = reads o.names ds scalar_found array_found e h.3 1 a.1 (marks_part o wr.labels q1) a.3 in
      let y = marks_reader wr.labels h.0 x.rest q1 x.says in
      let R = (plan_reads r d k h.4 g m.2).more y.rest q y.says in
      let w : List ℕ = (cell_at ds v).name in
      record {
        tree = (assign_of w s.0 i.tree a.0 x.tree y.tree, R.tree);
        rest = R.rest;
        are = s.2 ∙ ap (λ z. name_at w s.0 ∷ z)
            (i.are ∙ ap (front_index i.tree)
            (a.2 ∙ ap (λ z. sign_at AssignSign a.0 ∷ z) (x.are ∙ ap (front_expression x.tree) (y.are ∙ ap (front_marks y.tree) R.are))));
        says = R.says;
        is = record {
          read = Put (record { pos = s.0; labels = wr.labels }) v n j e R.is.read;
          plan = ap (λ z. assigned sc (written sc s.0 y.tree) w z (expression_value sc x.tree) (plan_more sc k R.tree)) i.is.value
              ∙ put_same (written sc s.0 y.tree) (record { pos = s.0; labels = wr.labels }) _ _ _ _ _ _ _ _ _ _
              (ap (λ x. record { pos = s.0; labels = x }) y.is.value)
              (ap (λ (z : Option (ℕ × ℕ)). (or_else {A = ℕ × ℕ} (0, 0) z).0) (array_found v n h.1))
              (ap (λ (z : Option (ℕ × ℕ)). (or_else {A = ℕ × ℕ} (0, 0) z).1) (array_found v n h.1)) refl x.is.value R.is.plan;
          same = put_same wr.labels wr.labels v v n n j j e e _ _ refl refl refl refl refl R.is.same;
          within = ((index_within d j i.tree m.0 i.is, within d e x.tree m.1 x.is), R.is.within);
          calm = quiet R.is.calm (quiet y.is.calm
              (quiet x.is.calm (quiet i.is.calm (λ u. ap (kept u) (i.is.used w s.0) ∙ array_calm o.names ds scalar_found array_found v n h.1 s.0 u))));
          next = R.is.next;
        };
      } in
      record { first = λ _. f; more = more_reader (Put wr v n j e r) d k f }
  plan_reads (Sleep wr e r) d k h g m =
      let f : Reader front_list (AreList d k (Sleep wr e r)) (commands_part o ds d (Sleep wr e r)) =
      λ ws q s.
      let q1 : List Chunk = after d r (commands_part o ds d r) q in
      let x = reads o.names ds scalar_found array_found e h.1 1 s.1 (marks_part o wr.labels q1) s.3 in
      let y = marks_reader wr.labels h.0 x.rest q1 x.says in
      let R = (plan_reads r d k h.2 g m.1).more y.rest q y.says in
      record {
        tree = (sleep_of s.0 x.tree y.tree, R.tree);
        rest = R.rest;
        are = s.2 ∙ ap (λ z. key_at SleepKey s.0 ∷ z) (x.are ∙ ap (front_expression x.tree) (y.are ∙ ap (front_marks y.tree) R.are));
        says = R.says;
        is = record {
          read = Sleep (record { pos = s.0; labels = wr.labels }) e R.is.read;
          plan = sleep_same (written sc s.0 y.tree) (record { pos = s.0; labels = wr.labels }) _ _ _ _
              (ap (λ x. record { pos = s.0; labels = x }) y.is.value) x.is.value R.is.plan;
          same = sleep_same wr.labels wr.labels e e _ _ refl refl R.is.same;
          within = (within d e x.tree m.0 x.is, R.is.within);
          calm = quiet R.is.calm (quiet y.is.calm x.is.calm);
          next = R.is.next;
        };
      } in
      record { first = λ _. f; more = more_reader (Sleep wr e r) d k f }
  plan_reads (If wr e a b r) d k h g m =
      let f : Reader front_list (AreList d k (If wr e a b r)) (commands_part o ds d (If wr e a b r)) =
      λ ws q s.
      let q1 : List Chunk = after d r (commands_part o ds d r) q in
      let q2 : List Chunk = spaced_key Else (in_braces d (commands_part o ds (d + 1) b) q1) in
      let q3 : List Chunk = spaced_key Then (in_braces d (commands_part o ds (d + 1) a) q2) in
      let i : d + 1 ≤ 100 = omega (arith, m.1) in
      let ma : ℕ = mitigates a in
      let mb : ℕ = mitigates b in
      let x = reads o.names ds scalar_found array_found e h.1 1 s.1 (marks_part o wr.labels q3) s.3 in
      let y = marks_reader wr.labels h.0 x.rest q3 x.says in
      let t = y.says in
      let A = block_reader a d k i ((plan_reads a (d + 1) k h.4 g.0 m.2).first h.2) t.1 q2 t.3 in
      let v = A.says in
      let B = block_reader b d (k + ma) i ((plan_reads b (d + 1) (k + ma) h.5 g.1 m.3).first h.3) v.1 q1 v.3 in
      let R = (plan_reads r d (k + ma + mb) h.6 g.2 m.4).more B.rest q B.says in
      let next : next_block B.tree (next_block A.tree k) ≡ k + ma + mb = ap (next_block B.tree) A.is.next ∙ B.is.next in
      let last : next_more R.tree (next_block B.tree (next_block A.tree k)) ≡ k + ma + mb + mitigates r = ap (next_more R.tree) next ∙ R.is.next in
      record {
        tree = (if_of s.0 x.tree y.tree t.0 A.tree (else_of v.0 B.tree), R.tree);
        rest = R.rest;
        are = s.2 ∙ ap (λ z. key_at IfKey s.0 ∷ z)
            (x.are ∙ ap (front_expression x.tree) (y.are ∙ ap (front_marks y.tree) (t.2 ∙ ap (λ z. key_at Then t.0 ∷ z) (A.are ∙ ap (front_block A.tree)
            (v.2 ∙ ap (λ z. key_at Else v.0 ∷ z) (B.are ∙ ap (front_block B.tree) R.are))))));
        says = R.says;
        is = record {
          read = If (record { pos = s.0; labels = wr.labels }) e A.is.read B.is.read R.is.read;
          plan = if_same (written sc s.0 y.tree) (record { pos = s.0; labels = wr.labels }) _ _ _ _ _ _ _ _
              (ap (λ x. record { pos = s.0; labels = x }) y.is.value) x.is.value A.is.plan
              (ap (λ z. plan_block sc z B.tree) A.is.next ∙ B.is.plan) (ap (λ z. plan_more sc z R.tree) next ∙ R.is.plan);
          same = if_same wr.labels wr.labels e e _ _ _ _ _ _ refl refl A.is.same B.is.same R.is.same;
          within = ((within d e x.tree m.0 x.is, A.is.within, B.is.within), R.is.within);
          calm = quiet R.is.calm (quiet B.is.calm (quiet A.is.calm (quiet y.is.calm x.is.calm)));
          next = omega (arith, last);
        };
      } in
      record { first = λ _. f; more = more_reader (If wr e a b r) d k f }
  plan_reads (While wr e a r) d k h g m =
      let f : Reader front_list (AreList d k (While wr e a r)) (commands_part o ds d (While wr e a r)) =
      λ ws q s.
      let q1 : List Chunk = after d r (commands_part o ds d r) q in
      let q3 : List Chunk = spaced_key Do (in_braces d (commands_part o ds (d + 1) a) q1) in
      let i : d + 1 ≤ 100 = omega (arith, m.1) in
      let ma : ℕ = mitigates a in
      let x = reads o.names ds scalar_found array_found e h.1 1 s.1 (marks_part o wr.labels q3) s.3 in
      let y = marks_reader wr.labels h.0 x.rest q3 x.says in
      let t = y.says in
      let A = block_reader a d k i ((plan_reads a (d + 1) k h.3 g.0 m.2).first h.2) t.1 q1 t.3 in
      let R = (plan_reads r d (k + ma) h.4 g.1 m.3).more A.rest q A.says in
      let last : next_more R.tree (next_block A.tree k) ≡ k + ma + mitigates r = ap (next_more R.tree) A.is.next ∙ R.is.next in
      record {
        tree = (while_of s.0 x.tree y.tree t.0 A.tree, R.tree);
        rest = R.rest;
        are = s.2 ∙ ap (λ z. key_at WhileKey s.0 ∷ z)
            (x.are ∙ ap (front_expression x.tree) (y.are ∙ ap (front_marks y.tree) (t.2 ∙ ap (λ z. key_at Do t.0 ∷ z)
            (A.are ∙ ap (front_block A.tree) R.are))));
        says = R.says;
        is = record {
          read = While (record { pos = s.0; labels = wr.labels }) e A.is.read R.is.read;
          plan = while_same (written sc s.0 y.tree) (record { pos = s.0; labels = wr.labels }) _ _ _ _ _ _
              (ap (λ x. record { pos = s.0; labels = x }) y.is.value) x.is.value A.is.plan
              (ap (λ z. plan_more sc z R.tree) A.is.next ∙ R.is.plan);
          same = while_same wr.labels wr.labels e e _ _ _ _ refl refl A.is.same R.is.same;
          within = ((within d e x.tree m.0 x.is, A.is.within), R.is.within);
          calm = quiet R.is.calm (quiet A.is.calm (quiet y.is.calm x.is.calm));
          next = omega (arith, last);
        };
      } in
      record { first = λ _. f; more = more_reader (While wr e a r) d k f }
  plan_reads (Mitigate wr j w e a r) d k h g m =
      let f : Reader front_list (AreList d k (Mitigate wr j w e a r)) (commands_part o ds d (Mitigate wr j w e a r)) =
      λ ws q s.
      let q1 : List Chunk = after d r (commands_part o ds d r) q in
      let q2 : List Chunk = space ∷ in_braces d (commands_part o ds (d + 1) a) q1 in
      let q3 : List Chunk = a_sign RightRound (marks_part o wr.labels q2) in
      let i : d + 1 ≤ 100 = deep_enough d e m.0 in
      let ma : ℕ = mitigates a in
      let b = s.3 in
      let x = reads o.names ds scalar_found array_found e h.2 1 b.1 (level_part o w q3) b.3 in
      let v = level_reader w h.1 x.rest q3 x.says in
      let t = v.says in
      let y = marks_reader wr.labels h.0 t.1 q2 t.3 in
      let A = block_reader a d (k + 1) i ((plan_reads a (d + 1) (k + 1) h.4 g.1 m.1).first h.3) y.rest q1 y.says in
      let R = (plan_reads r d (k + 1 + ma) h.5 g.2 m.2).more A.rest q A.says in
      let last : next_more R.tree (next_block A.tree (k + 1)) ≡ k + 1 + ma + mitigates r = ap (next_more R.tree) A.is.next ∙ R.is.next in
      record {
        tree = (mitigate_of s.0 b.0 x.tree v.tree t.0 y.tree A.tree, R.tree);
        rest = R.rest;
        are = s.2 ∙ ap (λ z. key_at MitigateKey s.0 ∷ z)
            (b.2 ∙ ap (λ z. sign_at LeftRound b.0 ∷ z) (x.are ∙ ap (front_expression x.tree) (v.are ∙ ap (front_and_name v.tree)
            (t.2 ∙ ap (λ z. sign_at RightRound t.0 ∷ z) (y.are ∙ ap (front_marks y.tree) (A.are ∙ ap (front_block A.tree) R.are))))));
        says = R.says;
        is = record {
          read = Mitigate (record { pos = s.0; labels = wr.labels }) j w e A.is.read R.is.read;
          plan = mitigate_same (written sc s.0 y.tree) (record { pos = s.0; labels = wr.labels }) _ _ _ _ _ _ _ _ _ _
              (ap (λ x. record { pos = s.0; labels = x }) y.is.value) (sym g.0) v.is.value x.is.value A.is.plan
              (ap (λ z. plan_more sc z R.tree) A.is.next ∙ R.is.plan);
          same = mitigate_same wr.labels wr.labels j j w w e e _ _ _ _ refl refl refl refl A.is.same R.is.same;
          within = ((within (d + 1) e x.tree m.0 x.is, A.is.within), R.is.within);
          calm = quiet R.is.calm (quiet A.is.calm (quiet y.is.calm (quiet v.is.calm x.is.calm)));
          next = omega (arith, last);
        };
      } in
      record { first = λ _. f; more = more_reader (Mitigate wr j w e a r) d k f }
