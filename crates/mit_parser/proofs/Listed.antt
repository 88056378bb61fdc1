-- What each way through the functions of commands gives.
use Rattle.std.proofs.Common.{◌≡◌, ◌+◌, ◌-◌, refl, ap, ◌∙◌, sym, ℕ, List, [], ◌∷◌, ◌++◌, append_assoc, Bool, true, false, cond, Option, Some, None, arith}
use Rattle.std.proofs.Common.{Vec, Global}
use Rattle.std.proofs.lemmas.List.{append-nil}
use Rattle.text_base.specs.declared.pos.Pos.{Pos}
use Rattle.label_lattice.specs.declared.label.Label.{Label}
use Rattle.mit_syntax.specs.declared.token.Keyword.TheVariants.{Skip, If, Then, Else, While, Do, Mitigate, Sleep}
use Rattle.mit_syntax.specs.declared.token.Sign.TheVariants.{Assign, Semicolon, Comma, LeftRound, RightRound, LeftBrace, RightBrace, LeftSquare, RightSquare}
use Rattle.mit_syntax.specs.declared.token.Sign.TheVariants.{At}
use Rattle.mit_syntax.specs.declared.ast.Expr.{Expr}
use Rattle.mit_syntax.specs.declared.ast.Command.{Command}
use Rattle.mit_syntax.specs.declared.ast.Form.{If as DIf, While as DWhile, Mitigate as DMitigate}
use Rattle.mit_syntax.specs.Expression.{Expression, expression_of}
use Rattle.mit_syntax.specs.Todo.{Done, Skip as TSkip, Assign as TAssign, Put as TPut, Sleep as TSleep, If as TIf, While as TWhile, Mitigate as TMitigate}
use Rattle.mit_syntax.specs.Plan.{Plan, form_plan, command_plan, list_plan, plan-If, plan-While, plan-Mitigate}
use Rattle.mit_syntax.specs.Declarations.{find_scalar, find_array}
use Rattle.mit_syntax.specs.Chunks.{key, sign, name}
use Rattle.mit_parser.specs.declared.counts.Counts.{Counts}
use Rattle.mit_parser.specs.Words.{Symbol, word, Told, head_symbol, first_pos, is, sign_at, key_at, name_at}
use Rattle.mit_parser.specs.Counting.{count, past_right}
use Rattle.mit_parser.specs.State.{State, with_fault, with_marks}
use Rattle.mit_parser.specs.Scope.{Scope, or_else, kept, label_fault, scalar_fault, array_fault}
use Rattle.mit_parser.specs.Tree.{no_index, and_name, marks_of, skip_of, assign_of, sleep_of, if_of, while_of, mitigate_of, block_of, no_else, else_of}
use Rattle.mit_parser.specs.Tree.{commands_of, no_more, and_more, front_index, front_expression, front_and_name, front_marks, front_command, front_block}
use Rattle.mit_parser.specs.Tree.{front_commands, front_more}
use Rattle.mit_parser.specs.Meaning.{label, both, and_name_value, written, assigned, expression_value, plan_command, plan_block, plan_else, plan_commands}
use Rattle.mit_parser.specs.Meaning.{plan_more, next_command, next_block, next_else, next_commands, next_more}
use Rattle.mit_parser.specs.Faults.{note_index, note_expression, note_and_name, note_marks, note_command, note_block, note_else, note_commands, note_more}
use Rattle.mit_parser.specs.Machine.{Part, want, an_index, an_expr, a_name, second, marks, a_command, a_block, more, otherwise, step, name_step, command_step}
use Rattle.mit_parser.specs.Machine.{after_at, after_brace, verdict}
use Rattle.mit_parser.specs.Reads.{Passed, Took, TookName, TookMark, Accepted, IsWhole, IsIndex, IsSecond, IsMarks, IsCommand, IsBlock, IsElse, IsCommands}
use Rattle.mit_parser.specs.Reads.{CommandsSoFar}
use Rattle.mit_parser.proofs.Rules.{passed, left_out, rule_commands, took_at}
use Rattle.mit_parser.proofs.Atoms.{counts_are, words_are, pos_is, same_depth, no_index_here, use_indexed}

-- a word that is known was taken
pub took_word : (g : Symbol) (old new : State) → head_symbol old.words ≡ g → is g g ≡ true → Passed old new → Took g old new
took_word g old new e h p = took_at g old new (ap (is g) e ∙ h) p

-- a part that begins with a word
pub after_word : (g : Symbol) (part : Part) (next : List Part → List Part) (old new : State)
    → ((s : List Part) → step (part ∷ s) g ≡ step (want g ∷ next s) g) → Took g old new
    → (s : List Part) → verdict (part ∷ s) old.counts old.words ≡ verdict (next s) new.counts new.words
after_word g part next old new e t s =
    let w : g ≡ head_symbol old.words = sym (ap head_symbol t.was) in
    left_out (part ∷ s) (want g ∷ next s) old.counts old.words (ap (step (part ∷ s)) (sym w) ∙ e s ∙ ap (step (want g ∷ next s)) w) ∙ t.goes (next s)

pub took_depth : (g : Symbol) (old new : State) → Took g old new → (count old.counts g).depth ≡ old.counts.depth → new.counts.depth ≡ old.counts.depth
took_depth g old new t h = ap (λ c. c.depth) t.counts ∙ h

pub took_name : (w : List ℕ) (p : Pos) (old new : State) → head_symbol old.words ≡ word (name w) → p ≡ first_pos old.words
    → Passed old new → TookName w p old new
took_name w p old new e q h =
    let d = same_depth old new (word (name w)) e h refl in
    record {
      was = words_are old new (word (name w)) e h ∙ ap (λ z. name_at w z ∷ new.words) (sym (pos_is old new p q h));
      goes = λ s. passed (a_name ∷ s) s h (ap (λ w. name_step w s) e);
      shorter = h.shorter;
      rises = omega (arith, d);
      flag = ap (λ c. c.marks) (counts_are old new (word (name w)) e h);
      fault = h.fault;
      marks = h.marks;
    }

absurd_of : false ≡ true → ⊥
absurd_of e = cc

pub was_there : (g : Symbol) (old new : State) (b : Bool) → b ≡ true → Accepted g old new b → Took g old new
was_there g old new true e h = h
was_there g old new false e h = absurd (absurd_of e)

pub was_absent : (g : Symbol) (old new : State) (b : Bool) → b ≡ false → Accepted g old new b → (new ≡ old) × (is g (head_symbol old.words) ≡ false)
was_absent g old new true e h = absurd (absurd_of (sym e))
was_absent g old new false e h = h

pub second_some : (labels : List (List ℕ)) (old a b : State) (w : List ℕ) (p : Pos) (x : Label) → Took (word (sign Comma)) old a
    → TookName w p a b → x ≡ label labels w
    → IsSecond labels old (with_fault b (kept b.fault (label_fault labels w p))) (Some x)
second_some labels old a b w p x t n e =
    let d = took_depth (word (sign Comma)) old a t refl in (
      record {
        tree = and_name t.place w p;
        spelled = t.was ∙ ap (λ l. sign_at Comma t.place ∷ l) n.was;
        means = ap Some (sym e);
        notes = ap (λ u. kept u (label_fault labels w p)) (n.fault ∙ t.fault);
        next = n.marks ∙ t.marks;
        goes = λ s. after_word (word (sign Comma)) second (λ s. a_name ∷ s) old a (λ s. refl) t s ∙ n.goes s;
        shorter = omega (arith, t.shorter, n.shorter);
        rises = omega (arith, d, n.rises);
      },
      n.flag ∙ ap (λ c. c.marks) t.counts,
    )

-- the machine after the first label of marks
pub goes_on : (old a b c : State) (w : List ℕ) (p : Pos) → Took (word (sign At)) old a → Took (word (sign LeftSquare)) a b → TookName w p b c → (s : List Part)
    → verdict (marks ∷ s) old.counts old.words ≡ verdict (second ∷ want (word (sign RightSquare)) ∷ s) c.counts c.words
goes_on old a b c w p t q n s =
    after_word (word (sign At)) marks after_at old a (λ s. refl) t s
    ∙ q.goes (a_name ∷ second ∷ want (word (sign RightSquare)) ∷ s) ∙ n.goes (second ∷ want (word (sign RightSquare)) ∷ s)

-- the bracket that closes marks
marks_end : (c : Counts) → c.marks ≡ true → (count c (word (sign RightSquare))).depth ≡ c.depth
marks_end c e = ap (λ b. (cond {A = Counts} b (record { depth = c.depth; operators = 0; at = false; marks = false }) (past_right c)).depth) e

module _ (labels : List (List ℕ)) (old a b c d new : State) (w : List ℕ) (p : Pos) (x : Label) (y : Option Label)
    (t : Took (word (sign At)) old a) (q : Took (word (sign LeftSquare)) a b) (n : TookName w p b c) (e : x ≡ label labels w)
    (r : IsSecond labels (with_fault c (kept c.fault (label_fault labels w p))) d y) where
  pub marks_some : Took (word (sign RightSquare)) d new → IsMarks labels old new (Some (both x y))
  marks_some v =
      let flag : d.counts.marks ≡ true = r.1 ∙ n.flag ∙ ap (λ c. c.marks) q.counts ∙ ap (λ c. (count c (word (sign LeftSquare))).marks) t.counts in
      let i : b.counts.depth ≡ old.counts.depth = ap (λ c. c.depth) q.counts ∙ ap (λ c. (count c (word (sign LeftSquare))).depth) t.counts in
      let j : new.counts.depth ≡ d.counts.depth = ap (λ c. c.depth) v.counts ∙ marks_end d.counts flag in
      record {
        tree = marks_of t.place q.place w p r.0.tree v.place;
        spelled = t.was ∙ ap (λ l. sign_at At t.place ∷ l) (q.was ∙ ap (λ l. sign_at LeftSquare q.place ∷ l) (n.was
            ∙ ap (λ l. name_at w p ∷ l) (r.0.spelled ∙ ap (front_and_name r.0.tree) v.was)));
        means = ap (λ o. Some (both (label labels w) o)) r.0.means ∙ ap (λ z. Some (both z y)) (sym e);
        notes = v.fault ∙ r.0.notes ∙ ap (note_and_name labels r.0.tree) (ap (λ u. kept u (label_fault labels w p)) (n.fault ∙ q.fault ∙ t.fault));
        next = v.marks ∙ r.0.next ∙ n.marks ∙ q.marks ∙ t.marks;
        goes = λ s. goes_on old a b c w p t q n s ∙ r.0.goes (want (word (sign RightSquare)) ∷ s) ∙ v.goes s;
        shorter = omega (arith, t.shorter, q.shorter, n.shorter, r.0.shorter, v.shorter);
        rises = omega (arith, i, j, n.rises, r.0.rises);
      }

-- a part that may be left out and is not there
pub not_there : (g : Symbol) (part : Part) (there : List Part → Option (List Part)) (now : State)
    → is g (head_symbol now.words) ≡ false → ((s : List Part) (w : Symbol) → step (part ∷ s) w ≡ cond (is g w) (there s) (step s w))
    → (s : List Part) → verdict (part ∷ s) now.counts now.words ≡ verdict s now.counts now.words
not_there g part there now e h s =
    left_out (part ∷ s) s now.counts now.words (h s (head_symbol now.words) ∙ ap (λ b. cond b (there s) (step s (head_symbol now.words))) e)

-- the machine after the first word of a command
pub after_key : (g : Symbol) (next : List Part → List Part) (old a : State) → ((s : List Part) → command_step g s ≡ Some (next s))
    → head_symbol old.words ≡ g → Passed old a
    → (s : List Part) → verdict (a_command ∷ s) old.counts old.words ≡ verdict (next s) a.counts a.words
after_key g next old a h e p s = passed (a_command ∷ s) (next s) p (ap (λ w. command_step w s) e ∙ h s)

module _ (sc : Scope) (old : State) (p : Pos) (at : p ≡ first_pos old.words) where
  pub command_skip : (a new : State) (m : Option (Label × Label)) → head_symbol old.words ≡ word (key Skip) → Passed old a → IsMarks sc.labels a new m
      → IsCommand sc old new (λ rest. TSkip (record { pos = p; labels = m }) rest)
  command_skip a new m e h k =
      let d = same_depth old a (word (key Skip)) e h refl in
      record {
        tree = skip_of h.first.pos k.tree;
        spelled = words_are old a (word (key Skip)) e h ∙ ap (λ l. key_at Skip h.first.pos ∷ l) k.spelled;
        means = λ rest. ap (λ z. TSkip (record { pos = z; labels = m }) rest) (pos_is old a p at h)
            ∙ ap (λ z. TSkip (record { pos = h.first.pos; labels = z }) rest) (sym k.means);
        notes = k.notes ∙ ap (note_marks sc.labels k.tree) h.fault;
        next = k.next ∙ h.marks;
        goes = λ s. after_key (word (key Skip)) (λ s. marks ∷ s) old a (λ s. refl) e h s ∙ k.goes s;
        shorter = omega (arith, h.shorter, k.shorter);
        rises = omega (arith, d, k.rises);
      }

  pub command_sleep : (a b new : State) (x : Expression) (m : Option (Label × Label)) → head_symbol old.words ≡ word (key Sleep) → Passed old a
      → IsWhole sc a b x → IsMarks sc.labels b new m
      → IsCommand sc old new (λ rest. TSleep (record { pos = p; labels = m }) x rest)
  command_sleep a b new x m e h y k =
      let d = same_depth old a (word (key Sleep)) e h refl in
      record {
        tree = sleep_of h.first.pos y.tree k.tree;
        spelled = words_are old a (word (key Sleep)) e h ∙ ap (λ l. key_at Sleep h.first.pos ∷ l) (y.spelled ∙ ap (front_expression y.tree) k.spelled);
        means = λ rest. ap (λ z. TSleep (record { pos = z; labels = m }) x rest) (pos_is old a p at h)
            ∙ ap (λ z. TSleep (record { pos = h.first.pos; labels = z }) x rest) (sym k.means)
            ∙ ap (λ z. TSleep (written sc h.first.pos k.tree) z rest) (sym y.means);
        notes = k.notes ∙ ap (note_marks sc.labels k.tree) (y.notes ∙ ap (note_expression sc y.tree) h.fault);
        next = k.next ∙ y.next ∙ h.marks;
        goes = λ s. after_key (word (key Sleep)) (λ s. an_expr ∷ marks ∷ s) old a (λ s. refl) e h s ∙ y.goes (marks ∷ s) ∙ k.goes s;
        shorter = omega (arith, h.shorter, y.shorter, k.shorter);
        rises = omega (arith, d, y.rises, k.rises);
      }

  -- the machine after the name of an assignment
  pub after_target : (a : State) (w : List ℕ) → head_symbol old.words ≡ word (name w) → Passed old a → (s : List Part)
      → verdict (a_command ∷ s) old.counts old.words ≡ verdict (an_index ∷ want (word (sign Assign)) ∷ an_expr ∷ marks ∷ s) a.counts a.words
  after_target a w e h s = after_key (word (name w)) (λ s. an_index ∷ want (word (sign Assign)) ∷ an_expr ∷ marks ∷ s) old a (λ s. refl) e h s

  pub after_scalar : (a : State) (w : List ℕ) → head_symbol old.words ≡ word (name w) → Passed old a
      → is (word (sign LeftSquare)) (head_symbol a.words) ≡ false → (s : List Part)
      → verdict (a_command ∷ s) old.counts old.words ≡ verdict (want (word (sign Assign)) ∷ an_expr ∷ marks ∷ s) a.counts a.words
  after_scalar a w e h n s = after_target a w e h s ∙ no_index_here a (want (word (sign Assign)) ∷ an_expr ∷ marks ∷ s) n

  pub command_assign : (a b c new : State) (w : List ℕ) (v : ℕ) (x : Expression) (m : Option (Label × Label))
      → head_symbol old.words ≡ word (name w) → Passed old a
      → is (word (sign LeftSquare)) (head_symbol a.words) ≡ false → v ≡ or_else 0 (find_scalar sc.declarations w)
      → Took (word (sign Assign)) (with_fault a (kept a.fault (scalar_fault sc.declarations w p))) b → IsWhole sc b c x → IsMarks sc.labels c new m
      → IsCommand sc old new (λ rest. TAssign (record { pos = p; labels = m }) v x rest)
  command_assign a b c new w v x m e h n i t y k =
      let d = same_depth old a (word (name w)) e h refl in
      let u = took_depth (word (sign Assign)) _ b t refl in
      record {
        tree = assign_of w h.first.pos no_index t.place y.tree k.tree;
        spelled = words_are old a (word (name w)) e h
            ∙ ap (λ l. name_at w h.first.pos ∷ l) (t.was ∙ ap (λ l. sign_at Assign t.place ∷ l) (y.spelled ∙ ap (front_expression y.tree) k.spelled));
        means = λ rest. ap (λ z. TAssign (record { pos = z; labels = m }) v x rest) (pos_is old a p at h)
            ∙ ap (λ z. TAssign (record { pos = h.first.pos; labels = z }) v x rest) (sym k.means)
            ∙ ap (λ z. TAssign (written sc h.first.pos k.tree) z x rest) i
            ∙ ap (λ z. TAssign (written sc h.first.pos k.tree) (or_else 0 (find_scalar sc.declarations w)) z rest) (sym y.means);
        notes = k.notes ∙ ap (note_marks sc.labels k.tree) (y.notes ∙ ap (note_expression sc y.tree) (t.fault
            ∙ ap (λ z. kept z (scalar_fault sc.declarations w p)) h.fault ∙ ap (λ z. kept old.fault (scalar_fault sc.declarations w z)) (pos_is old a p at h)));
        next = k.next ∙ y.next ∙ t.marks ∙ h.marks;
        goes = λ s. after_scalar a w e h n s ∙ t.goes (an_expr ∷ marks ∷ s) ∙ y.goes (marks ∷ s) ∙ k.goes s;
        shorter = omega (arith, h.shorter, t.shorter, y.shorter, k.shorter);
        rises = omega (arith, d, u, y.rises, k.rises);
      }

  pub command_put : (a b c f new : State) (w : List ℕ) (r : ℕ × ℕ) (i x : Expression) (m : Option (Label × Label))
      → head_symbol old.words ≡ word (name w) → Passed old a
      → r ≡ or_else (0, 0) (find_array sc.declarations w)
      → IsIndex sc (with_fault a (kept a.fault (array_fault sc.declarations w p))) b i → Took (word (sign Assign)) b c
      → IsWhole sc c f x → IsMarks sc.labels f new m
      → IsCommand sc old new (λ rest. TPut (record { pos = p; labels = m }) r.0 r.1 i x rest)
  command_put a b c f new w r i x m e h j o t y k =
      let d = same_depth old a (word (name w)) e h refl in
      let u = took_depth (word (sign Assign)) b c t refl in
      let ind = use_indexed sc w h.first.pos o.tree i o.means in
      record {
        tree = assign_of w h.first.pos o.tree t.place y.tree k.tree;
        spelled = words_are old a (word (name w)) e h ∙ ap (λ l. name_at w h.first.pos ∷ l) (o.spelled ∙ ap (front_index o.tree) (t.was
            ∙ ap (λ l. sign_at Assign t.place ∷ l) (y.spelled ∙ ap (front_expression y.tree) k.spelled)));
        means = λ rest. ap (λ z. TPut (record { pos = z; labels = m }) r.0 r.1 i x rest) (pos_is old a p at h)
            ∙ ap (λ z. TPut (record { pos = h.first.pos; labels = z }) r.0 r.1 i x rest) (sym k.means)
            ∙ ap (λ (z : ℕ × ℕ). TPut (written sc h.first.pos k.tree) z.0 z.1 i x rest) j
            ∙ ap (λ z. assigned sc (written sc h.first.pos k.tree) w (Some i) z rest) (sym y.means)
            ∙ ap (λ z. assigned sc (written sc h.first.pos k.tree) w z (expression_value sc y.tree) rest) (sym o.means);
        notes = k.notes ∙ ap (note_marks sc.labels k.tree) (y.notes ∙ ap (note_expression sc y.tree) (t.fault ∙ o.notes ∙ ap (note_index sc o.tree)
            (ap (λ z. kept z (array_fault sc.declarations w p)) h.fault ∙ ap (λ z. kept old.fault (array_fault sc.declarations w z)) (pos_is old a p at h)
            ∙ ap (kept old.fault) (sym ind))));
        next = k.next ∙ y.next ∙ t.marks ∙ o.next ∙ h.marks;
        goes = λ s. after_target a w e h s ∙ o.goes (want (word (sign Assign)) ∷ an_expr ∷ marks ∷ s) ∙ t.goes (an_expr ∷ marks ∷ s)
            ∙ y.goes (marks ∷ s) ∙ k.goes s;
        shorter = omega (arith, h.shorter, o.shorter, t.shorter, y.shorter, k.shorter);
        rises = omega (arith, d, o.rises, u, y.rises, k.rises);
      }

  pub after_if : (a : State) → head_symbol old.words ≡ word (key If) → Passed old a → (s : List Part)
      → verdict (a_command ∷ s) old.counts old.words ≡ verdict (an_expr ∷ marks ∷ want (word (key Then)) ∷ a_block ∷ otherwise ∷ s) a.counts a.words
  after_if a e h s = after_key (word (key If)) (λ s. an_expr ∷ marks ∷ want (word (key Then)) ∷ a_block ∷ otherwise ∷ s) old a (λ s. refl) e h s

  pub command_if : (a b c d f new : State) (v : Expr) (m : Option (Label × Label)) (xs ys : Vec Command Global)
      → head_symbol old.words ≡ word (key If) → Passed old a
      → IsWhole sc a b (expression_of v) → IsMarks sc.labels b c m → Took (word (key Then)) c d → IsBlock sc d f (list_plan xs.items)
      → IsElse sc p f new (list_plan ys.items)
      → IsCommand sc old new (λ rest. form_plan (DIf v xs ys) (record { pos = p; labels = m }) rest)
  command_if a b c d f new v m xs ys e h y k t x o =
      let j = same_depth old a (word (key If)) e h refl in
      let u = took_depth (word (key Then)) c d t refl in
      let same : d.marks ≡ old.marks = t.marks ∙ k.next ∙ y.next ∙ h.marks in
      record {
        tree = if_of h.first.pos y.tree k.tree t.place x.tree o.tree;
        spelled = words_are old a (word (key If)) e h
            ∙ ap (λ l. key_at If h.first.pos ∷ l) (y.spelled ∙ ap (front_expression y.tree) (k.spelled ∙ ap (front_marks k.tree) (t.was
            ∙ ap (λ l. key_at Then t.place ∷ l) (x.spelled ∙ ap (front_block x.tree) o.spelled))));
        means = λ rest. plan-If v xs ys (record { pos = p; labels = m }) rest
            ∙ ap (λ z. TIf (record { pos = p; labels = m }) (expression_of v) (list_plan xs.items) z rest)
            (o.means ∙ ap (λ z. plan_else sc p z o.tree) (x.next ∙ ap (next_block x.tree) same)
            ∙ ap (λ z. plan_else sc z (next_block x.tree old.marks) o.tree) (pos_is old a p at h))
            ∙ ap (λ z. TIf (record { pos = p; labels = m }) (expression_of v) z (plan_else sc h.first.pos (next_block x.tree old.marks) o.tree) rest)
            (x.means ∙ ap (λ z. plan_block sc z x.tree) same)
            ∙ ap (λ z. TIf (record { pos = z; labels = m }) (expression_of v) (plan_block sc old.marks x.tree)
            (plan_else sc h.first.pos (next_block x.tree old.marks) o.tree) rest) (pos_is old a p at h)
            ∙ ap (λ z. TIf (record { pos = h.first.pos; labels = z }) (expression_of v) (plan_block sc old.marks x.tree)
            (plan_else sc h.first.pos (next_block x.tree old.marks) o.tree) rest) (sym k.means)
            ∙ ap (λ z. TIf (written sc h.first.pos k.tree) z (plan_block sc old.marks x.tree) (plan_else sc h.first.pos (next_block x.tree old.marks) o.tree)
            rest) (sym y.means);
        notes = o.notes ∙ ap (note_else sc o.tree)
            (x.notes ∙ ap (note_block sc x.tree) (t.fault ∙ k.notes ∙ ap (note_marks sc.labels k.tree) (y.notes ∙ ap (note_expression sc y.tree) h.fault)));
        next = o.next ∙ ap (next_else o.tree) (x.next ∙ ap (next_block x.tree) same);
        goes = λ s. after_if a e h s ∙ y.goes (marks ∷ want (word (key Then)) ∷ a_block ∷ otherwise ∷ s)
            ∙ k.goes (want (word (key Then)) ∷ a_block ∷ otherwise ∷ s)
            ∙ t.goes (a_block ∷ otherwise ∷ s) ∙ x.goes (otherwise ∷ s) ∙ o.goes s;
        shorter = omega (arith, h.shorter, y.shorter, k.shorter, t.shorter, x.shorter, o.shorter);
        rises = omega (arith, j, y.rises, k.rises, u, x.rises, o.rises);
      }

  pub after_while : (a : State) → head_symbol old.words ≡ word (key While) → Passed old a → (s : List Part)
      → verdict (a_command ∷ s) old.counts old.words ≡ verdict (an_expr ∷ marks ∷ want (word (key Do)) ∷ a_block ∷ s) a.counts a.words
  after_while a e h s = after_key (word (key While)) (λ s. an_expr ∷ marks ∷ want (word (key Do)) ∷ a_block ∷ s) old a (λ s. refl) e h s

  pub command_while : (a b c d new : State) (v : Expr) (m : Option (Label × Label)) (xs : Vec Command Global)
      → head_symbol old.words ≡ word (key While) → Passed old a
      → IsWhole sc a b (expression_of v) → IsMarks sc.labels b c m → Took (word (key Do)) c d → IsBlock sc d new (list_plan xs.items)
      → IsCommand sc old new (λ rest. form_plan (DWhile v xs) (record { pos = p; labels = m }) rest)
  command_while a b c d new v m xs e h y k t x =
      let j = same_depth old a (word (key While)) e h refl in
      let u = took_depth (word (key Do)) c d t refl in
      let same : d.marks ≡ old.marks = t.marks ∙ k.next ∙ y.next ∙ h.marks in
      record {
        tree = while_of h.first.pos y.tree k.tree t.place x.tree;
        spelled = words_are old a (word (key While)) e h
            ∙ ap (λ l. key_at While h.first.pos ∷ l) (y.spelled ∙ ap (front_expression y.tree) (k.spelled ∙ ap (front_marks k.tree) (t.was
            ∙ ap (λ l. key_at Do t.place ∷ l) x.spelled)));
        means = λ rest. plan-While v xs (record { pos = p; labels = m }) rest
            ∙ ap (λ z. TWhile (record { pos = p; labels = m }) (expression_of v) z rest) (x.means ∙ ap (λ z. plan_block sc z x.tree) same)
            ∙ ap (λ z. TWhile (record { pos = z; labels = m }) (expression_of v) (plan_block sc old.marks x.tree) rest) (pos_is old a p at h)
            ∙ ap (λ z. TWhile (record { pos = h.first.pos; labels = z }) (expression_of v) (plan_block sc old.marks x.tree) rest) (sym k.means)
            ∙ ap (λ z. TWhile (written sc h.first.pos k.tree) z (plan_block sc old.marks x.tree) rest) (sym y.means);
        notes = x.notes ∙ ap (note_block sc x.tree) (t.fault ∙ k.notes ∙ ap (note_marks sc.labels k.tree) (y.notes ∙ ap (note_expression sc y.tree) h.fault));
        next = x.next ∙ ap (next_block x.tree) same;
        goes = λ s. after_while a e h s ∙ y.goes (marks ∷ want (word (key Do)) ∷ a_block ∷ s) ∙ k.goes (want (word (key Do)) ∷ a_block ∷ s)
            ∙ t.goes (a_block ∷ s) ∙ x.goes s;
        shorter = omega (arith, h.shorter, y.shorter, k.shorter, t.shorter, x.shorter);
        rises = omega (arith, j, y.rises, k.rises, u, x.rises);
      }

  pub after_mitigate : (k : ℕ) (a : State) → head_symbol old.words ≡ word (key Mitigate) → TookMark k old a → (s : List Part)
      → verdict (a_command ∷ s) old.counts old.words
      ≡ verdict (want (word (sign LeftRound)) ∷ an_expr ∷ second ∷ want (word (sign RightRound)) ∷ marks ∷ a_block ∷ s) a.counts a.words
  after_mitigate k a e h s = after_key (word (key Mitigate))
      (λ s. want (word (sign LeftRound)) ∷ an_expr ∷ second ∷ want (word (sign RightRound)) ∷ marks ∷ a_block ∷ s) old (with_marks a k) (λ s. refl) e h.passed s

  pub command_mitigate : (a b c d f g new : State) (n : ℕ) (v : Expr) (l : Option Label) (m : Option (Label × Label)) (xs : Vec Command Global)
      → head_symbol old.words ≡ word (key Mitigate) → TookMark n old a
      → Took (word (sign LeftRound)) a b → IsWhole sc b c (expression_of v) → IsSecond sc.labels c d l → Took (word (sign RightRound)) d f
      → IsMarks sc.labels f g m → IsBlock sc g new (list_plan xs.items)
      → IsCommand sc old new (λ rest. form_plan (DMitigate n v l xs) (record { pos = p; labels = m }) rest)
  command_mitigate a b c d f g new n v l m xs e h t y q r k x =
      let j : a.counts.depth ≡ old.counts.depth = same_depth old (with_marks a n) (word (key Mitigate)) e h.passed refl in
      let i : b.counts.depth ≡ a.counts.depth + 1 = ap (λ c. c.depth) t.counts in
      let w : f.counts.depth ≡ d.counts.depth - 1 = ap (λ c. c.depth) r.counts in
      let same : g.marks ≡ old.marks + 1 = k.next ∙ r.marks ∙ q.0.next ∙ y.next ∙ t.marks ∙ h.next in
      record {
        tree = mitigate_of h.passed.first.pos t.place y.tree q.0.tree r.place k.tree x.tree;
        spelled = words_are old (with_marks a n) (word (key Mitigate)) e h.passed
            ∙ ap (λ l. key_at Mitigate h.passed.first.pos ∷ l) (t.was ∙ ap (λ l. sign_at LeftRound t.place ∷ l) (y.spelled
            ∙ ap (front_expression y.tree) (q.0.spelled
            ∙ ap (front_and_name q.0.tree) (r.was ∙ ap (λ l. sign_at RightRound r.place ∷ l) (k.spelled ∙ ap (front_marks k.tree) x.spelled)))));
        means = λ rest. plan-Mitigate n v l xs (record { pos = p; labels = m }) rest
            ∙ ap (λ z. TMitigate (record { pos = p; labels = m }) n l (expression_of v) z rest) (x.means ∙ ap (λ z. plan_block sc z x.tree) same)
            ∙ ap (λ z. TMitigate (record { pos = z; labels = m }) n l (expression_of v) (plan_block sc (old.marks + 1) x.tree) rest)
            (pos_is old (with_marks a n) p at h.passed)
            ∙ ap (λ z. TMitigate (record { pos = h.passed.first.pos; labels = z }) n l (expression_of v) (plan_block sc (old.marks + 1) x.tree) rest)
            (sym k.means)
            ∙ ap (λ z. TMitigate (written sc h.passed.first.pos k.tree) z l (expression_of v) (plan_block sc (old.marks + 1) x.tree) rest) h.number
            ∙ ap (λ z. TMitigate (written sc h.passed.first.pos k.tree) old.marks z (expression_of v) (plan_block sc (old.marks + 1) x.tree) rest)
            (sym q.0.means)
            ∙ ap (λ z. TMitigate (written sc h.passed.first.pos k.tree) old.marks (and_name_value sc.labels q.0.tree) z
            (plan_block sc (old.marks + 1) x.tree) rest) (sym y.means);
        notes = x.notes ∙ ap (note_block sc x.tree)
            (k.notes ∙ ap (note_marks sc.labels k.tree) (r.fault ∙ q.0.notes
            ∙ ap (note_and_name sc.labels q.0.tree) (y.notes ∙ ap (note_expression sc y.tree) (t.fault ∙ h.passed.fault))));
        next = x.next ∙ ap (next_block x.tree) same;
        goes = λ s. after_mitigate n a e h s ∙ t.goes (an_expr ∷ second ∷ want (word (sign RightRound)) ∷ marks ∷ a_block ∷ s)
            ∙ y.goes (second ∷ want (word (sign RightRound)) ∷ marks ∷ a_block ∷ s)
            ∙ q.0.goes (want (word (sign RightRound)) ∷ marks ∷ a_block ∷ s) ∙ r.goes (marks ∷ a_block ∷ s) ∙ k.goes (a_block ∷ s) ∙ x.goes s;
        shorter = omega (arith, h.passed.shorter, t.shorter, y.shorter, q.0.shorter, r.shorter, k.shorter, x.shorter);
        rises = omega (arith, j, i, y.rises, q.0.rises, w, k.rises, x.rises);
      }

module _ (sc : Scope) where
  pub rule_block : (s : List Part) (c : Counts) (i : List Told) → verdict (a_block ∷ s) c i ≡ verdict (want (word (sign LeftBrace)) ∷ after_brace s) c i
  rule_block s c [] = refl
  rule_block s c (b ∷ r) = refl

  pub block_all : (old a b new : State) (l : Plan) → Took (word (sign LeftBrace)) old a → IsCommands sc a b l
      → Took (word (sign RightBrace)) b new → IsBlock sc old new l
  block_all old a b new l t x u =
      let up : a.counts.depth ≡ old.counts.depth + 1 = ap (λ c. c.depth) t.counts in
      let down : new.counts.depth ≡ b.counts.depth - 1 = ap (λ c. c.depth) u.counts in
      record {
        tree = block_of t.place x.tree u.place;
        spelled = t.was ∙ ap (λ l. sign_at LeftBrace t.place ∷ l) (x.spelled ∙ ap (front_commands x.tree) u.was);
        means = x.means ∙ ap (λ z. plan_commands sc z x.tree) t.marks;
        notes = u.fault ∙ x.notes ∙ ap (note_commands sc x.tree) t.fault;
        next = u.marks ∙ x.next ∙ ap (next_commands x.tree) t.marks;
        goes = λ s. after_word (word (sign LeftBrace)) a_block after_brace old a (λ s. refl) t s ∙ x.goes (want (word (sign RightBrace)) ∷ s) ∙ u.goes s;
        shorter = omega (arith, t.shorter, x.shorter, u.shorter);
        rises = omega (arith, up, down, x.rises);
      }

  pub after_else : (old new : State) → Took (word (key Else)) old new → (s : List Part)
      → verdict (otherwise ∷ s) old.counts old.words ≡ verdict (a_block ∷ s) new.counts new.words
  after_else old new = after_word (word (key Else)) otherwise (λ s. a_block ∷ s) old new (λ s. refl)

  pub else_block : (p : Pos) (old a new : State) (l : Plan) → Took (word (key Else)) old a → IsBlock sc a new l → IsElse sc p old new l
  else_block p old a new l t x =
      let d = took_depth (word (key Else)) old a t refl in
      record {
        tree = else_of t.place x.tree;
        spelled = t.was ∙ ap (λ l. key_at Else t.place ∷ l) x.spelled;
        means = x.means ∙ ap (λ z. plan_block sc z x.tree) t.marks;
        notes = x.notes ∙ ap (note_block sc x.tree) t.fault;
        next = x.next ∙ ap (next_block x.tree) t.marks;
        goes = λ s. after_else old a t s ∙ x.goes s;
        shorter = omega (arith, t.shorter, x.shorter);
        rises = omega (arith, d, x.rises);
      }

  pub else_none : (p : Pos) (now : State) → is (word (key Else)) (head_symbol now.words) ≡ false
      → IsElse sc p now now (TSkip (record { pos = p; labels = None }) Done)
  else_none p now e =
      record {
        tree = no_else;
        spelled = refl;
        means = refl;
        notes = refl;
        next = refl;
        goes = not_there (word (key Else)) otherwise (λ s. Some (a_block ∷ s)) now e (λ s w. refl);
        shorter = omega arith;
        rises = omega arith;
      }

  pub commands_first : (old now : State) (x : Command) (list : List Command) → IsCommand sc old now (command_plan x) → list ≡ x ∷ []
      → CommandsSoFar sc old now list
  commands_first old now x list k e =
      record {
        builds = λ m j h. (
          commands_of k.tree m,
          k.spelled ∙ ap (front_command k.tree) h,
          λ xs l. ap (λ z. list_plan (z ++ xs)) e ∙ k.means (list_plan xs) ∙ ap (plan_command sc old.marks k.tree) (l ∙ ap (λ n. plan_more sc n m) k.next),
          ap (note_more sc m) k.notes,
          ap (next_more m) k.next,
        );
        goes = λ s. rule_commands s old.counts old.words ∙ k.goes (more ∷ s);
        shorter = k.shorter;
        rises = k.rises;
      }

  pub after_semicolon : (old new : State) → Took (word (sign Semicolon)) old new → (s : List Part)
      → verdict (more ∷ s) old.counts old.words ≡ verdict (a_command ∷ more ∷ s) new.counts new.words
  after_semicolon old new = after_word (word (sign Semicolon)) more (λ s. a_command ∷ more ∷ s) old new (λ s. refl)

  pub commands_next : (old now a new : State) (x : Command) (list next : List Command) → CommandsSoFar sc old now list → Took (word (sign Semicolon)) now a
      → IsCommand sc a new (command_plan x)
      → next ≡ list ++ x ∷ [] → CommandsSoFar sc old new next
  commands_next old now a new x list next f t k e =
      let d = took_depth (word (sign Semicolon)) now a t refl in
      record {
        builds = λ m j h.
            let here : now.words ≡ front_more (and_more t.place k.tree m) j =
            t.was ∙ ap (λ l. sign_at Semicolon t.place ∷ l) (k.spelled ∙ ap (front_command k.tree) h) in
            let b = f.builds (and_more t.place k.tree m) j here in (
              b.0,
              b.1,
              λ xs l.
                  ap (λ z. list_plan (z ++ xs)) e ∙ ap list_plan (append_assoc list (x ∷ []) xs)
                  ∙ b.2 (x ∷ xs) (k.means (list_plan xs) ∙ ap (λ z. plan_command sc z k.tree (list_plan xs)) t.marks
                  ∙ ap (plan_command sc now.marks k.tree) (l ∙ ap (λ n. plan_more sc n m) (k.next ∙ ap (next_command k.tree) t.marks))),
              ap (note_more sc m) (k.notes ∙ ap (note_command sc k.tree) t.fault) ∙ b.3,
              ap (next_more m) (k.next ∙ ap (next_command k.tree) t.marks) ∙ b.4,
            );
        goes = λ s. f.goes s ∙ after_semicolon now a t s ∙ k.goes (more ∷ s);
        shorter = omega (arith, f.shorter, t.shorter, k.shorter);
        rises = omega (arith, f.rises, d, k.rises);
      }

  pub commands_last : (old now : State) (list : List Command) → CommandsSoFar sc old now list → is (word (sign Semicolon)) (head_symbol now.words) ≡ false
      → IsCommands sc old now (list_plan list)
  commands_last old now list f e =
      let b = f.builds no_more now.words refl in
      record {
        tree = b.0;
        spelled = b.1;
        means = ap list_plan (sym (append-nil list)) ∙ b.2 [] refl;
        notes = b.3;
        next = b.4;
        goes = λ s. f.goes s ∙ not_there (word (sign Semicolon)) more (λ s. Some (a_command ∷ more ∷ s)) now e (λ s w. refl) s;
        shorter = f.shorter;
        rises = f.rises;
      }
