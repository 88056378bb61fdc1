-- Commands, put one after another.
use Rattle.std.proofs.Common.{◌≡◌, refl, ap, sym, subst, ◌∙◌, List, ◌∷◌, ◌++◌, ℕ, zero, suc, ◌<◌, ◌≤◌, ◌+◌, drop, get_or, length, add-one, arith, Vec, Global}
use Rattle.std.proofs.Common.{Option}
use Rattle.std.proofs.lemmas.List.{drop_all}
use Rattle.label_lattice.specs.declared.label.Label.{Label}
use Rattle.label_lattice.specs.Order.{Order}
use Rattle.mit_syntax.specs.declared.ast.Expr.{Expr}
use Rattle.mit_syntax.specs.declared.ast.Command.{Command}
use Rattle.mit_syntax.specs.declared.ast.Form.{Form, Skip as FSkip, Assign as FAssign, Put as FPut, Sleep as FSleep, If' as FIf, While' as FWhile}
use Rattle.mit_syntax.specs.declared.ast.Form.{Mitigate' as FMitigate, While as DWhile, If as DIf, Mitigate as DMitigate}
use Rattle.mit_syntax.specs.declared.token.Keyword.TheVariants.{If as IfKey, Then, Else, While as WhileKey, Do, Mitigate as MitigateKey, Sleep as SleepKey}
use Rattle.mit_syntax.specs.declared.token.Sign.TheVariants.{Assign as AssignSign, LeftRound, RightRound}
use Rattle.mit_syntax.specs.Chunks.{Chunk, text}
use Rattle.mit_syntax.specs.Declarations.{Declaration, cell_at, variables}
use Rattle.mit_syntax.specs.Expression.{expression_of}
use Rattle.mit_syntax.specs.Limits.{AreSmall}
use Rattle.mit_syntax.specs.Todo.{Done, Assign, Put, If, While, Mitigate}
use Rattle.mit_syntax.specs.Plan.{Plan, Written, form_plan, list_plan, command_plan}
use Rattle.mit_syntax.specs.Valid.{AreKnown, AreMarksBelow, IsBelow}
use Rattle.mit_syntax.specs.Layout.{Part, Puts, a_key, a_sign, a_name, a_space, spaced, spaced_key, in_square, in_braces, expression_part, marks_part}
use Rattle.mit_syntax.specs.Layout.{level_part, after, separator, commands_part}
use Rattle.mit_syntax.specs.Printable.{IsPrintable}
use Rattle.mit_syntax.proofs.Putting.{puts_then}
use Rattle.mit_syntax.proofs.Facts.{scalar_below, array_first_below}
use Rattle.mit_syntax.proofs.Counting.{front_of, if_plan, while_plan, mitigate_plan}

abbrev pub written : Command → Written
written k = record { pos = k.pos; labels = k.labels }

pub as_form : (k : Command) (f : Form) → k.form ≡ f → command_plan k Done ≡ form_plan f (written k) Done
as_form k f h = ap (λ z. form_plan z (record { pos = k.pos; labels = k.labels }) Done) h

pub puts_form : {a z : List ℕ} (o : Order) (ds : List Declaration) (d : ℕ) (k : Command) (p : Plan) → command_plan k Done ≡ p
    → Puts a z (commands_part o ds d p) → Puts a z (commands_part o ds d (command_plan k Done))
puts_form {a} {z} o ds d k p h x = subst (λ (q : Plan). Puts a z (commands_part o ds d q)) (sym h) x

pub printable_form : (n : ℕ) (ds : List Declaration) (d : ℕ) (k : Command) (p : Plan) → command_plan k Done ≡ p
    → IsPrintable n ds d (command_plan k Done) → IsPrintable n ds d p
printable_form n ds d k p h x = subst (λ (q : Plan). IsPrintable n ds d q) h x

-- a command alone, and what follows it
form_then : (o : Order) (ds : List Declaration) (d : ℕ) (f : Form) (w : Written) (rest : Plan) (q : List Chunk)
    → commands_part o ds d (form_plan f w rest) q ≡ commands_part o ds d (form_plan f w Done) (after d rest (commands_part o ds d rest) q)
form_then o ds d FSkip w rest q = refl
form_then o ds d (FAssign x e) w rest q = refl
form_then o ds d (FPut a n i e) w rest q = refl
form_then o ds d (FSleep e) w rest q = refl
form_then o ds d (FIf e s a s' b) w rest q = refl
form_then o ds d (FWhile e s c) w rest q = refl
form_then o ds d (FMitigate k e l s c) w rest q = refl

form_marks : (n : ℕ) (ds : List Declaration) (f : Form) (w : Written) (rest : Plan) → AreKnown n ds (form_plan f w rest) → AreMarksBelow n w.labels
form_marks n ds FSkip w rest h = h.0
form_marks n ds (FAssign x e) w rest h = h.0
form_marks n ds (FPut a k i e) w rest h = h.0
form_marks n ds (FSleep e) w rest h = h.0
form_marks n ds (FIf e s a s' b) w rest h = h.0
form_marks n ds (FWhile e s c) w rest h = h.0
form_marks n ds (FMitigate k e l s c) w rest h = h.0

pub marks_below : (n : ℕ) (ds : List Declaration) (k : Command) → AreKnown n ds (command_plan k Done) → AreMarksBelow n k.labels
marks_below n ds k h = form_marks n ds k.form (written k) Done h

form_known : (n : ℕ) (ds : List Declaration) (f : Form) (w : Written) (rest : Plan) → AreKnown n ds (form_plan f w rest)
    → AreKnown n ds (form_plan f w Done) × AreKnown n ds rest
form_known n ds FSkip w rest h = ((h.0, tt), h.1)
form_known n ds (FAssign x e) w rest h = ((h.0, h.1, h.2, tt), h.3)
form_known n ds (FPut a k i e) w rest h = ((h.0, h.1, h.2, h.3, tt), h.4)
form_known n ds (FSleep e) w rest h = ((h.0, h.1, tt), h.2)
form_known n ds (FIf e s a s' b) w rest h = ((h.0, h.1, h.2, h.3, h.4, h.5, tt), h.6)
form_known n ds (FWhile e s c) w rest h = ((h.0, h.1, h.2, h.3, tt), h.4)
form_known n ds (FMitigate k e l s c) w rest h = ((h.0, h.1, h.2, h.3, h.4, tt), h.5)

form_small : (d : ℕ) (f : Form) (w : Written) (rest : Plan) → AreSmall d (form_plan f w rest) → AreSmall d (form_plan f w Done) × AreSmall d rest
form_small d FSkip w rest h = (tt, h)
form_small d (FAssign x e) w rest h = ((h.0, tt), h.1)
form_small d (FPut a k i e) w rest h = ((h.0, h.1, tt), h.2)
form_small d (FSleep e) w rest h = ((h.0, tt), h.1)
form_small d (FIf e s a s' b) w rest h = ((h.0, h.1, h.2, h.3, tt), h.4)
form_small d (FWhile e s c) w rest h = ((h.0, h.1, h.2, tt), h.3)
form_small d (FMitigate k e l s c) w rest h = ((h.0, h.1, tt), h.2)

module _ (n : ℕ) (ds : List Declaration) (d : ℕ) (x : Command) (rest : List Command) (h : IsPrintable n ds d (list_plan (x ∷ rest))) where
  pub printable_first : IsPrintable n ds d (command_plan x Done)
  printable_first =
      record {
        known = (form_known n ds x.form (written x) (list_plan rest) h.known).0;
        arrays = h.arrays;
        small =
            (form_small d x.form (written x) (list_plan rest) h.small).0;
      }

  pub printable_rest : IsPrintable n ds d (list_plan rest)
  printable_rest =
      record {
        known = (form_known n ds x.form (written x) (list_plan rest) h.known).1;
        arrays = h.arrays;
        small =
            (form_small d x.form (written x) (list_plan rest) h.small).1;
      }

-- the parts of a command with lists inside
module _ (n : ℕ) (ds : List Declaration) (d : ℕ) (k : Command) (e : Expr) (v : Vec Command Global) (h : IsPrintable n ds d (command_plan k Done)) where
  module _ (u : Vec Command Global) (is : k.form ≡ DIf e v u) where
    printable_if : IsPrintable n ds d (If (written k) (expression_of e) (list_plan v.items) (list_plan u.items) Done)
    printable_if = printable_form n ds d k _ (if_plan k e v u is) h

    pub if_shallow : d < 100
    if_shallow = printable_if.small.1

    pub if_then : IsPrintable n ds (d + 1) (list_plan v.items)
    if_then = record { known = printable_if.known.4; arrays = h.arrays; small = printable_if.small.2 }

    pub if_else : IsPrintable n ds (d + 1) (list_plan u.items)
    if_else = record { known = printable_if.known.5; arrays = h.arrays; small = printable_if.small.3 }

  module _ (is : k.form ≡ DWhile e v) where
    printable_while : IsPrintable n ds d (While (written k) (expression_of e) (list_plan v.items) Done)
    printable_while = printable_form n ds d k _ (while_plan k e v is) h

    pub while_shallow : d < 100
    while_shallow = printable_while.small.1

    pub while_body : IsPrintable n ds (d + 1) (list_plan v.items)
    while_body = record { known = printable_while.known.3; arrays = h.arrays; small = printable_while.small.2 }

  module _ (m : ℕ) (l : Option Label) (is : k.form ≡ DMitigate m e l v) where
    printable_mitigate : IsPrintable n ds d (Mitigate (written k) m l (expression_of e) (list_plan v.items) Done)
    printable_mitigate = printable_form n ds d k _ (mitigate_plan k e v m l is) h

    pub mitigate_shallow : d < 100
    mitigate_shallow = let s = printable_mitigate.small.0.depth in omega (arith, s)

    pub mitigate_level : IsBelow n l
    mitigate_level = printable_mitigate.known.1

    pub mitigate_body : IsPrintable n ds (d + 1) (list_plan v.items)
    mitigate_body = record { known = printable_mitigate.known.4; arrays = h.arrays; small = printable_mitigate.small.1 }

-- what is left to put after i commands
abbrev pub left_commands : Order → List Declaration → ℕ → ℕ → Plan → Part
left_commands o ds d zero p q = commands_part o ds d p q
left_commands o ds d (suc i) p q = after d p (commands_part o ds d p) q

pub record PutSoFar (a b : List ℕ) (o : Order) (ds : List Declaration) (d i : ℕ) (list : List Command) : Type 0 where
  pub is : (q : List Chunk) → b ++ text (left_commands o ds d i (list_plan (drop i list)) q) ≡ a ++ text (commands_part o ds d (list_plan list) q)
  pub left : IsPrintable o.size ds d (list_plan (drop i list))

pub none_put : (a : List ℕ) (o : Order) (ds : List Declaration) (d : ℕ) (list : List Command)
    → IsPrintable o.size ds d (list_plan list) → PutSoFar a a o ds d 0 list
none_put a o ds d list h = record { is = λ q. refl; left = h }

form_after : (d : ℕ) (f : Form) (w : Written) (rest : Plan) (g : Part) (q : List Chunk) → after d (form_plan f w rest) g q ≡ separator d 1 (g q)
form_after d FSkip w rest g q = refl
form_after d (FAssign x e) w rest g q = refl
form_after d (FPut a n i e) w rest g q = refl
form_after d (FSleep e) w rest g q = refl
form_after d (FIf e s a s' b) w rest g q = refl
form_after d (FWhile e s c) w rest g q = refl
form_after d (FMitigate k e l s c) w rest g q = refl

module _ (o : Order) (ds : List Declaration) (d : ℕ) where
  left_next : (i : ℕ) (x : Command) (rest : List Command) (q : List Chunk)
      → left_commands o ds d i (list_plan (x ∷ rest)) q ≡ separator d i (commands_part o ds d (list_plan (x ∷ rest)) q)
  left_next zero x rest q = refl
  left_next (suc i) x rest q = form_after d x.form (written x) (list_plan rest) (commands_part o ds d (list_plan (x ∷ rest))) q

  left_more : (i : ℕ) (p : Plan) (q : List Chunk) → left_commands o ds d (i + 1) p q ≡ after d p (commands_part o ds d p) q
  left_more i p q = rw add-one refl

  left_none : (i : ℕ) (q : List Chunk) → left_commands o ds d i Done q ≡ q
  left_none zero q = refl
  left_none (suc i) q = refl

  pub next_put : {a b c e : List ℕ} (list : List Command) (x : Command) (i : ℕ) → i < length list → x ≡ get_or list i x → PutSoFar a b o ds d i list
      → Puts b c (separator d i) → Puts c e (commands_part o ds d (command_plan x Done)) → PutSoFar a e o ds d (i + 1) list
  next_put {b} {e} list x i h g so p1 p2 =
      let rest = drop (i + 1) list in
      let front : drop i list ≡ x ∷ rest = front_of list x i h g in
      record {
        is = λ q.
            ap (λ l. e ++ text l) (left_more i (list_plan rest) q)
            ∙ (puts_then p1 p2).is (after d (list_plan rest) (commands_part o ds d (list_plan rest)) q)
            ∙ ap (λ l. b ++ text (separator d i l)) (sym (form_then o ds d x.form (written x) (list_plan rest) q))
            ∙ ap (λ l. b ++ text l) (sym (left_next i x rest q))
            ∙ ap (λ l. b ++ text (left_commands o ds d i (list_plan l) q)) (sym front)
            ∙ so.is q;
        left = printable_rest o.size ds d x rest (subst (λ (l : List Command). IsPrintable o.size ds d (list_plan l)) front so.left);
      }

  pub next_printable : {a b : List ℕ} (list : List Command) (x : Command) (i : ℕ) → i < length list → x ≡ get_or list i x → PutSoFar a b o ds d i list
      → IsPrintable o.size ds d (command_plan x Done)
  next_printable list x i h g so =
      printable_first o.size ds d x (drop (i + 1) list) (subst (λ (l : List Command). IsPrintable o.size ds d (list_plan l)) (front_of list x i h g) so.left)

  pub all_put : {a b : List ℕ} (list : List Command) (i : ℕ) → length list ≤ i → PutSoFar a b o ds d i list → Puts a b (commands_part o ds d (list_plan list))
  all_put {b} list i h so =
      record {
        is = λ q. ap (λ l. b ++ text l) (sym (left_none i q)) ∙ ap (λ l. b ++ text (left_commands o ds d i (list_plan l) q)) (sym (drop_all i list h))
            ∙ so.is q;
      }

block_as : {b c : List ℕ} (o : Order) (ds : List Declaration) (d : ℕ) (ls ms : List Command) → ls ≡ ms
    → Puts b c (in_braces d (commands_part o ds (d + 1) (list_plan ls)))
    → Puts b c (in_braces d (commands_part o ds (d + 1) (list_plan ms)))
block_as {b} {c} o ds d ls ms h p = subst (λ (l : List Command). Puts b c (in_braces d (commands_part o ds (d + 1) (list_plan l)))) h p

-- each command from its parts
module _ {a z : List ℕ} (o : Order) (ds : List Declaration) (d : ℕ) (k : Command) where
  pub puts_assign : {b c e : List ℕ} (x : ℕ) (v : Expr) (w : List ℕ) → k.form ≡ FAssign x v → w ≡ (cell_at ds x).name
      → Puts a b (a_name w) → Puts b c (spaced AssignSign) → Puts c e (expression_part ds 1 (expression_of v)) → Puts e z (marks_part o k.labels)
      → Puts a z (commands_part o ds d (command_plan k Done))
  puts_assign {b} x v w h n p1 p2 p3 p4 =
      puts_form o ds d k _ (as_form k (FAssign x v) h) (puts_then (subst (λ y. Puts a b (a_name y)) n p1) (puts_then p2 (puts_then p3 p4)))

  pub puts_put : {b c e f : List ℕ} (x n : ℕ) (i v : Expr) (w : List ℕ) → k.form ≡ FPut x n i v → w ≡ (cell_at ds x).name
      → Puts a b (a_name w) → Puts b c (in_square (expression_part ds 1 (expression_of i))) → Puts c e (spaced AssignSign)
      → Puts e f (expression_part ds 1 (expression_of v))
      → Puts f z (marks_part o k.labels) → Puts a z (commands_part o ds d (command_plan k Done))
  puts_put {b} x n i v w h m p1 p2 p3 p4 p5 =
      puts_form o ds d k _ (as_form k (FPut x n i v) h) (puts_then (subst (λ y. Puts a b (a_name y)) m p1) (puts_then p2 (puts_then p3 (puts_then p4 p5))))

  pub puts_sleep : {b c e : List ℕ} (v : Expr) → k.form ≡ FSleep v
      → Puts a b (a_key SleepKey) → Puts b c a_space → Puts c e (expression_part ds 1 (expression_of v)) → Puts e z (marks_part o k.labels)
      → Puts a z (commands_part o ds d (command_plan k Done))
  puts_sleep v h p1 p2 p3 p4 = puts_form o ds d k _ (as_form k (FSleep v) h) (puts_then p1 (puts_then p2 (puts_then p3 p4)))

  pub puts_if : {b c e f g u v : List ℕ} (x : Expr) (xs ys : Vec Command Global) (ls ms : List Command) → k.form ≡ DIf x xs ys → ls ≡ xs.items → ms ≡ ys.items
      → Puts a b (a_key IfKey) → Puts b c a_space → Puts c e (expression_part ds 1 (expression_of x))
      → Puts e f (marks_part o k.labels) → Puts f g (spaced_key Then)
      → Puts g u (in_braces d (commands_part o ds (d + 1) (list_plan ls))) → Puts u v (spaced_key Else)
      → Puts v z (in_braces d (commands_part o ds (d + 1) (list_plan ms)))
      → Puts a z (commands_part o ds d (command_plan k Done))
  puts_if x xs ys ls ms h e1 e2 p1 p2 p3 p4 p5 p6 p7 p8 =
      puts_form o ds d k _ (if_plan k x xs ys h)
      (puts_then p1 (puts_then p2 (puts_then p3
      (puts_then p4 (puts_then p5 (puts_then (block_as o ds d ls xs.items e1 p6) (puts_then p7 (block_as o ds d ms ys.items e2 p8))))))))

  pub puts_while : {b c e f g : List ℕ} (x : Expr) (xs : Vec Command Global) (ls : List Command) → k.form ≡ DWhile x xs → ls ≡ xs.items
      → Puts a b (a_key WhileKey) → Puts b c a_space → Puts c e (expression_part ds 1 (expression_of x))
      → Puts e f (marks_part o k.labels) → Puts f g (spaced_key Do)
      → Puts g z (in_braces d (commands_part o ds (d + 1) (list_plan ls))) → Puts a z (commands_part o ds d (command_plan k Done))
  puts_while x xs ls h e1 p1 p2 p3 p4 p5 p6 =
      puts_form o ds d k _ (while_plan k x xs h) (puts_then p1 (puts_then p2 (puts_then p3 (puts_then p4 (puts_then p5 (block_as o ds d ls xs.items e1 p6))))))

  pub puts_mitigate : {b c e f g u v w : List ℕ} (m : ℕ) (x : Expr) (l : Option Label) (xs : Vec Command Global) (ls : List Command)
      → k.form ≡ DMitigate m x l xs → ls ≡ xs.items
      → Puts a b (a_key MitigateKey) → Puts b c a_space → Puts c e (a_sign LeftRound)
      → Puts e f (expression_part ds 1 (expression_of x)) → Puts f g (level_part o l)
      → Puts g u (a_sign RightRound) → Puts u v (marks_part o k.labels) → Puts v w a_space
      → Puts w z (in_braces d (commands_part o ds (d + 1) (list_plan ls))) → Puts a z (commands_part o ds d (command_plan k Done))
  puts_mitigate m x l xs ls h e1 p1 p2 p3 p4 p5 p6 p7 p8 p9 =
      puts_form o ds d k _ (mitigate_plan k x xs m l h)
      (puts_then p1 (puts_then p2 (puts_then p3
      (puts_then p4 (puts_then p5 (puts_then p6 (puts_then p7 (puts_then p8 (block_as o ds d ls xs.items e1 p9)))))))))

-- the variables of assignments
module _ (n : ℕ) (ds : List Declaration) (d : ℕ) (k : Command) (h : IsPrintable n ds d (command_plan k Done)) where
  pub assigned_below : (x : ℕ) (v : Expr) → k.form ≡ FAssign x v → x < variables ds
  assigned_below x v is =
      let p : IsPrintable n ds d (Assign (written k) x (expression_of v) Done) = printable_form n ds d k _ (as_form k (FAssign x v) is) h in
      scalar_below ds p.known.1.0 x p.known.1.1

  pub put_below : (x m : ℕ) (i v : Expr) → k.form ≡ FPut x m i v → x < variables ds
  put_below x m i v is =
      let p : IsPrintable n ds d (Put (written k) x m (expression_of i) (expression_of v) Done) = printable_form n ds d k _ (as_form k (FPut x m i v) is) h in
      array_first_below ds p.known.1.0 x m p.known.1.1 h.arrays
