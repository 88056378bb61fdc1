-- What each way through the functions of the header and of declarations gives.
use Rattle.std.proofs.Common.{◌≡◌, ◌+◌, ◌≤◌, ◌<◌, refl, ap, ◌∙◌, sym, subst, ℕ, ℤ, List, [], ◌∷◌, ◌++◌, append_assoc, length, Bool, true, false, cond, Option}
use Rattle.std.proofs.Common.{Some, None, arith}
use Rattle.std.specs.Prelude.{is_some}
use Rattle.std.proofs.lemmas.List.{append-nil}
use Rattle.text_base.specs.declared.pos.Pos.{Pos}
use Rattle.mit_syntax.specs.declared.token.Keyword.TheVariants.{Order, Var}
use Rattle.mit_syntax.specs.declared.token.Sign.TheVariants.{Colon, Semicolon, Comma, LeftSquare, RightSquare, Less}
use Rattle.mit_syntax.specs.Chunks.{key, sign, number}
use Rattle.mit_syntax.specs.Declarations.{Declaration}
use Rattle.mit_parser.specs.declared.counts.Counts.{Counts}
use Rattle.mit_parser.specs.declared.fault.ParseFault.{ParseFault}
use Rattle.mit_parser.specs.declared.fault.ParseFault.TheVariants.{Unknown}
use Rattle.mit_parser.specs.Words.{word, Told, head_symbol, is, sign_at, key_at, name_at}
use Rattle.mit_parser.specs.State.{State, with_fault}
use Rattle.mit_parser.specs.Scope.{find_label, or_else, kept, label_fault}
use Rattle.mit_parser.specs.Tree.{MoreNames, no_more_names, and_more_names, pair_of, no_more_pairs, and_pair, no_ordering, ordering_of, no_header, header_of}
use Rattle.mit_parser.specs.Tree.{no_label, label_of, scalar_of, array_of, declaration_of, no_declarations, and_declaration, front_more_names, front_pair}
use Rattle.mit_parser.specs.Tree.{front_more_pairs, front_pairs, front_shape, front_declaration}
use Rattle.mit_parser.specs.Faults.{labelled, add_label, add_labels, pair_numbers, more_numbers, note_pair, note_more_pairs, declaring, declare, declare_all}
use Rattle.mit_parser.specs.Faults.{add_declaration, shape_label, shape_length}
use Rattle.mit_parser.specs.Machine.{Part, want, a_name, names, more_names, a_pair, pairs, more_pairs, ordering, a_label, a_shape, a_declaration}
use Rattle.mit_parser.specs.Machine.{declarations, step, after_order, after_square, after_var, verdict}
use Rattle.mit_parser.specs.Reads.{Took, TookName, TookNumber, symbol_at}
use Rattle.mit_parser.specs.Headers.{AddsLabel, LabelsSoFar, AreLabels, IsNumber, IsPair, PairsSoFar, ArePairs, IsOrdering, IsShape, Declares, IsDeclaration}
use Rattle.mit_parser.specs.Headers.{DeclarationsSoFar, AreDeclarations}
use Rattle.mit_parser.proofs.Rules.{left_out}
use Rattle.mit_parser.proofs.Listed.{after_word, not_there}

pub kept_none : (u : Option ParseFault) → kept u None ≡ u
kept_none None = refl
kept_none (Some f) = refl

module _ (labels : List (List ℕ)) (w : List ℕ) (p : Pos) (old new : State) (t : TookName w p old new) where
  pub number_some : (n : ℕ) → Some n ≡ find_label labels w → IsNumber labels n old new
  number_some n e =
      record {
        tree = (w, p);
        spelled = t.was;
        means = (ap (or_else 0) e, t.fault ∙ sym (kept_none old.fault) ∙ ap (λ o. kept old.fault (cond (is_some o) None (Some (Unknown p)))) e);
        next = t.marks;
        goes = t.goes;
        shorter = omega (arith, t.shorter);
      }

  pub number_none : None ≡ find_label labels w → IsNumber labels 0 old (with_fault new (kept new.fault (Some (Unknown p))))
  number_none e =
      record {
        tree = (w, p);
        spelled = t.was;
        means = (ap (or_else 0) e, ap (λ u. kept u (Some (Unknown p))) t.fault ∙ ap (λ o. kept old.fault (cond (is_some o) None (Some (Unknown p)))) e);
        next = t.marks;
        goes = t.goes;
        shorter = omega (arith, t.shorter);
      }

pub rule_pair : (s : List Part) (c : Counts) (i : List Told) → verdict (a_pair ∷ s) c i ≡ verdict (a_name ∷ want (word (sign Less)) ∷ a_name ∷ s) c i
rule_pair s c [] = refl
rule_pair s c (b ∷ r) = refl

pub rule_pairs : (s : List Part) (c : Counts) (i : List Told) → verdict (pairs ∷ s) c i ≡ verdict (a_pair ∷ more_pairs ∷ s) c i
rule_pairs s c [] = refl
rule_pairs s c (b ∷ r) = refl

pub rule_names : (s : List Part) (c : Counts) (i : List Told) → verdict (names ∷ s) c i ≡ verdict (a_name ∷ more_names ∷ s) c i
rule_names s c [] = refl
rule_names s c (b ∷ r) = refl

pub rule_declaration : (s : List Part) (c : Counts) (i : List Told) → verdict (a_declaration ∷ s) c i ≡ verdict (want (word (key Var)) ∷ after_var s) c i
rule_declaration s c [] = refl
rule_declaration s c (b ∷ r) = refl

module _ (labels : List (List ℕ)) where
  pub pair_goes : (old a b : State) (n : ℕ) → IsNumber labels n old a → Took (word (sign Less)) a b → (s : List Part)
      → verdict (a_pair ∷ s) old.counts old.words ≡ verdict (a_name ∷ s) b.counts b.words
  pair_goes old a b n x t s = rule_pair s old.counts old.words ∙ x.goes (want (word (sign Less)) ∷ a_name ∷ s) ∙ t.goes (a_name ∷ s)

  pub pair_all : (old a b new : State) (n m : ℕ) → IsNumber labels n old a → Took (word (sign Less)) a b → IsNumber labels m b new
      → IsPair labels (n, m) old new
  pair_all old a b new n m x t y =
      record {
        tree = pair_of x.tree.0 x.tree.1 t.place y.tree.0 y.tree.1;
        spelled = x.spelled ∙ ap (λ l. name_at x.tree.0 x.tree.1 ∷ l) (t.was ∙ ap (λ l. sign_at Less t.place ∷ l) y.spelled);
        means = (
          ap (λ z. (z, m)) x.means.0 ∙ ap (λ z. (or_else 0 (find_label labels x.tree.0), z)) y.means.0,
          y.means.1 ∙ ap (λ u. kept u (label_fault labels y.tree.0 y.tree.1)) (t.fault ∙ x.means.1),
        );
        next = y.next ∙ t.marks ∙ x.next;
        goes = λ s. pair_goes old a b n x t s ∙ y.goes s;
        shorter = omega (arith, x.shorter, t.shorter, y.shorter);
      }

  pub pairs_first : (old now : State) (n : ℕ × ℕ) (list : List (ℕ × ℕ)) → IsPair labels n old now → list ≡ n ∷ [] → PairsSoFar labels list old now
  pairs_first old now n list k e =
      record {
        builds = λ m j h. (
          (k.tree, m),
          k.spelled ∙ ap (front_pair k.tree) h,
          ap (λ l. l ++ more_numbers labels m) e ∙ ap (λ (z : ℕ × ℕ). z ∷ more_numbers labels m) k.means.0,
          ap (note_more_pairs labels m) k.means.1,
        );
        next = k.next;
        goes = λ s. rule_pairs s old.counts old.words ∙ k.goes (more_pairs ∷ s);
        shorter = k.shorter;
      }

  pub pairs_next : (old now a new : State) (n : ℕ × ℕ) (list next : List (ℕ × ℕ)) → PairsSoFar labels list old now
      → Took (word (sign Comma)) now a → IsPair labels n a new
      → next ≡ list ++ n ∷ [] → PairsSoFar labels next old new
  pairs_next old now a new n list next f t k e =
      record {
        builds = λ m j h.
            let here : now.words ≡ front_more_pairs (and_pair t.place k.tree m) j =
            t.was ∙ ap (λ l. sign_at Comma t.place ∷ l) (k.spelled ∙ ap (front_pair k.tree) h) in
            let b = f.builds (and_pair t.place k.tree m) j here in (
              b.0,
              b.1,
              ap (λ l. l ++ more_numbers labels m) e ∙ append_assoc list (n ∷ []) (more_numbers labels m)
                  ∙ ap (λ (z : ℕ × ℕ). list ++ z ∷ more_numbers labels m) k.means.0 ∙ b.2,
              ap (note_more_pairs labels m) (k.means.1 ∙ ap (note_pair labels k.tree) t.fault) ∙ b.3,
            );
        next = k.next ∙ t.marks ∙ f.next;
        goes = λ s. f.goes s ∙ after_word (word (sign Comma)) more_pairs (λ s. a_pair ∷ more_pairs ∷ s) now a (λ s. refl) t s ∙ k.goes (more_pairs ∷ s);
        shorter = omega (arith, f.shorter, t.shorter, k.shorter);
      }

  pub more_pairs_goes : (old now a : State) (list : List (ℕ × ℕ)) → PairsSoFar labels list old now → Took (word (sign Comma)) now a → (s : List Part)
      → verdict (pairs ∷ s) old.counts old.words ≡ verdict (a_pair ∷ more_pairs ∷ s) a.counts a.words
  more_pairs_goes old now a list f t s = f.goes s ∙ after_word (word (sign Comma)) more_pairs (λ s. a_pair ∷ more_pairs ∷ s) now a (λ s. refl) t s

  pub pairs_last : (old now : State) (list : List (ℕ × ℕ)) → PairsSoFar labels list old now → is (word (sign Comma)) (head_symbol now.words) ≡ false
      → ArePairs labels list old now
  pairs_last old now list f e =
      let b = f.builds no_more_pairs now.words refl in
      record {
        tree = b.0;
        spelled = b.1;
        means = (sym (append-nil list) ∙ b.2, b.3);
        next = f.next;
        goes = λ s. f.goes s ∙ not_there (word (sign Comma)) more_pairs (λ s. Some (a_pair ∷ more_pairs ∷ s)) now e (λ s w. refl) s;
        shorter = f.shorter;
      }

  pub ordering_some : (old a b new : State) (list : List (ℕ × ℕ)) → Took (word (key Order)) old a → ArePairs labels list a b
      → Took (word (sign Semicolon)) b new → IsOrdering labels list old new
  ordering_some old a b new list t k u =
      record {
        tree = ordering_of t.place k.tree.0 k.tree.1 u.place;
        spelled = t.was ∙ ap (λ l. key_at Order t.place ∷ l) (k.spelled ∙ ap (front_pairs k.tree) u.was);
        means = (k.means.0, u.fault ∙ k.means.1 ∙ ap (λ z. note_more_pairs labels k.tree.1 (note_pair labels k.tree.0 z)) t.fault);
        next = u.marks ∙ k.next ∙ t.marks;
        goes = λ s. after_word (word (key Order)) ordering after_order old a (λ s. refl) t s ∙ k.goes (want (word (sign Semicolon)) ∷ s) ∙ u.goes s;
        shorter = omega (arith, t.shorter, k.shorter, u.shorter);
      }

  pub ordering_none : (now : State) (list : List (ℕ × ℕ)) → list ≡ [] → is (word (key Order)) (head_symbol now.words) ≡ false → IsOrdering labels list now now
  ordering_none now list n e =
      record {
        tree = no_ordering;
        spelled = refl;
        means = (n, refl);
        next = refl;
        goes = not_there (word (key Order)) ordering (λ s. Some (after_order s)) now e (λ s w. refl);
        shorter = omega arith;
      }

pub labels_first : (old a now : State) (w : List ℕ) (p : Pos) (before labels : List (List ℕ)) → before ≡ [] → TookName w p old a
    → AddsLabel w p before labels a now → LabelsSoFar labels old now
labels_first old a now w p before labels n t k =
    let s : labelled labels now.fault ≡ labelled (w ∷ []) old.fault =
    k.adds ∙ ap (λ l. add_label w p (labelled l a.fault)) n ∙ ap (λ u. labelled (w ∷ []) u) t.fault in
    let one : length labels ≡ 1 = ap (λ z. length z.names) s in
    let size : length now.words ≡ length a.words = ap (λ z. length z.words) k.state in
    record {
      builds = λ m j h. (((w, p), m), t.was ∙ ap (λ l. name_at w p ∷ l) (sym (ap (λ z. z.words) k.state) ∙ h), ap (add_labels m) s);
      next = ap (λ z. z.marks) k.state ∙ t.marks;
      goes = λ s. rule_names s old.counts old.words ∙ t.goes (more_names ∷ s) ∙ ap (λ z. verdict (more_names ∷ s) z.counts z.words) (sym k.state);
      few = omega (arith, one, size, t.shorter);
      some = omega (arith, one);
    }

pub more_names_goes : (old now a : State) (labels : List (List ℕ)) → LabelsSoFar labels old now → Took (word (sign Comma)) now a → (s : List Part)
    → verdict (names ∷ s) old.counts old.words ≡ verdict (a_name ∷ more_names ∷ s) a.counts a.words
more_names_goes old now a labels f t s = f.goes s ∙ after_word (word (sign Comma)) more_names (λ s. a_name ∷ more_names ∷ s) now a (λ s. refl) t s

grown : (labels : List (List ℕ)) (w : List ℕ) (p : Pos) (u : Option ParseFault) → length labels ≤ length (add_label w p (labelled labels u)).names
grown labels w p u = by (is_some (find_label labels w)) refl
  where
    size : length (labels ++ w ∷ []) ≡ length labels + 1
    size = Rattle.std.proofs.Common.length-append labels (w ∷ [])

    by : (b : Bool) → is_some (find_label labels w) ≡ b → length labels ≤ length (add_label w p (labelled labels u)).names
    by true e = let h = ap (λ b. length
        (cond {A = Rattle.mit_parser.specs.Faults.Labelled} b
        (labelled labels (kept u (Some (Rattle.mit_parser.specs.declared.fault.ParseFault.TheVariants.Twice p)))) (labelled (labels ++ w ∷ []) u)).names) e in
        omega (arith, h)
    by false e = let h = ap (λ b. length
        (cond {A = Rattle.mit_parser.specs.Faults.Labelled} b
        (labelled labels (kept u (Some (Rattle.mit_parser.specs.declared.fault.ParseFault.TheVariants.Twice p)))) (labelled (labels ++ w ∷ []) u)).names) e in
        omega (arith, h, size)

pub labels_next : (old now a b new : State) (w : List ℕ) (p : Pos) (labels next : List (List ℕ)) → LabelsSoFar labels old now → Took (word (sign Comma)) now a
    → TookName w p a b → AddsLabel w p labels next b new
    → LabelsSoFar next old new
labels_next old now a b new w p labels next f t n k =
    let same : b.fault ≡ now.fault = n.fault ∙ t.fault in
    let size : length new.words ≡ length b.words = ap (λ z. length z.words) k.state in
    let more : length next ≡ length (add_label w p (labelled labels b.fault)).names = ap (λ z. length z.names) k.adds in
    record {
      builds = λ m j h.
          let here : now.words ≡ front_more_names (and_more_names t.place w p m) j =
          t.was ∙ ap (λ l. sign_at Comma t.place ∷ l) (n.was ∙ ap (λ l. name_at w p ∷ l) (sym (ap (λ z. z.words) k.state) ∙ h)) in
          let c = f.builds (and_more_names t.place w p m) j here in
          (c.0, c.1, ap (add_labels m) (k.adds ∙ ap (λ u. add_label w p (labelled labels u)) same) ∙ c.2);
      next = ap (λ z. z.marks) k.state ∙ n.marks ∙ t.marks ∙ f.next;
      goes = λ s. more_names_goes old now a labels f t s ∙ n.goes (more_names ∷ s) ∙ ap (λ z. verdict (more_names ∷ s) z.counts z.words) (sym k.state);
      few = omega (arith, f.few, t.shorter, n.shorter, size, k.few);
      some = omega (arith, f.some, more, grown labels w p b.fault);
    }

pub labels_last : (old now : State) (labels : List (List ℕ)) → LabelsSoFar labels old now
    → is (word (sign Comma)) (head_symbol now.words) ≡ false → AreLabels labels old now
labels_last old now labels f e =
    let b = f.builds no_more_names now.words refl in
    record {
      taken = record {
        tree = b.0;
        spelled = b.1;
        means = b.2;
        next = f.next;
        goes = λ s. f.goes s ∙ not_there (word (sign Comma)) more_names (λ s. Some (a_name ∷ more_names ∷ s)) now e (λ s w. refl) s;
        shorter = omega (arith, f.few);
      };
      few = f.few;
      some = f.some;
    }

-- shapes
pub shape_array : (old a b c d new : State) (n : ℤ × Pos) (l : List ℕ × Pos) → Took (word (sign LeftSquare)) old a → TookNumber n.0 n.1 a b
    → Took (word (sign RightSquare)) b c
    → Took (word (sign Colon)) c d → TookName l.0 l.1 d new → IsShape (Some l) (Some n) old new
shape_array old a b c d new n l t x u v y =
    record {
      tree = array_of t.place n.0 n.1 u.place v.place l.0 l.1;
      spelled = t.was ∙ ap (λ z. sign_at LeftSquare t.place ∷ z)
          (x.was ∙ ap (λ z. symbol_at (word (number n.0)) n.1 ∷ z) (u.was ∙ ap (λ z. sign_at RightSquare u.place ∷ z)
          (v.was ∙ ap (λ z. sign_at Colon v.place ∷ z) y.was)));
      means = (refl, refl, y.fault ∙ v.fault ∙ u.fault ∙ x.fault ∙ t.fault);
      next = y.marks ∙ v.marks ∙ u.marks ∙ x.marks ∙ t.marks;
      goes = λ s. after_word (word (sign LeftSquare)) a_shape after_square old a (λ s. refl) t s
          ∙ x.goes (want (word (sign RightSquare)) ∷ want (word (sign Colon)) ∷ a_name ∷ s)
          ∙ u.goes (want (word (sign Colon)) ∷ a_name ∷ s) ∙ v.goes (a_name ∷ s) ∙ y.goes s;
      shorter = omega (arith, t.shorter, x.shorter, u.shorter, v.shorter, y.shorter);
    }

-- the machine where no length is
pub no_square : (now : State) → is (word (sign LeftSquare)) (head_symbol now.words) ≡ false → (s : List Part)
    → verdict (a_shape ∷ s) now.counts now.words ≡ verdict (a_label ∷ s) now.counts now.words
no_square now e s = left_out (a_shape ∷ s) (a_label ∷ s) now.counts now.words
    (ap (λ b. cond b (Some (after_square s)) (step (a_label ∷ s) (head_symbol now.words))) e)

pub shape_scalar : (old a new : State) (l : List ℕ × Pos) → is (word (sign LeftSquare)) (head_symbol old.words) ≡ false → Took (word (sign Colon)) old a
    → TookName l.0 l.1 a new → IsShape (Some l) None old new
shape_scalar old a new l e t y =
    record {
      tree = scalar_of (label_of t.place l.0 l.1);
      spelled = t.was ∙ ap (λ z. sign_at Colon t.place ∷ z) y.was;
      means = (refl, refl, y.fault ∙ t.fault);
      next = y.marks ∙ t.marks;
      goes = λ s. no_square old e s ∙ after_word (word (sign Colon)) a_label (λ s. a_name ∷ s) old a (λ s. refl) t s ∙ y.goes s;
      shorter = omega (arith, t.shorter, y.shorter);
    }

pub shape_none : (now : State) → is (word (sign LeftSquare)) (head_symbol now.words) ≡ false
    → is (word (sign Colon)) (head_symbol now.words) ≡ false → IsShape None None now now
shape_none now e h =
    record {
      tree = scalar_of no_label;
      spelled = refl;
      means = (refl, refl, refl);
      next = refl;
      goes = λ s. no_square now e s ∙ not_there (word (sign Colon)) a_label (λ s. Some (a_name ∷ s)) now h (λ s w. refl) s;
      shorter = omega arith;
    }

module _ (labels : List (List ℕ)) where
  pub declaration_all : (old a b c d new : State) (w : List ℕ) (p : Pos) (l : Option (List ℕ × Pos)) (n : Option (ℤ × Pos)) (before after : List Declaration)
      → Took (word (key Var)) old a → TookName w p a b → IsShape l n b c
      → Took (word (sign Semicolon)) c d → Declares labels w p l n before after d new → IsDeclaration labels before after old new
  declaration_all old a b c d new w p l n before after t x y u k =
      let same : d.fault ≡ old.fault = u.fault ∙ y.means.2 ∙ x.fault ∙ t.fault in
      let here : new.words ≡ d.words = ap (λ z. z.words) k.state in
      let size : length new.words ≡ length d.words = ap length here in
      record {
        taken = record {
          tree = declaration_of t.place w p y.tree u.place;
          spelled = t.was ∙ ap (λ z. key_at Var t.place ∷ z)
              (x.was ∙ ap (λ z. name_at w p ∷ z) (y.spelled ∙ ap (front_shape y.tree) (u.was ∙ ap (λ z. sign_at Semicolon u.place ∷ z) (sym here))));
          means = k.adds ∙ ap (λ z. add_declaration labels w p l n (declaring before z)) same
              ∙ ap (λ z. add_declaration labels w p z n (declaring before old.fault)) (sym y.means.0)
              ∙ ap (λ z. add_declaration labels w p (shape_label y.tree) z (declaring before old.fault)) (sym y.means.1);
          next = ap (λ z. z.marks) k.state ∙ u.marks ∙ y.next ∙ x.marks ∙ t.marks;
          goes = λ s. after_word (word (key Var)) a_declaration after_var old a (λ s. refl) t s ∙ x.goes (a_shape ∷ want (word (sign Semicolon)) ∷ s)
              ∙ y.goes (want (word (sign Semicolon)) ∷ s) ∙ u.goes s
              ∙ ap (λ z. verdict s z.counts z.words) (sym k.state);
          shorter = omega (arith, size, t.shorter, x.shorter, y.shorter, u.shorter);
        };
        few = omega (arith, size, k.few, t.shorter, x.shorter, y.shorter, u.shorter);
      }

  -- the machine where a declaration begins
  pub one_more : (now : State) → is (word (key Var)) (head_symbol now.words) ≡ true → (s : List Part)
      → verdict (declarations ∷ s) now.counts now.words ≡ verdict (a_declaration ∷ declarations ∷ s) now.counts now.words
  one_more now e s =
      left_out (declarations ∷ s) (a_declaration ∷ declarations ∷ s) now.counts now.words
      (ap (λ b. cond b (Some (after_var (declarations ∷ s))) (step s (head_symbol now.words))) e
      ∙ sym (ap (λ b. cond b (Some (after_var (declarations ∷ s))) None) e))

  pub declarations_first : (old : State) (list : List Declaration) → list ≡ [] → DeclarationsSoFar labels list old old
  declarations_first old list e =
      record {
        builds = λ m j h. (m, h, ap (λ l. declare_all labels m (declaring l old.fault)) e);
        next = refl;
        goes = λ s. refl;
        few = let z = ap length e in omega (arith, z);
      }

  pub declarations_next : (old now new : State) (list next : List Declaration) → DeclarationsSoFar labels list old now
      → is (word (key Var)) (head_symbol now.words) ≡ true → IsDeclaration labels list next now new
      → DeclarationsSoFar labels next old new
  declarations_next old now new list next f e k =
      record {
        builds = λ m j h.
            let b = f.builds (and_declaration k.taken.tree m) j (k.taken.spelled ∙ ap (front_declaration k.taken.tree) h) in
            (b.0, b.1, ap (declare_all labels m) k.taken.means ∙ b.2);
        next = k.taken.next ∙ f.next;
        goes = λ s. f.goes s ∙ one_more now e s ∙ k.taken.goes (declarations ∷ s);
        few = omega (arith, f.few, k.few);
      }

  pub declarations_last : (old now : State) (list : List Declaration) → DeclarationsSoFar labels list old now
      → is (word (key Var)) (head_symbol now.words) ≡ false → AreDeclarations labels list old now
  declarations_last old now list f e =
      let b = f.builds no_declarations now.words refl in
      record {
        taken = record {
          tree = b.0;
          spelled = b.1;
          means = b.2;
          next = f.next;
          goes = λ s. f.goes s ∙ not_there (word (key Var)) declarations (λ s. Some (after_var (declarations ∷ s))) now e (λ s w. refl) s;
          shorter = omega (arith, f.few);
        };
        few = f.few;
      }

-- a header has a label
labels_grow : (m : MoreNames) (s : Rattle.mit_parser.specs.Faults.Labelled) → length s.names ≤ length (add_labels m s).names
labels_grow no_more_names s = omega arith
labels_grow (and_more_names p w q m) s = omega (arith, grown s.names w q s.fault, labels_grow m (add_label w q s))

pub labels_some : (t : _) → 0 < length (Rattle.mit_parser.specs.Faults.header_labels t).names
labels_some no_header = omega arith
labels_some (header_of p w q m u o) = omega (arith, labels_grow m (labelled (w ∷ []) None))
