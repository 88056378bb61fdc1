-- The first fault is kept, and is one of names.
use Rattle.std.proofs.Common.{◌≡◌, refl, ap, ◌∙◌, ℕ, ℤ, List, [], ◌∷◌, ◌++◌, length, Bool, true, false, cond, Option, Some, None}
use Rattle.std.specs.Prelude.{is_some, ltb}
use Rattle.text_base.specs.declared.pos.Pos.{Pos}
use Rattle.mit_syntax.specs.Declarations.{Declaration, declared, find_scalar, find_array, elements_in}
use Rattle.mit_parser.specs.declared.fault.ParseFault.{ParseFault}
use Rattle.mit_parser.specs.declared.fault.ParseFault.TheVariants.{Unexpected, TooDeep, TooMany, Unknown, Twice, Lattice, Memory, Size, Misuse}
use Rattle.mit_parser.specs.Words.{Told}
use Rattle.mit_parser.specs.Scope.{Scope, kept, find_label, label_fault}
use Rattle.mit_parser.specs.Tree.{Index, no_index, index_of, ExpressionTree, number_of, name_of, parens_of, binary_of, AndName, no_name, and_name, Marks}
use Rattle.mit_parser.specs.Tree.{no_marks, marks_of, CommandTree, skip_of, assign_of, sleep_of, if_of, while_of, mitigate_of, Block, block_of, ElsePart}
use Rattle.mit_parser.specs.Tree.{no_else, else_of, Commands, commands_of, More, no_more, and_more, MoreNames, no_more_names, and_more_names, PairTree}
use Rattle.mit_parser.specs.Tree.{pair_of, MorePairs, no_more_pairs, and_pair, Ordering, no_ordering, ordering_of, Header, no_header, header_of}
use Rattle.mit_parser.specs.Tree.{declaration_of, Declarations, no_declarations, and_declaration}
use Rattle.mit_parser.specs.Faults.{use_fault, note_index, note_expression, note_and_name, note_marks, note_command, note_block, note_else, note_commands}
use Rattle.mit_parser.specs.Faults.{note_more, Labelled, labelled, add_label, add_labels, note_pair, note_more_pairs, note_ordering, header_fault}
use Rattle.mit_parser.specs.Faults.{IsLatticeFault, is_bad_size, length_fault, written_label_fault, twice_fault, declaration_fault, Declared, declaring}
use Rattle.mit_parser.specs.Faults.{added, declare, declare_all, many_fault}
use Rattle.mit_parser.specs.Spells.{IsMisnamed, Refuses}

abbrev pub IsOfNames : Option ParseFault → Type 0
IsOfNames None = Unit {0}
IsOfNames (Some (Unexpected p)) = ⊥
IsOfNames (Some (TooDeep p)) = ⊥
IsOfNames (Some (TooMany n)) = Unit {0}
IsOfNames (Some (Unknown p)) = Unit {0}
IsOfNames (Some (Twice p)) = Unit {0}
IsOfNames (Some (Lattice l)) = Unit {0}
IsOfNames (Some Memory) = Unit {0}
IsOfNames (Some (Size p)) = Unit {0}
IsOfNames (Some (Misuse p)) = Unit {0}

pub misnamed : (words : List Told) (f : ParseFault) → IsOfNames (Some f) → IsMisnamed words f → Refuses words f
misnamed words (Unexpected p) n h = absurd n
misnamed words (TooDeep p) n h = absurd n
misnamed words (TooMany k) n h = h
misnamed words (Unknown p) n h = h
misnamed words (Twice p) n h = h
misnamed words (Lattice l) n h = h
misnamed words Memory n h = tt
misnamed words (Size p) n h = h
misnamed words (Misuse p) n h = h

pub kept_of : (u v : Option ParseFault) → IsOfNames u → IsOfNames v → IsOfNames (kept u v)
kept_of None v h k = k
kept_of (Some f) v h k = h

unknown_or : (b c : Bool) (p : Pos) → IsOfNames (cond b None (Some (cond c (Misuse p) (Unknown p))))
unknown_or true c p = tt
unknown_or false true p = tt
unknown_or false false p = tt

unknown_if : (b : Bool) (p : Pos) → IsOfNames (cond b None (Some (Unknown p)))
unknown_if true p = tt
unknown_if false p = tt

pub label_of_names : (labels : List (List ℕ)) (w : List ℕ) (p : Pos) → IsOfNames (label_fault labels w p)
label_of_names labels w p = unknown_if (is_some (find_label labels w)) p

module _ (sc : Scope) where
  used : (w : List ℕ) (p : Pos) (i : Index) → IsOfNames (use_fault sc w p i)
  used w p no_index = unknown_or (is_some (find_scalar sc.declarations w)) (is_some (find_array sc.declarations w)) p
  used w p (index_of q e r) = unknown_or (is_some (find_array sc.declarations w)) (is_some (find_scalar sc.declarations w)) p

  mutual
    of_expression : {n : ℕ} (t : ExpressionTree n) (u : Option ParseFault) → IsOfNames u → IsOfNames (note_expression sc t u)
    of_expression (number_of k p) u h = h
    of_expression (name_of w p i) u h = of_index i (kept u (use_fault sc w p i)) (kept_of u (use_fault sc w p i) h (used w p i))
    of_expression (parens_of p e q) u h = of_expression e u h
    of_expression (binary_of o g l p t) u h = of_expression t (note_expression sc l u) (of_expression l u h)

    of_index : (i : Index) (u : Option ParseFault) → IsOfNames u → IsOfNames (note_index sc i u)
    of_index no_index u h = h
    of_index (index_of p e q) u h = of_expression e u h

  of_second : (l : AndName) (u : Option ParseFault) → IsOfNames u → IsOfNames (note_and_name sc.labels l u)
  of_second no_name u h = h
  of_second (and_name p w q) u h = kept_of u (label_fault sc.labels w q) h (label_of_names sc.labels w q)

  of_marks : (m : Marks) (u : Option ParseFault) → IsOfNames u → IsOfNames (note_marks sc.labels m u)
  of_marks no_marks u h = h
  of_marks (marks_of p q w r s v) u h =
      of_second s (kept u (label_fault sc.labels w r)) (kept_of u (label_fault sc.labels w r) h (label_of_names sc.labels w r))

  mutual
    of_command : (c : CommandTree) (u : Option ParseFault) → IsOfNames u → IsOfNames (note_command sc c u)
    of_command (skip_of p m) u h = of_marks m u h
    of_command (assign_of w p i q e m) u h =
        of_marks m (note_expression sc e (note_index sc i (kept u (use_fault sc w p i)))) (of_expression e (note_index sc i (kept u (use_fault sc w p i)))
        (of_index i (kept u (use_fault sc w p i)) (kept_of u (use_fault sc w p i) h (used w p i))))
    of_command (sleep_of p e m) u h = of_marks m (note_expression sc e u) (of_expression e u h)
    of_command (if_of p e m q b o) u h =
        of_else o (note_block sc b (note_marks sc.labels m (note_expression sc e u)))
        (of_block b (note_marks sc.labels m (note_expression sc e u)) (of_marks m (note_expression sc e u) (of_expression e u h)))
    of_command (while_of p e m q b) u h =
        of_block b (note_marks sc.labels m (note_expression sc e u)) (of_marks m (note_expression sc e u) (of_expression e u h))
    of_command (mitigate_of p q e l r m b) u h =
        of_block b (note_marks sc.labels m (note_and_name sc.labels l (note_expression sc e u)))
        (of_marks m (note_and_name sc.labels l (note_expression sc e u)) (of_second l (note_expression sc e u) (of_expression e u h)))

    of_block : (b : Block) (u : Option ParseFault) → IsOfNames u → IsOfNames (note_block sc b u)
    of_block (block_of p c q) u h = of_commands c u h

    of_else : (o : ElsePart) (u : Option ParseFault) → IsOfNames u → IsOfNames (note_else sc o u)
    of_else no_else u h = h
    of_else (else_of p b) u h = of_block b u h

    pub of_commands : (c : Commands) (u : Option ParseFault) → IsOfNames u → IsOfNames (note_commands sc c u)
    of_commands (commands_of c m) u h = of_more m (note_command sc c u) (of_command c u h)

    of_more : (m : More) (u : Option ParseFault) → IsOfNames u → IsOfNames (note_more sc m u)
    of_more no_more u h = h
    of_more (and_more p c m) u h = of_more m (note_command sc c u) (of_command c u h)

  -- a fault that came before is kept
  module _ (f : ParseFault) where
    keep_expression : {n : ℕ} (t : ExpressionTree n) → note_expression sc t (Some f) ≡ Some f
    keep_expression (number_of k p) = refl
    keep_expression (name_of w p no_index) = refl
    keep_expression (name_of w p (index_of q e r)) = keep_expression e
    keep_expression (parens_of p e q) = keep_expression e
    keep_expression (binary_of o h l p t) = ap (note_expression sc t) (keep_expression l) ∙ keep_expression t

    keep_second : (l : AndName) → note_and_name sc.labels l (Some f) ≡ Some f
    keep_second no_name = refl
    keep_second (and_name p w q) = refl

    keep_marks : (m : Marks) → note_marks sc.labels m (Some f) ≡ Some f
    keep_marks no_marks = refl
    keep_marks (marks_of p q w r s v) = keep_second s

    mutual
      keep_command : (c : CommandTree) → note_command sc c (Some f) ≡ Some f
      keep_command (skip_of p m) = keep_marks m
      keep_command (assign_of w p no_index q e m) = ap (note_marks sc.labels m) (keep_expression e) ∙ keep_marks m
      keep_command (assign_of w p (index_of a i b) q e m) =
          ap (λ z. note_marks sc.labels m (note_expression sc e z)) (keep_expression i) ∙ ap (note_marks sc.labels m) (keep_expression e) ∙ keep_marks m
      keep_command (sleep_of p e m) = ap (note_marks sc.labels m) (keep_expression e) ∙ keep_marks m
      keep_command (if_of p e m q b o) =
          ap (λ z. note_else sc o (note_block sc b (note_marks sc.labels m z))) (keep_expression e)
          ∙ ap (λ z. note_else sc o (note_block sc b z)) (keep_marks m) ∙ ap (note_else sc o) (keep_block b) ∙ keep_else o
      keep_command (while_of p e m q b) =
          ap (λ z. note_block sc b (note_marks sc.labels m z)) (keep_expression e) ∙ ap (note_block sc b) (keep_marks m) ∙ keep_block b
      keep_command (mitigate_of p q e l r m b) =
          ap (λ z. note_block sc b (note_marks sc.labels m (note_and_name sc.labels l z))) (keep_expression e)
          ∙ ap (λ z. note_block sc b (note_marks sc.labels m z)) (keep_second l)
          ∙ ap (note_block sc b) (keep_marks m) ∙ keep_block b

      keep_block : (b : Block) → note_block sc b (Some f) ≡ Some f
      keep_block (block_of p c q) = keep_commands c

      keep_else : (o : ElsePart) → note_else sc o (Some f) ≡ Some f
      keep_else no_else = refl
      keep_else (else_of p b) = keep_block b

      pub keep_commands : (c : Commands) → note_commands sc c (Some f) ≡ Some f
      keep_commands (commands_of c m) = ap (note_more sc m) (keep_command c) ∙ keep_more m

      keep_more : (m : More) → note_more sc m (Some f) ≡ Some f
      keep_more no_more = refl
      keep_more (and_more p c m) = ap (note_more sc m) (keep_command c) ∙ keep_more m

module _ (labels : List (List ℕ)) where
  pub keep_declared : (t : Declarations) (ds : List Declaration) (f : ParseFault) → declare_all labels t (declaring ds (Some f)) ≡ declaring ds (Some f)
  keep_declared no_declarations ds f = refl
  keep_declared (and_declaration (declaration_of p w q s u) m) ds f = keep_declared m ds f

  bad_of : (b : Bool) (p : Pos) → IsOfNames (cond b (Some (Size p)) None)
  bad_of true p = tt
  bad_of false p = tt

  twice_of : (b : Bool) (p : Pos) → IsOfNames (cond b (Some (Twice p)) None)
  twice_of true p = tt
  twice_of false p = tt

  length_of : (ds : List Declaration) (n : Option (ℤ × Pos)) → IsOfNames (length_fault ds n)
  length_of ds None = tt
  length_of ds (Some n) = bad_of (is_bad_size n.0 (elements_in ds)) n.1

  label_of : (l : Option (List ℕ × Pos)) → IsOfNames (written_label_fault labels l)
  label_of None = tt
  label_of (Some l) = label_of_names labels l.0 l.1

  added_of : (ds : List Declaration) (d : Declaration) (u : Option ParseFault) → IsOfNames u → IsOfNames (added ds d u).fault
  added_of ds d None h = tt
  added_of ds d (Some f) h = h

  pub of_declared : (t : Declarations) (s : Declared) → IsOfNames s.fault → IsOfNames (declare_all labels t s).fault
  of_declared no_declarations s h = h
  of_declared (and_declaration (declaration_of p w q z u) m) s h =
      of_declared m (declare labels (declaration_of p w q z u) s)
      (added_of s.list _ (kept s.fault
      (declaration_fault labels s.list w q (Rattle.mit_parser.specs.Faults.shape_label z) (Rattle.mit_parser.specs.Faults.shape_length z)))
      (kept_of s.fault (declaration_fault labels s.list w q (Rattle.mit_parser.specs.Faults.shape_label z) (Rattle.mit_parser.specs.Faults.shape_length z)) h
      (kept_of (twice_fault s.list w q) _ (twice_of (is_some (declared s.list w)) q)
      (kept_of (length_fault s.list (Rattle.mit_parser.specs.Faults.shape_length z)) _ (length_of s.list (Rattle.mit_parser.specs.Faults.shape_length z))
      (label_of (Rattle.mit_parser.specs.Faults.shape_label z))))))

many_if : (b : Bool) (n : ℕ) → IsOfNames (cond b (Some (TooMany n)) None)
many_if true n = tt
many_if false n = tt

pub many_of : (ds : List Declaration) → IsOfNames (many_fault ds)
many_of ds = many_if (ltb 1024 (length ds)) (length ds)

twice_added : (b : Bool) (names more : List (List ℕ)) (u : Option ParseFault) (p : Pos) → IsOfNames u
    → IsOfNames (cond {A = Labelled} b (labelled names (kept u (Some (Twice p)))) (labelled more u)).fault
twice_added true names more u p h = kept_of u (Some (Twice p)) h tt
twice_added false names more u p h = h

of_labels : (m : MoreNames) (s : Labelled) → IsOfNames s.fault → IsOfNames (add_labels m s).fault
of_labels no_more_names s h = h
of_labels (and_more_names p w q m) s h = of_labels m (add_label w q s) (twice_added (is_some (find_label s.names w)) s.names (s.names ++ w ∷ []) s.fault q h)

module _ (labels : List (List ℕ)) where
  of_pair : (x : PairTree) (u : Option ParseFault) → IsOfNames u → IsOfNames (note_pair labels x u)
  of_pair (pair_of a p q b r) u h =
      kept_of (kept u (label_fault labels a p)) (label_fault labels b r) (kept_of u (label_fault labels a p) h (label_of_names labels a p))
      (label_of_names labels b r)

  of_pairs : (m : MorePairs) (u : Option ParseFault) → IsOfNames u → IsOfNames (note_more_pairs labels m u)
  of_pairs no_more_pairs u h = h
  of_pairs (and_pair p x m) u h = of_pairs m (note_pair labels x u) (of_pair x u h)

  of_ordering : (o : Ordering) (u : Option ParseFault) → IsOfNames u → IsOfNames (note_ordering labels o u)
  of_ordering no_ordering u h = h
  of_ordering (ordering_of p x m q) u h = of_pairs m (note_pair labels x u) (of_pair x u h)

pub of_header : (t : Header) → IsOfNames (header_fault t)
of_header no_header = tt
of_header (header_of p w q m u o) =
    let s = add_labels m (labelled (w ∷ []) None) in
    of_ordering s.names o s.fault (of_labels m (labelled (w ∷ []) None) tt)

pub lattice_of_names : (labels : List (List ℕ)) (pairs : _) (f : ParseFault) → IsLatticeFault labels pairs f → IsOfNames (Some f)
lattice_of_names labels pairs (Unexpected p) h = h
lattice_of_names labels pairs (TooDeep p) h = h
lattice_of_names labels pairs (TooMany n) h = tt
lattice_of_names labels pairs (Unknown p) h = tt
lattice_of_names labels pairs (Twice p) h = tt
lattice_of_names labels pairs (Lattice l) h = tt
lattice_of_names labels pairs Memory h = tt
lattice_of_names labels pairs (Size p) h = tt
lattice_of_names labels pairs (Misuse p) h = tt
