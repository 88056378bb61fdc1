-- The finder of the first fault finds none in commands exactly where their names are right.
use Rattle.std.proofs.Common.{◌≡◌, refl, ap, ◌∙◌, sym, ℕ, List, Option, Some, None, cond}
use Rattle.std.specs.Prelude.{is_some}
use Rattle.text_base.specs.declared.pos.Pos.{Pos}
use Rattle.mit_syntax.specs.Declarations.{Declaration, find_scalar, find_array}
use Rattle.mit_parser.specs.declared.fault.ParseFault.{ParseFault}
use Rattle.mit_parser.specs.declared.fault.ParseFault.TheVariants.{Unknown, Misuse}
use Rattle.mit_parser.specs.Scope.{Scope, find_label, kept, label_fault, scalar_fault, array_fault}
use Rattle.mit_parser.specs.Tree.{Index, no_index, index_of, ExpressionTree, number_of, name_of, parens_of, binary_of, AndName, no_name, and_name, Marks}
use Rattle.mit_parser.specs.Tree.{no_marks, marks_of, CommandTree, skip_of, assign_of, sleep_of, if_of, while_of, mitigate_of, Block, block_of, ElsePart}
use Rattle.mit_parser.specs.Tree.{no_else, else_of, Commands, commands_of, More, no_more, and_more}
use Rattle.mit_parser.specs.Faults.{use_fault, note_index, note_expression, note_and_name, note_marks, note_command, note_block, note_else, note_commands}
use Rattle.mit_parser.specs.Faults.{note_more}
use Rattle.mit_parser.specs.Named.{IsLabelName, IsUsed, IndexNamed, ExpressionNamed, SecondNamed, MarksNamed, CommandNamed, BlockNamed, ElseNamed}
use Rattle.mit_parser.specs.Named.{CommandsNamed, MoreNamed}
use Rattle.mit_parser.proofs.Known.{kept_split}

pub label_named : (labels : List (List ℕ)) (w : List ℕ) (p : Pos) → label_fault labels w p ≡ None → IsLabelName labels w
label_named labels w p e = by (find_label labels w) refl
  where
    by : (r : Option ℕ) → find_label labels w ≡ r → IsLabelName labels w
    by None h = let q = sym (ap (λ r. cond (is_some r) None (Some (Unknown p))) h) ∙ e in cc
    by (Some k) h = (k, h)

pub label_calm : (labels : List (List ℕ)) (w : List ℕ) (p : Pos) → IsLabelName labels w → label_fault labels w p ≡ None
label_calm labels w p h = ap (λ z. cond (is_some z) None (Some (Unknown p))) h.1

scalar_used : (ds : List Declaration) (w : List ℕ) (p : Pos) → scalar_fault ds w p ≡ None → IsUsed ds w no_index
scalar_used ds w p e = by (find_scalar ds w) refl
  where
    by : (r : Option ℕ) → find_scalar ds w ≡ r → IsUsed ds w no_index
    by None h = let q = sym (ap (λ r. cond (is_some r) None (Some (cond (is_some (find_array ds w)) (Misuse p) (Unknown p)))) h) ∙ e in cc
    by (Some x) h = (x, h)

array_used : (ds : List Declaration) (w : List ℕ) (p q : Pos) (t : ExpressionTree 1) (r : Pos) → array_fault ds w p ≡ None → IsUsed ds w (index_of q t r)
array_used ds w p q t r e = by (find_array ds w) refl
  where
    by : (a : Option (ℕ × ℕ)) → find_array ds w ≡ a → IsUsed ds w (index_of q t r)
    by None h = let z = sym (ap (λ r. cond (is_some r) None (Some (cond (is_some (find_scalar ds w)) (Misuse p) (Unknown p)))) h) ∙ e in cc
    by (Some a) h = (a, h)

module _ (sc : Scope) where
  used : (w : List ℕ) (p : Pos) (i : Index) → use_fault sc w p i ≡ None → IsUsed sc.declarations w i
  used w p no_index e = scalar_used sc.declarations w p e
  used w p (index_of q t r) e = array_used sc.declarations w p q t r e

  use_calm : (w : List ℕ) (p : Pos) (i : Index) → IsUsed sc.declarations w i → use_fault sc w p i ≡ None
  use_calm w p no_index h = ap (λ z. cond (is_some z) None (Some (cond (is_some (find_array sc.declarations w)) (Misuse p) (Unknown p)))) h.1
  use_calm w p (index_of q t r) h = ap (λ z. cond (is_some z) None (Some (cond (is_some (find_scalar sc.declarations w)) (Misuse p) (Unknown p)))) h.1

  -- nothing came before, and the names are right
  mutual
    named_expression : {n : ℕ} (t : ExpressionTree n) (u : Option ParseFault) → note_expression sc t u ≡ None
        → (u ≡ None) × ExpressionNamed sc.declarations t
    named_expression (number_of k p) u e = (e, tt)
    named_expression (name_of w p i) u e =
        let x = named_index i (kept u (use_fault sc w p i)) e in
        let k = kept_split u (use_fault sc w p i) x.0 in
        (k.0, (used w p i k.1, x.1))
    named_expression (parens_of p t q) u e = named_expression t u e
    named_expression (binary_of o h l p t) u e =
        let y = named_expression t (note_expression sc l u) e in
        let x = named_expression l u y.0 in
        (x.0, (x.1, y.1))

    named_index : (i : Index) (u : Option ParseFault) → note_index sc i u ≡ None → (u ≡ None) × IndexNamed sc.declarations i
    named_index no_index u e = (e, tt)
    named_index (index_of p t q) u e = named_expression t u e

  named_second : (l : AndName) (u : Option ParseFault) → note_and_name sc.labels l u ≡ None → (u ≡ None) × SecondNamed sc.labels l
  named_second no_name u e = (e, tt)
  named_second (and_name p w q) u e =
      let k = kept_split u (label_fault sc.labels w q) e in
      (k.0, label_named sc.labels w q k.1)

  named_marks : (m : Marks) (u : Option ParseFault) → note_marks sc.labels m u ≡ None → (u ≡ None) × MarksNamed sc.labels m
  named_marks no_marks u e = (e, tt)
  named_marks (marks_of p q w r s v) u e =
      let x = named_second s (kept u (label_fault sc.labels w r)) e in
      let k = kept_split u (label_fault sc.labels w r) x.0 in
      (k.0, (label_named sc.labels w r k.1, x.1))

  mutual
    named_command : (c : CommandTree) (u : Option ParseFault) → note_command sc c u ≡ None → (u ≡ None) × CommandNamed sc c
    named_command (skip_of p m) u e = named_marks m u e
    named_command (assign_of w p i q t m) u e =
        let y = named_marks m (note_expression sc t (note_index sc i (kept u (use_fault sc w p i)))) e in
        let x = named_expression t (note_index sc i (kept u (use_fault sc w p i))) y.0 in
        let j = named_index i (kept u (use_fault sc w p i)) x.0 in
        let k = kept_split u (use_fault sc w p i) j.0 in
        (k.0, (used w p i k.1, j.1, x.1, y.1))
    named_command (sleep_of p t m) u e =
        let y = named_marks m (note_expression sc t u) e in
        let x = named_expression t u y.0 in
        (x.0, (x.1, y.1))
    named_command (if_of p t m q b o) u e =
        let v = named_else o (note_block sc b (note_marks sc.labels m (note_expression sc t u))) e in
        let z = named_block b (note_marks sc.labels m (note_expression sc t u)) v.0 in
        let y = named_marks m (note_expression sc t u) z.0 in
        let x = named_expression t u y.0 in
        (x.0, (x.1, y.1, z.1, v.1))
    named_command (while_of p t m q b) u e =
        let z = named_block b (note_marks sc.labels m (note_expression sc t u)) e in
        let y = named_marks m (note_expression sc t u) z.0 in
        let x = named_expression t u y.0 in
        (x.0, (x.1, y.1, z.1))
    named_command (mitigate_of p q t l r m b) u e =
        let z = named_block b (note_marks sc.labels m (note_and_name sc.labels l (note_expression sc t u))) e in
        let y = named_marks m (note_and_name sc.labels l (note_expression sc t u)) z.0 in
        let v = named_second l (note_expression sc t u) y.0 in
        let x = named_expression t u v.0 in
        (x.0, (x.1, v.1, y.1, z.1))

    named_block : (b : Block) (u : Option ParseFault) → note_block sc b u ≡ None → (u ≡ None) × BlockNamed sc b
    named_block (block_of p c q) u e = named_commands c u e

    named_else : (o : ElsePart) (u : Option ParseFault) → note_else sc o u ≡ None → (u ≡ None) × ElseNamed sc o
    named_else no_else u e = (e, tt)
    named_else (else_of p b) u e = named_block b u e

    pub named_commands : (c : Commands) (u : Option ParseFault) → note_commands sc c u ≡ None → (u ≡ None) × CommandsNamed sc c
    named_commands (commands_of c m) u e =
        let y = named_more m (note_command sc c u) e in
        let x = named_command c u y.0 in
        (x.0, (x.1, y.1))

    named_more : (m : More) (u : Option ParseFault) → note_more sc m u ≡ None → (u ≡ None) × MoreNamed sc m
    named_more no_more u e = (e, tt)
    named_more (and_more p c m) u e =
        let y = named_more m (note_command sc c u) e in
        let x = named_command c u y.0 in
        (x.0, (x.1, y.1))

  -- where the names are right none is found
  mutual
    calm_expression : {n : ℕ} (t : ExpressionTree n) → ExpressionNamed sc.declarations t → note_expression sc t None ≡ None
    calm_expression (number_of k p) h = refl
    calm_expression (name_of w p i) h = ap (note_index sc i) (use_calm w p i h.0) ∙ calm_index i h.1
    calm_expression (parens_of p t q) h = calm_expression t h
    calm_expression (binary_of o g l p t) h = ap (note_expression sc t) (calm_expression l h.0) ∙ calm_expression t h.1

    calm_index : (i : Index) → IndexNamed sc.declarations i → note_index sc i None ≡ None
    calm_index no_index h = refl
    calm_index (index_of p t q) h = calm_expression t h

  calm_second : (l : AndName) → SecondNamed sc.labels l → note_and_name sc.labels l None ≡ None
  calm_second no_name h = refl
  calm_second (and_name p w q) h = label_calm sc.labels w q h

  calm_marks : (m : Marks) → MarksNamed sc.labels m → note_marks sc.labels m None ≡ None
  calm_marks no_marks h = refl
  calm_marks (marks_of p q w r s v) h = ap (note_and_name sc.labels s) (label_calm sc.labels w r h.0) ∙ calm_second s h.1

  mutual
    calm_command : (c : CommandTree) → CommandNamed sc c → note_command sc c None ≡ None
    calm_command (skip_of p m) h = calm_marks m h
    calm_command (assign_of w p i q t m) h =
        ap (λ z. note_marks sc.labels m (note_expression sc t (note_index sc i z))) (use_calm w p i h.0)
        ∙ ap (λ z. note_marks sc.labels m (note_expression sc t z)) (calm_index i h.1)
        ∙ ap (note_marks sc.labels m) (calm_expression t h.2) ∙ calm_marks m h.3
    calm_command (sleep_of p t m) h = ap (note_marks sc.labels m) (calm_expression t h.0) ∙ calm_marks m h.1
    calm_command (if_of p t m q b o) h =
        ap (λ z. note_else sc o (note_block sc b (note_marks sc.labels m z))) (calm_expression t h.0)
        ∙ ap (λ z. note_else sc o (note_block sc b z)) (calm_marks m h.1) ∙ ap (note_else sc o) (calm_block b h.2) ∙ calm_else o h.3
    calm_command (while_of p t m q b) h =
        ap (λ z. note_block sc b (note_marks sc.labels m z)) (calm_expression t h.0) ∙ ap (note_block sc b) (calm_marks m h.1) ∙ calm_block b h.2
    calm_command (mitigate_of p q t l r m b) h =
        ap (λ z. note_block sc b (note_marks sc.labels m (note_and_name sc.labels l z))) (calm_expression t h.0)
        ∙ ap (λ z. note_block sc b (note_marks sc.labels m z)) (calm_second l h.1)
        ∙ ap (note_block sc b) (calm_marks m h.2) ∙ calm_block b h.3

    calm_block : (b : Block) → BlockNamed sc b → note_block sc b None ≡ None
    calm_block (block_of p c q) h = calm_commands c h

    calm_else : (o : ElsePart) → ElseNamed sc o → note_else sc o None ≡ None
    calm_else no_else h = refl
    calm_else (else_of p b) h = calm_block b h

    pub calm_commands : (c : Commands) → CommandsNamed sc c → note_commands sc c None ≡ None
    calm_commands (commands_of c m) h = ap (note_more sc m) (calm_command c h.0) ∙ calm_more m h.1

    calm_more : (m : More) → MoreNamed sc m → note_more sc m None ≡ None
    calm_more no_more h = refl
    calm_more (and_more p c m) h = ap (note_more sc m) (calm_command c h.0) ∙ calm_more m h.1
