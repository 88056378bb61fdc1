-- Each array of a program that words spell has one label.
use Rattle.std.proofs.Common.{◌≡◌, ℕ, ◌+◌, ◌<◌, List, sym, subst, Option, Some}
use Rattle.std.proofs.lemmas.List.Elements.{All-nil, All-cons}
use Rattle.text_base.specs.declared.pos.Pos.{Pos}
use Rattle.mit_syntax.specs.Plan.{Plan}
use Rattle.mit_syntax.specs.Declarations.{Declaration, variables, cell_at, find_array}
use Rattle.mit_syntax.specs.Program.{Syntax, plan_of}
use Rattle.mit_syntax.specs.Valid.{IsShaped, AreShaped}
use Rattle.mit_parser.specs.Words.{Told}
use Rattle.mit_parser.specs.Tree.{no_index, index_of, ExpressionTree, number_of, name_of, parens_of, binary_of, CommandTree, skip_of, assign_of, sleep_of}
use Rattle.mit_parser.specs.Tree.{if_of, while_of, mitigate_of, Block, block_of, ElsePart, no_else, else_of, Commands, commands_of, More, no_more, and_more}
use Rattle.mit_parser.specs.Tree.{no_label, label_of, Shape, scalar_of, array_of as array_shape, declaration_of, Declarations, no_declarations}
use Rattle.mit_parser.specs.Tree.{and_declaration}
use Rattle.mit_parser.specs.Scope.{Scope, scope, or_else}
use Rattle.mit_parser.specs.Meaning.{next_command, next_block, plan_command, expression_value, plan_block, plan_else, plan_commands, plan_more}
use Rattle.mit_parser.specs.Faults.{shape_label, shape_length, written_label, written_length, decl_of}
use Rattle.mit_parser.specs.Named.{label_names, declarations_in, CommandNamed, ExpressionNamed, BlockNamed, ElseNamed, CommandsNamed, MoreNamed, ShapeNamed}
use Rattle.mit_parser.specs.Named.{ShapesNamed}
use Rattle.mit_parser.specs.Spells.{IsProgram}
use Rattle.timing_types.specs.Arrays.{IsArray, HasArrays, ArraysIn}
use Rattle.timing_types.specs.Labelling.{Labelling, variable_of, IsKept, IsLabelling}
use Rattle.timing_types.proofs.Arrays.{array_of}

module _ (sc : Scope) (g : ℕ → ℕ) (shaped : AreShaped sc.declarations) (kept : (x : ℕ) → x < variables sc.declarations
    → IsKept (cell_at sc.declarations x).label (g x)) where
  array_named : (w : List ℕ) (a : ℕ × ℕ) → find_array sc.declarations w ≡ Some a
      → IsArray g (or_else (0, 0) (find_array sc.declarations w)).0 (or_else (0, 0) (find_array sc.declarations w)).1
  array_named w a e = subst (λ (z : Option (ℕ × ℕ)). IsArray g (or_else (0, 0) z).0 (or_else (0, 0) z).1) (sym e)
      (array_of sc.declarations g shaped kept a.0 a.1 (w, e))

  arrays_expression : {n : ℕ} (t : ExpressionTree n) → ExpressionNamed sc.declarations t → HasArrays g (expression_value sc t)
  arrays_expression (number_of k p) h = tt
  arrays_expression (name_of w p no_index) h = tt
  arrays_expression (name_of w p (index_of q e s)) h = (array_named w h.0.0 h.0.1, arrays_expression e h.1)
  arrays_expression (parens_of p e q) h = arrays_expression e h
  arrays_expression (binary_of o b l p t) h = (arrays_expression l h.0, arrays_expression t h.1)

  mutual
    arrays_command : (c : CommandTree) (k : ℕ) (rest : Plan) → CommandNamed sc c → ArraysIn g rest → ArraysIn g (plan_command sc k c rest)
    arrays_command (skip_of p m) k rest h r = r
    arrays_command (assign_of w p no_index q e m) k rest h r = (arrays_expression e h.2, r)
    arrays_command (assign_of w p (index_of a i b) q e m) k rest h r = ((array_named w h.0.0 h.0.1, arrays_expression i h.1, arrays_expression e h.2), r)
    arrays_command (sleep_of p e m) k rest h r = (arrays_expression e h.0, r)
    arrays_command (if_of p e m q b o) k rest h r = (arrays_expression e h.0, arrays_block b k h.2, arrays_else o p (next_block b k) h.3, r)
    arrays_command (while_of p e m q b) k rest h r = (arrays_expression e h.0, arrays_block b k h.2, r)
    arrays_command (mitigate_of p q e l u m b) k rest h r = (arrays_expression e h.0, arrays_block b (k + 1) h.3, r)

    arrays_block : (b : Block) (k : ℕ) → BlockNamed sc b → ArraysIn g (plan_block sc k b)
    arrays_block (block_of p c q) k h = arrays_commands c k h

    arrays_else : (o : ElsePart) (p : Pos) (k : ℕ) → ElseNamed sc o → ArraysIn g (plan_else sc p k o)
    arrays_else no_else p k h = tt
    arrays_else (else_of q b) p k h = arrays_block b k h

    arrays_commands : (c : Commands) (k : ℕ) → CommandsNamed sc c → ArraysIn g (plan_commands sc k c)
    arrays_commands (commands_of c m) k h = arrays_command c k (plan_more sc (next_command c k) m) h.0 (arrays_more m (next_command c k) h.1)

    arrays_more : (m : More) (k : ℕ) → MoreNamed sc m → ArraysIn g (plan_more sc k m)
    arrays_more no_more k h = tt
    arrays_more (and_more p c m) k h = arrays_command c k (plan_more sc (next_command c k) m) h.0 (arrays_more m (next_command c k) h.1)

-- declarations whose labels and lengths are right
module _ (labels : List (List ℕ)) where
  shaped_one : (s : Shape) → ShapeNamed labels s → IsShaped (written_label labels (shape_label s)) (written_length (shape_length s))
  shaped_one (scalar_of no_label) h = tt
  shaped_one (scalar_of (label_of p w q)) h = tt
  shaped_one (array_shape p n q u v w x) h = h.0

  shaped_all : (t : Declarations) → ShapesNamed labels t → AreShaped (declarations_in labels t)
  shaped_all no_declarations h = All-nil (λ (d : Declaration). IsShaped d.1.label d.1.length)
  shaped_all (and_declaration (declaration_of p w q s u) m) h =
      All-cons (λ (d : Declaration). IsShaped d.1.label d.1.length) (w, decl_of labels (shape_label s) (shape_length s)) (declarations_in labels m)
      (shaped_one s h.0) (shaped_all m h.1)

pub spelled_arrays : (words : List Told) (p : Syntax) (l : Labelling) → IsProgram words p → IsLabelling p l → ArraysIn (variable_of p.order l) (plan_of p)
spelled_arrays words p l spelled labelling =
    let r = spelled.resolves in
    let t = spelled.tree in
    let labels = label_names t.header in
    let shaped = subst AreShaped (sym r.declarations) (shaped_all labels t.declarations r.named.shapes) in
    let uses = subst (λ z. CommandsNamed (scope labels z) t.commands) (sym r.declarations) r.named.uses in
    subst (λ z. ArraysIn (variable_of p.order l) z) (sym r.plan)
    (arrays_commands (scope labels p.declarations) (variable_of p.order l) shaped labelling.declared t.commands 0 uses)
