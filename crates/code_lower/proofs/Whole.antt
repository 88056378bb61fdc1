-- The image of a labelled program.
use Rattle.std.proofs.Common.{◌≡◌, ◌<◌, ◌≤◌, ◌+◌, ℕ, List, [], ◌∷◌, ◌++◌, length, sym, ap, ◌∙◌, arith, length-append}
use Rattle.label_lattice.specs.declared.label.Label.{Label}
use Rattle.label_lattice.specs.Order.{Order, lattice_of}
use Rattle.label_lattice.proofs.Orders.{join_below}
use Rattle.mit_syntax.specs.declared.ast.Command.{Command}
use Rattle.mit_syntax.specs.Plan.{list_plan}
use Rattle.mit_syntax.specs.Declarations.{variables}
use Rattle.mit_syntax.specs.Program.{Syntax, plan_of}
use Rattle.mit_syntax.specs.Valid.{IsValid}
use Rattle.mit_syntax.proofs.Numbers.{few_cells}
use Rattle.timing_types.specs.Labelling.{Labelling, IsLabelling, variable_of, marks_of, level_of, marks_from}
use Rattle.timing_types.specs.Labelled.{LabelledProgram, order_of, labels_of, bare_of}
use Rattle.label_code.specs.declared.code.Instr.{Instr}
use Rattle.label_code.specs.declared.code.Work.TheVariants.{Halt}
use Rattle.label_code.specs.Machine.{instr}
use Rattle.label_code.specs.Shaped.{Code, IsShaped}
use Rattle.code_lower.specs.declared.size.Extent.{Extent}
use Rattle.code_lower.specs.Layout.{size}
use Rattle.code_lower.specs.Code.{code_of}
use Rattle.code_lower.specs.Depth.{most_operands, deepest}
use Rattle.code_lower.specs.Measured.{IsExtent}
use Rattle.code_lower.specs.Emitted.{marked_of, Adds}
use Rattle.code_lower.specs.Lowered.{lowered}
use Rattle.code_lower.proofs.Stands.{length-code_of}
use Rattle.code_lower.proofs.Emitting.{size-labelled, operands-labelled, deepest-labelled}
use Rattle.code_lower.proofs.Program.{image_shaped}
use Rattle.code_lower.proofs.Range.{image_range}
use Rattle.code_lower.proofs.Bound.{size_bound}

-- the size can be counted
pub size_fits : (s : Syntax) → IsValid s → size (plan_of s) < 9223372036854775807
size_fits s v =
    let a = size_bound 0 (plan_of s) v.small in
    let b = v.count in
    omega (arith, a, b)

-- what is counted of the commands is true of the image
module _ (p : LabelledProgram) where
  pub length_is : length (lowered p).instrs ≡ size (plan_of p.program) + 1
  length_is =
      let o = p.program.order in
      let l = p.labels in
      let halt : List Instr = instr Halt (record { er = o.bottom; ew = o.bottom }) ∷ [] in
      let code = code_of (order_of p) (labels_of p) (bare_of p) 0 in
      omega (
        arith,
        length-append code halt,
        length-code_of (order_of p) (labels_of p) (bare_of p) 0,
        size-labelled (marks_of o l) (level_of o l) (plan_of p.program) 0,
      )

  pub operands_is : (lowered p).operands ≡ most_operands (plan_of p.program)
  operands_is = operands-labelled (marks_of p.program.order p.labels) (level_of p.program.order p.labels) (plan_of p.program) 0

  pub nesting_is : (lowered p).nesting ≡ deepest (plan_of p.program)
  nesting_is = deepest-labelled (marks_of p.program.order p.labels) (level_of p.program.order p.labels) (plan_of p.program) 0

  -- the image is an image's code
  pub is_shaped : IsValid p.program → IsLabelling p.program p.labels → length (lowered p).instrs ≤ 200000 → IsShaped (lowered p)
  is_shaped v k small =
      let o = p.program.order in
      image_shaped (order_of p) (labels_of p) (bare_of p) (variables p.program.declarations) o (few_cells p.program.declarations v.few) small
      (image_range p.program.declarations v.arrays o.size (order_of p) (labels_of p) v.order.table.some k.variables_below (join_below o v.order)
      (marks_of o p.labels) (level_of o p.labels) k.commands_below k.levels_below (plan_of p.program) 0 v.known)

  -- the code that is emitted, and HALT
  pub emitted_is : (o : Order) (l : Labelling) (body : List Command) (c0 c1 c2 : List Instr) (low : Label) → o ≡ p.program.order → l ≡ p.labels
      → list_plan body ≡ plan_of p.program →
      low.number ≡ o.bottom → c0 ≡ [] → Adds o l c0 c1 (list_plan body) 0 → c2 ≡ c1 ++ instr Halt (marks_from (low, low)) ∷ [] → c2 ≡ (lowered p).instrs
  emitted_is o l body c0 c1 c2 low ho hl hb hlow h0 h1 h2 =
      let code = code_of (order_of p) (labels_of p) (bare_of p) 0 in
      let same : c1 ≡ code =
      h1
      ∙ ap (λ z. z ++ code_of (lattice_of o) (variable_of o l) (marked_of o l (list_plan body) 0) (length z)) h0
      ∙ ap (λ z. code_of (lattice_of z) (variable_of z l) (marked_of z l (list_plan body) 0) 0) ho
      ∙ ap (λ z. code_of (order_of p) (variable_of p.program.order z) (marked_of p.program.order z (list_plan body) 0) 0) hl
      ∙ ap (λ z. code_of (order_of p) (labels_of p) (marked_of p.program.order p.labels z 0) 0) hb in
      let bottom : low.number ≡ p.program.order.bottom = hlow ∙ ap (λ (z : Order). z.bottom) ho in
      h2
      ∙ ap (λ z. z ++ instr Halt (marks_from (low, low)) ∷ []) same
      ∙ ap (λ z. code ++ instr Halt (record { er = z; ew = z }) ∷ []) bottom

  abbrev code : List Instr → ℕ → Order → ℕ → ℕ → Code
  code is vars o most deep = record { instrs = is; variables = vars; order = o; operands = most; nesting = deep }

  -- an image of these parts
  pub built_is : (is : List Instr) (vars : ℕ) (o : Order) (x : Extent) (body : List Command) → is ≡ (lowered p).instrs
      → vars ≡ variables p.program.declarations → o ≡ p.program.order →
      list_plan body ≡ plan_of p.program → IsExtent x (list_plan body)
      → record { instrs = is; variables = vars; order = o; operands = x.operands; nesting = x.nesting } ≡ lowered p
  built_is is vars o x body hi hv ho hb e =
      let most : x.operands ≡ (lowered p).operands = e.operands ∙ ap (λ z. most_operands z) hb ∙ sym operands_is in
      let deep : x.nesting ≡ (lowered p).nesting = e.nesting ∙ ap (λ z. deepest z) hb ∙ sym nesting_is in
      ap (λ z. code z vars o x.operands x.nesting) hi
      ∙ ap (λ z. code (lowered p).instrs z o x.operands x.nesting) hv
      ∙ ap (λ z. code (lowered p).instrs (lowered p).variables z x.operands x.nesting) ho
      ∙ ap (λ z. code (lowered p).instrs (lowered p).variables (lowered p).order z x.nesting) most
      ∙ ap (λ z. code (lowered p).instrs (lowered p).variables (lowered p).order (lowered p).operands z) deep
