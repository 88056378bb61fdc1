-- Code whose depths of operands and of open mitigations are known at each place.
use Rattle.std.specs.Prelude.{◌≡◌, ◌≤◌, ◌<◌, ℕ, ◌+◌, List, Some, slice_get, length}
use Rattle.label_code.specs.declared.code.Work.{Work}
use Rattle.label_code.specs.declared.code.Work.TheVariants.{Push, Load, Store, LoadAt, StoreAt, Apply, Brz, Brnz, Jmp, Sleep, Mitb, Mite, Nop, Halt}
use Rattle.label_code.specs.declared.code.Instr.{Instr}
use Rattle.label_lattice.specs.Order.{Order}

-- instructions, how many variables they may name, the lattice of their labels, and the greatest depths of
-- operands and of open mitigations
pub record Code : Type 0 where
  pub instrs : List Instr
  pub variables : ℕ
  pub order : Order
  pub operands : ℕ
  pub nesting : ℕ

-- the depths at each place
pub record Depths : Type 0 where
  pub operands : ℕ → ℕ
  pub nesting : ℕ → ℕ

-- operands that an instruction takes, and that it leaves
abbrev pub takes : Work → ℕ
takes (Push n) = 0
takes (Load x) = 0
takes (Store x) = 1
takes (LoadAt f n) = 1
takes (StoreAt f n) = 2
takes (Apply o) = 2
takes (Brz b) = 1
takes (Brnz b) = 1
takes (Jmp b) = 0
takes Sleep = 1
takes (Mitb l k) = 1
takes Mite = 0
takes Nop = 0
takes Halt = 0

abbrev pub leaves : Work → ℕ
leaves (Push n) = 1
leaves (Load x) = 1
leaves (Store x) = 0
leaves (LoadAt f n) = 1
leaves (StoreAt f n) = 0
leaves (Apply o) = 1
leaves (Brz b) = 0
leaves (Brnz b) = 0
leaves (Jmp b) = 0
leaves Sleep = 0
leaves (Mitb l k) = 0
leaves Mite = 0
leaves Nop = 0
leaves Halt = 0

-- mitigations that an instruction opens, and that it closes
abbrev pub opens : Work → ℕ
opens (Push n) = 0
opens (Load x) = 0
opens (Store x) = 0
opens (LoadAt f n) = 0
opens (StoreAt f n) = 0
opens (Apply o) = 0
opens (Brz b) = 0
opens (Brnz b) = 0
opens (Jmp b) = 0
opens Sleep = 0
opens (Mitb l k) = 1
opens Mite = 0
opens Nop = 0
opens Halt = 0

abbrev pub closes : Work → ℕ
closes (Push n) = 0
closes (Load x) = 0
closes (Store x) = 0
closes (LoadAt f n) = 0
closes (StoreAt f n) = 0
closes (Apply o) = 0
closes (Brz b) = 0
closes (Brnz b) = 0
closes (Jmp b) = 0
closes Sleep = 0
closes (Mitb l k) = 0
closes Mite = 1
closes Nop = 0
closes Halt = 0

-- variables and levels are in range, and an array has an element
abbrev pub InRange : ℕ → ℕ → Work → Type 0
InRange vars labels (Push n) = Unit {0}
InRange vars labels (Load x) = x < vars
InRange vars labels (Store x) = x < vars
InRange vars labels (LoadAt f n) = (0 < n) × (f + n ≤ vars)
InRange vars labels (StoreAt f n) = (0 < n) × (f + n ≤ vars)
InRange vars labels (Apply o) = Unit {0}
InRange vars labels (Brz b) = Unit {0}
InRange vars labels (Brnz b) = Unit {0}
InRange vars labels (Jmp b) = Unit {0}
InRange vars labels Sleep = Unit {0}
InRange vars labels (Mitb l k) = l.number < labels
InRange vars labels Mite = Unit {0}
InRange vars labels Nop = Unit {0}
InRange vars labels Halt = Unit {0}

-- the instruction at a place may go to another place: there is one, and its depths are those after the
-- instruction
pub record Arrives (ds : Depths) (size place : ℕ) (w : Work) (to : ℕ) : Type 0 where
  pub within : to < size
  pub operands : ds.operands to + takes w ≡ ds.operands place + leaves w
  pub nesting : ds.nesting to + closes w ≡ ds.nesting place + opens w

-- where an instruction may go; HALT is last
abbrev pub Leads : Depths → ℕ → ℕ → Work → Type 0
Leads ds size a (Push n) = Arrives ds size a (Push n) (a + 1)
Leads ds size a (Load x) = Arrives ds size a (Load x) (a + 1)
Leads ds size a (Store x) = Arrives ds size a (Store x) (a + 1)
Leads ds size a (LoadAt f n) = Arrives ds size a (LoadAt f n) (a + 1)
Leads ds size a (StoreAt f n) = Arrives ds size a (StoreAt f n) (a + 1)
Leads ds size a (Apply o) = Arrives ds size a (Apply o) (a + 1)
Leads ds size a (Brz b) = Arrives ds size a (Brz b) (a + 1) × Arrives ds size a (Brz b) b
Leads ds size a (Brnz b) = Arrives ds size a (Brnz b) (a + 1) × Arrives ds size a (Brnz b) b
Leads ds size a (Jmp b) = Arrives ds size a (Jmp b) b
Leads ds size a Sleep = Arrives ds size a Sleep (a + 1)
Leads ds size a (Mitb l k) = Arrives ds size a (Mitb l k) (a + 1)
Leads ds size a Mite = Arrives ds size a Mite (a + 1)
Leads ds size a Nop = Arrives ds size a Nop (a + 1)
Leads ds size a Halt = a + 1 ≡ size

-- An instruction is fine at a place with these depths: there are enough operands and open mitigations, no
-- more than the greatest depths, and its variables and labels are in range.
pub record IsFine (vars labels most deepest size : ℕ) (ds : Depths) (place : ℕ) (i : Instr) : Type 0 where
  pub enough : takes i.work ≤ ds.operands place
  pub opened : closes i.work ≤ ds.nesting place
  pub few : ds.operands place ≤ most
  pub shallow : ds.nesting place ≤ deepest
  pub range : InRange vars labels i.work
  pub er : i.er.number < labels
  pub ew : i.ew.number < labels
  pub leads : Leads ds size place i.work

-- these are the depths of the code at each of its places
pub record HasDepths (c : Code) (ds : Depths) : Type 0 where
  pub some : 0 < length c.instrs
  pub small : length c.instrs ≤ 200000
  pub variables : c.variables ≤ 3072
  pub operands : ds.operands 0 ≡ 0
  pub nesting : ds.nesting 0 ≡ 0
  pub each : (a : ℕ) (i : Instr) → slice_get c.instrs a ≡ Some i → IsFine c.variables c.order.size c.operands c.nesting (length c.instrs) ds a i

-- At each place the depth of operands and of open mitigations is one known number. HALT is last and stands
-- nowhere else, since all other instructions go to a place of the code.
abbrev pub IsShaped : Code → Type 0
IsShaped c = (ds : Depths) × HasDepths c ds
