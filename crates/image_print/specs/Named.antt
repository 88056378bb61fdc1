-- What is needed to print an instruction.
use Rattle.std.specs.Prelude.{◌<◌, List}
use Rattle.label_lattice.specs.Order.{Order}
use Rattle.label_code.specs.declared.code.Instr.{Instr}
use Rattle.label_code.specs.Shaped.{InRange}
use Rattle.mit_syntax.specs.Declarations.{Declaration, variables}

-- its variables and labels have names
pub record IsNamed (o : Order) (ds : List Declaration) (i : Instr) : Type 0 where
  pub work : InRange (variables ds) o.size i.work
  pub er : i.er.number < o.size
  pub ew : i.ew.number < o.size
