-- A lattice's fields, with its names in a room of a fixed size.
use Rattle.std.specs.Prelude.{◌≡◌, ℕ, List, take}
use Rattle.std.proofs.Common.{ap, sym}
use Rattle.label_lattice.specs.declared.lattice.Lattice.TheInside.{Inside}
use Rattle.label_lattice.specs.Order.{Order, IsOrder}
use Rattle.label_lattice.specs.Room.{filled}

abbrev pub order_of : Inside → Order
order_of l = record { size = l.size; names = take l.size l.names; flows = l.flows; joins = l.joins; bottom = l.bottom }

abbrev pub inside_of : Order → Inside
inside_of o = record { size = o.size; names = filled o.names o.size; flows = o.flows; joins = o.joins; bottom = o.bottom }

pub record IsKept (l : Inside) : Type 0 where
  pub order : IsOrder (order_of l)
  pub room : l.names ≡ filled (take l.size l.names) l.size

abbrev with_names : Inside → List (List ℕ) → Inside
with_names l names = record { size = l.size; names = names; flows = l.flows; joins = l.joins; bottom = l.bottom }

pub inside_again : (l : Inside) → IsKept l → inside_of (order_of l) ≡ l
inside_again l h = ap (with_names l) (sym h.room)
