-- A form as code keeps it.
use Rattle.label_infer.specs.declared.left_side.LeftSide.{LeftSide as DLeftSide}
use Rattle.label_infer.specs.Sets.{has_of}
use Rattle.label_infer.specs.Constraints.{LeftSide}

abbrev pub left_side_of : DLeftSide → LeftSide
left_side_of f = record { base = f.base.number; has = has_of f.variables }
