-- What a search looks for.
use Rattle.std.specs.Prelude.{◌≡◌, ℕ, ◌==◌, Bool, not, Some}
use Rattle.text_base.specs.declared.pos.Pos.{Pos}
use Rattle.label_lattice.specs.Order.{lattice_of}
use Rattle.mit_syntax.specs.Program.{Syntax}
use Rattle.timing_types.specs.declared.rule.Rule.{Rule}
use Rattle.flow_path.specs.declared.step.Spot.{Spot}
use Rattle.flow_path.specs.declared.target.Target.{Target}
use Rattle.flow_path.specs.declared.target.Target.TheVariants.{Broken, From}
use Rattle.flow_path.specs.Steps.{written}

-- a chain may end by the condition with this rule, position and right side
abbrev pub IsGoalBy : Syntax → Target → Rule → Pos → Spot → Type 0
IsGoalBy s (Broken rule pos allowed) r q p = (r ≡ rule) × (q ≡ pos) × (written s p ≡ Some allowed.number)
IsGoalBy s (From spot label) r q p = p ≡ spot

-- it may begin at this written label
abbrev pub is_high : Syntax → Target → ℕ → Bool
is_high s (Broken rule pos allowed) a = not ((lattice_of s.order).flows a allowed.number)
is_high s (From spot label) a = a == label.number
