-- What is read is a space for the program.
use Rattle.std.proofs.Common.{◌≡◌, sym, subst, ◌≤◌, ◌^◌, Option, Some, true}
use Rattle.std.specs.Prelude.{All}
use Rattle.std.specs.List.{list_all}
use Rattle.toml.specs.Data.{Data}
use Rattle.label_lattice.specs.Order.{IsOrder}
use Rattle.mit_syntax.specs.Program.{Syntax}
use Rattle.start_file.specs.declared.version.Version.TheVariants.{Two}
use Rattle.start_file.specs.Touches.{touches_in}
use Rattle.space_file.specs.Files.{values_in}
use Rattle.space_starts.specs.Space.{SpaceValue, IsValues, IsSpaceFor, size_of, apart}
use Rattle.space_file.proofs.Filling.{length_values_in}
use Rattle.space_file.proofs.Lists.{each_once}
use Rattle.start_file.proofs.ForProgram.{all_below}

pub is_for : (p : Syntax) → IsOrder p.order → (s z : SpaceValue) (m t : Option Data) → values_in p m ≡ Some z.memory → All IsValues z.memory
    → list_all apart z.memory ≡ true → touches_in Two p.order t ≡ Some z.touches → s ≡ z → size_of s ≤ 2 ^ 40 → IsSpaceFor p s
is_for p order s z m t memory are once touches e few =
    subst (IsSpaceFor p) (sym e)
    (record {
      memory = length_values_in p m z.memory memory;
      touches = all_below p.order order Two t z.touches touches;
      values = are;
      once = each_once z.memory once;
      few = subst (λ y. size_of y ≤ 2 ^ 40) e few;
    })
