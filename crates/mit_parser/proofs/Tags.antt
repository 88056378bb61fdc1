-- The numbers of signs.
use Rattle.std.proofs.Common.{◌≡◌, refl, ap₂, ◌==◌}
use Rattle.std.specs.Prelude.{nat_eq}
use denote.Enum.Declared.{tag_of}
use Rattle.mit_syntax.specs.contracts.token.Sign.{the_type}
use Rattle.mit_syntax.specs.declared.token.Sign.{Sign}
use Rattle.mit_syntax.specs.declared.token.Sign.TheVariants.{Assign}
use Rattle.mit_parser.specs.Words.{sign_code}

tag_is : (s : Sign) → tag_of the_type s ≡ sign_code s
tag_is Assign = refl
tag_is s = refl

pub same_tags : (a b : Sign) → nat_eq (tag_of the_type a) (tag_of the_type b) ≡ (sign_code a == sign_code b)
same_tags a b = ap₂ nat_eq (tag_is a) (tag_is b)
