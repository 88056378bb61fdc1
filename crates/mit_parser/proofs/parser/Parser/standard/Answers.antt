use Rattle.std.proofs.Common.{◌≡◌, refl, sym, ◌∙◌, ap, ◌∷◌, [], arith, true, false}
use Rattle.std.specs.Prelude.{is_some}
use Rattle.label_lattice.specs.Names.{IsName, keywords}
use Rattle.mit_parser.proofs.parser.Parser.standard.Goals as goal

is_L : IsName (76 ∷ [])
unfolding keywords
is_L = ((refl, tt), omega arith, refl)

is_H : IsName (72 ∷ [])
unfolding keywords
is_H = ((refl, tt), omega arith, refl)

absurd_of : false ≡ true → ⊥
absurd_of e = cc

pub unreachable-requires : goal.unreachable-requires
unreachable-requires c = absurd_of (sym (ap is_some c.in_default.is) ∙ c.read.ensures.names.1 is_L)

pub unreachable-requires-in_default-read : goal.unreachable-requires-in_default-read
unreachable-requires-in_default-read c = absurd_of (sym (ap is_some c.in_default-read.is) ∙ c.read-2.ensures.names.1 is_H)
