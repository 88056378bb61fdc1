use Rattle.std.proofs.Common.{◌≡◌, Some, sym, subst}
use Rattle.label_lattice.specs.Order.{IsOrder}
use Rattle.mit_syntax.specs.Program.{syntax}
use Rattle.mit_syntax.specs.Valid.{IsValid}
use Rattle.mit_parser.proofs.parse.assembled.Goals as goal

pub of-requires : goal.of-requires
of-requires c =
    let same : c.requires.parts.order ≡ c.args.lattice.value =
    let z : Some c.requires.parts.order ≡ Some c.args.lattice.value = sym c.requires.parts.there in cc in
    subst (λ q. IsValid (syntax q c.args.pairs.items c.args.variables c.args.body.items)) same
    (c.requires.parts.valid (subst IsOrder (sym same) c.requires.order) c.laws.ensures.few c.laws.ensures.differ)
