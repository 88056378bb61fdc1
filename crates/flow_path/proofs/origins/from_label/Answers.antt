use Rattle.std.proofs.Common.{refl}
use Rattle.flow_path.proofs.Telling.{origin_is, none_from}
use Rattle.flow_path.proofs.origins.from_label.Goals as goal

pub returns-in-Some-clause-some : goal.returns-in-Some-clause-some
returns-in-Some-clause-some c = (
  refl,
  origin_is c.args.p.now c.requires.valid c.args.spot.now c.requires.omitted c.args.label c.in_ok-all.all c.in_ok-all.ensures c.in_ok-chain-in-Some.chain.items
      c.in_ok-chain-in-Some.ensures.0 c.in_ok-chain-in-Some.ensures.1 (record { label = c.args.label; chain = c.in_ok-chain-in-Some.chain }) refl refl,
)

pub returns-clause-none : goal.returns-clause-none
returns-clause-none c =
    none_from c.args.p.now c.requires.valid c.args.spot.now c.requires.omitted c.args.label c.in_ok-all.all c.in_ok-all.ensures c.in-None.is
