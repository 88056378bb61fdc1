use Rattle.std.proofs.Common.{◌∙◌, length, sym, arith}
use Rattle.part_cache.specs.Ways.{held_tags}
use Rattle.part_cache.proofs.Held.{length_ways, two_held}
use Rattle.part_cache.proofs.Rotate.{brought_row, brought_set, first_is, second_is}
use Rattle.part_cache.proofs.ways.Ways.bring.Goals as goal

pub returns-then-front-wide-clause-row : goal.returns-then-front-wide-clause-row
returns-then-front-wide-clause-row c ways few =
    let has = c.if-front-wide.true ∙ c.from-wide.ensures in
    brought_row c.args.self.now.tags c.requires.set c.args.tag ways c.ranges.tag.fits few 0 (omega arith) has c.args.self.now.tags
    (first_is c.args.self.now.tags c.args.tag (length_ways c.args.self.now.tags c.requires.set) has)

pub returns-then-self-wide-clause-row : goal.returns-then-self-wide-clause-row
returns-then-self-wide-clause-row c ways few =
    brought_row c.args.self.now.tags c.requires.set c.args.tag ways c.ranges.tag.fits few 1 (omega arith) (c.if-self-wide.true ∙ c.from-wide.ensures) _
    (second_is c.args.self.now.tags c.args.tag c.from-wide.result (length_ways c.args.self.now.tags c.requires.set) c.from-wide.ensures)

pub returns-then-self-wide-clause-set : goal.returns-then-self-wide-clause-set
returns-then-self-wide-clause-set c =
    brought_set c.args.self.now.tags c.requires.set c.args.tag (length (held_tags c.args.self.now.tags)) c.ranges.tag.fits (omega arith) 1 (omega arith)
    (c.if-self-wide.true ∙ c.from-wide.ensures) _
    (second_is c.args.self.now.tags c.args.tag c.from-wide.result (length_ways c.args.self.now.tags c.requires.set) c.from-wide.ensures)

pub returns-then-ways-le2-clause-held : goal.returns-then-ways-le2-clause-held
returns-then-ways-le2-clause-held c =
    two_held c.args.self.now.tags c.requires.set c.args.tag c.ranges.tag.fits (let few = c.requires.few in omega (arith, c.if-ways-le2.true))
    (λ e. c.if-front-wide.false (e ∙ sym c.from-wide.ensures)) (λ e. c.if-self-wide.false (e ∙ sym c.from-wide.ensures))
