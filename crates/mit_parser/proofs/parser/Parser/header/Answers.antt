use Rattle.std.proofs.lemmas.Result.{MatchResult-weaker}
use Rattle.mit_syntax.specs.declared.token.Keyword.TheVariants.{Labels}
use Rattle.mit_syntax.specs.Chunks.{key}
use Rattle.mit_parser.specs.Words.{word}
use Rattle.mit_parser.specs.Machine.{header}
use Rattle.mit_parser.proofs.Listed.{was_there}
use Rattle.mit_parser.proofs.Numbered.{keys_differ, numbers_below}
use Rattle.mit_parser.proofs.Opening.{header_some, refused_memory}
use Rattle.mit_parser.proofs.parser.Parser.header.Goals as goal

pub build-requires-clause-differ : goal.build-requires-clause-differ
build-requires-clause-differ c = rw c.as_slice.ensures.keys (keys_differ c.in_ok-labels.labels.keys c.as_slice.ensures.unique)

pub build-requires-clause-numbers : goal.build-requires-clause-numbers
build-requires-clause-numbers c =
    rw (
      c.deref.ensures.value,
      c.as_slice.ensures.keys,
      c.in_ok-numbers.ensures.means.0,
    ) (numbers_below c.in_ok-labels.labels.keys c.in_ok-labels.ensures.some c.in_ok-numbers.ensures.tree)

pub returns : goal.returns
returns c =
    let t = was_there (word (key Labels)) _ _ _ c.if-not-branch.false c.in_ok-accept_key.ensures in
    MatchResult-weaker c.build.result c.build.ensures
    (λ h k. header_some c.args.self.now c.accept_key.new.self c.labels.new.self c.sign.new.self c.ordering.new.self c.build.new.self c.in_ok-labels.labels.keys
    c.in_ok-numbers.numbers.items h.lattice h.pairs.items
    c.requires t c.in_ok-labels.ensures c.in_ok-sign.ensures c.in_ok-numbers.ensures k.0 (rw (c.as_slice.ensures.keys, c.deref.ensures.value) at k.1))
    (λ f k. refused_memory header c.args.self.now c.build.new.self f k)
