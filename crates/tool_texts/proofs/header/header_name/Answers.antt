use Rattle.std.proofs.Common.{◌≡◌, ◌∙◌, sym, ap, ◌+◌, ◌*◌, length, arith}
use Rattle.mit_syntax.proofs.TokenFacts.{from_within, to_within, name_told}
use Rattle.tool_texts.specs.Texts.{named_at}
use Rattle.tool_texts.proofs.LineLemmas.{name_at, no_name_at}
use Rattle.tool_texts.proofs.header.header_name.Goals as goal

pub bytes-requires-clause-order : goal.bytes-requires-clause-order
bytes-requires-clause-order c = from_within _ _ c.requires _ _ c.if-place-tokens.false

pub bytes-requires-clause-within : goal.bytes-requires-clause-within
bytes-requires-clause-within c = to_within _ _ c.requires _ _ c.if-place-tokens.false

pub returns-in-Name-clause-name : goal.returns-in-Name-clause-name
returns-in-Name-clause-name c =
    let place : 2 * c.from.result + 1 ≡ 2 * c.args.a.number + 1 = omega (arith, c.from.ensures, c.number.ensures) in
    c.bytes.ensures ∙ sym (name_at c.args.text.now c.args.tokens.now (2 * c.from.result + 1) _ c.if-place-tokens.false c.in-Name.is)
    ∙ ap (named_at c.args.text.now c.args.tokens.now) place

pub returns-in-Name-clause-short : goal.returns-in-Name-clause-short
returns-in-Name-clause-short c =
    let name = name_told _ _ c.requires (2 * c.from.result + 1) _ c.if-place-tokens.false c.in-Name.is in
    omega (arith, ap length c.bytes.ensures, name.1)

pub returns-in_default : goal.returns-in_default
returns-in_default c =
    let place : 2 * c.from.result + 1 ≡ 2 * c.args.a.number + 1 = omega (arith, c.from.ensures, c.number.ensures) in
    record {
      name = sym (no_name_at c.args.text.now c.args.tokens.now (2 * c.from.result + 1) _ c.if-place-tokens.false c.in_default.not-Name)
          ∙ ap (named_at c.args.text.now c.args.tokens.now) place;
      short = omega arith;
    }
