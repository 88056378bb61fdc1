use Rattle.std.proofs.Common.{◌+◌, ◌++◌, [], length, arith, refl, ap, ap₂, ◌∙◌, Bool, nat_eq, cond, codes}
use Rattle.leak_numbers.specs.Numbers.{span_line, least_of, interval_line}
use Rattle.leak_numbers.proofs.Weights.{some_starts, few_squares}
use Rattle.leak_numbers.proofs.Lines.{all_put}
use Rattle.leak_numbers.proofs.numbers.put_numbers.Goals as goal

pub shannon-entropy-requires-clause-start : goal.shannon-entropy-requires-clause-start
shannon-entropy-requires-clause-start c =
    let some = some_starts c.args.weights.now c.requires.some in
    omega (arith, some)

pub guesses-requires-clause-squares : goal.guesses-requires-clause-squares
guesses-requires-clause-squares c =
    let few = few_squares c.args.weights.now c.requires.few in
    let is = c.squares.ensures in
    omega (arith, few, is)

pub returns : goal.returns
returns c =
    let w = c.args.weights.now in
    let even : Bool = nat_eq c.count-whole.result c.args.size in
    all_put c.args.size w c.args.text.now.items c.put_line.new.text.items c.put_line-2.new.text.items c.put_if.new.text.items
    c.put_line-3.new.text.items c.put_if-2.new.text.items c.put_if-3.new.text.items even (length w) c.squares.result c.log2-log.result
    c.shannon-entropy.result refl (ap (λ z. nat_eq z c.args.size) c.count-whole.ensures) c.squares.ensures
    (c.in_ok-put_line.ensures ∙ ap (λ z. c.args.text.now.items ++ z) c.counted.ensures)
    (c.in_ok-put_line-2.ensures ∙ ap (λ z. c.put_line.new.text.items ++ z) (c.span.ensures
    ∙ ap₂ span_line (c.least.ensures ∙ ap (λ z. least_of z w) c.count-whole.ensures) c.greatest.ensures))
    (c.in_ok-put_if.ensures ∙ ap (λ z. c.put_line-2.new.text.items ++ cond even z []) (c.interval.ensures
    ∙ ap (λ z. interval_line (codes "min-entropy ") c.log2-log.result (z + 2)) c.from.ensures))
    (c.in_ok-put_line-3.ensures ∙ ap (λ z. c.put_if.new.text.items ++ z) (c.interval-2.ensures
    ∙ ap₂ (λ a b. interval_line (codes "shannon ") a (b + 3)) c.saturating_sub.ensures c.from-high.ensures))
    (c.in_ok-put_if-2.ensures ∙ ap (λ z. c.put_line-3.new.text.items ++ cond even z []) c.first.ensures)
    (c.in_ok-put_if-3.ensures ∙ ap (λ z. c.put_if-2.new.text.items ++ cond even z []) c.guesses.ensures)
    c.if-classes-eq0.false c.log2-log.ensures.told c.shannon-entropy.ensures.told c.log2-log.ensures.log c.shannon-entropy.ensures.entropy
