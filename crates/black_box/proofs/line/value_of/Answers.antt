use Rattle.std.proofs.Common.{◌+◌, ◌-◌, ◌*◌, sym, ◌∙◌, arith, get_or, drop}
use Rattle.std.proofs.lemmas.Bool.{MatchBool-at_true}
use Rattle.std.proofs.lemmas.List.{at_drop_more}
use Rattle.black_box.proofs.LineLemmas.{value_left, value_of_digit, value_too_large}
use Rattle.black_box.proofs.line.value_of.Goals as goal

pub returns-then-is_too_late : goal.returns-then-is_too_late
returns-then-is_too_late c =
    let n = c.loop-byte.value in
    let i = c.loop-byte.byte-index in
    let b = get_or c.args.digits.now i 0 in
    let rest = drop (i + 1) c.args.digits.now in
    sym (sym c.loop-byte.invariant.so_far
    ∙ at_drop_more (value_left n) c.args.digits.now i 0 c.loop-byte-test.true
    ∙ value_of_digit n b rest (sym c.is_ascii_digit.ensures.value ∙ c.if-not-is_ascii_digit.false)
    ∙ value_too_large (10 * n + (b - 48)) rest (omega (arith, c.from.ensures, MatchBool-at_true _ _ c.if-is_too_late.true c.is_too_late.ensures)))
