-- How long made texts are.
use Rattle.std.proofs.Common.{ℕ, zero, suc, ◌+◌, ◌*◌, ◌%◌, ◌<◌, ◌≤◌, List, ◌++◌, length, arith}
use Rattle.std.specs.Prelude.{codes, decimal}
use Rattle.std.proofs.lemmas.List.{length-append}
use Rattle.std.proofs.lemmas.Fmt.{length-decimal-le}
use Rattle.mit_gen.specs.declared.unit.Kind.{Kind}
use Rattle.mit_gen.specs.declared.unit.Kind.TheVariants.{Sum, Masked, Countdown, Choice}
use Rattle.mit_gen.specs.Made.{draw, kind_of, unit_from, text_by_kind, unit_text, state_after, separator, units, declarations, program_text, start_text, runs}
use Rattle.mit_gen.specs.Made.{starts_text}

one : (n : ℕ) → n < 10 → length (decimal n) ≤ 1
one n h = length-decimal-le 1 n (omega arith) (omega (arith, h)) (omega (arith, h))

two : (n : ℕ) → n < 100 → length (decimal n) ≤ 2
two n h = length-decimal-le 2 n (omega arith) (omega (arith, h)) (omega (arith, h))

three : (n : ℕ) → n < 1000 → length (decimal n) ≤ 3
three n h = length-decimal-le 3 n (omega arith) (omega (arith, h)) (omega (arith, h))

unit_short : (k : Kind) (a b c : ℕ) → a < 4 → b < 4 → c < 100 → length (text_by_kind k a b c) ≤ 55
unit_short Sum a b c ha hb hc = simp length-append (omega (arith, one a (omega (arith, ha)), one b (omega (arith, hb)), two c hc))
unit_short Masked a b c ha hb hc =
    simp length-append (omega (arith, one a (omega (arith, ha)), one b (omega (arith, hb)), two c hc, three (c + 1) (omega (arith, hc))))
unit_short Countdown a b c ha hb hc = simp length-append (omega (arith, one a (omega (arith, ha)), three (c + 1) (omega (arith, hc))))
unit_short Choice a b c ha hb hc = simp length-append (omega (arith, one a (omega (arith, ha)), one b (omega (arith, hb)), two c hc))

below : (x n : ℕ) → 0 < n → x % n < n
below x n h = omega (arith, h)

separator_short : (n : ℕ) → length (separator n) ≤ 2
separator_short zero = omega arith
separator_short (suc n) = omega arith

drawn_short : (s : ℕ) → length (unit_text (unit_from s)) ≤ 55
drawn_short s = unit_short (kind_of (draw s 0)) (draw s 1 % 4) (draw s 2 % 4) (draw s 3 % 100) (below (draw s 1) 4 (omega arith))
    (below (draw s 2) 4 (omega arith)) (below (draw s 3) 100 (omega arith))

units_short : (number n : ℕ) → length (units number n) ≤ 57 * n
units_short number zero = omega arith
units_short number (suc n) = next (units number n) (separator n) (unit_text (unit_from (state_after number (4 * n)))) (units_short number n) (separator_short n)
    (drawn_short (state_after number (4 * n)))
  where
    next : (xs ys zs : List ℕ) → length xs ≤ 57 * n → length ys ≤ 2 → length zs ≤ 55 → length (xs ++ (ys ++ zs)) ≤ 57 * suc n
    next xs ys zs h1 h2 h3 = omega (arith, length-append xs (ys ++ zs), length-append ys zs, h1, h2, h3)

pub program_short : (size number : ℕ) → size ≤ 10000 → length (program_text size number) ≤ 1048576
program_short size number h = omega (
  arith,
  length-append declarations (units number size ++ codes "\n"),
  length-append (units number size) (codes "\n"),
  units_short number size,
  h,
)

start_short : (r : ℕ) → r < 4 → length (start_text r) ≤ 100
start_short r h = simp length-append (omega (
  arith,
  one r (omega (arith, h)),
  one (2 * r) (omega (arith, h)),
  one (3 * r) (omega (arith, h)),
  two (5 * r) (omega (arith, h)),
))

runs_short : (n : ℕ) → n ≤ 4 → length (runs n) ≤ 100 * n
runs_short zero h = omega arith
runs_short (suc n) h = omega (arith, length-append (runs n) (start_text n), runs_short n (omega (arith, h)), start_short n (omega (arith, h)))

pub starts_short : length starts_text ≤ 1048576
starts_short = omega (arith, runs_short 4 (omega arith))
