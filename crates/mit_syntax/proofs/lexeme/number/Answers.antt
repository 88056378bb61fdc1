use Rattle.std.proofs.Common.{take, drop, ap, ◌∙◌, subst, ℕ, pos, ◌<◌, ◌≤◌, ◌^◌, arith}
use Rattle.std.proofs.lemmas.Int.{to_z_pos}
use Rattle.std.specs.Int.{w64}
use Rattle.std.specs.Char.{is_ascii_digit}
use Rattle.mit_syntax.proofs.LexBytes.{front_passes}
use Rattle.mit_syntax.proofs.LexLongest.{digits_front, token_of, both_parts}
use Rattle.mit_syntax.proofs.lexeme.number.Goals as goal

small : (n : ℕ) → n ≤ 9223372036854775807 → n < 2 ^ 63
small n h = omega (arith, h)

pub number_of-requires : goal.number_of-requires
number_of-requires c = front_passes is_ascii_digit _ _ c.digits_len-n.ensures.within c.digits_len-n.ensures.before

pub returns-in-Some : goal.returns-in-Some
returns-in-Some c =
    let e = c.digits_len-n.ensures in
    let f = digits_front c.args.text.now c.digits_len-n.result c.requires.some c.requires.digit e.within e.before e.stops in
    token_of c.args.text.now _ _ e.within (
      f.0,
      to_z_pos w64 c.in-Some.value (small c.in-Some.value c.in-Some.ensures.1) ∙ ap pos c.in-Some.ensures.0,
      subst (λ (n : ℕ). n ≤ 9223372036854775807) c.in-Some.ensures.0 c.in-Some.ensures.1,
    ) f.1

pub returns-in-None : goal.returns-in-None
returns-in-None c =
    let e = c.digits_len-n.ensures in
    let f = digits_front c.args.text.now c.digits_len-n.result c.requires.some c.requires.digit e.within e.before e.stops in
    record {
      spelled = take c.digits_len-n.result c.args.text.now;
      rest = drop c.digits_len-n.result c.args.text.now;
      are = both_parts _ _ e.within;
      is = (f.0, c.in-None.ensures);
      longest = f.1;
    }
