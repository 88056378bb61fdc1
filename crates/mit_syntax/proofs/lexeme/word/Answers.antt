use Rattle.std.proofs.Common.{◌≡◌, ◌<◌, ◌≤◌, ℕ, Bool, true, false, take, drop}
use Rattle.std.specs.Prelude.{MatchBool}
use Rattle.std.proofs.lemmas.Bool.{MatchBool-at_true, MatchBool-at_false}
use Rattle.mit_syntax.proofs.LexLongest.{word_front, token_of, both_parts, front_size}
use Rattle.mit_syntax.proofs.lexeme.word.Goals as goal

long : {b : Bool} {n : ℕ} → b ≡ true → MatchBool b (32 < n) (n ≤ 32) → 32 < n
long = MatchBool-at_true _ _

short : {b : Bool} {n : ℕ} → b ≡ false → MatchBool b (32 < n) (n ≤ 32) → n ≤ 32
short = MatchBool-at_false _ _

pub returns-in-Some : goal.returns-in-Some
returns-in-Some c =
    let e = c.name_len-n.ensures in
    let f = word_front c.args.text.now c.name_len-n.result c.requires.some c.requires.letter e.within e.before e.stops in
    token_of c.args.text.now _ _ e.within c.in-Some.ensures f.1

pub returns-then-is_too_long : goal.returns-then-is_too_long
returns-then-is_too_long c =
    let e = c.name_len-n.ensures in
    let f = word_front c.args.text.now c.name_len-n.result c.requires.some c.requires.letter e.within e.before e.stops in
    record {
      spelled = take c.name_len-n.result c.args.text.now;
      rest = drop c.name_len-n.result c.args.text.now;
      are = both_parts _ _ e.within;
      is = (f.0, c.in_default.ensures, rw (front_size c.args.text.now c.name_len-n.result e.within) (long c.if-is_too_long.true c.is_too_long.ensures));
      longest = f.1;
    }

pub returns : goal.returns
returns c =
    let e = c.name_len-n.ensures in
    let f = word_front c.args.text.now c.name_len-n.result c.requires.some c.requires.letter e.within e.before e.stops in
    token_of c.args.text.now _ _ e.within (
      f.0,
      rw (front_size c.args.text.now c.name_len-n.result e.within) (short c.if-is_too_long.false c.is_too_long.ensures),
      c.in_default.ensures,
    ) f.1
