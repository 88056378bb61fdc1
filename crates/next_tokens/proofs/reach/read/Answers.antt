use Rattle.std.proofs.Common.{◌≡◌, ◌∙◌, ap, subst, ℕ, take, length, Some, refl, arith}
use Rattle.std.specs.Prelude.{is_some}
use Rattle.mit_parser.specs.Words.{told}
use Rattle.mit_parser.specs.Machine.{step}
use Rattle.next_tokens.specs.Parts.{after, at_start, left_of}
use Rattle.next_tokens.proofs.Reached.{read_to, read_on, read_all}
use Rattle.next_tokens.proofs.reach.read.Goals as goal

pub returns-then-not-takes : goal.returns-then-not-takes
returns-then-not-takes c = λ text.
    read_to text c.args.tokens.now c.loop-i.i _ (left_of c.loop-i.parts.items) c.sort_in-sort.result c.loop-i-test.true c.sort_in-sort.ensures
    (c.loop-i.invariant text) (λ w q. c.if-not-takes.ensures w q ∙ ap (λ l. is_some (step (left_of l) w)) c.as_slice.ensures.value)

pub loop-i-preserved : goal.loop-i-preserved
loop-i-preserved c = λ text.
    read_on text c.args.tokens.now c.loop-i.i _ (left_of c.loop-i.parts.items) c.sort_in-sort.result c.loop-i-test.true c.sort_in-sort.ensures
    (c.loop-i.invariant text) (left_of c.take.new.parts.items) c.in_ok-take.field-0
    (λ w q. c.if-not-takes.ensures w q ∙ ap (λ l. is_some (step (left_of l) w)) c.as_slice.ensures.value) c.in_ok-take.ensures

pub returns : goal.returns
returns c = λ text.
    let e : c.loop-i.i ≡ length c.args.tokens.now = omega arith in
    read_all text c.args.tokens.now (length c.args.tokens.now) (left_of c.loop-i.parts.items) refl
    (subst (λ (n : ℕ). after at_start (told text (take n c.args.tokens.now)) ≡ Some (left_of c.loop-i.parts.items)) e (c.loop-i.invariant text))
