use Rattle.std.proofs.Common.{◌≡◌, sym, rules, length, true}
use Rattle.std.specs.List.{AllAdjacentBelow}
use Rattle.std.proofs.lemmas.Bool.Decides.{when_true}
use Rattle.std.proofs.lemmas.Fn.{always_returns_same}
use Rattle.mit_syntax.specs.declared.token.Token.{Token}
use Rattle.flow_print.specs.Places.{is_after}
use Rattle.flow_print.proofs.places.Spelling.new.Goals as goal

pub invariant_of-result : goal.invariant_of-result
invariant_of-result c = record {
  risen = λ yes.
      let tokens = c.args.tokens.now in
      let answer = c.is_sorted_by-rise.ensures.cases (λ a b. is_after b.pos a.pos) (always_returns_same _ _ _ (λ a r f k. search rules)) in
      let adjacent = AllAdjacentBelow (λ (a b : Token). true ≡ is_after b.pos a.pos) tokens (length tokens) in
      λ k d lt. sym (when_true adjacent _ yes answer k d lt);
}
