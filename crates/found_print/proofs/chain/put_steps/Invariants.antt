use Rattle.std.proofs.Common.{◌≡◌, ◌++◌, drop}
use Rattle.json_text.specs.Json.{items_text}
use Rattle.found_print.specs.Chains.{steps_items}
use Rattle.found_print.proofs.chain.put_steps.Given as goal

abbrev pub invariant-loop-step : goal.invariant-loop-step
invariant-loop-step l =
    l.out.items ++ items_text (steps_items l.spelling.text.now l.spelling.tokens.now l.p (drop l.step-index l.chain) l.first)
    ≡ l.initial.out.items ++ items_text (steps_items l.spelling.text.now l.spelling.tokens.now l.p l.chain l.first)
