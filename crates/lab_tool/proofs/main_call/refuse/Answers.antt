use Rattle.std.proofs.Common.{ℕ, List, map, string_bytes, refl, sym, subst}
use Rattle.tool_texts.specs.declared.status.Status.TheVariants.{Usage, Memory}
use Rattle.tool_texts.specs.Ends.{Nothing}
use Rattle.tool_texts.proofs.EndLemmas.{ends_finish, ends_memory}
use Rattle.tool_stages.proofs.FetchLemmas.{never_read}
use Rattle.lab_tool.specs.Answers.{IsUsage}
use Rattle.lab_tool.proofs.main_call.refuse.Goals as goal

pub returns-in-Ok-clause-usage : goal.returns-in-Ok-clause-usage
returns-in-Ok-clause-usage g c =
    ends_finish (g.W.Sink.taken c.args.out.now) (g.W.Sink.taken c.finish.new.out) Nothing (IsUsage (map string_bytes c.args.words.now))
    Usage c.as_slice.result.now c.finish.result
    (subst (λ (t : List ℕ). IsUsage (map string_bytes c.args.words.now) Usage t) (sym c.as_slice.ensures.value) c.in-Ok.ensures)
    c.finish.ensures.told c.finish.ensures.prefix

pub returns-in-Err-clause-usage : goal.returns-in-Err-clause-usage
returns-in-Err-clause-usage g c =
    ends_memory (g.W.Sink.taken c.args.out.now) (g.W.Sink.taken c.stop_for_memory.new.out) Nothing (IsUsage (map string_bytes c.args.words.now))
    c.stop_for_memory.result refl c.stop_for_memory.ensures.told c.stop_for_memory.ensures.prefix

pub returns-in-Ok-clause-read : goal.returns-in-Ok-clause-read
returns-in-Ok-clause-read g c = never_read Usage c.finish.result (λ e. absurd cc) (λ n. (c.finish.ensures.told n).0)

pub returns-in-Err-clause-read : goal.returns-in-Err-clause-read
returns-in-Err-clause-read g c = never_read Memory c.stop_for_memory.result (λ e. absurd cc) (λ n. (c.stop_for_memory.ensures.told n).0)
