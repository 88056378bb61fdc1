use Rattle.std.proofs.Common.{◌∙◌, sym, ap, length, pos, replicate}
use Rattle.std.proofs.lemmas.List.{length-replicate}
use Rattle.toml.specs.Data.{no_members}
use Rattle.start_file.proofs.Written.{zero_memory}
use Rattle.start_file.proofs.memory.memory.Goals as goal

pub values_over-requires-clause-size : goal.values_over-requires-clause-size
values_over-requires-clause-size c = ap length c.in_ok-zeros.ensures ∙ length-replicate c.variables.result (pos 0) ∙ c.variables.ensures.value

pub returns-clause-values : goal.returns-clause-values
returns-clause-values c =
    c.in_ok-values.ensures.values no_members
    (c.in_ok-zeros.ensures ∙ ap (λ n. replicate n (pos 0)) c.variables.ensures.value ∙ sym (zero_memory c.args.program.now.declarations))
