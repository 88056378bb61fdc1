use Rattle.std.proofs.Common.{◌∙◌, sym, ap, length, pos, replicate}
use Rattle.std.proofs.lemmas.List.{length-replicate}
use Rattle.toml.specs.Data.{no_members}
use Rattle.start_file.specs.Tables.{data_of}
use Rattle.start_file.proofs.FilledRuns.{all_alone, shares_none}
use Rattle.start_file.proofs.starts.own_runs.Goals as goal

pub runs-requires-clause-size : goal.runs-requires-clause-size
runs-requires-clause-size c =
    ap length (c.deref.ensures.value ∙ c.in_ok-zeros.ensures) ∙ length-replicate c.variables.result (pos 0) ∙ c.variables.ensures.value

pub returns-in-Err-clause-refused : goal.returns-in-Err-clause-refused
returns-in-Err-clause-refused c n =
    let p = c.args.program.now in
    let zeros = c.deref.ensures.value ∙ c.in_ok-zeros.ensures ∙ ap (λ n. replicate n (pos 0)) c.variables.ensures.value in
    sym (all_alone p c.args.version (data_of c.args.value)) ∙ c.in-Err.ensures.refused n no_members (shares_none p c.args.version _ zeros)

pub returns-clause-ok : goal.returns-clause-ok
returns-clause-ok c =
    let p = c.args.program.now in
    let zeros = c.deref.ensures.value ∙ c.in_ok-zeros.ensures ∙ ap (λ n. replicate n (pos 0)) c.variables.ensures.value in
    sym (all_alone p c.args.version (data_of c.args.value)) ∙ c.in-Ok.ensures.ok no_members (shares_none p c.args.version _ zeros)
