use Rattle.std.proofs.Common.{◌∙◌, sym, ap, length, codes}
use Rattle.toml.specs.Data.{get_member}
use Rattle.toml.specs.View.{table_view}
use Rattle.start_file.specs.declared.version.Version.TheVariants.{Two}
use Rattle.start_file.specs.Tables.{members_in}
use Rattle.start_file.specs.Values.{memory_passes, memory_of}
use Rattle.start_file.specs.Starts.{runs_of}
use Rattle.start_file.specs.Shared.{filled_runs}
use Rattle.start_file.proofs.FilledRuns.{shared_runs, shares_all}
use Rattle.start_file.proofs.Written.{length-memory_of}
use Rattle.start_file.proofs.shared.shared_in.Goals as goal

pub runs-requires-clause-size : goal.runs-requires-clause-size
runs-requires-clause-size c = ap length (c.deref.ensures.value ∙ c.in_ok-shared.ensures.values) ∙ length-memory_of c.args.program.now.declarations _

pub returns-in-Err-clause-refused : goal.returns-in-Err-clause-refused
returns-in-Err-clause-refused c n =
    let p = c.args.program.now in
    let ms = table_view c.args.table.now in
    let shared = members_in (get_member (codes "memory") ms) in
    let keys = sym c.list_keys_pass.ensures ∙ c.if-not-list_keys_pass.false in
    let good = ap (memory_passes p.declarations) (sym c.at.ensures) ∙ c.in_ok-shared.ensures.passes in
    let are = c.deref.ensures.value ∙ c.in_ok-shared.ensures.values ∙ ap (λ o. memory_of p.declarations (members_in o)) c.at.ensures in
    shared_runs p ms keys good ∙ ap (λ o. runs_of p Two (filled_runs shared o)) (sym c.at-2.ensures)
    ∙ c.in-Err.ensures.refused n shared (shares_all p ms keys good c.deref.result.now are)

pub returns-clause-ok : goal.returns-clause-ok
returns-clause-ok c =
    let p = c.args.program.now in
    let ms = table_view c.args.table.now in
    let shared = members_in (get_member (codes "memory") ms) in
    let keys = sym c.list_keys_pass.ensures ∙ c.if-not-list_keys_pass.false in
    let good = ap (memory_passes p.declarations) (sym c.at.ensures) ∙ c.in_ok-shared.ensures.passes in
    let are = c.deref.ensures.value ∙ c.in_ok-shared.ensures.values ∙ ap (λ o. memory_of p.declarations (members_in o)) c.at.ensures in
    shared_runs p ms keys good ∙ ap (λ o. runs_of p Two (filled_runs shared o)) (sym c.at-2.ensures)
    ∙ c.in-Ok.ensures.ok shared (shares_all p ms keys good c.deref.result.now are)
