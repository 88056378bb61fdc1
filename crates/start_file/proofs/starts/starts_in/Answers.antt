use Rattle.std.proofs.Common.{◌∙◌, ap, sym}
use Rattle.std.proofs.lemmas.Result.{IfOk-weaker, IfErr-weaker}
use Rattle.toml.specs.View.{table_view}
use Rattle.start_file.specs.Starts.{is_top_key, runs_of}
use Rattle.start_file.specs.Versions.{version_of}
use Rattle.start_file.proofs.Listed.{known_top, unknown_top}
use Rattle.start_file.proofs.TableLemmas.{keys_told}
use Rattle.start_file.proofs.starts.starts_in.Goals as goal

pub returns-then-not-has_top_keys-clause-refused : goal.returns-then-not-has_top_keys-clause-refused
returns-then-not-has_top_keys-clause-refused c _ =
    let version = c.in-Some.ensures ∙ ap version_of c.at.ensures in
    let known = keys_told is_top_key c.args.table.now.entries c.has_top_keys.result _ c.has_top_keys.ensures c.if-not-has_top_keys.true in
    unknown_top c.args.program.now (table_view c.args.table.now) c.in-Some.version version known

pub returns-clause-ok : goal.returns-clause-ok
returns-clause-ok c =
    let version = c.in-Some.ensures ∙ ap version_of c.at.ensures in
    let known = keys_told is_top_key c.args.table.now.entries c.has_top_keys.result _ c.has_top_keys.ensures c.if-not-has_top_keys.false in
    let all = known_top c.args.program.now (table_view c.args.table.now) c.in-Some.version version known
    ∙ sym (ap (runs_of c.args.program.now c.in-Some.version) c.at-2.ensures) in
    IfOk-weaker c.own_runs.result _ _ (λ v e. all ∙ e) c.own_runs.ensures.ok

pub returns-clause-refused : goal.returns-clause-refused
returns-clause-refused c =
    let version = c.in-Some.ensures ∙ ap version_of c.at.ensures in
    let known = keys_told is_top_key c.args.table.now.entries c.has_top_keys.result _ c.has_top_keys.ensures c.if-not-has_top_keys.false in
    let all = known_top c.args.program.now (table_view c.args.table.now) c.in-Some.version version known
    ∙ sym (ap (runs_of c.args.program.now c.in-Some.version) c.at-2.ensures) in
    IfErr-weaker c.own_runs.result _ _ (λ f e n. all ∙ e n) c.own_runs.ensures.refused
