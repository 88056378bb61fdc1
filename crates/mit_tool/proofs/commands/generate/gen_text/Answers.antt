use Rattle.std.proofs.Common.{Some, []}
use Rattle.std.specs.Prelude.{ℕ, List, ◌^◌, length, map, codes}
use Rattle.mit_gen.specs.Made.{starts_text}
use Rattle.mit_syntax.specs.Plan.{count}
use Rattle.mit_syntax.specs.Program.{plan_of}
use Rattle.start_file.specs.Starts.{seen}
use Rattle.tool_words.specs.declared.words.EnvName.TheVariants.{Part}
use Rattle.tool_texts.specs.declared.status.Status.TheVariants.{Done}
use Rattle.tool_texts.specs.Reports.{made_lines}
use Rattle.mit_tool.specs.Answers.{made_content}
use Rattle.tool_stages.proofs.PrepareLemmas.{prepare_stops, prepared_goes, audit_stops}
use Rattle.mit_tool.proofs.AuditLemmas.{audited_after, audited_stop_after}
use Rattle.mit_tool.proofs.PrepareLemmas.{made_next}
use Rattle.mit_tool.proofs.commands.generate.gen_text.Goals as goal

pub returns-in-Err-clause-stop : goal.returns-in-Err-clause-stop
returns-in-Err-clause-stop g c =
    prepare_stops (λ (name : List ℕ). ⊥) (made_content c.args.size c.args.number) [] (codes "L") ⊥ (Some (Some starts_text))
    (made_next c.args.size c.args.number) c.in-Err.stop c.in-Err.ensures.stop

pub returns-in-Ok-audit_after-clause-text : goal.returns-in-Ok-audit_after-clause-text
returns-in-Ok-audit_after-clause-text g c =
    let p = c.in-Ok-prepare_made.prepared in
    let q = p.compiled.typed.labelled in
    let ss = map seen p.starts.items in
    let x = c.in-Ok-audit_after.text.items in
    let before = made_lines c.args.size c.args.number (count (plan_of q.program)) (length p.compiled.image.instrs) in
    prepared_goes (λ (name : List ℕ). ⊥) (made_content c.args.size c.args.number) [] (codes "L") ⊥ (Some (Some starts_text)) q p.observer p.compiled.image ss
    (made_next c.args.size c.args.number) Done x c.in-Ok-prepare_made.ensures.ok
    (audited_after Part (2 ^ 40) q p.observer ss c.in-Ok-made_text.text.items before Done x c.in-Ok-made_text.ensures c.in-Ok-audit_after.ensures.text)

pub returns-clause-stop : goal.returns-clause-stop
returns-clause-stop g c =
    let p = c.in-Ok-prepare_made.prepared in
    let q = p.compiled.typed.labelled in
    let ss = map seen p.starts.items in
    let e = c.in-Err-audit_after.stop in
    let before = made_lines c.args.size c.args.number (count (plan_of q.program)) (length p.compiled.image.instrs) in
    audit_stops (λ (name : List ℕ). ⊥) (made_content c.args.size c.args.number) [] (codes "L") ⊥ (Some (Some starts_text)) q p.observer p.compiled.image ss
    (made_next c.args.size c.args.number) e c.in-Ok-prepare_made.ensures.ok
    (audited_stop_after Part (2 ^ 40) q p.observer ss c.in-Ok-made_text.text.items before e c.in-Ok-made_text.ensures c.in-Err-audit_after.ensures.stop)
