use Rattle.std.proofs.Common.{refl, ap, ◌∙◌, Some, []}
use Rattle.std.specs.Prelude.{ℕ, List, Option, map, codes}
use Rattle.start_file.specs.Starts.{seen}
use Rattle.mit_gen.specs.Made.{starts_text}
use Rattle.mit_tool.specs.Answers.{made_content}
use Rattle.tool_stages.proofs.PrepareLemmas.{program_stops_audit, program_stops, compile_stops_audit, compiled_of, starts_stop_audit, prepared_of, audit_fits}
use Rattle.mit_tool.proofs.commands.generate.prepare_made.Goals as goal

pub returns-in-Err-clause-stop : goal.returns-in-Err-clause-stop
returns-in-Err-clause-stop c =
    program_stops_audit (λ (name : List ℕ). ⊥) (made_content c.args.size c.args.number) [] (codes "L") ⊥ (Some (Some starts_text)) c.in-Err.stop
    (c.in-Err.ensures.stop (made_content c.args.size c.args.number []) (c.as_slice.ensures.value ∙ c.requires.program))

pub returns-in-Err-compile_program-clause-stop : goal.returns-in-Err-compile_program-clause-stop
returns-in-Err-compile_program-clause-stop c =
    compile_stops_audit (λ (name : List ℕ). ⊥) (made_content c.args.size c.args.number) [] (codes "L") ⊥ (Some (Some starts_text)) c.in-Err-compile_program.stop
    (program_stops (λ (name : List ℕ). ⊥) (made_content c.args.size c.args.number) [] (Some (codes "L")) c.in-Ok.program c.in-Err-compile_program.stop
    (c.in-Ok.ensures.ok (made_content c.args.size c.args.number []) (c.as_slice.ensures.value ∙ c.requires.program)) c.in-Err-compile_program.ensures.stop)

pub returns-in-Ok-starts_of-clause-ok : goal.returns-in-Ok-starts_of-clause-ok
returns-in-Ok-starts_of-clause-ok c =
    let q = c.in-Ok-compile_program.compiled.typed.labelled in
    let o = c.in-Ok-compile_program.compiled.observer in
    let code = c.in-Ok-compile_program.compiled.image in
    let held : Option (Option (List ℕ)) = Some (Some starts_text) in
    let is = c.program.ensures.program ∙ ap (λ l. l.program) c.labelled.ensures.labelled in
    let compiled = compiled_of (made_content c.args.size c.args.number) [] (Some (codes "L")) c.in-Ok.program q o code
    (c.in-Ok.ensures.ok (made_content c.args.size c.args.number []) (c.as_slice.ensures.value ∙ c.requires.program)) c.in-Ok-compile_program.ensures.ok in
    prepared_of (made_content c.args.size c.args.number) [] (codes "L") held held q o c.unwrap-observer.result code c.program.result.now
    (map seen c.in-Ok-starts_of.starts.items)
    c.unwrap-observer.ensures refl is compiled (c.in-Ok-starts_of.ensures.ok held (c.as_slice-2.ensures.value ∙ c.requires.starts))

pub returns-in-Ok-starts_of-clause-fit : goal.returns-in-Ok-starts_of-clause-fit
returns-in-Ok-starts_of-clause-fit c =
    let q = c.in-Ok-compile_program.compiled.typed.labelled in
    let o = c.in-Ok-compile_program.compiled.observer in
    let code = c.in-Ok-compile_program.compiled.image in
    let held : Option (Option (List ℕ)) = Some (Some starts_text) in
    let is = c.program.ensures.program ∙ ap (λ l. l.program) c.labelled.ensures.labelled in
    let compiled = compiled_of (made_content c.args.size c.args.number) [] (Some (codes "L")) c.in-Ok.program q o code
    (c.in-Ok.ensures.ok (made_content c.args.size c.args.number []) (c.as_slice.ensures.value ∙ c.requires.program)) c.in-Ok-compile_program.ensures.ok in
    let h = prepared_of (made_content c.args.size c.args.number) [] (codes "L") held held q o c.unwrap-observer.result code c.program.result.now
    (map seen c.in-Ok-starts_of.starts.items)
    c.unwrap-observer.ensures refl is compiled (c.in-Ok-starts_of.ensures.ok held (c.as_slice-2.ensures.value ∙ c.requires.starts)) in
    audit_fits (made_content c.args.size c.args.number) [] (codes "L") held q c.unwrap-observer.result code c.program.result.now
    (map seen c.in-Ok-starts_of.starts.items) h is c.in-Ok-starts_of.ensures.valid

pub returns-in-Err-starts_of-clause-stop : goal.returns-in-Err-starts_of-clause-stop
returns-in-Err-starts_of-clause-stop c =
    let q = c.in-Ok-compile_program.compiled.typed.labelled in
    let o = c.in-Ok-compile_program.compiled.observer in
    let code = c.in-Ok-compile_program.compiled.image in
    let held : Option (Option (List ℕ)) = Some (Some starts_text) in
    let is = c.program.ensures.program ∙ ap (λ l. l.program) c.labelled.ensures.labelled in
    let compiled = compiled_of (made_content c.args.size c.args.number) [] (Some (codes "L")) c.in-Ok.program q o code
    (c.in-Ok.ensures.ok (made_content c.args.size c.args.number []) (c.as_slice.ensures.value ∙ c.requires.program)) c.in-Ok-compile_program.ensures.ok in
    starts_stop_audit (λ (name : List ℕ). ⊥) (made_content c.args.size c.args.number) [] (codes "L") ⊥ ⊥ held held q o code
    c.program.result.now c.in-Err-starts_of.stop
    (λ n. n) refl is compiled (c.in-Err-starts_of.ensures.stop held (c.as_slice-2.ensures.value ∙ c.requires.starts))
