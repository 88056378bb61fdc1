use Rattle.std.proofs.Common.{◌≡◌, ◌∙◌, ap, map, ◌++◌, ℕ, List, Some}
use Rattle.std.specs.Prelude.{slice_get}
use Rattle.std.proofs.lemmas.Result.{on_ok_weaker}
use Rattle.label_code.specs.Machine.{Event}
use Rattle.leak_audit.specs.Observed.{event_of}
use Rattle.space_leak.specs.Text.{class_line}
use Rattle.space_leak.proofs.Fields.{class_there}
use Rattle.space_leak.proofs.lines.put_entry.Goals as goal

pub returns : goal.returns
returns c =
    let entries = c.args.known.now.classes.entries in
    let sequence = c.in-Some.sequence.now in
    let size = c.in-Some.size.now in
    let at : Some (sequence, size) ≡ slice_get entries c.args.place = c.in-Some.ensures.entry in
    on_ok_weaker c.put_class.result
    (λ put z k.
    put ∙ ap (λ s. c.args.text.now.items ++ class_line c.args.p.now.declarations (map event_of s) size c.args.first) c.deref.ensures.value
    ∙ ap (λ (z : List Event × ℕ). c.args.text.now.items ++ class_line c.args.p.now.declarations z.0 z.1 c.args.first)
    (class_there entries c.args.place (sequence, size) z at k)) c.put_class.ensures
