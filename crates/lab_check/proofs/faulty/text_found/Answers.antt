use Rattle.lab_check.proofs.FoundLemmas.{has_text}
use Rattle.lab_check.proofs.faulty.text_found.Goals as goal

pub returns : goal.returns
returns c =
    has_text c.args.text.now c.requires.short c.args.fault c.text_fault-line.result c.in_ok-more.more.items c.bytes.result.now c.as_slice-2.result.now
    c.in_ok-object.object.items c.text_place-place.result c.in_ok-could.could.items c.as_slice.result.now c.requires.fault c.requires.none
    c.text_fault-line.ensures c.in_ok-more.ensures c.in_ok-could.ensures c.text_place-place.ensures.place c.bytes.ensures c.as_slice-2.ensures.value
    c.as_slice.ensures.value c.in_ok-object.ensures
