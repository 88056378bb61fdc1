use Rattle.lab_why.proofs.FaultLemmas.{if_ok}
use Rattle.lab_why.proofs.SpelledLemmas.{has_text}
use Rattle.lab_why.proofs.faulty.text_told.Goals as goal

pub returns : goal.returns
returns c =
    if_ok c.joined.result _ _ (λ v. has_text c.args.text.now c.requires.short c.args.fault c.text_fault-line.result c.in_ok-more.more.items c.bytes.result.now
    c.as_slice.result.now v.items c.requires.fault c.requires.none c.text_fault-line.ensures c.in_ok-more.ensures c.bytes.ensures c.as_slice.ensures.value)
    c.joined.ensures
