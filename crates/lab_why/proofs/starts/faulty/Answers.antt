use Rattle.lab_why.proofs.StartsLemmas.{has_starts}
use Rattle.lab_why.proofs.starts.faulty.Goals as goal

pub returns-clause-told : goal.returns-clause-told
returns-clause-told c =
    has_starts c.args.bytes.now c.requires.short c.args.program.now c.args.fault c.start_fault-line.result c.in_ok-more.more.items c.bytes.result.now
    c.as_slice.result.now c.in_ok-joined.field-0.items c.requires.fault c.requires.none c.start_fault-line.ensures c.in_ok-more.ensures c.bytes.ensures
    c.as_slice.ensures.value c.in_ok-joined.ensures
