use Rattle.std.proofs.Common.{◌≡◌, length, arith}
use Rattle.lab_why.proofs.StartsLemmas.{has_taken, not_taken}
use Rattle.lab_why.proofs.starts.bytes_told.Goals as goal

pub returns-in-Ok-clause-told : goal.returns-in-Ok-clause-told
returns-in-Ok-clause-told c =
    let many : c.len.result ≡ length c.in-Ok.starts.items = omega (arith, c.len.ensures, c.in-Ok.starts.ok.0) in
    has_taken c.args.bytes.now c.requires c.args.program.now c.in-Ok.starts.items c.len.result c.taken.result many c.in-Ok.ensures.ok
    c.taken.ensures.status c.taken.ensures.text

pub returns-in_default-clause-told : goal.returns-in_default-clause-told
returns-in_default-clause-told c =
    not_taken c.args.bytes.now c.args.program.now c.faulty.result c.faulty.ensures.status c.faulty.ensures.told
