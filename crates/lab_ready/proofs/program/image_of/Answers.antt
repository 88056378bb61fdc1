use Rattle.std.proofs.Common.{subst, arith}
use Rattle.code_lower.specs.Lowered.{IsLowerFault}
use Rattle.lab_ready.proofs.BegunLemmas.{long_told}
use Rattle.lab_ready.proofs.program.image_of.Goals as goal

pub returns-in-Err-TooLong : goal.returns-in-Err-TooLong
returns-in-Err-TooLong c =
    long_told c.args.typed.labelled c.in-Err-TooLong.count _ c.too_long_image-line.result c.bytes.result.now c.most_instructions.result.now
    c.in_ok-joined-in-Err-TooLong.field-0.items (subst (IsLowerFault c.args.typed.labelled) c.in-Err-TooLong.field-0-is c.in-Err-TooLong.ensures.fault)
    c.too_long_image-line.ensures (omega (arith, c.in-Err-TooLong.count-is)) c.bytes.ensures c.most_instructions.ensures c.in_ok-joined-in-Err-TooLong.ensures
