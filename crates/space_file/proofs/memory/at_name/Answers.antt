use Rattle.std.proofs.Common.{sym, subst, IsUtf8}
use Rattle.space_file.proofs.Ascii.{name_is_text}
use Rattle.space_file.proofs.memory.at_name.Goals as goal

pub returns-in-Err : goal.returns-in-Err
returns-in-Err c = absurd (c.in-Err.ensures.cases.0 (subst IsUtf8 (sym c.bytes.ensures.value) (name_is_text c.args.name.now c.bytes.ensures.name)))
