use Rattle.std.proofs.Common.{rules}
use Rattle.machine_file.specs.Files.{no_document}
use Rattle.machine_file.proofs.read.document.Goals as goal

pub returns-else-is_memory-clause-refused : goal.returns-else-is_memory-clause-refused
returns-else-is_memory-clause-refused c = search rules

pub returns-else-is_memory-clause-told : goal.returns-else-is_memory-clause-told
returns-else-is_memory-clause-told c n = no_document (returns-else-is_memory-clause-refused c n)
