-- The exit numbers of the statuses.
use Rattle.std.specs.Prelude.{ℕ}
use Rattle.tool_texts.specs.declared.status.Status.{Status}
use Rattle.tool_texts.specs.declared.status.Status.TheVariants as status

abbrev pub exit_number : Status → ℕ
exit_number status.Done = 0
exit_number status.Refused = 1
exit_number status.Syntax = 2
exit_number status.Starts = 3
exit_number status.Usage = 4
exit_number status.ReadFault = 5
exit_number status.WriteFault = 6
exit_number status.TooLong = 7
exit_number status.Budget = 8
exit_number status.Disagree = 9
exit_number status.Unfinished = 10
exit_number status.Memory = 11
exit_number status.Rejected = 12
