-- How a call ends.
use Rattle.std.specs.Prelude.{◌≡◌, ℕ, List, [], ◌++◌, Option, Result, Ok, Err, Vec}
use Rattle.std.specs.declared.alloc.Global.{Global}
use Rattle.std.specs.Io.KnownBytes.{Appends}
use Rattle.tim_base.specs.Sinks.{AppendsPrefix}
use Rattle.tool_texts.specs.declared.status.Status.{Status}
use Rattle.tool_texts.specs.declared.status.Status.TheVariants as status
use Rattle.tool_texts.specs.declared.stop.Stop.{Stop}
use Rattle.tool_texts.specs.declared.stop.Stop.TheVariants as stop
use Rattle.tool_texts.specs.Texts.{usage_text, memory_line}

-- the status of a stop, and its text
abbrev pub status_of : Stop → Status
status_of stop.Usage = status.Usage
status_of (stop.Misnamed lines) = status.Usage
status_of (stop.With s line) = s

abbrev pub stop_text : Stop → List ℕ
stop_text stop.Usage = usage_text
stop_text (stop.Misnamed lines) = lines.items
stop_text (stop.With s line) = line

-- the status and the text of a command whose text is made before it is written
abbrev pub told_status : Result (Vec ℕ Global) Stop → Status
told_status (Ok v) = status.Done
told_status (Err e) = status_of e

abbrev pub told_text : Result (Vec ℕ Global) Stop → List ℕ
told_text (Ok v) = v.items
told_text (Err e) = stop_text e

-- A stop of a stage with these stops, or want of memory.
abbrev pub Broke : (Status → List ℕ → Type 0) → Status → List ℕ → Type 0
Broke Stops status.Memory t = t ≡ memory_line
Broke Stops s t = Stops s t

abbrev pub IsStop : (Status → List ℕ → Type 0) → Stop → Type 0
IsStop Stops e = Broke Stops (status_of e) (stop_text e)

-- What a call tells: its answer, or where memory was wanting what may stand before that, and the line for it.
abbrev pub Tells : (List ℕ → Type 0) → (Status → List ℕ → Type 0) → Status → List ℕ → Type 0
Tells Before Answer status.Memory t = (b : List ℕ) × Before b × (t ≡ b ++ memory_line)
Tells Before Answer s t = Answer s t

-- How a call ends: it tells its text, or a write fault leaves a prefix of that.
abbrev pub EndsBy : Option (List ℕ) → Option (List ℕ) → (List ℕ → Type 0) → (Status → List ℕ → Type 0) → Status → Type 0
EndsBy old new Before Answer status.WriteFault = (s : Status) × (t : List ℕ) × Tells Before Answer s t × AppendsPrefix old new t
EndsBy old new Before Answer s = (t : List ℕ) × Tells Before Answer s t × Appends old new t

-- the line for memory stands alone
abbrev pub Nothing : List ℕ → Type 0
Nothing b = b ≡ []
