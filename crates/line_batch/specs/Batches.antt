-- What a batch holds.
use Rattle.std.specs.Prelude.{◌≡◌, ◌⊎◌, ◌&&◌, if◌then◌else◌, ℕ, nat_le, List, [], ◌∷◌, ◌++◌, length, Option}
use Rattle.std.specs.Io.BufRead.{ends_with_byte, take_through}
use Rattle.std.specs.Io.KnownBytes.{append_known}
use Rattle.tim_base.specs.Logs.{Offered}

-- bytes that end with a line feed
abbrev pub EndsLine : List ℕ → Type 0
EndsLine bytes = (front : List ℕ) × (bytes ≡ front ++ 10 ∷ [])

-- whole lines: no bytes, or bytes that end with a line feed
abbrev pub AreLines : List ℕ → Type 0
AreLines bytes = (bytes ≡ []) ⊎ EndsLine bytes

-- What is taken of a piece at once: all, where it is lines that fit the room, and else its first line, or what there is of one.
abbrev pub front_of : ℕ → List ℕ → List ℕ
front_of room piece = if nat_le (length piece) room && ends_with_byte 10 piece then piece else take_through 10 piece

-- the bytes that the sink has taken and its writes, where it tells them, the whole lines that wait for it, the line that is
-- begun behind them, the count of the sink's faults, and how many bytes of whole lines may wait
pub record Held : Type 0 where
  pub sent : Option (List ℕ)
  pub log : Option (List Offered)
  pub lines : List ℕ
  pub begun : List ℕ
  pub faults : ℕ
  pub room : ℕ

-- all bytes that were handed to the batch
abbrev pub text_of : Held → Option (List ℕ)
text_of h = append_known h.sent (h.lines ++ h.begun)
