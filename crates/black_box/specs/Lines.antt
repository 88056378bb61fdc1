-- What the lines of a file of ready cycles say.
use Rattle.std.specs.Prelude.{ℕ, ◌+◌, ◌-◌, ◌^◌, ◌==◌, ◌||◌, ◌&&◌, if◌then◌else◌, nat_le, Bool, true, List, [], ◌∷◌, length, map, take, drop, codes, Option}
use Rattle.std.specs.Prelude.{None, Some, bytes_eq}
use Rattle.std.specs.Char.{is_ascii_digit}
use Rattle.std.specs.List.{list_all, prefix_len, suffix_len, slice_split}
use Rattle.std.specs.Str.Parse.{digits_value}
use Rattle.black_box.specs.declared.line.Line.{Line}
use Rattle.black_box.specs.declared.line.Line.TheVariants.{Blank, Run, Ready, Bad}

-- space, tab or carriage return
abbrev pub is_blank : ℕ → Bool
is_blank b = (b == 32) || ((b == 9) || (b == 13))

-- without the blanks at the end
abbrev pub without_trailing : List ℕ → List ℕ
without_trailing w = take (length w - suffix_len is_blank w) w

-- without the blanks at both ends
abbrev pub trimmed : List ℕ → List ℕ
trimmed w = without_trailing (drop (prefix_len is_blank w) w)

-- the value of digits, if it is at most 2 ^ 40
abbrev pub value_in : List ℕ → Option ℕ
value_in w = if list_all is_ascii_digit w && nat_le (digits_value 10 w) (2 ^ 40) then Some (digits_value 10 w) else None

-- the value of one to twenty digits, if it is at most 2 ^ 40
abbrev pub cycle_in : List ℕ → Option ℕ
cycle_in w = if nat_le 1 (length w) && nat_le (length w) 20 then value_in w else None

abbrev pub ready_line : Option ℕ → Line
ready_line None = Bad
ready_line (Some c) = Ready c

-- what the text of a line without blanks at its ends says
abbrev pub line_in : List ℕ → Line
line_in w = if length w == 0 then Blank else (if bytes_eq w (codes "run") then Run else ready_line (cycle_in w))

-- what a line says
abbrev pub line_of : List ℕ → Line
line_of w = line_in (trimmed w)

-- the lines of a file, which are cut at its line feeds
abbrev pub lines_of : List ℕ → List Line
lines_of bytes = map line_of (slice_split (λ b. b == 10) bytes)

-- The number of the first line that is bad, or is an event where no run has begun. Lines are numbered from n.
abbrev pub first_bad : Bool → ℕ → List Line → Option ℕ
first_bad begun n [] = None
first_bad begun n (Blank ∷ ls) = first_bad begun (n + 1) ls
first_bad begun n (Run ∷ ls) = first_bad true (n + 1) ls
first_bad begun n (Ready c ∷ ls) = if begun then first_bad begun (n + 1) ls else Some n
first_bad begun n (Bad ∷ ls) = Some n

-- the lines that say something
abbrev pub left : List Line → List Line
left [] = []
left (Blank ∷ ls) = left ls
left (Run ∷ ls) = Run ∷ left ls
left (Ready c ∷ ls) = Ready c ∷ left ls
left (Bad ∷ ls) = Bad ∷ left ls

-- how many runs begin
abbrev pub count_runs : List Line → ℕ
count_runs [] = 0
count_runs (Blank ∷ ls) = count_runs ls
count_runs (Run ∷ ls) = 1 + count_runs ls
count_runs (Ready c ∷ ls) = count_runs ls
count_runs (Bad ∷ ls) = count_runs ls
