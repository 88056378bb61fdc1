-- A line of a text, and below it a mark under a place. A long line is cut around the place. Tabs stay; each other byte that can't
-- be shown is told as `?`, so that the mark stands under its place.
use Rattle.std.specs.Prelude.{ℕ, zero, suc, ◌-◌, ◌&&◌, ◌==◌, Bool, if◌then◌else◌, nat_lt, List, [], ◌∷◌, ◌++◌, map, length, take, drop, codes}
use Rattle.text_base.specs.declared.pos.Pos.{Pos}

-- up to the first line feed, and behind it
abbrev pub line_front : List ℕ → List ℕ
line_front [] = []
line_front (b ∷ r) = if b == 10 then [] else b ∷ line_front r

abbrev pub line_rest : List ℕ → List ℕ
line_rest [] = []
line_rest (b ∷ r) = if b == 10 then r else line_rest r

-- behind so many line feeds
abbrev pub lines_rest : ℕ → List ℕ → List ℕ
lines_rest zero text = text
lines_rest (suc n) text = lines_rest n (line_rest text)

-- the line with this number, counted from 1
abbrev pub line_at : ℕ → List ℕ → List ℕ
line_at n text = line_front (lines_rest (n - 1) text)

-- what stands from a place on, and what stands before it
abbrev pub from_place : List ℕ → Pos → List ℕ
from_place text p = drop (p.column - 1) (lines_rest (p.line - 1) text)

abbrev pub before_place : List ℕ → Pos → List ℕ
before_place text p = take (length text - length (from_place text p)) text

abbrev pub is_shown : ℕ → Bool
is_shown b = nat_lt 31 b && nat_lt b 127

abbrev pub shown : ℕ → ℕ
shown b = if b == 9 then 9 else if b == 13 then 32 else if is_shown b then b else 63

-- what stands under a byte before the mark
abbrev pub under : ℕ → ℕ
under b = if b == 9 then 9 else 32

-- at most so many bytes are shown before a place, and so many of a line
abbrev pub most_before : ℕ
most_before = 60

abbrev pub most_shown : ℕ
most_shown = 120

-- `..` where a line is cut
abbrev pub cut_before : ℕ → List ℕ
cut_before n = if nat_lt 0 n then codes ".." else []

abbrev pub under_cut : ℕ → List ℕ
under_cut n = if nat_lt 0 n then codes "  " else []

-- the two lines, for the place behind so many bytes of a line
abbrev pub marked_line : List ℕ → ℕ → List ℕ
marked_line line before = marked_from line before (before - most_before)
  where
    marked_from : List ℕ → ℕ → ℕ → List ℕ
    marked_from line before from =
        codes "| " ++ (cut_before from ++ (map shown (take most_shown (drop from line)) ++ (cut_before (length (drop from line) - most_shown) ++ (codes "\n| "
        ++ (under_cut from ++ (map under (take (before - from) (drop from line)) ++ codes "^\n"))))))

abbrev pub marked : List ℕ → Pos → List ℕ
marked text p = marked_line (line_at p.line text) (p.column - 1)
