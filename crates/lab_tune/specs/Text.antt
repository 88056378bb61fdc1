-- The text of `tune`.
use Rattle.std.specs.Prelude.{ℕ, ◌/◌, List, [], ◌∷◌, ◌++◌, codes, decimal}
use Rattle.label_lattice.specs.declared.label.Label.{Label}
use Rattle.label_lattice.specs.Order.{Order}
use Rattle.first_front.specs.declared.interval.Interval.{Interval}
use Rattle.tool_texts.specs.Texts.{number_line}
use Rattle.tool_texts.specs.Reports.{label_line}

-- `first A to B told N mean M greatest G`: all first predictions from A to B have the same miss counts, of which there are
-- N lists for the relevant mitigates, and with A the runs end in cycle M on the mean, rounded down, and the last in cycle G
abbrev pub choice_line : ℕ → Interval → List ℕ
choice_line runs i =
    codes "first " ++ (decimal i.first ++ (codes " to " ++ (decimal i.last ++ (codes " told " ++ (decimal i.things
    ++ (codes " mean " ++ (decimal (i.cost / runs) ++ (codes " greatest " ++ (decimal i.latest ++ codes "\n")))))))))

abbrev pub choice_lines : ℕ → List Interval → List ℕ
choice_lines runs [] = []
choice_lines runs (i ∷ is) = choice_line runs i ++ choice_lines runs is

-- which mitigate it is, and that the others keep the estimates that are written
abbrev pub tune_line : ℕ → List ℕ
tune_line mark = codes "tune #" ++ (decimal mark ++ codes " alone, the others as written\n")

-- there is no such mitigate, or its estimate is no number
abbrev pub no_number_line : ℕ → List ℕ
no_number_line mark = codes "tune #" ++ (decimal mark ++ codes ": its estimate is no number\n")

-- no first prediction with which every run ends within the budget tells so little
abbrev pub none_line : ℕ → ℕ → List ℕ
none_line mark bits = codes "tune #" ++ (decimal mark ++ (codes ": none tells at most 2^" ++ (decimal bits ++ codes "\n")))

abbrev pub too_late_line : ℕ → List ℕ
too_late_line mark = codes "tune #" ++ (decimal mark ++ codes ": too long\n")

-- the number of the runs, the observer and the budget
abbrev pub head_lines : Order → Label → ℕ → ℕ → List ℕ
head_lines order l t runs = number_line (codes "runs ") runs ++ (label_line (codes "observer ") order l ++ number_line (codes "budget ") t)
