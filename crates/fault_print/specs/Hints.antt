-- The limits of the language, and what its names and labels have to be, each in a sentence.
use Rattle.std.specs.Prelude.{ℕ, List, ◌++◌, codes, decimal}
use Rattle.label_lattice.specs.declared.fault.LatticeFault.{LatticeFault}
use Rattle.label_lattice.specs.declared.fault.LatticeFault.TheVariants as lattice

abbrev pub utf8_hint : List ℕ
utf8_hint = codes "a text is written in UTF-8\n"

abbrev pub wide_hint : List ℕ
wide_hint = codes "the greatest number is 9223372036854775807\n"

-- of a name with so many bytes
abbrev pub long_hint : ℕ → List ℕ
long_hint n = codes "a name has at most 32 bytes, and this one has " ++ (decimal n ++ codes "\n")

abbrev pub deep_hint : List ℕ
deep_hint = codes "at most 100 brackets are open at once, and an expression has at most 256 operators\n"

abbrev pub many_hint : List ℕ
many_hint = codes "there are at most 1024 declarations; an array is one declaration\n"

abbrev pub twice_hint : List ℕ
twice_hint = codes "a name is declared once\n"

abbrev pub size_hint : List ℕ
size_hint = codes "an array has at least one element, and all arrays together have at most 2048\n"

abbrev pub misuse_hint : List ℕ
misuse_hint = codes "an array is used with an index, as NAME[0], and any other variable without one\n"

-- what labels and their order have to be
abbrev pub lattice_hint : LatticeFault → List ℕ
lattice_hint (lattice.TooMany n) = codes "there are at most 32 labels\n"
lattice_hint (lattice.Cycle a b) = codes "of two labels at most one flows to the other\n"
lattice_hint (lattice.NoBottom a b) = codes "one label has to flow to all others\n"
lattice_hint (lattice.NoJoin a b) = codes "one of the labels to which both flow has to flow to all others of these\n"
