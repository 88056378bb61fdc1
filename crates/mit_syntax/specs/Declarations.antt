-- The declared variables: their names, labels, lengths and numbers.
use Rattle.std.specs.Prelude.{ℕ, ◌+◌, ◌≤◌, cond, List, [], ◌∷◌, ◌++◌, length, Option, None, Some, option_map, slice_index_or}
use Rattle.std.proofs.Common.{zero, suc}
use Rattle.std.specs.Str.{bytes_eq}
use Rattle.label_lattice.specs.declared.label.Label.{Label}
use Rattle.mit_syntax.specs.declared.declarations.Decl.{Decl}

-- a name's bytes, and what is declared of it
abbrev pub Declaration : Type 0
Declaration = List ℕ × Decl

-- a variable: its name, its label where one is written, and the place of an element in its array
pub record Cell : Type 0 where
  pub name : List ℕ
  pub label : Option Label
  pub place : Option ℕ

-- this many elements of an array, from a place on
abbrev pub elements : List ℕ → Option Label → ℕ → ℕ → List Cell
elements w l i zero = []
elements w l i (suc n) = record { name = w; label = l; place = Some i } ∷ elements w l (i + 1) n

-- the variables of a declaration: a scalar is one, and an array of length n has n
abbrev pub cells_of : List ℕ → Option Label → Option ℕ → List Cell
cells_of w l None = record { name = w; label = l; place = None } ∷ []
cells_of w l (Some n) = elements w l 0 n

-- the variables, in the order of their numbers
abbrev pub cells : List Declaration → List Cell
cells [] = []
cells (d ∷ ds) = cells_of d.0 d.1.label d.1.length ++ cells ds

-- how many variables there are
abbrev pub variables : List Declaration → ℕ
variables ds = length (cells ds)

-- the variable with a number below that
abbrev pub cell_at : List Declaration → ℕ → Cell
cell_at ds x = slice_index_or (cells ds) x (record { name = []; label = None; place = None })

-- the variable after i others of its declaration
abbrev pub place_in : Option ℕ → ℕ → Option ℕ
place_in None i = None
place_in (Some n) i = Some i

abbrev pub cell_of : List ℕ → Decl → ℕ → Cell
cell_of w d i = record { name = w; label = d.label; place = place_in d.length i }

-- how many variables a declaration declares
abbrev pub size_in : Option ℕ → ℕ
size_in None = 1
size_in (Some n) = n

abbrev pub size_of : Decl → ℕ
size_of d = size_in d.length

-- where a name is declared: the number of its first variable, and its declaration
abbrev pub declared : List Declaration → List ℕ → Option (ℕ × Decl)
declared [] w = None
declared (d ∷ ds) w = cond (bytes_eq w d.0) (Some (0, d.1)) (option_map (λ r. (size_of d.1 + r.0, r.1)) (declared ds w))

abbrev pub scalar_from : ℕ → Option ℕ → Option ℕ
scalar_from f None = Some f
scalar_from f (Some n) = None

abbrev pub array_from : ℕ → Option ℕ → Option (ℕ × ℕ)
array_from f None = None
array_from f (Some n) = Some (f, n)

abbrev pub scalar_in : Option (ℕ × Decl) → Option ℕ
scalar_in None = None
scalar_in (Some r) = scalar_from r.0 r.1.length

abbrev pub array_in : Option (ℕ × Decl) → Option (ℕ × ℕ)
array_in None = None
array_in (Some r) = array_from r.0 r.1.length

-- the number of the scalar with a name
abbrev pub find_scalar : List Declaration → List ℕ → Option ℕ
find_scalar ds w = scalar_in (declared ds w)

-- the first variable and the length of the array with a name
abbrev pub find_array : List Declaration → List ℕ → Option (ℕ × ℕ)
find_array ds w = array_in (declared ds w)

-- the length of an array; a scalar counts as 0
abbrev pub length_in : Option ℕ → ℕ
length_in None = 0
length_in (Some n) = n

-- the sum of the lengths of all arrays
abbrev pub elements_in : List Declaration → ℕ
elements_in [] = 0
elements_in (d ∷ ds) = length_in d.1.length + elements_in ds

-- how many variables the first k declarations declare
abbrev pub first_of : List Declaration → ℕ → ℕ
first_of ds zero = 0
first_of [] (suc k) = 0
first_of (d ∷ ds) (suc k) = size_of d.1 + first_of ds k

-- the limits that keep each number of a variable small
pub record AreFew (ds : List Declaration) : Type 0 where
  pub count : length ds ≤ 1024
  pub elements : elements_in ds ≤ 2048
