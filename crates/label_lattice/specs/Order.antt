-- A lattice as contracts see it: its labels' names, and tables of what flows and of joins.
use Rattle.std.specs.Prelude.{◌≡◌, ℕ, ◌+◌, ◌*◌, ◌<◌, ◌≤◌, ◌==◌, Bool, false, cond, zero, suc, List, [], All, AllPairs, length, slice_index_or}
use Rattle.label_lattice.specs.Names.{IsName}
use Rattle.label_lattice.specs.Lattice.{Lattice, IsTable, over_all}

-- how many labels there are at most
abbrev pub most_labels : ℕ
most_labels = 32

-- how many labels a row of a table has room for
abbrev pub row : ℕ
row = most_labels

-- how many labels there are, their names' bytes, and for each pair of labels whether the first flows to the
-- second and what their join is, in rows
pub record Order : Type 0 where
  pub size : ℕ
  pub names : List (List ℕ)
  pub flows : List Bool
  pub joins : List ℕ
  pub bottom : ℕ

-- what the tables say of two labels
abbrev pub flows_in : List Bool → ℕ → ℕ → Bool
flows_in flows a b = slice_index_or flows (a * row + b) false

abbrev pub join_in : List ℕ → ℕ → ℕ → ℕ
join_in joins a b = slice_index_or joins (a * row + b) 0

-- the lattice over all numbers that the tables give
abbrev pub lattice_of : Order → Lattice
lattice_of o = over_all o.size (flows_in o.flows) (join_in o.joins) o.bottom

-- the name of a label
abbrev pub name_of : Order → ℕ → List ℕ
name_of o a = slice_index_or o.names a []

-- no text is there twice
abbrev pub AllDiffer : List (List ℕ) → Type 0
AllDiffer names = AllPairs (λ a b. a ≡ b → ⊥) names

-- The tables have a cell for each pair of the room, and where not both the row and the column are labels they
-- say one thing: a number that is no label flows to itself alone, and its joins are written as 0.
pub record IsRoom (o : Order) : Type 0 where
  pub flows : length o.flows ≡ row * row
  pub joins : length o.joins ≡ row * row
  pub unused : (a b : ℕ) → a < row → b < row → (a < o.size → b < o.size → ⊥) → (flows_in o.flows a b ≡ (a == b)) × (join_in o.joins a b ≡ 0)

-- what is true of every lattice
pub record IsOrder (o : Order) : Type 0 where
  pub some : 0 < o.size
  pub within : o.size ≤ most_labels
  pub named : length o.names ≡ o.size
  pub names : All IsName o.names
  pub differ : AllDiffer o.names
  pub table : IsTable o.size (flows_in o.flows) (join_in o.joins) o.bottom
  pub room : IsRoom o

-- how many of the labels below n do not flow to a label
abbrev pub count_not_below : Lattice → ℕ → ℕ → ℕ
count_not_below lat a zero = 0
count_not_below lat a (suc n) = count_not_below lat a n + cond (lat.flows n a) 0 1
