-- What is true of every program.
use Rattle.std.specs.Prelude.{◌≡◌, ℕ, ℤ, pos, negsuc, ◌+◌, ◌<◌, ◌≤◌, List, map, All, Option, None, Some, ◌↔◌}
use Rattle.label_lattice.specs.declared.label.Label.{Label}
use Rattle.label_lattice.specs.Lattice.{Flows}
use Rattle.label_lattice.specs.Order.{IsOrder, lattice_of, AllDiffer}
use Rattle.label_lattice.specs.Names.{IsName}
use Rattle.label_lattice.specs.Chains.{Chain, AreBelow}
use Rattle.mit_syntax.specs.Expression.{Expression, Number, Variable, Binary, Element}
use Rattle.mit_syntax.specs.Todo.{Todo, Done, Skip, Assign, Put, Sleep, If, While, Mitigate}
use Rattle.mit_syntax.specs.Plan.{Plan, count, mitigates}
use Rattle.mit_syntax.specs.Declarations.{Declaration, AreFew, find_scalar, find_array}
use Rattle.mit_syntax.specs.Limits.{AreSmall}
use Rattle.mit_syntax.specs.Program.{Syntax, plan_of}

-- the label is one of the labels below n, where there is one
abbrev pub IsBelow : ℕ → Option Label → Type 0
IsBelow n None = Unit {0}
IsBelow n (Some l) = l.number < n

-- both labels are
abbrev pub AreMarksBelow : ℕ → Option (Label × Label) → Type 0
AreMarksBelow n None = Unit {0}
AreMarksBelow n (Some m) = (m.0.number < n) × (m.1.number < n)

-- a scalar, or an array with a label and at least one element
abbrev pub IsShaped : Option Label → Option ℕ → Type 0
IsShaped l None = Unit {0}
IsShaped None (Some k) = ⊥
IsShaped (Some l) (Some k) = 0 < k

abbrev pub AreShaped : List Declaration → Type 0
AreShaped ds = All (λ d. IsShaped d.1.label d.1.length) ds

-- the number is that of a scalar
abbrev pub IsScalar : List Declaration → ℕ → Type 0
IsScalar ds x = (w : List ℕ) × (find_scalar ds w ≡ Some x)

-- the first variable and the length are those of one array
abbrev pub IsDeclaredArray : List Declaration → ℕ → ℕ → Type 0
IsDeclaredArray ds f n = (w : List ℕ) × (find_array ds w ≡ Some (f, n))

-- a number that may be written
abbrev pub IsNatural : ℤ → Type 0
IsNatural (pos n) = n ≤ 9223372036854775807
IsNatural (negsuc n) = ⊥

-- each number of an expression may be written, and its variables and arrays are declared
abbrev pub IsKnown : List Declaration → Expression → Type 0
IsKnown ds (Number n) = IsNatural n
IsKnown ds (Variable x) = IsScalar ds x
IsKnown ds (Binary o l r) = IsKnown ds l × IsKnown ds r
IsKnown ds (Element f n i) = IsDeclaredArray ds f n × IsKnown ds i

abbrev pub AreSome : Plan → Type 0
AreSome Done = ⊥
AreSome p = Unit {0}

-- each command's labels are labels below n, its variables and arrays are declared, and no list of commands
-- inside it is empty
abbrev pub AreKnown : ℕ → List Declaration → Plan → Type 0
AreKnown n ds Done = Unit {0}
AreKnown n ds (Skip m r) = AreMarksBelow n m.labels × AreKnown n ds r
AreKnown n ds (Assign m x e r) = AreMarksBelow n m.labels × IsScalar ds x × IsKnown ds e × AreKnown n ds r
AreKnown n ds (Put m f k i e r) = AreMarksBelow n m.labels × IsDeclaredArray ds f k × IsKnown ds i × IsKnown ds e × AreKnown n ds r
AreKnown n ds (Sleep m e r) = AreMarksBelow n m.labels × IsKnown ds e × AreKnown n ds r
AreKnown n ds (If m e a b r) = AreMarksBelow n m.labels × IsKnown ds e × AreSome a × AreSome b × AreKnown n ds a × AreKnown n ds b × AreKnown n ds r
AreKnown n ds (While m e c r) = AreMarksBelow n m.labels × IsKnown ds e × AreSome c × AreKnown n ds c × AreKnown n ds r
AreKnown n ds (Mitigate m k l e c r) = AreMarksBelow n m.labels × IsBelow n l × IsKnown ds e × AreSome c × AreKnown n ds c × AreKnown n ds r

-- the mitigates have the numbers from k on, in the order of the text
abbrev pub AreNumbered : {M L : Type 0} → ℕ → Todo M L → Type 0
AreNumbered k Done = Unit {0}
AreNumbered k (Skip m r) = AreNumbered k r
AreNumbered k (Assign m x e r) = AreNumbered k r
AreNumbered k (Put m f n i e r) = AreNumbered k r
AreNumbered k (Sleep m e r) = AreNumbered k r
AreNumbered k (If m e a b r) = AreNumbered k a × AreNumbered (k + mitigates a) b × AreNumbered (k + mitigates a + mitigates b) r
AreNumbered k (While m e c r) = AreNumbered k c × AreNumbered (k + mitigates c) r
AreNumbered k (Mitigate m j l e c r) = (j ≡ k) × AreNumbered (k + 1) c × AreNumbered (k + 1 + mitigates c) r

pub record IsValid (s : Syntax) : Type 0 where
  -- a label flows to another exactly where a chain of written pairs leads there
  pub pairs : AreBelow s.order.size s.pairs
  pub flows : (a b : ℕ) → a < s.order.size → b < s.order.size → Flows (lattice_of s.order) a b ↔ Chain s.pairs a b
  pub order : IsOrder s.order
  pub few : AreFew s.declarations
  pub names : All (λ d. IsName d.0) s.declarations
  -- no name is declared twice
  pub differ : AllDiffer (map (λ d. d.0) s.declarations)
  pub labels : All (λ d. IsBelow s.order.size d.1.label) s.declarations
  pub arrays : AreShaped s.declarations
  pub some : AreSome (plan_of s)
  pub count : count (plan_of s) ≤ 2147483647
  pub known : AreKnown s.order.size s.declarations (plan_of s)
  pub numbered : AreNumbered 0 (plan_of s)
  pub small : AreSmall 0 (plan_of s)
