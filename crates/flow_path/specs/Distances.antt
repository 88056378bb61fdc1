-- What is known of the cheapest chains to each label, and by which steps they end.
use Rattle.std.specs.Prelude.{◌≡◌, ℕ, ◌+◌, ◌<◌, ◌≤◌, Bool, true, cond, List, [], ◌∷◌, ◌++◌, length, Option, None, Some, Contains, slice_index_or, option_map}
use Rattle.mit_syntax.specs.Declarations.{variables}
use Rattle.mit_syntax.specs.declared.ast.Command.{Command as Tree}
use Rattle.mit_syntax.specs.Plan.{Plan, command_plan}
use Rattle.mit_syntax.specs.Program.{Syntax}
use Rattle.flow_path.specs.declared.step.How.{How}
use Rattle.flow_path.specs.declared.step.Spot.{Spot}
use Rattle.flow_path.specs.declared.step.Spot.TheVariants.{Variable, Command, Level}
use Rattle.flow_path.specs.declared.step.Part.{Part}
use Rattle.flow_path.specs.declared.step.Step.{Step}
use Rattle.flow_path.specs.declared.cost.Cost.{Cost}
use Rattle.flow_path.specs.declared.target.Target.{Target}
use Rattle.flow_path.specs.declared.target.Target.TheVariants.{Broken, From}
use Rattle.flow_path.specs.declared.known_costs.Known.{Known}
use Rattle.flow_path.specs.declared.known_costs.Round.{Round}
use Rattle.flow_path.specs.declared.best.Best.{Best}
use Rattle.flow_path.specs.declared.sides.Found.{Found}
use Rattle.flow_path.specs.declared.sides.Sides.{Sides}
use Rattle.flow_path.specs.Steps.{written, ends, steps_by, all_of, conditions_of, steps_of}
use Rattle.flow_path.specs.Costs.{nothing_yet, add, IsLe, IsLess}
use Rattle.flow_path.specs.Targets.{IsGoalBy, is_high}

-- Of the items of a list that have a cost, x has the least, c, and is the first that has it.
pub record IsFirst {A : Type 0} (V : A → Cost → Type 0) (xs : List A) (x : A) (c : Cost) : Type 0 where
  pub before : List A
  pub after : List A
  pub is : xs ≡ before ++ (x ∷ after)
  pub has : V x c
  pub dearer : (y : A) (d : Cost) → Contains before y → V y d → IsLess c d
  pub least : (y : A) (d : Cost) → Contains xs y → V y d → IsLe c d

-- none has a cost
abbrev pub HaveNone : {A : Type 0} → (A → Cost → Type 0) → List A → Type 0
HaveNone {A} V xs = (y : A) (d : Cost) → Contains xs y → V y d → ⊥

-- what a chain costs before its first step, which leads from a written label: nothing, where it may begin there
abbrev pub start_cost : Syntax → Target → ℕ → Option Cost
start_cost s t a = cond (is_high s t a) (Some nothing_yet) None

-- what a cheapest chain to an omitted label costs, as far as is known
abbrev pub known_cost : List (Option Cost) → Spot → Option Cost
known_cost ds (Variable y) = slice_index_or ds y None
known_cost ds (Command l) = None
known_cost ds (Level k l) = None

abbrev pub cost_by : Syntax → Target → List (Option Cost) → Spot → Option ℕ → Option Cost
cost_by s t ds p None = known_cost ds p
cost_by s t ds p (Some a) = start_cost s t a

-- what a cheapest chain to a spot costs
abbrev pub cost_to : Syntax → Target → List (Option Cost) → Spot → Option Cost
cost_to s t ds p = cost_by s t ds p (written s p)

-- with a step from there
abbrev pub and_then : Option Cost → How → Option Cost
and_then None h = None
and_then (Some c) h = Some (add c h)

-- a chain that ends by a step from this part costs c
abbrev pub PartCosts : Syntax → Target → List (Option Cost) → Part → Cost → Type 0
PartCosts s t ds p c = and_then (cost_to s t ds p.spot) p.how ≡ Some c

-- a chain to the label of the variable y that ends by this step costs c
abbrev pub SideCosts : Syntax → Target → List (Option Cost) → ℕ → Step → Cost → Type 0
SideCosts s t ds y st c = (st.side ≡ Variable y) × PartCosts s t ds st.part c

-- a chain to where it is to end that ends by this step costs c
abbrev pub GoalCosts : Syntax → Target → List (Option Cost) → Step → Cost → Type 0
GoalCosts s t ds st c = IsGoalBy s t st.rule st.pos st.side × PartCosts s t ds st.part c

abbrev pub count_none : List (Option Cost) → ℕ
count_none [] = 0
count_none (None ∷ ds) = 1 + count_none ds
count_none (Some c ∷ ds) = count_none ds

-- what is known of the labels that a program writes, and how much
pub record IsKnownOf (s : Syntax) (t : Target) (k : Known) : Type 0 where
  pub lattice : k.lattice ≡ s.order
  pub fit : length k.variables.items ≡ variables s.declarations
  pub room : variables s.declarations ≤ 4294967295
  pub starts : (y a : ℕ) → y < length k.variables.items → written s (Variable y) ≡ Some a → slice_index_or k.variables.items y None ≡ start_cost s t a
  pub few : (y : ℕ) (c : Cost) → slice_index_or k.variables.items y None ≡ Some c → (c.faint ≤ c.steps) × (c.steps ≤ 4294967295)

-- no cheapest chain has more steps than there are variables of which a cost is known
abbrev pub AreFew : List (Option Cost) → Type 0
AreFew ds = (y : ℕ) (c : Cost) → slice_index_or ds y None ≡ Some c → (c.faint ≤ c.steps) × (c.steps + count_none ds ≤ length ds)

-- what is known before a search
pub record AreStarts (s : Syntax) (t : Target) (k : Known) : Type 0 where
  pub lattice : k.lattice ≡ s.order
  pub fit : length k.variables.items ≡ variables s.declarations
  pub room : variables s.declarations ≤ 4294967295
  pub each : (y : ℕ) → y < length k.variables.items → slice_index_or k.variables.items y None ≡ cost_by s t [] (Variable y) (written s (Variable y))

-- the first of the cheapest parts of a list
abbrev pub IsBest : Syntax → Target → List (Option Cost) → List Part → Option Best → Type 0
IsBest s t ds ps None = HaveNone (PartCosts s t ds) ps
IsBest s t ds ps (Some b) = IsFirst (PartCosts s t ds) ps b.part b.cost

abbrev pub best_by : Part → Option Cost → Option Best
best_by p None = None
best_by p (Some c) = Some (record { part = p; cost = c })

-- the first of the cheapest steps of a list
abbrev pub IsFound : (Step → Cost → Type 0) → List Step → Option Found → Type 0
IsFound V ss None = HaveNone V ss
IsFound V ss (Some f) = IsFirst V ss f.step f.cost

-- it is the first of the cheapest by the first condition of a list to which a chain leads
pub record IsFoundIn (s : Syntax) (t : Target) (ds : List (Option Cost)) (bs : List (List Step)) (f : Found) : Type 0 where
  pub before : List (List Step)
  pub block : List Step
  pub after : List (List Step)
  pub is : bs ≡ before ++ (block ∷ after)
  pub none : HaveNone (GoalCosts s t ds) (all_of before)
  pub first : IsFirst (GoalCosts s t ds) block f.step f.cost

abbrev pub IsFoundFirst : Syntax → Target → List (Option Cost) → List (List Step) → Option Found → Type 0
IsFoundFirst s t ds bs None = HaveNone (GoalCosts s t ds) (all_of bs)
IsFoundFirst s t ds bs (Some f) = IsFoundIn s t ds bs f

-- That to where a chain is to end, by these conditions. The broken condition is the first to which a chain leads; to an omitted
-- label chains lead by all conditions on it.
abbrev pub IsGoalFound : Syntax → Target → List (Option Cost) → List (List Step) → Option Found → Type 0
IsGoalFound s (Broken rule pos allowed) ds bs o = IsFoundFirst s (Broken rule pos allowed) ds bs o
IsGoalFound s (From spot label) ds bs o = IsFound (GoalCosts s (From spot label) ds) (all_of bs) o

-- those to where a chain is to end, and to the label of each variable, by these conditions
pub record AreSides (s : Syntax) (t : Target) (ds : List (Option Cost)) (bs : List (List Step)) (v : Sides) : Type 0 where
  pub fit : length v.variables.items ≡ length ds
  pub goal : IsGoalFound s t ds bs v.goal
  pub each : (y : ℕ) → y < length ds → IsFound (SideCosts s t ds y) (all_of bs) (slice_index_or v.variables.items y None)

-- a cost is not below that of the first of the cheapest parts of a list
abbrev pub IsNoDearer : Option Best → Cost → Type 0
IsNoDearer None d = ⊥
IsNoDearer (Some b) d = IsLe b.cost d

-- none of these parts costs less than it
abbrev pub AreNoCheaperThan : Syntax → Target → List (Option Cost) → Option Best → List Part → Type 0
AreNoCheaperThan s t ds b ps = (y : Part) (d : Cost) → Contains ps y → PartCosts s t ds y d → IsNoDearer b d

-- The commands p were walked up to q, with the first of the cheapest parts in place of the time: b before, r after.
abbrev pub ComesTo : Syntax → Target → List (Option Cost) → Option Best → Option Best → Plan → Plan → Type 0
ComesTo s t ds b r p q = (T : List Part) → IsBest s t ds T b → (T' : List Part) × IsBest s t ds T' r × (ends p T ≡ ends q T')

-- and the steps by their conditions were added to those that were there, where pc is that of the guards around them
abbrev pub Passes : Syntax → Target → List (Option Cost) → Sides → Sides → Option Best → Option Best → Option Best → Plan → Plan → Type 0
Passes s t ds v w pc b r p q =
    (P T : List Part) (bs : List (List Step)) → IsBest s t ds P pc → IsBest s t ds T b → AreSides s t ds bs v →
    (T' : List Part) × (B : List (List Step)) × IsBest s t ds T' r × AreSides s t ds (bs ++ B) w × (ends p T ≡ ends q T')
    × (steps_by p P T ≡ B ++ steps_by q P T')

-- the cost that is known of an omitted label is the one that was found
abbrev pub Agrees : Syntax → List (Option Cost) → List (Option Found) → ℕ → Type 0
Agrees s ds vs y = written s (Variable y) ≡ None → option_map (λ (f : Found). f.cost) (slice_index_or vs y None) ≡ slice_index_or ds y None

-- a chain to the omitted label of y was found that costs c, and what one costs was not known
pub record IsNew (s : Syntax) (ds : List (Option Cost)) (vs : List (Option Found)) (y : ℕ) (c : Cost) : Type 0 where
  pub omitted : written s (Variable y) ≡ None
  pub unknown : slice_index_or ds y None ≡ None
  pub found : Found
  pub at : slice_index_or vs y None ≡ Some found
  pub cost : found.cost ≡ c

-- the one that was found, if one was
abbrev pub IsNewAt : Syntax → List (Option Cost) → List (Option Found) → ℕ → Option Cost → Type 0
IsNewAt s ds vs y None = (c : Cost) → IsNew s ds vs y c → ⊥
IsNewAt s ds vs y (Some c) = IsNew s ds vs y c

-- the least of those to the first n variables
abbrev pub IsLeastNew : Syntax → List (Option Cost) → List (Option Found) → ℕ → Option Cost → Type 0
IsLeastNew s ds vs n None = (y : ℕ) (c : Cost) → y < n → IsNew s ds vs y c → ⊥
IsLeastNew s ds vs n (Some m) = ((y : ℕ) × (y < n) × IsNew s ds vs y m) × ((y : ℕ) (c : Cost) → y < n → IsNew s ds vs y c → IsLe m c)

-- of the first n variables those of which a chain with the new cost m was found are now known to have it
pub record IsSetBy (s : Syntax) (ds : List (Option Cost)) (vs : List (Option Found)) (m : Cost) (n : ℕ) (ds' : List (Option Cost)) : Type 0 where
  pub fit : length ds' ≡ length ds
  pub set : (y : ℕ) → y < n → IsNew s ds vs y m → slice_index_or ds' y None ≡ Some m
  pub kept : (y : ℕ) → (y < n → IsNew s ds vs y m → ⊥) → slice_index_or ds' y None ≡ slice_index_or ds y None

-- what is known is right, and what is not yet known costs no less
pub record IsDistance (s : Syntax) (t : Target) (ds : List (Option Cost)) (now : Cost) : Type 0 where
  pub there : (y : ℕ) (c : Cost) → written s (Variable y) ≡ None → slice_index_or ds y None ≡ Some c
      → (st : Step) × Contains (steps_of s) st × SideCosts s t ds y st c
  pub least : (y : ℕ) (c d : Cost) (st : Step) → written s (Variable y) ≡ None → slice_index_or ds y None ≡ Some c → Contains (steps_of s) st
      → SideCosts s t ds y st d → IsLe c d
  pub late : (y : ℕ) (d : Cost) (st : Step) → written s (Variable y) ≡ None → slice_index_or ds y None ≡ None → Contains (steps_of s) st
      → SideCosts s t ds y st d → IsLe now d
  pub low : (y : ℕ) (c : Cost) → written s (Variable y) ≡ None → slice_index_or ds y None ≡ Some c → IsLe c now

-- all is known: the first of the cheapest steps to each omitted label has the cost that is known
pub record AreSettled (s : Syntax) (t : Target) (v : Sides) : Type 0 where
  pub costs : List (Option Cost)
  pub fit : length costs ≡ variables s.declarations
  pub sides : AreSides s t costs (conditions_of s) v
  pub goes : (y : ℕ) (f : Found) → written s (Variable y) ≡ None → slice_index_or v.variables.items y None ≡ Some f → slice_index_or costs y None ≡ Some f.cost
  pub back : (y : ℕ) (c : Cost) → written s (Variable y) ≡ None → slice_index_or costs y None ≡ Some c
      → (f : Found) × (slice_index_or v.variables.items y None ≡ Some f) × (f.cost ≡ c)

-- each step of a chain is the first of the cheapest to where it leads
abbrev pub IsPicked : Syntax → Sides → List Step → Type 0
IsPicked s v [] = ⊥
IsPicked s v (x ∷ []) = (f : Found) × (v.goal ≡ Some f) × (f.step ≡ x)
IsPicked s v (x ∷ (y ∷ ys)) = (n : ℕ) × (f : Found) × (y.part.spot ≡ Variable n) × (written s (Variable n) ≡ None)
    × (slice_index_or v.variables.items n None ≡ Some f) × (f.step ≡ x) × IsPicked s v (y ∷ ys)

-- the chain begins at a written label
abbrev pub StartsWritten : Syntax → List Step → Type 0
StartsWritten s [] = ⊥
StartsWritten s (x ∷ xs) = (a : ℕ) × (written s x.part.spot ≡ Some a)

-- a chain of which each step is the first of the cheapest
pub record IsPickedOf (s : Syntax) (t : Target) (chain : List Step) : Type 0 where
  pub sides : Sides
  pub settled : AreSettled s t sides
  pub picked : IsPicked s sides chain
  pub begins : StartsWritten s chain

-- the same by what a round goes by
abbrev pub IsKnownIn : Round → Type 0
IsKnownIn r = IsKnownOf r.program.now r.target.now r.known.now

abbrev pub IsBestIn : Round → List Part → Option Best → Type 0
IsBestIn r ps b = IsBest r.program.now r.target.now r.known.now.variables.items ps b

abbrev pub ComesIn : Round → Option Best → Option Best → Plan → Plan → Type 0
ComesIn r b c p q = ComesTo r.program.now r.target.now r.known.now.variables.items b c p q

abbrev pub PassesIn : Round → Sides → Sides → Option Best → Option Best → Option Best → Plan → Plan → Type 0
PassesIn r v w pc b c p q = Passes r.program.now r.target.now r.known.now.variables.items v w pc b c p q

-- What is known of the time before commands: it is of a list of parts, and where it is said that the walk stays, nothing that
-- they add to it is cheaper.
abbrev pub IsTimeOf : Round → Option Best → List Part → Bool → Type 0
IsTimeOf r b added stays =
    ((T : List Part) × IsBestIn r T b) × (stays ≡ true → AreNoCheaperThan r.program.now r.target.now r.known.now.variables.items b added)

-- the same of a command, with some commands after it
abbrev pub IsTimeFrom : Round → Option Best → Tree → Bool → Type 0
IsTimeFrom r b c stays = (rest : Plan) × IsTimeOf r b (ends (command_plan c rest) []) stays
