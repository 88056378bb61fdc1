-- What the functions of the header and of declarations ensure.
use Rattle.std.specs.Prelude.{◌≡◌, ℕ, ℤ, ◌+◌, ◌≤◌, ◌<◌, List, [], ◌∷◌, ◌++◌, length, Option, None, Some, ◌⊎◌}
use Rattle.text_base.specs.declared.pos.Pos.{Pos}
use Rattle.label_lattice.specs.declared.label.Label.{Label}
use Rattle.label_lattice.specs.Order.{Order}
use Rattle.label_lattice.specs.Chains.{IsBuilt}
use Rattle.mit_syntax.specs.Declarations.{Declaration}
use Rattle.mit_parser.specs.declared.fault.ParseFault.{ParseFault}
use Rattle.mit_parser.specs.Words.{Told, name_at}
use Rattle.mit_parser.specs.State.{State, with_fault}
use Rattle.mit_parser.specs.Scope.{find_label, or_else, kept, label_fault}
use Rattle.mit_parser.specs.Machine.{Part, a_name, names, more_names, a_pair, pairs, more_pairs, ordering, header, a_shape, a_declaration, declarations}
use Rattle.mit_parser.specs.Machine.{verdict}
use Rattle.mit_parser.specs.Tree.{MoreNames, PairTree, MorePairs, Declarations, front_more_names, front_names, front_pair, front_more_pairs, front_pairs}
use Rattle.mit_parser.specs.Tree.{front_ordering, front_header, front_shape, front_declaration, front_declarations}
use Rattle.mit_parser.specs.Faults.{labelled, add_label, add_labels, header_labels, pair_numbers, more_numbers, ordering_numbers, header_pairs, note_pair}
use Rattle.mit_parser.specs.Faults.{note_more_pairs, note_ordering, header_fault, IsLatticeFault, shape_label, shape_length, declaring, many_fault}
use Rattle.mit_parser.specs.Faults.{add_declaration, declare, declare_all}

-- a part was read: a tree is spelled up to what is left
pub record Taken {T : Type 0} (part : Part) (front_of : T → List Told → List Told) (Means : T → Type 0) (old new : State) : Type 0 where
  pub tree : T
  pub spelled : old.words ≡ front_of tree new.words
  pub means : Means tree
  pub next : new.marks ≡ old.marks
  pub goes : (s : List Part) → verdict (part ∷ s) old.counts old.words ≡ verdict s new.counts new.words
  pub shorter : length new.words ≤ length old.words

-- a label is added, unless there is one with this name
pub record AddsLabel (w : List ℕ) (p : Pos) (before after : List (List ℕ)) (old new : State) : Type 0 where
  pub adds : labelled after new.fault ≡ add_label w p (labelled before old.fault)
  pub state : new ≡ with_fault old new.fault
  pub few : length after ≤ length before + 1

abbrev pub front_name : List ℕ × Pos → List Told → List Told
front_name t r = name_at t.0 t.1 ∷ r

-- labels as far as they were read: whatever names follow complete them
pub record LabelsSoFar (labels : List (List ℕ)) (old now : State) : Type 0 where
  pub builds : (m : MoreNames) (j : List Told) → now.words ≡ front_more_names m j
      → (t : (List ℕ × Pos) × MoreNames) × (old.words ≡ front_names t j)
      × (add_labels m (labelled labels now.fault) ≡ add_labels t.1 (labelled (t.0.0 ∷ []) old.fault))
  pub next : now.marks ≡ old.marks
  pub goes : (s : List Part) → verdict (names ∷ s) old.counts old.words ≡ verdict (more_names ∷ s) now.counts now.words
  pub few : length labels + length now.words ≤ length old.words
  pub some : 0 < length labels

pub record AreLabels (labels : List (List ℕ)) (old new : State) : Type 0 where
  pub taken : Taken names front_names (λ t. labelled labels new.fault ≡ add_labels t.1 (labelled (t.0.0 ∷ []) old.fault)) old new
  pub few : length labels + length new.words ≤ length old.words
  pub some : 0 < length labels

-- a name was read, and looked up among labels
abbrev pub IsNumber : List (List ℕ) → ℕ → State → State → Type 0
IsNumber labels n old new = Taken a_name front_name (λ t. (n ≡ or_else 0 (find_label labels t.0)) × (new.fault ≡ kept old.fault (label_fault labels t.0 t.1)))
    old new

abbrev pub IsPair : List (List ℕ) → ℕ × ℕ → State → State → Type 0
IsPair labels n old new = Taken a_pair front_pair (λ t. (n ≡ pair_numbers labels t) × (new.fault ≡ note_pair labels t old.fault)) old new

pub record PairsSoFar (labels : List (List ℕ)) (list : List (ℕ × ℕ)) (old now : State) : Type 0 where
  pub builds : (m : MorePairs) (j : List Told) → now.words ≡ front_more_pairs m j
      → (t : PairTree × MorePairs) × (old.words ≡ front_pairs t j) × (list ++ more_numbers labels m ≡ pair_numbers labels t.0 ∷ more_numbers labels t.1)
      × (note_more_pairs labels m now.fault ≡ note_more_pairs labels t.1 (note_pair labels t.0 old.fault))
  pub next : now.marks ≡ old.marks
  pub goes : (s : List Part) → verdict (pairs ∷ s) old.counts old.words ≡ verdict (more_pairs ∷ s) now.counts now.words
  pub shorter : length now.words ≤ length old.words

abbrev pub ArePairs : List (List ℕ) → List (ℕ × ℕ) → State → State → Type 0
ArePairs labels list old new =
    Taken pairs front_pairs (λ t. (list ≡ pair_numbers labels t.0 ∷ more_numbers labels t.1)
    × (new.fault ≡ note_more_pairs labels t.1 (note_pair labels t.0 old.fault))) old new

abbrev pub IsOrdering : List (List ℕ) → List (ℕ × ℕ) → State → State → Type 0
IsOrdering labels list old new = Taken ordering front_ordering (λ t. (list ≡ ordering_numbers labels t) × (new.fault ≡ note_ordering labels t old.fault)) old
    new

-- what labels and pairs make after a first fault, if there was one: a lattice, or a fault
abbrev pub Makes : List (List ℕ) → List (Label × Label) → Option ParseFault → Option Order → List (Label × Label) → Option ParseFault → Type 0
Makes labels written before (Some o) kept_pairs None = (before ≡ None) × IsBuilt labels written o × (kept_pairs ≡ written)
Makes labels written before (Some o) kept_pairs (Some f) = ⊥
Makes labels written before None kept_pairs None = ⊥
Makes labels written before None kept_pairs (Some f) = (before ≡ Some f) ⊎ ((before ≡ None) × IsLatticeFault labels written f)

abbrev pub IsHeader : Option Order → List (Label × Label) → State → State → Type 0
IsHeader lattice kept_pairs old new = Taken header front_header
    (λ t. Makes (header_labels t).names (header_pairs t) (header_fault t) lattice kept_pairs new.fault) old new

-- the label and the length that are written
abbrev pub IsShape : Option (List ℕ × Pos) → Option (ℤ × Pos) → State → State → Type 0
IsShape label length old new = Taken a_shape front_shape (λ t. (shape_label t ≡ label) × (shape_length t ≡ length) × (new.fault ≡ old.fault)) old new

pub record Declares (labels : List (List ℕ)) (w : List ℕ) (p : Pos) (label : Option (List ℕ × Pos)) (size : Option (ℤ × Pos)) (before after : List Declaration)
    (old new : State) : Type 0 where
  pub adds : declaring after new.fault ≡ add_declaration labels w p label size (declaring before old.fault)
  pub state : new ≡ with_fault old new.fault
  pub few : length after ≤ length before + 1

pub record IsDeclaration (labels : List (List ℕ)) (before after : List Declaration) (old new : State) : Type 0 where
  pub taken : Taken a_declaration front_declaration (λ t. declaring after new.fault ≡ declare labels t (declaring before old.fault)) old new
  pub few : length after + length new.words ≤ length before + length old.words

-- declarations as far as they were read: whatever follows completes them
pub record DeclarationsSoFar (labels : List (List ℕ)) (list : List Declaration) (old now : State) : Type 0 where
  pub builds : (m : Declarations) (j : List Told) → now.words ≡ front_declarations m j
      → (t : Declarations) × (old.words ≡ front_declarations t j)
      × (declare_all labels m (declaring list now.fault) ≡ declare_all labels t (declaring [] old.fault))
  pub next : now.marks ≡ old.marks
  pub goes : (s : List Part) → verdict (declarations ∷ s) old.counts old.words ≡ verdict (declarations ∷ s) now.counts now.words
  pub few : length list + length now.words ≤ length old.words

pub record AreDeclarations (labels : List (List ℕ)) (list : List Declaration) (old new : State) : Type 0 where
  pub taken : Taken declarations front_declarations (λ t. declaring list new.fault ≡ declare_all labels t (declaring [] old.fault)) old new
  pub few : length list + length new.words ≤ length old.words

-- declarations were read, and their number tested
pub record AreVariables (labels : List (List ℕ)) (variables : List Declaration) (old new : State) : Type 0 where
  pub list : List Declaration
  pub mid : State
  pub read : AreDeclarations labels list old mid
  pub tested : new ≡ with_fault mid (kept mid.fault (many_fault list))
  pub given : length list ≤ 1024 → variables ≡ list
