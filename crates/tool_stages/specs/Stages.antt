-- The stages of commands: what each stops for, and what it gives to the next one. A file is read as what its name
-- is told to hold; where its count of faults rose in the call, its reading may fail.
use Rattle.std.specs.Prelude.{◌≡◌, ◌≢◌, ◌⊎◌, ℕ, pos, ◌<◌, ◌≤◌, List, [], ◌∷◌, length, replicate, Option, Some, None, Ok, Err, codes}
use Rattle.text_base.specs.declared.pos.Pos.{Pos}
use Rattle.tim_base.specs.Told.{limit, IsTold, IsTooLong}
use Rattle.label_lattice.specs.declared.label.Label.{Label}
use Rattle.label_lattice.specs.Order.{Order, name_of}
use Rattle.mit_syntax.specs.declared.token.Token.{Token}
use Rattle.mit_syntax.specs.declared.fault.TextFault.{TextFault}
use Rattle.mit_syntax.specs.declared.fault.TextFault.TheVariants as text
use Rattle.mit_syntax.specs.Cut.{AreTokens, IsFault}
use Rattle.mit_syntax.specs.Declarations.{variables}
use Rattle.mit_syntax.specs.Program.{Syntax}
use Rattle.mit_parser.specs.declared.fault.ParseFault.{ParseFault}
use Rattle.mit_parser.specs.declared.fault.ParseFault.TheVariants as parse
use Rattle.mit_parser.specs.Words.{told}
use Rattle.mit_parser.specs.Spells.{IsProgram, Refuses}
use Rattle.start_file.specs.declared.fault.StartFault.{StartFault}
use Rattle.start_file.specs.declared.fault.StartFault.TheVariants as start
use Rattle.start_file.specs.Starts.{StartValue, Gives}
use Rattle.timing_types.specs.declared.rule.Rule.{Rule}
use Rattle.timing_types.specs.declared.rule.TypeFault.TheVariants.{Refused as BrokenAt}
use Rattle.timing_types.specs.Labelling.{Labelling}
use Rattle.timing_types.specs.Labelled.{LabelledProgram, HasType, first_broken_of}
use Rattle.label_infer.specs.Least.{Labels, IsLeast}
use Rattle.label_code.specs.Shaped.{Code}
use Rattle.code_lower.specs.Lowered.{lowered}
use Rattle.type_cert.specs.Certificate.{IsCertificate, IsFirstWrong}
use Rattle.black_box.specs.declared.fault.ReadyFault.{ReadyFault}
use Rattle.black_box.specs.declared.fault.ReadyFault.TheVariants.{Memory}
use Rattle.black_box.specs.Files.{Holds, refusal}
use Rattle.tool_texts.specs.declared.status.Status.{Status}
use Rattle.tool_texts.specs.declared.status.Status.TheVariants as status
use Rattle.tool_texts.specs.Texts.{program, starts, usage_text, read_fault_line, too_long_line, text_fault_line, parse_fault_line, refused_line}
use Rattle.tool_texts.specs.Texts.{start_fault_line, number_line, header_name, ready, certificate, rejected_line}
use Rattle.tool_texts.specs.Reports.{ready_fault_line}

-- A stage stops with a status and a text, or gives a value, from which the rest goes on.
abbrev pub Then : {A : Type 0} → (Status → List ℕ → Type 0) → (A → Type 0) → (A → Status → List ℕ → Type 0) → Status → List ℕ → Type 0
Then {A} Stops Gives Next s t = Stops s t ⊎ ((a : A) × Gives a × Next a s t)

-- ---- a program from a file

-- the file's bytes spell the program
pub record Reads (content : Option (Option (List ℕ))) (p : Syntax) : Type 0 where
  pub bytes : List ℕ
  pub are : IsTold content bytes
  pub short : length bytes ≤ limit
  pub tokens : List Token
  pub cut : AreTokens bytes tokens
  pub spelled : IsProgram (told bytes tokens) p

-- the file's bytes are no text of tokens
pub record HasTextFault (content : Option (Option (List ℕ))) (t : List ℕ) : Type 0 where
  pub bytes : List ℕ
  pub are : IsTold content bytes
  pub short : length bytes ≤ limit
  pub fault : TextFault
  pub none : fault ≢ text.Memory
  pub is : IsFault bytes fault
  pub line : t ≡ text_fault_line fault

-- the file's tokens are no program
pub record HasParseFault (content : Option (Option (List ℕ))) (t : List ℕ) : Type 0 where
  pub bytes : List ℕ
  pub are : IsTold content bytes
  pub short : length bytes ≤ limit
  pub tokens : List Token
  pub cut : AreTokens bytes tokens
  pub fault : ParseFault
  pub none : fault ≢ parse.Memory
  pub is : Refuses (told bytes tokens) fault
  pub line : t ≡ parse_fault_line (header_name bytes tokens) fault

abbrev pub ProgramStops : Type 0 → Option (Option (List ℕ)) → Status → List ℕ → Type 0
ProgramStops Rose content status.ReadFault t = Rose × (t ≡ read_fault_line program)
ProgramStops Rose content status.TooLong t = IsTooLong content × (t ≡ too_long_line program)
ProgramStops Rose content status.Syntax t = HasTextFault content t ⊎ HasParseFault content t
ProgramStops Rose content _ t = ⊥

-- ---- an observer

-- the label with the name that words give, where they give one
abbrev pub Observes : Order → Option (List ℕ) → Option Label → Type 0
Observes o None l = l ≡ None
Observes o (Some w) None = ⊥
Observes o (Some w) (Some l) = (l.number < o.size) × (name_of o l.number ≡ w)

-- no label has the name
abbrev pub IsUnknown : Order → Option (List ℕ) → Type 0
IsUnknown o None = ⊥
IsUnknown o (Some w) = (a : ℕ) → a < o.size → name_of o a ≢ w

abbrev pub ObserverStops : Order → Option (List ℕ) → Status → List ℕ → Type 0
ObserverStops o w status.Usage t = IsUnknown o w × (t ≡ usage_text)
ObserverStops o w _ t = ⊥

-- ---- labels

-- the program with its least labelling, which types it
pub record Types (p : Syntax) (q : LabelledProgram) : Type 0 where
  pub program : q.program ≡ p
  pub least : IsLeast p q.labels
  pub typed : HasType q

-- no labelling types the program; told is what is first broken with the least one
pub record HasNoType (p : Syntax) (t : List ℕ) : Type 0 where
  pub labels : Labelling
  pub least : IsLeast p labels
  pub none : (others : Labelling) → Labels p others → HasType (record { program = p; labels = others }) → ⊥
  pub rule : Rule
  pub at : Pos
  pub have : Label
  pub allowed : Label
  pub first : first_broken_of (record { program = p; labels = labels }) ≡ Some (BrokenAt rule at have allowed)
  pub line : t ≡ refused_line p.order rule at have allowed

abbrev pub TypeStops : Syntax → Status → List ℕ → Type 0
TypeStops p status.Refused t = HasNoType p t
TypeStops p _ t = ⊥

-- ---- an image

abbrev pub HasImage : LabelledProgram → Code → Type 0
HasImage q code = (code ≡ lowered q) × (length code.instrs ≤ 200000)

abbrev pub ImageStops : LabelledProgram → Status → List ℕ → Type 0
ImageStops q status.TooLong t = (200000 < length (lowered q).instrs) × (t ≡ number_line (codes "too long: image ") (length (lowered q).instrs))
ImageStops q _ t = ⊥

-- ---- starts

-- all variables are 0, and nothing is touched
abbrev pub zero_start : Syntax → StartValue
zero_start p = record { memory = replicate (variables p.declarations) (pos 0); touches = [] }

-- the starts that a file gives
abbrev pub StartsAre : Option (Option (List ℕ)) → Syntax → List StartValue → Type 0
StartsAre content p ss = (bytes : List ℕ) × IsTold content bytes × (length bytes ≤ limit) × Gives p bytes (Ok ss)

pub record HasStartFault (content : Option (Option (List ℕ))) (p : Syntax) (t : List ℕ) : Type 0 where
  pub bytes : List ℕ
  pub are : IsTold content bytes
  pub short : length bytes ≤ limit
  pub fault : StartFault
  pub none : fault ≢ start.Memory
  pub is : Gives p bytes (Err fault)
  pub line : t ≡ start_fault_line fault

abbrev pub StartStops : Type 0 → Option (Option (List ℕ)) → Syntax → Status → List ℕ → Type 0
StartStops Rose content p status.ReadFault t = Rose × (t ≡ read_fault_line starts)
StartStops Rose content p status.TooLong t = IsTooLong content × (t ≡ too_long_line starts)
StartStops Rose content p status.Starts t = HasStartFault content p t
StartStops Rose content p _ t = ⊥

-- the first run of the file, or without one the start of zeros
abbrev pub FirstStart : (List ℕ → Option (Option (List ℕ))) → Option (List ℕ) → Syntax → StartValue → Type 0
FirstStart content None p s = s ≡ zero_start p
FirstStart content (Some name) p s = (others : List StartValue) × StartsAre (content name) p (s ∷ others)

abbrev pub FirstStops : (List ℕ → Type 0) → (List ℕ → Option (Option (List ℕ))) → Option (List ℕ) → Syntax → Status → List ℕ → Type 0
FirstStops Rises content None p s t = ⊥
FirstStops Rises content (Some name) p s t = StartStops (Rises name) (content name) p s t

-- ---- a file of ready cycles

-- the runs that the file holds
pub record HoldsRuns (content : Option (Option (List ℕ))) (runs : List (List ℕ)) : Type 0 where
  pub bytes : List ℕ
  pub are : IsTold content bytes
  pub short : length bytes ≤ limit
  pub taken : refusal bytes ≡ None
  pub holds : Holds bytes runs

pub record HasReadyFault (content : Option (Option (List ℕ))) (t : List ℕ) : Type 0 where
  pub bytes : List ℕ
  pub are : IsTold content bytes
  pub short : length bytes ≤ limit
  pub fault : ReadyFault
  pub none : fault ≢ Memory
  pub is : refusal bytes ≡ Some fault
  pub line : t ≡ ready_fault_line fault

abbrev pub ReadyStops : Type 0 → Option (Option (List ℕ)) → Status → List ℕ → Type 0
ReadyStops Rose content status.ReadFault t = Rose × (t ≡ read_fault_line ready)
ReadyStops Rose content status.TooLong t = IsTooLong content × (t ≡ too_long_line ready)
ReadyStops Rose content status.Starts t = HasReadyFault content t
ReadyStops Rose content _ t = ⊥

-- ---- a certificate

-- the file's bytes are a certificate of the program, which holds this labelling
pub record HoldsCertificate (content : Option (Option (List ℕ))) (p : Syntax) (q : LabelledProgram) : Type 0 where
  pub bytes : List ℕ
  pub are : IsTold content bytes
  pub short : length bytes ≤ limit
  pub program : q.program ≡ p
  pub certifies : IsCertificate q bytes

-- and the labelling types the program
pub record Rechecks (content : Option (Option (List ℕ))) (p : Syntax) (q : LabelledProgram) : Type 0 where
  pub holds : HoldsCertificate content p q
  pub labels : Labels p q.labels
  pub typed : HasType q

-- the file's bytes are no certificate of the program; told is their first wrong line
pub record HasWrongLine (content : Option (Option (List ℕ))) (p : Syntax) (t : List ℕ) : Type 0 where
  pub bytes : List ℕ
  pub are : IsTold content bytes
  pub short : length bytes ≤ limit
  pub number : ℕ
  pub first : IsFirstWrong p bytes number
  pub line : t ≡ rejected_line number

abbrev pub CertificateStops : Type 0 → Option (Option (List ℕ)) → Syntax → Status → List ℕ → Type 0
CertificateStops Rose content p status.ReadFault t = Rose × (t ≡ read_fault_line certificate)
CertificateStops Rose content p status.TooLong t = IsTooLong content × (t ≡ too_long_line certificate)
CertificateStops Rose content p status.Rejected t = HasWrongLine content p t
CertificateStops Rose content p _ t = ⊥
