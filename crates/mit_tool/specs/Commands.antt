-- What each command is: its files, its answer, when it can be done, what of it is bounded.
use Rattle.std.specs.Prelude.{◌≡◌, ◌⊎◌, ◌≤◌, ◌^◌, ℕ, List, [], ◌∷◌, length, Option, Some, None}
use Rattle.std.specs.Bool.{⊤}
use Rattle.tim_base.specs.Told.{limit, IsTold}
use Rattle.mit_syntax.specs.Program.{Syntax}
use Rattle.timing_types.specs.Labelled.{LabelledProgram}
use Rattle.mit_gen.specs.Made.{program_text}
use Rattle.start_file.specs.Starts.{StartValue}
use Rattle.black_box.specs.Files.{refusal}
use Rattle.made_laws.specs.MadeStarts.{made_starts}
use Rattle.tool_words.specs.declared.words.EnvName.TheVariants.{Part}
use Rattle.tool_words.specs.WordsAsked.{Asked, check, infer, compile, run, meaning, audit, gen, cut, blackbox, certify, recheck}
use Rattle.tool_stages.specs.declared.envs.Environment.TheVariants.{Named}
use Rattle.tool_texts.specs.declared.status.Status.{Status}
use Rattle.tool_stages.specs.Stages.{Then, Reads, ProgramStops, Types, TypeStops, StartsAre, FirstStart, FirstStops, ReadyStops, HoldsRuns, CertificateStops}
use Rattle.tool_stages.specs.Stages.{Rechecks, HoldsCertificate}
use Rattle.tool_stages.specs.Begins.{Compiles, Prepares}
use Rattle.tool_stages.specs.Content.{Content}
use Rattle.tool_stages.specs.Accepted.{HasChecked, IsRechecked}
use Rattle.tool_stages.specs.Goes.{CanBeAudited, CanCompile, CanCut, CanLower, HaltsBy, IsTypable, OfObserver}
use Rattle.mit_tool.specs.Audited.{HasAudited, HasCut, HasReleased}
use Rattle.mit_tool.specs.Means.{lines_after, HasMeant}
use Rattle.mit_tool.specs.Answers.{HasRun, HasInferred, HasListed, made_content, HasCertified, HasRechecked, HasGenerated}
use Rattle.mit_tool.specs.Bounded.{AuditsAreWithin, CutsAreWithin, ReleasesAreWithin}

-- ---- its files

-- the files that a command names
abbrev pub files_of : Asked → List (List ℕ)
files_of (check file) = file ∷ []
files_of (infer file) = file ∷ []
files_of (compile file) = file ∷ []
files_of (run file None e budget observer) = file ∷ []
files_of (run file (Some starts) e budget observer) = file ∷ starts ∷ []
files_of (meaning file None n) = file ∷ []
files_of (meaning file (Some starts) n) = file ∷ starts ∷ []
files_of (audit file starts observer e budget) = file ∷ starts ∷ []
files_of (gen size number) = []
files_of (cut file starts observer e budget) = file ∷ starts ∷ []
files_of (blackbox file first budget) = file ∷ []
files_of (certify file) = file ∷ []
files_of (recheck file certificate) = file ∷ certificate ∷ []

-- ---- its answer

-- The answer to a command, in the order of its refusals. `Rises` tells the names whose counts of faults rose.
abbrev pub IsAnswer : (List ℕ → Type 0) → Content → Asked → Status → List ℕ → Type 0
IsAnswer Rises content (check file) =
    Then (ProgramStops (Rises file) (content file)) (Reads (content file)) (λ p.
    Then (TypeStops p) (Types p) (λ q.
    HasChecked p))
IsAnswer Rises content (run file starts e budget observer) =
    Compiles Rises content file observer (λ p q o code.
    Then (FirstStops Rises content starts p) (FirstStart content starts p) (λ start.
    HasRun e budget q o code start))
IsAnswer Rises content (meaning file starts n) =
    Then (ProgramStops (Rises file) (content file)) (Reads (content file)) (λ p.
    Then (FirstStops Rises content starts p) (FirstStart content starts p) (λ start.
    HasMeant p start n))
IsAnswer Rises content (infer file) =
    Then (ProgramStops (Rises file) (content file)) (Reads (content file)) (λ p.
    Then (TypeStops p) (Types p) (λ q.
    HasInferred q))
IsAnswer Rises content (compile file) =
    Compiles Rises content file None (λ p q o code.
    HasListed q code)
IsAnswer Rises content (audit file starts observer e budget) =
    Prepares Rises content file observer (Rises starts) (content starts) (λ p q o code ss.
    HasAudited e budget q o ss [])
IsAnswer Rises content (cut file starts observer e budget) =
    Prepares Rises content file observer (Rises starts) (content starts) (λ p q o code ss.
    HasCut e budget q o ss)
IsAnswer Rises content (gen size number) = HasGenerated size number
IsAnswer Rises content (blackbox file first budget) =
    Then (ReadyStops (Rises file) (content file)) (HoldsRuns (content file)) (λ runs.
    HasReleased first budget runs)
IsAnswer Rises content (certify file) =
    Then (ProgramStops (Rises file) (content file)) (Reads (content file)) (λ p.
    Then (TypeStops p) (Types p) (λ q.
    HasCertified q))
IsAnswer Rises content (recheck file certificate) =
    Then (ProgramStops (Rises file) (content file)) (Reads (content file)) (λ p.
    Then (CertificateStops (Rises certificate) (content certificate) p) (Rechecks (content certificate) p) (λ q.
    HasRechecked p))

-- ---- where memory is wanting

-- the first k steps of a run without its time, at most n
pub record HasBegun (content : Content) (file : List ℕ) (starts : Option (List ℕ)) (n : ℕ) (b : List ℕ) : Type 0 where
  pub program : Syntax
  pub reads : Reads (content file) program
  pub start : StartValue
  pub first : FirstStart content starts program start
  pub steps : ℕ
  pub within : steps ≤ n
  pub lines : b ≡ lines_after program start.memory steps

-- what may stand before the line for memory: nothing, but for the lines of a run without its time
abbrev pub Before : Content → Asked → List ℕ → Type 0
Before content (meaning file starts n) b = (b ≡ []) ⊎ HasBegun content file starts n b
Before content a b = b ≡ []

-- ---- the program of a command

-- what is told of the program that a command wants typed: of a file, or of the made program
abbrev pub typed_content : Content → Asked → Option (Option (Option (List ℕ)))
typed_content content (check file) = Some (content file)
typed_content content (infer file) = Some (content file)
typed_content content (compile file) = Some (content file)
typed_content content (run file starts e budget observer) = Some (content file)
typed_content content (audit file starts observer e budget) = Some (content file)
typed_content content (cut file starts observer e budget) = Some (content file)
typed_content content (gen size number) = Some (Some (Some (program_text size number)))
typed_content content (certify file) = Some (content file)
typed_content content a = None

-- the labelling that the certificate holds types the program
abbrev pub HeldTypes : Content → Asked → Type 0
HeldTypes content (recheck file certificate) = IsRechecked (content file) (content certificate)
HeldTypes content a = Unit {0}

-- ---- when it can be done

-- What must be so beside the files; for `gen`, of the made program from its typing on: its first label, L, is observed,
-- from the starts that are made for it.
abbrev pub CanGoOn : Content → Asked → Type 0
CanGoOn content (check file) = (p : Syntax) × Reads (content file) p × IsTypable p
CanGoOn content (infer file) = (p : Syntax) × Reads (content file) p × IsTypable p
CanGoOn content (compile file) = CanCompile (content file) None (λ p q o. ⊤)
CanGoOn content (run file starts e budget observer) =
    CanCompile (content file) observer (λ p q o.
    (s : StartValue) × FirstStart content starts p s × HaltsBy (Named e) budget q s)
CanGoOn content (meaning file starts n) =
    (p : Syntax) × Reads (content file) p × (s : StartValue) × FirstStart content starts p s
CanGoOn content (audit file starts observer e budget) =
    CanCompile (content file) (Some observer) (λ p q o.
    (ss : List StartValue) × StartsAre (content starts) p ss × OfObserver (λ l. CanBeAudited (Named e) budget q l ss) o)
CanGoOn content (gen size number) =
    (p : Syntax) → Reads (made_content size number []) p → CanLower p (λ q. CanBeAudited (Named Part) (2 ^ 40) q 0 made_starts)
CanGoOn content (cut file starts observer e budget) =
    CanCompile (content file) (Some observer) (λ p q o.
    (ss : List StartValue) × StartsAre (content starts) p ss × OfObserver (λ l. CanCut (Named e) budget q l ss) o)
CanGoOn content (blackbox file first budget) = (bytes : List ℕ) × IsTold (content file) bytes × (length bytes ≤ limit) × (refusal bytes ≡ None)
CanGoOn content (certify file) = (p : Syntax) × Reads (content file) p × IsTypable p
CanGoOn content (recheck file certificate) =
    (p : Syntax) × Reads (content file) p × (q : LabelledProgram) × HoldsCertificate (content certificate) p q

-- ---- what of it is bounded

-- what a command counts
abbrev pub AreWithin : Asked → Type 0
AreWithin (audit file starts observer e budget) = AuditsAreWithin e budget
AreWithin (gen size number) = AuditsAreWithin Part (2 ^ 40)
AreWithin (cut file starts observer e budget) = CutsAreWithin e budget
AreWithin (blackbox file first budget) = ReleasesAreWithin first budget
AreWithin a = Unit {0}
