-- The pieces that a call has written, and calls that fetch nothing.
use Rattle.std.proofs.Common.{◌≡◌, ◌≢◌, ℕ, List, [], ◌∷◌, ◌++◌, Option, Some, None, Result, Ok, Err, Vec, Global, IfErr, OnOk, length, ◌^◌}
use Rattle.std.proofs.Common.{inl, inr, refl, subst}
use Rattle.std.specs.List.{All}
use Rattle.std.proofs.lemmas.List.Elements.{All-nil, All-cons, All-append}
use Rattle.tim_base.specs.Logs.{Fetched, Offered, HasSent, HasBroken}
use Rattle.tim_base.proofs.LogLemmas.{sent_nothing, sent_after, broken_after}
use Rattle.label_lattice.specs.Names.{IsName}
use Rattle.mit_syntax.specs.Declarations.{Declaration}
use Rattle.event_print.specs.Pieces.{SendsLines, BreaksLines, IsRunLine as IsLineOf}
use Rattle.tool_texts.specs.declared.status.Status.{Status}
use Rattle.tool_texts.specs.declared.status.Status.TheVariants as status
use Rattle.tool_texts.specs.declared.stop.Stop.{Stop}
use Rattle.tool_texts.specs.Ends.{IsStop, Broke, status_of, stop_text, told_status, told_text}
use Rattle.tool_texts.specs.Texts.{value_line, memory_line}
use Rattle.tool_texts.specs.Reports.{made_lines}
use Rattle.tool_words.specs.declared.words.EnvName.{EnvName}
use Rattle.tool_words.specs.declared.words.EnvName.TheVariants.{Part}
use Rattle.label_lattice.specs.declared.label.Label.{Label}
use Rattle.mit_syntax.specs.Plan.{count}
use Rattle.mit_syntax.specs.Program.{plan_of}
use Rattle.timing_types.specs.Labelled.{LabelledProgram}
use Rattle.start_file.specs.Starts.{StartValue}
use Rattle.source_meaning.specs.declared.walk.Walk.{Walk}
use Rattle.source_meaning.specs.declared.walk.Walk.TheVariants.{Assigned as DidAssign, Began, Silent, Ended}
use Rattle.mit_tool.specs.Audited.{HasAudited, HasCut}
use Rattle.mit_tool.specs.Answers.{HasGenerated}
use Rattle.mit_tool.specs.Means.{pieces_of_walk}
use Rattle.tool_stages.specs.Begins.{RunStops, MeaningStops}
use Rattle.tool_stages.specs.Content.{Content}
use Rattle.tool_stages.specs.Fetches.{HasFetched}
use Rattle.tool_stages.proofs.FetchLemmas.{fetched_nothing, never_read}
use Rattle.mit_tool.specs.Logged.{HasWritten, AreLines, IsRunLine, IsMeaningLine, SentLines, BrokenLines}

-- ---- pieces

-- a text is written as one piece
pub one_piece : (Pieces : Status → List (List ℕ) → Type 0) (s r : Status) (text : List ℕ) (old new : Option (List Offered)) → Pieces s (text ∷ [])
    → (r ≢ status.WriteFault → r ≡ s)
    → (r ≢ status.WriteFault → HasSent old new (text ∷ [])) → (r ≡ status.WriteFault → HasBroken old new (text ∷ [])) → HasWritten Pieces r old new
one_piece Pieces s r text old new p is sent broken =
    record { would = s; pieces = text ∷ []; are = p; sent = λ n. (is n, sent n); broken = broken }

-- the line of want of memory, alone
pub memory_alone : (IsLine : List ℕ → Type 0) (r : Status) (old new : Option (List Offered)) → (r ≢ status.WriteFault → r ≡ status.Memory)
    → (r ≢ status.WriteFault → HasSent old new (memory_line ∷ [])) → (r ≡ status.WriteFault → HasBroken old new (memory_line ∷ []))
    → HasWritten (AreLines IsLine) r old new
memory_alone IsLine r old new is sent broken =
    one_piece (AreLines IsLine) status.Memory r memory_line old new
    (inr ((λ e. absurd cc), (λ e. absurd cc), [], memory_line, refl, All-nil IsLine)) is sent broken

-- ---- lines

all_one : (P : List ℕ → Type 0) (x : List ℕ) → P x → All P (x ∷ [])
all_one P x h = All-cons P x [] h (All-nil P)

-- a last line after lines
pub line_after : (IsLine : List ℕ → Type 0) (s r : Status) (lines : List (List ℕ)) (text : List ℕ) (old now new : Option (List Offered))
    → All IsLine lines → IsLine text
    → HasSent old now lines → (r ≢ status.WriteFault → r ≡ s)
    → (r ≢ status.WriteFault → HasSent now new (text ∷ [])) → (r ≡ status.WriteFault → HasBroken now new (text ∷ [])) → HasWritten (AreLines IsLine) r old new
line_after IsLine s r lines text old now new each last before is sent broken =
    record {
      would = s;
      pieces = lines ++ text ∷ [];
      are = inl (All-append IsLine lines (text ∷ []) each (all_one IsLine text last));
      sent = λ n. (is n, sent_after old now new lines (text ∷ []) before (sent n));
      broken = λ e. broken_after old now new lines (text ∷ []) before (broken e);
    }

-- the text of a stop after lines
pub stop_after : (IsLine : List ℕ → Type 0) (s r : Status) (lines : List (List ℕ)) (text : List ℕ) (old now new : Option (List Offered)) → All IsLine lines
    → s ≢ status.Done → s ≢ status.Budget
    → HasSent old now lines → (r ≢ status.WriteFault → r ≡ s)
    → (r ≢ status.WriteFault → HasSent now new (text ∷ [])) → (r ≡ status.WriteFault → HasBroken now new (text ∷ [])) → HasWritten (AreLines IsLine) r old new
stop_after IsLine s r lines text old now new each done budget before is sent broken =
    record {
      would = s;
      pieces = lines ++ text ∷ [];
      are = inr (done, budget, lines, text, refl, each);
      sent = λ n. (is n, sent_after old now new lines (text ∷ []) before (sent n));
      broken = λ e. broken_after old now new lines (text ∷ []) before (broken e);
    }

-- lines alone
pub all_lines : (IsLine : List ℕ → Type 0) (s : Status) (pieces : List (List ℕ)) (old new : Option (List Offered)) → All IsLine pieces → s ≢ status.WriteFault
    → HasSent old new pieces → HasWritten (AreLines IsLine) s old new
all_lines IsLine s pieces old new each n sent =
    record { would = s; pieces = pieces; are = inl each; sent = λ k. (refl, sent); broken = λ e. absurd (n e) }

-- a write failed in one of the lines
pub broken_lines : (IsLine : List ℕ → Type 0) (pieces : List (List ℕ)) (old new : Option (List Offered)) → All IsLine pieces → HasBroken old new pieces
    → HasWritten (AreLines IsLine) status.WriteFault old new
broken_lines IsLine pieces old new each broken =
    record { would = status.Done; pieces = pieces; are = inl each; sent = λ n. absurd (n refl); broken = λ e. broken }

-- the lines of a program's run
pub run_lines : (ds : List Declaration) (pieces : List (List ℕ)) → All (λ d. IsName d.0) ds → All (IsLineOf ds) pieces → All IsRunLine pieces
run_lines ds pieces names each = λ k d lt. (ds, names, each k d lt)

pub run_sent : (ds : List Declaration) (s : Status) (old new : Option (List Offered)) → All (λ d. IsName d.0) ds → s ≢ status.WriteFault → SendsLines ds old new
    → HasWritten (AreLines IsRunLine) s old new
run_sent ds s old new names n h = all_lines IsRunLine s h.pieces old new (run_lines ds h.pieces names h.lines) n h.sent

pub run_broken : (ds : List Declaration) (old new : Option (List Offered)) → All (λ d. IsName d.0) ds → BreaksLines ds old new
    → HasWritten (AreLines IsRunLine) status.WriteFault old new
run_broken ds old new names h = broken_lines IsRunLine h.pieces old new (run_lines ds h.pieces names h.lines) h.broken

-- ---- the text of a stop is written as one piece, and is no line of a run or of a meaning

never_stops : (Stops : Status → List ℕ → Type 0) (s : Status) (e : Stop) → ((t : List ℕ) → Broke Stops s t → ⊥) → IsStop Stops e → status_of e ≡ s → ⊥
never_stops Stops s e n h is = n (stop_text e) (subst (λ (z : Status). Broke Stops z (stop_text e)) is h)

run_done : (Rises : List ℕ → Type 0) (content : Content) (file : List ℕ) (starts observer : Option (List ℕ)) (t : List ℕ)
    → RunStops Rises content file starts observer status.Done t → ⊥
run_done Rises content file starts observer t (inl h) = h
run_done Rises content file starts observer t (inr (p, reads, inl h)) = h
run_done Rises content file starts observer t (inr (p, reads, inr (o, observes, inl h))) = h
run_done Rises content file starts observer t (inr (p, reads, inr (o, observes, inr (q, types, inl h)))) = h
run_done Rises content file starts observer t (inr (p, reads, inr (o, observes, inr (q, types, inr (code, image, inr (s, first, h)))))) = h
run_done Rises content file None observer t (inr (p, reads, inr (o, observes, inr (q, types, inr (code, image, inl h))))) = h
run_done Rises content file (Some starts) observer t (inr (p, reads, inr (o, observes, inr (q, types, inr (code, image, inl h))))) = h

run_budget : (Rises : List ℕ → Type 0) (content : Content) (file : List ℕ) (starts observer : Option (List ℕ)) (t : List ℕ)
    → RunStops Rises content file starts observer status.Budget t → ⊥
run_budget Rises content file starts observer t (inl h) = h
run_budget Rises content file starts observer t (inr (p, reads, inl h)) = h
run_budget Rises content file starts observer t (inr (p, reads, inr (o, observes, inl h))) = h
run_budget Rises content file starts observer t (inr (p, reads, inr (o, observes, inr (q, types, inl h)))) = h
run_budget Rises content file starts observer t (inr (p, reads, inr (o, observes, inr (q, types, inr (code, image, inr (s, first, h)))))) = h
run_budget Rises content file None observer t (inr (p, reads, inr (o, observes, inr (q, types, inr (code, image, inl h))))) = h
run_budget Rises content file (Some starts) observer t (inr (p, reads, inr (o, observes, inr (q, types, inr (code, image, inl h))))) = h

meaning_done : (Rises : List ℕ → Type 0) (content : Content) (file : List ℕ) (starts : Option (List ℕ)) (t : List ℕ)
    → MeaningStops Rises content file starts status.Done t → ⊥
meaning_done Rises content file starts t (inl h) = h
meaning_done Rises content file starts t (inr (p, reads, inr (s, first, h))) = h
meaning_done Rises content file None t (inr (p, reads, inl h)) = h
meaning_done Rises content file (Some starts) t (inr (p, reads, inl h)) = h

meaning_budget : (Rises : List ℕ → Type 0) (content : Content) (file : List ℕ) (starts : Option (List ℕ)) (t : List ℕ)
    → MeaningStops Rises content file starts status.Budget t → ⊥
meaning_budget Rises content file starts t (inl h) = h
meaning_budget Rises content file starts t (inr (p, reads, inr (s, first, h))) = h
meaning_budget Rises content file None t (inr (p, reads, inl h)) = h
meaning_budget Rises content file (Some starts) t (inr (p, reads, inl h)) = h

-- the text of a stop is no line where it can't be one of a call that is done
abbrev IsStopped : Stop → Type 0
IsStopped e = (status_of e ≢ status.Done) × (status_of e ≢ status.Budget)

pub run_stopped : (Rises : List ℕ → Type 0) (content : Content) (file : List ℕ) (starts observer : Option (List ℕ)) (e : Stop)
    → IsStop (RunStops Rises content file starts observer) e → IsStopped e
run_stopped Rises content file starts observer e h = (
  never_stops (RunStops Rises content file starts observer) status.Done e (run_done Rises content file starts observer) h,
  never_stops (RunStops Rises content file starts observer) status.Budget e (run_budget Rises content file starts observer) h,
)

pub meaning_stopped : (Rises : List ℕ → Type 0) (content : Content) (file : List ℕ) (starts : Option (List ℕ)) (e : Stop)
    → IsStop (MeaningStops Rises content file starts) e → IsStopped e
meaning_stopped Rises content file starts e h = (
  never_stops (MeaningStops Rises content file starts) status.Done e (meaning_done Rises content file starts) h,
  never_stops (MeaningStops Rises content file starts) status.Budget e (meaning_budget Rises content file starts) h,
)

-- a stop alone
pub stop_alone : (IsLine : List ℕ → Type 0) (e : Stop) (r : Status) (old new : Option (List Offered)) → IsStopped e → (r ≢ status.WriteFault → r ≡ status_of e)
    → (r ≢ status.WriteFault → HasSent old new (stop_text e ∷ [])) → (r ≡ status.WriteFault → HasBroken old new (stop_text e ∷ []))
    → HasWritten (AreLines IsLine) r old new
stop_alone IsLine e r old new n = stop_after IsLine (status_of e) r [] (stop_text e) old old new (All-nil IsLine) n.0 n.1 (sent_nothing old)

-- ---- commands whose text is made before it is written

pub told_piece : (made : Result (Vec ℕ Global) Stop) (r : Status) (old new : Option (List Offered)) → (r ≢ status.WriteFault → r ≡ told_status made)
    → (r ≢ status.WriteFault → HasSent old new (told_text made ∷ [])) → (r ≡ status.WriteFault → HasBroken old new (told_text made ∷ []))
    → HasWritten (λ s pieces. (text : List ℕ) × (pieces ≡ text ∷ [])) r old new
told_piece made r old new is sent broken =
    one_piece (λ s pieces. (text : List ℕ) × (pieces ≡ text ∷ [])) (told_status made) r (told_text made) old new (told_text made, refl) is sent broken

pub told_nothing : (Stops : Status → List ℕ → Type 0) (old : Option (List Fetched)) (made : Result (Vec ℕ Global) Stop) (r : Status)
    → ((t : List ℕ) → Stops status.ReadFault t → ⊥) → IfErr made (IsStop Stops) → (r ≢ status.WriteFault → r ≡ told_status made)
    → HasFetched [] r old old
told_nothing Stops old (Ok v) r n h is = fetched_nothing [] old r (never_read status.Done r (λ e. absurd cc) is)
told_nothing Stops old (Err e) r n h is = fetched_nothing [] old r (never_read (status_of e) r (never_stops Stops status.ReadFault e n h) is)

-- ---- no audit is a read fault

pub audited_no_read : (e : EnvName) (n : ℕ) (q : LabelledProgram) (o : Option Label) (ss : List StartValue) (before t : List ℕ)
    → HasAudited e n q o ss before status.ReadFault t → ⊥
audited_no_read e n q None ss before t h = h
audited_no_read e n q (Some l) ss before t (inl h) = h
audited_no_read e n q (Some l) ss before t (inr (r, is, h)) = cc (h.0)

pub cut_no_read : (e : EnvName) (n : ℕ) (q : LabelledProgram) (o : Option Label) (ss : List StartValue) (t : List ℕ) → HasCut e n q o ss status.ReadFault t → ⊥
cut_no_read e n q None ss t h = h
cut_no_read e n q (Some l) ss t (inl h) = h
cut_no_read e n q (Some l) ss t (inr (r, is, h)) = cc (h.0)

pub made_no_read : (size number : ℕ) (t : List ℕ) → HasGenerated size number status.ReadFault t → ⊥
made_no_read size number t (inl h) = h.0
made_no_read size number t (inr (p, reads, inl h)) = h
made_no_read size number t (inr (p, reads, inr (o, observes, inl h))) = h
made_no_read size number t (inr (p, reads, inr (o, observes, inr (q, types, inl h)))) = h
made_no_read size number t (inr (p, reads, inr (o, observes, inr (q, types, inr (code, image, inl h))))) = h.0
made_no_read size number t (inr (p, reads, inr (o, observes, inr (q, types, inr (code, image, inr (ss, starts, h)))))) =
    audited_no_read Part (2 ^ 40) q o ss (made_lines size number (count (plan_of p)) (length code.instrs)) t h

-- ---- the lines of a meaning

value_lines_are : (ds : List Declaration) → All (λ d. IsName d.0) ds → (walk : Walk) → All IsMeaningLine (pieces_of_walk ds walk)
value_lines_are ds names (DidAssign x n) = all_one IsMeaningLine (value_line ds x n) (inl (ds, names, x, n, refl))
value_lines_are ds names (Began k) = All-nil IsMeaningLine
value_lines_are ds names Silent = All-nil IsMeaningLine
value_lines_are ds names Ended = All-nil IsMeaningLine

pub no_lines : (a : Option (List Offered)) → SentLines a a
no_lines a = ([], All-nil IsMeaningLine, sent_nothing a)

pub lines_more : (ds : List Declaration) (walk : Walk) (a b c : Option (List Offered)) → All (λ d. IsName d.0) ds → SentLines a b
    → HasSent b c (pieces_of_walk ds walk) → SentLines a c
lines_more ds walk a b c names g h = (
  g.0 ++ pieces_of_walk ds walk,
  All-append IsMeaningLine g.0 (pieces_of_walk ds walk) g.1 (value_lines_are ds names walk),
  sent_after a b c g.0 (pieces_of_walk ds walk) g.2 h,
)

pub lines_break : (ds : List Declaration) (walk : Walk) (a b c : Option (List Offered)) → All (λ d. IsName d.0) ds → SentLines a b
    → HasBroken b c (pieces_of_walk ds walk) → BrokenLines a c
lines_break ds walk a b c names g h = (
  g.0 ++ pieces_of_walk ds walk,
  All-append IsMeaningLine g.0 (pieces_of_walk ds walk) g.1 (value_lines_are ds names walk),
  broken_after a b c g.0 (pieces_of_walk ds walk) g.2 h,
)

-- ---- results

pub on_ok : {T E : Type 0} (r : Result T E) (x : T) (P : Type 0) → r ≡ Ok x → OnOk r P → P
on_ok (Ok y) x P e h = h
on_ok (Err y) x P e h = absurd cc
