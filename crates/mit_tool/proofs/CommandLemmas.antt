-- What holds of each command.
use Rattle.std.proofs.Common.{◌≡◌, ◌^◌, ℕ, List, [], ◌∷◌, length, Option, Some, None, codes, inl, inr, refl}
use Rattle.std.specs.Prelude.{IfSome, IsTrue}
use Rattle.std.specs.Bool.{⊤}
use Rattle.std.proofs.lemmas.List.Elements.{All-nil}
use Rattle.mit_syntax.specs.Plan.{count}
use Rattle.mit_syntax.specs.Program.{plan_of}
use Rattle.mit_gen.specs.Made.{starts_text}
use Rattle.tool_words.specs.declared.words.EnvName.{EnvName}
use Rattle.tool_words.specs.declared.words.EnvName.TheVariants.{Part}
use Rattle.tool_words.specs.WordsAsked.{Asked, check, infer, compile, run, meaning, audit, gen, cut, blackbox, certify, recheck, IsInRange}
use Rattle.tool_stages.specs.declared.envs.Environment.TheVariants.{Named}
use Rattle.tool_texts.specs.declared.status.Status.{Status}
use Rattle.tool_texts.specs.declared.status.Status.TheVariants as status
use Rattle.tool_texts.specs.Reports.{made_lines}
use Rattle.tool_stages.specs.Stages.{Then, Reads, Types, TypeStops, StartsAre, FirstStart, FirstStops}
use Rattle.tool_stages.specs.Content.{Content, AreKnown, NoneRises}
use Rattle.tool_stages.specs.Goes.{CanBeAudited, CanCut, OfObserver}
use Rattle.tool_stages.specs.Accepted.{HasChecked, IsAccepted, TypedAreSound, is_past_typing}
use Rattle.mit_tool.specs.Audited.{HasReleased}
use Rattle.mit_tool.specs.Means.{HasMeant}
use Rattle.mit_tool.specs.Answers.{HasInferred, HasRun, HasCertified, HasRechecked, made_content}
use Rattle.mit_tool.specs.Commands.{files_of, IsAnswer, HasBegun, Before, typed_content, HeldTypes, CanGoOn, AreWithin}
use Rattle.mit_tool.specs.Held.{Held, told_all, HoldsTold, AreReadAlike}
use Rattle.mit_tool.specs.Logged.{IsRunLine, IsMeaningLine, ArePieces}
use Rattle.tool_stages.proofs.ChainLemmas.{first_file, second_file, no_other, one_other, compiles_one, prepares_one, usage_one, compiles_go, typed_done}
use Rattle.tool_stages.proofs.ChainLemmas.{prepared_done, compiles_no_fault, prepares_no_fault}
use Rattle.tool_stages.proofs.OneLemmas.{Same}
use Rattle.mit_tool.proofs.PrepareLemmas.{listed, audit_next, made_next, cut_next, run_next}
use Rattle.mit_tool.proofs.TellLemmas.{typed_no_fault, certified_no_fault, audited_no_fault, cut_no_fault_in}
use Rattle.mit_tool.proofs.BoundLemmas.{FewLists, audits_within, cuts_within, releases_within}
use Rattle.mit_tool.proofs.PastLemmas.{typed_past, compiled_past, prepared_past, rechecked_past}
use Rattle.mit_tool.proofs.OneRun.{one_meaning}
use Rattle.mit_tool.proofs.OneReport.{one_audit, one_cut, OneOutcomes, one_release}
use Rattle.mit_tool.proofs.OneAnswer.{typed_one, first_one, meant_one, ready_one, certified_one}
use Rattle.mit_tool.proofs.HeldLemmas.{held_of, fits_held, reads_held, starts_held}
use Rattle.mit_tool.proofs.OneHeld.{one_file, two_files, program_answer, compiled_answer, ready_answer, starts_answer, first_answer, meant_answer}
use Rattle.mit_tool.proofs.OneHeld.{certified_answer}
use Rattle.mit_tool.proofs.CompleteLemmas.{audited_done, cut_done, ran_done, meant_done, made_done, ready_done, certified_done}

-- ---- want of memory

-- nothing may stand before the line for memory
pub nothing_before : (content : Content) (a : Asked) → Before content a []
nothing_before content (meaning file starts n) = inl refl
nothing_before content a = refl

pub memory_pieces : (a : Option Asked) (text : List ℕ) → ArePieces a status.Memory (text ∷ [])
memory_pieces (Some (run f s e n o)) text = inr ((λ x. absurd cc), (λ x. absurd cc), [], text, refl, All-nil IsRunLine)
memory_pieces (Some (meaning f s n)) text = inr ((λ x. absurd cc), (λ x. absurd cc), [], text, refl, All-nil IsMeaningLine)
memory_pieces a text = (text, refl)

-- ---- no answer is a write fault, of what is made before it is written

pub infer_no_fault : (Rises : List ℕ → Type 0) (content : Content) (file t : List ℕ) → IsAnswer Rises content (infer file) status.WriteFault t → ⊥
infer_no_fault Rises content file t = typed_no_fault (Rises file) (content file) (λ p q. HasInferred q) t (λ p q h. cc (h.0))

pub certify_no_fault : (Rises : List ℕ → Type 0) (content : Content) (file t : List ℕ) → IsAnswer Rises content (certify file) status.WriteFault t → ⊥
certify_no_fault Rises content file t = typed_no_fault (Rises file) (content file) (λ p q. HasCertified q) t (λ p q h. cc (h.0))

pub recheck_no_fault : (Rises : List ℕ → Type 0) (content : Content) (file certificate t : List ℕ)
    → IsAnswer Rises content (recheck file certificate) status.WriteFault t → ⊥
recheck_no_fault Rises content file certificate t =
    certified_no_fault (Rises file) (Rises certificate) (content file) (content certificate) (λ p q. HasRechecked p) t (λ p q h. cc (h.0))

pub compile_no_fault : (Rises : List ℕ → Type 0) (content : Content) (file t : List ℕ) → IsAnswer Rises content (compile file) status.WriteFault t → ⊥
compile_no_fault Rises content file t = compiles_no_fault Rises content file None listed t (λ p q o code h. cc (h.0))

pub audit_no_fault : (Rises : List ℕ → Type 0) (content : Content) (file starts observer : List ℕ) (e : EnvName) (n : ℕ) (t : List ℕ)
    → IsAnswer Rises content (audit file starts observer e n) status.WriteFault t → ⊥
audit_no_fault Rises content file starts observer e n t =
    prepares_no_fault Rises content file observer (Rises starts) (content starts) (audit_next e n) t (λ p q o code ss. audited_no_fault e n q o ss [] t)

pub cut_no_fault : (Rises : List ℕ → Type 0) (content : Content) (file starts observer : List ℕ) (e : EnvName) (n : ℕ) (t : List ℕ)
    → IsAnswer Rises content (cut file starts observer e n) status.WriteFault t → ⊥
cut_no_fault Rises content file starts observer e n t =
    prepares_no_fault Rises content file observer (Rises starts) (content starts) (cut_next e n) t (λ p q o code ss. cut_no_fault_in e n q o ss t)

pub blackbox_no_fault : (Rises : List ℕ → Type 0) (content : Content) (file : List ℕ) (first n : ℕ) (t : List ℕ)
    → IsAnswer Rises content (blackbox file first n) status.WriteFault t → ⊥
blackbox_no_fault Rises content file first n t (inl h) = h
blackbox_no_fault Rises content file first n t (inr (runs, holds, h)) = cc (h.0)

-- ---- counts are within their bounds

pub within : TypedAreSound → FewLists → (a : Asked) → AreWithin a
within sound few (audit file starts observer e budget) = audits_within sound e budget
within sound few (gen size number) = audits_within sound Part (2 ^ 40)
within sound few (cut file starts observer e budget) = cuts_within sound e budget
within sound few (blackbox file first budget) = releases_within few first budget
within sound few a = tt

-- ---- past the typing

module _ (Rises : List ℕ → Type 0) (content : Content) (s : Status) (t : List ℕ) (past : IsTrue (is_past_typing s)) where
  pub answer_past : (a : Asked) → IsAnswer Rises content a s t → IfSome (typed_content content a) IsAccepted
  answer_past (check file) x = typed_past (Rises file) (content file) (λ p q. HasChecked p) s t past x
  answer_past (infer file) x = typed_past (Rises file) (content file) (λ p q. HasInferred q) s t past x
  answer_past (compile file) x = compiled_past Rises content file None listed s t past x
  answer_past (run file starts e budget observer) x = compiled_past Rises content file observer (run_next Rises content starts e budget) s t past x
  answer_past (audit file starts observer e budget) x =
      prepared_past Rises content file observer (Rises starts) (content starts) (audit_next e budget) s t past x
  answer_past (gen size number) x =
      prepared_past (λ name. ⊥) (made_content size number) [] (codes "L") ⊥ (Some (Some starts_text)) (made_next size number) s t past x
  answer_past (cut file starts observer e budget) x =
      prepared_past Rises content file observer (Rises starts) (content starts) (cut_next e budget) s t past x
  answer_past (certify file) x = typed_past (Rises file) (content file) (λ p q. HasCertified q) s t past x
  answer_past a x = tt

pub held_past : (Rises : List ℕ → Type 0) (content : Content) (a : Asked) (s : Status) (t : List ℕ) → IsTrue (is_past_typing s)
    → IsAnswer Rises content a s t → HeldTypes content a
held_past Rises content (recheck file certificate) s t past x =
    rechecked_past (Rises file) (Rises certificate) (content file) (content certificate) (λ p q. HasRechecked p) s t past x
held_past Rises content a s t past x = tt

-- ---- one answer at most

module _ (s u : Status) (t x : List ℕ) (outcomes : OneOutcomes) (Rises : List ℕ → Type 0) (content : Content) where
  pub answers_one : (a : Asked) → NoneRises Rises (files_of a) → AreKnown content (files_of a) → IsAnswer Rises content a s t
      → IsAnswer Rises content a u x → Same s u t x
  answers_one (check file) n known =
      typed_one s u t x Rises content file (λ p q. HasChecked p) (first_file Rises content file [] n known) (λ p q. usage_one s u t x)
  answers_one (infer file) n known =
      typed_one s u t x Rises content file (λ p q. HasInferred q) (first_file Rises content file [] n known) (λ p q. usage_one s u t x)
  answers_one (compile file) n known =
      let k = first_file Rises content file [] n known in
      compiles_one s u t x Rises content file None listed k.0 k.1 (λ p q o code. usage_one s u t x)
  answers_one (run file None e budget observer) n known =
      first_one s u t x Rises content file None observer (λ p. HasRun e budget) (first_file Rises content file [] n known) (no_other Rises content)
      (λ p q o code start. usage_one s u t x)
  answers_one (run file (Some starts) e budget observer) n known =
      first_one s u t x Rises content file (Some starts) observer (λ p. HasRun e budget) (first_file Rises content file (starts ∷ []) n known)
      (one_other Rises content starts (second_file Rises content file starts [] n known)) (λ p q o code start. usage_one s u t x)
  answers_one (meaning file None steps) n known =
      meant_one s u t x Rises content file None (λ p start. HasMeant p start steps) (first_file Rises content file [] n known) (no_other Rises content)
      (λ p start. one_meaning p start steps s u t x)
  answers_one (meaning file (Some starts) steps) n known =
      meant_one s u t x Rises content file (Some starts) (λ p start. HasMeant p start steps) (first_file Rises content file (starts ∷ []) n known)
      (one_other Rises content starts (second_file Rises content file starts [] n known)) (λ p start. one_meaning p start steps s u t x)
  answers_one (audit file starts observer e budget) n known =
      let k = first_file Rises content file (starts ∷ []) n known in
      let m = second_file Rises content file starts [] n known in
      prepares_one s u t x Rises content file observer (Rises starts) (content starts) (audit_next e budget) k.0 k.1 m.0 m.1
      (λ p q o code ss. one_audit e budget q o ss [] s u t x)
  answers_one (gen size number) n known =
      prepares_one s u t x (λ name. ⊥) (made_content size number) [] (codes "L") ⊥ (Some (Some starts_text)) (made_next size number) (λ h. h) tt (λ h. h) tt
      (λ p q o code ss. one_audit Part (2 ^ 40) q o ss (made_lines size number (count (plan_of p)) (length code.instrs)) s u t x)
  answers_one (cut file starts observer e budget) n known =
      let k = first_file Rises content file (starts ∷ []) n known in
      let m = second_file Rises content file starts [] n known in
      prepares_one s u t x Rises content file observer (Rises starts) (content starts) (cut_next e budget) k.0 k.1 m.0 m.1
      (λ p q o code ss. one_cut e budget q o ss s u t x)
  answers_one (blackbox file first budget) n known =
      ready_one s u t x Rises content file (HasReleased first budget) (first_file Rises content file [] n known)
      (λ runs. one_release outcomes first budget runs s u t x)
  answers_one (certify file) n known =
      typed_one s u t x Rises content file (λ p q. HasCertified q) (first_file Rises content file [] n known)
      (λ p q h j. usage_one s u t x (h.0, h.1) (j.0, j.1))
  answers_one (recheck file certificate) n known =
      certified_one s u t x Rises content file certificate HasRechecked (first_file Rises content file (certificate ∷ []) n known)
      (second_file Rises content file certificate [] n known) (λ p. usage_one s u t x)

-- ---- by what the files hold

module _ (Rises : List ℕ → Type 0) (content : Content) (s : Status) (t : List ℕ) where
  -- the answer is one by what the files hold
  pub answer_held : (a : Asked) → AreReadAlike content (files_of a) → IsAnswer Rises content a s t → (held : Held) × HoldsTold content held
      × IsAnswer Rises (told_all held) a s t
  answer_held (check file) alike x = program_answer Rises content s t file (λ p. Then (TypeStops p) (Types p) (λ q. HasChecked p)) x
  answer_held (infer file) alike x = program_answer Rises content s t file (λ p. Then (TypeStops p) (Types p) (λ q. HasInferred q)) x
  answer_held (compile file) alike x = compiled_answer Rises content s t file None listed x
  answer_held (run file None e budget observer) alike x = compiled_answer Rises content s t file observer (run_next Rises content None e budget) x
  answer_held (run file (Some starts) e budget observer) alike x =
      first_answer Rises content s t file starts observer (λ p. HasRun e budget) alike x
  answer_held (meaning file None n) alike x =
      program_answer Rises content s t file
      (λ p. Then (FirstStops Rises content None p) (FirstStart content None p) (λ start. HasMeant p start n)) x
  answer_held (meaning file (Some starts) n) alike x = meant_answer Rises content s t file starts (λ p start. HasMeant p start n) alike x
  answer_held (audit file starts observer e budget) alike x = starts_answer Rises content s t file observer starts (audit_next e budget) alike x
  answer_held (gen size number) alike x = (λ name. held_of (content name), λ name. fits_held (content name), x)
  answer_held (cut file starts observer e budget) alike x = starts_answer Rises content s t file observer starts (cut_next e budget) alike x
  answer_held (blackbox file first budget) alike x = ready_answer Rises content s t file (HasReleased first budget) x
  answer_held (certify file) alike x = program_answer Rises content s t file (λ p. Then (TypeStops p) (Types p) (λ q. HasCertified q)) x
  answer_held (recheck file certificate) alike x = certified_answer Rises content s t file certificate (λ p q. HasRechecked p) alike x

begun_held : (content : Content) (file : List ℕ) (starts : Option (List ℕ)) (n : ℕ) (b : List ℕ) → AreReadAlike content (files_of (meaning file starts n))
    → HasBegun content file starts n b
    → (held : Held) × HoldsTold content held × HasBegun (told_all held) file starts n b
begun_held content file None n b alike x =
    let read = reads_held (content file) x.program x.reads in
    let made = one_file content file (λ c. Reads c x.program) read in
    (made.0, made.1, record { program = x.program; reads = made.2; start = x.start; first = x.first; steps = x.steps; within = x.within; lines = x.lines })
begun_held content file (Some starts) n b alike x =
    let read = reads_held (content file) x.program x.reads in
    let first : FirstStart content (Some starts) x.program x.start = x.first in
    let begin = starts_held (content starts) x.program (x.start ∷ first.0) first.1 in
    let made = two_files content file starts (λ c d. Reads c x.program × StartsAre d x.program (x.start ∷ first.0)) read.0 begin.0 read.1 begin.1 alike (
      read.2,
      begin.2,
    ) in (
      made.0,
      made.1,
      record {
        program = x.program;
        reads = made.2.0;
        start = x.start;
        first = (first.0, made.2.1);
        steps =
            x.steps;
        within = x.within;
        lines = x.lines;
      },
    )

pub before_held : (content : Content) (a : Asked) (b : List ℕ) → AreReadAlike content (files_of a) → Before content a b
    → (held : Held) × HoldsTold content held × Before (told_all held) a b
before_held content (meaning file starts n) b alike (inl x) = (λ name. held_of (content name), λ name. fits_held (content name), inl x)
before_held content (meaning file starts n) b alike (inr x) = let k = begun_held content file starts n b alike x in (k.0, k.1, inr k.2)
before_held content a b alike x = (λ name. held_of (content name), λ name. fits_held (content name), x)

-- ---- what can be done is done

module _ (Rises : List ℕ → Type 0) (content : Content) (s : Status) (t : List ℕ) where
  -- the answer to a command that can go on, of files that are told and read
  pub answers_done : (a : Asked) → IsInRange a → NoneRises Rises (files_of a) → AreKnown content (files_of a) → CanGoOn content a
      → IsAnswer Rises content a s t → s ≡ status.Done
  answers_done (check file) range n known can h =
      let k = first_file Rises content file [] n known in
      typed_done Rises content s t file (λ p q. HasChecked p) k.0 k.1 can (λ p q m. m.0) h
  answers_done (infer file) range n known can h =
      let k = first_file Rises content file [] n known in
      typed_done Rises content s t file (λ p q. HasInferred q) k.0 k.1 can (λ p q m. m.0) h
  answers_done (compile file) range n known can h =
      let k = first_file Rises content file [] n known in
      compiles_go Rises content file None (λ p q o. ⊤) listed s t k.0 k.1 can (λ p q o code image u m. m.0) h
  answers_done (run file None e budget observer) range n known can h =
      ran_done Rises content s t file None e budget observer (first_file Rises content file [] n known) (no_other Rises content) can h
  answers_done (run file (Some starts) e budget observer) range n known can h =
      ran_done Rises content s t file (Some starts) e budget observer (first_file Rises content file (starts ∷ []) n known)
      (one_other Rises content starts (second_file Rises content file starts [] n known)) can h
  answers_done (meaning file None steps) range n known can h =
      meant_done Rises content s t file None steps (first_file Rises content file [] n known) (no_other Rises content) can h
  answers_done (meaning file (Some starts) steps) range n known can h =
      meant_done Rises content s t file (Some starts) steps (first_file Rises content file (starts ∷ []) n known)
      (one_other Rises content starts (second_file Rises content file starts [] n known)) can h
  answers_done (audit file starts observer e budget) range n known can h =
      let k = first_file Rises content file (starts ∷ []) n known in
      let m = second_file Rises content file starts [] n known in
      prepared_done s t Rises content file observer (Rises starts) (content starts) (λ q o ss. OfObserver (λ l. CanBeAudited (Named e) budget q l ss) o)
      (audit_next e budget) k.0 k.1 m.0 m.1 can (λ p q o code ss. audited_done e budget q o ss [] s t) h
  answers_done (gen size number) range n known can h = made_done size number s t range.0 range.1 can h
  answers_done (cut file starts observer e budget) range n known can h =
      let k = first_file Rises content file (starts ∷ []) n known in
      let m = second_file Rises content file starts [] n known in
      prepared_done s t Rises content file observer (Rises starts) (content starts) (λ q o ss. OfObserver (λ l. CanCut (Named e) budget q l ss) o)
      (cut_next e budget) k.0 k.1 m.0 m.1 can (λ p q o code ss. cut_done e budget q o ss s t) h
  answers_done (blackbox file first budget) range n known can h =
      ready_done Rises content s t file (HasReleased first budget) (first_file Rises content file [] n known) can (λ runs m. m.0) h
  answers_done (certify file) range n known can h =
      let k = first_file Rises content file [] n known in
      typed_done Rises content s t file (λ p q. HasCertified q) k.0 k.1 can (λ p q m. m.0) h
  answers_done (recheck file certificate) range n known can h =
      certified_done Rises content s t file certificate HasRechecked (first_file Rises content file (certificate ∷ []) n known)
      (second_file Rises content file certificate [] n known) can (λ p m. m.0) h
