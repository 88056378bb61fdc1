-- Stages that can be done are done.
use Rattle.std.proofs.Common.{◌≡◌, ◌≤◌, ◌^◌, ℕ, List, [], ◌++◌, length, Option, Some, None, refl, ap, ◌∙◌, codes}
use Rattle.tim_base.specs.Told.{limit, IsTold}
use Rattle.label_lattice.specs.declared.label.Label.{Label}
use Rattle.mit_syntax.specs.Plan.{count}
use Rattle.mit_syntax.specs.Program.{Syntax, plan_of}
use Rattle.timing_types.specs.Labelled.{LabelledProgram}
use Rattle.label_code.specs.Shaped.{Code}
use Rattle.code_lower.specs.Lowered.{lowered}
use Rattle.history_bound.specs.Over.{AnyHistory, history_made}
use Rattle.start_file.specs.Starts.{StartValue}
use Rattle.cycle_machine.specs.declared.end.RunEnd.{RunEnd}
use Rattle.cycle_machine.specs.declared.end.RunEnd.TheVariants.{Halted, Limit}
use Rattle.black_box.specs.Files.{refusal}
use Rattle.mit_gen.specs.Made.{program_text, starts_text}
use Rattle.made_laws.specs.MadeStarts.{made_starts}
use Rattle.leak_audit.specs.Agreement.{starts_of}
use Rattle.cut_audit.specs.declared.report.CutFault.{CutFault}
use Rattle.cut_audit.specs.declared.report.CutFault.TheVariants as cut_fault
use Rattle.cut_audit.proofs.Once.{no_cut_fault}
use Rattle.tool_words.specs.declared.words.EnvName.{EnvName}
use Rattle.tool_words.specs.declared.words.EnvName.TheVariants.{Part}
use Rattle.tool_stages.specs.declared.envs.Environment.TheVariants.{Named}
use Rattle.tool_texts.specs.declared.status.Status.{Status}
use Rattle.tool_texts.specs.declared.status.Status.TheVariants as status
use Rattle.tool_texts.specs.Reports.{audit_lines, cut_lines, made_lines}
use Rattle.tool_stages.specs.Stages.{Then, ProgramStops, Reads, ObserverStops, Observes, TypeStops, Types, ImageStops, HasImage, StartStops, StartsAre}
use Rattle.tool_stages.specs.Stages.{FirstStops, FirstStart, HoldsRuns, ReadyStops, CertificateStops, Rechecks, HoldsCertificate}
use Rattle.tool_stages.specs.Envs.{environment, CutFaultsIn, told_in, ReportsIn, CutReportsIn}
use Rattle.tool_stages.specs.Begins.{Compiles}
use Rattle.tool_stages.specs.Content.{Content, IsKnown}
use Rattle.tool_stages.specs.Goes.{IsHalted, HaltsBy, CanCut, CanBeAudited, CanCompile, CanLower, OfObserver}
use Rattle.audit_stage.specs.Audited.{AuditStops}
use Rattle.audit_stage.proofs.Once.{audit_goes}
use Rattle.mit_tool.specs.Audited.{HasAudited, CutStops, HasCut}
use Rattle.mit_tool.specs.Answers.{HasRun, status_at, made_content, HasGenerated}
use Rattle.mit_tool.specs.Means.{HasMeant}
use Rattle.tool_stages.proofs.GoesLemmas.{then_goes, then_goes_from, program_goes, ready_goes, certificate_goes}
use Rattle.tool_stages.proofs.OneLemmas.{one_program}
use Rattle.tool_stages.proofs.ChainLemmas.{compiles_go, first_done, lower_goes, starts_done}
use Rattle.mit_tool.proofs.OneReport.{cut_stops}
use Rattle.mit_tool.proofs.PrepareLemmas.{run_next}
use Rattle.mit_tool.proofs.MadeLemmas.{made_goes, made_observer_goes, made_observer, made_starts_are}

-- ---- runs

halted_done : (e : RunEnd) → IsHalted e → status_at e ≡ status.Done
halted_done (Halted c) h = refl
halted_done (Limit c) h = absurd h

cut_in : (e : EnvName) (t : ℕ) (q : LabelledProgram) (o : Label) (ss : List StartValue) (f : CutFault) → CanCut (Named e) t q o.number ss
    → CutFaultsIn (Named e) q o.number t ss f → f ≡ cut_fault.Memory
cut_in e t q o ss f k h = no_cut_fault (environment (Named e) q.program.order) AnyHistory q o.number t
    (starts_of history_made q.program.order ss) f k.agree k.few h

cut_goes : (e : EnvName) (t : ℕ) (q : LabelledProgram) (o : Label) (ss : List StartValue) (s : Status) (x : List ℕ) → CanCut (Named e) t q o.number ss
    → CutStops e t q o ss s x → ⊥
cut_goes e t q o ss s x k h = let stop = cut_stops e t q o ss s x h in stop.none (cut_in e t q o ss stop.fault k stop.is)

pub audited_done : (e : EnvName) (t : ℕ) (q : LabelledProgram) (o : Option Label) (ss : List StartValue) (before : List ℕ) (s : Status) (x : List ℕ)
    → OfObserver (λ l. CanBeAudited (Named e) t q l ss) o → HasAudited e t q o ss before s x → s ≡ status.Done
audited_done e t q None ss before s x k h = absurd h
audited_done e t q (Some l) ss before s x k h =
    then_goes (AuditStops (Named e) t q l ss) (ReportsIn (Named e) q l.number t ss) (λ r s x. (s ≡ status.Done)
    × (x ≡ before ++ audit_lines q.program.order l t r)) s x
    (audit_goes (Named e) t q l ss s x k) (λ r a n. n.0) h

pub cut_done : (e : EnvName) (t : ℕ) (q : LabelledProgram) (o : Option Label) (ss : List StartValue) (s : Status) (x : List ℕ)
    → OfObserver (λ l. CanCut (Named e) t q l ss) o → HasCut e t q o ss s x → s ≡ status.Done
cut_done e t q None ss s x k h = absurd h
cut_done e t q (Some l) ss s x k h =
    then_goes (CutStops e t q l ss) (CutReportsIn (Named e) q l.number t ss) (λ r s x. (s ≡ status.Done) × (x ≡ cut_lines q.program.order l t r)) s x
    (cut_goes e t q l ss s x k) (λ r a n. n.0) h

-- ---- stages

module _ (Rises : List ℕ → Type 0) (content : Content) (s : Status) (t : List ℕ) where
  abbrev IsGood : List ℕ → Type 0
  IsGood name = (Rises name → ⊥) × IsKnown (content name)

  abbrev OtherIsGood : Option (List ℕ) → Type 0
  OtherIsGood starts = (name : List ℕ) → starts ≡ Some name → IsGood name

  -- a run from the first start
  pub ran_done : (file : List ℕ) (starts : Option (List ℕ)) (e : EnvName) (budget : ℕ) (observer : Option (List ℕ)) → IsGood file → OtherIsGood starts
      → CanCompile (content file) observer (λ p q o. (start : StartValue) × FirstStart content starts p start × HaltsBy (Named e) budget q start)
      → Compiles Rises content file observer (run_next Rises content starts e budget) s t → s ≡ status.Done
  ran_done file starts e budget observer good others can =
      compiles_go Rises content file observer (λ p q o. (start : StartValue) × FirstStart content starts p start × HaltsBy (Named e) budget q start)
      (run_next Rises content starts e budget) s t good.0 good.1 can
      (λ p q o code image goes.
      let start : StartValue = goes.0 in
      first_done Rises content s t starts p (λ start. HasRun e budget q o code start) start others goes.1 (λ told.
      let same : s ≡ status_at (told_in (Named e) q.program.order (lowered q) start budget).end =
      told.0 ∙ ap (λ (z : Code). status_at (told_in (Named e) q.program.order z start budget).end) image in
      same ∙ halted_done (told_in (Named e) q.program.order (lowered q) start budget).end goes.2))

  -- the same without its time
  pub meant_done : (file : List ℕ) (starts : Option (List ℕ)) (n : ℕ) → IsGood file → OtherIsGood starts
      → ((p : Syntax) × Reads (content file) p × (start : StartValue) × FirstStart content starts p start)
      → Then (ProgramStops (Rises file) (content file)) (Reads (content file))
      (λ p. Then (FirstStops Rises content starts p) (FirstStart content starts p) (λ start. HasMeant p start n)) s t → s ≡ status.Done
  meant_done file starts n good others can =
      let p : Syntax = can.0 in
      then_goes_from (ProgramStops (Rises file) (content file)) (Reads (content file))
      (λ p. Then (FirstStops Rises content starts p) (FirstStart content starts p) (λ start. HasMeant p start n)) s t
      p can.1 (one_program (content file) good.1) (program_goes (Rises file) (content file) p s t good.0 good.1 can.1)
      (first_done Rises content s t starts p (λ start. HasMeant p start n) can.2 others can.3 (λ meant. meant.0))

  -- a file of ready cycles
  pub ready_done : (file : List ℕ) (Next : List (List ℕ) → Status → List ℕ → Type 0) → IsGood file
      → ((bytes : List ℕ) × IsTold (content file) bytes × (length bytes ≤ limit) × (refusal bytes ≡ None))
      → ((runs : List (List ℕ)) → Next runs s t → s ≡ status.Done)
      → Then (ReadyStops (Rises file) (content file)) (HoldsRuns (content file)) (λ runs. Next runs) s t → s ≡ status.Done
  ready_done file Next good can f =
      then_goes (ReadyStops (Rises file) (content file)) (HoldsRuns (content file)) (λ runs. Next runs) s t
      (ready_goes (Rises file) (content file) can.0 s t good.0 good.1 can.1 can.2 can.3) (λ runs holds. f runs)

  -- a program with the certificate of a second file
  pub certified_done : (file certificate : List ℕ) (Next : Syntax → Status → List ℕ → Type 0) → IsGood file → IsGood certificate
      → ((p : Syntax) × Reads (content file) p × (q : LabelledProgram) × HoldsCertificate (content certificate) p q)
      → ((p : Syntax) → Next p s t → s ≡ status.Done)
      → Then (ProgramStops (Rises file) (content file)) (Reads (content file))
      (λ p. Then (CertificateStops (Rises certificate) (content certificate) p) (Rechecks (content certificate) p) (λ q. Next p)) s t → s ≡ status.Done
  certified_done file certificate Next good other can f =
      let p : Syntax = can.0 in
      then_goes_from (ProgramStops (Rises file) (content file)) (Reads (content file))
      (λ p. Then (CertificateStops (Rises certificate) (content certificate) p) (Rechecks (content certificate) p) (λ q. Next p)) s t
      p can.1 (one_program (content file) good.1) (program_goes (Rises file) (content file) p s t good.0 good.1 can.1)
      (then_goes (CertificateStops (Rises certificate) (content certificate) p) (Rechecks (content certificate) p) (λ q. Next p) s t
      (certificate_goes (Rises certificate) (content certificate) p can.2 s t other.0 other.1 can.3) (λ q holds. f p))

-- ---- made programs

pub made_done : (size number : ℕ) (s : Status) (t : List ℕ) → 1 ≤ size → size ≤ 10000
    → ((p : Syntax) → Reads (made_content size number []) p → CanLower p (λ q. CanBeAudited (Named Part) (2 ^ 40) q 0 made_starts))
    → HasGenerated size number s t → s ≡ status.Done
made_done size number s t some few can h =
    let c : Option (Option (List ℕ)) = Some (Some (program_text size number)) in
    let last = λ (p : Syntax) (q : LabelledProgram) (o : Option Label) (code : Code). Then (StartStops ⊥ (Some (Some starts_text)) p)
    (StartsAre (Some (Some starts_text)) p) (λ ss. HasAudited Part (2 ^ 40) q o ss (made_lines size number (count (plan_of p)) (length code.instrs))) in
    then_goes (ProgramStops ⊥ c) (Reads c)
    (λ p. Then (ObserverStops p.order (Some (codes "L"))) (Observes p.order (Some (codes "L")))
    (λ o. Then (TypeStops p) (Types p) (λ q. Then (ImageStops q) (HasImage q) (λ code. last p q o code)))) s t
    (made_goes size number s t some few) (λ p reads.
    then_goes (ObserverStops p.order (Some (codes "L"))) (Observes p.order (Some (codes "L")))
    (λ o. Then (TypeStops p) (Types p) (λ q. Then (ImageStops q) (HasImage q) (λ code. last p q o code))) s t
    (made_observer_goes size number p s t some reads) (λ o is.
    lower_goes p (λ q. CanBeAudited (Named Part) (2 ^ 40) q 0 made_starts) (λ q code. last p q o code) s t (can p reads) (λ q code image goes.
    let before : List ℕ = made_lines size number (count (plan_of p)) (length code.instrs) in
    starts_done s t ⊥ (Some (Some starts_text)) p (λ ss. HasAudited Part (2 ^ 40) q o ss before) made_starts
    (λ n. n) tt (made_starts_are size number p some reads)
    (audited_done Part (2 ^ 40) q o made_starts before s t
    (made_observer size number p o (λ l. CanBeAudited (Named Part) (2 ^ 40) q l made_starts) some reads is goes))))) h
