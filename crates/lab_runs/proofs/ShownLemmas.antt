-- What runs of a program: it is one, and what stops it.
use Rattle.std.proofs.Common.{◌≡◌, ◌<◌, ◌≤◌, ◌⊎◌, ◌++◌, ℕ, List, All, length, Option, Bool, true, false, inl, inr, refl, sym, ap, ◌∙◌, subst}
use Rattle.std.specs.Prelude.{IsTrue, IfSome}
use Rattle.label_lattice.specs.declared.label.Label.{Label}
use Rattle.label_lattice.specs.Order.{Order, IsOrder}
use Rattle.mit_syntax.specs.Program.{Syntax}
use Rattle.parse_laws.proofs.Meant.{program_order}
use Rattle.timing_types.specs.Labelled.{LabelledProgram}
use Rattle.label_infer.proofs.OneLeast.{one_labelled}
use Rattle.label_code.specs.Shaped.{Code}
use Rattle.code_lower.specs.Lowered.{lowered}
use Rattle.start_file.specs.Starts.{StartValue, IsFor}
use Rattle.tool_texts.specs.declared.status.Status.{Status}
use Rattle.tool_texts.specs.declared.status.Status.TheVariants as status
use Rattle.tool_texts.specs.declared.stop.Stop.{Stop}
use Rattle.tool_texts.specs.Ends.{EndsBy, IsStop, status_of, stop_text}
use Rattle.tool_texts.proofs.EndLemmas.{broke_map, ends_done}
use Rattle.tool_stages.specs.Stages.{Then, Reads, ProgramStops, Observes, HasImage, ImageStops}
use Rattle.tool_stages.specs.Content.{Content, IsKnown}
use Rattle.tool_stages.specs.Begins.{NoMore}
use Rattle.tool_stages.specs.Accepted.{is_past_typing, IsAccepted}
use Rattle.tool_stages.proofs.ChainLemmas.{reads_one}
use Rattle.tool_stages.proofs.GoesLemmas.{then_goes, then_goes_from, program_goes, typing_goes, image_goes}
use Rattle.tool_stages.proofs.OneFirst.{one_observer}
use Rattle.tool_stages.proofs.OneLemmas.{Same, then_one, one_program, one_typed, typed_or_not, one_type_stop, one_image_stop, image_or_not}
use Rattle.tool_stages.proofs.RunLemmas.{observer_below}
use Rattle.tool_stages.proofs.SoundLemmas.{accepted}
use Rattle.space_stage.specs.Listed.{IsListed, ListedStops, AreFitting}
use Rattle.space_stage.proofs.Listing.{one_list, listed_go, one_listed_stop, listed_done, listed_rise}
use Rattle.lab_runs.specs.CanRun.{CanRun}
use Rattle.lab_runs.specs.Labels.{UnnamedStops, observer_option, NamedCompileStops}
use Rattle.lab_runs.specs.Shown.{OfRuns, Shown, head_line, RunsAccepted, RunsRefused, Shows, ShowStops, ShowsOf, ShowsFrom, ShowsRuns}
use Rattle.lab_runs.specs.Shown.{IsShown, HasShown, HasRuns, ProgramShowStops, FileShowStops, RunsStop, RunsAs, CanShow}
use Rattle.lab_runs.proofs.NameLemmas.{one_unnamed_stop, unnamed_goes, compile_not_late}

-- ---- a program

pub shows_program : (refused : Bool) (p : Syntax) (x : Shown) → Shows refused p x → x.labelled.program ≡ p
shows_program false p x h = h.types.program
shows_program true p x (inl h) = h.types.program
shows_program true p x (inr h) = h.program

same_shown : (q r : LabelledProgram) (h k : List ℕ) → q ≡ r → h ≡ k → ◌≡◌ {A = Shown} (record { labelled = q; head = h }) (record { labelled = r; head = k })
same_shown q r h k e f = ap (λ z. record { labelled = z; head = h }) e ∙ ap (λ z. record { labelled = r; head = z }) f

one_accepted : (p : Syntax) (a b : Shown) → IsOrder p.order → RunsAccepted p a → RunsAccepted p b → a ≡ b
one_accepted p a b o h k =
    same_shown a.labelled b.labelled a.head b.head (one_typed p a.labelled b.labelled o h.types k.types) (h.head ∙ sym k.head)

one_refused : (p : Syntax) (a b : Shown) → IsOrder p.order → RunsRefused p a → RunsRefused p b → a ≡ b
one_refused p a b o h k =
    same_shown a.labelled b.labelled a.head b.head (one_labelled p o a.labelled b.labelled h.program k.program h.least k.least)
    (h.head ∙ ap head_line (one_type_stop p status.Refused status.Refused h.refusal k.refusal o h.refused k.refused).1 ∙ sym k.head)

-- no program is both
pub not_both : (p : Syntax) (a b : Shown) → RunsAccepted p a → RunsRefused p b → ⊥
not_both p a b h k = typed_or_not p a.labelled status.Refused k.refusal h.types k.refused

-- one program runs at most
pub one_shown : (refused : Bool) (p : Syntax) (a b : Shown) → IsOrder p.order → Shows refused p a → Shows refused p b → a ≡ b
one_shown false p a b o h k = one_accepted p a b o h k
one_shown true p a b o (inl h) (inl k) = one_accepted p a b o h k
one_shown true p a b o (inl h) (inr k) = absurd (not_both p a b h k)
one_shown true p a b o (inr h) (inl k) = absurd (not_both p b a k h)
one_shown true p a b o (inr h) (inr k) = one_refused p a b o h k

shown_or_not : (refused : Bool) (p : Syntax) (x : Shown) (s : Status) (t : List ℕ) → Shows refused p x → ShowStops refused p s t → ⊥
shown_or_not false p x s t h k = typed_or_not p x.labelled s t h.types k
shown_or_not true p x s t h k = k

one_show_stop : (refused : Bool) (p : Syntax) (s u : Status) (t x : List ℕ) → IsOrder p.order → ShowStops refused p s t → ShowStops refused p u x
    → Same s u t x
one_show_stop false p s u t x o h k = one_type_stop p s u t x o h k
one_show_stop true p s u t x o h k = absurd h

show_goes : (refused : Bool) (p : Syntax) (s : Status) (t : List ℕ) → RunsAs refused p → ShowStops refused p s t → ⊥
show_goes false p s t can h = typing_goes p s t can h
show_goes true p s t can h = h

-- no such stop is a read fault
pub no_read : (refused : Bool) (p : Syntax) (observer : Option (List ℕ)) (t : List ℕ) → ProgramShowStops refused p observer status.ReadFault t → ⊥
no_read refused p observer t (inl h) = h
no_read false p observer t (inr (o, sees, inl h)) = h
no_read true p observer t (inr (o, sees, inl h)) = h
no_read refused p observer t (inr (o, sees, inr (x, shows, inl h))) = h
no_read refused p observer t (inr (o, sees, inr (x, shows, inr (code, image, h)))) = h

-- ---- what stops

module _ (refused : Bool) (observer : Option (List ℕ)) where
  -- nothing runs
  pub show_stops : (p : Syntax) (order : Order) (o : Option Label) (e : Stop) → order ≡ p.order → Observes order observer o
      → IsStop (ShowStops refused p) e → IsStop (ProgramShowStops refused p observer) e
  show_stops p order o e is sees h =
      let seen : Observes p.order observer o = subst (λ (z : Order). Observes z observer o) is sees in
      broke_map (ShowStops refused p) (ProgramShowStops refused p observer) (status_of e) (stop_text e) (λ k. inr (o, seen, inl k)) h

  -- the image stops
  pub image_stops : (p : Syntax) (order : Order) (o : Option Label) (x : Shown) (e : Stop) → order ≡ p.order → Observes order observer o
      → Shows refused p x → IsStop (ImageStops x.labelled) e → IsStop (ProgramShowStops refused p observer) e
  image_stops p order o x e is sees shows h =
      let seen : Observes p.order observer o = subst (λ (z : Order). Observes z observer o) is sees in
      broke_map (ImageStops x.labelled) (ProgramShowStops refused p observer) (status_of e) (stop_text e) (λ k. inr (o, seen, inr (x, shows, inl k))) h

  pub shown_of_program : (p : Syntax) (order : Order) (o : Option Label) (x : Shown) (code : Code) → order ≡ p.order → Observes order observer o
      → Shows refused p x → HasImage x.labelled code → IsShown refused p observer x o code
  shown_of_program p order o x code is sees shows image =
      record { observes = subst (λ (z : Order). Observes z observer o) is sees; shows = shows; image = image }

  module _ (Rises : List ℕ → Type 0) (content : Content) (file : List ℕ) where
    -- a program stops
    pub program_stops : (p : Syntax) (e : Stop) → Reads (content file) p → IsStop (ProgramShowStops refused p observer) e
        → IsStop (FileShowStops refused Rises content file observer) e
    program_stops p e reads h =
        broke_map (ProgramShowStops refused p observer) (FileShowStops refused Rises content file observer) (status_of e) (stop_text e)
        (λ k. inr (p, reads, k)) h

    pub from_map : (Next Next' : Syntax → Shown → Option Label → Code → Status → List ℕ → Type 0) (s : Status) (t : List ℕ)
        → ((p : Syntax) (x : Shown) (o : Option Label) (code : Code) → Next p x o code s t → Next' p x o code s t)
        → ShowsFrom refused Rises content file observer Next s t → ShowsFrom refused Rises content file observer Next' s t
    from_map Next Next' s t f (inl h) = inl h
    from_map Next Next' s t f (inr (p, reads, inl h)) = inr (p, reads, inl h)
    from_map Next Next' s t f (inr (p, reads, inr (o, sees, inl h))) = inr (p, reads, inr (o, sees, inl h))
    from_map Next Next' s t f (inr (p, reads, inr (o, sees, inr (x, shows, inl h)))) = inr (p, reads, inr (o, sees, inr (x, shows, inl h)))
    from_map Next Next' s t f (inr (p, reads, inr (o, sees, inr (x, shows, inr (code, image, h))))) =
        inr (p, reads, inr (o, sees, inr (x, shows, inr (code, image, f p x o code h))))

    -- what comes after the image
    pub from_goes : (x : Shown) (o : Option Label) (code : Code) (Next : Syntax → Shown → Option Label → Code → Status → List ℕ → Type 0) (s : Status)
        (t : List ℕ) → (h : HasShown refused content file observer x o code) → Next h.program x o code s t
        → ShowsFrom refused Rises content file observer Next s t
    from_goes x o code Next s t h n = inr (h.program, h.reads, inr (o, h.shown.observes, inr (x, h.shown.shows, inr (code, h.shown.image, n))))

    module _ (starts : List ℕ) where
      abbrev stop_next : Syntax → Shown → Option Label → Code → Status → List ℕ → Type 0
      stop_next p x o code = Then (ListedStops (Rises starts) (content starts) p) (IsListed (content starts) p) (λ ss. NoMore)

      -- what stops before the starts stops the runs
      pub file_stops_runs : (e : Stop) → IsStop (FileShowStops refused Rises content file observer) e
          → IsStop (RunsStop refused Rises content file starts observer) e
      file_stops_runs e h =
          broke_map (FileShowStops refused Rises content file observer) (RunsStop refused Rises content file starts observer) (status_of e) (stop_text e)
          (from_map (λ p x o code. NoMore) stop_next (status_of e) (stop_text e) (λ p x o code n. absurd n)) h

      -- the starts stop the runs
      pub starts_stop_runs : (R : Type 0) (held : Option (Option (List ℕ))) (x : Shown) (o : Option Label) (code : Code) (p : Syntax) (e : Stop)
          → (R → Rises starts) → held ≡ content starts → p ≡ x.labelled.program → HasShown refused content file observer x o code
          → IsStop (ListedStops R held p) e → IsStop (RunsStop refused Rises content file starts observer) e
      starts_stop_runs R held x o code p e f same is h stop =
          let at : IsStop (ListedStops R (content starts) h.program) e =
          subst (λ (z : Syntax). IsStop (ListedStops R (content starts) z) e) (is ∙ shows_program refused h.program x h.shown.shows)
          (subst (λ (z : Option (Option (List ℕ))). IsStop (ListedStops R z p) e) same stop) in
          broke_map (ListedStops R (content starts) h.program) (RunsStop refused Rises content file starts observer) (status_of e) (stop_text e)
          (λ k. from_goes x o code stop_next (status_of e) (stop_text e) h
          (inl (listed_rise R (Rises starts) (content starts) h.program (status_of e) (stop_text e) f k))) at

-- ---- what runs begin with

module _ (refused : Bool) (content : Content) (file : List ℕ) (observer : Option (List ℕ)) (x : Shown) (o : Option Label) (code : Code) where
  pub runs_of : (starts : List ℕ) (held : Option (Option (List ℕ))) (p : Syntax) (ss : List StartValue) → held ≡ content starts → p ≡ x.labelled.program
      → HasShown refused content file observer x o code → IsListed held p ss → HasRuns refused content file starts observer x o code ss
  runs_of starts held p ss same is h are =
      record {
        has = h;
        given = subst (λ (z : Syntax). IsListed (content starts) z ss) (is ∙ shows_program refused h.program x h.shown.shows)
            (subst (λ (z : Option (Option (List ℕ))). IsListed z p ss) same are);
      }

  pub runs_fit : (starts : List ℕ) (p : Syntax) (ss : List StartValue) → HasRuns refused content file starts observer x o code ss → p ≡ x.labelled.program
      → AreFitting p ss → CanRun x.labelled o code ss
  runs_fit starts p ss h is fits =
      let at = shows_program refused h.has.program x h.has.shown.shows in
      record {
        image = h.has.shown.image.0;
        observer = subst (λ (z : Syntax). IfSome o (λ l. l.number < z.order.size)) (sym at)
            (observer_below h.has.program.order observer o h.has.shown.observes);
        few = fits.few;
        starts = subst (λ (z : Syntax). All (IsFor z) ss) is fits.starts;
      }

  -- what runs without the flag is accepted
  pub is_accepted : refused ≡ false → HasShown refused content file observer x o code → IsAccepted (content file)
  is_accepted e h =
      let shows : RunsAccepted h.program x = subst (λ b. Shows b h.program x) e h.shown.shows in
      accepted _ h.program x.labelled h.reads shows.types

-- what stops without the flag before the starts does not come past the typing
stops_as : (Rises : List ℕ → Type 0) (content : Content) (file : List ℕ) (observer : Option (List ℕ)) (s : Status) (t : List ℕ)
    → FileShowStops false Rises content file observer s t → NamedCompileStops Rises content file observer s t
stops_as Rises content file observer s t (inl h) = inl h
stops_as Rises content file observer s t (inr (p, reads, inl h)) = inr (p, reads, inl h)
stops_as Rises content file observer s t (inr (p, reads, inr (o, sees, inl h))) = inr (p, reads, inr (o, sees, inl h))
stops_as Rises content file observer s t (inr (p, reads, inr (o, sees, inr (x, shows, inl h)))) =
    inr (p, reads, inr (o, sees, inr (x.labelled, shows.types, inl h)))
stops_as Rises content file observer s t (inr (p, reads, inr (o, sees, inr (x, shows, inr (code, image, h))))) = absurd h

pub show_not_late : (refused : Bool) (Rises : List ℕ → Type 0) (content : Content) (file : List ℕ) (observer : Option (List ℕ)) (e : Stop)
    → refused ≡ false → IsStop (FileShowStops refused Rises content file observer) e → IsTrue (is_past_typing (status_of e)) → ⊥
show_not_late refused Rises content file observer e is h =
    compile_not_late Rises content file observer e
    (broke_map (FileShowStops false Rises content file observer) (NamedCompileStops Rises content file observer) (status_of e) (stop_text e)
    (stops_as Rises content file observer (status_of e) (stop_text e))
    (subst (λ b. IsStop (FileShowStops b Rises content file observer) e) is h))

-- ---- what goes on from what runs

module _ (refused : Bool) (Rises : List ℕ → Type 0) (content : Content) (file : List ℕ) (observer : Option (List ℕ))
    (Next : Syntax → Shown → Option Label → Code → Status → List ℕ → Type 0) where
  abbrev image_next : Syntax → Option Label → Shown → Status → List ℕ → Type 0
  image_next p o x = Then (ImageStops x.labelled) (HasImage x.labelled) (λ code. Next p x o code)

  abbrev shown_next : Syntax → Option Label → Status → List ℕ → Type 0
  shown_next p o = Then (ShowStops refused p) (Shows refused p) (λ x. image_next p o x)

  -- there is one answer, where there is one to what runs
  pub from_one : (s u : Status) (t y : List ℕ) → (Rises file → ⊥) → IsKnown (content file)
      → ((p : Syntax) (x : Shown) (o : Option Label) (code : Code) → Next p x o code s t → Next p x o code u y → Same s u t y)
      → ShowsFrom refused Rises content file observer Next s t → ShowsFrom refused Rises content file observer Next u y → Same s u t y
  from_one s u t y n known next =
      reads_one s u t y (Rises file) (content file) (λ p. ShowsOf refused p observer (Next p)) n known (λ p order.
      then_one (UnnamedStops observer_option p.order observer) (Observes p.order observer) (λ o. shown_next p o) s u t y
      (one_unnamed_stop observer_option p.order observer s u t y) (λ o v z. unnamed_goes observer_option p.order observer o v z)
      (λ a b. one_observer p.order observer a b order) (λ o sees.
      then_one (ShowStops refused p) (Shows refused p) (λ x. image_next p o x) s u t y
      (one_show_stop refused p s u t y order) (λ x v z. shown_or_not refused p x v z) (λ a b. one_shown refused p a b order) (λ x shows.
      then_one (ImageStops x.labelled) (HasImage x.labelled) (λ code. Next p x o code) s u t y
      (one_image_stop x.labelled s u t y) (λ code v z. image_or_not x.labelled code v z) (λ a b h k. h.0 ∙ sym k.0) (λ code image.
      next p x o code))))

  -- a program that runs, with an image and a label, goes on
  pub from_done : (s : Status) (t : List ℕ) (p : Syntax) (o : Option Label) → (Rises file → ⊥) → IsKnown (content file) → Reads (content file) p
      → Observes p.order observer o → RunsAs refused p → ((x : Shown) → Shows refused p x → length (lowered x.labelled).instrs ≤ 200000)
      → ((x : Shown) (code : Code) → Shows refused p x → Next p x o code s t → s ≡ status.Done)
      → ShowsFrom refused Rises content file observer Next s t → s ≡ status.Done
  from_done s t p o n known reads observes runs short next h =
      then_goes_from (ProgramStops (Rises file) (content file)) (Reads (content file)) (λ p. ShowsOf refused p observer (Next p)) s t
      p reads (one_program (content file) known) (program_goes (Rises file) (content file) p s t n known reads)
      (then_goes_from (UnnamedStops observer_option p.order observer) (Observes p.order observer) (λ o. shown_next p o) s t
      o observes (λ a b. one_observer p.order observer a b (program_order _ p reads.spelled)) (unnamed_goes observer_option p.order observer o s t observes)
      (then_goes (ShowStops refused p) (Shows refused p) (λ x. image_next p o x) s t (show_goes refused p s t runs) (λ x shows.
      then_goes (ImageStops x.labelled) (HasImage x.labelled) (λ code. Next p x o code) s t (image_goes x.labelled s t (short x shows)) (λ code image.
      next x code shows)))) h

no_show_fault : (refused : Bool) (p : Syntax) (t : List ℕ) → ShowStops refused p status.WriteFault t → ⊥
no_show_fault false p t h = h
no_show_fault true p t h = h

-- no answer is a write fault
pub from_no_fault : (refused : Bool) (Rises : List ℕ → Type 0) (content : Content) (file : List ℕ) (observer : Option (List ℕ))
    (Next : Syntax → Shown → Option Label → Code → Status → List ℕ → Type 0) (t : List ℕ)
    → ((p : Syntax) (x : Shown) (o : Option Label) (code : Code) → Next p x o code status.WriteFault t → ⊥)
    → ShowsFrom refused Rises content file observer Next status.WriteFault t → ⊥
from_no_fault refused Rises content file observer Next t f (inl h) = h
from_no_fault refused Rises content file observer Next t f (inr (p, reads, inl h)) = h
from_no_fault refused Rises content file observer Next t f (inr (p, reads, inr (o, sees, inl h))) = no_show_fault refused p t h
from_no_fault refused Rises content file observer Next t f (inr (p, reads, inr (o, sees, inr (x, shows, inl h)))) = h
from_no_fault refused Rises content file observer Next t f (inr (p, reads, inr (o, sees, inr (x, shows, inr (code, image, h))))) = f p x o code h

-- ---- answers

module _ (refused : Bool) (Rises : List ℕ → Type 0) (content : Content) (file starts : List ℕ) (observer : Option (List ℕ)) (IsText : OfRuns) where
  abbrev told_next : Shown → Option Label → Code → List StartValue → Status → List ℕ → Type 0
  told_next x o code ss s t = (s ≡ status.Done) × (u : List ℕ) × IsText x.labelled o code ss u × (t ≡ x.head ++ u)

  abbrev text_next : Syntax → Shown → Option Label → Code → Status → List ℕ → Type 0
  text_next p x o code =
      Then (ListedStops (Rises starts) (content starts) p) (IsListed (content starts) p) (λ ss. told_next x o code ss)

  -- what stops the runs stops the command
  pub stops_command : (s : Status) (t : List ℕ) → RunsStop refused Rises content file starts observer s t
      → ShowsRuns refused Rises content file starts observer IsText s t
  stops_command s t = from_map refused observer Rises content file (stop_next refused observer Rises content file starts) text_next s t after
    where
      after : (p : Syntax) (x : Shown) (o : Option Label) (code : Code) → stop_next refused observer Rises content file starts p x o code s t
          → text_next p x o code s t
      after p x o code (inl h) = inl h
      after p x o code (inr h) = absurd h.2

  -- the text of the runs is the answer, after what stands before them
  pub runs_answer : (x : Shown) (o : Option Label) (code : Code) (ss : List StartValue) (u : List ℕ)
      → HasRuns refused content file starts observer x o code ss → IsText x.labelled o code ss u
      → ShowsRuns refused Rises content file starts observer IsText status.Done (x.head ++ u)
  runs_answer x o code ss u h is =
      from_goes refused observer Rises content file x o code text_next status.Done (x.head ++ u) h.has (inr (ss, h.given, (refl, u, is, refl)))

  -- files that are told and read give one answer, where runs give one text
  pub one_shows : (s u : Status) (t x : List ℕ) → (Rises file → ⊥) → (Rises starts → ⊥) → IsKnown (content file) → IsKnown (content starts)
      → ((q : LabelledProgram) (o : Option Label) (code : Code) (ss : List StartValue) (y z : List ℕ) → IsText q o code ss y → IsText q o code ss z → y ≡ z)
      → ShowsRuns refused Rises content file starts observer IsText s t → ShowsRuns refused Rises content file starts observer IsText u x → Same s u t x
  one_shows s u t x n m known kept one =
      from_one refused Rises content file observer text_next s u t x n known (λ p r o code.
      then_one (ListedStops (Rises starts) (content starts) p) (IsListed (content starts) p) (λ ss. told_next r o code ss) s u t x
      (one_listed_stop (content starts) kept p (Rises starts) s u t x m) (λ ss v y are. listed_go (content starts) kept p (Rises starts) ss v y m are)
      (one_list (content starts) kept p) (λ ss are h k.
      (h.0 ∙ sym k.0, h.3 ∙ ap (λ z. r.head ++ z) (one r.labelled o code ss h.1 k.1 h.2 k.2) ∙ sym k.3)))

  show_done : (s : Status) (t : List ℕ) → CanShow refused content file starts observer → (Rises file → ⊥) → (Rises starts → ⊥)
      → ShowsRuns refused Rises content file starts observer IsText s t → s ≡ status.Done
  show_done s t can n m =
      from_done refused Rises content file observer text_next s t can.program can.observed n can.known can.reads can.observes can.runs can.short
      (λ x code shows. listed_done (content starts) can.known_starts can.program s t (Rises starts) (λ ss. told_next x can.observed code ss) can.all m can.given
      (λ k. k.0))

  -- a call that can be done is done
  pub show_completes : (old new : Option (List ℕ)) (Before : List ℕ → Type 0) (r : Status) (Risen : Type 0)
      → EndsBy old new Before (ShowsRuns refused Rises content file starts observer IsText) r → (r ≡ status.WriteFault → Risen)
      → CanShow refused content file starts observer → (Rises file → ⊥) → (Rises starts → ⊥) → (Risen → ⊥) → (r ≡ status.Done) ⊎ (r ≡ status.Memory)
  show_completes old new Before r Risen ends write can n m k =
      ends_done old new Before (ShowsRuns refused Rises content file starts observer IsText) r ends (λ e. k (write e))
      (λ t h. show_done r t can n m h)
