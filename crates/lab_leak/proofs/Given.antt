-- From what runs of a file and what a start file gives to what is told.
use Rattle.std.proofs.Common.{◌≡◌, ◌∙◌, ◌<◌, ◌-◌, ◌++◌, inl, inr, sym, subst, ℕ, List, [], ◌∷◌, All, length, take, codes, Bool, true, false, Option, Some}
use Rattle.label_lattice.specs.declared.label.Label.{Label}
use Rattle.mit_syntax.specs.Program.{Syntax}
use Rattle.timing_types.specs.Labelled.{LabelledProgram, TypedProgram}
use Rattle.label_code.specs.Shaped.{Code}
use Rattle.start_file.specs.Starts.{IsFor}
use Rattle.space_starts.specs.Space.{IsSpaceFor}
use Rattle.tool_stages.specs.declared.envs.Environment.{Environment}
use Rattle.tool_texts.specs.declared.status.Status.{Status}
use Rattle.tool_texts.specs.declared.stop.Stop.{Stop}
use Rattle.tool_texts.specs.Ends.{IsStop, status_of, stop_text}
use Rattle.tool_texts.proofs.EndLemmas.{broke_map}
use Rattle.tool_stages.specs.Content.{Content}
use Rattle.tool_stages.specs.Stages.{Observes}
use Rattle.tool_stages.specs.Begins.{NoMore}
use Rattle.lab_runs.specs.declared.least.LeastLabelled.{LeastLabelled}
use Rattle.lab_runs.specs.declared.least.LeastLabelled.TheVariants.{Accepted, Refused}
use Rattle.lab_runs.specs.Shown.{head_line, RunsAccepted, RunsRefused, Shows, HasShown, FileShowStops}
use Rattle.lab_runs.specs.ShownViews.{shown_of}
use Rattle.lab_runs.proofs.ShownLemmas.{shows_program, from_map, from_goes}
use Rattle.space_stage.proofs.Counts.{count_list}
use Rattle.space_stage.specs.Given.{GivenValue, GivenIs, GivenStops, IsFitting}
use Rattle.space_stage.proofs.Stops.{given_rise}
use Rattle.lab_leak.specs.Answer.{HasLeakOf, CanLeakOf, IsLeakAnswer}
use Rattle.lab_leak.specs.Views.{LeakBy}
use Rattle.lab_leak.proofs.Answering.{leak_next}

-- ---- what is told before the runs says which program runs

some_end : (xs ys : List ℕ) (y : ℕ) → [] ≡ xs ++ y ∷ ys → ⊥
some_end [] ys y e = cc e
some_end (x ∷ xs) ys y e = cc e

not_empty : (refusal : List ℕ) → [] ≡ head_line refusal → ⊥
not_empty refusal e = some_end (take (length refusal - 1) refusal) (codes " it runs by its least labels, and no bound holds\n") 59 e

accepted_runs : (refused : Bool) (p : Syntax) (typed : TypedProgram) → Shows refused p (shown_of (Accepted typed)) → RunsAccepted p (shown_of (Accepted typed))
accepted_runs false p typed h = h
accepted_runs true p typed (inl h) = h
accepted_runs true p typed (inr h) = absurd (not_empty h.refusal h.head)

refused_runs : (refused : Bool) (p : Syntax) (q : LabelledProgram) (refusal : List ℕ) → Shows refused p (shown_of (Refused q refusal))
    → RunsRefused p (shown_of (Refused q refusal))
refused_runs false p q refusal h = absurd (not_empty refusal (sym h.head))
refused_runs true p q refusal (inl h) = absurd (not_empty refusal (sym h.head))
refused_runs true p q refusal (inr h) = h

leak_by : (refused : Bool) (p : Syntax) (labels : LeastLabelled) (e : Environment) (t : ℕ) (o : Option Label) (g : GivenValue) (s : Status) (y : List ℕ)
    → Shows refused p (shown_of labels) → LeakBy labels e t o g s y → HasLeakOf e t p (shown_of labels) o g s y
leak_by refused p (Accepted typed) e t o g s y shows h = inl (accepted_runs refused p typed shows, h)
leak_by refused p (Refused q refusal) e t o g s y shows h = inr (refused_runs refused p q refusal shows, h)

-- ---- what stops

-- what stops before the starts stops the command
pub file_stops : (refused : Bool) (Rises : List ℕ → Type 0) (content : Content) (file starts observer : List ℕ) (e : Environment) (t : ℕ) (f : Stop)
    → IsStop (FileShowStops refused Rises content file (Some observer)) f → IsStop (IsLeakAnswer Rises content file starts observer e t refused) f
file_stops refused Rises content file starts observer e t f h =
    broke_map (FileShowStops refused Rises content file (Some observer)) (IsLeakAnswer Rises content file starts observer e t refused) (status_of f)
    (stop_text f)
    (from_map refused (Some observer) Rises content file (λ p x o code. NoMore) (leak_next (Rises starts) (content starts) e t) (status_of f) (stop_text f)
    (λ p x o code n. absurd n)) h

module _ (refused : Bool) (Rises : List ℕ → Type 0) (content : Content) (file starts observer : List ℕ) (e : Environment) (t : ℕ)
    (held : Option (Option (List ℕ))) (labels : LeastLabelled) (o : Option Label) (l : Label) (code : Code) (p : Syntax) (same : held ≡ content starts)
    (is : p ≡ (shown_of labels).labelled.program) (h : HasShown refused content file (Some observer) (shown_of labels) o code) where
  there : p ≡ h.program
  there = is ∙ shows_program refused h.program (shown_of labels) h.shown.shows

  -- so does what stops the stage of the starts
  pub given_stops : (R : Type 0) (f : Stop) → (R → Rises starts) → IsStop (GivenStops R held p) f
      → IsStop (IsLeakAnswer Rises content file starts observer e t refused) f
  given_stops R f rise stop =
      let at : IsStop (GivenStops R (content starts) h.program) f =
      subst (λ (z : Syntax). IsStop (GivenStops R (content starts) z) f) there
      (subst (λ (z : Option (Option (List ℕ))). IsStop (GivenStops R z p) f) same stop) in
      broke_map (GivenStops R (content starts) h.program) (IsLeakAnswer Rises content file starts observer e t refused) (status_of f) (stop_text f)
      (λ k. from_goes refused (Some observer) Rises content file (shown_of labels) o code (leak_next (Rises starts) (content starts) e t) (status_of f)
      (stop_text f) h (inl (given_rise R (Rises starts) (content starts) h.program (status_of f) (stop_text f) rise k))) at

  module _ (names : o ≡ Some l) (g : GivenValue) (gives : GivenIs held p g) where
    -- what is told of it is the answer
    pub given_goes : (s : Status) (y : List ℕ) → LeakBy labels e t (Some l) g s y → IsLeakAnswer Rises content file starts observer e t refused s y
    given_goes s y told =
        let here : GivenIs (content starts) h.program g =
        subst (λ (z : Syntax). GivenIs (content starts) z g) there (subst (λ (z : Option (Option (List ℕ))). GivenIs z p g) same gives) in
        let leaks : HasLeakOf e t h.program (shown_of labels) o g s y =
        leak_by refused h.program labels e t o g s y h.shown.shows (subst (λ (z : Option Label). LeakBy labels e t z g s y) (sym names) told) in
        from_goes refused (Some observer) Rises content file (shown_of labels) o code (leak_next (Rises starts) (content starts) e t) s y h
        (inr (g, here, leaks))

    pub given_stop : (f : Stop) → IsStop (LeakBy labels e t (Some l) g) f → IsStop (IsLeakAnswer Rises content file starts observer e t refused) f
    given_stop f stop =
        broke_map (LeakBy labels e t (Some l) g) (IsLeakAnswer Rises content file starts observer e t refused) (status_of f) (stop_text f)
        (given_goes (status_of f) (stop_text f)) stop

    seen_label : l.number < (shown_of labels).labelled.program.order.size
    seen_label =
        let observed = subst (λ (z : Option Label). Observes h.program.order (Some observer) z) names h.shown.observes in
        subst (λ (z : Syntax). l.number < z.order.size) (sym (shows_program refused h.program (shown_of labels) h.shown.shows)) observed.0

  -- it can be told
  pub given_fits : o ≡ Some l → (g : GivenValue) → GivenIs held p g → IsFitting p g → CanLeakOf (shown_of labels).labelled l code g
  given_fits names (inl ss) gives fits =
      let n = count_list held p ss gives in
      record {
        image = h.shown.image.0;
        observer = seen_label names (inl ss) gives;
        some = n.0;
        few = n.1;
        starts = subst (λ (z : Syntax). All (IsFor z) ss) is fits;
      }
  given_fits names (inr s) gives fits = record {
    image = h.shown.image.0;
    observer = seen_label names (inr s) gives;
    space = subst (λ (z : Syntax). IsSpaceFor z s) is fits;
  }
