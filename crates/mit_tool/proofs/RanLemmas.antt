-- A run that is done, or whose budget is spent, is one of an accepted program.
use Rattle.std.proofs.Common.{◌≡◌, ℕ, List, ◌∷◌, Option, Some, None, IfSome, Bool, true, false, inl, inr, ◌∙◌, sym, subst}
use Rattle.std.specs.Prelude.{codes, if◌then◌else◌}
use Rattle.clap.specs.Words.{fault_of, first_of, matches_of}
use Rattle.clap.specs.Walk.{is_empty}
use Rattle.label_code.specs.Shaped.{Code}
use Rattle.tool_words.specs.declared.words.EnvName.{EnvName}
use Rattle.tool_words.specs.WordsValues.{budget_given, env_given}
use Rattle.tool_words.specs.WordsRun.{run_app, run_asked, run_given}
use Rattle.tool_words.specs.WordsAsked.{Asked, run, command_of}
use Rattle.tool_texts.specs.declared.status.Status.{Status}
use Rattle.tool_texts.specs.declared.status.Status.TheVariants as status
use Rattle.tool_texts.specs.Ends.{EndsBy}
use Rattle.tool_stages.specs.Stages.{FirstStops}
use Rattle.tool_stages.specs.Accepted.{TypedAreSound}
use Rattle.tool_stages.specs.Begins.{Compiles}
use Rattle.tool_stages.specs.Content.{Content}
use Rattle.tool_stages.proofs.SoundLemmas.{least_is_sound, text_spells, types_least}
use Rattle.mit_tool.specs.Answers.{HasRun}
use Rattle.mit_tool.specs.Commands.{IsAnswer}
use Rattle.mit_tool.specs.Ran.{RunAsked, as_run, run_after, IsSoundRun, EndsRun, RunsSoundly}
use Rattle.mit_tool.proofs.PrepareLemmas.{run_next}
use Rattle.mit_syntax.specs.Program.{Syntax}

-- the first start stops no run that is done, or whose budget is spent
goes_done : (Rises : List ℕ → Type 0) (content : Content) (starts : Option (List ℕ)) (p : Syntax) (t : List ℕ)
    → FirstStops Rises content starts p status.Done t → ⊥
goes_done Rises content None p t x = x
goes_done Rises content (Some name) p t x = x

goes_budget : (Rises : List ℕ → Type 0) (content : Content) (starts : Option (List ℕ)) (p : Syntax) (t : List ℕ)
    → FirstStops Rises content starts p status.Budget t → ⊥
goes_budget Rises content None p t x = x
goes_budget Rises content (Some name) p t x = x

module _ (sound : TypedAreSound) (Rises : List ℕ → Type 0) (content : Content) (file : List ℕ) (starts : Option (List ℕ)) (e : EnvName)
    (budget : ℕ) (observer : Option (List ℕ)) (t : List ℕ) where
  ran_done : Compiles Rises content file observer (run_next Rises content starts e budget) status.Done t
      → IsSoundRun content (as_run file starts e budget observer) status.Done t
  ran_done (inl x) = absurd x
  ran_done (inr (p, reads, inl x)) = absurd x
  ran_done (inr (p, reads, inr (o, sees, inl x))) = absurd x
  ran_done (inr (p, reads, inr (o, sees, inr (q, types, inl x)))) = absurd x
  ran_done (inr (p, reads, inr (o, sees, inr (q, types, inr (code, image, inl x))))) = absurd (goes_done Rises content starts p t x)
  ran_done (inr (p, reads, inr (o, sees, inr (q, types, inr (code, image, inr (start, first, told)))))) = record {
    program = p;
    spells = text_spells (content file) p reads;
    labelled = q;
    types = types_least _ p q reads.spelled types;
    sound = least_is_sound sound _ p q reads.spelled types;
    observed = o;
    observes = sees;
    start = start;
    first = first;
    tells = subst (λ (c : Code). HasRun e budget q o c start status.Done t) image.0 told;
  }

  ran_budget : Compiles Rises content file observer (run_next Rises content starts e budget) status.Budget t
      → IsSoundRun content (as_run file starts e budget observer) status.Budget t
  ran_budget (inl x) = absurd x
  ran_budget (inr (p, reads, inl x)) = absurd x
  ran_budget (inr (p, reads, inr (o, sees, inl x))) = absurd x
  ran_budget (inr (p, reads, inr (o, sees, inr (q, types, inl x)))) = absurd x
  ran_budget (inr (p, reads, inr (o, sees, inr (q, types, inr (code, image, inl x))))) = absurd (goes_budget Rises content starts p t x)
  ran_budget (inr (p, reads, inr (o, sees, inr (q, types, inr (code, image, inr (start, first, told)))))) = record {
    program = p;
    spells = text_spells (content file) p reads;
    labelled = q;
    types = types_least _ p q reads.spelled types;
    sound = least_is_sound sound _ p q reads.spelled types;
    observed = o;
    observes = sees;
    start = start;
    first = first;
    tells = subst (λ (c : Code). HasRun e budget q o c start status.Budget t) image.0 told;
  }

module _ (sound : TypedAreSound) (Rises : List ℕ → Type 0) (content : Content) (file : List ℕ) (starts : Option (List ℕ)) (e : EnvName)
    (budget : ℕ) (observer : Option (List ℕ)) (old new : Option (List ℕ)) (Earlier : List ℕ → Type 0) where
  run_ran : (s : Status) → EndsBy old new Earlier (IsAnswer Rises content (run file starts e budget observer)) s
      → EndsRun (IsSoundRun content (as_run file starts e budget observer)) old new s
  run_ran status.Done h = (h.0, ran_done sound Rises content file starts e budget observer h.0 h.1, h.2)
  run_ran status.Budget h = (h.0, ran_budget sound Rises content file starts e budget observer h.0 h.1, h.2)
  run_ran s h = tt

-- the command `run` ends so
abbrev pub RanSoundly : Content → Option (List ℕ) → Option (List ℕ) → Status → Asked → Type 0
RanSoundly content old new s (run file starts e budget observer) = EndsRun (IsSoundRun content (as_run file starts e budget observer)) old new s
RanSoundly content old new s a = Unit {0}

-- a call that ended with its answer
pub ends_ran : TypedAreSound → (Rises : List ℕ → Type 0) (content : Content) (old new : Option (List ℕ)) (Earlier : List ℕ → Type 0) (s : Status)
    (a : Asked) → EndsBy old new Earlier (IsAnswer Rises content a) s → RanSoundly content old new s a
ends_ran sound Rises content old new Earlier s (run file starts e budget observer) h =
    run_ran sound Rises content file starts e budget observer old new Earlier s h
ends_ran sound Rises content old new Earlier s a h = tt

-- what a run is asked for is the command that its words ask for
module _ (content : Content) (old new : Option (List ℕ)) (s : Status) where
  given_run : (file starts : Option (List ℕ)) (e : Option EnvName) (budget : Option ℕ) (observer : Option (List ℕ))
      → IfSome (run_asked run file starts e budget observer) (RanSoundly content old new s)
      → IfSome (run_asked as_run file starts e budget observer) (λ r. EndsRun (IsSoundRun content r) old new s)
  given_run None starts e budget observer h = tt
  given_run (Some file) starts None budget observer h = tt
  given_run (Some file) starts (Some e) None observer h = tt
  given_run (Some file) starts (Some e) (Some budget) observer h = h

  taken_run : (b : Bool) (a : Option Asked) (r : Option RunAsked)
      → (IfSome a (RanSoundly content old new s) → IfSome r (λ r. EndsRun (IsSoundRun content r) old new s))
      → IfSome (if b then a else None) (RanSoundly content old new s)
      → IfSome (if b then r else None) (λ r. EndsRun (IsSoundRun content r) old new s)
  taken_run true a r f h = f h
  taken_run false a r f h = tt

  pub runs_soundly : (words : List (List ℕ)) → IfSome (command_of words) (RanSoundly content old new s) → RunsSoundly content old new words s
  runs_soundly words h after is =
      let rows = matches_of run_app after in
      taken_run (is_empty (fault_of run_app after)) (run_given run rows) (run_given as_run rows)
      (given_run (first_of (codes "FILE") rows) (first_of (codes "STARTS") rows) (env_given rows) (budget_given rows) (first_of (codes "observer") rows))
      (subst (λ (w : List (List ℕ)). IfSome (command_of w) (RanSoundly content old new s)) is h)

-- words that ask for nothing ask for no run
none_some : {A : Type 0} (P : A → Type 0) (o : Option A) → o ≡ None → IfSome o P
none_some P None e = tt
none_some P (Some a) e = absurd (cc)

pub no_words_run : (content : Content) (old new : Option (List ℕ)) (s : Status) (words : List (List ℕ)) → command_of words ≡ None
    → RunsSoundly content old new words s
no_words_run content old new s words none = runs_soundly content old new s words (none_some (RanSoundly content old new s) (command_of words) none)
