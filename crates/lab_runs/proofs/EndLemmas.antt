-- How a command ends that tells of runs: what may stand before the line for memory is told of the first few, and its answer of all.
use Rattle.std.proofs.Common.{◌≡◌, ◌≢◌, ◌++◌, ℕ, List, [], take, Bool, Option, inl, inr, refl}
use Rattle.std.proofs.KnownBytes.{Appends-trans}
use Rattle.std.specs.Io.KnownBytes.{Appends}
use Rattle.tim_base.specs.Sinks.{AppendsPrefix}
use Rattle.label_lattice.specs.declared.label.Label.{Label}
use Rattle.label_code.specs.Shaped.{Code}
use Rattle.start_file.specs.Starts.{StartValue}
use Rattle.tool_texts.specs.declared.status.Status.{Status}
use Rattle.tool_texts.specs.declared.status.Status.TheVariants as status
use Rattle.tool_texts.specs.declared.stop.Stop.{Stop}
use Rattle.tool_texts.specs.Ends.{EndsBy, IsStop, status_of, stop_text}
use Rattle.tool_texts.specs.Texts.{memory_line}
use Rattle.tool_texts.proofs.EndLemmas.{ends_stop, ends_after, prefix_after, prefix_longer}
use Rattle.tool_stages.specs.Content.{Content}
use Rattle.lab_runs.specs.Shown.{OfRuns, Shown, ShowsRuns, ShowsBefore, HasRuns, RunsStop}
use Rattle.lab_runs.proofs.ShownLemmas.{stops_command, runs_answer}

module _ (refused : Bool) (Rises : List ℕ → Type 0) (content : Content) (file starts : List ℕ) (observer : Option (List ℕ)) (IsPart IsText : OfRuns) where
  abbrev Runs : Status → List ℕ → Type 0
  Runs = ShowsRuns refused Rises content file starts observer IsText

  abbrev Before : List ℕ → Type 0
  Before = ShowsBefore refused content file starts observer IsPart

  -- what stops before the runs
  pub runs_stop : (old new : Option (List ℕ)) (stop : Stop) (r : Status) → IsStop (RunsStop refused Rises content file starts observer) stop
      → (r ≢ status.WriteFault → (r ≡ status_of stop) × Appends old new (stop_text stop))
      → (r ≡ status.WriteFault → AppendsPrefix old new (stop_text stop))
      → EndsBy old new Before Runs r
  runs_stop old new stop r h told prefix =
      ends_stop old new Before (RunsStop refused Rises content file starts observer) Runs (status_of stop) (stop_text stop) r (inl refl)
      (λ u. stops_command refused Rises content file starts observer IsText (status_of stop) u) h told prefix

  module _ (x : Shown) (o : Option Label) (code : Code) (ss : List StartValue) (h : HasRuns refused content file starts observer x o code ss) where
    answer : (u : List ℕ) → IsText x.labelled o code ss u → Runs status.Done (x.head ++ u)
    answer u is = runs_answer refused Rises content file starts observer IsText x o code ss u h is

    some_told : (n : ℕ) (u : List ℕ) → IsPart x.labelled o code (take n ss) u → Before (x.head ++ u)
    some_told n u is = inr (record { shown = x; observed = o; code = code; all = ss; has = h; runs = n; text = u; told = is; is = refl })

    -- all is written
    pub runs_done : (old mid new : Option (List ℕ)) (u : List ℕ) → IsText x.labelled o code ss u → Appends old mid x.head → Appends mid new u
        → EndsBy old new Before Runs status.Done
    runs_done old mid new u is w v = (x.head ++ u, answer u is, Appends-trans old mid new x.head u w v)

    -- a write failed in what stands before the runs
    pub runs_broke_head : (old new : Option (List ℕ)) → IsPart x.labelled o code [] [] → AppendsPrefix old new x.head
        → EndsBy old new Before Runs status.WriteFault
    runs_broke_head old new is w = (
      status.Memory,
      (x.head ++ []) ++ memory_line,
      (x.head ++ [], some_told 0 [] is, refl),
      prefix_longer old new (x.head ++ []) memory_line (prefix_longer old new x.head [] w),
    )

    -- a write failed in what is told of all runs
    pub runs_broke : (old mid new : Option (List ℕ)) (u : List ℕ) → IsText x.labelled o code ss u → Appends old mid x.head → AppendsPrefix mid new u
        → EndsBy old new Before Runs status.WriteFault
    runs_broke old mid new u is w v = (status.Done, x.head ++ u, answer u is, prefix_after old mid new x.head u (x.head ++ u) w v refl)

    -- or in what is told of the first few
    pub runs_broke_some : (old mid new : Option (List ℕ)) (n : ℕ) (u : List ℕ) → IsPart x.labelled o code (take n ss) u → Appends old mid x.head
        → AppendsPrefix mid new u → EndsBy old new Before Runs status.WriteFault
    runs_broke_some old mid new n u is w v = (
      status.Memory,
      (x.head ++ u) ++ memory_line,
      (x.head ++ u, some_told n u is, refl),
      prefix_longer old new (x.head ++ u) memory_line (prefix_after old mid new x.head u (x.head ++ u) w v refl),
    )

    -- memory was wanting after what is told of the first few
    pub runs_short : (old mid mid' new : Option (List ℕ)) (r : Status) (n : ℕ) (u : List ℕ) → IsPart x.labelled o code (take n ss) u → Appends old mid x.head
        → Appends mid mid' u
        → (r ≢ status.WriteFault → (r ≡ status.Memory) × Appends mid' new memory_line) → (r ≡ status.WriteFault → AppendsPrefix mid' new memory_line)
        → EndsBy old new Before Runs r
    runs_short old mid mid' new r n u is w v told prefix =
        ends_after old mid' new Before Runs (x.head ++ u) status.Memory memory_line r (Appends-trans old mid mid' x.head u w v)
        (x.head ++ u, some_told n u is, refl) told prefix
