-- Where a walk over starts stands: the lines of the runs so far, and what is counted of them.
use Rattle.std.proofs.Common.{◌≡◌, ◌<◌, ◌≤◌, ◌^◌, ℕ, zero, suc, ◌+◌, List, [], ◌∷◌, ◌++◌, length, take, drop, replicate, Option, refl, sym, ap, ◌∙◌, subst}
use Rattle.std.proofs.Common.{arith, append-nil}
use Rattle.std.specs.Io.KnownBytes.{Appends}
use Rattle.std.specs.List.{AllZip}
use Rattle.std.specs.Prelude.{Bool, true, false, cond, leb, not, ◌&&◌, slice_index_or}
use Rattle.std.proofs.KnownBytes.{Appends-trans, Appends-nil}
use Rattle.std.proofs.lemmas.List.{get_or-replicate, length-replicate, length-take}
use Rattle.std.proofs.lemmas.Grind.{flat_map-append}
use Rattle.std.proofs.lemmas.Slice.Zip.{AllZip-long}
use Rattle.tim_base.specs.Sinks.{AppendsPrefix}
use Rattle.label_lattice.specs.declared.label.Label.{Label}
use Rattle.mit_syntax.specs.Plan.{mitigates}
use Rattle.mit_syntax.specs.Program.{plan_of}
use Rattle.timing_types.specs.Labelled.{LabelledProgram}
use Rattle.env_contract.specs.Env.{Env}
use Rattle.label_code.specs.Machine.{Machine, step, steps, run_for, start}
use Rattle.label_code.specs.Run.{Start}
use Rattle.label_code.specs.Shaped.{Code}
use Rattle.start_file.specs.Starts.{StartValue}
use Rattle.run_timeline.specs.declared.moment.Moment.{Moment}
use Rattle.run_timeline.specs.declared.tally.Tally.{Tally}
use Rattle.run_timeline.specs.Timeline.{moments, IsTimeline}
use Rattle.run_timeline.specs.Printed.{end_of_run, Printed, PrintedPart}
use Rattle.run_timeline.specs.Text.{run_text, timeline_text}
use Rattle.run_timeline.specs.Summary.{AreTallies, summary_text}
use Rattle.run_timeline.specs.Places.{places}
use Rattle.run_timeline.specs.Tallied.{no_tally, HaveRoom, Grown}
use Rattle.tool_stages.specs.declared.envs.Environment.{Environment}
use Rattle.tool_texts.proofs.EndLemmas.{prefix_after, prefix_longer}
use Rattle.lab_runs.specs.Runs.{texts}
use Rattle.lab_runs.proofs.TextLemmas.{take_one, take_end, texts_last}
use Rattle.lab_timeline.specs.Timed.{Timed, IsTimed, run_lines, all_moments, AreTimelines}
use Rattle.lab_timeline.specs.Written.{timed_by, WritesRun, BreaksRun, WritesRuns, WritesFew, BreaksFew, WritesAll, BreaksAll, Counted}

zip_last : {A B : Type 0} (R : A → B → Type 0) (xs : List A) (ys : List B) (x : A) (y : B) → AllZip R xs ys → R x y → AllZip R (xs ++ x ∷ []) (ys ++ y ∷ [])
zip_last R [] [] x y h k = (k, h)
zip_last R [] (b ∷ ys) x y h k = absurd h
zip_last R (a ∷ xs) [] x y h k = absurd h
zip_last R (a ∷ xs) (b ∷ ys) x y h k = (h.0, zip_last R xs ys x y h.1 k)

moments_last : (runs : List Timed) (run : Timed) → all_moments (runs ++ run ∷ []) ≡ all_moments runs ++ run.moments
moments_last runs run = flat_map-append (λ r. r.moments) runs (run ∷ []) ∙ ap (λ z. all_moments runs ++ z) (append-nil run.moments)

-- ---- one run

module _ {E : Type 0} (v : Env E) (code : Code) (t : ℕ) where
  run_steps : (k : ℕ) (x : Machine E) → (j : ℕ) × (run_for v code.instrs t k x ≡ steps v code.instrs j x)
  run_steps zero x = (0, refl)
  run_steps (suc k) x = goes (leb (step v code.instrs x).core.clock t && not x.halted) (run_steps k (step v code.instrs x))
    where
      goes : (b : Bool) → ((j : ℕ) × (run_for v code.instrs t k (step v code.instrs x) ≡ steps v code.instrs j (step v code.instrs x)))
          → (j : ℕ) × (cond b (run_for v code.instrs t k (step v code.instrs x)) x ≡ steps v code.instrs j x)
      goes true h = (suc h.0, h.1)
      goes false h = (0, refl)

  -- each run has a timeline
  has_timeline : (s : Start E) → (ms : List Moment) × IsTimeline v code.instrs t s ms
  has_timeline s =
      let x : Machine E = start s.memory s.env in
      let h = run_steps t x in
      (moments v code.instrs h.0 x, record { count = h.0; ends = sym h.1; tells = refl })

  module _ (s : Start E) (q : LabelledProgram) (o : Option Label) (number : ℕ) (old mid new : Option (List ℕ)) (head : List ℕ)
      (is : head ≡ run_text number) where
    -- a write failed in the first line
    pub head_breaks : AppendsPrefix old new head → BreaksRun v code t s q o number old new
    head_breaks h =
        let run = has_timeline s in
        let end = end_of_run v code.instrs t s in
        record {
          moments = run.0;
          timeline = run.1;
          written =
              prefix_longer old new (run_text number) (timeline_text q o run.0 end) (subst (AppendsPrefix old new) is h);
        }

    -- or after it
    pub rest_breaks : (from : Start E) → from ≡ s → Appends old mid head → PrintedPart v code.instrs t from q o mid new
        → BreaksRun v code t s q o number old new
    rest_breaks from same h part =
        let at : PrintedPart v code.instrs t s q o mid new = subst (λ (z : Start E). PrintedPart v code.instrs t z q o mid new) same part in
        record {
          moments = at.moments;
          timeline = at.timeline;
          written = prefix_after old mid new (run_text number) (timeline_text q o at.moments (end_of_run v code.instrs t s))
              (run_lines q o number (timed_by v code t s at.moments)) (subst (Appends old mid) is h) at.written refl;
        }

    -- all of them are written
    pub run_written : (from : Start E) (tallies more : List Tally) → from ≡ s → Appends old mid head → Printed v code.instrs t from q o mid new tallies more
        → WritesRun v code t s q o number old new tallies more
    run_written from tallies more same h printed =
        let at : Printed v code.instrs t s q o mid new tallies more =
        subst (λ (z : Start E). Printed v code.instrs t z q o mid new tallies more) same printed in
        record {
          moments = at.moments;
          timeline = at.timeline;
          written = Appends-trans old mid new (run_text number) (timeline_text q o at.moments (end_of_run v code.instrs t s))
              (subst (Appends old mid) is h) at.written;
          tallied = at.tallied;
        }

-- ---- all runs

module _ (e : Environment) (t : ℕ) (q : LabelledProgram) (o : Option Label) (code : Code) (ss : List StartValue) where
  -- the lines of the first i runs are written, and their mitigations are in the tallies
  pub record Walking (i : ℕ) (old now : Option (List ℕ)) (tallies : List Tally) : Type 0 where
    pub runs : List Timed
    pub timed : AllZip (IsTimed e t q.program.order code) (take i ss) runs
    pub written : Appends old now (texts (run_lines q o) runs)
    pub tallied : AreTallies (all_moments runs) tallies
    pub counted : Counted i tallies
    pub count : length tallies ≡ mitigates (plan_of q.program)

  module _ (tallies : List Tally) (none : tallies ≡ replicate (mitigates (plan_of q.program)) no_tally) where
    many : length tallies ≡ mitigates (plan_of q.program)
    many = ap length none ∙ length-replicate (mitigates (plan_of q.program)) no_tally

    nothing : (k : ℕ) (d : Tally) → k < length tallies → slice_index_or tallies k d ≡ no_tally
    nothing k d lt =
        let low : k < mitigates (plan_of q.program) = omega (arith, lt, many) in
        ap (λ z. slice_index_or z k d) none ∙ get_or-replicate (mitigates (plan_of q.program)) k no_tally d low

    pub walking_first : (old : Option (List ℕ)) → Walking 0 old old tallies
    walking_first old = record {
      runs = [];
      timed = tt;
      written = Appends-nil old;
      tallied = record { each = nothing };
      counted = λ k d lt. (
        let z = ap (λ y. y.ended) (nothing k d lt) in omega (arith, z),
        let y = ap (λ y. y.ended) (nothing k d lt) in let z =
            ap (λ y. y.missed) (nothing k d lt) in omega (arith, y, z),
      );
      count = many;
    }

  -- there is room for one run more
  pub has_room : (i : ℕ) (old now : Option (List ℕ)) (tallies : List Tally) → Walking i old now tallies → i < 4096 → t ≤ 2 ^ 40 → HaveRoom t tallies
  has_room i old now tallies h lt few k d low =
      let c = h.counted k d low in
      let a = c.0 in
      let b = c.1 in
      (omega (arith, a, lt, few), b)

  module _ (i : ℕ) (s : StartValue) (lt : i < length ss) (from : drop i ss ≡ s ∷ drop (i + 1) ss) where
    place : (runs : List Timed) → AllZip (IsTimed e t q.program.order code) (take i ss) runs → 1 + length runs ≡ i + 1
    place runs zip =
        let long = AllZip-long (IsTimed e t q.program.order code) (take i ss) runs zip in
        let short = length-take i ss in
        omega (arith, long, short, lt)

    timed_more : (runs : List Timed) (run : Timed) → AllZip (IsTimed e t q.program.order code) (take i ss) runs → IsTimed e t q.program.order code s run
        → AllZip (IsTimed e t q.program.order code) (take (i + 1) ss) (runs ++ run ∷ [])
    timed_more runs run zip is =
        subst (λ z. AllZip (IsTimed e t q.program.order code) z (runs ++ run ∷ [])) (sym (take_one ss i s from))
        (zip_last (IsTimed e t q.program.order code) (take i ss) runs s run zip is)

    texts_more : (runs : List Timed) (run : Timed) → AllZip (IsTimed e t q.program.order code) (take i ss) runs
        → texts (run_lines q o) runs ++ run_lines q o (i + 1) run ≡ texts (run_lines q o) (runs ++ run ∷ [])
    texts_more runs run zip = ap (λ n. texts (run_lines q o) runs ++ run_lines q o n run) (sym (place runs zip)) ∙ sym (texts_last (run_lines q o) runs run)

    module _ {E : Type 0} (v : Env E) (at : Start E) (named : (ms : List Moment) → IsTimeline v code.instrs t at ms
        → IsTimed e t q.program.order code s (timed_by v code t at ms)) where
      pub walking_next : (old now new : Option (List ℕ)) (tallies more : List Tally) → Walking i old now tallies
          → WritesRun v code t at q o (i + 1) now new tallies more → Grown t tallies more → t ≤ 2 ^ 40
          → Walking (i + 1) old new more
      walking_next old now new tallies more h w g few =
          let run = timed_by v code t at w.moments in
          record {
            runs = h.runs ++ run ∷ [];
            timed = timed_more h.runs run h.timed (named w.moments w.timeline);
            written = subst (Appends old new) (texts_more h.runs run h.timed)
                (Appends-trans old now new (texts (run_lines q o) h.runs) (run_lines q o (i + 1) run) h.written w.written);
            tallied = subst (λ z. AreTallies z more) (sym (moments_last h.runs run)) (w.tallied (all_moments h.runs) h.tallied);
            counted = λ k d low.
                let fit = g.fit in
                let below : k < length tallies = omega (arith, low, fit) in
                let was = (h.counted k d below).0 in
                let grew = g.each k d below in
                let a = grew.0 in
                let b = grew.1 in
                (omega (arith, was, a, few), b);
            count = g.fit ∙ h.count;
          }

      -- a write failed in its lines
      pub walking_breaks : (old now new : Option (List ℕ)) (tallies : List Tally) → Walking i old now tallies → BreaksRun v code t at q o (i + 1) now new
          → BreaksFew e t q o code ss old new
      walking_breaks old now new tallies h w =
          let run = timed_by v code t at w.moments in
          record {
            count = i + 1;
            text = texts (run_lines q o) (h.runs ++ run ∷ []);
            runs = record { runs = h.runs ++ run ∷ []; timed = timed_more h.runs run h.timed (named w.moments w.timeline); text = refl };
            written = prefix_after old now new (texts (run_lines q o) h.runs) (run_lines q o (i + 1) run) (texts (run_lines q o) (h.runs ++ run ∷ [])) h.written
                w.written (texts_more h.runs run h.timed);
          }

  -- memory was wanting before a run
  pub walking_short : (i : ℕ) (old now new : Option (List ℕ)) (tallies : List Tally) → Walking i old now tallies → new ≡ now → WritesFew e t q o code ss old new
  walking_short i old now new tallies h same = record {
    count = i;
    text = texts (run_lines q o) h.runs;
    runs = record { runs = h.runs; timed = h.timed; text = refl };
    written = subst (λ z. Appends old z (texts (run_lines q o) h.runs)) (sym same) h.written;
  }

  pub none_written : (old : Option (List ℕ)) → WritesFew e t q o code ss old old
  none_written old = record { count = 0; text = []; runs = record { runs = []; timed = tt; text = refl }; written = Appends-nil old }

  -- after the last run
  pub walking_ends : (i : ℕ) (old now : Option (List ℕ)) (tallies : List Tally) → Walking i old now tallies → length ss ≤ i
      → WritesRuns e t q o code ss old now tallies
  walking_ends i old now tallies h le = record {
    runs = h.runs;
    timed = subst (λ z. AllZip (IsTimed e t q.program.order code) z h.runs) (take_end ss i le) h.timed;
    written = h.written;
    tallied = h.tallied;
  }

  -- the lines of the mitigates after those of the runs
  module _ (old now new : Option (List ℕ)) (tallies : List Tally) (h : WritesRuns e t q o code ss old now tallies)
      (count : length tallies ≡ mitigates (plan_of q.program)) where
    are_all : AreTimelines e t q o code ss (texts (run_lines q o) h.runs ++ summary_text (places (plan_of q.program)) tallies)
    are_all = record { runs = h.runs; timed = h.timed; tallies = tallies; count = count; tallied = h.tallied; text = refl }

    pub all_written : Appends now new (summary_text (places (plan_of q.program)) tallies) → WritesAll e t q o code ss old new
    all_written k = record {
      text = texts (run_lines q o) h.runs ++ summary_text (places (plan_of q.program)) tallies;
      timelines = are_all;
      written = Appends-trans old now new (texts (run_lines q o) h.runs) (summary_text (places (plan_of q.program)) tallies) h.written k;
    }

    pub all_broken : AppendsPrefix now new (summary_text (places (plan_of q.program)) tallies) → BreaksAll e t q o code ss old new
    all_broken k = record {
      text = texts (run_lines q o) h.runs ++ summary_text (places (plan_of q.program)) tallies;
      timelines = are_all;
      written = prefix_after old now new (texts (run_lines q o) h.runs) (summary_text (places (plan_of q.program)) tallies) (texts (run_lines q o) h.runs
          ++ summary_text (places (plan_of q.program)) tallies) h.written k refl;
    }
