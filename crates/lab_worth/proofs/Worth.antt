-- Numbers that bound what is shown bound what it is worth.
use Rattle.std.proofs.Common.{ℕ, List}
use Rattle.timing_types.specs.Labelled.{LabelledProgram}
use Rattle.sharp_count.specs.declared.count.LevelRuns.{LevelRuns}
use Rattle.gain_bound.proofs.Worth.{shown_is_worth_few}
use Rattle.start_file.specs.Starts.{StartValue}
use Rattle.leak_audit.specs.Sequences.{same_sequence}
use Rattle.leak_audit.proofs.Classing.{tests_sequences}
use Rattle.tool_stages.specs.declared.envs.Environment.{Environment}
use Rattle.lab_bound.specs.Enough.{Bounds}
use Rattle.lab_worth.specs.Worth.{AreWorth}

pub bounds_are_worth : (A : Type 0) (e : Environment) (q : LabelledProgram) (o t : ℕ) (ss : List StartValue) (levels : List LevelRuns)
    → Bounds e q o t ss levels → AreWorth A e q o t ss levels
bounds_are_worth A e q o t ss levels b =
    record {
      sharp = shown_is_worth_few _ _ A _ same_sequence tests_sequences _ _ b.few;
      ended = λ end same tests. shown_is_worth_few _ _ A _ same tests _ _ (b.ended end same tests);
      shared = λ apart. shown_is_worth_few _ _ A _ same_sequence tests_sequences _ _ (b.shared apart);
      shared_ended = λ apart end same tests. shown_is_worth_few _ _ A _ same tests _ _ (b.shared_ended apart end same tests);
    }
