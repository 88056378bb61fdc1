-- A question that was read, with the bytes of its texts.
use Rattle.std.specs.Prelude.{option_map}
use Rattle.lab_words.specs.declared.machine.Machine.{Machine}
use Rattle.lab_words.specs.declared.machine.Machine.TheVariants.{Named, Described}
use Rattle.lab_words.specs.declared.question.Question.{Question}
use Rattle.lab_words.specs.declared.question.Question.TheVariants as question
use Rattle.lab_words.specs.QuestionAsked.{MachineAsked, named, described}
use Rattle.lab_words.specs.QuestionAsked.{Asked, why, why_starts, why_audit, seen, timeline, bound, steady, leak, tune, check, help, version}

abbrev pub machine_of : Machine → MachineAsked
machine_of (Named env) = named env
machine_of (Described file) = described file.now

abbrev pub asked_of : Question → Asked
asked_of (question.Why file of) = why file.now (option_map (λ n. n.now) of)
asked_of (question.WhyStarts file starts) = why_starts file.now starts.now
asked_of (question.WhyAudit file starts observer machine budget) = why_audit file.now starts.now observer.now (machine_of machine) budget
asked_of (question.Seen file starts observer machine budget refused) = seen file.now starts.now observer.now (machine_of machine) budget refused
asked_of (question.Timeline file starts observer machine budget refused) =
    timeline file.now starts.now (option_map (λ l. l.now) observer) (machine_of machine) budget refused
asked_of (question.Bound file starts observer machine budget) = bound file.now starts.now observer.now (machine_of machine) budget
asked_of (question.Steady file observer parts constant whole) =
    steady file.now observer.now (option_map (λ l. l.now) parts) (option_map (λ w. w.now) constant) whole
asked_of (question.Leak file starts observer machine budget refused) = leak file.now starts.now observer.now (machine_of machine) budget refused
asked_of (question.Tune file starts observer machine budget mark bits) = tune file.now starts.now observer.now (machine_of machine) budget mark bits
asked_of (question.Check file) = check file.now
asked_of (question.Help command) = help command
asked_of question.Version = version
