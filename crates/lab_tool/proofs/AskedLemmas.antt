-- What holds of any question.
use Rattle.std.proofs.Common.{[], inl, refl}
use Rattle.tool_stages.specs.Content.{Content}
use Rattle.tool_stages.specs.declared.envs.Environment.{Environment}
use Rattle.lab_words.specs.QuestionAsked.{Asked, why, why_starts, why_audit, seen, timeline, bound, steady, leak, tune, check, help, version}
use Rattle.lab_tool.specs.Answers.{Before, BeforeIn}
use Rattle.lab_tool.specs.Machines.{machine_in}
use Rattle.lab_tool.proofs.OnMachine.{before_on}

-- nothing may stand before the line for memory
pub nothing_before_in : (e : Environment) (content : Content) (a : Asked) → BeforeIn e content a []
nothing_before_in e content (why file of) = refl
nothing_before_in e content (why_starts file starts) = refl
nothing_before_in e content (why_audit file starts observer machine budget) = refl
nothing_before_in e content (seen file starts observer machine budget refused) = inl refl
nothing_before_in e content (timeline file starts observer machine budget refused) = inl refl
nothing_before_in e content (bound file starts observer machine budget) = refl
nothing_before_in e content (steady file observer parts constant whole) = refl
nothing_before_in e content (leak file starts observer machine budget refused) = refl
nothing_before_in e content (tune file starts observer machine budget mark bits) = refl
nothing_before_in e content (check file) = refl
nothing_before_in e content (help command) = refl
nothing_before_in e content version = refl

pub nothing_before : (content : Content) (a : Asked) → Before content a []
nothing_before content a = before_on content (machine_in a) (λ e. BeforeIn e content a) (λ e. nothing_before_in e content a)
