-- How a call that asks for the run ends.
use Rattle.std.proofs.Common.{◌≡◌, ◌≢◌, ◌≤◌, ◌∙◌, ap, subst, ℕ, List, Option, None, arith}
use Rattle.std.specs.Prelude.{IfSome}
use Rattle.tim_base.specs.Faults.{Rose}
use Rattle.tool_words.specs.declared.words.EnvName.TheVariants.{Flat}
use Rattle.tool_words.specs.WordsAsked.{Asked, command_of, run}
use Rattle.tool_texts.specs.declared.status.Status.{Status}
use Rattle.tool_texts.specs.declared.status.Status.TheVariants as status
use Rattle.tool_texts.specs.Ends.{EndsBy}
use Rattle.tool_stages.specs.Content.{Content}
use Rattle.mit_tool.specs.Commands.{IsAnswer, Before}
use Rattle.mit_tool.specs.Once.{HasOneAnswer}
use Rattle.tool_laws.specs.FirstRun.{first_file, first_words, first_answer}
use Rattle.tool_laws.proofs.Endings.{Ended, ends}
use Rattle.tool_laws.proofs.RunAsked.{asks}
use Rattle.tool_laws.proofs.RunWhole.{HoldsText, has_one}

pub run_ends : HasOneAnswer → (content : Content) (before now : List ℕ → ℕ) (file : List ℕ) (t : ℕ) → HoldsText (content file) → 3 ≤ t
    → (Rose (before file) (now file) → ⊥)
    → (old new : Option (List ℕ)) (s : Status)
    → EndsBy old new (Before content (run file None Flat t None)) (IsAnswer (λ name. Rose (before name) (now name)) content (run file None Flat t None)) s
    → s ≢ status.WriteFault → Ended first_answer old new s
run_ends law content before now file t h k n old new s e w =
    ends first_answer old new (IsAnswer (λ name. Rose (before name) (now name)) content (run file None Flat t None))
    (has_one law content before now file t h k n) s e w

-- the same of the first words
pub call_ends : HasOneAnswer → (content : Content) (before now : List ℕ → ℕ) (old new : Option (List ℕ)) (s : Status) (words : List (List ℕ)) (Fails : Type 0)
    → words ≡ first_words → HoldsText (content first_file) → (Rose (before first_file) (now first_file) → ⊥) → (Fails → ⊥) → (s ≡ status.WriteFault → Fails)
    → IfSome (command_of words) (λ a. EndsBy old new (Before content a) (IsAnswer (λ name. Rose (before name) (now name)) content a) s)
    → Ended first_answer old new s
call_ends law content before now old new s words Fails e h n m write a =
    let P : Asked → Type 0 = λ x. EndsBy old new (Before content x) (IsAnswer (λ name. Rose (before name) (now name)) content x) s in
    run_ends law content before now first_file 1000000 h (omega arith) n old new s
    (subst (λ (o : Option Asked). IfSome o P) (ap command_of e ∙ asks) a) (λ w. m (write w))
