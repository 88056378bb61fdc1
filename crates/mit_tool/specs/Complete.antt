-- When a command can be done: what must be so that nothing but want of memory stops it.
use Rattle.std.specs.Prelude.{◌≤◌, ℕ, List, length}
use Rattle.tim_base.specs.Faults.{Rose}
use Rattle.tim_base.specs.Told.{limit, IsTold}
use Rattle.tool_words.specs.WordsAsked.{Asked, certify, recheck}
use Rattle.tool_texts.specs.declared.status.Status.TheVariants as status
use Rattle.tool_stages.specs.Content.{Content, AreKnown}
use Rattle.mit_tool.specs.Commands.{files_of, IsAnswer, CanGoOn}

-- the files that a command names are told to hold bytes, and with these it can go on to its end
pub record CanBeDone (content : Content) (a : Asked) : Type 0 where
  pub known : AreKnown content (files_of a)
  pub goes : CanGoOn content a

-- What `certify` prints of a program `recheck` takes, from a file that is told to hold it and is not too long.
abbrev pub CertifiedIsTaken : Type 0
CertifiedIsTaken =
    (content : Content) (before now : List ℕ → ℕ) (file certificate t : List ℕ) →
    IsAnswer (λ name. Rose (before name) (now name)) content (certify file) status.Done t →
    IsTold (content certificate) t → length t ≤ limit → CanGoOn content (recheck file certificate)
