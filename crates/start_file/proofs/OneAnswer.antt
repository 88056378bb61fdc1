-- A file gives one answer.
use Rattle.std.proofs.Common.{◌≡◌, ◌∙◌, refl, sym, ap, ℕ, List, Option, None, Some, Result}
use Rattle.std.proofs.lemmas.Option.{none-some}
use Rattle.toml.specs.Data.{Members}
use Rattle.mit_syntax.specs.Program.{Syntax}
use Rattle.start_file.specs.declared.fault.StartFault.{StartFault}
use Rattle.start_file.specs.Starts.{StartValue, IsDocument, Gives, starts_in}
use Rattle.start_file.specs.Shared.{GivesList, list_in}

same_document : (bytes : List ℕ) (d e : Option Members) → IsDocument bytes d → IsDocument bytes e → d ≡ e
same_document bytes None None g h = refl
same_document bytes None (Some n) g h = absurd (none-some n (sym (g h.0) ∙ h.1))
same_document bytes (Some m) None g h = absurd (none-some m (sym (h g.0) ∙ g.1))
same_document bytes (Some m) (Some n) g h = sym g.1 ∙ h.1

pub one_answer : (p : Syntax) (bytes : List ℕ) (r s : Result (List StartValue) StartFault) → Gives p bytes r → Gives p bytes s → r ≡ s
one_answer p bytes r s g h = g.2 ∙ ap (starts_in p) (same_document bytes g.0 h.0 g.1 h.1) ∙ sym h.2

pub one_list_answer : (p : Syntax) (bytes : List ℕ) (r s : Result (List StartValue) StartFault) → GivesList p bytes r → GivesList p bytes s → r ≡ s
one_list_answer p bytes r s g h = g.2 ∙ ap (list_in p) (same_document bytes g.0 h.0 g.1 h.1) ∙ sym h.2
