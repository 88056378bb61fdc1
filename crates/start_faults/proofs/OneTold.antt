-- One text is told of a fault.
use Rattle.std.proofs.Common.{◌≡◌, ◌∙◌, refl, sym, ap, ℕ, List, Option, None, Some}
use Rattle.std.proofs.lemmas.Option.{none-some}
use Rattle.toml.specs.Data.{Members}
use Rattle.mit_syntax.specs.Program.{Syntax}
use Rattle.start_file.specs.declared.fault.StartFault.{StartFault}
use Rattle.start_file.specs.Starts.{IsDocument}
use Rattle.start_faults.specs.Told.{document_lines, TellsStarts}

same_document : (bytes : List ℕ) (d e : Option Members) → IsDocument bytes d → IsDocument bytes e → d ≡ e
same_document bytes None None g h = refl
same_document bytes None (Some n) g h = absurd (none-some n (sym (g h.0) ∙ h.1))
same_document bytes (Some m) None g h = absurd (none-some m (sym (h g.0) ∙ g.1))
same_document bytes (Some m) (Some n) g h = sym g.1 ∙ h.1

pub one_text : (p : Syntax) (bytes : List ℕ) (f : StartFault) (t x : List ℕ) → TellsStarts p bytes f t → TellsStarts p bytes f x → t ≡ x
one_text p bytes f t x h k =
    h.2 ∙ ap (λ (d : Option Members). document_lines p d f) (same_document bytes h.0 k.0 h.1 k.1) ∙ sym k.2
