-- What is told of a program is told of the same program with its labels.
use Rattle.std.proofs.Common.{◌≡◌, ◌∙◌, sym, ap, subst}
use Rattle.mit_syntax.specs.Program.{Syntax}
use Rattle.timing_types.specs.Labelled.{LabelledProgram, HasType}
use Rattle.label_infer.specs.Least.{IsLeast, TypesMost}
use Rattle.tool_texts.specs.declared.stop.Stop.{Stop}
use Rattle.tool_texts.specs.Ends.{IsStop}
use Rattle.tool_stages.specs.Stages.{Types, TypeStops}

pub same_least : (p : Syntax) (q r : LabelledProgram) → q.program ≡ p → r ≡ q → IsLeast p q.labels → IsLeast r.program r.labels
same_least p q r e f h = subst (λ (z : LabelledProgram). IsLeast z.program z.labels) (sym f) (subst (λ (s : Syntax). IsLeast s q.labels) (sym e) h)

pub same_most : (p : Syntax) (q r : LabelledProgram) → q.program ≡ p → r ≡ q → TypesMost p q.labels → TypesMost r.program r.labels
same_most p q r e f h = subst (λ (z : LabelledProgram). TypesMost z.program z.labels) (sym f) (subst (λ (s : Syntax). TypesMost s q.labels) (sym e) h)

pub has_types : (p : Syntax) (q r : LabelledProgram) → q.program ≡ p → r ≡ q → IsLeast p q.labels → HasType q → Types p r
has_types p q r e f h t =
    record {
      program = ap (λ (z : LabelledProgram). z.program) f ∙ e;
      least = subst (λ (z : LabelledProgram). IsLeast p z.labels) (sym f) h;
      typed = subst HasType (sym f) t;
    }

pub same_stop : (p : Syntax) (q r : LabelledProgram) (s : Stop) → q.program ≡ p → r ≡ q → IsStop (TypeStops r.program) s → IsStop (TypeStops p) s
same_stop p q r s e f h = subst (λ (z : Syntax). IsStop (TypeStops z) s) (ap (λ (z : LabelledProgram). z.program) f ∙ e) h
