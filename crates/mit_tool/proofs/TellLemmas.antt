-- What commands tell whose text is made before it is written.
use Rattle.std.proofs.Common.{ℕ, ◌^◌, List, [], length, codes, inl, inr, Option, Some, None}
use Rattle.label_lattice.specs.declared.label.Label.{Label}
use Rattle.mit_syntax.specs.Plan.{count}
use Rattle.mit_syntax.specs.Program.{Syntax, plan_of}
use Rattle.mit_gen.specs.Made.{starts_text}
use Rattle.timing_types.specs.Labelled.{LabelledProgram}
use Rattle.start_file.specs.Starts.{StartValue}
use Rattle.tool_words.specs.declared.words.EnvName.{EnvName}
use Rattle.tool_words.specs.declared.words.EnvName.TheVariants.{Part}
use Rattle.tool_texts.specs.declared.status.Status.{Status}
use Rattle.tool_texts.specs.declared.status.Status.TheVariants.{WriteFault}
use Rattle.tool_texts.specs.Reports.{made_lines}
use Rattle.tool_stages.specs.Stages.{Then, Reads, ProgramStops, Types, TypeStops, Rechecks, CertificateStops}
use Rattle.mit_tool.specs.Audited.{HasAudited, HasCut}
use Rattle.mit_tool.specs.Answers.{HasGenerated, made_content}
use Rattle.tool_stages.proofs.ChainLemmas.{prepares_no_fault}
use Rattle.mit_tool.proofs.PrepareLemmas.{made_next}

-- ---- no answer is a write fault

pub typed_no_fault : (R : Type 0) (c : Option (Option (List ℕ))) (Next : Syntax → LabelledProgram → Status → List ℕ → Type 0) (t : List ℕ)
    → ((p : Syntax) (q : LabelledProgram) → Next p q WriteFault t → ⊥)
    → Then (ProgramStops R c) (Reads c) (λ p. Then (TypeStops p) (Types p) (λ q. Next p q)) WriteFault t → ⊥
typed_no_fault R c Next t f (inl h) = h
typed_no_fault R c Next t f (inr (p, reads, inl h)) = h
typed_no_fault R c Next t f (inr (p, reads, inr (q, types, h))) = f p q h

pub certified_no_fault : (R K : Type 0) (c d : Option (Option (List ℕ))) (Next : Syntax → LabelledProgram → Status → List ℕ → Type 0) (t : List ℕ)
    → ((p : Syntax) (q : LabelledProgram) → Next p q WriteFault t → ⊥)
    → Then (ProgramStops R c) (Reads c) (λ p. Then (CertificateStops K d p) (Rechecks d p) (λ q. Next p q)) WriteFault t → ⊥
certified_no_fault R K c d Next t f (inl h) = h
certified_no_fault R K c d Next t f (inr (p, reads, inl h)) = h
certified_no_fault R K c d Next t f (inr (p, reads, inr (q, rechecks, h))) = f p q h

pub audited_no_fault : (e : EnvName) (n : ℕ) (q : LabelledProgram) (o : Option Label) (ss : List StartValue) (before t : List ℕ)
    → HasAudited e n q o ss before WriteFault t → ⊥
audited_no_fault e n q None ss before t h = h
audited_no_fault e n q (Some l) ss before t (inl h) = h
audited_no_fault e n q (Some l) ss before t (inr (r, is, h)) = cc (h.0)

pub cut_no_fault_in : (e : EnvName) (n : ℕ) (q : LabelledProgram) (o : Option Label) (ss : List StartValue) (t : List ℕ) → HasCut e n q o ss WriteFault t → ⊥
cut_no_fault_in e n q None ss t h = h
cut_no_fault_in e n q (Some l) ss t (inl h) = h
cut_no_fault_in e n q (Some l) ss t (inr (r, is, h)) = cc (h.0)

pub made_no_fault : (size number : ℕ) (t : List ℕ) → HasGenerated size number WriteFault t → ⊥
made_no_fault size number t =
    prepares_no_fault (λ name. ⊥) (made_content size number) [] (codes "L") ⊥ (Some (Some starts_text)) (made_next size number) t
    (λ p q o code ss. audited_no_fault Part (2 ^ 40) q o ss (made_lines size number (count (plan_of p)) (length code.instrs)) t)
