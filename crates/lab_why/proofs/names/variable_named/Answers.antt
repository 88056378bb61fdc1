use Rattle.std.proofs.Common.{◌∙◌, ap, sym, Option}
use Rattle.std.specs.Prelude.{ℕ, option_and_then}
use Rattle.std.proofs.lemmas.Bool.{false≢true}
use Rattle.label_lattice.specs.Names.{IsName}
use Rattle.mit_syntax.specs.declared.declarations.Decl.{Decl}
use Rattle.start_file.proofs.Names.{unnamed}
use Rattle.lab_why.specs.Names.{variable_at}
use Rattle.lab_why.proofs.names.variable_named.Goals as goal

pub returns-in_err-name-clause-value : goal.returns-in_err-name-clause-value
returns-in_err-name-clause-value c =
    let none : IsName c.args.word.now → ⊥ = λ h. false≢true (c.in_err-name.ensures.names.1 (rw c.as_bytes.ensures.value h)) in
    c.from_residual.ensures ∙ sym (ap (λ (z : Option (ℕ × Decl)). option_and_then (λ r. variable_at c.args.p.now r.0) z)
    (unnamed c.args.p.now.declarations c.args.word.now c.laws.ensures.valid.names none))
