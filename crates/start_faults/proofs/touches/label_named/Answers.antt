use Rattle.std.proofs.Common.{◌∙◌, sym}
use Rattle.std.proofs.lemmas.Bool.{false≢true}
use Rattle.label_lattice.specs.Names.{IsName}
use Rattle.start_file.proofs.Names.{label_found, label_unnamed}
use Rattle.start_faults.proofs.touches.label_named.Goals as goal

pub returns-in_err-name : goal.returns-in_err-name
returns-in_err-name c =
    let none : IsName c.args.word.now → ⊥ = λ h. false≢true (c.in_err-name.ensures.names.1 (rw c.as_bytes.ensures.value h)) in
    c.from_residual.ensures ∙ sym (label_unnamed c.args.lattice.now c.laws.ensures.order c.args.word.now none)

pub returns : goal.returns
returns c = label_found c.args.lattice.now c.laws.ensures.order c.args.word.now c.in_ok-name.name c.find.result (c.in_ok-name.ensures.text
    ∙ c.as_bytes.ensures.value) c.find.ensures
