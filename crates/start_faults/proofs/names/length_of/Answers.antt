use Rattle.std.proofs.Common.{◌∙◌, sym, ap}
use Rattle.std.specs.Prelude.{option_map}
use Rattle.std.proofs.lemmas.Bool.{false≢true}
use Rattle.label_lattice.specs.Names.{IsName}
use Rattle.start_file.specs.declared.slot.Slot.{Slot}
use Rattle.start_file.proofs.Names.{unnamed_slot}
use Rattle.start_faults.proofs.names.length_of.Goals as goal

pub returns-in_err-name : goal.returns-in_err-name
returns-in_err-name c =
    let none : IsName c.args.key.now → ⊥ = λ h. false≢true (c.in_err-name.ensures.names.1 (rw c.as_bytes.ensures.value h)) in
    c.from_residual.ensures ∙ sym (ap (option_map (λ (s : Slot). s.length)) (unnamed_slot c.args.program.now.declarations c.args.key.now c.requires.names none))
