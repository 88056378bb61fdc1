use Rattle.std.proofs.Common.{sym, ap}
use Rattle.std.specs.Prelude.{is_some}
use Rattle.std.proofs.lemmas.Bool.{false≢true}
use Rattle.label_lattice.specs.Names.{IsName}
use Rattle.start_file.proofs.Names.{unnamed}
use Rattle.space_file.proofs.keys.is_declared.Goals as goal

pub returns-in-None : goal.returns-in-None
returns-in-None c =
    let none : IsName c.args.key.now → ⊥ = λ h. false≢true (c.in-None.ensures.names.1 (rw c.as_bytes.ensures.value h)) in
    sym (ap is_some (unnamed c.args.program.now.declarations c.args.key.now c.requires.names none))
