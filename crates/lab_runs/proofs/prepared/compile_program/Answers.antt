use Rattle.std.specs.Prelude.{option_map}
use Rattle.lab_runs.proofs.PreparedLemmas.{image_stops_program}
use Rattle.lab_runs.proofs.prepared.compile_program.Goals as goal

pub returns-in-Err-clause-stop : goal.returns-in-Err-clause-stop
returns-in-Err-clause-stop c =
    image_stops_program (option_map (λ s. s.now) c.args.name) c.args.program c.lattice.result.now c.in_ok-observer.observer
    c.in_ok-typed.typed.labelled c.in-Err.stop
    c.lattice.ensures c.in_ok-observer.ensures.ok c.in_ok-typed.ensures.ok c.in-Err.ensures.stop
