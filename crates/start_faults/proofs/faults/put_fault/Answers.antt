use Rattle.std.proofs.Common.{◌∙◌, ◌++◌, Option, ap, codes}
use Rattle.toml.specs.Data.{Data}
use Rattle.start_faults.specs.Found.{place_lines}
use Rattle.start_faults.proofs.faults.put_fault.Goals as goal

pub returns-in_ok-put_place-in-NoRuns : goal.returns-in_ok-put_place-in-NoRuns
returns-in_ok-put_place-in-NoRuns c =
    rw c.in-NoRuns.is (c.in_ok-put_place-in-NoRuns.ensures
    ∙ ap (λ (d : Option Data). c.args.out.now.items ++ place_lines (codes "run") d (codes "[[run]]")) c.at.ensures)
