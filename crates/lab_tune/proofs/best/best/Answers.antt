use Rattle.lab_tune.proofs.Named.{place_here, place_there}
use Rattle.lab_tune.proofs.best.best.Goals as goal

pub returns-in_default-clause-stop : goal.returns-in_default-clause-stop
returns-in_default-clause-stop c =
    let p = c.args.p.now in (
      λ h. c.in_default.ensures h.0 (place_here p.compiled.typed.labelled p.compiled.image c.args.mark h.0 c.requires.fit.image h.1),
      c.no_number.ensures,
    )

pub returns-in-Err-TooLong-clause-stop : goal.returns-in-Err-TooLong-clause-stop
returns-in-Err-TooLong-clause-stop c =
    let p = c.args.p.now in
    let there = place_there p.compiled.typed.labelled p.compiled.image c.args.mark c.in-Some.place c.requires.fit.image c.in-Some.ensures in
    ((c.in-Some.place, there), c.in-Err-TooLong.ensures.fault c.in-Err-TooLong.field-0-is c.args.mark there, c.too_late.ensures)
