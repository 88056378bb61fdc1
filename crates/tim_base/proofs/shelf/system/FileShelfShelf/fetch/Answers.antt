use Rattle.std.proofs.Common.{◌≤◌, ◌-◌, ◌^◌, ap, arith}
use Rattle.tim_base.specs.Failures.{Failures}
use Rattle.tim_base.proofs.FailureLemmas.{counts_later, count_rises}
use Rattle.tim_base.proofs.shelf.system.FileShelfShelf.fetch.Goals as goal

pub returns-in-Err-read-clause-later : goal.returns-in-Err-read-clause-later
returns-in-Err-read-clause-later g c =
    let lost = ap (λ (f : Failures). f.lost) c.self.view_is in
    let few : c.self.inside.lost ≤ 2 ^ 64 - 1 = c.self.invariant in
    counts_later c.args.self.now c.count.new.self c.args.name.now (omega (arith, lost, few)) c.count.ensures

pub returns-in-Err-read-clause-failed : goal.returns-in-Err-read-clause-failed
returns-in-Err-read-clause-failed g c = λ h. count_rises c.args.self.now c.count.new.self c.args.name.now c.count.ensures
