use Rattle.std.proofs.Common.{map}
use Rattle.start_file.specs.Starts.{seen}
use Rattle.lab_leak.specs.Answer.{sequences_in}
use Rattle.lab_leak.specs.Classes.{classes_of_runs}
use Rattle.lab_leak.proofs.Members.{LinesPut}
use Rattle.lab_leak.proofs.lines.write_in.Given as goal

abbrev pub invariant-loop-k : goal.invariant-loop-k
invariant-loop-k g l =
    let q = l.fn.p in
    let classes = classes_of_runs (sequences_in l.fn.setting.env l.fn.setting.budget q l.fn.observer.number (map seen l.fn.starts)) in
    LinesPut q.program.declarations classes.seen classes.firsts l.fn.out.text.items l.k l.out.text.items
