use Rattle.std.proofs.Common.{rules, ap, Some, map, string_bytes}
use Rattle.mit_web.specs.declared.call.Program.{Program}
use Rattle.mit_web.specs.declared.call.Program.TheVariants as Program
use Rattle.tim_base.specs.Shelves.{bytes_at, faults_at}
use Rattle.mit_web.proofs.Told.{answer_of}
use Rattle.mit_web.proofs.call.ask_tool.Goals as goal

pub returns-clause-answer : goal.returns-clause-answer
returns-clause-answer c held h =
    let asked = c.mitigate_main-status in
    answer_of Program.Tool (map string_bytes c.args.words.now) held (λ name. Some (bytes_at c.args.shelf.now name))
    (λ name. faults_at c.args.shelf.now name) (λ name. faults_at asked.new.shelf name) asked.result c.in-Ok.sink asked.new.out c.args.room
    c.in-Ok.ensures (λ name. ap Some (h name)) (asked.ensures.answered, asked.ensures.usage) c.from.result (search rules)
