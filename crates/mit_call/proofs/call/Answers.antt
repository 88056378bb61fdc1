use Rattle.std.proofs.Common.{◌≡◌, ℕ, List, map, string_bytes, ap, subst}
use Rattle.tim_base.specs.Faults.{Rose}
use Rattle.tim_base.specs.Sinks.{OutTold}
use Rattle.mit_call.specs.Called.{HasEnded}
use Rattle.mit_call.proofs.Ended.{leads_kept, ended}
use Rattle.mit_call.proofs.call.Goals as goal

pub returns : goal.returns
returns g c =
    let content = g.S.Shelf.content c.args.shelf.now in
    let Names : List ℕ → Type 0 = λ name. Rose (g.S.Shelf.faults c.args.shelf.now name) (g.S.Shelf.faults c.obey-status.new.shelf name) in
    let Risen = Rose c.new.result.faults c.obey-status.result.1.faults in
    let words = map string_bytes c.args.words.now in
    let had = g.O.Write.contents c.args.out in
    let old = c.new.result.contents in
    let taken = c.obey-status.result.1.contents in
    let new = g.O.Write.contents c.end-status.result.1 in
    let s = c.obey-status.result.0 in
    let t = c.end-status.result.0 in
    let begun : old ≡ had = ap (λ (x : OutTold). x.contents) c.new.ensures in
    let leads = leads_kept Risen (Unit {0}) old taken new s t c.end-status.ensures.same (λ _. tt) (λ _. tt) c.end-status.ensures.kept in
    let here = ended content Names Risen (Unit {0}) old taken new words s t leads c.obey-status.ensures in
    record { status = t; number = c.number.ensures; ended = subst (λ o. HasEnded content Names (Unit {0}) o new words t) begun here }
