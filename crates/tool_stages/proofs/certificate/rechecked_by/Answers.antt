use Rattle.std.proofs.Common.{sym, subst}
use Rattle.tim_base.specs.Told.{IsTold}
use Rattle.std.proofs.Common.{refl}
use Rattle.tim_base.specs.Faults.{Rose}
use Rattle.tool_texts.specs.Texts.{certificate}
use Rattle.tool_stages.specs.Stages.{CertificateStops}
use Rattle.tool_stages.proofs.FetchLemmas.{file_stops, fetch_stops, not_read}
use Rattle.std.specs.Prelude.{ℕ, [], ◌∷◌, None, Vec}
use Rattle.std.specs.declared.alloc.Global.{Global}
use Rattle.tool_stages.proofs.certificate.rechecked_by.Goals as goal

pub returns-in-Ok-rechecked-clause-ok : goal.returns-in-Ok-rechecked-clause-ok
returns-in-Ok-rechecked-clause-ok g c =
    let content = g.S.Shelf.content c.args.shelf.now c.args.file.now in
    let read = subst (IsTold content) (sym c.deref.ensures.value) c.in-Ok.ensures.ok in
    c.in-Ok-rechecked.ensures.ok content read

pub returns-in-Err-clause-stop : goal.returns-in-Err-clause-stop
returns-in-Err-clause-stop g c =
    let rises = Rose (g.S.Shelf.faults c.args.shelf.now c.args.file.now) (g.S.Shelf.faults c.bytes_of.new.shelf c.args.file.now) in
    let content = g.S.Shelf.content c.args.shelf.now c.args.file.now in
    file_stops rises content certificate (CertificateStops rises content c.args.p) c.in-Err.stop (λ t h. h) (λ t h. h) (c.in-Err.ensures.stop certificate refl)

pub returns-clause-log : goal.returns-clause-log
returns-clause-log g c =
    fetch_stops (Vec ℕ Global) (Unit {0}) (c.args.file.now ∷ []) (g.S.Shelf.log c.args.shelf.now) (g.S.Shelf.log c.bytes_of.new.shelf)
    c.in-Ok.bytes c.in-Err-rechecked.stop
    (not_read (CertificateStops ⊥ None c.args.p) (λ t h. h.0) c.in-Err-rechecked.stop (c.in-Err-rechecked.ensures.stop None tt)) c.in-Ok.ensures.log
