use Rattle.std.proofs.Common.{◌≡◌, ◌+◌, ◌++◌, ◌∷◌, ◌<◌, ◌≤◌, Ok, true, false, [], length, OnOk, OnErr, subst}
use Rattle.std.specs.Io.BufRead.{ends_with_byte}
use Rattle.tim_base.specs.Logs.{HasSent, HasBroken}
use Rattle.line_batch.specs.Batches.{Held, front_of}
use Rattle.line_batch.proofs.BatchLemmas.{held_over, same_held}
use Rattle.line_batch.proofs.BatchSink.write.Goals as goal

pub returns-clause-begun : goal.returns-clause-begun
returns-clause-begun g c =
    let piece = c.args.piece.now in
    let out = c.put.new.out in
    let new = held_over g.W.Sink.taken g.W.Sink.log g.W.Sink.faults out c.put.new.lines.items c.put.new.begun.items c.self.inside.room in
    subst (λ (h : Held). ends_with_byte 10 (front_of h.room piece) ≡ false → length h.begun + length (front_of h.room piece) ≤ h.room
    → (c.put.result ≡ Ok (length (front_of h.room piece))) × (new ≡ record h { begun = h.begun ++ (front_of h.room piece) })) c.self.view_is
    (λ e f. let p = c.put.ensures.begun e f in (p.0, same_held g.W.Sink.taken g.W.Sink.log g.W.Sink.faults out _ _ _ _ _ c.self.inside.room p.1 p.2 p.3))

pub returns-clause-line : goal.returns-clause-line
returns-clause-line g c =
    let piece = c.args.piece.now in
    let out = c.put.new.out in
    let new = held_over g.W.Sink.taken g.W.Sink.log g.W.Sink.faults out c.put.new.lines.items c.put.new.begun.items c.self.inside.room in
    subst (λ (h : Held). ends_with_byte 10 (front_of h.room piece) ≡ true → length h.lines + (length h.begun + length (front_of h.room piece)) ≤ h.room
    → (c.put.result ≡ Ok (length (front_of h.room piece)))
    × (new ≡ record h { lines = h.lines ++ h.begun ++ (front_of h.room piece); begun = [] })) c.self.view_is
    (λ e f. let p = c.put.ensures.line e f in (p.0, same_held g.W.Sink.taken g.W.Sink.log g.W.Sink.faults out _ _ _ _ _ c.self.inside.room p.1 p.2 p.3))

pub returns-clause-full : goal.returns-clause-full
returns-clause-full g c =
    let piece = c.args.piece.now in
    subst (λ (h : Held). ends_with_byte 10 (front_of h.room piece) ≡ true → h.room < length h.lines + (length h.begun + length (front_of h.room piece))
    → length h.begun + length (front_of h.room piece) ≤ h.room
    → OnOk c.put.result (HasSent h.log (g.W.Sink.log c.put.new.out) (h.lines ∷ [])
    × (c.put.new.lines.items ≡ h.begun ++ (front_of h.room piece)) × (c.put.new.begun.items ≡ []))
    × OnErr c.put.result (HasBroken h.log (g.W.Sink.log c.put.new.out) (h.lines ∷ []) × (c.put.new.begun.items ≡ h.begun)))
    c.self.view_is c.put.ensures.full
