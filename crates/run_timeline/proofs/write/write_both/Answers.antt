use Rattle.std.proofs.Common.{◌++◌, ap, append-nil}
use Rattle.std.specs.Prelude.{Result, Ok, Err, OnErr, []}
use Rattle.event_print.proofs.Printed.{prefix_then}
use Rattle.run_timeline.proofs.write.write_both.Goals as goal

on_err : {T E : Type 0} (r : Result T E) (P : Type 0) → P → OnErr r P
on_err (Ok x) P h = tt
on_err (Err e) P h = h

pub returns-in_err-write_all-2-clause-prefix : goal.returns-in_err-write_all-2-clause-prefix
returns-in_err-write_all-2-clause-prefix g c =
    on_err _ _ (prefix_then (g.W.Sink.taken c.args.out.now) (g.W.Sink.taken c.write_all.new.out) (g.W.Sink.taken c.write_all-2.new.out) c.args.one.now
    c.args.two.now [] (c.args.one.now ++ c.args.two.now)
    c.in_ok-write_all.ensures.ok c.in_err-write_all-2.ensures.prefix (ap (λ z. c.args.one.now ++ z) (append-nil c.args.two.now)))
