use Rattle.std.proofs.Common.{inr, refl}
use Rattle.std.specs.Prelude.{List, Option, Result, Ok, Err, OnOk, OnErr, [], ◌∷◌}
use Rattle.tim_base.specs.Logs.{Offered, HasSent, HasBroken}
use Rattle.mit_syntax.specs.Declarations.{Declaration}
use Rattle.cycle_machine.specs.declared.end.RunEnd.{RunEnd}
use Rattle.cycle_machine.specs.declared.end.RunEnd.TheVariants.{Halted, Limit}
use Rattle.event_print.specs.Text.{last_line}
use Rattle.event_print.specs.Pieces.{SendsLines, BreaksLines}
use Rattle.event_print.proofs.Pieced.{one_line, one_breaks}
use Rattle.event_print.proofs.print.print_turn.Goals as goal

sends : {T E : Type 0} (r : Result T E) (ds : List Declaration) (a b : Option (List Offered)) (end : RunEnd)
    → OnOk r (HasSent a b (last_line end ∷ [])) → OnOk r (SendsLines ds a b)
sends (Ok x) ds a b end h = one_line ds a b (last_line end) (inr (end, refl)) h
sends (Err e) ds a b end h = tt

breaks : {T E : Type 0} (r : Result T E) (ds : List Declaration) (a b : Option (List Offered)) (end : RunEnd) → OnErr r (HasBroken a b (last_line end ∷ []))
    → OnErr r (BreaksLines ds a b)
breaks (Ok x) ds a b end h = tt
breaks (Err e) ds a b end h = one_breaks ds a b (last_line end) (inr (end, refl)) h

pub returns-in-Halted-clause-sent : goal.returns-in-Halted-clause-sent
returns-in-Halted-clause-sent g c = sends c.print_end.result c.args.p.now.declarations _ _ (Halted c.in-Halted.cycle) c.print_end.ensures.sent

pub returns-in-Halted-clause-broken : goal.returns-in-Halted-clause-broken
returns-in-Halted-clause-broken g c = breaks c.print_end.result c.args.p.now.declarations _ _ (Halted c.in-Halted.cycle) c.print_end.ensures.broken

pub returns-in-Limit-clause-sent : goal.returns-in-Limit-clause-sent
returns-in-Limit-clause-sent g c = sends c.print_end-in-Limit.result c.args.p.now.declarations _ _ (Limit c.in-Limit.cycle) c.print_end-in-Limit.ensures.sent

pub returns-in-Limit-clause-broken : goal.returns-in-Limit-clause-broken
returns-in-Limit-clause-broken g c =
    breaks c.print_end-in-Limit.result c.args.p.now.declarations _ _ (Limit c.in-Limit.cycle) c.print_end-in-Limit.ensures.broken
