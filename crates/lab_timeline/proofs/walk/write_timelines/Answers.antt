use Rattle.std.proofs.Common.{◌≡◌, map, inr, ap, ◌∙◌, subst}
use Rattle.std.specs.Io.KnownBytes.{Appends}
use Rattle.tim_base.specs.Sinks.{AppendsPrefix}
use Rattle.mit_syntax.specs.Program.{plan_of}
use Rattle.start_file.specs.Starts.{seen}
use Rattle.run_timeline.specs.Places.{places}
use Rattle.run_timeline.specs.Summary.{summary_text}
use Rattle.lab_runs.specs.ShownViews.{shown_of}
use Rattle.lab_timeline.proofs.Walking.{none_written, all_written, all_broken}
use Rattle.lab_timeline.proofs.walk.write_timelines.Goals as goal

pub returns-in_default-clause-some : goal.returns-in_default-clause-some
returns-in_default-clause-some g c = λ e.
    none_written c.args.setting.env c.args.setting.budget (shown_of c.args.p.now.program.labels).labelled c.args.p.now.program.observer
    c.args.p.now.program.image (map seen c.args.p.now.starts.items) (g.W.Sink.taken c.args.out.now)

pub returns-in-Ok-print_summary-clause-text : goal.returns-in-Ok-print_summary-clause-text
returns-in-Ok-print_summary-clause-text g c =
    let q = (shown_of c.args.p.now.program.labels).labelled in
    let listing = c.write_named.new.listing in
    let program = c.program-program.ensures.program ∙ ap (λ l. l.program) c.labelled.ensures in
    let at : listing.places.items ≡ places (plan_of q.program) =
    ap (λ z. z.items) c.write_named.ensures.places ∙ (c.in-Ok.ensures.places ∙ ap (λ p. places (plan_of p)) program) in
    all_written c.args.setting.env c.args.setting.budget q c.args.p.now.program.observer c.args.p.now.program.image (map seen c.args.p.now.starts.items)
    (g.W.Sink.taken c.args.out.now) (g.W.Sink.taken c.write_named.new.out) (g.W.Sink.taken c.print_summary.new.out) listing.tallies.items
    c.in-Ok-write_named.ensures.text c.write_named.ensures.count
    (subst (λ z. Appends (g.W.Sink.taken c.write_named.new.out) (g.W.Sink.taken c.print_summary.new.out) (summary_text z listing.tallies.items)) at
    c.in-Ok-print_summary.ensures.text)

pub returns-clause-prefix : goal.returns-clause-prefix
returns-clause-prefix g c = λ e.
    let q = (shown_of c.args.p.now.program.labels).labelled in
    let listing = c.write_named.new.listing in
    let program = c.program-program.ensures.program ∙ ap (λ l. l.program) c.labelled.ensures in
    let at : listing.places.items ≡ places (plan_of q.program) =
    ap (λ z. z.items) c.write_named.ensures.places ∙ (c.in-Ok.ensures.places ∙ ap (λ p. places (plan_of p)) program) in
    inr (all_broken c.args.setting.env c.args.setting.budget q c.args.p.now.program.observer c.args.p.now.program.image (map seen c.args.p.now.starts.items)
    (g.W.Sink.taken c.args.out.now) (g.W.Sink.taken c.write_named.new.out) (g.W.Sink.taken c.print_summary.new.out) listing.tallies.items
    c.in-Ok-write_named.ensures.text c.write_named.ensures.count
    (subst (λ z. AppendsPrefix (g.W.Sink.taken c.write_named.new.out) (g.W.Sink.taken c.print_summary.new.out) (summary_text z listing.tallies.items)) at
    c.in-Err-print_summary.ensures.prefix))
