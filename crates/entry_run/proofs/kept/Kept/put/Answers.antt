use Rattle.std.proofs.Common.{ap, arith, inl, inr}
use Rattle.run_entries.specs.Entries.{what_of}
use Rattle.entry_run.proofs.Keeping.{waits, waits_closed, keeps_plain, keeps_opens}
use Rattle.entry_run.proofs.Counting.{waits_told, keeps_told, opens_told}
use Rattle.entry_run.proofs.kept.Kept.put.Goals as goal

pub returns-in-Nothing : goal.returns-in-Nothing
returns-in-Nothing c =
    record {
      step = waits c.args.self.now c.wait.new.self c.args.cost c.args.deed c.wait.ensures.waiting c.wait.ensures.entries
          (inl (ap what_of c.in-Nothing.is, c.wait.ensures.pushed));
      counts = waits_told c.args.self.now c.wait.new.self c.args.cost c.args.deed c.wait.ensures.entries (inl (ap what_of c.in-Nothing.is));
      closed = waits_closed c.args.self.now c.wait.new.self c.requires.closed c.wait.ensures.entries;
      waiting = omega (arith, c.wait.ensures.waiting);
    }

pub returns-in-Pushed : goal.returns-in-Pushed
returns-in-Pushed c =
    record {
      step = waits c.args.self.now c.wait-in-Pushed.new.self c.args.cost c.args.deed c.wait-in-Pushed.ensures.waiting c.wait-in-Pushed.ensures.entries
          (inr (c.in-Pushed.place, ap what_of c.in-Pushed.is, c.wait-in-Pushed.ensures.pushed));
      counts = waits_told c.args.self.now c.wait-in-Pushed.new.self c.args.cost c.args.deed c.wait-in-Pushed.ensures.entries
          (inr (c.in-Pushed.place, ap what_of c.in-Pushed.is));
      closed = waits_closed c.args.self.now c.wait-in-Pushed.new.self c.requires.closed c.wait-in-Pushed.ensures.entries;
      waiting = omega (arith, c.wait-in-Pushed.ensures.waiting);
    }

pub returns-in_ok-keep-in-Assigned : goal.returns-in_ok-keep-in-Assigned
returns-in_ok-keep-in-Assigned c =
    let k = keeps_plain c.args.self.now c.keep.new.self c.args.cost c.args.deed c.requires.closed (inl (_, _, ap what_of c.in-Assigned.is))
    c.in_ok-keep-in-Assigned.ensures.entries c.in_ok-keep-in-Assigned.ensures.waiting c.in_ok-keep-in-Assigned.ensures.pushed in
    let told = keeps_told c.args.self.now c.keep.new.self c.args.cost c.args.deed c.in_ok-keep-in-Assigned.ensures.entries in
    record { step = k.0; counts = told; closed = k.1; waiting = omega (arith, c.in_ok-keep-in-Assigned.ensures.waiting) }

pub returns-in_ok-keep-in-Closes : goal.returns-in_ok-keep-in-Closes
returns-in_ok-keep-in-Closes c =
    let k = keeps_plain c.args.self.now c.keep-in-Closes.new.self c.args.cost c.args.deed c.requires.closed (inr (ap what_of c.in-Closes.is))
    c.in_ok-keep-in-Closes.ensures.entries c.in_ok-keep-in-Closes.ensures.waiting c.in_ok-keep-in-Closes.ensures.pushed in
    let told = keeps_told c.args.self.now c.keep-in-Closes.new.self c.args.cost c.args.deed c.in_ok-keep-in-Closes.ensures.entries in
    record { step = k.0; counts = told; closed = k.1; waiting = omega (arith, c.in_ok-keep-in-Closes.ensures.waiting) }

pub returns-in_ok-keep-in-Opens : goal.returns-in_ok-keep-in-Opens
returns-in_ok-keep-in-Opens c =
    let k = keeps_opens c.args.self.now c.keep_pushed.new.self c.keep-in-Opens.new.self c.args.cost c.args.deed _ c.requires.closed c.in-Opens.is
    c.in_ok-keep_pushed-in-Opens.ensures.entries c.in_ok-keep_pushed-in-Opens.ensures.waiting
    c.in_ok-keep-in-Opens.ensures.entries c.in_ok-keep-in-Opens.ensures.waiting c.in_ok-keep-in-Opens.ensures.pushed in
    let told = opens_told c.args.self.now c.keep_pushed.new.self c.keep-in-Opens.new.self c.args.cost _ c.args.deed _ c.in-Opens.is
    c.in_ok-keep_pushed-in-Opens.ensures.entries c.in_ok-keep-in-Opens.ensures.entries in
    record { step = k.0; counts = told; closed = k.1; waiting = omega (arith, c.in_ok-keep-in-Opens.ensures.waiting) }
