use Rattle.std.proofs.Common.{rules, refl}
use Rattle.entry_run.proofs.work.close_at_once.Goals as goal

pub returns : goal.returns
returns g c =
    record {
      place = refl;
      operands = refl;
      memory = refl;
      env = c.fetch-fetched.ensures.next;
      clock = search (rules, c.fetch-fetched.ensures.cost, (c.in-Some.ensures).0);
      within = (c.in-Some.ensures).1;
      opened = (c.in-Some-pop.field-0, (c.in-Some-pop.ensures).items);
      room = search rules;
      lattices = c.fetch-fetched.ensures.serves;
    }
