use Rattle.std.proofs.Common.{◌∙◌, sym, ap, length}
use Rattle.toml.proofs.Views.{view-Table}
use Rattle.start_file.specs.Tables.{data_of, members_in}
use Rattle.start_file.specs.Values.{memory_of}
use Rattle.start_file.specs.Shared.{filled}
use Rattle.start_file.proofs.Written.{whole_back}
use Rattle.start_file.proofs.Filling.{filled_none}
use Rattle.start_file.proofs.memory.values_over.Goals as goal

pub returns-in_default-clause-values : goal.returns-in_default-clause-values
returns-in_default-clause-values c ms is =
    let ds = c.args.program.now.declarations in
    is ∙ sym (ap (memory_of ds) (filled_none ms)) ∙ ap (λ o. memory_of ds (filled (members_in (data_of o)) ms)) (sym c.in_default.is)

pub put_all-requires-clause-size : goal.put_all-requires-clause-size
put_all-requires-clause-size c = ap length c.deref_mut.ensures.value ∙ c.requires.size

pub returns-then-put_all-clause-values : goal.returns-then-put_all-clause-values
returns-then-put_all-clause-values c ms is =
    rw (c.in-Some.is, c.in-Table.is, view-Table)
    (whole_back c.args.shared.len c.put_all.new.memory c.args.shared.items (c.put_all.auto.memory ∙ c.deref_mut.ensures.len)
    ∙ c.put_all.ensures.written c.if-put_all.true ms (c.deref_mut.ensures.value ∙ is))
