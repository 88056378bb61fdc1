use Rattle.space_starts.specs.Space.{lists}
use Rattle.space_file.proofs.Filling.{elements_put}
use Rattle.space_file.proofs.memory.put_elements.Goals as goal

pub returns-clause-put : goal.returns-clause-put
returns-clause-put c =
    elements_put c.args.length c.args.values.now (lists c.args.memory.now.items) (lists c.put_items.new.memory.items)
    (lists c.put_zeros.new.memory.items)
    c.if-values-length.false c.in_ok-put_items.ensures.put c.in_ok-put_zeros.ensures.put
