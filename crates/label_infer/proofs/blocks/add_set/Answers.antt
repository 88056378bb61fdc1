use Rattle.std.proofs.Common.{◌≡◌, ◌/◌, ◌<◌, refl, length, rules}
use Rattle.std.proofs.lemmas.Option.{slice_get_read}
use Rattle.label_infer.specs.declared.row.Row.{Row}
use Rattle.label_infer.specs.Sets.{has_of}
use Rattle.label_infer.proofs.Blocking.{union_grows, union_here, push_here}
use Rattle.label_infer.proofs.blocks.add_set.Goals as goal

pub returns-clause-grow : goal.returns-clause-grow
returns-clause-grow c =
    let rows = c.args.rows.now.items in
    let i = c.args.i / 64 in
    let r : Row = c.index_mut.result.now in
    let within : i < length rows = search rules in
    union_grows rows i r c.add_to-2.new.row (has_of c.args.set.now) (slice_get_read rows (length rows) i r refl within c.index_mut.ensures.value)
    c.add_to-2.ensures

pub returns-clause-here : goal.returns-clause-here
returns-clause-here c q e =
    let rows = c.args.rows.now.items in
    let i = c.args.i / 64 in
    let r : Row = c.index_mut.result.now in
    let within : i < length rows = search rules in
    union_here rows i r c.add_to-2.new.row q (has_of c.args.set.now) (slice_get_read rows (length rows) i r refl within c.index_mut.ensures.value)
    c.add_to-2.ensures e

pub returns-then-block-len-clause-here : goal.returns-then-block-len-clause-here
returns-then-block-len-clause-here c q e =
    let rows = c.args.rows.now.items in
    let last : c.args.i / 64 ≡ length rows = search rules in
    push_here rows c.push.new.self.items (c.args.i / 64) c.in_ok-row.row c.add_to.new.row q (has_of c.args.set.now) c.in_ok-push.ensures.items last
    c.add_to.ensures e
