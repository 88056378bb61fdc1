use Rattle.std.proofs.Common.{◌∙◌, ap, arith}
use Rattle.label_lattice.specs.Order.{Order}
use Rattle.timing_types.specs.Labelling.{Labelling, variable_of}
use Rattle.timing_types.specs.Labelled.{labels_of}
use Rattle.type_cert.proofs.Spread.{size_is}
use Rattle.type_cert.proofs.Writing.{room, next_room, next_variable}
use Rattle.type_cert.proofs.certificate.put_variables.Goals as goal

pub loop-k-preserved : goal.loop-k-preserved
loop-k-preserved c =
    let ds = c.declarations-declarations.result.now in
    let size = c.unwrap_or-first.ensures ∙ size_is c.declaration-name.result.1.length in
    record {
      text =
          next_variable c.args.order.now ds (labels_of c.args.q.now) c.loop-k.out.items c.put_variable.new.out.items _ c.loop-k.k c.loop-k.first
          c.unwrap_or-first.result c.declaration-name.result c.variable.result
          c.declaration-name.ensures (c.variable.ensures ∙ ap (λ (z : Labelling). variable_of c.args.order.now z c.loop-k.first) c.labels.ensures
          ∙ ap (λ (z : Order). variable_of z c.args.q.now.labels c.loop-k.first) c.requires) size c.in_ok-put_variable.ensures c.loop-k.invariant.text;
      room = next_room ds c.loop-k.k c.loop-k.first c.unwrap_or-first.result (room ds) c.declaration-name.result c.declaration-name.ensures
          size c.loop-k.invariant.room;
    }

pub overflow_add-first : goal.overflow_add-first
overflow_add-first c =
    let ds = c.declarations-declarations.result.now in
    let size = c.unwrap_or-first.ensures ∙ size_is c.declaration-name.result.1.length in
    let r = next_room ds c.loop-k.k c.loop-k.first c.unwrap_or-first.result (room ds) c.declaration-name.result c.declaration-name.ensures
    size c.loop-k.invariant.room in
    let n = c.len-k-end.ensures.few.count in
    let m = c.len-k-end.ensures.few.elements in
    omega (arith, r, n, m)
