use Rattle.std.proofs.Common.{rules, ◌+◌, ◌∙◌, ap, refl}
use Rattle.type_cert.proofs.Placing.{pushed}
use Rattle.type_cert.proofs.Loop.{first_begins, wrong_first, wrong_variable, next_variable}
use Rattle.type_cert.proofs.recheck.read_variables.Goals as goal

pub returns-in_default-clause-fault : goal.returns-in_default-clause-fault
returns-in_default-clause-fault c = wrong_first c.args.p.now c.laws-2.ensures.valid c.args.bytes.now c.in_default.ensures

pub loop-k-init : goal.loop-k-init
loop-k-init c = record {
  begins = first_begins c.args.p.now c.laws-2.ensures.valid c.args.bytes.now c.new-found.result.items c.in-Some.rest.now
      c.new-found.ensures.items c.in-Some.ensures;
  count = search rules;
}

pub returns-in_default-right_variable-clause-fault : goal.returns-in_default-right_variable-clause-fault
returns-in_default-right_variable-clause-fault c =
    wrong_variable c.args.p.now c.laws-2.ensures.valid c.args.bytes.now c.lattice-order.result.now c.lattice-order.ensures
    c.declarations-declarations.result.now
    c.declarations-declarations.ensures
    c.loop-k.k c.loop-k.found.items c.loop-k.invariant.count c.declaration-name.result c.declaration-name.ensures c.loop-k.rest.now c.loop-k.invariant.begins
    (c.loop-k.k + 2) refl c.in_default-right_variable.ensures

pub loop-k-preserved : goal.loop-k-preserved
loop-k-preserved c =
    record {
      begins =
          next_variable c.args.p.now c.laws-2.ensures.valid c.args.bytes.now c.lattice-order.result.now c.lattice-order.ensures
          c.declarations-declarations.result.now c.declarations-declarations.ensures
          c.loop-k.k c.loop-k.found.items c.loop-k.invariant.count c.declaration-name.result c.declaration-name.ensures
          c.loop-k.rest.now c.loop-k.invariant.begins
          c.in-Some-right_variable.label c.in-Some-right_variable.next.now c.push.new.self.items c.in_ok-push.ensures.items c.in-Some-right_variable.ensures.0
          c.in-Some-right_variable.ensures.1;
      count = pushed c.loop-k.found.items c.push.new.self.items _ c.in_ok-push.ensures.items ∙ ap (λ z. z + 1) c.loop-k.invariant.count;
    }
