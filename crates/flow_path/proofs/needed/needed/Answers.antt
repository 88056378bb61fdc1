use Rattle.std.proofs.Common.{rules, ◌≡◌, ◌∙◌, ap, sym, subst, length, ◌++◌}
use Rattle.std.specs.Prelude.{true, false, option_to_list}
use Rattle.std.proofs.lemmas.Bool.{both_ways}
use Rattle.label_lattice.specs.Order.{lattice_of}
use Rattle.flow_path.specs.Origins.{joined}
use Rattle.flow_path.specs.Collecting.{IsSifted}
use Rattle.flow_path.proofs.Joins.{insert_first, empty_is, sift_begins, sift_ends, sift_drops, sift_keeps}
use Rattle.flow_path.proofs.needed.needed.Goals as goal

pub loop-origin-init : goal.loop-origin-init
loop-origin-init c =
    let lat = lattice_of c.args.lattice.now in
    record {
      sifted = subst (λ z. IsSifted (lattice_of c.args.lattice.now) c.args.told.items c.args.told.items z) (sym c.new-kept.ensures.items)
          (sift_begins lat c.laws.ensures.lattice c.args.told.items);
    }

pub loop-origin-preserved-in-Continue-1 : goal.loop-origin-preserved-in-Continue-1
loop-origin-preserved-in-Continue-1 c =
    let lat = lattice_of c.args.lattice.now in
    let w = c.in-Some.origin in
    let less = c.pop.new.self.items in
    let kept = c.loop-origin.kept.items in
    let is = c.pop.ensures.items ∙ ap (λ z. c.pop.new.self.items ++ option_to_list z) c.in-Some.is in
    let others =
    c.join-others.ensures.value
    ∙ ap (λ z. lat.join z c.join_of-in-Some.result.number) (c.join_of.ensures ∙ ap (λ z. joined lat z) c.deref.ensures.value)
    ∙ ap (λ z. lat.join (joined lat less) z) (c.join_of-in-Some.ensures ∙ ap (λ z. joined lat z) c.deref-in-Some.ensures.value) in
    let flows = c.flows.ensures ∙ ap (λ z. lat.flows w.label.number z) others in
    let no : c.flows.result ≡ false = search rules in
    let here = sift_keeps lat c.laws.ensures.lattice c.args.told.items c.loop-origin.left.items less kept w is c.loop-origin.invariant.sifted
    (λ g. both_ways (lat.flows w.label.number (lat.join (joined lat less) (joined lat kept))) (sym flows ∙ no) g) in
    record {
      sifted = subst (λ z. IsSifted (lattice_of c.args.lattice.now) c.args.told.items c.pop.new.self.items z)
          (sym (c.in_ok-insert.ensures.items ∙ insert_first kept w)) here;
    }

pub loop-origin-preserved : goal.loop-origin-preserved
loop-origin-preserved c =
    let lat = lattice_of c.args.lattice.now in
    let w = c.in-Some.origin in
    let less = c.pop.new.self.items in
    let kept = c.loop-origin.kept.items in
    let is = c.pop.ensures.items ∙ ap (λ z. c.pop.new.self.items ++ option_to_list z) c.in-Some.is in
    let others =
    c.join-others.ensures.value
    ∙ ap (λ z. lat.join z c.join_of-in-Some.result.number) (c.join_of.ensures ∙ ap (λ z. joined lat z) c.deref.ensures.value)
    ∙ ap (λ z. lat.join (joined lat less) z) (c.join_of-in-Some.ensures ∙ ap (λ z. joined lat z) c.deref-in-Some.ensures.value) in
    let flows = c.flows.ensures ∙ ap (λ z. lat.flows w.label.number z) others in
    let yes : c.flows.result ≡ true = search rules in
    record {
      sifted = sift_drops lat c.laws.ensures.lattice c.args.told.items c.loop-origin.left.items less kept w is
          c.loop-origin.invariant.sifted (sym flows ∙ yes);
    }

pub returns-clause-needed : goal.returns-clause-needed
returns-clause-needed c =
    let lat = lattice_of c.args.lattice.now in
    let none : length c.loop-origin.left.items ≡ 0 = search rules in
    let S = subst (λ z. IsSifted (lattice_of c.args.lattice.now) c.args.told.items z c.loop-origin.kept.items) (empty_is c.loop-origin.left.items none)
    c.loop-origin.invariant.sifted in
    (sift_ends lat c.laws.ensures.lattice c.args.told.items c.loop-origin.kept.items S).0

pub returns-clause-join : goal.returns-clause-join
returns-clause-join c =
    let lat = lattice_of c.args.lattice.now in
    let none : length c.loop-origin.left.items ≡ 0 = search rules in
    let S = subst (λ z. IsSifted (lattice_of c.args.lattice.now) c.args.told.items z c.loop-origin.kept.items) (empty_is c.loop-origin.left.items none)
    c.loop-origin.invariant.sifted in
    (sift_ends lat c.laws.ensures.lattice c.args.told.items c.loop-origin.kept.items S).1

pub returns-clause-among : goal.returns-clause-among
returns-clause-among c =
    let lat = lattice_of c.args.lattice.now in
    let none : length c.loop-origin.left.items ≡ 0 = search rules in
    let S = subst (λ z. IsSifted (lattice_of c.args.lattice.now) c.args.told.items z c.loop-origin.kept.items) (empty_is c.loop-origin.left.items none)
    c.loop-origin.invariant.sifted in
    (sift_ends lat c.laws.ensures.lattice c.args.told.items c.loop-origin.kept.items S).2

pub returns-clause-is : goal.returns-clause-is
returns-clause-is c =
    let lat = lattice_of c.args.lattice.now in
    let none : length c.loop-origin.left.items ≡ 0 = search rules in
    let S = subst (λ z. IsSifted (lattice_of c.args.lattice.now) c.args.told.items z c.loop-origin.kept.items) (empty_is c.loop-origin.left.items none)
    c.loop-origin.invariant.sifted in
    (sift_ends lat c.laws.ensures.lattice c.args.told.items c.loop-origin.kept.items S).3
