use Rattle.std.proofs.Common.{rules, ◌∙◌, sym, ap, subst}
use Rattle.std.proofs.lemmas.List.Sorted.{answers_always}
use Rattle.space_starts.specs.Space.{apart}
use Rattle.space_starts.proofs.Meeting.{Rising, sorted, short_apart, moved_apart}
use Rattle.space_starts.proofs.apart.are_apart.Goals as goal

pub returns-then-intervals-lt2 : goal.returns-then-intervals-lt2
returns-then-intervals-lt2 c = sym (short_apart c.args.intervals.now c.if-intervals-lt2.true)

pub neighbours_apart-requires : goal.neighbours_apart-requires
neighbours_apart-requires c =
    subst Rising (sym c.deref.ensures.value)
    (sorted c.sort_unstable_by_key.new.self.items
    (c.sort_unstable_by_key.ensures.sorted (λ i. i.first) (answers_always _ _ _ (λ f a r g h. search rules))))

pub returns : goal.returns
returns c =
    c.neighbours_apart.ensures ∙ ap apart c.deref.ensures.value
    ∙ moved_apart c.in_ok-sorted.sorted.items c.sort_unstable_by_key.new.self.items c.sort_unstable_by_key.ensures.permutation
    ∙ ap apart c.in_ok-sorted.ensures.items
