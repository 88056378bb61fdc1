use Rattle.std.proofs.Common.{◌≡◌, ℕ, ◌<◌, ◌∙◌, ap, sym, subst, length, List, [], ◌∷◌, ◌++◌, Vec, get_or, w64, to_z, of_z, to_z-of_z, arith}
use Rattle.std.specs.Prelude.{All}
use Rattle.std.specs.declared.alloc.Global.{Global}
use Rattle.std.proofs.lemmas.List.{length-map, get_or-map}
use Rattle.space_starts.specs.declared.space.Interval.{Interval}
use Rattle.space_starts.specs.Space.{many, value_in, lists, IsInterval}
use Rattle.space_starts.proofs.Choosing.{choice_wide, choice_below, one_chosen, all_chosen}
use Rattle.space_starts.proofs.space.chosen.Goals as goal

held : (vs : List (Vec Interval Global)) (i : ℕ) (v : Vec Interval Global) (at : List Interval) → i < length vs → v ≡ get_or vs i v → at ≡ v.items
    → get_or (lists vs) i [] ≡ at
held vs i v at lt is e = get_or-map (λ (x : Vec Interval Global). x.items) vs i v [] lt ∙ ap (λ (x : Vec Interval Global). x.items) (sym is) ∙ sym e

inside : (vs : List (Vec Interval Global)) (i : ℕ) → i < length vs → i < length (lists vs)
inside vs i lt = let l = length-map vs (λ (x : Vec Interval Global). x.items) in omega (arith, l, lt)

pub bounds-choice-i : goal.bounds-choice-i
bounds-choice-i c =
    let wide = choice_wide (lists c.args.memory.now) c.args.choice.now c.requires.choice in
    let lt = inside c.args.memory.now c.loop-i.i c.loop-i-test.true in
    omega (arith, wide, lt)

pub value_in-requires-clause-are : goal.value_in-requires-clause-are
value_in-requires-clause-are c =
    let lt = inside c.args.memory.now c.loop-i.i c.loop-i-test.true in
    subst (All IsInterval)
    (held c.args.memory.now c.loop-i.i c.index-memory-i.result c.deref.result.now c.loop-i-test.true c.index-memory-i.is c.deref.ensures.value)
    (c.requires.are c.loop-i.i [] lt).fit

pub value_in-requires-clause-number : goal.value_in-requires-clause-number
value_in-requires-clause-number c =
    let lt = inside c.args.memory.now c.loop-i.i c.loop-i-test.true in
    subst (λ v. get_or c.args.choice.now c.loop-i.i 0 < many v)
    (held c.args.memory.now c.loop-i.i c.index-memory-i.result c.deref.result.now c.loop-i-test.true c.index-memory-i.is c.deref.ensures.value)
    (choice_below (lists c.args.memory.now) c.args.choice.now c.loop-i.i [] c.requires.choice lt)

pub loop-i-preserved : goal.loop-i-preserved
loop-i-preserved c =
    let lt = inside c.args.memory.now c.loop-i.i c.loop-i-test.true in
    let wide = choice_wide (lists c.args.memory.now) c.args.choice.now c.requires.choice in
    let kept : to_z w64 (of_z w64 c.value_in.result) ≡ c.value_in.result = grind (arith, to_z-of_z) in
    one_chosen (lists c.args.memory.now) c.args.choice.now c.loop-i.i c.loop-i.values.items [] c.push.new.self.items c.value_in.result lt
    (omega (arith, wide, lt))
    (c.value_in.ensures ∙ ap (λ v. value_in v (get_or c.args.choice.now c.loop-i.i 0))
    (sym (held c.args.memory.now c.loop-i.i c.index-memory-i.result c.deref.result.now c.loop-i-test.true c.index-memory-i.is c.deref.ensures.value)))
    (c.in_ok-push.ensures.items ∙ ap (λ z. c.loop-i.values.items ++ z ∷ []) kept) c.loop-i.invariant

pub returns : goal.returns
returns c =
    let long = length-map c.args.memory.now (λ (x : Vec Interval Global). x.items) in
    let all = c.loop-i-test.false in
    all_chosen (lists c.args.memory.now) c.args.choice.now c.loop-i.i c.loop-i.values.items (omega (arith, long, all)) c.loop-i.invariant
