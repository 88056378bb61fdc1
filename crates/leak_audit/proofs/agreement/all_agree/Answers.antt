use Rattle.std.proofs.Common.{◌≡◌, ◌<◌, ◌≤◌, ◌+◌, List, [], ◌∷◌, length, map, drop, refl, sym, ap, ◌∙◌, subst, arith}
use Rattle.std.specs.Prelude.{All, Option, Some, None, MatchOption, slice_get}
use Rattle.std.proofs.lemmas.Option.{get_or_from_slice_get}
use Rattle.env_contract.specs.Env.{Env}
use Rattle.env_contract.specs.declared.place.Touch.{Touch}
use Rattle.label_lattice.specs.Order.{Order}
use Rattle.mit_syntax.specs.Program.{Syntax}
use Rattle.start_file.specs.declared.start.Start.{Start as Stored}
use Rattle.start_file.specs.Starts.{seen, IsFor}
use Rattle.leak_audit.specs.Agreement.{start_of, starts_of}
use Rattle.leak_audit.proofs.Agreeing.{starts-from, starts-end, All-seen, agree_more, apart_here, agree_end, all_pairwise, disagrees}
use Rattle.leak_audit.specs.declared.what.What.{What}
use Rattle.leak_audit.proofs.agreement.all_agree.Goals as goal

-- touches of a start are of labels of the lattice
touches_below : (p : Syntax) (order : Order) (s : Stored) (ts : List Touch) → IsFor p (seen s) → order ≡ p.order → ts ≡ s.touches.items
    → All (λ (t : Touch). t.label.number < order.size) ts
touches_below p order s ts h e f =
    subst (λ z. All (λ (t : Touch). t.label.number < z.size) ts) (sym e) (subst (All (λ (t : Touch). t.label.number < p.order.size)) (sym f) h.touches)

has_first : (xs : List Stored) (x : Stored) → slice_get xs 0 ≡ Some x → 0 < length xs
has_first [] x e = absurd cc
has_first (y ∷ xs) x e = omega arith

none_case : (o : Option What) (P : Type 0) (Q : What → Type 0) → MatchOption o P Q → ((w : What) → o ≡ Some w → ⊥) → P
none_case None P Q h n = h
none_case (Some w) P Q h n = absurd (n w refl)

some_case : (o : Option What) (w : What) (P : Type 0) (Q : What → Type 0) → MatchOption o P Q → o ≡ Some w → Q w
some_case o w P Q h e = subst (λ o. MatchOption o P Q) e h

pub make-requires : goal.make-requires
make-requires g c =
    let p = c.args.p.now in
    let ss = starts_of (g.M.MakeEnv.made c.args.make.now) p.program.order (map seen c.args.starts.now) in
    let first = c.in-Some.first.now in
    let some = has_first c.args.starts.now first (sym c.in-Some.ensures.value) in
    let first_is = sym (get_or_from_slice_get c.args.starts.now 0 first first (sym c.in-Some.ensures.value)) in
    let order = c.shared_lattice-lattice.ensures ∙ ap (λ z. z.order) c.program.ensures.program in
    touches_below p.program c.shared_lattice-lattice.result.now.value first c.as_slice.result.now
    (All-seen (IsFor p.program) c.args.starts.now 0 first c.requires.starts some first_is) order c.as_slice.ensures.value

pub returns-clause-agree : goal.returns-clause-agree
returns-clause-agree g c =
    let v : Env g.row.E.Denot = g.E.MachineEnv.env in
    let p = c.args.p.now in
    let ss = starts_of (g.M.MakeEnv.made c.args.make.now) p.program.order (map seen c.args.starts.now) in
    let one = start_of (g.M.MakeEnv.made c.args.make.now) p.program.order (seen c.in-Some.first.now) in
    let le : length c.args.starts.now ≤ c.loop-i.i = omega arith in
    let end = starts-end (g.M.MakeEnv.made c.args.make.now) p.program.order c.args.starts.now c.loop-i.i le in
    all_pairwise v g.E.MachineEnv.serves p c.args.observer.number one ss
    (agree_end v g.E.MachineEnv.serves p c.args.observer.number one ss (drop c.loop-i.i ss) (c.loop-i.i + 1) end c.loop-i.invariant)

pub difference_from-requires-clause-first : goal.difference_from-requires-clause-first
difference_from-requires-clause-first g c =
    let p = c.args.p.now in
    let first = c.in-Some.first.now in
    let some = has_first c.args.starts.now first (sym c.in-Some.ensures.value) in
    let first_is = sym (get_or_from_slice_get c.args.starts.now 0 first first (sym c.in-Some.ensures.value)) in
    All-seen (IsFor p.program) c.args.starts.now 0 first c.requires.starts some first_is

pub difference_from-requires-clause-start : goal.difference_from-requires-clause-start
difference_from-requires-clause-start g c =
    let p = c.args.p.now in
    let lt : c.loop-i.i < length c.args.starts.now = omega arith in
    All-seen (IsFor p.program) c.args.starts.now c.loop-i.i c.index-starts-i.result c.requires.starts lt c.index-starts-i.is

pub returns-in-Some-found-clause-differ : goal.returns-in-Some-found-clause-differ
returns-in-Some-found-clause-differ g c =
    let v : Env g.row.E.Denot = g.E.MachineEnv.env in
    let p = c.args.p.now in
    let ss = starts_of (g.M.MakeEnv.made c.args.make.now) p.program.order (map seen c.args.starts.now) in
    let first = c.in-Some.first.now in
    let some = has_first c.args.starts.now first (sym c.in-Some.ensures.value) in
    let first_is = sym (get_or_from_slice_get c.args.starts.now 0 first first (sym c.in-Some.ensures.value)) in
    let start = c.index-starts-i.result in
    let lt : c.loop-i.i < length c.args.starts.now = omega arith in
    let from = starts-from (g.M.MakeEnv.made c.args.make.now) p.program.order c.args.starts.now c.loop-i.i start lt c.index-starts-i.is in
    let w = c.in-Some-found.what in
    disagrees v g.E.MachineEnv.serves p c.args.observer.number (start_of (g.M.MakeEnv.made c.args.make.now) p.program.order (seen first)) ss
    (drop (0 + 1) ss) (c.loop-i.i + 1) w
    (starts-from (g.M.MakeEnv.made c.args.make.now) p.program.order c.args.starts.now 0 first some first_is)
    (apart_here v g.E.MachineEnv.serves p c.args.observer.number (start_of (g.M.MakeEnv.made c.args.make.now) p.program.order (seen first))
    (start_of (g.M.MakeEnv.made c.args.make.now) p.program.order (seen start)) ss (drop c.loop-i.i ss) (drop (c.loop-i.i + 1) ss)
    (c.loop-i.i + 1) w from c.loop-i.invariant
    (some_case c.in_ok-found.found w _ _ c.in_ok-found.ensures c.in-Some-found.is))

pub loop-i-preserved : goal.loop-i-preserved
loop-i-preserved g c =
    let v : Env g.row.E.Denot = g.E.MachineEnv.env in
    let p = c.args.p.now in
    let ss = starts_of (g.M.MakeEnv.made c.args.make.now) p.program.order (map seen c.args.starts.now) in
    let first = c.in-Some.first.now in
    let start = c.index-starts-i.result in
    let lt : c.loop-i.i < length c.args.starts.now = omega arith in
    let from = starts-from (g.M.MakeEnv.made c.args.make.now) p.program.order c.args.starts.now c.loop-i.i start lt c.index-starts-i.is in
    agree_more v g.E.MachineEnv.serves p c.args.observer.number (start_of (g.M.MakeEnv.made c.args.make.now) p.program.order (seen first))
    (start_of (g.M.MakeEnv.made c.args.make.now) p.program.order (seen start)) ss (drop c.loop-i.i ss) (drop (c.loop-i.i + 1) ss) (c.loop-i.i + 1)
    (c.loop-i.i + 1 + 1)
    refl from c.loop-i.invariant
    (none_case c.in_ok-found.found _ _ c.in_ok-found.ensures c.in_default-found.not-Some)
