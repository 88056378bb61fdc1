use Rattle.std.proofs.Common.{◌≡◌, ◌+◌, ◌<◌, ◌≤◌, ℕ, List, length, set, get_or, refl, sym, ap, ◌∙◌, subst, arith}
use Rattle.fixed_log.specs.Entropy.{AllSome, starts}
use Rattle.lab_leak.proofs.Counting.{any_else, raised_starts, raised_some, small_at, new_starts, new_some}
use Rattle.lab_leak.proofs.Taking.{take_there, take_new}
use Rattle.lab_leak.proofs.sizes.ClassSizes.take.Goals as goal

-- one more at a place
raised_at : (ws : List ℕ) (p x : ℕ) → p < length ws → x ≡ get_or ws p x → set ws p (x + 1) ≡ set ws p (get_or ws p 0 + 1)
raised_at ws p x lt e = ap (λ z. set ws p (z + 1)) (e ∙ any_else ws p x lt)

pub overflow_add-index_mut : goal.overflow_add-index_mut
overflow_add-index_mut c =
    let ws = c.args.self.now.sizes.items in
    let p = c.saturating_sub-place.result in
    let lt : p < length ws = omega (arith, c.if-place-len.true, c.len.ensures) in
    let small = small_at ws p in
    let is : c.index_mut.result.now ≡ get_or ws p 0 = c.index_mut.ensures.value ∙ any_else ws p c.index_mut.result.now lt in
    omega (arith, small, is, c.requires)

pub returns-then-place-len-clause-count : goal.returns-then-place-len-clause-count
returns-then-place-len-clause-count c =
    let ws = c.args.self.now.sizes.items in
    let p = c.saturating_sub-place.result in
    let lt : p < length ws = omega (arith, c.if-place-len.true, c.len.ensures) in
    ap starts (raised_at ws p c.index_mut.result.now lt c.index_mut.ensures.value) ∙ raised_starts ws p lt

pub returns-then-place-len-clause-some : goal.returns-then-place-len-clause-some
returns-then-place-len-clause-some c h =
    let ws = c.args.self.now.sizes.items in
    let p = c.saturating_sub-place.result in
    let lt : p < length ws = omega (arith, c.if-place-len.true, c.len.ensures) in
    subst AllSome (sym (raised_at ws p c.index_mut.result.now lt c.index_mut.ensures.value)) (raised_some ws p h)

pub returns-then-place-len-clause-are : goal.returns-then-place-len-clause-are
returns-then-place-len-clause-are c k z n h at run =
    let ws = c.args.self.now.sizes.items in
    let p = c.saturating_sub-place.result in
    let lt : p < length ws = omega (arith, c.if-place-len.true, c.len.ensures) in
    take_there k z n c.args.self.now _ c.args.run c.args.class p h at c.saturating_sub-place.ensures lt
    (raised_at ws p c.index_mut.result.now lt c.index_mut.ensures.value) refl

pub returns-clause-count : goal.returns-clause-count
returns-clause-count c = ap starts c.in_ok-push.ensures.items ∙ new_starts c.args.self.now.sizes.items

pub returns-clause-some : goal.returns-clause-some
returns-clause-some c h = subst AllSome (sym c.in_ok-push.ensures.items) (new_some c.args.self.now.sizes.items h)

pub returns-clause-are : goal.returns-clause-are
returns-clause-are c k z n h at run =
    let le : length c.args.self.now.sizes.items ≤ c.saturating_sub-place.result = omega (arith, c.if-place-len.false, c.len.ensures) in
    take_new k z n c.args.self.now _ c.args.run c.args.class c.saturating_sub-place.result h at c.saturating_sub-place.ensures le
    c.in_ok-push.ensures.items c.in_ok-push-2.ensures.items run
