use Rattle.std.proofs.Common.{◌≡◌, ◌+◌, refl, ap, length, arith}
use Rattle.mit_syntax.specs.Declarations.{first_of, size_of}
use Rattle.mit_syntax.proofs.Numbers.{first_more, first_bound, table_push}
use Rattle.mit_syntax.proofs.declarations.Variables.of.Goals as goal

pub loop-k-init : goal.loop-k-init
loop-k-init c = record {
  next = refl;
  all = ap length c.in_ok-firsts.ensures.items;
  firsts = λ j h. absurd (omega (arith, h));
}

pub overflow_add-next : goal.overflow_add-next
overflow_add-next c =
    let m = first_more c.args.table.entries c.loop-k.k c.entry.result c.entry.ensures in
    let b = first_bound c.args.table.entries (c.loop-k.k + 1) in
    let n = c.loop-k.invariant.next in
    let s = c.size_of-next.ensures in
    let h = c.requires.count in
    let i = c.requires.elements in
    let t = c.loop-k-test.true in
    let l = c.len-k-end.ensures.len in
    omega (arith, m, b, n, s, h, i, t, l)

pub loop-k-preserved : goal.loop-k-preserved
loop-k-preserved c =
    let ds = c.args.table.entries in
    let k = c.loop-k.k in
    let m = first_more ds k c.entry.result c.entry.ensures in
    let n : c.loop-k.next ≡ first_of ds k = c.loop-k.invariant.next in
    let s : c.size_of-next.result ≡ size_of c.entry.result.1 = c.size_of-next.ensures in
    let t = table_push ds c.loop-k.firsts.items c.push.new.self.items k c.loop-k.next c.in_ok-push.ensures.items c.loop-k.invariant.all n
    c.loop-k.invariant.firsts in
    record { next = omega (arith, m, n, s); all = t.0; firsts = t.1 }

pub invariant_of-result : goal.invariant_of-result
invariant_of-result c =
    let ds = c.args.table.entries in
    let t = c.loop-k-test.false in
    let b = c.loop-k.auto.k-end in
    let l = c.len-k-end.ensures.len in
    let end : c.loop-k.k ≡ length ds = omega (arith, t, b, l) in
    let t = table_push ds c.loop-k.firsts.items c.push-2.new.self.items c.loop-k.k c.loop-k.next c.in_ok-push-2.ensures.items c.loop-k.invariant.all
    c.loop-k.invariant.next c.loop-k.invariant.firsts in
    record {
      few = c.requires;
      all = let a = t.0 in omega (arith, a, end);
      firsts = λ k le. t.1 k (omega (arith, le, end));
    }
