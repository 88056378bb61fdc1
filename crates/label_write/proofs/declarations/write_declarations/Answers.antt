use Rattle.std.proofs.Common.{◌+◌, ◌∙◌, sym, ap, subst, List, [], ◌∷◌, ◌++◌, Some, arith}
use Rattle.indexmap.proofs.CallerLemmas.{insert_entry-new}
use Rattle.label_lattice.specs.contracts.name.NamePartialEq.TheImpl.{eq-value}
use Rattle.mit_syntax.specs.Declarations.{Declaration}
use Rattle.mit_syntax.proofs.Numbers.{first_more, first_bound}
use Rattle.label_write.specs.Written.{as_label}
use Rattle.label_write.proofs.Tables.{PutSoFar, is_new, next_put}
use Rattle.label_write.proofs.declarations.write_declarations.Goals as goal

pub overflow_add-first : goal.overflow_add-first
overflow_add-first c =
    let ds = c.args.variables.now in
    let m = first_more ds c.loop-k.k c.declaration-name.result c.declaration-name.ensures in
    let b = first_bound ds (c.loop-k.k + 1) in
    let n = c.loop-k.invariant.first in
    let s = c.size_of-first.ensures in
    let h = c.len.ensures.few.count in
    let i = c.len.ensures.few.elements in
    let t = c.loop-k-test.true in
    let l = c.len-k-end.ensures.value in
    omega (arith, m, b, n, s, h, i, t, l)

pub loop-k-preserved : goal.loop-k-preserved
loop-k-preserved c =
    let o = c.args.order.now in
    let l = c.args.labels.now in
    let ds = c.args.variables.now in
    let d = c.declaration-name.result in
    let at = c.declaration-name.ensures in
    let so = c.loop-k.invariant in
    let new = is_new o l ds c.loop-k.k c.loop-k.first c.loop-k.table.entries so d at c.requires in
    let next = next_put o l ds c.loop-k.k c.loop-k.first c.loop-k.table.entries so d at (c.loop-k.first + c.size_of-first.result)
    (ap (λ n. c.loop-k.first + n) c.size_of-first.ensures) in
    subst (λ (es : List Declaration). PutSoFar o l ds (c.loop-k.k + 1) (c.loop-k.first + c.size_of-first.result) es)
    (sym
    (c.in_ok-insert.ensures.entries
    ∙ insert_entry-new eq-value.it c.loop-k.table d.0 _ new
    ∙ ap (λ x. c.loop-k.table.entries ++ (d.0, record { label = Some (as_label x); length = d.1.length }) ∷ []) c.variable.ensures))
    next
