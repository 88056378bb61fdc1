use Rattle.std.proofs.Common.{◌≡◌, ◌∙◌, ◌<◌, refl, ap, arith, sym, subst, length}
use Rattle.std.specs.Prelude.{slice_get, Some}
use Rattle.std.proofs.lemmas.Option.{slice_get_read}
use Rattle.label_lattice.specs.Lattice.{Lattice, Flows}
use Rattle.label_lattice.specs.Order.{lattice_of}
use Rattle.timing_types.specs.Labelling.{label_at}
use Rattle.label_infer.specs.declared.row.Row.{Row}
use Rattle.label_infer.specs.Rows.{has_in}
use Rattle.label_infer.specs.Constraints.{value_from}
use Rattle.label_infer.proofs.Holding.{met_more, least_more, value_is}
use Rattle.label_infer.proofs.variables.Variables.with_labels.Goals as goal

pub loop-l-preserved : goal.loop-l-preserved
loop-l-preserved c =
    let v = c.self.inside in
    let i = c.self.invariant in
    let w = c.with_holders-have.ensures in
    let h = c.loop-l.invariant in
    let la : Lattice = lattice_of c.args.order.now in
    let ll = c.laws.ensures.lattice in
    let l = c.loop-l.l in
    let r : Row = c.index.result.now in
    let new = c.with_holders-have.result.number in
    let test = c.loop-l-test.true in
    let end = i.end in
    let rows = i.rows in
    let within : l < length v.holders.items = omega (arith, test, end, rows) in
    let there : slice_get v.holders.items l ≡ Some r = slice_get_read v.holders.items (length v.holders.items) l r refl within c.index.ensures in
    let has = has_in c.args.row.now.words.items in
    let base = c.args.base.number in
    record {
      up = ll.chain base c.loop-l.have.number new h.up w.up;
      met = met_more la ll v.labels.items base has v.holders.items l c.loop-l.have.number new r i.told there h.met w.up
          (λ m. subst (λ z. Flows la z new) c.new.ensures (w.met m));
      least = least_more la ll v.labels.items base has v.holders.items l c.loop-l.have.number new r i.told there h.least
          (λ u f g. w.least u f (λ m. subst (λ z. Flows la z u) (sym c.new.ensures) (g m)));
    }

pub returns : goal.returns
returns c =
    let v = c.self.inside in
    let i = c.self.invariant in
    let h = c.loop-l.invariant in
    let la : Lattice = lattice_of c.args.order.now in
    let base = c.args.base.number in
    let has = has_in c.args.row.now.words.items in
    let test = c.loop-l-test.false in
    let is = value_is la c.laws.ensures.lattice v.labels.items base has c.args.order.now.bottom c.loop-l.have.number c.loop-l.l
    (λ x a e. let k = i.room x a e in omega (arith, k, test)) h.up h.met h.least in
    is ∙ ap (λ z. value_from la (label_at c.args.order.now.bottom z) base has (length z)) c.self.view_is
