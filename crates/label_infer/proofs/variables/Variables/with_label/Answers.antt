use Rattle.std.proofs.Common.{◌<◌, ◌≤◌, rules, sym, ap, ◌∙◌, length}
use Rattle.label_lattice.specs.declared.label.Label.{Label}
use Rattle.label_lattice.specs.Lattice.{Lattice}
use Rattle.label_lattice.specs.Order.{lattice_of}
use Rattle.timing_types.specs.Labelling.{label_at}
use Rattle.label_infer.proofs.Values.{with_one, without_one}
use Rattle.label_infer.proofs.variables.Variables.with_label.Goals as goal

pub returns-then-x-len : goal.returns-then-x-len
returns-then-x-len c =
    let vs = c.args.self.now in
    let past : length vs ≤ c.args.x = search rules in
    sym (without_one (lattice_of c.args.order.now) c.laws.ensures.lattice (length vs) (label_at c.args.order.now.bottom vs) c.args.base.number c.args.x past)

pub returns : goal.returns
returns c =
    let vs = c.args.self.now in
    let la : Lattice = lattice_of c.args.order.now in
    let there : c.args.x < length vs = search rules in
    let low : Label = record { number = c.args.order.now.bottom } in
    c.join.ensures.value ∙ ap (λ (l : Label). la.join c.args.base.number l.number) (c.label.ensures low)
    ∙ sym (with_one la c.laws.ensures.lattice (length vs) (label_at c.args.order.now.bottom vs) c.args.base.number c.args.x there)
