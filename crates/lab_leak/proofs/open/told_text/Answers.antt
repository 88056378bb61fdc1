use Rattle.std.proofs.Common.{◌≡◌, ◌++◌, length, map, sym, ap, ◌∙◌, arith}
use Rattle.std.proofs.lemmas.List.{length-map}
use Rattle.label_lattice.specs.Order.{Order}
use Rattle.start_file.specs.Starts.{seen}
use Rattle.lab_bound.specs.Answer.{shown_head}
use Rattle.lab_leak.specs.Answer.{sequences_in}
use Rattle.lab_leak.specs.Classes.{classes_of_runs}
use Rattle.lab_leak.proofs.Answering.{open_put}
use Rattle.lab_leak.proofs.Opening.{classes_seen, runs_counted}
use Rattle.lab_leak.proofs.open.told_text.Goals as goal

pub put_numbers-requires-clause-size : goal.put_numbers-requires-clause-size
put_numbers-requires-clause-size c =
    let few = c.requires.fit.few in
    let many = length-map c.args.starts.now seen in
    omega (arith, few, many)

pub with_classes-requires-clause-are : goal.with_classes-requires-clause-are
with_classes-requires-clause-are c =
    let q = c.args.p.now in
    let e = c.args.setting.env in
    let t = c.args.setting.budget in
    let ss = map seen c.args.starts.now in
    c.in_ok-found.ensures.are (sequences_in e t q c.args.observer.number ss)
    (classes_seen e q c.args.observer.number t ss c.args.classes.now c.requires.reported)

pub returns : goal.returns
returns c =
    let q = c.args.p.now in
    let l = c.args.observer in
    let e = c.args.setting.env in
    let t = c.args.setting.budget in
    let ss = map seen c.args.starts.now in
    let zs = sequences_in e t q l.number ss in
    let reported = c.requires.reported in
    let r = reported.report in
    let order : c.lattice.result.now ≡ q.program.order = c.lattice.ensures ∙ ap (λ z. z.order) c.program.ensures.program in
    let runs : length c.args.starts.now ≡ r.runs = sym (runs_counted e q l.number t ss c.args.classes.now reported ∙ length-map c.args.starts.now seen) in
    let shown : c.put_open.new.text.items ≡ c.put_head.new.text.items ++ shown_head q.program.order l t r =
    c.in_ok-put_open.ensures r (sym runs) ∙ ap (λ (z : Order). c.put_head.new.text.items ++ shown_head z l t r) order in (
      r,
      reported.is,
      open_put e q l t r (classes_of_runs zs) c.in_ok-found.found (length c.args.starts.now) c.as_slice.result.now c.new-text.result.items
          c.put_head.new.text.items c.put_open.new.text.items c.put_numbers.new.text.items c.in_ok-whole.whole.items
          (c.in_ok-found.ensures.are zs (classes_seen e q l.number t ss c.args.classes.now reported)) runs c.as_slice.ensures.value
          c.new-text.ensures.items c.in_ok-put_head.ensures shown c.in_ok-put_numbers.ensures c.in_ok-whole.ensures,
    )
