use Rattle.std.proofs.Common.{◌≡◌, ◌∙◌, ap, ◌<◌, ◌≤◌, ◌++◌, length, map, get_or, arith, ⊎_elim}
use Rattle.std.proofs.lemmas.Bool.{cases_lt}
use Rattle.std.proofs.lemmas.List.{length-map}
use Rattle.leak_classes.specs.Views.{class_of}
use Rattle.space_leak.specs.Text.{class_line}
use Rattle.space_leak.proofs.Fields.{class_put, few_classes, few_firsts}
use Rattle.space_leak.proofs.lines.put_classes.Goals as goal

pub loop-i-preserved : goal.loop-i-preserved
loop-i-preserved c =
    let entries = c.args.known.now.classes.entries in
    let ds = c.args.p.now.declarations in
    let cs = map class_of entries in
    let fs = c.args.known.now.firsts.items in
    let i = c.loop-i.i in
    let now = c.loop-i.text.items in
    let same = c.as_slice-firsts.ensures.value in
    let many : c.len.result ≡ length entries = c.len.ensures.len in
    let long = length-map entries class_of in
    let firsts = ap length same in
    let lt : i < length cs = omega (arith, c.loop-i-test.true, c.min-i-end.ensures, many, long) in
    let lt' : i < length fs = omega (arith, c.loop-i-test.true, c.min-i-end.ensures, firsts) in
    class_put ds cs fs i _ now c.put_entry.new.text.items lt lt' c.loop-i.invariant
    (λ z k. c.in_ok-put_entry.ensures z k ∙ ap (λ xs. now ++ class_line ds z.0 z.1 (get_or xs i 0)) same)

pub returns : goal.returns
returns c =
    let entries = c.args.known.now.classes.entries in
    let ds = c.args.p.now.declarations in
    let cs = map class_of entries in
    let fs = c.args.known.now.firsts.items in
    let i = c.loop-i.i in
    let now = c.loop-i.text.items in
    let many : c.len.result ≡ length entries = c.len.ensures.len in
    let long = length-map entries class_of in
    let firsts = ap length c.as_slice-firsts.ensures.value in
    ⊎_elim
    (λ (l : i < length cs).
    few_firsts ds cs fs i _ now (omega (arith, l, c.loop-i-test.false, c.min-i-end.ensures, many, long, firsts)) c.loop-i.invariant)
    (λ (g : length cs ≤ i). few_classes ds cs fs i _ now g c.loop-i.invariant) (cases_lt i (length cs))
