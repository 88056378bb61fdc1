use Rattle.std.proofs.Common.{◌++◌, ◌-◌, ◌∙◌, sym, ap, drop, length, length-drop, arith}
use Rattle.std.proofs.lemmas.Slice.Eq.{starts_is}
use Rattle.std.proofs.lemmas.Bool.{both_ways}
use Rattle.std.proofs.lemmas.Bool.Decides.{Decides-eqb}
use Rattle.std.proofs.lemmas.List.{take_all}
use Rattle.type_cert.proofs.read.after.Goals as goal

pub returns-then-starts_with : goal.returns-then-starts_with
returns-then-starts_with c =
    let xs = c.args.text.now in
    let w = c.args.word.now in
    let s = starts_is Decides-eqb xs w c.starts_with.result c.starts_with.ensures.value in
    let n = length-drop (length w) xs in
    s.0 c.if-starts_with.true ∙ ap (λ z. w ++ z) (sym (take_all (length xs - length w) (drop (length w) xs) (omega (arith, n))))

pub returns : goal.returns
returns c =
    let s = starts_is Decides-eqb c.args.text.now c.args.word.now c.starts_with.result c.starts_with.ensures.value in
    λ q e. both_ways c.starts_with.result c.if-starts_with.false (s.1 q e)
