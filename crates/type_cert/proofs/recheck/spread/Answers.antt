use Rattle.std.proofs.Common.{◌<◌, ◌∙◌, ◌+◌, ap, arith, length}
use Rattle.std.proofs.lemmas.List.{get_or_default}
use Rattle.type_cert.specs.Certificate.{spread}
use Rattle.type_cert.proofs.Spread.{size_is, spread_next, spread_all, resized}
use Rattle.type_cert.proofs.recheck.spread.Goals as goal

pub loop-k-preserved : goal.loop-k-preserved
loop-k-preserved c =
    let ds = c.declarations-declarations.result.now in
    let ls = c.args.declared.now in
    let f = c.loop-k.found.items in
    let k = c.loop-k.k in
    let r = c.requires in
    let e = ap length c.declarations-declarations.ensures in
    let v = c.len-k-end.ensures.value in
    let test = c.loop-k-test.true in
    let h : k < length ls = omega (arith, r, e, v, test) in
    spread_next ds ls (spread ds ls) f c.resize.new.self.items k c.unwrap_or-size.result c.declaration.result _ c.declaration.ensures h
    (get_or_default ls k _ _ h) (c.unwrap_or-size.ensures ∙ size_is c.declaration.result.1.length)
    (resized f (c.len.result + c.unwrap_or-size.result) c.unwrap_or-size.result c.loop-k.found.len _ c.resize.new.self.items c.loop-k.found.ok.0
    (ap (λ z. z + c.unwrap_or-size.result) c.len.ensures) c.in_ok-resize.ensures.items) c.loop-k.invariant

pub returns : goal.returns
returns c =
    let ds = c.declarations-declarations.result.now in
    let ls = c.args.declared.now in
    let v = c.len-k-end.ensures.value in
    let test = c.loop-k-test.false in
    spread_all ds ls (spread ds ls) c.loop-k.found.items c.loop-k.k (omega (arith, v, test)) c.loop-k.invariant
    ∙ ap (λ z. spread z ls) c.declarations-declarations.ensures
