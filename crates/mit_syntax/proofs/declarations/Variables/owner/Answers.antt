use Rattle.std.proofs.Common.{◌≡◌, ◌<◌, ◌∙◌, sym, ap, subst, List, length, arith}
use Rattle.mit_syntax.specs.Declarations.{Declaration, first_of}
use Rattle.mit_syntax.proofs.Numbers.{first_all, some_declared}
use Rattle.mit_syntax.proofs.declarations.Variables.owner.Goals as goal

pub loop-high-init : goal.loop-high-init
loop-high-init c =
    let n : c.len-high.result ≡ length c.args.self.now = c.len-high.ensures.len ∙ ap (λ (l : List Declaration). length l) c.self.view_is in
    let s : 0 < length c.args.self.now = some_declared c.args.self.now c.args.x c.requires in
    record {
      some = omega (arith, n, s);
      within = omega (arith, n);
      from = omega arith;
      to = subst (λ k. c.args.x < k) (sym (ap (first_of c.args.self.now) n ∙ first_all c.args.self.now)) c.requires;
    }
