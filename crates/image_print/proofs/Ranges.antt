-- The instructions of an image have names.
use Rattle.std.proofs.Common.{◌≡◌, ℕ, ◌≤◌, Some, subst, arith}
use Rattle.std.specs.Prelude.{slice_get}
use Rattle.label_code.specs.declared.code.Work.{Work}
use Rattle.label_code.specs.declared.code.Work.TheVariants.{Push, Load, Store, LoadAt, StoreAt, Apply, Brz, Brnz, Jmp, Sleep, Mitb, Mite, Nop, Halt}
use Rattle.label_code.specs.declared.code.Instr.{Instr}
use Rattle.label_code.specs.Shaped.{Code, IsShaped, InRange}
use Rattle.mit_syntax.specs.Declarations.{variables}
use Rattle.mit_syntax.specs.Program.{Syntax}
use Rattle.image_print.specs.Named.{IsNamed}

-- in range of more labels
more_labels : (vars m n : ℕ) → m ≤ n → (w : Work) → InRange vars m w → InRange vars n w
more_labels vars m n h (Push x) r = tt
more_labels vars m n h (Load x) r = r
more_labels vars m n h (Store x) r = r
more_labels vars m n h (LoadAt f l) r = r
more_labels vars m n h (StoreAt f l) r = r
more_labels vars m n h (Apply o) r = tt
more_labels vars m n h (Brz b) r = tt
more_labels vars m n h (Brnz b) r = tt
more_labels vars m n h (Jmp b) r = tt
more_labels vars m n h Sleep r = tt
more_labels vars m n h (Mitb l k) r = omega (arith, h, r)
more_labels vars m n h Mite r = tt
more_labels vars m n h Nop r = tt
more_labels vars m n h Halt r = tt

pub all_named : (c : Code) (p : Syntax) → IsShaped c → c.variables ≡ variables p.declarations → c.order.size ≤ p.order.size
    → (a : ℕ) (i : Instr) → slice_get c.instrs a ≡ Some i → IsNamed p.order p.declarations i
all_named c p shape vars labels a i e =
    let fine = shape.1.each a i e in
    let er = fine.er in
    let ew = fine.ew in
    record {
      work = subst (λ n. InRange n p.order.size i.work) vars (more_labels c.variables c.order.size p.order.size labels i.work fine.range);
      er = omega (arith, er, labels);
      ew = omega (arith, ew, labels);
    }
