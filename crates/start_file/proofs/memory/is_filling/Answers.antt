use Rattle.std.proofs.Common.{◌∙◌, sym, arith}
use Rattle.std.proofs.lemmas.Bool.Decides.{nat_tests}
use Rattle.start_file.proofs.TableLemmas.{short_filling, long_filling}
use Rattle.start_file.proofs.memory.is_filling.Goals as goal

pub returns-then-len-length : goal.returns-then-len-length
returns-then-len-length c =
    let short = short_filling c.args.value.now c.in-Array.values c.args.length c.in-Some.length c.in-Array.is c.in-Some.is (omega arith) in
    c.are_integers.ensures ∙ rw c.deref.ensures.value (sym short)

pub returns-else-len-length : goal.returns-else-len-length
returns-else-len-length c =
    let long = long_filling c.args.value.now c.in-Array.values c.args.length c.in-Some.length c.in-Array.is c.in-Some.is (omega arith) in
    grind (arith, nat_tests, long)
