use Rattle.std.proofs.Common.{◌∙◌, refl, sym, arith, Some}
use Rattle.std.proofs.lemmas.Bool.Decides.{nat_tests}
use Rattle.start_file.proofs.TableLemmas.{are_integers_view, short_filling, long_filling}
use Rattle.start_faults.proofs.values.is_array.Goals as goal

pub returns-then-len-length : goal.returns-then-len-length
returns-then-len-length c =
    let short = short_filling c.args.value.now c.in-Array.values (Some c.args.length) c.args.length c.in-Array.is refl (omega arith) in
    c.are_integers.ensures ∙ rw c.as_slice.ensures.value (sym (are_integers_view c.in-Array.values.items) ∙ sym short)

pub returns-else-len-length : goal.returns-else-len-length
returns-else-len-length c =
    let long = long_filling c.args.value.now c.in-Array.values (Some c.args.length) c.args.length c.in-Array.is refl (omega arith) in
    grind (arith, nat_tests, long)
