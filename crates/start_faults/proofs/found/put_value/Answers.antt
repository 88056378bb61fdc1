use Rattle.std.proofs.Common.{◌∙◌, ◌++◌, ℕ, List, sym, ap}
use Rattle.start_faults.proofs.Walks.{array_text}
use Rattle.start_faults.proofs.found.put_value.Goals as goal

pub returns-in_ok-put_array-in-Array : goal.returns-in_ok-put_array-in-Array
returns-in_ok-put_array-in-Array c =
    c.in_ok-put_array-in-Array.ensures
    ∙ ap (λ (z : List ℕ). c.args.out.now.items ++ z)
    (sym (array_text c.args.value.now c.in-Array.values c.as_slice.result.now c.in-Array.is c.as_slice.ensures.value))
