-- Lines of a text, one after another.
use Rattle.std.proofs.Common.{◌≡◌, ◌∙◌, sym, ap, ℕ, suc, ◌+◌, ◌-◌, ◌<◌, List, arith}
use Rattle.fault_print.specs.Marked.{line_rest, lines_rest}

pub one_more : (n i : ℕ) (r q a : List ℕ) → i < n → q ≡ line_rest r → lines_rest (n - i) r ≡ a → lines_rest (n - (i + 1)) q ≡ a
one_more n i r q a h e f =
    let k : n - i ≡ suc (n - (i + 1)) = omega arith in
    ap (lines_rest (n - (i + 1))) e ∙ sym (ap (λ m. lines_rest m r) k) ∙ f
