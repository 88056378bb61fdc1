use Rattle.std.proofs.Common.{◌≡◌, ℕ, zero, suc, true, refl, ◌∙◌}
use Rattle.std.specs.Prelude.{replicate, slice_index_or}
use Rattle.open_audit.proofs.runs.seen_variables.Goals as goal

all_true : (n x : ℕ) → slice_index_or (replicate n true) x true ≡ true
all_true zero x = refl
all_true (suc n) zero = refl
all_true (suc n) (suc x) = all_true n x

pub returns : goal.returns
returns c = record { each = c.mark_seen.ensures.variables; others = λ x l. c.mark_seen.ensures.others x l ∙ all_true 3072 x }
