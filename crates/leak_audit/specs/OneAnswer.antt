-- What has one answer.
use Rattle.std.specs.Prelude.{◌≡◌, ◌≢◌}

-- Of what is a report and what is a fault: reports are the same, so are faults but for want of memory, and where there
-- is a report no other fault is told.
pub record HasOneAnswer {R F : Type 0} (is_report : R → Type 0) (same : R → R → Type 0) (is_fault : F → Type 0) (memory : F) : Type 0 where
  pub report : (r s : R) → is_report r → is_report s → same r s
  pub fault : (f g : F) → is_fault f → is_fault g → f ≢ memory → g ≢ memory → f ≡ g
  pub either : (r : R) (f : F) → is_report r → is_fault f → f ≡ memory
