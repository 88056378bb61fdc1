-- Entries one after another, and cycles that are added to the next one.
use Rattle.std.proofs.Common.{◌≡◌, ℕ, ◌+◌, List, [], ◌∷◌, ◌++◌, sym, ap, ◌∙◌, refl, arith, add-zero}
use Rattle.std.specs.Prelude.{ℤ, Option, Some, None}
use Rattle.label_code.specs.Machine.{Opened}
use Rattle.first_replay.specs.Replay.{Nothing, Pushed, Assigned, Opens, Closes, Entry, Timed, after, close_timed, replay}
use Rattle.entry_run.specs.Kept.{idle}

pub replay_both : (numbers : ℕ → ℤ) (es fs : List Entry) (t : Timed) → replay numbers (es ++ fs) t ≡ replay numbers fs (replay numbers es t)
replay_both numbers [] fs t = refl
replay_both numbers (e ∷ es) fs t = replay_both numbers es fs (after numbers e.what (t.clock + e.cost) t)

-- no cycles more
pub idle_none : (u : Timed) → u.last ≡ None → idle 0 None u ≡ u
idle_none u e = ap (λ c. record u { clock = c; last = None }) (add-zero u.clock) ∙ ap (λ l. record u { last = l }) (sym e)

sum : (c w d : ℕ) → c + w + d ≡ c + (w + d)
sum c w d = omega arith

-- cycles that pass after others
pub idle_nothing : (numbers : ℕ → ℤ) (w d : ℕ) (l : Option ℕ) (u : Timed) → idle (w + d) None u ≡ after numbers Nothing ((idle w l u).clock + d) (idle w l u)
idle_nothing numbers w d l u = ap (λ c. record u { clock = c; last = None }) (sym (sum u.clock w d))

pub idle_pushed : (numbers : ℕ → ℤ) (w d a : ℕ) (l : Option ℕ) (u : Timed) →
    idle (w + d) (Some a) u ≡ after numbers (Pushed a) ((idle w l u).clock + d) (idle w l u)
idle_pushed numbers w d a l u = ap (λ c. record u { clock = c; last = Some a }) (sym (sum u.clock w d))

-- an assignment, and the end of a mitigation, whatever was pushed before
pub joined_assigned : (numbers : ℕ → ℤ) (w d x : ℕ) (n : ℤ) (l : Option ℕ) (u : Timed) →
    after numbers (Assigned x n) (u.clock + (w + d)) u ≡ after numbers (Assigned x n) ((idle w l u).clock + d) (idle w l u)
joined_assigned numbers w d x n l u = ap (λ c. after numbers (Assigned x n) c u) (sym (sum u.clock w d))

closed_alike : (os : List Opened) (c w : ℕ) (l : Option ℕ) (u : Timed) → close_timed os c u ≡ close_timed os c (idle w l u)
closed_alike [] c w l u = refl
closed_alike (o ∷ os) c w l u = refl

pub joined_closes : (numbers : ℕ → ℤ) (w d : ℕ) (l : Option ℕ) (u : Timed) →
    after numbers Closes (u.clock + (w + d)) u ≡ after numbers Closes ((idle w l u).clock + d) (idle w l u)
joined_closes numbers w d l u = ap (λ c. after numbers Closes c u) (sym (sum u.clock w d)) ∙ closed_alike u.opened (u.clock + w + d) w l u

-- the beginning of a mitigation after no number was pushed
pub joined_opens : (numbers : ℕ → ℤ) (w d : ℕ) (n : ℤ) (k j : ℕ) (u : Timed) → u.last ≡ None →
    after numbers (Opens n k j) (u.clock + (w + d)) u ≡ after numbers (Opens n k j) ((idle w None u).clock + d) (idle w None u)
joined_opens numbers w d n k j u e =
    ap (λ l. after numbers (Opens n k j) (u.clock + (w + d)) (record u { last = l })) e
    ∙ ap (λ c. after numbers (Opens n k j) c (record u { last = None })) (sym (sum u.clock w d))

closed_last : (os : List Opened) (c : ℕ) (u : Timed) → (close_timed os c u).last ≡ None
closed_last [] c u = refl
closed_last (o ∷ os) c u = refl

pub closes_last : (numbers : ℕ → ℤ) (c : ℕ) (u : Timed) → (after numbers Closes c u).last ≡ None
closes_last numbers c u = closed_last u.opened c u
