-- A loaded machine stands at the start of its run.
use Rattle.std.proofs.Common.{◌≡◌, ℕ, zero, suc, List, [], refl, ap, ◌∙◌, ℤ}
use Rattle.label_lattice.specs.Order.{most_labels}
use Rattle.std.specs.Prelude.{replicate}
use Rattle.std.proofs.Math.Path.{fun_ext}
use Rattle.label_code.specs.Machine.{Opened, at, start}
use Rattle.cycle_machine.specs.Seen.{counts}

none_counted : (n : ℕ) (l : ℕ) → counts (replicate n 0) l ≡ 0
none_counted zero l = refl
none_counted (suc n) zero = refl
none_counted (suc n) (suc l) = none_counted n l

pub start_is : {E : Type 0} (ops : List ℤ) (os : List Opened) (memory : List ℤ) (e : E) (ms : List ℕ) → ops ≡ [] → os ≡ [] → ms ≡ replicate most_labels 0 →
    at {E = E} 0 ops os (record { memory = memory; env = e; clock = 0; misses = counts ms; log = [] }) ≡ start memory e
start_is {E} ops os memory e ms a b c =
    ap (λ z. at {E = E} 0 z os (record { memory = memory; env = e; clock = 0; misses = counts ms; log = [] })) a
    ∙ (ap (λ z. at {E = E} 0 [] z (record { memory = memory; env = e; clock = 0; misses = counts ms; log = [] })) b
    ∙ ap (λ f. at {E = E} 0 [] [] (record { memory = memory; env = e; clock = 0; misses = f; log = [] })) (ap counts c ∙ fun_ext (none_counted most_labels)))
