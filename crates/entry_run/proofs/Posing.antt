-- A step does the same to all but time, whatever the time is.
use Rattle.std.proofs.Common.{◌≡◌, ℕ, zero, suc, List, [], ◌∷◌, ◌++◌, sym, ap, ◌∙◌, refl, append_assoc}
use Rattle.std.specs.Prelude.{ℤ, Bool, true, false, Option, Some, None, slice_get, cond}
use Rattle.label_code.specs.declared.code.Work.{Work}
use Rattle.label_code.specs.declared.code.Work.TheVariants.{Push, Load, Store, LoadAt, StoreAt, Apply, Brz, Brnz, Jmp, Sleep, Mitb, Mite, Nop, Halt}
use Rattle.label_code.specs.declared.code.Instr.{Instr}
use Rattle.label_lattice.specs.declared.label.Label.{Label}
use Rattle.label_code.specs.Machine.{Event, Opened, Machine, obey, step, steps}
use Rattle.env_contract.specs.Env.{Env}
use Rattle.first_replay.specs.Replay.{Entry, entry_of, entry, trace}
use Rattle.entry_run.specs.Worked.{Pose, pose}

abbrev pub mach : {E : Type 0} → ℕ → List ℤ → List Opened → List ℤ → E → ℕ → (ℕ → ℕ) → List Event → Bool → Machine E
mach a ops os memory env clock misses log b =
    record { place = a; operands = ops; opened = os; core = record { memory = memory; env = env; clock = clock; misses = misses; log = log }; halted = b }

-- one instruction
same_work : {E : Type 0} (v : Env E) (w : Work) (er ew : Label) (a : ℕ) (ops : List ℤ) (memory : List ℤ) (env : E)
    (ox : List Opened) (cx : ℕ) (mx : ℕ → ℕ) (lx : List Event) (oy : List Opened) (cy : ℕ) (my : ℕ → ℕ) (ly : List Event) →
    pose (obey v (Some (record { work = w; er = er; ew = ew })) (mach a ops ox memory env cx mx lx false))
    ≡ pose (obey v (Some (record { work = w; er = er; ew = ew })) (mach a ops oy memory env cy my ly false))
same_work v (Push n) er ew a ops memory env ox cx mx lx oy cy my ly = refl
same_work v (Load x) er ew a ops memory env ox cx mx lx oy cy my ly = refl
same_work v (Store x) er ew a ops memory env ox cx mx lx oy cy my ly = refl
same_work v (LoadAt f n) er ew a ops memory env ox cx mx lx oy cy my ly = refl
same_work v (StoreAt f n) er ew a ops memory env ox cx mx lx oy cy my ly = refl
same_work v (Apply o) er ew a ops memory env ox cx mx lx oy cy my ly = refl
same_work v (Brz b) er ew a ops memory env ox cx mx lx oy cy my ly = refl
same_work v (Brnz b) er ew a ops memory env ox cx mx lx oy cy my ly = refl
same_work v (Jmp b) er ew a ops memory env ox cx mx lx oy cy my ly = refl
same_work v Sleep er ew a ops memory env ox cx mx lx oy cy my ly = refl
same_work v (Mitb l k) er ew a ops memory env ox cx mx lx oy cy my ly = refl
same_work v Mite er ew a ops memory env [] cx mx lx [] cy my ly = refl
same_work v Mite er ew a ops memory env [] cx mx lx (o ∷ os) cy my ly = refl
same_work v Mite er ew a ops memory env (p ∷ ps) cx mx lx [] cy my ly = refl
same_work v Mite er ew a ops memory env (p ∷ ps) cx mx lx (o ∷ os) cy my ly = refl
same_work v Nop er ew a ops memory env ox cx mx lx oy cy my ly = refl
same_work v Halt er ew a ops memory env ox cx mx lx oy cy my ly = refl

same_step : {E : Type 0} (v : Env E) (i : Option Instr) (b : Bool) (a : ℕ) (ops : List ℤ) (memory : List ℤ) (env : E)
    (ox : List Opened) (cx : ℕ) (mx : ℕ → ℕ) (lx : List Event) (oy : List Opened) (cy : ℕ) (my : ℕ → ℕ) (ly : List Event) →
    pose (cond b (mach a ops ox memory env cx mx lx b) (obey v i (mach a ops ox memory env cx mx lx b)))
    ≡ pose (cond b (mach a ops oy memory env cy my ly b) (obey v i (mach a ops oy memory env cy my ly b)))
same_step v i true a ops memory env ox cx mx lx oy cy my ly = refl
same_step v None false a ops memory env ox cx mx lx oy cy my ly = refl
same_step v (Some i) false a ops memory env ox cx mx lx oy cy my ly = same_work v i.work i.er i.ew a ops memory env ox cx mx lx oy cy my ly

-- a machine with another pose
abbrev posed : {E : Type 0} → Pose E → Machine E → Machine E
posed p y = mach p.place p.operands y.opened p.memory p.env y.core.clock y.core.misses y.core.log p.halted

pub step_posed : {E : Type 0} (v : Env E) (image : List Instr) (x y : Machine E) → pose x ≡ pose y → pose (step v image x) ≡ pose (step v image y)
step_posed v image x y e =
    same_step v (slice_get image x.place) x.halted x.place x.operands x.core.memory x.core.env x.opened x.core.clock x.core.misses x.core.log
    y.opened y.core.clock y.core.misses y.core.log
    ∙ ap (λ p. pose (step v image (posed p y))) e

abbrev entry_posed : {E : Type 0} → Env E → List Instr → Pose E → List Entry
entry_posed v image p = cond p.halted [] (entry_of v (slice_get image p.place) p.place p.operands p.env ∷ [])

pub entry_alike : {E : Type 0} (v : Env E) (image : List Instr) (x y : Machine E) → pose x ≡ pose y → entry v image x ≡ entry v image y
entry_alike v image x y e = ap (entry_posed v image) e

-- one step more at the end
pub steps_more : {E : Type 0} (v : Env E) (image : List Instr) (n : ℕ) (x : Machine E) → steps v image (suc n) x ≡ step v image (steps v image n x)
steps_more v image zero x = refl
steps_more v image (suc n) x = steps_more v image n (step v image x)

none_more : (es : List Entry) → es ++ [] ≡ es
none_more [] = refl
none_more (e ∷ es) = ap (λ z. e ∷ z) (none_more es)

pub trace_more : {E : Type 0} (v : Env E) (image : List Instr) (n : ℕ) (x : Machine E) →
    trace v image (suc n) x ≡ trace v image n x ++ entry v image (steps v image n x)
trace_more v image zero x = none_more (entry v image x)
trace_more v image (suc n) x =
    ap (λ z. entry v image x ++ z) (trace_more v image n (step v image x))
    ∙ sym (append_assoc (entry v image x) (trace v image n (step v image x)) (entry v image (steps v image n (step v image x))))
