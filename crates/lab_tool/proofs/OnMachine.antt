-- What comes after a machine: where it has one answer, where it can end, and what may stand before the line for memory.
use Rattle.std.proofs.Common.{◌≡◌, ◌⊎◌, ℕ, List, [], ◌++◌, All, Option, refl, sym, subst, inl, inr}
use Rattle.std.proofs.lemmas.List.Elements.{All-cons, All-head, All-nil, All-tail}
use Rattle.hardware.specs.declared.make.MakeHardware.{MakeHardware}
use Rattle.tool_texts.specs.declared.status.Status.{Status}
use Rattle.tool_texts.specs.Ends.{EndsBy}
use Rattle.tool_texts.proofs.EndLemmas.{ends_map}
use Rattle.tool_stages.specs.Content.{Content, IsKnown, AreKnown, NoneRises}
use Rattle.tool_stages.specs.Stages.{Then}
use Rattle.tool_stages.specs.declared.envs.Environment.{Environment}
use Rattle.tool_stages.specs.declared.envs.Environment.TheVariants.{Named, Described}
use Rattle.tool_stages.proofs.ChainLemmas.{first_file}
use Rattle.tool_stages.proofs.OneLemmas.{Same, then_one}
use Rattle.machine_stage.specs.Stage.{MachineIs, MachineStops}
use Rattle.lab_words.specs.QuestionAsked.{MachineAsked, named, described}
use Rattle.lab_tool.specs.Machines.{machine_files, OnMachine, BeforeOn, GoesOn}
use Rattle.lab_tool.proofs.OneMachine.{machine_goes, one_machine, one_machine_stop}

-- the file of a machine, and the others
pub split_files : (P : List ℕ → Type 0) (machine : MachineAsked) (others : List (List ℕ)) → All P (machine_files machine ++ others)
    → All P (machine_files machine) × All P others
split_files P (named env) others h = (All-nil P, h)
split_files P (described file) others h = (All-cons P file [] (All-head P file others h) (All-nil P), All-tail P file others h)

pub before_on : (content : Content) (machine : MachineAsked) (Before : Environment → List ℕ → Type 0) → ((e : Environment) → Before e [])
    → BeforeOn content machine Before []
before_on content (named env) Before h = h (Named env)
before_on content (described file) Before h = inl refl

-- where there is one answer in each environment, there is one
pub one_on : (Rises : List ℕ → Type 0) (content : Content) (machine : MachineAsked) (Answer : Environment → Status → List ℕ → Type 0) (s u : Status)
    (t x : List ℕ) → AreKnown content (machine_files machine) → NoneRises Rises (machine_files machine)
    → ((e : Environment) → Answer e s t → Answer e u x → Same s u t x)
    → OnMachine Rises content machine Answer s t → OnMachine Rises content machine Answer u x → Same s u t x
one_on Rises content (named env) Answer s u t x known none one h k = one (Named env) h k
one_on Rises content (described file) Answer s u t x known none one h k =
    let good = first_file Rises content file [] none known in
    then_one (MachineStops (Rises file) (content file)) (MachineIs (content file)) (λ m. Answer (Described m)) s u t x
    (one_machine_stop (Rises file) (content file) good.0 good.1 s u t x)
    (λ m v y g stop. machine_goes (Rises file) (content file) good.0 good.1 m v y g stop)
    (one_machine (Rises file) (content file) good.0 good.1) (λ m g. one (Described m)) h k

-- ---- where it can end in the environment, it ends so

module _ (R : Type 0) (c : Option (Option (List ℕ))) (n : R → ⊥) (known : IsKnown c) (m : MakeHardware) (is : MachineIs c m) where
  settled : (Answer : Environment → Status → List ℕ → Type 0) (s : Status) (t : List ℕ) → Then (MachineStops R c) (MachineIs c) (λ m. Answer (Described m)) s t
      → Answer (Described m) s t
  settled Answer s t (inl h) = absurd (machine_goes R c n known m s t is h)
  settled Answer s t (inr h) =
      let same : h.0 ≡ m = one_machine R c n known h.0 m h.1 is in
      subst (λ (z : MakeHardware). Answer (Described z) s t) same h.2

  settled_before : (Before : Environment → List ℕ → Type 0) (b : List ℕ) → Before (Described m) []
      → (b ≡ []) ⊎ ((m : MakeHardware) × MachineIs c m × Before (Described m) b) → Before (Described m) b
  settled_before Before b none (inl e) = subst (λ (z : List ℕ). Before (Described m) z) (sym e) none
  settled_before Before b none (inr h) =
      let same : h.0 ≡ m = one_machine R c n known h.0 m h.1 is in
      subst (λ (z : MakeHardware). Before (Described z) b) same h.2

pub ends_on : (old new : Option (List ℕ)) (Rises : List ℕ → Type 0) (content : Content) (machine : MachineAsked) (Before : Environment → List ℕ → Type 0)
    (Answer : Environment → Status → List ℕ → Type 0) (Goes : Environment → Type 0) (r : Status) (End : Type 0)
    → AreKnown content (machine_files machine) → NoneRises Rises (machine_files machine) → ((e : Environment) → Before e [])
    → ((e : Environment) → Goes e → EndsBy old new (Before e) (Answer e) r → End)
    → GoesOn content machine Goes → EndsBy old new (BeforeOn content machine Before) (OnMachine Rises content machine Answer) r → End
ends_on old new Rises content (named env) Before Answer Goes r End known none begun f can ends = f (Named env) can ends
ends_on old new Rises content (described file) Before Answer Goes r End known none begun f can ends =
    let good = first_file Rises content file [] none known in
    f (Described can.0) can.2 (ends_map old new (BeforeOn content (described file) Before) (Before (Described can.0))
    (OnMachine Rises content (described file) Answer) (Answer (Described can.0)) r
    (λ b. settled_before (Rises file) (content file) good.0 good.1 can.0 can.1 Before b (begun (Described can.0)))
    (settled (Rises file) (content file) good.0 good.1 can.0 can.1 Answer) ends)
