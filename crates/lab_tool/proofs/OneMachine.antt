-- A file describes one machine at most, or is refused for one fault.
use Rattle.std.proofs.Common.{◌≡◌, ◌∙◌, ℕ, List, Option, Some, None, Result, Ok, Err, refl, sym, ap, subst, inl, inr}
use Rattle.std.proofs.lemmas.Option.{none-some, same_Some}
use Rattle.std.proofs.Props.{props}
use Rattle.toml.specs.Data.{Members}
use Rattle.part_tlb.specs.declared.bank.Hardware.{Hardware}
use Rattle.hardware.specs.Limits.{IsWithin}
use Rattle.hardware.specs.declared.make.MakeHardware.{MakeHardware}
use Rattle.start_file.specs.Starts.{IsDocument}
use Rattle.machine_file.specs.declared.fault.MachineFault.{MachineFault}
use Rattle.machine_file.specs.declared.fault.MachineFault.TheVariants.{NotToml}
use Rattle.machine_file.specs.Files.{Describes, Refused, no_document, no_machine, too_great, limit_fault}
use Rattle.machine_file.specs.Files.{machine_in as described_by}
use Rattle.tool_texts.specs.declared.status.Status.{Status}
use Rattle.tool_texts.specs.declared.status.Status.TheVariants as status
use Rattle.tool_texts.specs.Texts.{machine}
use Rattle.tool_stages.specs.Content.{IsKnown}
use Rattle.tool_stages.proofs.GoesLemmas.{one_told, not_long}
use Rattle.tool_stages.proofs.OneLemmas.{Same}
use Rattle.tool_stages.proofs.StageStops.{FileBreaks, file_goes}
use Rattle.machine_stage.specs.Lines.{machine_fault_line}
use Rattle.machine_stage.specs.Stage.{MachineIs, MachineStops, HasMachineFault}

-- ---- what makes environments is known by its hardware

is_within : (h : Hardware) → IsProp (IsWithin h)
is_within h = Prim.hlevel props

abbrev made : (h : Hardware) → IsWithin h → MakeHardware
made h w = record { hardware = h; within = w }

same_made : (h k : Hardware) (v : IsWithin h) (w : IsWithin k) → h ≡ k → made h v ≡ made k w
same_made h k v w e = subst (λ (z : Hardware). (u : IsWithin z) → made h v ≡ made z u) e (λ u. ap (made h) (is_within h v u)) w

-- ---- bytes

same_document : (bytes : List ℕ) (d e : Option Members) → IsDocument bytes d → IsDocument bytes e → d ≡ e
same_document bytes None None g h = refl
same_document bytes None (Some n) g h = absurd (none-some n (sym (g h.0) ∙ h.1))
same_document bytes (Some m) None g h = absurd (none-some m (sym (h g.0) ∙ g.1))
same_document bytes (Some m) (Some n) g h = sym g.1 ∙ h.1

abbrev fault_in : Result Hardware MachineFault → Option MachineFault
fault_in (Ok hw) = limit_fault hw
fault_in (Err e) = Some e

abbrev fault_of : Option Members → Option MachineFault
fault_of None = Some NotToml
fault_of (Some ms) = fault_in (described_by ms)

refused_for : (bytes : List ℕ) {e : MachineFault} → Refused bytes e → (d : Option Members) × IsDocument bytes d × (fault_of d ≡ Some e)
refused_for bytes (no_document h) = (None, h, refl)
refused_for bytes (no_machine ms f h is) = (Some ms, h, ap fault_in is)
refused_for bytes (too_great ms hw f h is over) = (Some ms, h, ap fault_in is ∙ over)

one_refusal : (bytes : List ℕ) (e f : MachineFault) → Refused bytes e → Refused bytes f → e ≡ f
one_refusal bytes e f h k =
    let a = refused_for bytes h in
    let b = refused_for bytes k in
    same_Some e f (sym a.2 ∙ ap fault_of (same_document bytes a.0 b.0 a.1 b.1) ∙ b.2)

not_refused : (bytes : List ℕ) (hw : Hardware) (e : MachineFault) → Describes bytes hw → Refused bytes e → ⊥
not_refused bytes hw e h k =
    let b = refused_for bytes k in
    none-some e (sym h.1.2 ∙ sym (ap fault_in h.1.1) ∙ ap fault_of (same_document bytes (Some h.0) b.0 h.1.0 b.1) ∙ b.2)

same_ok : (h k : Hardware) → ◌≡◌ {A = Result Hardware MachineFault} (Ok h) (Ok k) → h ≡ k
same_ok h k e = cc

one_hardware : (bytes : List ℕ) (h k : Hardware) → Describes bytes h → Describes bytes k → h ≡ k
one_hardware bytes h k a b =
    let document : a.0 ≡ b.0 = same_Some a.0 b.0 (same_document bytes (Some a.0) (Some b.0) a.1.0 b.1.0) in
    same_ok h k (sym a.1.1 ∙ ap described_by document ∙ b.1.1)

-- ---- a file

machine_breaks : (R : Type 0) (c : Option (Option (List ℕ))) (s : Status) (t : List ℕ) → MachineStops R c s t
    → FileBreaks R machine c (HasMachineFault c) status.Starts s t
machine_breaks R c status.Done t h = absurd h
machine_breaks R c status.Refused t h = absurd h
machine_breaks R c status.Syntax t h = absurd h
machine_breaks R c status.Starts t h = inr (inr (refl, h))
machine_breaks R c status.Usage t h = absurd h
machine_breaks R c status.ReadFault t h = inl (refl, h.0, h.1)
machine_breaks R c status.WriteFault t h = absurd h
machine_breaks R c status.TooLong t h = inr (inl (refl, h.0, h.1))
machine_breaks R c status.Budget t h = absurd h
machine_breaks R c status.Disagree t h = absurd h
machine_breaks R c status.Unfinished t h = absurd h
machine_breaks R c status.Memory t h = absurd h
machine_breaks R c status.Rejected t h = absurd h

module _ (R : Type 0) (c : Option (Option (List ℕ))) (n : R → ⊥) (known : IsKnown c) where
  one_line : (t x : List ℕ) → HasMachineFault c t → HasMachineFault c x → t ≡ x
  one_line t x f g =
      let bytes : f.bytes ≡ g.bytes = one_told c f.bytes g.bytes known f.are g.are in
      let fault : f.fault ≡ g.fault = one_refusal g.bytes f.fault g.fault (subst (λ (z : List ℕ). Refused z f.fault) bytes f.is) g.is in
      f.line ∙ ap machine_fault_line fault ∙ sym g.line

  one_break : (s u : Status) (t x : List ℕ) → FileBreaks R machine c (HasMachineFault c) status.Starts s t
      → FileBreaks R machine c (HasMachineFault c) status.Starts u x → Same s u t x
  one_break s u t x (inl h) k = absurd (n h.1)
  one_break s u t x (inr h) (inl k) = absurd (n k.1)
  one_break s u t x (inr (inl h)) (inr (inl k)) = (h.0 ∙ sym k.0, h.2 ∙ sym k.2)
  one_break s u t x (inr (inl h)) (inr (inr k)) = absurd (not_long c k.1.bytes known k.1.are k.1.short h.1)
  one_break s u t x (inr (inr h)) (inr (inl k)) = absurd (not_long c h.1.bytes known h.1.are h.1.short k.1)
  one_break s u t x (inr (inr h)) (inr (inr k)) = (h.0 ∙ sym k.0, one_line t x h.1 k.1)

  pub one_machine_stop : (s u : Status) (t x : List ℕ) → MachineStops R c s t → MachineStops R c u x → Same s u t x
  one_machine_stop s u t x h k = one_break s u t x (machine_breaks R c s t h) (machine_breaks R c u x k)

  no_fault : (m : MakeHardware) (t : List ℕ) → MachineIs c m → HasMachineFault c t → ⊥
  no_fault m t h f =
      let bytes : f.bytes ≡ h.bytes = one_told c f.bytes h.bytes known f.are h.are in
      not_refused h.bytes m.hardware f.fault h.describes (subst (λ (z : List ℕ). Refused z f.fault) bytes f.is)

  -- a file that describes a machine does not stop
  pub machine_goes : (m : MakeHardware) (s : Status) (t : List ℕ) → MachineIs c m → MachineStops R c s t → ⊥
  machine_goes m s t h k =
      file_goes R machine c (HasMachineFault c) status.Starts s t n (not_long c h.bytes known h.are h.short) (no_fault m t h) (machine_breaks R c s t k)

  pub one_machine : (a b : MakeHardware) → MachineIs c a → MachineIs c b → a ≡ b
  one_machine a b h k =
      let bytes : h.bytes ≡ k.bytes = one_told c h.bytes k.bytes known h.are k.are in
      let hardware : a.hardware ≡ b.hardware =
      one_hardware k.bytes a.hardware b.hardware (subst (λ (z : List ℕ). Describes z a.hardware) bytes h.describes) k.describes in
      same_made a.hardware b.hardware a.within b.within hardware
