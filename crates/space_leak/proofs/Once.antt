-- Of a space one thing is told.
use Rattle.std.proofs.Common.{◌≡◌, ◌∙◌, ◌⊎◌, ◌<◌, ◌≤◌, ◌++◌, refl, sym, ap, subst, ℕ, List, [], Option, None, Some, Ok, Err, inl, inr, ⊎_elim, arith}
use Rattle.std.proofs.lemmas.Bool.{cases_lt}
use Rattle.label_lattice.specs.declared.label.Label.{Label}
use Rattle.timing_types.specs.Labelled.{LabelledProgram}
use Rattle.leak_classes.specs.declared.fault.WalkFault.{WalkFault}
use Rattle.leak_classes.specs.declared.fault.WalkFault.TheVariants.{Unfinished, TooMuch, Memory as NoMemory}
use Rattle.leak_classes.specs.Classes.{Classes, no_classes}
use Rattle.leak_classes.proofs.Walked.{walk, classes_walk, fault_walk}
use Rattle.leak_numbers.proofs.Lines.{one_text}
use Rattle.space_starts.specs.Space.{SpaceValue, size_of}
use Rattle.space_walk.specs.Agreeing.{IsFirstRanging}
use Rattle.space_walk.specs.Shown.{one}
use Rattle.tool_texts.specs.declared.status.Status.{Status}
use Rattle.tool_texts.specs.declared.status.Status.TheVariants as status
use Rattle.tool_texts.specs.Reports.{unfinished_line, events_line}
use Rattle.tool_stages.specs.declared.envs.Environment.{Environment}
use Rattle.tool_stages.proofs.OneLemmas.{Same}
use Rattle.machine_stage.specs.Lines.{machine_head}
use Rattle.space_leak.specs.Answer.{shown_in, end_in, HasClasses, HasWalkFault, SpaceStops, HasSpaceLeak}
use Rattle.space_leak.specs.Text.{sizes_of, class_lines, head_lines, IsSpaceText, ranging_line}

module _ (e : Environment) (t : ℕ) (q : LabelledProgram) (l : Label) (s : SpaceValue) where
  abbrev IsRanging : Status → List ℕ → Type 0
  IsRanging st x = (st ≡ status.Disagree) × (v : ℕ) × IsFirstRanging q l.number s.memory v × (x ≡ ranging_line q.program v)

  abbrev line_of : WalkFault → List ℕ
  line_of (Unfinished n cycle) = unfinished_line n cycle
  line_of (TooMuch count) = events_line count
  line_of NoMemory = []

  abbrev status_by : WalkFault → Status
  status_by (Unfinished n cycle) = status.Unfinished
  status_by (TooMuch count) = status.TooLong
  status_by NoMemory = status.Memory

  abbrev IsWalkStop : Status → List ℕ → Type 0
  IsWalkStop st x = (f : WalkFault) × (st ≡ status_by f) × HasWalkFault e t q l.number s f × (x ≡ line_of f)

  stopped : (st : Status) (x : List ℕ) → SpaceStops e t q l s st x → IsRanging st x ⊎ IsWalkStop st x
  stopped status.Done x h = absurd h
  stopped status.Refused x h = absurd h
  stopped status.Syntax x h = absurd h
  stopped status.Starts x h = absurd h
  stopped status.Usage x h = absurd h
  stopped status.ReadFault x h = absurd h
  stopped status.WriteFault x h = absurd h
  stopped status.TooLong x h = inr (TooMuch h.0, refl, h.1, h.2)
  stopped status.Budget x h = absurd h
  stopped status.Disagree x h = inl (refl, h.0, h.1, h.2)
  stopped status.Unfinished x h = inr (Unfinished h.0 h.1, refl, h.2, h.3)
  stopped status.Memory x h = absurd h
  stopped status.Rejected x h = absurd h

  one_ranging : (v w : ℕ) → IsFirstRanging q l.number s.memory v → IsFirstRanging q l.number s.memory w → v ≡ w
  one_ranging v w h k =
      ⊎_elim (λ (lt : v < w). absurd (k.first v lt h.here))
      (λ (le : w ≤ v). ⊎_elim (λ (lt : w < v). absurd (h.first w lt k.here)) (λ (ge : v ≤ w). omega (arith, le, ge)) (cases_lt w v)) (cases_lt v w)

  classes_for : (k : Classes) → HasClasses e t q l.number s k
      → walk (shown_in e t q l.number s) (end_in e t q s) one no_classes 0 (size_of s) ≡ Ok k
  classes_for k h = classes_walk (shown_in e t q l.number s) (end_in e t q s) one 0 (size_of s) k h.classes

  fault_at : (f : WalkFault) → HasWalkFault e t q l.number s f
      → walk (shown_in e t q l.number s) (end_in e t q s) one no_classes 0 (size_of s) ≡ Err f
  fault_at f h = fault_walk (shown_in e t q l.number s) (end_in e t q s) one 0 (size_of s) f h.fault

  one_stop : (st u : Status) (x y : List ℕ) → IsRanging st x ⊎ IsWalkStop st x → IsRanging u y ⊎ IsWalkStop u y → Same st u x y
  one_stop st u x y (inl h) (inl k) = (h.0 ∙ sym k.0, h.3 ∙ ap (ranging_line q.program) (one_ranging h.1 k.1 h.2 k.2) ∙ sym k.3)
  one_stop st u x y (inl h) (inr k) = absurd (k.2.agree h.1 h.2.here)
  one_stop st u x y (inr h) (inl k) = absurd (h.2.agree k.1 k.2.here)
  one_stop st u x y (inr h) (inr k) =
      let both : Err h.0 ≡ Err k.0 = sym (fault_at h.0 h.2) ∙ fault_at k.0 k.2 in
      let same : h.0 ≡ k.0 = cc in
      (h.1 ∙ ap status_by same ∙ sym k.1, h.3 ∙ ap line_of same ∙ sym k.3)

  stopped_or_not : (k : Classes) (st : Status) (x : List ℕ) → HasClasses e t q l.number s k → IsRanging st x ⊎ IsWalkStop st x → ⊥
  stopped_or_not k st x h (inl r) = h.agree r.1 r.2.here
  stopped_or_not k st x h (inr r) = let both : Ok k ≡ Err r.0 = sym (classes_for k h) ∙ fault_at r.0 r.2 in absurd cc

  one_classes : (j k : Classes) → HasClasses e t q l.number s j → HasClasses e t q l.number s k → j ≡ k
  one_classes j k h i = h.classes.classes ∙ sym i.classes.classes

  one_space_text : (k : Classes) (x y : List ℕ) → IsSpaceText e q l t s k x → IsSpaceText e q l t s k y → x ≡ y
  one_space_text k x y h i =
      let numbers = one_text (size_of s) (sizes_of k) h.0 i.0 h.1 i.1 in
      let rest = class_lines q.program.declarations k.seen k.firsts in
      h.2 ∙ ap (λ z. (machine_head e ++ head_lines q.program.order l t (size_of s)) ++ (z ++ rest)) numbers ∙ sym i.2

pub one_space_leak : (e : Environment) (t : ℕ) (q : LabelledProgram) (o : Option Label) (s : SpaceValue) (st u : Status) (x y : List ℕ)
    → HasSpaceLeak e t q o s st x → HasSpaceLeak e t q o s u y → Same st u x y
one_space_leak e t q None s st u x y h k = absurd h
one_space_leak e t q (Some l) s st u x y (inl h) (inl k) = one_stop e t q l s st u x y (stopped e t q l s st x h) (stopped e t q l s u y k)
one_space_leak e t q (Some l) s st u x y (inl h) (inr k) = absurd (stopped_or_not e t q l s k.0 st x k.1 (stopped e t q l s st x h))
one_space_leak e t q (Some l) s st u x y (inr h) (inl k) = absurd (stopped_or_not e t q l s h.0 u y h.1 (stopped e t q l s u y k))
one_space_leak e t q (Some l) s st u x y (inr h) (inr k) =
    let same = one_classes e t q l s k.0 h.0 k.1 h.1 in
    (h.2.0 ∙ sym k.2.0, one_space_text e t q l s h.0 x y h.2.1 (subst (λ (z : Classes). IsSpaceText e q l t s z y) same k.2.1))

-- ---- no answer is a write fault or a read fault

pub no_write_fault : (e : Environment) (t : ℕ) (q : LabelledProgram) (o : Option Label) (s : SpaceValue) (x : List ℕ)
    → HasSpaceLeak e t q o s status.WriteFault x → ⊥
no_write_fault e t q None s x h = h
no_write_fault e t q (Some l) s x (inl h) = h
no_write_fault e t q (Some l) s x (inr h) = cc (h.2.0)

pub no_read_fault : (e : Environment) (t : ℕ) (q : LabelledProgram) (o : Option Label) (s : SpaceValue) (x : List ℕ)
    → HasSpaceLeak e t q o s status.ReadFault x → ⊥
no_read_fault e t q None s x h = h
no_read_fault e t q (Some l) s x (inl h) = h
no_read_fault e t q (Some l) s x (inr h) = cc (h.2.0)
