-- What a program comes to and what is told of starts: that a count of faults may have risen, and that none of it is a fault of files.
use Rattle.std.proofs.Common.{◌≡◌, ◌≢◌, ℕ, List, Option, Some, inl, inr, subst}
use Rattle.label_lattice.specs.declared.label.Label.{Label}
use Rattle.label_lattice.specs.Order.{Order}
use Rattle.mit_syntax.specs.Program.{Syntax}
use Rattle.timing_types.specs.Labelled.{LabelledProgram}
use Rattle.start_file.specs.Starts.{StartValue}
use Rattle.leak_audit.specs.declared.report.AuditFault.{AuditFault}
use Rattle.leak_audit.specs.declared.report.AuditFault.TheVariants as fault
use Rattle.tool_texts.specs.declared.status.Status.{Status}
use Rattle.tool_texts.specs.declared.status.Status.TheVariants as status
use Rattle.tool_texts.specs.declared.stop.Stop.{Stop}
use Rattle.tool_texts.specs.Ends.{Broke, IsStop, status_of, stop_text}
use Rattle.tool_texts.proofs.EndLemmas.{broke_map}
use Rattle.tool_stages.specs.declared.envs.Environment.{Environment}
use Rattle.tool_stages.specs.Stages.{Reads}
use Rattle.lab_runs.specs.Labels.{UnnamedStops, observer_option}
use Rattle.lab_why.specs.Faulty.{WhyStops}
use Rattle.lab_ready.specs.Answer.{Begins, IsRest, AuditTold, RefusalTold, refusal_status}
use Rattle.lab_ready.specs.Begun.{BeginStops}

-- ---- stops of several stages

-- a status and a text that are no want of memory
pub broke_plain : (A : Status → List ℕ → Type 0) (s : Status) (t : List ℕ) → (A status.Memory t → ⊥) → A s t → Broke A s t
broke_plain A status.Done t n h = h
broke_plain A status.Refused t n h = h
broke_plain A status.Syntax t n h = h
broke_plain A status.Starts t n h = h
broke_plain A status.Usage t n h = h
broke_plain A status.ReadFault t n h = h
broke_plain A status.WriteFault t n h = h
broke_plain A status.TooLong t n h = h
broke_plain A status.Budget t n h = h
broke_plain A status.Disagree t n h = h
broke_plain A status.Unfinished t n h = h
broke_plain A status.Memory t n h = absurd (n h)
broke_plain A status.Rejected t n h = h

pub broke_not : (A : Status → List ℕ → Type 0) (e : Stop) → ((t : List ℕ) → A status.WriteFault t → ⊥) → IsStop A e → status_of e ≢ status.WriteFault
broke_not A e f h = λ is. f (stop_text e) (subst (λ (s : Status). Broke A s (stop_text e)) is h)

pub status_not : (A : Status → List ℕ → Type 0) (s : Status) (t : List ℕ) → ((u : List ℕ) → A status.WriteFault u → ⊥) → A s t → s ≢ status.WriteFault
status_not A s t f h = λ is. f t (subst (λ (z : Status). A z t) is h)

pub status_not_read : (A : Status → List ℕ → Type 0) (s : Status) (t : List ℕ) → ((u : List ℕ) → A status.ReadFault u → ⊥) → A s t → s ≢ status.ReadFault
status_not_read A s t f h = λ is. f t (subst (λ (z : Status). A z t) is h)

-- ---- a program

why_rise : (R : Type 0) (c : Option (Option (List ℕ))) (s : Status) (t : List ℕ) → WhyStops ⊥ c s t → WhyStops R c s t
why_rise R c status.Done t h = h
why_rise R c status.Refused t h = h
why_rise R c status.Syntax t h = h
why_rise R c status.Starts t h = h
why_rise R c status.Usage t h = h
why_rise R c status.ReadFault t h = absurd h.0
why_rise R c status.WriteFault t h = h
why_rise R c status.TooLong t h = h
why_rise R c status.Budget t h = h
why_rise R c status.Disagree t h = h
why_rise R c status.Unfinished t h = h
why_rise R c status.Memory t h = h
why_rise R c status.Rejected t h = h

pub begins_rise : (R : Type 0) (c : Option (Option (List ℕ))) (w : List ℕ) (s : Status) (t : List ℕ) → BeginStops ⊥ c w s t → BeginStops R c w s t
begins_rise R c w s t (inl h) = inl (why_rise R c s t h)
begins_rise R c w s t (inr h) = inr h

-- what stops before the image stops the answer
pub begins_stop : (R : Type 0) (c : Option (Option (List ℕ))) (w : List ℕ) (Next : Syntax → LabelledProgram → Option Label → Status → List ℕ → Type 0)
    (s : Status) (t : List ℕ) → BeginStops R c w s t → Begins R c w Next s t
begins_stop R c w Next s t (inl h) = inl h
begins_stop R c w Next s t (inr (p, reads, inl h)) = inr (p, reads, inl h)
begins_stop R c w Next s t (inr (p, reads, inr (o, sees, inl h))) = inr (p, reads, inr (o, sees, inl h))
begins_stop R c w Next s t (inr (p, reads, inr (o, sees, inr (q, types, inl h)))) = inr (p, reads, inr (o, sees, inr (q, types, inl h)))
begins_stop R c w Next s t (inr (p, reads, inr (o, sees, inr (q, types, inr (code, image, h))))) = absurd h

pub begin_no_read : (c : Option (Option (List ℕ))) (w t : List ℕ) → BeginStops ⊥ c w status.ReadFault t → ⊥
begin_no_read c w t (inl h) = h.0
begin_no_read c w t (inr (p, reads, inl h)) = h
begin_no_read c w t (inr (p, reads, inr (o, sees, inl h))) = h
begin_no_read c w t (inr (p, reads, inr (o, sees, inr (q, types, inl h)))) = h
begin_no_read c w t (inr (p, reads, inr (o, sees, inr (q, types, inr (code, image, h))))) = h

pub begin_no_fault : (R : Type 0) (c : Option (Option (List ℕ))) (w t : List ℕ) → BeginStops R c w status.WriteFault t → ⊥
begin_no_fault R c w t (inl h) = h
begin_no_fault R c w t (inr (p, reads, inl h)) = h
begin_no_fault R c w t (inr (p, reads, inr (o, sees, inl h))) = h
begin_no_fault R c w t (inr (p, reads, inr (o, sees, inr (q, types, inl h)))) = h
begin_no_fault R c w t (inr (p, reads, inr (o, sees, inr (q, types, inr (code, image, h))))) = h

pub begin_no_memory : (R : Type 0) (c : Option (Option (List ℕ))) (w t : List ℕ) → BeginStops R c w status.Memory t → ⊥
begin_no_memory R c w t (inl h) = h
begin_no_memory R c w t (inr (p, reads, inl h)) = h
begin_no_memory R c w t (inr (p, reads, inr (o, sees, inl h))) = h
begin_no_memory R c w t (inr (p, reads, inr (o, sees, inr (q, types, inl h)))) = h
begin_no_memory R c w t (inr (p, reads, inr (o, sees, inr (q, types, inr (code, image, h))))) = h

-- no label has the observer's name
pub label_stops : (c : Option (Option (List ℕ))) (w : List ℕ) (p : Syntax) (order : Order) (e : Stop) → Reads c p → order ≡ p.order
    → IsStop (UnnamedStops observer_option order (Some w)) e → IsStop (BeginStops ⊥ c w) e
label_stops c w p order e reads is h =
    let at : IsStop (UnnamedStops observer_option p.order (Some w)) e =
    subst (λ (z : Order). IsStop (UnnamedStops observer_option z (Some w)) e) is h in
    broke_map (UnnamedStops observer_option p.order (Some w)) (BeginStops ⊥ c w) (status_of e) (stop_text e) (λ k. inr (p, reads, inl k)) at

pub begin_stop_rise : (R : Type 0) (c : Option (Option (List ℕ))) (w : List ℕ) (e : Stop) → IsStop (BeginStops ⊥ c w) e → IsStop (BeginStops R c w) e
begin_stop_rise R c w e h = broke_map (BeginStops ⊥ c w) (BeginStops R c w) (status_of e) (stop_text e) (begins_rise R c w (status_of e) (stop_text e)) h

-- ---- starts

not_write : (f : AuditFault) → status.WriteFault ≡ refusal_status f → ⊥
not_write (fault.Disagree run what) e = cc e
not_write (fault.Unfinished run cycle) e = cc e
not_write (fault.TooMuch count) e = cc e
not_write fault.Memory e = cc e

not_read : (f : AuditFault) → status.ReadFault ≡ refusal_status f → ⊥
not_read (fault.Disagree run what) e = cc e
not_read (fault.Unfinished run cycle) e = cc e
not_read (fault.TooMuch count) e = cc e
not_read fault.Memory e = cc e

module _ (e : Environment) (t : ℕ) (q : LabelledProgram) (l : Label) (ss : List StartValue) (x : List ℕ) where
  no_memory_told : RefusalTold e t q l ss status.Memory x → ⊥
  no_memory_told (fault.Disagree run what, is, s, h) = cc s
  no_memory_told (fault.Unfinished run cycle, is, s, h) = cc s
  no_memory_told (fault.TooMuch count, is, s, h) = cc s
  no_memory_told (fault.Memory, is, s, h) = h

  no_audit_fault : AuditTold e t q (Some l) ss status.WriteFault x → ⊥
  no_audit_fault (inl (f, is, s, h)) = not_write f s
  no_audit_fault (inr (r, is, h)) = cc (h.0)

  no_audit_read : AuditTold e t q (Some l) ss status.ReadFault x → ⊥
  no_audit_read (inl (f, is, s, h)) = not_read f s
  no_audit_read (inr (r, is, h)) = cc (h.0)

  no_audit_memory : AuditTold e t q (Some l) ss status.Memory x → ⊥
  no_audit_memory (inl h) = no_memory_told h
  no_audit_memory (inr (r, is, h)) = cc (h.0)

module _ (c : Option (Option (List ℕ))) (e : Environment) (t : ℕ) (p : Syntax) (q : LabelledProgram) (l : Label) (x : List ℕ) where
  pub rest_no_fault : (R : Type 0) → IsRest R c e t p q (Some l) status.WriteFault x → ⊥
  rest_no_fault R (inl h) = h
  rest_no_fault R (inr (ss, are, h)) = no_audit_fault e t q l ss x h

  pub rest_no_memory : (R : Type 0) → IsRest R c e t p q (Some l) status.Memory x → ⊥
  rest_no_memory R (inl h) = h
  rest_no_memory R (inr (ss, are, h)) = no_audit_memory e t q l ss x h

  pub rest_no_read : IsRest ⊥ c e t p q (Some l) status.ReadFault x → ⊥
  rest_no_read (inl h) = h.0
  rest_no_read (inr (ss, are, h)) = no_audit_read e t q l ss x h
