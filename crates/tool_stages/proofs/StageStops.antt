-- What each stage stops with: the statuses that it has stops for.
use Rattle.std.proofs.Common.{◌≡◌, ◌<◌, ◌⊎◌, ℕ, List, length, Option, inl, inr, refl, codes}
use Rattle.tim_base.specs.Told.{IsTooLong}
use Rattle.label_lattice.specs.Order.{Order}
use Rattle.mit_syntax.specs.Program.{Syntax}
use Rattle.timing_types.specs.Labelled.{LabelledProgram}
use Rattle.code_lower.specs.Lowered.{lowered}
use Rattle.tool_texts.specs.declared.status.Status.{Status}
use Rattle.tool_texts.specs.declared.status.Status.TheVariants as status
use Rattle.tool_texts.specs.Texts.{File, program, starts, ready, certificate, usage_text, read_fault_line, too_long_line, number_line}
use Rattle.tool_stages.specs.Stages.{HasTextFault, HasParseFault, ProgramStops, IsUnknown, ObserverStops, HasNoType, TypeStops, ImageStops, HasStartFault}
use Rattle.tool_stages.specs.Stages.{StartStops, HasReadyFault, ReadyStops, HasWrongLine, CertificateStops}

-- ---- a file: it was not read, is too long, or is faulty

abbrev pub FileBreaks : Type 0 → File → Option (Option (List ℕ)) → (List ℕ → Type 0) → Status → Status → List ℕ → Type 0
FileBreaks R f c Faulty v s t =
    ((s ≡ status.ReadFault) × R × (t ≡ read_fault_line f)) ⊎ (((s ≡ status.TooLong) × IsTooLong c × (t ≡ too_long_line f)) ⊎ ((s ≡ v) × Faulty t))

-- a file that is read, not too long and without fault
pub file_goes : (R : Type 0) (f : File) (c : Option (Option (List ℕ))) (Faulty : List ℕ → Type 0) (v s : Status) (t : List ℕ) → (R → ⊥) → (IsTooLong c → ⊥)
    → (Faulty t → ⊥) → FileBreaks R f c Faulty v s t → ⊥
file_goes R f c Faulty v s t n short good (inl h) = n h.1
file_goes R f c Faulty v s t n short good (inr (inl h)) = short h.1
file_goes R f c Faulty v s t n short good (inr (inr h)) = good h.1

abbrev pub BadText : Option (Option (List ℕ)) → List ℕ → Type 0
BadText c t = HasTextFault c t ⊎ HasParseFault c t

pub program_stops : (R : Type 0) (c : Option (Option (List ℕ))) (s : Status) (t : List ℕ) → ProgramStops R c s t
    → FileBreaks R program c (BadText c) status.Syntax s t
program_stops R c status.Done t h = absurd h
program_stops R c status.Refused t h = absurd h
program_stops R c status.Syntax t h = inr (inr (refl, h))
program_stops R c status.Starts t h = absurd h
program_stops R c status.Usage t h = absurd h
program_stops R c status.ReadFault t h = inl (refl, h.0, h.1)
program_stops R c status.WriteFault t h = absurd h
program_stops R c status.TooLong t h = inr (inl (refl, h.0, h.1))
program_stops R c status.Budget t h = absurd h
program_stops R c status.Disagree t h = absurd h
program_stops R c status.Unfinished t h = absurd h
program_stops R c status.Memory t h = absurd h
program_stops R c status.Rejected t h = absurd h

pub start_stops : (R : Type 0) (c : Option (Option (List ℕ))) (p : Syntax) (s : Status) (t : List ℕ) → StartStops R c p s t
    → FileBreaks R starts c (HasStartFault c p) status.Starts s t
start_stops R c p status.Done t h = absurd h
start_stops R c p status.Refused t h = absurd h
start_stops R c p status.Syntax t h = absurd h
start_stops R c p status.Starts t h = inr (inr (refl, h))
start_stops R c p status.Usage t h = absurd h
start_stops R c p status.ReadFault t h = inl (refl, h.0, h.1)
start_stops R c p status.WriteFault t h = absurd h
start_stops R c p status.TooLong t h = inr (inl (refl, h.0, h.1))
start_stops R c p status.Budget t h = absurd h
start_stops R c p status.Disagree t h = absurd h
start_stops R c p status.Unfinished t h = absurd h
start_stops R c p status.Memory t h = absurd h
start_stops R c p status.Rejected t h = absurd h

pub ready_stops : (R : Type 0) (c : Option (Option (List ℕ))) (s : Status) (t : List ℕ) → ReadyStops R c s t
    → FileBreaks R ready c (HasReadyFault c) status.Starts s t
ready_stops R c status.Done t h = absurd h
ready_stops R c status.Refused t h = absurd h
ready_stops R c status.Syntax t h = absurd h
ready_stops R c status.Starts t h = inr (inr (refl, h))
ready_stops R c status.Usage t h = absurd h
ready_stops R c status.ReadFault t h = inl (refl, h.0, h.1)
ready_stops R c status.WriteFault t h = absurd h
ready_stops R c status.TooLong t h = inr (inl (refl, h.0, h.1))
ready_stops R c status.Budget t h = absurd h
ready_stops R c status.Disagree t h = absurd h
ready_stops R c status.Unfinished t h = absurd h
ready_stops R c status.Memory t h = absurd h
ready_stops R c status.Rejected t h = absurd h

pub certificate_stops : (R : Type 0) (c : Option (Option (List ℕ))) (p : Syntax) (s : Status) (t : List ℕ) → CertificateStops R c p s t
    → FileBreaks R certificate c (HasWrongLine c p) status.Rejected s t
certificate_stops R c p status.Done t h = absurd h
certificate_stops R c p status.Refused t h = absurd h
certificate_stops R c p status.Syntax t h = absurd h
certificate_stops R c p status.Starts t h = absurd h
certificate_stops R c p status.Usage t h = absurd h
certificate_stops R c p status.ReadFault t h = inl (refl, h.0, h.1)
certificate_stops R c p status.WriteFault t h = absurd h
certificate_stops R c p status.TooLong t h = inr (inl (refl, h.0, h.1))
certificate_stops R c p status.Budget t h = absurd h
certificate_stops R c p status.Disagree t h = absurd h
certificate_stops R c p status.Unfinished t h = absurd h
certificate_stops R c p status.Memory t h = absurd h
certificate_stops R c p status.Rejected t h = inr (inr (refl, h))

-- ---- an observer, labels, an image: one status each

pub observer_stops : (o : Order) (w : Option (List ℕ)) (s : Status) (t : List ℕ) → ObserverStops o w s t → (s ≡ status.Usage) × IsUnknown o w × (t ≡ usage_text)
observer_stops o w status.Done t h = absurd h
observer_stops o w status.Refused t h = absurd h
observer_stops o w status.Syntax t h = absurd h
observer_stops o w status.Starts t h = absurd h
observer_stops o w status.Usage t h = (refl, h.0, h.1)
observer_stops o w status.ReadFault t h = absurd h
observer_stops o w status.WriteFault t h = absurd h
observer_stops o w status.TooLong t h = absurd h
observer_stops o w status.Budget t h = absurd h
observer_stops o w status.Disagree t h = absurd h
observer_stops o w status.Unfinished t h = absurd h
observer_stops o w status.Memory t h = absurd h
observer_stops o w status.Rejected t h = absurd h

pub type_stops : (p : Syntax) (s : Status) (t : List ℕ) → TypeStops p s t → (s ≡ status.Refused) × HasNoType p t
type_stops p status.Done t h = absurd h
type_stops p status.Refused t h = (refl, h)
type_stops p status.Syntax t h = absurd h
type_stops p status.Starts t h = absurd h
type_stops p status.Usage t h = absurd h
type_stops p status.ReadFault t h = absurd h
type_stops p status.WriteFault t h = absurd h
type_stops p status.TooLong t h = absurd h
type_stops p status.Budget t h = absurd h
type_stops p status.Disagree t h = absurd h
type_stops p status.Unfinished t h = absurd h
type_stops p status.Memory t h = absurd h
type_stops p status.Rejected t h = absurd h

pub image_stops : (q : LabelledProgram) (s : Status) (t : List ℕ) → ImageStops q s t → (s ≡ status.TooLong) × (200000 < length (lowered q).instrs)
    × (t ≡ number_line (codes "too long: image ") (length (lowered q).instrs))
image_stops q status.Done t h = absurd h
image_stops q status.Refused t h = absurd h
image_stops q status.Syntax t h = absurd h
image_stops q status.Starts t h = absurd h
image_stops q status.Usage t h = absurd h
image_stops q status.ReadFault t h = absurd h
image_stops q status.WriteFault t h = absurd h
image_stops q status.TooLong t h = (refl, h.0, h.1)
image_stops q status.Budget t h = absurd h
image_stops q status.Disagree t h = absurd h
image_stops q status.Unfinished t h = absurd h
image_stops q status.Memory t h = absurd h
image_stops q status.Rejected t h = absurd h
