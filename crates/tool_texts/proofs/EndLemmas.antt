-- How a call ends after its last write.
use Rattle.std.proofs.Common.{◌≡◌, ◌≢◌, ◌≤◌, ℕ, ◌+◌, List, [], ◌++◌, length, take, Option, refl, sym, ap, subst, ◌∙◌, arith, ◌⊎◌, inl, inr, Vec}
use Rattle.std.proofs.Common.{Global, Result, Ok, Err, IfOk, IfErr}
use Rattle.std.proofs.lemmas.List.{length-append, take-append-le}
use Rattle.std.proofs.Math.Seq.{take-append-add}
use Rattle.std.proofs.KnownBytes.{Appends-trans}
use Rattle.std.specs.Io.KnownBytes.{Appends}
use Rattle.tim_base.specs.Sinks.{AppendsPrefix}
use Rattle.tool_texts.specs.declared.status.Status.{Status}
use Rattle.tool_texts.specs.declared.status.Status.TheVariants.{Done, Refused, Syntax, Starts, Usage, ReadFault, WriteFault, TooLong, Budget, Disagree}
use Rattle.tool_texts.specs.declared.status.Status.TheVariants.{Unfinished, Memory, Rejected}
use Rattle.tool_texts.specs.Texts.{memory_line}
use Rattle.tool_texts.specs.Ends.{Broke, Tells, EndsBy, IsStop, Nothing, status_of, stop_text, told_status, told_text}
use Rattle.tool_texts.specs.declared.status.Status.TheVariants as status
use Rattle.tool_texts.specs.declared.stop.Stop.{Stop}

-- a stop of a stage is one of the command
pub tells_broke : (Before : List ℕ → Type 0) (A B : Status → List ℕ → Type 0) (s : Status) (t : List ℕ) → Before [] → ((u : List ℕ) → A s u → B s u)
    → Broke A s t → Tells Before B s t
tells_broke Before A B Done t b f h = f t h
tells_broke Before A B Refused t b f h = f t h
tells_broke Before A B Syntax t b f h = f t h
tells_broke Before A B Starts t b f h = f t h
tells_broke Before A B Usage t b f h = f t h
tells_broke Before A B ReadFault t b f h = f t h
tells_broke Before A B WriteFault t b f h = f t h
tells_broke Before A B TooLong t b f h = f t h
tells_broke Before A B Budget t b f h = f t h
tells_broke Before A B Disagree t b f h = f t h
tells_broke Before A B Unfinished t b f h = f t h
tells_broke Before A B Memory t b f h = ([], b, h)
tells_broke Before A B Rejected t b f h = f t h

pub tells_map : (Before Before' : List ℕ → Type 0) (A B : Status → List ℕ → Type 0) (s : Status) (t : List ℕ) → ((b : List ℕ) → Before b → Before' b)
    → ((u : List ℕ) → A s u → B s u) → Tells Before A s t → Tells Before' B s t
tells_map Before Before' A B Done t b f h = f t h
tells_map Before Before' A B Refused t b f h = f t h
tells_map Before Before' A B Syntax t b f h = f t h
tells_map Before Before' A B Starts t b f h = f t h
tells_map Before Before' A B Usage t b f h = f t h
tells_map Before Before' A B ReadFault t b f h = f t h
tells_map Before Before' A B WriteFault t b f h = f t h
tells_map Before Before' A B TooLong t b f h = f t h
tells_map Before Before' A B Budget t b f h = f t h
tells_map Before Before' A B Disagree t b f h = f t h
tells_map Before Before' A B Unfinished t b f h = f t h
tells_map Before Before' A B Memory t b f h = (h.0, b h.0 h.1, h.2)
tells_map Before Before' A B Rejected t b f h = f t h

-- a stop of some stages is one of more stages
pub broke_map : (A B : Status → List ℕ → Type 0) (s : Status) (t : List ℕ) → (A s t → B s t) → Broke A s t → Broke B s t
broke_map A B Done t f h = f h
broke_map A B Refused t f h = f h
broke_map A B Syntax t f h = f h
broke_map A B Starts t f h = f h
broke_map A B Usage t f h = f h
broke_map A B ReadFault t f h = f h
broke_map A B WriteFault t f h = f h
broke_map A B TooLong t f h = f h
broke_map A B Budget t f h = f h
broke_map A B Disagree t f h = f h
broke_map A B Unfinished t f h = f h
broke_map A B Memory t f h = h
broke_map A B Rejected t f h = f h

-- the text was written
pub ends_at : (old new : Option (List ℕ)) (Before : List ℕ → Type 0) (A : Status → List ℕ → Type 0) (r : Status) (t : List ℕ) → r ≢ WriteFault
    → Tells Before A r t → Appends old new t → EndsBy old new Before A r
ends_at old new Before A Done t n h w = (t, h, w)
ends_at old new Before A Refused t n h w = (t, h, w)
ends_at old new Before A Syntax t n h w = (t, h, w)
ends_at old new Before A Starts t n h w = (t, h, w)
ends_at old new Before A Usage t n h w = (t, h, w)
ends_at old new Before A ReadFault t n h w = (t, h, w)
ends_at old new Before A WriteFault t n h w = absurd (n refl)
ends_at old new Before A TooLong t n h w = (t, h, w)
ends_at old new Before A Budget t n h w = (t, h, w)
ends_at old new Before A Disagree t n h w = (t, h, w)
ends_at old new Before A Unfinished t n h w = (t, h, w)
ends_at old new Before A Memory t n h w = (t, h, w)
ends_at old new Before A Rejected t n h w = (t, h, w)

-- a text was written, or a write failed
pub ends_finish : (old new : Option (List ℕ)) (Before : List ℕ → Type 0) (A : Status → List ℕ → Type 0) (s : Status) (t : List ℕ) (r : Status)
    → Tells Before A s t
    → (r ≢ WriteFault → (r ≡ s) × Appends old new t) → (r ≡ WriteFault → AppendsPrefix old new t) → EndsBy old new Before A r
ends_finish old new Before A s t Done h told prefix = let k = told (λ e. cc) in (t, subst (λ (z : Status). Tells Before A z t) (sym k.0) h, k.1)
ends_finish old new Before A s t Refused h told prefix = let k = told (λ e. cc) in (t, subst (λ (z : Status). Tells Before A z t) (sym k.0) h, k.1)
ends_finish old new Before A s t Syntax h told prefix = let k = told (λ e. cc) in (t, subst (λ (z : Status). Tells Before A z t) (sym k.0) h, k.1)
ends_finish old new Before A s t Starts h told prefix = let k = told (λ e. cc) in (t, subst (λ (z : Status). Tells Before A z t) (sym k.0) h, k.1)
ends_finish old new Before A s t Usage h told prefix = let k = told (λ e. cc) in (t, subst (λ (z : Status). Tells Before A z t) (sym k.0) h, k.1)
ends_finish old new Before A s t ReadFault h told prefix = let k = told (λ e. cc) in (t, subst (λ (z : Status). Tells Before A z t) (sym k.0) h, k.1)
ends_finish old new Before A s t WriteFault h told prefix = (s, t, h, prefix refl)
ends_finish old new Before A s t TooLong h told prefix = let k = told (λ e. cc) in (t, subst (λ (z : Status). Tells Before A z t) (sym k.0) h, k.1)
ends_finish old new Before A s t Budget h told prefix = let k = told (λ e. cc) in (t, subst (λ (z : Status). Tells Before A z t) (sym k.0) h, k.1)
ends_finish old new Before A s t Disagree h told prefix = let k = told (λ e. cc) in (t, subst (λ (z : Status). Tells Before A z t) (sym k.0) h, k.1)
ends_finish old new Before A s t Unfinished h told prefix = let k = told (λ e. cc) in (t, subst (λ (z : Status). Tells Before A z t) (sym k.0) h, k.1)
ends_finish old new Before A s t Memory h told prefix = let k = told (λ e. cc) in (t, subst (λ (z : Status). Tells Before A z t) (sym k.0) h, k.1)
ends_finish old new Before A s t Rejected h told prefix = let k = told (λ e. cc) in (t, subst (λ (z : Status). Tells Before A z t) (sym k.0) h, k.1)

-- the text of a stop was written, or a write failed
pub ends_stop : (old new : Option (List ℕ)) (Before : List ℕ → Type 0) (A B : Status → List ℕ → Type 0) (s : Status) (t : List ℕ) (r : Status) → Before []
    → ((u : List ℕ) → A s u → B s u) → Broke A s t
    → (r ≢ WriteFault → (r ≡ s) × Appends old new t) → (r ≡ WriteFault → AppendsPrefix old new t) → EndsBy old new Before B r
ends_stop old new Before A B s t r b f h told prefix = ends_finish old new Before B s t r (tells_broke Before A B s t b f h) told prefix

-- the line for memory was written, or a write failed
pub ends_memory : (old new : Option (List ℕ)) (Before : List ℕ → Type 0) (A : Status → List ℕ → Type 0) (r : Status) → Before []
    → (r ≢ WriteFault → (r ≡ Memory) × Appends old new memory_line) → (r ≡ WriteFault → AppendsPrefix old new memory_line) → EndsBy old new Before A r
ends_memory old new Before A r b told prefix = ends_finish old new Before A Memory memory_line r ([], b, refl) told prefix

-- what ends by one answer ends by another
pub ends_map : (old new : Option (List ℕ)) (Before Before' : List ℕ → Type 0) (A B : Status → List ℕ → Type 0) (r : Status)
    → ((b : List ℕ) → Before b → Before' b) → ((s : Status) (u : List ℕ) → A s u → B s u)
    → EndsBy old new Before A r → EndsBy old new Before' B r
ends_map old new Before Before' A B Done b f h = (h.0, tells_map Before Before' A B Done h.0 b (f Done) h.1, h.2)
ends_map old new Before Before' A B Refused b f h = (h.0, tells_map Before Before' A B Refused h.0 b (f Refused) h.1, h.2)
ends_map old new Before Before' A B Syntax b f h = (h.0, tells_map Before Before' A B Syntax h.0 b (f Syntax) h.1, h.2)
ends_map old new Before Before' A B Starts b f h = (h.0, tells_map Before Before' A B Starts h.0 b (f Starts) h.1, h.2)
ends_map old new Before Before' A B Usage b f h = (h.0, tells_map Before Before' A B Usage h.0 b (f Usage) h.1, h.2)
ends_map old new Before Before' A B ReadFault b f h = (h.0, tells_map Before Before' A B ReadFault h.0 b (f ReadFault) h.1, h.2)
ends_map old new Before Before' A B WriteFault b f h = (h.0, h.1, tells_map Before Before' A B h.0 h.1 b (f h.0) h.2, h.3)
ends_map old new Before Before' A B TooLong b f h = (h.0, tells_map Before Before' A B TooLong h.0 b (f TooLong) h.1, h.2)
ends_map old new Before Before' A B Budget b f h = (h.0, tells_map Before Before' A B Budget h.0 b (f Budget) h.1, h.2)
ends_map old new Before Before' A B Disagree b f h = (h.0, tells_map Before Before' A B Disagree h.0 b (f Disagree) h.1, h.2)
ends_map old new Before Before' A B Unfinished b f h = (h.0, tells_map Before Before' A B Unfinished h.0 b (f Unfinished) h.1, h.2)
ends_map old new Before Before' A B Memory b f h = (h.0, tells_map Before Before' A B Memory h.0 b (f Memory) h.1, h.2)
ends_map old new Before Before' A B Rejected b f h = (h.0, tells_map Before Before' A B Rejected h.0 b (f Rejected) h.1, h.2)

-- ---- after bytes that were written before

pub prefix_after : (a b c : Option (List ℕ)) (xs ys all : List ℕ) → Appends a b xs → AppendsPrefix b c ys → xs ++ ys ≡ all → AppendsPrefix a c all
prefix_after a b c xs ys all p q e =
    let k : ℕ = q.0 in
    let short : k ≤ length ys = q.1 in
    let whole : length all ≡ length xs + length ys = ap length (sym e) ∙ length-append xs ys in
    let taken : xs ++ take k ys ≡ take (length xs + k) all = sym (take-append-add xs ys k) ∙ ap (take (length xs + k)) e in
    (length xs + k, omega (arith, whole, short), subst (Appends a c) taken (Appends-trans a b c xs (take k ys) p q.2))

pub prefix_longer : (a c : Option (List ℕ)) (xs ys : List ℕ) → AppendsPrefix a c xs → AppendsPrefix a c (xs ++ ys)
prefix_longer a c xs ys q =
    let k : ℕ = q.0 in
    let short : k ≤ length xs = q.1 in
    let whole = length-append xs ys in
    (k, omega (arith, whole, short), subst (Appends a c) (sym (take-append-le k xs ys short)) q.2)

pub ends_after : (old mid new : Option (List ℕ)) (Before : List ℕ → Type 0) (A : Status → List ℕ → Type 0) (xs : List ℕ) (s : Status) (ys : List ℕ) (r : Status)
    → Appends old mid xs → Tells Before A s (xs ++ ys)
    → (r ≢ WriteFault → (r ≡ s) × Appends mid new ys) → (r ≡ WriteFault → AppendsPrefix mid new ys) → EndsBy old new Before A r
ends_after old mid new Before A xs s ys r first h told prefix =
    ends_finish old new Before A s (xs ++ ys) r h (λ n. let k = told n in (k.0, Appends-trans old mid new xs ys first k.1))
    (λ e. prefix_after old mid new xs ys (xs ++ ys) first (prefix e) refl)

-- a call whose answer is done, and whose writes do not fail
pub ends_done : (old new : Option (List ℕ)) (Before : List ℕ → Type 0) (A : Status → List ℕ → Type 0) (r : Status) → EndsBy old new Before A r
    → (r ≡ status.WriteFault → ⊥) → ((t : List ℕ) → A r t → r ≡ status.Done) → (r ≡ status.Done) ⊎ (r ≡ status.Memory)
ends_done old new Before A status.Done h n f = inl refl
ends_done old new Before A status.Refused h n f = inl (f h.0 h.1)
ends_done old new Before A status.Syntax h n f = inl (f h.0 h.1)
ends_done old new Before A status.Starts h n f = inl (f h.0 h.1)
ends_done old new Before A status.Usage h n f = inl (f h.0 h.1)
ends_done old new Before A status.ReadFault h n f = inl (f h.0 h.1)
ends_done old new Before A status.WriteFault h n f = absurd (n refl)
ends_done old new Before A status.TooLong h n f = inl (f h.0 h.1)
ends_done old new Before A status.Budget h n f = inl (f h.0 h.1)
ends_done old new Before A status.Disagree h n f = inl (f h.0 h.1)
ends_done old new Before A status.Unfinished h n f = inl (f h.0 h.1)
ends_done old new Before A status.Memory h n f = inr refl
ends_done old new Before A status.Rejected h n f = inl (f h.0 h.1)

-- ---- a text or a stop that was made before it is written

-- a text or a stop that answers is told
pub result_tells : (Answer : Status → List ℕ → Type 0) (r : Result (Vec ℕ Global) Stop) → IfOk r (λ v. Answer Done v.items) → IfErr r (IsStop Answer)
    → Tells Nothing Answer (told_status r) (told_text r)
result_tells Answer (Ok v) h k = h
result_tells Answer (Err e) h k = tells_broke Nothing Answer Answer (status_of e) (stop_text e) refl (λ u x. x) k

-- where no answer is a write fault, no stop is one
pub no_fault : (Answer : Status → List ℕ → Type 0) (r : Result (Vec ℕ Global) Stop) → ((t : List ℕ) → Answer WriteFault t → ⊥)
    → IfErr r (IsStop Answer) → told_status r ≢ WriteFault
no_fault Answer (Ok v) f k = λ e. cc
no_fault Answer (Err e) f k = λ is. f (stop_text e) (subst (λ (s : Status). Broke Answer s (stop_text e)) is k)
