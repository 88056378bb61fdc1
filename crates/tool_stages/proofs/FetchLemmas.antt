-- Fetches one after the other, stops that are not read faults, and what a call has fetched at its end.
use Rattle.std.proofs.Common.{◌≡◌, ◌≢◌, ◌⊎◌, ℕ, Bool, true, false, List, [], ◌∷◌, ◌++◌, Option, Result, Ok, Err, IsErrAnd, Vec, Global}
use Rattle.std.proofs.Common.{inl, inr, refl, sym, ap, ◌∙◌, subst}
use Rattle.tim_base.specs.Told.{IsTooLong}
use Rattle.tim_base.specs.Logs.{Fetched}
use Rattle.tim_base.proofs.LogLemmas.{Grows-nil, Grows-trans}
use Rattle.tool_texts.specs.declared.status.Status.{Status}
use Rattle.tool_texts.specs.declared.status.Status.TheVariants as status
use Rattle.tool_texts.specs.declared.stop.Stop.{Stop}
use Rattle.tool_texts.specs.Ends.{IsStop, Broke, status_of, stop_text, told_status}
use Rattle.tool_texts.specs.Texts.{File, read_fault_line, too_long_line}
use Rattle.tool_texts.proofs.EndLemmas.{broke_map}
use Rattle.tool_stages.specs.Fetches.{AreGiven, AreBegun, Fetches, HasFetched, FileStops, is_read_fault}

-- what was given is begun
pub given_begun : (names : List (List ℕ)) (log : List Fetched) → AreGiven names log → AreBegun names false log
given_begun [] log g = (g, refl)
given_begun (name ∷ names) log g = inr (inr (g.0, g.1, g.2, given_begun names g.1 g.3))

-- other files come after those that were given
pub given_then : (names more : List (List ℕ)) (a b : List Fetched) → AreGiven names a → AreGiven more b → AreGiven (names ++ more) (a ++ b)
given_then [] more a b g h = subst (λ l. AreGiven more (l ++ b)) (sym g) h
given_then (name ∷ names) more a b g h =
    (g.0, g.1 ++ b, ap (λ l. l ++ b) g.2, given_then names more g.1 b g.3 h)

pub begun_then : (names more : List (List ℕ)) (f : Bool) (a b : List Fetched) → AreGiven names a → AreBegun more f b → AreBegun (names ++ more) f (a ++ b)
begun_then [] more f a b g h = subst (λ l. AreBegun more f (l ++ b)) (sym g) h
begun_then (name ∷ names) more f a b g h =
    inr (inr (g.0, g.1 ++ b, ap (λ l. l ++ b) g.2, begun_then names more f g.1 b g.3 h))

-- files that are not come to
begun_none : (names : List (List ℕ)) → AreBegun names false []
begun_none [] = (refl, refl)
begun_none (name ∷ names) = inl (refl, refl)

pub begun_more : (names more : List (List ℕ)) (f : Bool) (log : List Fetched) → AreBegun names f log → AreBegun (names ++ more) f log
begun_more [] more f log h = subst (λ l. AreBegun more f l) (sym h.0) (subst (λ b. AreBegun more b []) (sym h.1) (begun_none more))
begun_more (name ∷ names) more f log (inl h) = inl h
begun_more (name ∷ names) more f log (inr (inl h)) = inr (inl h)
begun_more (name ∷ names) more f log (inr (inr h)) = inr (inr (h.0, h.1, h.2, begun_more names more f h.1 h.3))

-- ---- the fetches of stages

module _ {A B : Type 0} where
  -- the next stage gives a value or stops
  pub fetch_then : (names more : List (List ℕ)) (a b c : Option (List Fetched)) (x : A) (r : Result B Stop) → Fetches {A = A} names a b (Ok x)
      → Fetches more b c r → Fetches (names ++ more) a c r
  fetch_then names more a b c x (Ok y) g h =
      (g.0 ++ h.0, Grows-trans a b c g.0 h.0 g.1 h.1, given_then names more g.0 h.0 g.2 h.2)
  fetch_then names more a b c x (Err e) g h =
      (g.0 ++ h.0, Grows-trans a b c g.0 h.0 g.1 h.1, begun_then names more (is_read_fault (status_of e)) g.0 h.0 g.2 h.2)

-- a stop comes before other files
pub fetch_stop : (A B : Type 0) (names more : List (List ℕ)) (a b : Option (List Fetched)) (e : Stop) → Fetches {A = A} names a b (Err e)
    → Fetches {A = B} (names ++ more) a b (Err e)
fetch_stop A B names more a b e h = (h.0, h.1, begun_more names more (is_read_fault (status_of e)) h.0 h.2)

-- a stage after it that fetches nothing stops
pub fetch_stops : (A B : Type 0) (names : List (List ℕ)) (a b : Option (List Fetched)) (x : A) (e : Stop) → is_read_fault (status_of e) ≡ false
    → Fetches names a b (Ok x) → Fetches {A = B} names a b (Err e)
fetch_stops A B names a b x e n h = (h.0, h.1, subst (λ f. AreBegun names f h.0) (sym n) (given_begun names h.0 h.2))

-- a stop that is handed on has fetched as much
pub fetched_on : {A : Type 0} (r : Result A Stop) (e : Stop) (names : List (List ℕ)) (a b : Option (List Fetched)) → IsErrAnd r (λ x. x ≡ e)
    → Fetches {A = A} names a b (Err e) → Fetches names a b r
fetched_on (Ok x) e names a b h k = absurd h
fetched_on {A} (Err x) e names a b h k = subst (λ z. Fetches {A = A} names a b (Err z)) (sym h) k

-- ---- stops that are not read faults

-- where no read fault stops, the status is none
pub not_read : (Stops : Status → List ℕ → Type 0) → ((t : List ℕ) → Stops status.ReadFault t → ⊥) → (e : Stop) → IsStop Stops e
    → is_read_fault (status_of e) ≡ false
not_read Stops never e h = none (status_of e) (stop_text e) h
  where
    none : (s : Status) (t : List ℕ) → Broke Stops s t → is_read_fault s ≡ false
    none status.Done t h = refl
    none status.Refused t h = refl
    none status.Syntax t h = refl
    none status.Starts t h = refl
    none status.Usage t h = refl
    none status.ReadFault t h = absurd (never t h)
    none status.WriteFault t h = refl
    none status.TooLong t h = refl
    none status.Budget t h = refl
    none status.Disagree t h = refl
    none status.Unfinished t h = refl
    none status.Memory t h = refl
    none status.Rejected t h = refl

-- ---- the fetches of a call, at its end

abbrev end_of : {A : Type 0} → Status → Result A Stop → Status
end_of s (Ok x) = s
end_of s (Err e) = status_of e

read_true : (s : Status) → is_read_fault s ≡ true → s ≡ status.ReadFault
read_true status.Done e = absurd cc
read_true status.Refused e = absurd cc
read_true status.Syntax e = absurd cc
read_true status.Starts e = absurd cc
read_true status.Usage e = absurd cc
read_true status.ReadFault e = refl
read_true status.WriteFault e = absurd cc
read_true status.TooLong e = absurd cc
read_true status.Budget e = absurd cc
read_true status.Disagree e = absurd cc
read_true status.Unfinished e = absurd cc
read_true status.Memory e = absurd cc
read_true status.Rejected e = absurd cc

-- the status of a call is that of its end, unless a write failed
ends_or_fault : (r s : Status) → (r ≢ status.WriteFault → r ≡ s) → s ≡ status.ReadFault → (r ≡ status.ReadFault) ⊎ (r ≡ status.WriteFault)
ends_or_fault status.WriteFault s h e = inr refl
ends_or_fault status.Done s h e = inl (h (λ x. absurd cc) ∙ e)
ends_or_fault status.Refused s h e = inl (h (λ x. absurd cc) ∙ e)
ends_or_fault status.Syntax s h e = inl (h (λ x. absurd cc) ∙ e)
ends_or_fault status.Starts s h e = inl (h (λ x. absurd cc) ∙ e)
ends_or_fault status.Usage s h e = inl (h (λ x. absurd cc) ∙ e)
ends_or_fault status.ReadFault s h e = inl refl
ends_or_fault status.TooLong s h e = inl (h (λ x. absurd cc) ∙ e)
ends_or_fault status.Budget s h e = inl (h (λ x. absurd cc) ∙ e)
ends_or_fault status.Disagree s h e = inl (h (λ x. absurd cc) ∙ e)
ends_or_fault status.Unfinished s h e = inl (h (λ x. absurd cc) ∙ e)
ends_or_fault status.Memory s h e = inl (h (λ x. absurd cc) ∙ e)
ends_or_fault status.Rejected s h e = inl (h (λ x. absurd cc) ∙ e)

not_write : (r : Status) → r ≡ status.ReadFault → r ≢ status.WriteFault
not_write r e f = absurd cc

-- the fetches of a stage whose value ends in a status that is no read fault, at the end of a call
pub fetched_by : {A : Type 0} (names : List (List ℕ)) (old new : Option (List Fetched)) (s r : Status) (made : Result A Stop) → s ≢ status.ReadFault
    → Fetches names old new made → (r ≢ status.WriteFault → r ≡ end_of s made) → HasFetched names r old new
fetched_by names old new s r (Ok x) n h is =
    record {
      log = h.0;
      failed = false;
      grows = h.1;
      begun = given_begun names h.0 h.2;
      fault = λ e. absurd (n (sym (is (not_write r e)) ∙ e));
      told = λ e. absurd cc;
    }
fetched_by names old new s r (Err x) n h is =
    record {
      log = h.0;
      failed = is_read_fault (status_of x);
      grows = h.1;
      begun = h.2;
      fault = λ e. ap is_read_fault (sym (is (not_write r e)) ∙ e);
      told = λ e. ends_or_fault r (status_of x) is (read_true (status_of x) e);
    }

-- nothing was fetched
pub fetched_nothing : (names : List (List ℕ)) (old : Option (List Fetched)) (r : Status) → r ≢ status.ReadFault → HasFetched names r old old
fetched_nothing names old r n =
    record {
      log = [];
      failed = false;
      grows = Grows-nil old;
      begun = begun_none names;
      fault = λ e. absurd (n e);
      told = λ e. absurd cc;
    }

-- a call whose end is no read fault is none
pub never_read : (s r : Status) → s ≢ status.ReadFault → (r ≢ status.WriteFault → r ≡ s) → r ≢ status.ReadFault
never_read s r n is e = n (sym (is (not_write r e)) ∙ e)

-- a command whose text is made before it is written
pub told_fetched : (names : List (List ℕ)) (old new : Option (List Fetched)) (made : Result (Vec ℕ Global) Stop) (r : Status) → Fetches names old new made
    → (r ≢ status.WriteFault → r ≡ told_status made) → HasFetched names r old new
told_fetched names old new (Ok v) r h is = fetched_by names old new status.Done r (Ok v) (λ e. absurd cc) h is
told_fetched names old new (Err e) r h is = fetched_by {A = Vec ℕ Global} names old new status.Done r (Err e) (λ e. absurd cc) h is

-- ---- why a file gives no bytes

file_goes : (R : Type 0) (c : Option (Option (List ℕ))) (f : File) (Stops : Status → List ℕ → Type 0) (s : Status) (t : List ℕ)
    → (R × (t ≡ read_fault_line f) → Stops status.ReadFault t) → (IsTooLong c × (t ≡ too_long_line f) → Stops status.TooLong t)
    → FileStops R c f s t → Stops s t
file_goes R c f Stops status.Done t a b h = absurd h
file_goes R c f Stops status.Refused t a b h = absurd h
file_goes R c f Stops status.Syntax t a b h = absurd h
file_goes R c f Stops status.Starts t a b h = absurd h
file_goes R c f Stops status.Usage t a b h = absurd h
file_goes R c f Stops status.ReadFault t a b h = a h
file_goes R c f Stops status.WriteFault t a b h = absurd h
file_goes R c f Stops status.TooLong t a b h = b h
file_goes R c f Stops status.Budget t a b h = absurd h
file_goes R c f Stops status.Disagree t a b h = absurd h
file_goes R c f Stops status.Unfinished t a b h = absurd h
file_goes R c f Stops status.Memory t a b h = absurd h
file_goes R c f Stops status.Rejected t a b h = absurd h

-- a stage stops where its file gives no bytes
pub file_stops : (R : Type 0) (c : Option (Option (List ℕ))) (f : File) (Stops : Status → List ℕ → Type 0) (e : Stop)
    → ((t : List ℕ) → R × (t ≡ read_fault_line f) → Stops status.ReadFault t) → ((t : List ℕ) → IsTooLong c × (t ≡ too_long_line f) → Stops status.TooLong t)
    → IsStop (FileStops R c f) e → IsStop Stops e
file_stops R c f Stops e a b h =
    broke_map (FileStops R c f) Stops (status_of e) (stop_text e) (file_goes R c f Stops (status_of e) (stop_text e) (a (stop_text e)) (b (stop_text e))) h
