-- What waits, and what goes behind it.
use Rattle.std.proofs.Common.{◌≡◌, inl, inr, ℕ, suc, zero, ◌+◌, ◌-◌, ◌≤◌, ◌<◌, ◌≢◌, All, arith, slice_index}
use Rattle.std.proofs.Common.{take-append-drop, take_all, List, [], ◌∷◌, ◌++◌, length, take, drop}
use Rattle.std.proofs.Common.{ap, Option, Some, None, Result, Ok, Err, OnOk, subst, refl, sym, ◌∙◌, append_assoc, append-nil}
use Rattle.std.specs.Io.BufRead.{take_through}
use Rattle.std.proofs.BufReadLemmas.{take_through-append}
use Rattle.std.proofs.lemmas.List.{take_more}
use Rattle.std.proofs.Math.Nat.{add-sub_of_le}
use Rattle.std.proofs.Math.Seq.{take-append-add}
use Rattle.std.specs.Io.KnownBytes.{Appends, Keeps, WriteAppends, append_known}
use Rattle.tim_base.specs.Logs.{Offered, HasSent}
use Rattle.tim_base.proofs.LogLemmas.{sent_after}
use Rattle.line_batch.specs.Batches.{AreLines, EndsLine, Held}

-- lines without their first bytes are lines
pub AreLines_drop : (n : ℕ) (bytes : List ℕ) → AreLines bytes → AreLines (drop n bytes)
AreLines_drop zero bytes h = h
AreLines_drop (suc n) [] h = inl refl
AreLines_drop (suc n) (x ∷ bytes) h = AreLines_drop n bytes (tail x bytes h)
  where
    tail : (x : ℕ) (bytes : List ℕ) → AreLines (x ∷ bytes) → AreLines bytes
    tail x bytes (inl e) = inl (ap (drop 1) e)
    tail x bytes (inr ([], e)) = inl (ap (drop 1) e)
    tail x bytes (inr (y ∷ front, e)) = inr (front, ap (drop 1) e)

-- what ends with a line feed are lines, whatever is in front
pub ended_lines : (a b c : List ℕ) → EndsLine c → AreLines (a ++ b ++ c)
ended_lines a b c h =
    inr (a ++ b ++ h.0, ap (λ l. a ++ b ++ l) h.1 ∙ sym (append_assoc (a ++ b) h.0 (10 ∷ [])))

-- bytes whose last one is a line feed end with it
pub ends_by_last : (bytes : List ℕ) → 0 < length bytes → slice_index bytes (length bytes - 1) ≡ 10 → EndsLine bytes
ends_by_last bytes some last =
    let n = length bytes - 1 in
    (take n bytes, sym (take_all (n + 1) bytes (omega arith)) ∙ take_more bytes n 0 (omega arith) ∙ ap (λ x. take n bytes ++ x ∷ []) last)

-- up to the first line feed, with it
pub through_at : (bytes : List ℕ) (i : ℕ) → i < length bytes → All (λ x. x ≢ 10) (take i bytes) → slice_index bytes i ≡ 10
    → take (i + 1) bytes ≡ take_through 10 bytes
through_at bytes i lt none is =
    let front = take i bytes in
    let rest = drop (i + 1) bytes in
    let first : take (i + 1) bytes ≡ front ++ 10 ∷ [] = take_more bytes i 0 lt ∙ ap (λ x. front ++ x ∷ []) is in
    let split : bytes ≡ front ++ 10 ∷ rest =
    sym (take-append-drop (i + 1) bytes) ∙ ap (λ l. l ++ rest) first ∙ append_assoc front (10 ∷ []) rest in
    first ∙ sym (ap (take_through 10) split ∙ take_through-append 10 front (10 ∷ rest) none)

-- where there is none, all
pub through_all : (bytes : List ℕ) → All (λ x. x ≢ 10) bytes → bytes ≡ take_through 10 bytes
through_all bytes none = sym (append-nil bytes) ∙ sym (take_through-append 10 bytes [] none) ∙ ap (take_through 10) (append-nil bytes)

-- what stays while something waits in front of it
pub Keeps_behind : (a b : Option (List ℕ)) (x y more : List ℕ) → Keeps (append_known a x) (append_known b y)
    → Keeps (append_known a (x ++ more)) (append_known b (y ++ more))
Keeps_behind None b x y more h = tt
Keeps_behind (Some s) None x y more h = absurd h
Keeps_behind (Some s) (Some t) x y more h = sym (append_assoc t y more) ∙ ap (λ l. l ++ more) h ∙ append_assoc s x more

behind_all : (a b : Option (List ℕ)) (waiting taken all : List ℕ) → Appends a b all → all ≡ waiting ++ taken
    → Appends (append_known a waiting) (append_known b []) taken
behind_all None b waiting taken all p e = tt
behind_all (Some x) None waiting taken all p e = absurd p
behind_all (Some x) (Some y) waiting taken all p e =
    append-nil y ∙ p ∙ ap (λ l. x ++ l) e ∙ sym (append_assoc x waiting taken)

-- the sink took what waited, and what k leaves of it of the piece
pub appends_behind : (a b : Option (List ℕ)) (waiting piece : List ℕ) (k : ℕ) → length waiting ≤ k → Appends a b (take k (waiting ++ piece))
    → Appends (append_known a waiting) (append_known b []) (take (k - length waiting) piece)
appends_behind a b waiting piece k some p =
    let n = k - length waiting in
    let whole : take k (waiting ++ piece) ≡ waiting ++ take n piece =
    ap (λ j. take j (waiting ++ piece)) (sym (add-sub_of_le some)) ∙ take-append-add waiting piece n in
    behind_all a b waiting (take n piece) (take k (waiting ++ piece)) p whole

-- what was kept, and then a write
pub write_kept : {E : Type 0} (a b c : Option (List ℕ)) (r : Result ℕ E) (piece : List ℕ) → Keeps a b → WriteAppends b c r piece → WriteAppends a c r piece
write_kept None b c (Ok n) piece h p = tt
write_kept None b c (Err e) piece h p = tt
write_kept (Some x) None c r piece h p = absurd h
write_kept (Some x) (Some y) None (Ok n) piece h p = absurd p
write_kept (Some x) (Some y) None (Err e) piece h p = absurd p
write_kept (Some x) (Some y) (Some z) (Ok n) piece h p = p ∙ ap (λ l. l ++ take n piece) h
write_kept (Some x) (Some y) (Some z) (Err e) piece h p = p ∙ h

-- where nothing waits, a write is one to the sink
nothing_waits : {E : Type 0} (b c : Option (List ℕ)) (r : Result ℕ E) (piece : List ℕ) → WriteAppends b c r piece
    → WriteAppends (append_known b []) (append_known c []) r piece
nothing_waits None c (Ok n) piece p = tt
nothing_waits None c (Err e) piece p = tt
nothing_waits (Some y) None (Ok n) piece p = absurd p
nothing_waits (Some y) None (Err e) piece p = absurd p
nothing_waits (Some y) (Some z) (Ok n) piece p = append-nil z ∙ p ∙ ap (λ l. l ++ take n piece) (sym (append-nil y))
nothing_waits (Some y) (Some z) (Err e) piece p = append-nil z ∙ p ∙ sym (append-nil y)

-- all that waited was handed on, and then a write
pub write_on : {E : Type 0} (a b c : Option (List ℕ)) (x y : List ℕ) (r : Result ℕ E) (piece : List ℕ) → x ≡ [] → y ≡ []
    → Keeps a (append_known b (x ++ y)) → WriteAppends b c r piece → WriteAppends a (append_known c (x ++ y)) r piece
write_on a b c x y r piece e f h p =
    let none : x ++ y ≡ [] = ap (λ l. l ++ y) e ∙ f in
    write_kept a (append_known b (x ++ y)) (append_known c (x ++ y)) r piece h
    (subst (λ l. WriteAppends (append_known b l) (append_known c l) r piece) (sym none) (nothing_waits b c r piece p))

-- the lines that waited were handed on, and then a write came behind the line that is begun
pub write_behind : {E : Type 0} (a b c : Option (List ℕ)) (x y m n : List ℕ) (r : Result ℕ E) (piece : List ℕ) → y ≡ []
    → Keeps (append_known a x) (append_known b y) → WriteAppends (append_known b m) (append_known c n) r piece
    → WriteAppends (append_known a (x ++ m)) (append_known c (y ++ n)) r piece
write_behind a b c x y m n r piece e h p =
    write_kept (append_known a (x ++ m)) (append_known b (y ++ m)) (append_known c (y ++ n)) r piece (Keeps_behind a b x y m h)
    (subst (λ l. WriteAppends (append_known b (l ++ m)) (append_known c (l ++ n)) r piece) (sym e) p)

-- two pieces, one after the other
pub sent_both : {T E : Type 0} (a b c : Option (List Offered)) (x y : List ℕ) (r : Result T E) → HasSent a b (x ∷ []) → OnOk r (HasSent b c (y ∷ []))
    → OnOk r (HasSent a c (x ∷ y ∷ []))
sent_both a b c x y (Ok t) h p = sent_after a b c (x ∷ []) (y ∷ []) h p
sent_both a b c x y (Err e) h p = tt

-- nothing is left of two lists that are empty
pub none_left : {T E : Type 0} (x y : List ℕ) (r : Result T E) → OnOk r ((x ≡ []) × (y ≡ [])) → OnOk r (x ++ y ≡ [])
none_left x y (Ok t) h = ap (λ l. l ++ y) h.0 ∙ h.1
none_left x y (Err e) h = tt

-- what waited, or was handed on, and a line behind it
pub join_appends : (a b : Option (List ℕ)) (x y m n z piece : List ℕ) (k : ℕ) → Keeps (append_known a x) (append_known b y) → n ≡ y ++ m ++ piece
    → z ≡ [] → k ≡ length piece → Appends (append_known a (x ++ m)) (append_known b (n ++ z)) (take k piece)
join_appends None b x y m n z piece k h e f i = tt
join_appends (Some s) None x y m n z piece k h e f i = absurd h
join_appends (Some s) (Some t) x y m n z piece k h e f i =
    ap (λ l. t ++ (n ++ l)) f ∙ ap (λ l. t ++ l) (append-nil n ∙ e) ∙ sym (append_assoc t (y ++ m) piece)
    ∙ ap (λ l. l ++ piece) (sym (append_assoc t y m) ∙ ap (λ l. l ++ m) h ∙ append_assoc s x m)
    ∙ ap (λ l. (s ++ (x ++ m)) ++ l) (sym (take_all k piece (omega (arith, i))))

-- what a batch over a sink holds
abbrev pub held_over : {O : Type 0} → (O → Option (List ℕ)) → (O → Option (List Offered)) → (O → ℕ) → O → List ℕ → List ℕ → ℕ → Held
held_over taken log faults out lines begun room =
    record { sent = taken out; log = log out; lines = lines; begun = begun; faults = faults out; room = room }

-- the same is held where the sink is the same and the same waits
pub same_held : {O : Type 0} (taken : O → Option (List ℕ)) (log : O → Option (List Offered)) (faults : O → ℕ) (a b : O) (l m n k : List ℕ) (room : ℕ)
    → a ≡ b → l ≡ m → n ≡ k → held_over taken log faults a l n room ≡ held_over taken log faults b m k room
same_held taken log faults a b l m n k room p q r =
    ap (λ o. held_over taken log faults o l n room) p ∙ ap (λ x. held_over taken log faults b x n room) q
    ∙ ap (λ x. held_over taken log faults b m x room) r
