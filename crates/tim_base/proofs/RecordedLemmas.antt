-- What is recorded.
use Rattle.std.proofs.Common.{◌≡◌, ℕ, ◌<◌, Bool, true, false, List, [], ◌∷◌, ◌++◌, map, length, drop, refl, sym, ap, ap₂, ◌∙◌, subst}
use Rattle.std.proofs.Common.{Some, arith}
use Rattle.std.specs.Prelude.{flat_map, unwrap_or}
use Rattle.std.specs.List.{All, concat}
use Rattle.std.specs.Io.KnownBytes.{Appends}
use Rattle.std.proofs.lemmas.List.{append_cancel_left, drop_all}
use Rattle.std.proofs.lemmas.List.Elements.{All-nil, All-cons, All-map, All-head, All-tail, All-same}
use Rattle.std.proofs.lemmas.List.Concat.{flat_map-append}
use Rattle.tim_base.specs.Logs.{Offered, Grows, Takes, Sends, SendsAll, HasSent}
use Rattle.tim_base.specs.Recorded.{offer_of, tried, taken_of, taken_by, told_if, TakesAll}
use Rattle.tim_base.specs.declared.sink.recorded.Offer.{Offer}

-- each recorded write took all, or failed
pub offers_take_all : (os : List Offer) → All TakesAll (map offer_of os)
offers_take_all os = All-map TakesAll offer_of os (λ k d lt. (_, refl))

-- ---- the record of pieces that are sent

-- nothing of nothing, and else one write that takes the piece
abbrev pub write_of : List ℕ → List Offered
write_of [] = []
write_of (b ∷ bs) = tried (b ∷ bs) true ∷ []

abbrev pub writes_of : List (List ℕ) → List Offered
writes_of pieces = flat_map write_of pieces

-- these writes took the pieces
pub taken-writes_of : (pieces : List (List ℕ)) → taken_by (writes_of pieces) ≡ concat pieces
taken-writes_of [] = refl
taken-writes_of ([] ∷ ps) = taken-writes_of ps
taken-writes_of ((b ∷ bs) ∷ ps) = ap (λ l. b ∷ (bs ++ l)) (taken-writes_of ps)

write_is : (piece : List ℕ) → 0 < length piece → write_of piece ≡ tried piece true ∷ []
write_is [] h = absurd (omega (arith, h))
write_is (b ∷ bs) h = refl

-- a write that took some took the whole
took_all : (o : Offered) (n : ℕ) → TakesAll o → o.took ≡ Some n → n ≡ length o.bytes
took_all o n (true, e) h = ap (λ t. unwrap_or t 0) (sym h ∙ e)
took_all o n (false, e) h = absurd cc

-- nothing is offered of nothing
none_left : (log : List Offered) → Takes [] log [] → log ≡ []
none_left [] h = refl
none_left (o ∷ more) h = absurd (omega (arith, h.1.2, h.1.3))

sent_once : (piece : List ℕ) (log : List Offered) → Sends piece log → All TakesAll log → log ≡ write_of piece
sent_once piece [] h all = ap write_of h
sent_once piece (o ∷ more) h all =
    let n = h.1.0 in
    let len : n ≡ length piece = took_all o n (All-head TakesAll o more all) h.1.1 ∙ ap length h.0 in
    let rest : drop n piece ≡ [] = drop_all n piece (omega (arith, len)) in
    let some : 0 < length piece = omega (arith, h.1.2, h.1.3) in
    let last = none_left more (subst (λ l. Takes l more []) rest h.1.4) in
    let took : o.took ≡ Some (length piece) = h.1.1 ∙ ap (λ m. Some m) len in
    let one : o ≡ tried piece true = ap₂ (λ b t. record { bytes = b; took = t }) h.0 took in
    ap₂ (λ x l. x ∷ l) one last ∙ sym (write_is piece some)

All-front : (a b : List Offered) → All TakesAll (a ++ b) → All TakesAll a
All-front [] b h = All-nil TakesAll
All-front (x ∷ a) b h = All-cons TakesAll x a (All-head TakesAll x (a ++ b) h) (All-front a b (All-tail TakesAll x (a ++ b) h))

All-back : (a b : List Offered) → All TakesAll (a ++ b) → All TakesAll b
All-back [] b h = h
All-back (x ∷ a) b h = All-back a b (All-tail TakesAll x (a ++ b) h)

-- the pieces are sent by a write each
pub sent_by : (pieces : List (List ℕ)) (log : List Offered) → SendsAll pieces log → All TakesAll log → log ≡ writes_of pieces
sent_by [] log h all = h
sent_by (p ∷ ps) log h all =
    let each = All-same TakesAll (h.0 ++ h.1) log (sym h.2) all in
    h.2 ∙ ap₂ (λ x l. x ++ l) (sent_once p h.0 h.3 (All-front h.0 h.1 each)) (sent_by ps h.1 h.4 (All-back h.0 h.1 each))

-- where the record is whole the pieces make up the text that was taken
joined : (old new : List Offered) (pieces : List (List ℕ)) (text : List ℕ) → new ≡ old ++ writes_of pieces
    → taken_by new ≡ taken_by old ++ text → concat pieces ≡ text
joined old new pieces text e h =
    sym (taken-writes_of pieces)
    ∙ append_cancel_left (taken_by old) (taken_by (writes_of pieces)) text (sym (flat_map-append taken_of old (writes_of pieces)) ∙ ap taken_by (sym e) ∙ h)

-- what a record grows by where pieces are sent and make up a text
pub records : (w w' : Bool) (old new : List Offered) (pieces : List (List ℕ)) (text : List ℕ) (more : List Offered)
    → HasSent (told_if w old) (told_if w' new) pieces
    → All TakesAll new → Appends (Some (taken_by old)) (Some (taken_by new)) text → (concat pieces ≡ text → writes_of pieces ≡ more)
    → Grows (told_if w old) (told_if w' new) more
records w false old new pieces text more h all t f = tt
records false true old new pieces text more h all t f = absurd h.grows
records true true old new pieces text more h all t f =
    let each = All-back old h.log (All-same TakesAll (old ++ h.log) new (sym h.grows) all) in
    let is : new ≡ old ++ writes_of pieces = h.grows ∙ ap (λ l. old ++ l) (sent_by pieces h.log h.sends each) in
    is ∙ ap (λ l. old ++ l) (f (joined old new pieces text is t))
