-- Logs that grow, and writes after one another.
use Rattle.std.proofs.Common.{ℕ, ◌<◌, ◌≤◌, List, [], ◌∷◌, ◌++◌, length, drop, Option, Some, None, refl, sym, ap, ◌∙◌, subst, append_assoc, append-nil}
use Rattle.tim_base.specs.Logs.{Offered, Grows, Takes, Sends, SendsAll, HasSent, HasBroken}

pub Grows-nil : {A : Type 0} (a : Option (List A)) → Grows a a []
Grows-nil None = tt
Grows-nil (Some x) = sym (append-nil x)

-- a log that is told at the end was told all along
pub Grows-trans : {A : Type 0} (a b c : Option (List A)) (xs ys : List A) → Grows a b xs → Grows b c ys → Grows a c (xs ++ ys)
Grows-trans a b None xs ys p q = tt
Grows-trans a None (Some z) xs ys p q = absurd q
Grows-trans None (Some y) (Some z) xs ys p q = absurd p
Grows-trans (Some x) (Some y) (Some z) xs ys p q = q ∙ ap (λ l. l ++ ys) p ∙ append_assoc x xs ys

-- one more write takes some of the rest
pub Takes-more : (bytes : List ℕ) (ws : List Offered) (rest : List ℕ) (n : ℕ) → Takes bytes ws rest → 0 < n → n ≤ length rest
    → Takes bytes (ws ++ record { bytes = rest; took = Some n } ∷ []) (drop n rest)
Takes-more bytes [] rest n e some few = (e, (n, refl, some, subst (λ l. n ≤ length l) e few, ap (drop n) e))
Takes-more bytes (o ∷ ws) rest n h some few =
    (h.0, (h.1.0, h.1.1, h.1.2, h.1.3, Takes-more (drop h.1.0 bytes) ws rest n h.1.4 some few))

-- the pieces of one log after those of another
pub SendsAll-append : (ps : List (List ℕ)) (a : List Offered) (qs : List (List ℕ)) (b : List Offered) → SendsAll ps a → SendsAll qs b
    → SendsAll (ps ++ qs) (a ++ b)
SendsAll-append [] a qs b e h = subst (λ l. SendsAll qs (l ++ b)) (sym e) h
SendsAll-append (p ∷ ps) a qs b g h =
    (g.0, g.1 ++ b, ap (λ l. l ++ b) g.2 ∙ append_assoc g.0 g.1 b, g.3, SendsAll-append ps g.1 qs b g.4 h)

-- nothing is sent
pub sent_nothing : (a : Option (List Offered)) → HasSent a a []
sent_nothing a = record { log = []; grows = Grows-nil a; sends = refl }

-- pieces are sent after others
pub sent_after : (a b c : Option (List Offered)) (ps qs : List (List ℕ)) → HasSent a b ps → HasSent b c qs → HasSent a c (ps ++ qs)
sent_after a b c ps qs g h = record {
  log = g.log ++ h.log;
  grows = Grows-trans a b c g.log h.log g.grows h.grows;
  sends = SendsAll-append ps g.log qs h.log g.sends h.sends;
}

-- pieces are sent, and a later one breaks
pub broken_after : (a b c : Option (List Offered)) (ps qs : List (List ℕ)) → HasSent a b ps → HasBroken b c qs → HasBroken a c (ps ++ qs)
broken_after a b c ps qs g h = record {
  sent = ps ++ h.sent;
  piece = h.piece;
  rest = h.rest;
  are = ap (λ l. ps ++ l) h.are ∙ sym (append_assoc ps h.sent (h.piece ∷ h.rest));
  before = g.log ++ h.before;
  last = h.last;
  grows = subst (Grows a c) (sym (append_assoc g.log h.before h.last)) (Grows-trans a b c g.log (h.before ++ h.last) g.grows h.grows);
  sends = SendsAll-append ps g.log h.sent h.before g.sends h.sends;
  breaks = h.breaks;
}

-- a piece breaks, and those that would come later are not sent
pub broken_before : (a b : Option (List Offered)) (ps qs : List (List ℕ)) → HasBroken a b ps → HasBroken a b (ps ++ qs)
broken_before a b ps qs h = record {
  sent = h.sent;
  piece = h.piece;
  rest = h.rest ++ qs;
  are = ap (λ l. l ++ qs) h.are ∙ append_assoc h.sent (h.piece ∷ h.rest) qs;
  before = h.before;
  last = h.last;
  grows = h.grows;
  sends = h.sends;
  breaks = h.breaks;
}

-- the one piece of these writes is sent
pub sent_one : (a b : Option (List Offered)) (piece : List ℕ) (ws : List Offered) → Grows a b ws → Sends piece ws → HasSent a b (piece ∷ [])
sent_one a b piece ws g h = record { log = ws; grows = g; sends = (ws, [], sym (append-nil ws), h, refl) }

-- the one piece of these writes breaks
pub broken_one : (a b c : Option (List Offered)) (piece : List ℕ) (ws : List Offered) (rest : List ℕ) → Grows a b ws → Takes piece ws rest → 0 < length rest
    → Grows b c (record { bytes = rest; took = None } ∷ []) → HasBroken a c (piece ∷ [])
broken_one a b c piece ws rest g h some f = record {
  sent = [];
  piece = piece;
  rest = [];
  are = refl;
  before = [];
  last = ws ++ record { bytes = rest; took = None } ∷ [];
  grows = Grows-trans a b c ws (record { bytes = rest; took = None } ∷ []) g f;
  sends = refl;
  breaks = record { before = ws; rest = rest; takes = h; some = some; fails = refl };
}
