-- What a writer has taken where it kept what a text left there.
use Rattle.std.proofs.Common.{ℕ, List, length, take, Option, sym, subst, arith}
use Rattle.std.proofs.lemmas.List.{take_all}
use Rattle.std.specs.Io.KnownBytes.{Appends, Keeps}
use Rattle.std.proofs.KnownBytes.{Appends-kept}
use Rattle.tim_base.specs.Sinks.{AppendsPrefix}
use Rattle.tool_texts.specs.declared.status.Status.{Status}
use Rattle.tool_texts.specs.declared.status.Status.TheVariants as status
use Rattle.tool_texts.specs.Ends.{EndsBy}

pub prefix_kept : (a b c : Option (List ℕ)) (t : List ℕ) → AppendsPrefix a b t → Keeps b c → AppendsPrefix a c t
prefix_kept a b c t p q = (p.0, p.1, Appends-kept a b c (take p.0 t) p.2 q)

-- the whole is a prefix
pub whole_prefix : (a b : Option (List ℕ)) (t : List ℕ) → Appends a b t → AppendsPrefix a b t
whole_prefix a b t p = (length t, omega arith, subst (Appends a b) (sym (take_all (length t) t (omega arith))) p)

-- ---- how a call ends

-- the same, where the writer kept what it had
pub ends_kept : (old taken new : Option (List ℕ)) (Before : List ℕ → Type 0) (Answer : Status → List ℕ → Type 0) (s : Status)
    → Keeps taken new → EndsBy old taken Before Answer s → EndsBy old new Before Answer s
ends_kept old taken new B A status.WriteFault k h = (h.0, h.1, h.2, prefix_kept old taken new h.1 h.3 k)
ends_kept old taken new B A s k h = (h.0, h.1, Appends-kept old taken new h.0 h.2 k)

-- or failed at the end
pub ends_broken : (old taken new : Option (List ℕ)) (Before : List ℕ → Type 0) (Answer : Status → List ℕ → Type 0) (s : Status)
    → Keeps taken new → EndsBy old taken Before Answer s → EndsBy old new Before Answer status.WriteFault
ends_broken old taken new B A status.WriteFault k h = (h.0, h.1, h.2, prefix_kept old taken new h.1 h.3 k)
ends_broken old taken new B A s k h = (s, h.0, h.1, whole_prefix old new h.0 (Appends-kept old taken new h.0 h.2 k))
