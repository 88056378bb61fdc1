-- Pieces of a run, one after the other.
use Rattle.std.proofs.Common.{ℕ, List, [], ◌∷◌, ◌++◌, Option}
use Rattle.std.specs.List.{All}
use Rattle.std.proofs.lemmas.List.Elements.{All-nil, All-cons, All-append}
use Rattle.tim_base.specs.Logs.{Offered, HasSent, HasBroken}
use Rattle.tim_base.proofs.LogLemmas.{sent_nothing, sent_after, broken_after}
use Rattle.mit_syntax.specs.Declarations.{Declaration}
use Rattle.event_print.specs.Pieces.{IsRunLine, SendsLines, BreaksLines}

all_one : (P : List ℕ → Type 0) (x : List ℕ) → P x → All P (x ∷ [])
all_one P x h = All-cons P x [] h (All-nil P)

pub no_lines : (ds : List Declaration) (a : Option (List Offered)) → SendsLines ds a a
no_lines ds a = record { pieces = []; lines = All-nil (IsRunLine ds); sent = sent_nothing a }

pub one_line : (ds : List Declaration) (a b : Option (List Offered)) (piece : List ℕ) → IsRunLine ds piece → HasSent a b (piece ∷ []) → SendsLines ds a b
one_line ds a b piece is h = record { pieces = piece ∷ []; lines = all_one (IsRunLine ds) piece is; sent = h }

pub one_breaks : (ds : List Declaration) (a b : Option (List Offered)) (piece : List ℕ) → IsRunLine ds piece → HasBroken a b (piece ∷ []) → BreaksLines ds a b
one_breaks ds a b piece is h = record { pieces = piece ∷ []; lines = all_one (IsRunLine ds) piece is; broken = h }

pub lines_then : (ds : List Declaration) (a b c : Option (List Offered)) → SendsLines ds a b → SendsLines ds b c → SendsLines ds a c
lines_then ds a b c g h = record {
  pieces = g.pieces ++ h.pieces;
  lines = All-append (IsRunLine ds) g.pieces h.pieces g.lines h.lines;
  sent = sent_after a b c g.pieces h.pieces g.sent h.sent;
}

pub lines_break : (ds : List Declaration) (a b c : Option (List Offered)) → SendsLines ds a b → BreaksLines ds b c → BreaksLines ds a c
lines_break ds a b c g h = record {
  pieces = g.pieces ++ h.pieces;
  lines = All-append (IsRunLine ds) g.pieces h.pieces g.lines h.lines;
  broken = broken_after a b c g.pieces h.pieces g.sent h.broken;
}
