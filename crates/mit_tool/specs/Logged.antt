-- The pieces in which a call writes its text.
use Rattle.std.specs.Prelude.{◌≡◌, ◌≢◌, ◌⊎◌, ◌++◌, ℕ, ℤ, List, [], ◌∷◌, All, Option, Some}
use Rattle.tim_base.specs.Logs.{Offered, HasSent, HasBroken}
use Rattle.label_lattice.specs.Names.{IsName}
use Rattle.mit_syntax.specs.Declarations.{Declaration}
use Rattle.event_print.specs.Pieces.{IsRunLine as IsLineOf}
use Rattle.tool_words.specs.WordsAsked.{Asked, run, meaning}
use Rattle.tool_texts.specs.declared.status.Status.{Status}
use Rattle.tool_texts.specs.declared.status.Status.TheVariants as status
use Rattle.tool_texts.specs.Texts.{value_line, ended_line, not_ended_line}

-- a line of the text of a program's run
abbrev pub IsRunLine : List ℕ → Type 0
IsRunLine piece = (ds : List Declaration) × All (λ d. IsName d.0) ds × IsLineOf ds piece

-- a line of a meaning's text
abbrev pub IsMeaningLine : List ℕ → Type 0
IsMeaningLine piece =
    ((ds : List Declaration) × All (λ d. IsName d.0) ds × (x : ℕ) × (n : ℤ) × (piece ≡ value_line ds x n))
    ⊎ ((k : ℕ) × ((piece ≡ ended_line k) ⊎ (piece ≡ not_ended_line k)))

-- Each piece is a line; where a call stops, its last piece is the text of the stop.
abbrev pub AreLines : (List ℕ → Type 0) → Status → List (List ℕ) → Type 0
AreLines IsLine s pieces =
    All IsLine pieces
    ⊎ ((s ≢ status.Done) × (s ≢ status.Budget) × (lines : List (List ℕ)) × (text : List ℕ) × (pieces ≡ lines ++ text ∷ []) × All IsLine lines)

-- A run and a meaning are written a line a piece, and each other text is one piece.
abbrev pub ArePieces : Option Asked → Status → List (List ℕ) → Type 0
ArePieces (Some (run file starts env budget observer)) s pieces = AreLines IsRunLine s pieces
ArePieces (Some (meaning file starts steps)) s pieces = AreLines IsMeaningLine s pieces
ArePieces _ s pieces = (text : List ℕ) × (pieces ≡ text ∷ [])

-- The pieces are written one after the other; after a write that failed there is none.
pub record HasWritten (Pieces : Status → List (List ℕ) → Type 0) (s : Status) (old new : Option (List Offered)) : Type 0 where
  pub would : Status
  pub pieces : List (List ℕ)
  pub are : Pieces would pieces
  pub sent : s ≢ status.WriteFault → (s ≡ would) × HasSent old new pieces
  pub broken : s ≡ status.WriteFault → HasBroken old new pieces

-- lines of a meaning were written, or a write failed in one of them
abbrev pub SentLines : Option (List Offered) → Option (List Offered) → Type 0
SentLines old new = (pieces : List (List ℕ)) × All IsMeaningLine pieces × HasSent old new pieces

abbrev pub BrokenLines : Option (List Offered) → Option (List Offered) → Type 0
BrokenLines old new = (pieces : List (List ℕ)) × All IsMeaningLine pieces × HasBroken old new pieces
