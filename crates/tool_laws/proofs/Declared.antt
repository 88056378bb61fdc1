-- Declarations of the two texts, cut into tokens.
use Rattle.std.proofs.Common.{refl, ℕ, List, [], ◌∷◌, codes, arith}
use Rattle.label_lattice.specs.Names.{keywords, IsName}
use Rattle.mit_syntax.specs.declared.token.TokenKind.TheVariants.{Key, Name, Sign as SignKind}
use Rattle.mit_syntax.specs.declared.token.Keyword.TheVariants.{Var}
use Rattle.mit_syntax.specs.declared.token.Sign.TheVariants.{Colon, Semicolon}
use Rattle.mit_syntax.specs.Cut.{Piece, white, lexeme, CutBefore}
use Rattle.mit_syntax.proofs.ClosedPiece.{closed_piece}

pub name_h : IsName (codes "h")
unfolding keywords
name_h = ((refl, tt), omega arith, refl)

pub name_l : IsName (codes "l")
unfolding keywords
name_l = ((refl, tt), omega arith, refl)

pub label_h : IsName (codes "H")
unfolding keywords
label_h = ((refl, tt), omega arith, refl)

pub label_l : IsName (codes "L")
unfolding keywords
label_l = ((refl, tt), omega arith, refl)

-- `var NAME : LABEL;` as a line of its own, from the label on and whole
abbrev labelled : List ℕ → List Piece → List Piece
labelled label after = lexeme label Name ∷ lexeme (codes ";") (SignKind Semicolon) ∷ white 10 ∷ after

abbrev pub declared : List ℕ → List ℕ → List Piece → List Piece
declared name label after = lexeme (codes "var") (Key Var) ∷ white 32 ∷ lexeme name Name ∷ white 32 ∷ lexeme (codes ":") (SignKind Colon) ∷
    white 32 ∷ labelled label after

cut_labelled : (label : List ℕ) (after : List Piece) → IsName label → CutBefore after [] → CutBefore (labelled label after) []
cut_labelled label after l cut = (closed_piece label Name _ l refl, (closed_piece (codes ";") (SignKind Semicolon) _ refl (refl, refl), (refl, cut)))

pub cut_declared : (name label : List ℕ) (after : List Piece) → IsName name → IsName label → CutBefore after [] → CutBefore (declared name label after) []
cut_declared name label after n l cut = (
  closed_piece (codes "var") (Key Var) _ refl refl,
  (
    refl,
    (
      closed_piece name Name _ n refl,
      (
        refl,
        (closed_piece (codes ":") (SignKind Colon) _ refl (refl, refl), (refl, cut_labelled label after l cut)),
      ),
    ),
  ),
)
