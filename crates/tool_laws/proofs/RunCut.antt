-- The tokens of the text.
use Rattle.std.proofs.Common.{refl, ℕ, List, [], ◌∷◌, ◌++◌, pos, codes, arith}
use Rattle.std.specs.Prelude.{IsUtf8}
use Rattle.std.specs.Char.{encode_utf8}
use Rattle.label_lattice.proofs.NameLemmas.{all_each}
use Rattle.mit_syntax.specs.declared.token.Token.{Token}
use Rattle.mit_syntax.specs.declared.token.TokenKind.TheVariants.{Name, Number, Sign as SignKind}
use Rattle.mit_syntax.specs.declared.token.Sign.TheVariants.{Assign}
use Rattle.mit_syntax.specs.Cut.{start, moved, end_at, in_line, Piece, white, comment, lexeme, CutBefore, tokens_of, AreTokens}
use Rattle.mit_syntax.proofs.ClosedPiece.{closed_piece}
use Rattle.tool_laws.specs.FirstRun.{first_text}
use Rattle.tool_laws.proofs.Declared.{name_l, label_l, declared, cut_declared}

abbrev remark : List ℕ
remark = codes "// One assignment to a public variable."

-- the pieces of the last line, of the last two, and all
abbrev command : List Piece
command = lexeme (codes "l") Name ∷ white 32 ∷ lexeme (codes ":=") (SignKind Assign) ∷ white 32 ∷ lexeme (codes "7") (Number (pos 7)) ∷ white 10 ∷ []

abbrev declaration : List Piece
declaration = declared (codes "l") (codes "L") command

abbrev pieces : List Piece
pieces = comment remark ∷ white 10 ∷ declaration

cut_command : CutBefore command []
cut_command = (
  closed_piece (codes "l") Name _ name_l refl,
  (
    refl,
    (
      closed_piece (codes ":=") (SignKind Assign) _ refl (refl, refl),
      (
        refl,
        (closed_piece (codes "7") (Number (pos 7)) _ ((refl, tt), refl, omega arith) refl, (refl, tt)),
      ),
    ),
  ),
)

cut : CutBefore pieces []
cut = ((refl, all_each in_line remark refl, refl), (refl, cut_declared (codes "l") (codes "L") command name_l label_l cut_command))

text_utf8 : IsUtf8 first_text
unfolding encode_utf8
text_utf8 = (first_text, (refl, refl))

abbrev pub tokens : List Token
tokens = tokens_of start pieces ++ end_at (moved start first_text) ∷ []

pub are_tokens : AreTokens first_text tokens
are_tokens = record { utf8 = text_utf8; pieces = pieces; are = refl; cut = cut; tokens_are = refl }
