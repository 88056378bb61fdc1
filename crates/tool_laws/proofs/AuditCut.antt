-- The tokens of the text.
use Rattle.std.proofs.Common.{refl, ℕ, List, [], ◌∷◌, ◌++◌, pos, codes, arith}
use Rattle.std.specs.Prelude.{IsUtf8}
use Rattle.std.specs.Char.{encode_utf8}
use Rattle.label_lattice.proofs.NameLemmas.{all_each}
use Rattle.mit_syntax.specs.declared.token.Token.{Token}
use Rattle.mit_syntax.specs.declared.token.TokenKind.TheVariants.{Key, Name, Number, Sign as SignKind}
use Rattle.mit_syntax.specs.declared.token.Keyword.TheVariants.{Mitigate, Sleep}
use Rattle.mit_syntax.specs.declared.token.Sign.TheVariants.{Assign, Semicolon, Comma, LeftRound, RightRound, LeftBrace, RightBrace}
use Rattle.mit_syntax.specs.Cut.{start, moved, end_at, in_line, Piece, white, comment, lexeme, CutBefore, tokens_of, AreTokens}
use Rattle.mit_syntax.proofs.ClosedPiece.{closed_piece}
use Rattle.tool_laws.specs.FirstAudit.{program_text}
use Rattle.tool_laws.proofs.Declared.{name_h, name_l, label_h, label_l, declared, cut_declared}

abbrev remark : List ℕ
remark = codes "// A secret sleep under mitigation, and a public assignment after it."

-- the pieces of the last line, from the body of the mitigate on, from the mitigate on, from a declaration on, and all
abbrev last : List Piece
last = lexeme (codes "l") Name ∷ white 32 ∷ lexeme (codes ":=") (SignKind Assign) ∷ white 32 ∷ lexeme (codes "1") (Number (pos 1)) ∷ white 10 ∷ []

abbrev body : List Piece
body =
    lexeme (codes "{") (SignKind LeftBrace) ∷ white 32 ∷ lexeme (codes "sleep") (Key Sleep) ∷ white 32 ∷ lexeme (codes "h") Name ∷ white 32
    ∷ lexeme (codes "}") (SignKind RightBrace) ∷ lexeme (codes ";") (SignKind Semicolon) ∷ white 10 ∷ last

abbrev mitigated : List Piece
mitigated =
    lexeme (codes "mitigate") (Key Mitigate) ∷ white 32 ∷ lexeme (codes "(") (SignKind LeftRound) ∷ lexeme (codes "1") (Number (pos 1))
    ∷ lexeme (codes ",") (SignKind Comma) ∷ white 32 ∷ lexeme (codes "H") Name ∷ lexeme (codes ")") (SignKind RightRound) ∷ white 32 ∷ body

abbrev declarations : List Piece
declarations = declared (codes "h") (codes "H") (declared (codes "l") (codes "L") mitigated)

abbrev pieces : List Piece
pieces = comment remark ∷ white 10 ∷ declarations

cut_last : CutBefore last []
cut_last = (
  closed_piece (codes "l") Name _ name_l refl,
  (
    refl,
    (
      closed_piece (codes ":=") (SignKind Assign) _ refl (refl, refl),
      (
        refl,
        (closed_piece (codes "1") (Number (pos 1)) _ ((refl, tt), refl, omega arith) refl, (refl, tt)),
      ),
    ),
  ),
)

cut_sleep : CutBefore (lexeme (codes "sleep") (Key Sleep) ∷ white 32 ∷ lexeme (codes "h") Name ∷ white 32 ∷ lexeme (codes "}") (SignKind RightBrace) ∷ lexeme
    (codes ";") (SignKind Semicolon) ∷ white 10 ∷ last) []
cut_sleep = (
  closed_piece (codes "sleep") (Key Sleep) _ refl refl,
  (
    refl,
    (
      closed_piece (codes "h") Name _ name_h refl,
      (
        refl,
        (
          closed_piece (codes "}") (SignKind RightBrace) _ refl (refl, refl),
          (closed_piece (codes ";") (SignKind Semicolon) _ refl (refl, refl), (refl, cut_last)),
        ),
      ),
    ),
  ),
)

cut_body : CutBefore body []
cut_body = (closed_piece (codes "{") (SignKind LeftBrace) _ refl (refl, refl), (refl, cut_sleep))

cut_level : CutBefore (lexeme (codes ",") (SignKind Comma) ∷ white 32 ∷ lexeme (codes "H") Name ∷ lexeme (codes ")") (SignKind RightRound) ∷ white 32 ∷ body) []
cut_level = (
  closed_piece (codes ",") (SignKind Comma) _ refl (refl, refl),
  (
    refl,
    (
      closed_piece (codes "H") Name _ label_h refl,
      (closed_piece (codes ")") (SignKind RightRound) _ refl (refl, refl), (refl, cut_body)),
    ),
  ),
)

cut_mitigated : CutBefore mitigated []
cut_mitigated = (
  closed_piece (codes "mitigate") (Key Mitigate) _ refl refl,
  (
    refl,
    (
      closed_piece (codes "(") (SignKind LeftRound) _ refl (refl, refl),
      (closed_piece (codes "1") (Number (pos 1)) _ ((refl, tt), refl, omega arith) refl, cut_level),
    ),
  ),
)

cut_declarations : CutBefore declarations []
cut_declarations =
    cut_declared (codes "h") (codes "H") (declared (codes "l") (codes "L") mitigated) name_h label_h
    (cut_declared (codes "l") (codes "L") mitigated name_l label_l cut_mitigated)

cut : CutBefore pieces []
cut = ((refl, all_each in_line remark refl, refl), (refl, cut_declarations))

text_utf8 : IsUtf8 program_text
unfolding encode_utf8
text_utf8 = (program_text, (refl, refl))

abbrev pub tokens : List Token
tokens = tokens_of start pieces ++ end_at (moved start program_text) ∷ []

pub are_tokens : AreTokens program_text tokens
are_tokens = record { utf8 = text_utf8; pieces = pieces; are = refl; cut = cut; tokens_are = refl }
