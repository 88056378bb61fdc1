-- Where the words of a chain stand in the text of a program.
use Rattle.std.specs.Prelude.{ℕ, Bool, true, false, ◌&&◌, ◌||◌, ◌==◌, if◌then◌else◌, nat_le, nat_lt, List, [], ◌∷◌, length, Option, None, Some, slice_range}
use Rattle.std.specs.Prelude.{codes}
use Rattle.std.specs.Str.{bytes_eq}
use Rattle.text_base.specs.declared.pos.Pos.{Pos}
use Rattle.mit_syntax.specs.declared.token.Token.{Token}
use Rattle.mit_syntax.specs.declared.token.TokenKind.{TokenKind}
use Rattle.mit_syntax.specs.declared.token.TokenKind.TheVariants.{Key, Name, Number, Sign, End}
use Rattle.mit_syntax.specs.declared.token.Keyword.TheVariants.{Var, Skip, If, While, Mitigate, Sleep}

-- the position p is after q
abbrev pub is_after : Pos → Pos → Bool
is_after p q = nat_lt q.line p.line || (p.line == q.line && nat_lt q.column p.column)

abbrev pub is_same : Pos → Pos → Bool
is_same p q = p.line == q.line && p.column == q.column

-- the bytes of a token of a text
abbrev pub spelled : List ℕ → Token → List ℕ
spelled text t = if nat_le t.from t.to && nat_le t.to (length text) then slice_range text t.from t.to else []

abbrev pub is_name_kind : TokenKind → Bool
is_name_kind (Key k) = false
is_name_kind Name = true
is_name_kind (Number n) = false
is_name_kind (Sign s) = false
is_name_kind End = false

-- the token is this name
abbrev pub is_name : List ℕ → Token → List ℕ → Bool
is_name text t w = is_name_kind t.kind && bytes_eq (spelled text t) w

-- the first place of a name after the position q, or else q
abbrev pub next_place : List ℕ → List Token → Pos → List ℕ → Pos
next_place text [] q w = q
next_place text (t ∷ ts) q w = if is_after t.pos q && is_name text t w then t.pos else next_place text ts q w

abbrev pub is_var : TokenKind → Bool
is_var (Key Var) = true
is_var k = false

-- where a name is declared: its first place after `var`
abbrev pub declared_from : List ℕ → Bool → List Token → List ℕ → Option Pos
declared_from text after [] w = None
declared_from text after (t ∷ ts) w = if after && is_name text t w then Some t.pos else declared_from text (is_var t.kind) ts w

abbrev pub declared_place : List ℕ → List Token → List ℕ → Option Pos
declared_place text ts w = declared_from text false ts w

-- what a command is called that begins with such a token
abbrev pub noun : TokenKind → List ℕ
noun (Key Skip) = codes "skip"
noun (Key If) = codes "if"
noun (Key While) = codes "while"
noun (Key Mitigate) = codes "mitigate"
noun (Key Sleep) = codes "sleep"
noun k = codes "assignment"

-- and what in it reads
abbrev pub reader : TokenKind → List ℕ
reader (Key If) = codes "guard"
reader (Key While) = codes "guard"
reader k = noun k

-- the kind of the token at a position
abbrev pub kind_at : List Token → Pos → TokenKind
kind_at [] q = End
kind_at (t ∷ ts) q = if is_same t.pos q then t.kind else kind_at ts q

-- the bytes of the token at a position; none where none begins there
abbrev pub spelled_at : List ℕ → List Token → Pos → List ℕ
spelled_at text [] q = []
spelled_at text (t ∷ ts) q = if is_same t.pos q then spelled text t else spelled_at text ts q
