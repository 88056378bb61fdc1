-- What is told of a name that is declared nowhere.
use Rattle.std.specs.Prelude.{ℕ, ◌+◌, ◌-◌, ◌&&◌, ◌||◌, ◌==◌, Bool, true, false, if◌then◌else◌, nat_lt, List, [], ◌∷◌, ◌++◌, codes}
use Rattle.std.specs.Str.{bytes_eq}
use Rattle.text_base.specs.declared.pos.Pos.{Pos}
use Rattle.mit_syntax.specs.declared.token.Keyword.TheVariants as key
use Rattle.mit_syntax.specs.declared.token.Sign.TheVariants as sign
use Rattle.mit_syntax.specs.declared.token.Token.{Token}
use Rattle.mit_syntax.specs.Cut.{token_bytes}
use Rattle.next_tokens.specs.declared.sort.Sort.{Sort}
use Rattle.next_tokens.specs.Sorts.{sort_in, has_key, has_sign, is_a_name}
use Rattle.fault_print.specs.declared.traps.Trap.TheVariants as trap
use Rattle.fault_print.specs.Traps.{trap_line}
use Rattle.fault_print.specs.Tokens.{sort_at, before_at}

-- ---- names that are alike

-- a letter, as a small one
abbrev pub small : ℕ → ℕ
small b = if nat_lt 64 b && nat_lt b 91 then b + 32 else b

-- they differ in large and small letters at most
abbrev pub is_same : List ℕ → List ℕ → Bool
is_same [] [] = true
is_same [] (y ∷ v) = false
is_same (x ∷ w) [] = false
is_same (x ∷ w) (y ∷ v) = (small x == small y) && is_same w v

-- the first two letters have changed their places
abbrev pub is_turned : List ℕ → List ℕ → Bool
is_turned [] v = false
is_turned (x ∷ []) v = false
is_turned (x ∷ z ∷ w) [] = false
is_turned (x ∷ z ∷ w) (y ∷ []) = false
is_turned (x ∷ z ∷ w) (y ∷ u ∷ v) = (small x == small u) && ((small z == small y) && is_same w v)

abbrev pub but_first : List ℕ → List ℕ
but_first [] = []
but_first (x ∷ w) = w

-- the first letter is another one, is too much or is missing, or the first two have changed their places
abbrev pub is_one_off : List ℕ → List ℕ → Bool
is_one_off w v = is_same (but_first w) (but_first v) || (is_same (but_first w) v || (is_same w (but_first v) || is_turned w v))

-- they are so behind their common beginning
abbrev pub is_near : List ℕ → List ℕ → Bool
is_near [] v = is_one_off [] v
is_near (x ∷ w) [] = is_one_off (x ∷ w) []
is_near (x ∷ w) (y ∷ v) = if small x == small y then is_near w v else is_one_off (x ∷ w) (y ∷ v)

-- ---- the names of a text

abbrev pub listed : Bool → List ℕ → List ℕ
listed is w = if is then codes " " ++ w else []

-- The names of variables and arrays that are near to w: names behind a `var`. `declared` tells whether one stands before.
abbrev pub near_names : List ℕ → List ℕ → Bool → List Token → List ℕ
near_names T w declared [] = []
near_names T w declared (t ∷ r) =
    listed (declared && is_near w (token_bytes T t)) (token_bytes T t) ++ near_names T w (has_key key.Var (sort_in t.kind)) r

-- w is the name of one
abbrev pub has_variable : List ℕ → List ℕ → Bool → List Token → Bool
has_variable T w declared [] = false
has_variable T w declared (t ∷ r) = (declared && bytes_eq w (token_bytes T t)) || has_variable T w (has_key key.Var (sort_in t.kind)) r

-- the names up to a `;`
abbrev pub front_names : List ℕ → List Token → List ℕ
front_names T [] = []
front_names T (t ∷ r) = if has_sign sign.Semicolon (sort_in t.kind) then [] else listed (is_a_name (sort_in t.kind)) (token_bytes T t) ++ front_names T r

-- w is one of them
abbrev pub in_front : List ℕ → List ℕ → List Token → Bool
in_front T w [] = false
in_front T w (t ∷ r) = if has_sign sign.Semicolon (sort_in t.kind) then false else bytes_eq w (token_bytes T t) || in_front T w r

abbrev pub has_header : List Token → Bool
has_header [] = false
has_header (t ∷ r) = has_key key.Labels (sort_in t.kind)

-- the names of the labels
abbrev pub label_names : List ℕ → List Token → List ℕ
label_names T ts = if has_header ts then front_names T ts else codes " L H"

abbrev pub has_label : List ℕ → List ℕ → List Token → Bool
has_label T w ts = if has_header ts then in_front T w ts else bytes_eq w (codes "L") || bytes_eq w (codes "H")

-- ---- a place

-- the number of the token at a place
abbrev pub number_at : Pos → List Token → ℕ
number_at p [] = 0
number_at p (t ∷ r) = if (t.pos.line == p.line) && (t.pos.column == p.column) then 0 else number_at p r + 1

-- a name stands for a label behind these sorts of tokens, the last of which is a
abbrev pub names_label : Sort → Sort → Sort → Bool
names_label c b a =
    has_sign sign.Colon a || (has_sign sign.Comma a || (has_key key.Order a || ((has_sign sign.LeftSquare a && has_sign sign.At b)
    || (has_sign sign.Less a && (has_key key.Order c || has_sign sign.Comma c)))))

abbrev pub is_label_place : List Token → ℕ → Bool
is_label_place ts n = names_label (sort_at (before_at ts (n - 2))) (sort_at (before_at ts (n - 1))) (sort_at (before_at ts n))

-- ---- what is told

abbrev pub labels_line : List ℕ → List Token → List ℕ
labels_line T ts = codes "labels" ++ (label_names T ts ++ codes "\n")

abbrev pub near_line : List ℕ → List ℕ
near_line [] = trap_line trap.Declaration
near_line (b ∷ r) = codes "nearest" ++ ((b ∷ r) ++ codes "\n")

-- the name w in the place of a label
abbrev pub no_label : List ℕ → List ℕ → List Token → List ℕ
no_label T w ts = (if has_variable T w false ts then codes "it is a variable, and no label\n" else []) ++ labels_line T ts

-- the name w in the place of a variable
abbrev pub no_variable : List ℕ → List ℕ → List Token → List ℕ
no_variable T w ts = if has_label T w ts then codes "it is a label, and no variable\n" else near_line (near_names T w false ts)

-- the name w at a place
abbrev pub name_lines : List ℕ → List Token → List ℕ → Pos → List ℕ
name_lines T ts w p = if is_label_place ts (number_at p ts) then no_label T w ts else no_variable T w ts
