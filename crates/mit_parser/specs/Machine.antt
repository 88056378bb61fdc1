-- What may come next: a list of what is still to be read, and one word of look-ahead.
use Rattle.std.specs.Prelude.{cond, Option, Some, None, List, [], ◌∷◌}
use Rattle.mit_syntax.specs.declared.token.Keyword.TheVariants.{Labels, Order, Var, Skip, If, Then, Else, While, Do, Mitigate, Sleep}
use Rattle.mit_syntax.specs.declared.token.Sign.TheVariants.{Assign, Colon, Semicolon, Comma, LeftRound, RightRound, LeftBrace, RightBrace, LeftSquare}
use Rattle.mit_syntax.specs.declared.token.Sign.TheVariants.{RightSquare, At, Less}
use Rattle.mit_syntax.specs.Chunks.{key, sign, number, name}
use Rattle.mit_parser.specs.declared.counts.Counts.{Counts}
use Rattle.mit_parser.specs.Words.{Symbol, word, the_end, Told, is, is_sign, is_key}
use Rattle.mit_parser.specs.Operators.{op_at}
use Rattle.mit_parser.specs.Counting.{count, is_over}

pub data Part : Type 0 where
  want : Symbol → Part
  an_atom : Part
  an_index : Part
  a_term : Part
  factors : Part
  a_sum : Part
  addends : Part
  an_expr : Part
  comparison : Part
  a_name : Part
  a_number : Part
  marks : Part
  second : Part
  a_command : Part
  a_block : Part
  commands : Part
  more : Part
  otherwise : Part
  names : Part
  more_names : Part
  a_pair : Part
  pairs : Part
  more_pairs : Part
  ordering : Part
  header : Part
  a_label : Part
  a_shape : Part
  a_declaration : Part
  declarations : Part

abbrev pub choice : {A B : Type 0} → Option A → B → (A → B) → B
choice None b f = b
choice (Some a) b f = f a

abbrev pub atom_step : Symbol → List Part → Option (List Part)
atom_step (word (number n)) s = Some s
atom_step (word (name w)) s = Some (an_index ∷ s)
atom_step (word (sign LeftRound)) s = Some (an_expr ∷ want (word (sign RightRound)) ∷ s)
atom_step (word (sign _)) s = None
atom_step (word (key k)) s = None
atom_step the_end s = None

abbrev pub name_step : Symbol → List Part → Option (List Part)
name_step (word (name w)) s = Some s
name_step (word (number n)) s = None
name_step (word (sign g)) s = None
name_step (word (key k)) s = None
name_step the_end s = None

abbrev pub number_step : Symbol → List Part → Option (List Part)
number_step (word (number n)) s = Some s
number_step (word (name w)) s = None
number_step (word (sign g)) s = None
number_step (word (key k)) s = None
number_step the_end s = None

abbrev pub command_step : Symbol → List Part → Option (List Part)
command_step (word (name w)) s = Some (an_index ∷ want (word (sign Assign)) ∷ an_expr ∷ marks ∷ s)
command_step (word (key Skip)) s = Some (marks ∷ s)
command_step (word (key Sleep)) s = Some (an_expr ∷ marks ∷ s)
command_step (word (key If)) s = Some (an_expr ∷ marks ∷ want (word (key Then)) ∷ a_block ∷ otherwise ∷ s)
command_step (word (key While)) s = Some (an_expr ∷ marks ∷ want (word (key Do)) ∷ a_block ∷ s)
command_step (word (key Mitigate)) s = Some (want (word (sign LeftRound)) ∷ an_expr ∷ second ∷ want (word (sign RightRound)) ∷ marks ∷ a_block ∷ s)
command_step (word (key _)) s = None
command_step (word (number n)) s = None
command_step (word (sign g)) s = None
command_step the_end s = None

-- what follows the first sign or keyword of a part that begins with it
abbrev pub after_index : List Part → List Part
after_index s = an_expr ∷ want (word (sign RightSquare)) ∷ s

abbrev pub after_at : List Part → List Part
after_at s = want (word (sign LeftSquare)) ∷ a_name ∷ second ∷ want (word (sign RightSquare)) ∷ s

abbrev pub after_brace : List Part → List Part
after_brace s = commands ∷ want (word (sign RightBrace)) ∷ s

abbrev pub after_order : List Part → List Part
after_order s = pairs ∷ want (word (sign Semicolon)) ∷ s

abbrev pub after_labels : List Part → List Part
after_labels s = names ∷ want (word (sign Semicolon)) ∷ ordering ∷ s

abbrev pub after_square : List Part → List Part
after_square s = a_number ∷ want (word (sign RightSquare)) ∷ want (word (sign Colon)) ∷ a_name ∷ s

abbrev pub after_var : List Part → List Part
after_var s = a_name ∷ a_shape ∷ want (word (sign Semicolon)) ∷ s

-- what is to be read after this word, if it may come
abbrev pub step : List Part → Symbol → Option (List Part)
step [] w = None
step (want g ∷ s) w = cond (is g w) (Some s) None
step (an_atom ∷ s) w = atom_step w s
step (an_index ∷ s) w = cond (is_sign LeftSquare w) (Some (after_index s)) (step s w)
step (a_term ∷ s) w = atom_step w (factors ∷ s)
step (factors ∷ s) w = choice (op_at 3 w) (step s w) (λ _. Some (an_atom ∷ factors ∷ s))
step (a_sum ∷ s) w = atom_step w (factors ∷ addends ∷ s)
step (addends ∷ s) w = choice (op_at 2 w) (step s w) (λ _. Some (a_term ∷ addends ∷ s))
step (an_expr ∷ s) w = atom_step w (factors ∷ addends ∷ comparison ∷ s)
step (comparison ∷ s) w = choice (op_at 1 w) (step s w) (λ _. Some (a_sum ∷ s))
step (a_name ∷ s) w = name_step w s
step (a_number ∷ s) w = number_step w s
step (marks ∷ s) w = cond (is_sign At w) (Some (after_at s)) (step s w)
step (second ∷ s) w = cond (is_sign Comma w) (Some (a_name ∷ s)) (step s w)
step (a_command ∷ s) w = command_step w s
step (a_block ∷ s) w = cond (is_sign LeftBrace w) (Some (after_brace s)) None
step (commands ∷ s) w = command_step w (more ∷ s)
step (more ∷ s) w = cond (is_sign Semicolon w) (Some (a_command ∷ more ∷ s)) (step s w)
step (otherwise ∷ s) w = cond (is_key Else w) (Some (a_block ∷ s)) (step s w)
step (names ∷ s) w = name_step w (more_names ∷ s)
step (more_names ∷ s) w = cond (is_sign Comma w) (Some (a_name ∷ more_names ∷ s)) (step s w)
step (a_pair ∷ s) w = name_step w (want (word (sign Less)) ∷ a_name ∷ s)
step (pairs ∷ s) w = name_step w (want (word (sign Less)) ∷ a_name ∷ more_pairs ∷ s)
step (more_pairs ∷ s) w = cond (is_sign Comma w) (Some (a_pair ∷ more_pairs ∷ s)) (step s w)
step (ordering ∷ s) w = cond (is_key Order w) (Some (after_order s)) (step s w)
step (header ∷ s) w = cond (is_key Labels w) (Some (after_labels s)) (step s w)
step (a_label ∷ s) w = cond (is_sign Colon w) (Some (a_name ∷ s)) (step s w)
step (a_shape ∷ s) w = cond (is_sign LeftSquare w) (Some (after_square s)) (cond (is_sign Colon w) (Some (a_name ∷ s)) (step s w))
step (a_declaration ∷ s) w = cond (is_key Var w) (Some (after_var s)) None
step (declarations ∷ s) w = cond (is_key Var w) (Some (after_var (declarations ∷ s))) (step s w)

-- the list from the first word on that may not come, or that passes a limit; `Bad []` where there is none
pub data Verdict : Type 0 where
  Bad : List Told → Verdict
  Deep : List Told → Verdict

abbrev pub verdict : List Part → Counts → List Told → Verdict
verdict s c [] = Bad []
verdict s c (b ∷ r) =
    choice (step s b.symbol) (Bad (b ∷ r)) (λ t. cond (is_over (count c b.symbol)) (Deep (b ∷ r)) (verdict t (count c b.symbol) r))
