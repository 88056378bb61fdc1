-- Commands still to do. Each form carries the rest of its list, so that a program is one inductive value.
use Rattle.std.specs.Prelude.{ℕ}
use Rattle.mit_syntax.specs.Expression.{Expression}

-- Each command has marks of a type M, and each mitigate a level of a type L: what a program writes, or
-- what a labelling gives. A mitigate also has its mark, a number.
pub data Todo (M L : Type 0) : Type 0 where
  Done : Todo M L
  Skip : M → Todo M L → Todo M L
  Assign : M → ℕ → Expression → Todo M L → Todo M L
  -- an element: the first element of its array, the length, the index, the value
  Put : M → ℕ → ℕ → Expression → Expression → Todo M L → Todo M L
  Sleep : M → Expression → Todo M L → Todo M L
  If : M → Expression → Todo M L → Todo M L → Todo M L → Todo M L
  While : M → Expression → Todo M L → Todo M L → Todo M L
  Mitigate : M → ℕ → L → Expression → Todo M L → Todo M L → Todo M L

-- one list after another
abbrev pub then_todo : {M L : Type 0} → Todo M L → Todo M L → Todo M L
then_todo Done q = q
then_todo (Skip m p) q = Skip m (then_todo p q)
then_todo (Assign m x e p) q = Assign m x e (then_todo p q)
then_todo (Put m f n i e p) q = Put m f n i e (then_todo p q)
then_todo (Sleep m e p) q = Sleep m e (then_todo p q)
then_todo (If m e a b p) q = If m e a b (then_todo p q)
then_todo (While m e c p) q = While m e c (then_todo p q)
then_todo (Mitigate m k l e c p) q = Mitigate m k l e c (then_todo p q)

-- the same commands with other marks and levels
abbrev pub map_todo : {M L M' L' : Type 0} → (M → M') → (L → L') → Todo M L → Todo M' L'
map_todo f g Done = Done
map_todo f g (Skip m p) = Skip (f m) (map_todo f g p)
map_todo f g (Assign m x e p) = Assign (f m) x e (map_todo f g p)
map_todo f g (Put m a n i e p) = Put (f m) a n i e (map_todo f g p)
map_todo f g (Sleep m e p) = Sleep (f m) e (map_todo f g p)
map_todo f g (If m e a b p) = If (f m) e (map_todo f g a) (map_todo f g b) (map_todo f g p)
map_todo f g (While m e c p) = While (f m) e (map_todo f g c) (map_todo f g p)
map_todo f g (Mitigate m k l e c p) = Mitigate (f m) k (g l) e (map_todo f g c) (map_todo f g p)

-- the commands alone, without marks and levels
abbrev pub commands_of : {M L : Type 0} → Todo M L → Todo (Unit {0}) (Unit {0})
commands_of p = map_todo (λ _. tt) (λ _. tt) p

-- read label and write label
pub record Marks : Type 0 where
  pub er : ℕ
  pub ew : ℕ

-- commands with the labels of a labelling
abbrev pub Marked : Type 0
Marked = Todo Marks ℕ
