-- The command in whose own code a place of an image lies: beside the code of the commands inside it.
use Rattle.std.specs.Prelude.{◌≡◌, ◌≤◌, ◌<◌, ℕ, ◌+◌, ltb, eqb, cond, Bool, false, ◌&&◌, Option, Some, None}
use Rattle.text_base.specs.declared.pos.Pos.{Pos}
use Rattle.mit_syntax.specs.Todo.{Done, Skip, Assign, Put, Sleep, If, While, Mitigate}
use Rattle.mit_syntax.specs.Plan.{Plan, Written}
use Rattle.code_lower.specs.Layout.{expr_size, size}
use Rattle.lab_steady.specs.declared.owner.Found.{Found}
use Rattle.lab_steady.specs.declared.owner.Found.TheVariants.{At, After}

-- the command itself up to a place, and from there on the rest
abbrev pub own : Written → ℕ → ℕ → Option Pos → Option Pos
own w b n rest = cond (ltb n b) (Some w.pos) rest

abbrev pub or_else : {A : Type 0} → Option A → Option A → Option A
or_else None y = y
or_else (Some x) y = Some x

-- Where the code of a list stands from place a on, the position of the command whose own code place n lies in. The own
-- code of a command is that of its expressions and its own instructions, by the sizes of `Layout.antt`.
abbrev pub owner : Plan → ℕ → ℕ → Option Pos
owner Done a n = None
owner (Skip w r) a n = own w (a + 1) n (owner r (a + 1) n)
owner (Assign w x e r) a n =
    let b = a + expr_size e + 1 in
    own w b n (owner r b n)
owner (Put w f l i e r) a n =
    let b = a + expr_size i + expr_size e + 1 in
    own w b n (owner r b n)
owner (Sleep w e r) a n =
    let b = a + expr_size e + 1 in
    own w b n (owner r b n)
owner (If w e c d r) a n =
    let b = a + expr_size e + 1 in
    let j = b + size c + 1 in
    let q = j + size d in
    own w b n (or_else (owner c b n) (own w j n (or_else (owner d j n) (owner r q n))))
owner (While w e c r) a n =
    let b = a + expr_size e + 1 in
    let q = b + size c + expr_size e + 1 in
    own w b n (or_else (owner c b n) (own w q n (owner r q n)))
owner (Mitigate w k l e c r) a n =
    let b = a + expr_size e + 1 in
    let j = b + size c + 1 in
    own w b n (or_else (owner c b n) (own w j n (owner r j n)))

-- two positions, where both are there
abbrev pub same_place : Option Pos → Option Pos → Bool
same_place None r = false
same_place (Some p) None = false
same_place (Some p) (Some r) = eqb p.line r.line && eqb p.column r.column

-- ---- what a walk finds of place n

-- own code that ends before b
abbrev pub IsOwn : Pos → ℕ → ℕ → Found → Type 0
IsOwn p b n (At q) = (n < b) × (q ≡ p)
IsOwn p b n (After c) = (c ≡ b) × (b ≤ n)

-- a list whose code stands from a on
abbrev pub IsIn : Plan → ℕ → ℕ → Found → Type 0
IsIn p a n (At q) = owner p a n ≡ Some q
IsIn p a n (After b) = (b ≤ n) × (b ≡ a + size p) × (owner p a n ≡ None)

-- the first command of a list, whatever follows it
abbrev pub IsPassed : (Plan → Plan) → ℕ → ℕ → Found → Type 0
IsPassed f a n (At q) = (rest : Plan) → owner (f rest) a n ≡ Some q
IsPassed f a n (After b) = (b ≤ n) × ((rest : Plan) → (a + size (f rest) ≡ b + size rest) × (owner (f rest) a n ≡ owner rest b n))
