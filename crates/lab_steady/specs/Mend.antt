-- The line that shows the form of a mend, by the reason of a fault.
use Rattle.std.specs.Prelude.{ℕ, List, [], Option, Some, None, codes}
use Rattle.text_base.specs.declared.pos.Pos.{Pos}
use Rattle.mit_syntax.specs.declared.token.Token.{Token}
use Rattle.mit_syntax.specs.declared.token.TokenKind.{TokenKind}
use Rattle.mit_syntax.specs.declared.token.TokenKind.TheVariants.{Key, End}
use Rattle.mit_syntax.specs.declared.token.Keyword.TheVariants.{If, While}
use Rattle.steady_code.specs.declared.costing.Costing.{Costing}
use Rattle.steady_code.specs.declared.costing.Costing.TheVariants.{Table, Only}
use Rattle.steady_code.specs.declared.fault.Reason.{Reason}
use Rattle.steady_code.specs.declared.fault.Reason.TheVariants.{Felt, Guard, Index, Assigned, Left, Right, Wait, Estimate, Target, Seen}
use Rattle.flow_print.specs.Places.{kind_at}

-- the kind of the token with which the command at a position begins
abbrev pub kind_there : List Token → Option Pos → TokenKind
kind_there tokens None = End
kind_there tokens (Some q) = kind_at tokens q

-- a mend that multiplies by secrets is one where costs are those of the table
abbrev pub by_table : Costing → List ℕ → List ℕ
by_table Table t = t
by_table (Only c) t = []

-- of the guard of an `if`, and of a `while`
abbrev pub guard_mend : Costing → TokenKind → List ℕ
guard_mend costing (Key If) = by_table costing (codes "mend: choose by arithmetic: x := (c != 0) * a + (c == 0) * b\n")
guard_mend costing (Key While) = codes "mend: loop over a public number of turns: i := 0; while i < n do { ..; i := i + 1 }\n"
guard_mend costing k = []

-- of an operand of which too little is known
abbrev pub operand_mend : Costing → List ℕ
operand_mend costing =
    by_table costing
    (codes "mend: multiply by what is short, as c == 0, 1 - c or h % 8, or choose by x := a / (c != 0) + b / (c == 0)\n")

-- of each reason for which one is known, in a command that begins with such a token
abbrev pub mend_line : Costing → TokenKind → Reason → List ℕ
mend_line costing k Felt = []
mend_line costing k Guard = guard_mend costing k
mend_line costing k Index =
    by_table costing (codes "mend: go through all places and choose: i := 0; while i < n do { x := x + (i == j) * a[i]; i := i + 1 }\n")
mend_line costing k Assigned = []
mend_line costing k Left = operand_mend costing
mend_line costing k Right = operand_mend costing
mend_line costing k Wait = codes "mend: sleep for a public time: sleep n\n"
mend_line costing k Estimate = codes "mend: give a public estimate: mitigate (n, H) { .. }\n"
mend_line costing k Target = []
mend_line costing k Seen = []
