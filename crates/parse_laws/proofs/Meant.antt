-- Words are one program at most, and a program is not refused.
use Rattle.std.proofs.Common.{◌≡◌, sym, ap, ◌∙◌, subst, ℕ, List}
use Rattle.label_lattice.specs.declared.label.Label.{Label}
use Rattle.label_lattice.specs.Order.{Order, IsOrder}
use Rattle.mit_syntax.specs.Plan.{Plan}
use Rattle.label_lattice.proofs.OneOrder.{one_order}
use Rattle.mit_syntax.specs.declared.token.Token.{Token}
use Rattle.mit_syntax.specs.Cut.{AreTokens}
use Rattle.mit_syntax.specs.Layout.{canonical}
use Rattle.mit_syntax.specs.Valid.{IsValid}
use Rattle.mit_syntax.specs.Program.{Syntax}
use Rattle.mit_syntax.proofs.OneList.{one_list}
use Rattle.mit_syntax.specs.Declarations.{Declaration}
use Rattle.mit_parser.specs.Words.{Told, told}
use Rattle.mit_parser.specs.Scope.{scope}
use Rattle.mit_parser.specs.Tree.{ProgramTree}
use Rattle.mit_parser.specs.Meaning.{plan_commands}
use Rattle.mit_parser.specs.Named.{label_names, label_pairs}
use Rattle.mit_parser.specs.Spells.{IsProgram, Resolves}
use Rattle.parse_laws.specs.Spelled.{IsSpelled}
use Rattle.parse_laws.specs.ReadBack.{Same}
use Rattle.parse_laws.proofs.OneProgram.{one_tree}
use Rattle.parse_laws.proofs.WholeText.{reads_back}

pub program_spelled : (words : List Told) (s : Syntax) → IsProgram words s → IsSpelled words
program_spelled words s p =
    record { tree = p.tree; spells = p.spells; within = p.within; named = p.resolves.named; sound = p.resolves.order.sound }

abbrev program : Order → List (Label × Label) → List Declaration → Plan → Syntax
program o ps ds p = record { order = o; pairs = ps; declarations = ds; plan = p }

same : (t : ProgramTree) (s u : Syntax) → Resolves t s → Resolves t u → s ≡ u
same t s u a b =
    let names : List (List ℕ) = label_names t.header in
    let declarations : s.declarations ≡ u.declarations = a.declarations ∙ sym b.declarations in
    ap (λ o. program o s.pairs s.declarations s.plan) (one_order names (label_pairs t.header) s.order u.order a.order b.order)
    ∙ ap (λ ps. program u.order ps s.declarations s.plan) (a.pairs ∙ sym b.pairs)
    ∙ ap (λ ds. program u.order u.pairs ds s.plan) declarations
    ∙ ap (λ p. program u.order u.pairs u.declarations p) (a.plan ∙ ap (λ (ds : List Declaration). plan_commands (scope names ds) 0 t.commands) declarations
    ∙ sym b.plan)

pub one_meaning : (words : List Told) (s u : Syntax) → IsProgram words s → IsProgram words u → s ≡ u
one_meaning words s u p q =
    let P : ProgramTree → Type 0 = λ t. Resolves t u in
    same p.tree s u p.resolves (subst P (one_tree words q.tree p.tree q.spells p.spells) q.resolves)

-- what a program's order is
pub program_order : (words : List Told) (s : Syntax) → IsProgram words s → IsOrder s.order
program_order words s p = p.resolves.order.order

-- whatever program the canonical text is, it is the one that was written, but for positions
pub canonical_means : (s : Syntax) → IsValid s → (tokens : List Token) → AreTokens (canonical s) tokens → (u : Syntax)
    → IsProgram (told (canonical s) tokens) u → Same u s
canonical_means s v tokens a u p =
    let r = reads_back s v in
    let Q : List Token → Type 0 = λ l. IsProgram (told (canonical s) l) u in
    let m = one_meaning (told (canonical s) r.tokens) u r.program (subst Q (one_list (canonical s) tokens r.tokens a r.are) p) r.is in
    subst (λ z. Same z s) (sym m) r.same
