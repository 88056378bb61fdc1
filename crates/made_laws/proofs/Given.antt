-- What the text of the starts gives a made program.
use Rattle.std.proofs.Common.{◌≡◌, ◌<◌, ◌∙◌, refl, sym, subst, ℕ, zero, suc, List, [], ◌∷◌, None, Some, Ok, arith}
use Rattle.text_base.specs.declared.pos.Pos.{Pos}
use Rattle.label_lattice.specs.Order.{Order}
use Rattle.label_lattice.specs.declared.label.Label.{Label}
use Rattle.mit_syntax.specs.declared.declarations.Decl.{Decl}
use Rattle.mit_syntax.specs.Declarations.{Declaration}
use Rattle.mit_syntax.specs.Plan.{Plan}
use Rattle.mit_syntax.specs.Program.{Syntax}
use Rattle.mit_parser.specs.Words.{Told, told}
use Rattle.mit_parser.specs.Tree.{ProgramTree}
use Rattle.mit_parser.specs.Spells.{Spells, Resolves, IsProgram}
use Rattle.mit_gen.specs.Made.{program_text}
use Rattle.made_laws.specs.Words.{HasWords}
use Rattle.made_laws.specs.MadeWords.{program_words}
use Rattle.parse_laws.proofs.OneProgram.{one_tree}
use Rattle.parse_laws.proofs.Meant.{program_order}
use Rattle.made_laws.proofs.Onto.{ToldAs, told_as}
use Rattle.made_laws.proofs.Trees.{low_name, high_name, program_tree, program_spelled}
use Rattle.start_file.specs.Starts.{starts_in}
use Rattle.start_file.proofs.ForProgram.{starts_for}
use Rattle.made_laws.specs.MadeStarts.{IsMade, made_starts, HasMadeStarts}
use Rattle.made_laws.proofs.Document.{document, starts_utf8, starts_document}

abbrev scalar : ℕ → Decl
scalar l = record { label = Some (record { number = l }); length = None }

-- what every made program declares
abbrev declarations : List Declaration
declarations =
    (low_name 0, scalar 0) ∷ (low_name 1, scalar 0) ∷ (low_name 2, scalar 0) ∷ (low_name 3, scalar 0)
    ∷ (high_name 0, scalar 1) ∷ (high_name 1, scalar 1) ∷ (high_name 2, scalar 1) ∷ (high_name 3, scalar 1) ∷ []

declared : (p : Syntax) (number n : ℕ) (ps : ℕ → Pos) → Resolves (program_tree number n ps) p → p.declarations ≡ declarations
declared p number n ps r = r.declarations

made_spelled : (number n : ℕ) (words : List Told) (h : ToldAs words (program_words (suc n) number)) → Spells (program_tree number n h.positions) words
made_spelled number n words h = (h.last, h.are ∙ program_spelled number n h.positions _)

made_declares : (number n : ℕ) (words : List Told) (p : Syntax) → ToldAs words (program_words (suc n) number) → IsProgram words p
    → p.declarations ≡ declarations
made_declares number n words p h s =
    let P : ProgramTree → Type 0 = λ t. Resolves t p in
    declared p number n h.positions (subst P (one_tree words s.tree (program_tree number n h.positions) s.spells (made_spelled number n words h)) s.resolves)

abbrev program : Order → List (Label × Label) → List Declaration → Plan → Syntax
program o ps ds p = record { order = o; pairs = ps; declarations = ds; plan = p }

-- the starts of a program with these declarations, whatever its labels and commands are
starts_given : (p : Syntax) → p.declarations ≡ declarations → starts_in p (Some document) ≡ Ok made_starts
starts_given p e =
    let P : List Declaration → Type 0 = λ ds. starts_in (program p.order p.pairs ds p.plan) (Some document) ≡ Ok made_starts in
    subst P (sym e) refl

has_starts : (words : List Told) (p : Syntax) → IsProgram words p → p.declarations ≡ declarations → HasMadeStarts p
has_starts words p s e =
    let g : starts_in p (Some document) ≡ Ok made_starts = starts_given p e in
    record { gives = (Some document, (starts_utf8, starts_document), sym g); valid = starts_for p (program_order words p s) document made_starts g }

pub made_has_starts : (size number : ℕ) → 0 < size → HasWords (program_text size number) (program_words size number) → (p : Syntax)
    → IsMade size number p → HasMadeStarts p
made_has_starts zero number h w p m = absurd (omega (arith, h))
made_has_starts (suc n) number h w p m =
    let words : List Told = told (program_text (suc n) number) m.0 in
    has_starts words p m.2 (made_declares number n words p (told_as (program_text (suc n) number) (program_words (suc n) number) w m.0 m.1) m.2)
