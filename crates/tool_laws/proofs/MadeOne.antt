-- A made program is a program.
use Rattle.std.proofs.Common.{◌<◌, ◌∙◌, refl, ℕ, zero, suc, List, [], ◌∷◌, ◌++◌, arith}
use Rattle.mit_syntax.specs.declared.token.Token.{Token}
use Rattle.mit_syntax.specs.Cut.{start, moved, end_at}
use Rattle.mit_syntax.specs.Program.{Syntax}
use Rattle.mit_parser.specs.Words.{Told, told}
use Rattle.mit_parser.specs.Tree.{ProgramTree, no_header, no_more}
use Rattle.mit_parser.specs.Named.{label_names, label_pairs, declarations_in}
use Rattle.mit_parser.specs.Scope.{scope}
use Rattle.mit_parser.specs.Meaning.{plan_commands}
use Rattle.mit_parser.specs.Spells.{Resolves, IsProgram}
use Rattle.mit_parser.proofs.NamedWhole.{named_of}
use Rattle.mit_gen.specs.Made.{program_text}
use Rattle.made_laws.specs.Words.{HasWords}
use Rattle.made_laws.specs.MadeWords.{program_words}
use Rattle.made_laws.proofs.Onto.{ToldAs, told_as}
use Rattle.made_laws.proofs.Trees.{program_tree, program_spelled, units_within}
use Rattle.made_laws.proofs.Names.{program_known}
use Rattle.made_laws.proofs.Order.{two_sound}
use Rattle.made_laws.specs.MadeStarts.{IsMade}
use Rattle.tool_laws.proofs.Order.{two, two_built}

-- what a tree without a header means
abbrev meant : ProgramTree → Syntax
meant t =
    let names = label_names no_header in
    let ds = declarations_in names t.declarations in
    record { order = two; pairs = label_pairs no_header; declarations = ds; plan = plan_commands (scope names ds) 0 t.commands }

is_program : (n number : ℕ) (words : List Told) → ToldAs words (program_words (suc n) number) → (p : Syntax) × IsProgram words p
is_program n number words h =
    let t : ProgramTree = program_tree number n h.positions in
    let r : Resolves t (meant t) = record {
      named = named_of t refl (program_known h.positions number n);
      order = two_built two_sound;
      pairs =
          refl;
      declarations = refl;
      plan = refl;
    } in (
      meant t,
      record {
        tree = t;
        spells = (h.last, h.are ∙ program_spelled number n h.positions _);
        within =
            units_within number h.positions n no_more tt;
        resolves = r;
      },
    )

pub made_one : (size number : ℕ) → 0 < size → HasWords (program_text size number) (program_words size number) → (p : Syntax) × IsMade size number p
made_one zero number h w = absurd (omega (arith, h))
made_one (suc n) number h w =
    let text : List ℕ = program_text (suc n) number in
    let tokens : List Token = w.tokens ++ end_at (moved start text) ∷ [] in
    let a = is_program n number (told text tokens) (told_as text (program_words (suc n) number) w tokens w.are) in
    (a.0, (tokens, w.are, a.1))
