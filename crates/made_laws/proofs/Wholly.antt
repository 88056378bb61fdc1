-- The whole program.
use Rattle.std.proofs.Common.{◌<◌, ◌∙◌, refl, ℕ, zero, suc, List}
use Rattle.std.proofs.Common.{arith}
use Rattle.mit_syntax.specs.declared.token.Token.{Token}
use Rattle.mit_syntax.specs.Cut.{AreTokens}
use Rattle.mit_parser.specs.Words.{Told, told}
use Rattle.mit_gen.specs.Made.{program_text}
use Rattle.made_laws.specs.Words.{HasWords}
use Rattle.made_laws.specs.MadeWords.{program_words}
use Rattle.mit_parser.proofs.NamedWhole.{named_of}
use Rattle.parse_laws.specs.Spelled.{IsSpelled}
use Rattle.made_laws.proofs.Onto.{ToldAs, told_as}
use Rattle.made_laws.proofs.Trees.{program_tree, program_spelled, units_within}
use Rattle.made_laws.proofs.Names.{program_known}
use Rattle.made_laws.proofs.Order.{two_sound}
use Rattle.mit_parser.specs.Tree.{no_more}

words_spelled : (n number : ℕ) (words : List Told) → ToldAs words (program_words (suc n) number) → IsSpelled words
words_spelled n number words h = record {
  tree = program_tree number n h.positions;
  spells = (h.last, h.are ∙ program_spelled number n h.positions _);
  within = units_within number h.positions n no_more tt;
  named = named_of (program_tree number n h.positions) refl (program_known h.positions number n);
  sound = two_sound;
}

pub made_spelled : (size number : ℕ) → 0 < size → HasWords (program_text size number) (program_words size number)
    → (tokens : List Token) → AreTokens (program_text size number) tokens → IsSpelled (told (program_text size number) tokens)
made_spelled zero number h w tokens a = absurd (omega (arith, h))
made_spelled (suc n) number h w tokens a =
    words_spelled n number (told (program_text (suc n) number) tokens) (told_as (program_text (suc n) number) (program_words (suc n) number) w tokens a)
