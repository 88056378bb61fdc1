-- From the fault of a text, or the program that it spells, to what is told of it.
use Rattle.std.proofs.Common.{◌≡◌, ◌≢◌, ◌≤◌, ℕ, List, ◌++◌, length, Option, refl, ap, subst, ◌∙◌, Result, IfOk}
use Rattle.text_base.specs.declared.pos.Memory.{Memory}
use Rattle.tim_base.specs.Told.{limit, IsTold}
use Rattle.mit_syntax.specs.declared.fault.TextFault.{TextFault}
use Rattle.mit_syntax.specs.declared.fault.TextFault.TheVariants as text
use Rattle.mit_syntax.specs.declared.token.Token.{Token}
use Rattle.mit_syntax.specs.Cut.{AreTokens, IsFault}
use Rattle.mit_syntax.specs.Program.{Syntax}
use Rattle.mit_parser.specs.declared.fault.ParseFault.{ParseFault}
use Rattle.mit_parser.specs.declared.fault.ParseFault.TheVariants as parse
use Rattle.mit_parser.specs.Words.{told}
use Rattle.mit_parser.specs.Spells.{IsProgram, Refuses}
use Rattle.fault_print.specs.Faults.{TellsText, TellsTokens}
use Rattle.tool_texts.specs.Texts.{text_fault_line, parse_fault_line, header_name}
use Rattle.tool_stages.specs.Stages.{Reads}
use Rattle.lab_why.specs.declared.explained.Explained.{Explained}
use Rattle.lab_why.specs.declared.faulty.Spelled.{Spelled}
use Rattle.lab_why.specs.declared.faulty.Spelled.TheVariants.{Spells}
use Rattle.lab_why.specs.Explained.{IsExplained}
use Rattle.lab_why.specs.Faulty.{HasTextTold, HasTokensTold, IsSpelled}
use Rattle.lab_why.proofs.FaultLemmas.{if_ok}

module _ (T : List ℕ) (short : length T ≤ limit) where
  -- a text that has no tokens; a and b are the pieces that are written
  pub has_text : (f : TextFault) (line more a b t : List ℕ) → IsFault T f → f ≢ text.Memory → line ≡ text_fault_line f → TellsText T f more
      → a ≡ line → b ≡ more → t ≡ a ++ b → (c : Option (Option (List ℕ))) → IsTold c T → HasTextTold c t
  has_text f line more a b t is none first tells e g whole c are =
      record {
        line = line;
        stops = record { bytes = T; are = are; short = short; fault = f; none = none; is = is; line = first };
        more = more;
        tells = tells;
        text = whole ∙ ap (λ (z : List ℕ). z ++ b) e ∙ ap (λ (z : List ℕ). line ++ z) g;
      }

  -- tokens that are no program
  pub has_tokens : (ts : List Token) (f : ParseFault) (line more a b t : List ℕ) → AreTokens T ts → Refuses (told T ts) f → f ≢ parse.Memory
      → line ≡ parse_fault_line (header_name T ts) f → TellsTokens T ts f more → a ≡ line → b ≡ more → t ≡ a ++ b
      → (c : Option (Option (List ℕ))) → IsTold c T → HasTokensTold c t
  has_tokens ts f line more a b t cut is none first tells e g whole c are =
      record {
        line = line;
        stops = record { bytes = T; are = are; short = short; tokens = ts; cut = cut; fault = f; none = none; is = is; line = first };
        more = more;
        tells = tells;
        text = whole ∙ ap (λ (z : List ℕ). z ++ b) e ∙ ap (λ (z : List ℕ). line ++ z) g;
      }

  -- tokens that are a program
  pub has_program : (ts us : List Token) (p : Syntax) → AreTokens T ts → us ≡ ts → IsProgram (told T us) p → (c : Option (Option (List ℕ))) → IsTold c T
      → (reads : Reads c p) × (reads.bytes ≡ T)
  has_program ts us p cut same is c are =
      (record { bytes = T; are = are; short = short; tokens = ts; cut = cut; spelled = subst (λ (z : List Token). IsProgram (told T z) p) same is }, refl)

-- the program of a text is explained
pub spells_explained : (T : List ℕ) (s : Spelled) (p : Syntax) (r : Result Explained Memory)
    → ((c : Option (Option (List ℕ))) → IsTold c T → IsSpelled c T s) → s ≡ Spells p
    → IfOk r (λ x. (c : Option (Option (List ℕ))) (reads : Reads c p) → reads.bytes ≡ T → IsExplained c x)
    → IfOk r (λ x. (c : Option (Option (List ℕ))) → IsTold c T → IsExplained c x)
spells_explained T s p r h e k = if_ok r _ _ (λ x answers c are.
    let reads : (reads : Reads c p) × (reads.bytes ≡ T) = subst (λ (z : Spelled). IsSpelled c T z) e (h c are) in
    answers c reads.0 reads.1) k
