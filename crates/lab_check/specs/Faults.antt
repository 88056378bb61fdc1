-- What is found in a file whose text is no program: the facts that `why` tells, as one object.
use Rattle.std.specs.Prelude.{◌≡◌, ◌⊎◌, ℕ, List, [], Option}
use Rattle.mit_syntax.specs.declared.fault.TextFault.{TextFault}
use Rattle.mit_syntax.specs.declared.fault.TextFault.TheVariants as text
use Rattle.mit_syntax.specs.declared.token.Token.{Token}
use Rattle.mit_parser.specs.declared.fault.ParseFault.{ParseFault}
use Rattle.mit_parser.specs.declared.fault.ParseFault.TheVariants as parse
use Rattle.mit_parser.specs.Words.{Told, told}
use Rattle.next_tokens.specs.declared.sort.Sort.{Sort}
use Rattle.next_tokens.specs.Following.{Reaches}
use Rattle.fault_print.specs.Marked.{before_place}
use Rattle.fault_print.specs.Faults.{CouldFollow}
use Rattle.lab_why.specs.Faulty.{HasTextTold, HasTokensTold}
use Rattle.found_print.specs.Faults.{text_place, parse_place, fault_object}

-- what could stand at the place of a byte, where that is known
abbrev pub TextCould : List ℕ → TextFault → List Sort → Type 0
TextCould T (text.BadByte p) could = CouldFollow (before_place T p) could
TextCould T f could = could ≡ []

-- in place of the first of these words that can't stand where it stands
abbrev pub Reached : List Told → List Sort → Type 0
Reached words could = (taken : ℕ) × Reaches words taken could

abbrev pub TokensCould : List ℕ → List Token → ParseFault → List Sort → Type 0
TokensCould T ts (parse.Unexpected p) could = Reached (told T ts) could
TokensCould T ts f could = could ≡ []

-- the file's bytes are no text of tokens
pub record HasTextFound (content : Option (Option (List ℕ))) (t : List ℕ) : Type 0 where
  pub lines : List ℕ
  pub why : HasTextTold content lines
  pub could : List Sort
  pub follows : TextCould why.stops.bytes why.stops.fault could
  pub text : t ≡ fault_object why.line (text_place why.stops.bytes why.stops.fault) could why.more

-- the file's tokens are no program
pub record HasTokensFound (content : Option (Option (List ℕ))) (t : List ℕ) : Type 0 where
  pub lines : List ℕ
  pub why : HasTokensTold content lines
  pub could : List Sort
  pub follows : TokensCould why.stops.bytes why.stops.tokens why.stops.fault could
  pub text : t ≡ fault_object why.line (parse_place why.stops.bytes why.stops.tokens why.stops.fault) could why.more

abbrev pub HasFaultFound : Option (Option (List ℕ)) → List ℕ → Type 0
HasFaultFound content t = HasTextFound content t ⊎ HasTokensFound content t
