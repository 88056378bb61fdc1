-- What is found in a file whose program is refused: the facts that `why` tells, as one object.
use Rattle.std.specs.Prelude.{◌≡◌, ℕ, List, Option}
use Rattle.mit_syntax.specs.Program.{Syntax}
use Rattle.lab_why.specs.Reasons.{HasReason, fault_of}
use Rattle.found_print.specs.Refused.{refused_object}

-- no labelling types the program that the file holds: the condition that is broken, and the chain, are those that `why` tells
pub record HasReasonFound (content : Option (Option (List ℕ))) (p : Syntax) (t : List ℕ) : Type 0 where
  pub lines : List ℕ
  pub why : HasReason content p lines
  pub text : t ≡ refused_object why.source.bytes why.source.tokens p (fault_of why.refused) why.chain
