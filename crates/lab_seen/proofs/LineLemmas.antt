-- Lines that were not written to their end.
use Rattle.std.proofs.Common.{◌≡◌, ℕ, List, ◌++◌, Option, ap, ◌∙◌, subst, append_assoc, codes}
use Rattle.std.proofs.KnownBytes.{Appends-trans}
use Rattle.std.specs.Io.KnownBytes.{Appends}
use Rattle.tim_base.specs.Sinks.{AppendsPrefix}
use Rattle.tool_texts.proofs.EndLemmas.{prefix_after, prefix_longer}

module _ (head number field : List ℕ) (is : head ≡ number ++ codes "\t") where
  whole : head ++ (field ++ codes "\n") ≡ number ++ (codes "\t" ++ (field ++ codes "\n"))
  whole = ap (λ z. z ++ (field ++ codes "\n")) is ∙ append_assoc number (codes "\t") (field ++ codes "\n")

  pub broke_head : (a b : Option (List ℕ)) → AppendsPrefix a b head → AppendsPrefix a b (number ++ (codes "\t" ++ (field ++ codes "\n")))
  broke_head a b h = subst (AppendsPrefix a b) whole (prefix_longer a b head (field ++ codes "\n") h)

  pub broke_field : (a b c : Option (List ℕ)) → Appends a b head → AppendsPrefix b c field → AppendsPrefix a c (number ++ (codes "\t" ++ (field ++ codes "\n")))
  broke_field a b c h k = prefix_after a b c head (field ++ codes "\n") (number ++ (codes "\t" ++ (field ++ codes "\n"))) h
      (prefix_longer b c field (codes "\n") k) whole

  pub broke_end : (a b c d : Option (List ℕ)) → Appends a b head → Appends b c field → AppendsPrefix c d (codes "\n")
      → AppendsPrefix a d (number ++ (codes "\t" ++ (field ++ codes "\n")))
  broke_end a b c d h k q = prefix_after a c d (head ++ field) (codes "\n") (number ++ (codes "\t" ++ (field ++ codes "\n")))
      (Appends-trans a b c head field h k) q (append_assoc head field (codes "\n") ∙ whole)
