use Rattle.std.proofs.Common.{◌≡◌, ◌++◌, drop, map}
use Rattle.lab_texts.specs.Names.{after_blanks}
use Rattle.lab_why.proofs.names.put_names.Given as goal

abbrev pub invariant-loop-k : goal.invariant-loop-k
invariant-loop-k l =
    l.out.items ++ after_blanks (map (λ d. d.0) (drop l.k l.p.declarations)) ≡ l.initial.out.items ++ after_blanks (map (λ d. d.0) l.p.declarations)
