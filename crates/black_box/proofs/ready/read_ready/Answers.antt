use Rattle.std.proofs.Common.{◌≡◌, Some, sym, ap, ◌∙◌, arith, length, vec_len}
use Rattle.std.proofs.lemmas.Bool.{eqb-false, MatchBool-at_true, MatchBool-at_false}
use Rattle.black_box.specs.declared.fault.ReadyFault.TheVariants.{TooMany}
use Rattle.black_box.specs.Files.{lists}
use Rattle.black_box.proofs.FileLemmas.{refused_many, accepted, length-lists}
use Rattle.black_box.proofs.ready.read_ready.Goals as goal

pub returns-then-are_too_many-clause-refused : goal.returns-then-are_too_many-clause-refused
returns-then-are_too_many-clause-refused c = λ _.
    let long = length-lists c.in_ok-runs.runs in
    let here : length (lists c.in_ok-runs.runs) ≡ c.len-then-are_too_many.result = long ∙ sym c.len-then-are_too_many.ensures in
    refused_many c.args.bytes.now (lists c.in_ok-runs.runs) c.in_ok-runs.ensures.holds c.in_ok-runs.ensures.good (omega (
      arith,
      long,
      c.len.ensures,
      MatchBool-at_true _ _ c.if-are_too_many.true c.are_too_many.ensures,
    ))
    ∙ ap (λ k. Some (TooMany k)) here

pub returns-clause-accepted : goal.returns-clause-accepted
returns-clause-accepted c =
    let long = length-lists c.in_ok-runs.runs in
    let some = eqb-false (vec_len c.in_ok-runs.runs) 0 (sym c.is_empty.ensures ∙ c.if-is_empty.false) in
    accepted c.args.bytes.now (lists c.in_ok-runs.runs) c.in_ok-runs.ensures.holds c.in_ok-runs.ensures.good (omega (arith, long, some))
    (omega (arith, long, c.len.ensures, MatchBool-at_false _ _ c.if-are_too_many.false c.are_too_many.ensures))
