use Rattle.std.proofs.Common.{◌≡◌, ◌≢◌, ◌==◌, ◌+◌, false, Some, List, ◌∷◌, rules, tests, sym, ap, ◌∙◌, subst, arith, length}
use Rattle.std.specs.List.{slice_split}
use Rattle.std.proofs.lemmas.Iterator.Splits.{YieldsList-from_slice_split}
use Rattle.std.proofs.lemmas.Iterator.Consumers.{YieldsList-turn, YieldsList-end}
use Rattle.std.proofs.lemmas.List.{length_push}
use Rattle.black_box.specs.declared.fault.ReadyFault.TheVariants.{Memory}
use Rattle.black_box.specs.declared.line.Line.{Line}
use Rattle.black_box.specs.Lines.{first_bad, lines_of, line_of}
use Rattle.black_box.specs.Files.{lists, has_runs, Takes, IsBadLine}
use Rattle.black_box.proofs.FileLemmas.{IsRead, read_more, read_bad, read_all, length-lists}
use Rattle.black_box.proofs.ready.all_runs.Goals as goal

pub loop-line-preserved : goal.loop-line-preserved
loop-line-preserved c =
    let all = slice_split (λ b. b == 10) c.args.bytes.now in
    let t = YieldsList-turn (YieldsList-from_slice_split _ (λ b. b == 10) c.args.bytes.now (cc) (cc) (cc) (λ x b q k. search (rules, tests)))
    c.loop-line.yielded _ c.loop-line.yielded_by _ _ c.in-Some.line c.in-Some.is c.next.ensures.steps in
    let old = length-lists c.loop-line.runs in
    let new = length-lists c.take_line.new.runs in
    let short = c.in_ok-take_line.ensures.short in
    let takes : Takes (line_of c.in-Some.line.now) (lists c.loop-line.runs) (lists c.take_line.new.runs) =
    subst (λ z. Takes z (lists c.loop-line.runs) (lists c.take_line.new.runs)) c.line_of.ensures c.in_ok-take_line.ensures.taken in
    let more = read_more all (length c.loop-line.yielded) c.loop-line.number (lists c.loop-line.runs) (lists c.take_line.new.runs) c.in-Some.line.now
    c.loop-line.invariant.2 t.0 t.1 takes (omega (arith, old, new, short)) in (
      search rules,
      search rules,
      subst (λ k. IsRead all k (c.loop-line.number + 1) (lists c.take_line.new.runs))
          (sym (length_push c.loop-line.yielded c.in-Some.line)) more,
    )

pub returns-in_err-take_line-clause-bad : goal.returns-in_err-take_line-clause-bad
returns-in_err-take_line-clause-bad c =
    let all = slice_split (λ b. b == 10) c.args.bytes.now in
    let e = c.in_err-take_line.field-0.0 in
    let t = YieldsList-turn (YieldsList-from_slice_split _ (λ b. b == 10) c.args.bytes.now (cc) (cc) (cc) (λ x b q k. search (rules, tests)))
    c.loop-line.yielded _ c.loop-line.yielded_by _ _ c.in-Some.line c.in-Some.is c.next.ensures.steps in
    let known : c.in_err-take_line.field-0.0 ≢ Memory → IsBadLine (first_bad false 1 (lines_of c.args.bytes.now)) c.in_err-take_line.field-0.0 =
    λ ne.
    let first : (rest : List Line) → first_bad (has_runs (lists c.loop-line.runs)) (c.loop-line.number + 1) (line_of c.in-Some.line.now ∷ rest)
    ≡ Some (c.loop-line.number + 1) =
    λ rest. ap (λ z. first_bad (has_runs (lists c.loop-line.runs)) (c.loop-line.number + 1) (z ∷ rest)) (sym c.line_of.ensures)
    ∙ c.in_err-take_line.ensures.first ne rest in
    subst (λ o. IsBadLine o c.in_err-take_line.field-0.0)
    (sym (read_bad all (length c.loop-line.yielded) c.loop-line.number (lists c.loop-line.runs) c.in-Some.line.now c.loop-line.invariant.2 t.0 t.1 first))
    (c.in_err-take_line.ensures.bad ne) in
    search (rules, known)

pub returns-clause-holds : goal.returns-clause-holds
returns-clause-holds c =
    let t = YieldsList-end (YieldsList-from_slice_split _ (λ b. b == 10) c.args.bytes.now (cc) (cc) (cc) (λ x b q k. search (rules, tests))) c.loop-line.yielded
    _ c.loop-line.yielded_by _ _ c.in-None.is c.next.ensures.steps in
    (read_all (slice_split (λ b. b == 10) c.args.bytes.now) (length c.loop-line.yielded) c.loop-line.number (lists c.loop-line.runs)
    c.loop-line.invariant.2 t.1).0

pub returns-clause-good : goal.returns-clause-good
returns-clause-good c =
    let t = YieldsList-end (YieldsList-from_slice_split _ (λ b. b == 10) c.args.bytes.now (cc) (cc) (cc) (λ x b q k. search (rules, tests))) c.loop-line.yielded
    _ c.loop-line.yielded_by _ _ c.in-None.is c.next.ensures.steps in
    (read_all (slice_split (λ b. b == 10) c.args.bytes.now) (length c.loop-line.yielded) c.loop-line.number (lists c.loop-line.runs)
    c.loop-line.invariant.2 t.1).1
