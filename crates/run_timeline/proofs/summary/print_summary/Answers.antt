use Rattle.std.proofs.Common.{◌≡◌, ◌≤◌, ◌<◌, ◌++◌, length, ap, ◌∙◌, subst, arith}
use Rattle.std.specs.Prelude.{ℕ, Result, Ok, Err, OnErr}
use Rattle.std.specs.Io.KnownBytes.{Appends}
use Rattle.tim_base.specs.Sinks.{AppendsPrefix}
use Rattle.run_timeline.specs.Summary.{mitigate_text, tally_text}
use Rattle.run_timeline.proofs.Summing.{sum_more, sum_part}
use Rattle.run_timeline.proofs.summary.print_summary.Goals as goal

on_err : {T E : Type 0} (r : Result T E) (P : Type 0) → P → OnErr r P
on_err (Ok x) P h = tt
on_err (Err e) P h = h

up_to : (a b c : ℕ) → a ≤ b → b ≤ c → a ≤ c
up_to a b c p q = omega arith

pub returns-in_err-write_both-clause-prefix : goal.returns-in_err-write_both-clause-prefix
returns-in_err-write_both-clause-prefix g c =
    let ps = c.args.listing.now.places.items in
    let ts = c.args.listing.now.tallies.items in
    let tally = c.index-tally.result.now in
    let lt : c.loop-mark.mark < length ts = omega arith in
    let same : c.bytes.result.now ++ c.bytes-in-loop-mark.result.now ≡ mitigate_text ps c.loop-mark.mark tally.ended ++ tally_text tally =
    ap (λ z. z ++ c.bytes-in-loop-mark.result.now) (c.bytes.ensures
    ∙ (c.mitigate_line-head.ensures ∙ ap (λ z. mitigate_text z c.loop-mark.mark tally.ended) c.deref.ensures.value))
    ∙ ap (λ z. mitigate_text ps c.loop-mark.mark tally.ended ++ z) (c.bytes-in-loop-mark.ensures ∙ c.tally_line-rest.ensures) in
    on_err _ _ (sum_part ps ts _ _ _ c.loop-mark.mark tally c.loop-mark.invariant.summed lt c.index-tally.ensures
    (subst (AppendsPrefix (g.W.Sink.taken c.loop-mark.out) (g.W.Sink.taken c.write_both.new.out)) same c.in_err-write_both.ensures.prefix))

pub loop-mark-preserved : goal.loop-mark-preserved
loop-mark-preserved g c =
    let ps = c.args.listing.now.places.items in
    let ts = c.args.listing.now.tallies.items in
    let tally = c.index-tally.result.now in
    let lt : c.loop-mark.mark < length ts = omega arith in
    let same : c.bytes.result.now ++ c.bytes-in-loop-mark.result.now ≡ mitigate_text ps c.loop-mark.mark tally.ended ++ tally_text tally =
    ap (λ z. z ++ c.bytes-in-loop-mark.result.now) (c.bytes.ensures
    ∙ (c.mitigate_line-head.ensures ∙ ap (λ z. mitigate_text z c.loop-mark.mark tally.ended) c.deref.ensures.value))
    ∙ ap (λ z. mitigate_text ps c.loop-mark.mark tally.ended ++ z) (c.bytes-in-loop-mark.ensures ∙ c.tally_line-rest.ensures) in
    record {
      summed =
          sum_more ps ts _ _ _ c.loop-mark.mark tally c.loop-mark.invariant.summed lt c.index-tally.ensures
          (subst (Appends (g.W.Sink.taken c.loop-mark.out) (g.W.Sink.taken c.write_both.new.out)) same c.in_ok-write_both.ensures.text);
      later = up_to _ _ _ c.loop-mark.invariant.later c.write_both.ensures.later;
    }
