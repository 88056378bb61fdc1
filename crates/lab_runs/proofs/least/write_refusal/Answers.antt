use Rattle.std.proofs.Common.{◌≡◌, ◌-◌, ℕ, List, length, take, codes, refl, ap, ◌∙◌, subst}
use Rattle.std.specs.Prelude.{Result, Ok, Err, OnErr}
use Rattle.std.proofs.KnownBytes.{Appends-trans}
use Rattle.std.specs.Io.KnownBytes.{Appends}
use Rattle.tool_texts.proofs.EndLemmas.{prefix_after}
use Rattle.lab_runs.proofs.least.write_refusal.Goals as goal

on_err : {T E : Type 0} (r : Result T E) (P : Type 0) → P → OnErr r P
on_err (Ok x) P h = tt
on_err (Err e) P h = h

-- the words that are written first
first_words : (line refusal : List ℕ) (n : ℕ) → line ≡ refusal → n ≡ length line - 1 → take n line ≡ take (length refusal - 1) refusal
first_words line refusal n is e = ap (λ k. take k line) e ∙ ap (λ (z : List ℕ). take (length z - 1) z) is

pub returns-clause-text : goal.returns-clause-text
returns-clause-text g c =
    let words = take (length c.args.refusal.now - 1) c.args.refusal.now in
    let tail = codes "; it runs by its least labels, and no bound holds\n" in
    let is = first_words c.bytes-line.result.now c.args.refusal.now c.saturating_sub.result c.bytes-line.ensures c.saturating_sub.ensures in
    Appends-trans (g.W.Sink.taken c.args.out.now) (g.W.Sink.taken c.write_all.new.out) (g.W.Sink.taken c.write_all-2.new.out) words tail
    (subst (λ (z : List ℕ). Appends (g.W.Sink.taken c.args.out.now) (g.W.Sink.taken c.write_all.new.out) z) is c.in_ok-write_all.ensures.ok)
    c.in_ok-write_all-2.ensures.ok

pub returns-in_err-write_all-2-clause-prefix : goal.returns-in_err-write_all-2-clause-prefix
returns-in_err-write_all-2-clause-prefix g c =
    let words = take (length c.args.refusal.now - 1) c.args.refusal.now in
    let tail = codes "; it runs by its least labels, and no bound holds\n" in
    let is = first_words c.bytes-line.result.now c.args.refusal.now c.saturating_sub.result c.bytes-line.ensures c.saturating_sub.ensures in
    on_err _ _ (prefix_after (g.W.Sink.taken c.args.out.now) (g.W.Sink.taken c.write_all.new.out) (g.W.Sink.taken c.write_all-2.new.out) words tail _
    (subst (λ (z : List ℕ). Appends (g.W.Sink.taken c.args.out.now) (g.W.Sink.taken c.write_all.new.out) z) is c.in_ok-write_all.ensures.ok)
    c.in_err-write_all-2.ensures.prefix refl)
