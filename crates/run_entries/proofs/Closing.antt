-- The end of a mitigation in a replay.
use Rattle.std.proofs.Common.{◌≡◌, ◌<◌, ◌≤◌, ◌+◌, ℕ, List, [], ◌∷◌, ◌++◌, ◌-◌, length, sym, ap, ◌∙◌, arith, cond, inl, inr, refl}
use Rattle.std.specs.Prelude.{eqb, map, reverse, slice_set, slice_index, ℤ, Option, None}
use Rattle.std.proofs.Math.Path.{fun_ext}
use Rattle.std.proofs.lemmas.Bool.{eq-eqb, ne_eqb, cases_eq}
use Rattle.std.proofs.lemmas.List.{reverse-append, get_or-set_same, get_or-set_other}
use Rattle.doubling_schedule.specs.Doubling.{prediction, misses_after}
use Rattle.doubling_schedule.proofs.Settling.{misses_enough}
use Rattle.label_code.specs.Machine.{Event, Ended, Opened}
use Rattle.run_entries.specs.declared.entry.Begun.{Begun}
use Rattle.run_entries.specs.Views.{counts, opened_of}
use Rattle.first_replay.specs.Replay.{Timed, close_timed}

counts_set : (ms : List ℕ) (l c : ℕ) → l < length ms → counts (slice_set ms l c) ≡ (λ k. cond (eqb k l) c (counts ms k))
counts_set ms l c h = fun_ext (λ k. at_one k)
  where
    at_one : (k : ℕ) → counts (slice_set ms l c) k ≡ cond (eqb k l) c (counts ms k)
    at_one k =
        elim (cases_eq k l) [
          | inl e ↦ rw (eq-eqb k l e) (rw e (get_or-set_same ms l c 0 h))
          | inr n ↦ rw (ne_eqb k l n) (get_or-set_other ms l k c 0 n)
        ]

pub last_opened : (rest : List Begun) (o : Begun) → map opened_of (reverse (rest ++ o ∷ [])) ≡ opened_of o ∷ map opened_of (reverse rest)
last_opened rest o = ap (map opened_of) (reverse-append rest (o ∷ []))

abbrev pub timed : ℕ → List ℕ → List Begun → List Event → Option ℕ → Timed
timed c ms os log last = record { clock = c; misses = counts ms; opened = map opened_of (reverse os); log = log; last = last }

-- the table and the count after an end, by equal numbers
table_is : (ms ms' : List ℕ) (level : ℕ) (est : ℤ) (elapsed : ℕ) (n : ℤ) (d : ℕ) → est ≡ n → elapsed ≡ d →
    ms' ≡ slice_set ms level (misses_after est elapsed (slice_index ms level)) → ms' ≡ slice_set ms level (misses_after n d (slice_index ms level))
table_is ms ms' level est elapsed n d e f t =
    t
    ∙ (ap (λ z. slice_set ms level (misses_after z elapsed (slice_index ms level))) e
    ∙ ap (λ z. slice_set ms level (misses_after n z (slice_index ms level))) f)

pub count_is : (ms ms' : List ℕ) (level : ℕ) (est : ℤ) (elapsed : ℕ) (n : ℤ) (d : ℕ) → level < length ms → est ≡ n → elapsed ≡ d →
    ms' ≡ slice_set ms level (misses_after est elapsed (slice_index ms level)) → slice_index ms' level ≡ misses_after n d (slice_index ms level)
count_is ms ms' level est elapsed n d l e f t =
    ap (λ z. slice_index z level) (table_is ms ms' level est elapsed n d e f t)
    ∙ get_or-set_same ms level (misses_after n d (slice_index ms level)) 0 l

-- what a replay comes to where the mitigation that was opened last ends
pub closed_is : (old rest : List Begun) (o : Begun) (est : ℤ) (elapsed : ℕ) (ms ms' : List ℕ) (c clock p : ℕ) (log : List Event) (last : Option ℕ) →
    old ≡ rest ++ o ∷ [] → o.level.number < length ms → est ≡ o.estimate → elapsed ≡ clock - o.since →
    ms' ≡ slice_set ms o.level.number (misses_after est elapsed (slice_index ms o.level.number)) →
    p ≡ prediction est (slice_index ms' o.level.number) →
    close_timed (map opened_of (reverse old)) clock (timed c ms old log last)
    ≡ timed (o.since + p) ms' rest (log ++ Ended o.mark (o.since + p) ∷ []) None
closed_is old rest o est elapsed ms ms' c clock p log last i l n d t q =
    let level : ℕ = o.level.number in
    let count : ℕ = misses_after o.estimate (clock - o.since) (slice_index ms level) in
    let is : map opened_of (reverse old) ≡ opened_of o ∷ map opened_of (reverse rest) = ap (λ z. map opened_of (reverse z)) i ∙ last_opened rest o in
    let table = table_is ms ms' level est elapsed o.estimate (clock - o.since) n d t in
    let misses : (λ k. cond (eqb k level) count (counts ms k)) ≡ counts ms' = sym (ap counts table ∙ counts_set ms level count l) in
    let same : slice_index ms' level ≡ count = count_is ms ms' level est elapsed o.estimate (clock - o.since) l n d t in
    let predicted : prediction o.estimate count ≡ p =
    sym (q ∙ (ap (λ z. prediction z (slice_index ms' level)) n ∙ ap (prediction o.estimate) same)) in
    let built : (ℕ → ℕ) → ℕ → Timed = λ f x.
    record {
      clock = o.since + x;
      misses = f;
      opened = map opened_of (reverse rest);
      log = log ++ Ended o.mark (o.since + x) ∷ [];
      last = None;
    } in
    ap (λ z. close_timed z clock (timed c ms old log last)) is
    ∙ (ap (λ f. built f (prediction o.estimate count)) misses ∙ ap (built (counts ms')) predicted)

-- nothing ends before its own cycles have passed
pub closes_later : (os : List Opened) (c : ℕ) (t : Timed) → c ≤ (close_timed os c t).clock
closes_later [] c t = omega arith
closes_later (o ∷ os) c t = let e = misses_enough o.estimate (c - o.since) (t.misses o.level) in omega (arith, e)
