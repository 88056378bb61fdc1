-- The end of a mitigation.
use Rattle.std.proofs.Common.{◌≡◌, ◌<◌, ◌+◌, ◌*◌, ℕ, List, [], ◌∷◌, ◌++◌, ◌-◌, length, sym, ap, ◌∙◌, arith, cond, inl, inr}
use Rattle.std.specs.Prelude.{eqb, map, reverse, slice_set, slice_index, ℤ}
use Rattle.std.proofs.Math.Path.{fun_ext}
use Rattle.std.proofs.lemmas.Bool.{eq-eqb, ne_eqb, cases_eq}
use Rattle.std.proofs.lemmas.List.{reverse-append, get_or-set_same, get_or-set_other}
use Rattle.env_contract.specs.Env.{Env}
use Rattle.env_contract.specs.declared.place.Kind.TheVariants.{Code}
use Rattle.doubling_schedule.specs.Doubling.{prediction, misses_after}
use Rattle.doubling_schedule.proofs.Settling.{misses_enough}
use Rattle.label_lattice.specs.declared.label.Label.{Label}
use Rattle.label_code.specs.Machine.{Core, Opened, Machine, Ended, close_first, at, fetched, marks_of}
use Rattle.label_code.specs.declared.code.Instr.{Instr}
use Rattle.label_code.specs.declared.code.Work.TheVariants.{Mite}
use Rattle.cycle_machine.specs.declared.state.State.{State}
use Rattle.cycle_machine.specs.declared.state.Open.{Open}
use Rattle.cycle_machine.specs.Seen.{counts, opened_of, with_log, core_of}
use Rattle.cycle_machine.specs.Took.{after}

-- a mitigation ends after the clock at which it is closed
pub close_later : {E : Type 0} (a limit : ℕ) (ops : List ℤ) (os : List Opened) (s : Core E) → limit < s.clock → limit < (close_first a ops os s).core.clock
close_later a limit ops [] s h = h
close_later a limit ops (o ∷ os) s h =
    let e = misses_enough o.estimate (s.clock - o.since) (s.misses o.level) in
    omega (arith, h, e)

counts_set : (ms : List ℕ) (l c : ℕ) → l < length ms → counts (slice_set ms l c) ≡ (λ k. cond (eqb k l) c (counts ms k))
counts_set ms l c h = fun_ext (λ k. at_one k)
  where
    at_one : (k : ℕ) → counts (slice_set ms l c) k ≡ cond (eqb k l) c (counts ms k)
    at_one k =
        elim (cases_eq k l) [
          | inl e ↦ rw (eq-eqb k l e) (rw e (get_or-set_same ms l c 0 h))
          | inr n ↦ rw (ne_eqb k l n) (get_or-set_other ms l k c 0 n)
        ]

last_opened : (rest : List Open) (o : Open) → map opened_of (reverse (rest ++ o ∷ [])) ≡ opened_of o ∷ map opened_of (reverse rest)
last_opened rest o = ap (map opened_of) (reverse-append rest (o ∷ []))

-- closing the mitigation opened last
close_last : {E : Type 0} (a : ℕ) (ops : List ℤ) (old rest : List Open) (o : Open) (m : List ℤ) (e : E) (clock : ℕ) (ms ms' : List ℕ) (p : ℕ) →
    old ≡ rest ++ o ∷ [] → o.level.number < length ms →
    ms' ≡ slice_set ms o.level.number (misses_after o.estimate (clock - o.since) (counts ms o.level.number)) →
    p ≡ prediction o.estimate (misses_after o.estimate (clock - o.since) (counts ms o.level.number)) →
    close_first a ops (map opened_of (reverse old)) (record { memory = m; env = e; clock = clock; misses = counts ms; log = [] })
    ≡ with_log (Ended o.mark (o.since + p) ∷ [])
    (at a ops (map opened_of (reverse rest)) (record { memory = m; env = e; clock = o.since + p; misses = counts ms'; log = [] }))
close_last {E} a ops old rest o m e clock ms ms' p i l c q =
    let count : ℕ = misses_after o.estimate (clock - o.since) (counts ms o.level.number) in
    let s : Core E = record { memory = m; env = e; clock = clock; misses = counts ms; log = [] } in
    let is : map opened_of (reverse old) ≡ opened_of o ∷ map opened_of (reverse rest) = ap (λ z. map opened_of (reverse z)) i ∙ last_opened rest o in
    let misses : (λ k. cond (eqb k o.level.number) count (counts ms k)) ≡ counts ms' = sym (ap counts c ∙ counts_set ms o.level.number count l) in
    let built : (ℕ → ℕ) → ℕ → Machine E = λ f x.
    with_log (Ended o.mark (o.since + x) ∷ [])
    (at a ops (map opened_of (reverse rest)) (record { memory = m; env = e; clock = o.since + x; misses = f; log = [] })) in
    ap (λ z. close_first a ops z s) is ∙ (ap (λ f. built f (prediction o.estimate count)) misses ∙ ap (built (counts ms')) (sym q))

abbrev pub end_instr : Label → Label → Instr
end_instr er ew = record { work = Mite; er = er; ew = ew }

pub late_first : {E : Type 0} (v : Env E) (s : State E) (er ew : Label) (limit fetch : ℕ) → fetch ≡ v.cost_of Code (4 * s.place) er.number ew.number s.env →
    limit < s.clock + (1 + fetch) → limit < (after v (end_instr er ew) s).core.clock
late_first v s er ew limit fetch e h =
    close_later (s.place + 1) limit (reverse s.operands.items) (map opened_of (reverse s.opened.items))
    (fetched v (marks_of (end_instr er ew)) s.place (core_of s)) (omega (arith, e, h))

pub end_is : {E : Type 0} (v : Env E) (s : State E) (er ew : Label) (rest : List Open) (o : Open) (est : ℤ) (fetch now elapsed p : ℕ) (table : List ℕ) →
    fetch ≡ v.cost_of Code (4 * s.place) er.number ew.number s.env → now ≡ s.clock + (1 + fetch) → elapsed ≡ now - o.since →
    s.opened.items ≡ rest ++ o ∷ [] → o.level.number < length s.misses → est ≡ o.estimate →
    table ≡ slice_set s.misses o.level.number (misses_after est elapsed (slice_index s.misses o.level.number)) →
    p ≡ prediction est (slice_index table o.level.number) →
    after v (end_instr er ew) s
    ≡ with_log (Ended o.mark (o.since + p) ∷ [])
    (at (s.place + 1) (reverse s.operands.items) (map opened_of (reverse rest))
    (record { memory = s.memory.items; env = v.next_of Code (4 * s.place) er.number ew.number s.env; clock = o.since + p; misses = counts table; log = [] }))
end_is v s er ew rest o est fetch now elapsed p table a b d i l n t q =
    let cost : ℕ = v.cost_of Code (4 * s.place) er.number ew.number s.env in
    let clock : ℕ = s.clock + (1 + cost) in
    let level : ℕ = o.level.number in
    let e : elapsed ≡ clock - o.since = omega (arith, a, b, d) in
    let same : misses_after est elapsed (counts s.misses level) ≡ misses_after o.estimate (clock - o.since) (counts s.misses level) =
    ap (λ z. misses_after z elapsed (counts s.misses level)) n ∙ ap (λ z. misses_after o.estimate z (counts s.misses level)) e in
    let t' : table ≡ slice_set s.misses level (misses_after o.estimate (clock - o.since) (counts s.misses level)) = t ∙ ap (slice_set s.misses level) same in
    let count : slice_index table level ≡ misses_after o.estimate (clock - o.since) (counts s.misses level) =
    ap (λ z. slice_index z level) t' ∙ get_or-set_same s.misses level (misses_after o.estimate (clock - o.since) (counts s.misses level)) 0 l in
    close_last (s.place + 1) (reverse s.operands.items) s.opened.items rest o s.memory.items (v.next_of Code (4 * s.place) er.number ew.number s.env)
    clock s.misses table p i l t'
    (q ∙ (ap (λ z. prediction z (slice_index table level)) n ∙ ap (prediction o.estimate) count))
