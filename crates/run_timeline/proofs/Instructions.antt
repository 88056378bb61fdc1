-- What instructions tell.
use Rattle.std.proofs.Common.{◌≡◌, ℕ, zero, suc, ◌+◌, ◌-◌, ◌*◌, ◌<◌, List, [], ◌∷◌, ◌++◌, length, refl, sym, ap, ◌∙◌, arith, get_or, Some}
use Rattle.std.proofs.Common.{ℤ}
use Rattle.std.specs.Prelude.{pos, map, reverse, slice_get, slice_index}
use Rattle.std.proofs.lemmas.List.{reverse-append, get_or-reverse}
use Rattle.std.proofs.lemmas.Option.{slice_get_within}
use Rattle.label_lattice.specs.declared.label.Label.{Label}
use Rattle.env_contract.specs.Env.{Env}
use Rattle.env_contract.specs.declared.place.Kind.TheVariants.{Code}
use Rattle.doubling_schedule.specs.Doubling.{prediction, misses_after}
use Rattle.label_code.specs.declared.code.Work.TheVariants.{Mitb}
use Rattle.label_code.specs.declared.code.Instr.{Instr}
use Rattle.label_code.specs.Machine.{Began, Core, first, fetched, marks_of}
use Rattle.cycle_machine.specs.declared.state.State.{State}
use Rattle.cycle_machine.specs.declared.state.Open.{Open}
use Rattle.cycle_machine.specs.declared.state.Outcome.TheVariants.{Began as DidBegin}
use Rattle.cycle_machine.specs.Seen.{counts, opened_of, core_of}
use Rattle.cycle_machine.specs.Took.{Took}
use Rattle.cycle_machine.proofs.Close.{end_instr}
use Rattle.run_timeline.specs.declared.moment.Moment.{Moment}
use Rattle.run_timeline.specs.declared.moment.Moment.TheVariants.{Begins, Ends}
use Rattle.run_timeline.specs.declared.moment.Step.TheVariants.{Told}
use Rattle.run_timeline.specs.Timeline.{ending}
use Rattle.run_timeline.specs.Steps.{Tells}

first_of : (xs : List ℤ) → first xs ≡ get_or xs 0 (pos 0)
first_of [] = refl
first_of (x ∷ xs) = refl

get_of : {X : Type 0} (xs : List X) (i : ℕ) (e d : X) → slice_get xs i ≡ Some e → get_or xs i d ≡ e
get_of [] i e d h = absurd cc
get_of (x ∷ xs) zero e d h = cc
get_of (x ∷ xs) (suc i) e d h = get_of xs i e d h

-- the last operand is the first to be taken
pub last_first : (xs : List ℤ) (n : ℤ) → slice_get xs (length xs - 1) ≡ Some n → first (reverse xs) ≡ n
last_first xs n h =
    let l : length xs - 1 < length xs = slice_get_within xs (length xs - 1) n h in
    let z : length xs - 1 - 0 ≡ length xs - 1 = omega arith in
    first_of (reverse xs) ∙ (get_or-reverse xs 0 (pos 0) (omega (arith, l)) ∙ (ap (λ k. get_or xs k (pos 0)) z ∙ get_of xs (length xs - 1) n (pos 0) h))

abbrev pub begin_instr : Label → ℕ → Label → Label → Instr
begin_instr l k er ew = record { work = Mitb l k; er = er; ew = ew }

module _ {E : Type 0} (v : Env E) (old new : State E) (level : Label) (mark : ℕ) (er ew : Label) (limit : ℕ) where
  pub begin_tells : (mark' : ℕ) (n : ℤ) (predicts misses : ℕ) → Took v old (begin_instr level mark er ew) limit (DidBegin mark') new →
      slice_get old.operands.items (length old.operands.items - 1) ≡ Some n → predicts ≡ prediction n misses → misses ≡ slice_index new.misses level.number →
      Tells v old (begin_instr level mark er ew) limit (Told (Begins mark' n predicts misses new.clock)) new
  begin_tells mark' n predicts misses t last predicted count =
      let log : (Began mark (old.clock + (1 + v.cost_of Code (4 * old.place) er.number ew.number old.env)) ∷ []) ≡ (Began mark' new.clock ∷ []) =
      ap (λ m. m.core.log) t.0 in
      let same : mark ≡ mark' = cc in
      let estimate : first (reverse old.operands.items) ≡ n = last_first old.operands.items n last in
      let missed : counts old.misses level.number ≡ misses = ap (λ m. m.core.misses level.number) t.0 ∙ sym count in
      record {
        took = t;
        clock = refl;
        tells =
            ap (λ z. Begins z (first (reverse old.operands.items)) (prediction (first (reverse old.operands.items)) (counts old.misses level.number))
            (counts old.misses level.number) new.clock ∷ []) same
            ∙ (ap (λ z. Begins mark' z (prediction z (counts old.misses level.number)) (counts old.misses level.number) new.clock ∷ []) estimate
            ∙ (ap (λ z. Begins mark' n (prediction n z) z new.clock ∷ []) missed
            ∙ ap (λ z. Begins mark' n z misses new.clock ∷ []) (sym predicted)));
      }

last_opened : (os : List Open) (o : Open) → map opened_of (reverse (os ++ o ∷ [])) ≡ opened_of o ∷ map opened_of (reverse os)
last_opened os o = ap (map opened_of) (reverse-append os (o ∷ []))

-- what the end of the mitigation that was opened last tells
pub end_tells : {E : Type 0} (v : Env E) (old : State E) (er ew : Label) (os : List Open) (o : Open) (worked before after lasts cycle : ℕ) →
    old.opened.items ≡ os ++ o ∷ [] → worked ≡ old.clock + (1 + v.cost_of Code (4 * old.place) er.number ew.number old.env) - o.since →
    before ≡ counts old.misses o.level.number → after ≡ misses_after o.estimate worked before → lasts ≡ prediction o.estimate after → cycle ≡ o.since + lasts →
    ending (map opened_of (reverse old.opened.items)) (fetched v (marks_of (end_instr er ew)) old.place (core_of old))
    ≡ Ends o.mark worked lasts before after cycle ∷ []
end_tells {E} v old er ew os o worked before after lasts cycle is w b a l c =
    let s : Core E = fetched v (marks_of (end_instr er ew)) old.place (core_of old) in
    let last : map opened_of (reverse old.opened.items) ≡ opened_of o ∷ map opened_of (reverse os) =
    ap (λ z. map opened_of (reverse z)) is ∙ last_opened os o in
    let whole : ℕ → ℕ → List Moment = λ x y. let z = misses_after o.estimate x y in
    Ends o.mark x (prediction o.estimate z) y z (o.since + prediction o.estimate z) ∷ [] in
    ap (λ z. ending z s) last
    ∙ (ap (λ x. whole x (counts old.misses o.level.number)) (sym w)
    ∙ (ap (whole worked) (sym b)
    ∙ (ap (λ z. Ends o.mark worked (prediction o.estimate z) before z (o.since + prediction o.estimate z) ∷ []) (sym a)
    ∙ (ap (λ z. Ends o.mark worked z before after (o.since + z) ∷ []) (sym l)
    ∙ ap (λ z. Ends o.mark worked lasts before after z ∷ []) (sym c)))))
