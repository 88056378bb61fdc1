use Rattle.std.proofs.Common.{rules, ◌≡◌, ℕ, ◌+◌, ◌<◌, ◌==◌, ◌∙◌, sym, ap, refl, subst, arith, List, [], ◌∷◌, length, Bool, true, false}
use Rattle.std.specs.Prelude.{Result, Ok, Err, IfOk, IfErr}
use Rattle.std.specs.Result.{IsErrAnd}
use Rattle.std.proofs.lemmas.Bool.{eqb-false}
use Rattle.std.proofs.lemmas.Bool.Decides.{Decides-eqb}
use Rattle.std.proofs.lemmas.List.{get_or_default}
use Rattle.type_cert.specs.declared.fault.CertFault.{CertFault}
use Rattle.type_cert.specs.declared.fault.CertFault.TheVariants.{Memory}
use Rattle.type_cert.specs.Certificate.{spread, places_of, BeginsWith}
use Rattle.type_cert.specs.Fault.{IsCertFault}
use Rattle.type_cert.proofs.Placing.{pushed}
use Rattle.type_cert.proofs.Loop.{wrong_line, next_line, wrong_rest, contents, line_small}
use Rattle.type_cert.proofs.recheck.read.Goals as goal

-- what is handed on is the fault itself
same_fault : {T : Type 0} (r : Result T CertFault) (e : CertFault) (P : CertFault → Type 0) → IsErrAnd r (λ x. x ≡ e) → P e → IfErr r P
same_fault (Ok x) e P h k = tt
same_fault (Err x) e P h k = subst P (sym h) k

no_value : {T : Type 0} (r : Result T CertFault) (e : CertFault) (P : T → Type 0) → IsErrAnd r (λ x. x ≡ e) → IfOk r P
no_value (Ok x) e P h = absurd h
no_value (Err x) e P h = tt

some_bytes : (xs : List ℕ) (r : Bool) → r ≡ (length xs == 0) → r ≡ false → 0 < length xs
some_bytes xs r h k = let no = eqb-false (length xs) 0 (sym h ∙ k) in omega (arith, no)

no_length : (xs : List ℕ) → length xs ≡ 0 → xs ≡ []
no_length [] e = refl
no_length (x ∷ xs) e = absurd (omega (arith, e))

no_bytes : (xs : List ℕ) (r : Bool) → r ≡ (length xs == 0) → r ≡ true → xs ≡ []
no_bytes xs r h k = no_length xs ((Decides-eqb (length xs) 0).0 (sym h ∙ k))

pub returns-in_err-declared-clause-contents : goal.returns-in_err-declared-clause-contents
returns-in_err-declared-clause-contents c = no_value c.from_residual.result c.in_err-declared.field-0.0 _ c.from_residual.ensures.1

pub returns-in_err-declared-clause-fault : goal.returns-in_err-declared-clause-fault
returns-in_err-declared-clause-fault c =
    same_fault c.from_residual.result c.in_err-declared.field-0.0 (IsCertFault c.args.p.now c.args.bytes.now) c.from_residual.ensures.1
    c.in_err-declared.ensures.fault

pub spread-requires : goal.spread-requires
spread-requires c = ap length c.deref.ensures.value ∙ c.in_ok-declared.ensures.complete

pub returns-in_err-variables-clause-contents : goal.returns-in_err-variables-clause-contents
returns-in_err-variables-clause-contents c = no_value c.from_residual-in_err-variables.result Memory _ c.from_residual-in_err-variables.ensures.1

pub returns-in_err-variables-clause-fault : goal.returns-in_err-variables-clause-fault
returns-in_err-variables-clause-fault c =
    same_fault c.from_residual-in_err-variables.result Memory (IsCertFault c.args.p.now c.args.bytes.now) c.from_residual-in_err-variables.ensures.1 tt

pub places-requires : goal.places-requires
places-requires c = c.deref-3.ensures.value ∙ c.in_ok-variables.ensures
    ∙ ap (spread c.args.p.now.declarations) (c.deref.ensures.value ∙ sym c.deref-2.ensures.value)

pub returns-in_err-places-clause-contents : goal.returns-in_err-places-clause-contents
returns-in_err-places-clause-contents c = no_value c.from_residual-in_err-places.result Memory _ c.from_residual-in_err-places.ensures.1

pub returns-in_err-places-clause-fault : goal.returns-in_err-places-clause-fault
returns-in_err-places-clause-fault c =
    same_fault c.from_residual-in_err-places.result Memory (IsCertFault c.args.p.now c.args.bytes.now) c.from_residual-in_err-places.ensures.1 tt

pub returns-in_err-push-clause-contents : goal.returns-in_err-push-clause-contents
returns-in_err-push-clause-contents c = no_value c.from_residual-in_err-push.result Memory _ c.from_residual-in_err-push.ensures.1

pub returns-in_err-push-clause-fault : goal.returns-in_err-push-clause-fault
returns-in_err-push-clause-fault c =
    same_fault c.from_residual-in_err-push.result Memory (IsCertFault c.args.p.now c.args.bytes.now) c.from_residual-in_err-push.ensures.1 tt

pub offset_bounds-place-items-number : goal.offset_bounds-place-items-number
offset_bounds-place-items-number c = search rules

pub bounds-place-items-number : goal.bounds-place-items-number
bounds-place-items-number c = c.loop-number-test.true

pub line_number-requires : goal.line_number-requires
line_number-requires c =
    let ep = c.deref-place-items.ensures.value ∙ c.in_ok-places.ensures ∙ ap (places_of c.args.p.now) c.deref-2.ensures.value in
    let test = c.loop-number-test.true in
    line_small c.args.p.now c.laws-2.ensures.valid c.in_ok-declared.declared.items c.deref-place-items.result.now c.len.result c.loop-number.number
    c.in_ok-declared.ensures.complete ep
    (c.len.ensures ∙ c.in_ok-declared.declared.ok.0) (omega (arith, test))

pub line_number-requires-then-not-is_empty : goal.line_number-requires-then-not-is_empty
line_number-requires-then-not-is_empty c =
    let ep = c.in_ok-places.ensures ∙ ap (places_of c.args.p.now) c.deref-2.ensures.value in
    let n = c.len-then-not-is_empty-2.ensures ∙ c.in_ok-places.places.ok.0 in
    line_small c.args.p.now c.laws-2.ensures.valid c.in_ok-declared.declared.items c.in_ok-places.places.items c.len-then-not-is_empty.result
    c.len-then-not-is_empty-2.result c.in_ok-declared.ensures.complete ep
    (c.len-then-not-is_empty.ensures ∙ c.in_ok-declared.declared.ok.0) (omega (arith, n))

pub loop-number-init : goal.loop-number-init
loop-number-init c =
    record {
      begins = subst (λ z. BeginsWith c.args.p.now c.in_ok-declared.declared.items z c.args.bytes.now c.in_ok-declared.text.now) (sym c.new-lines.ensures.items)
          c.in_ok-declared.ensures.begins;
      count = ap length c.new-lines.ensures.items;
    }

pub loop-number-preserved : goal.loop-number-preserved
loop-number-preserved c =
    let ps = c.deref-place-items.result.now in
    let k = c.loop-number.number in
    let h = c.loop-number-test.true in
    let ep = c.deref-place-items.ensures.value ∙ c.in_ok-places.ensures ∙ ap (places_of c.args.p.now) c.deref-2.ensures.value in
    record {
      begins =
          next_line c.args.p.now c.laws-2.ensures.valid c.args.bytes.now c.lattice-order.result.now c.lattice-order.ensures c.in_ok-declared.declared.items
          c.in_ok-declared.ensures.complete ps ep k
          c.loop-number.lines.items c.loop-number.invariant.count c.loop-number.rest.now c.loop-number.invariant.begins c.deref-in-loop-number.result.now
          c.deref-in-loop-number.ensures.value _ h (get_or_default ps k _ _ h)
          c.in-Some.line c.in-Some.next.now c.push.new.self.items c.in_ok-push.ensures.items c.in-Some.ensures.0 c.in-Some.ensures.1;
      count = pushed c.loop-number.lines.items c.push.new.self.items _ c.in_ok-push.ensures.items ∙ ap (λ z. z + 1) c.loop-number.invariant.count;
    }

pub returns-in_default-clause-fault : goal.returns-in_default-clause-fault
returns-in_default-clause-fault c =
    let ps = c.deref-place-items.result.now in
    let k = c.loop-number.number in
    let h = c.loop-number-test.true in
    let ep = c.deref-place-items.ensures.value ∙ c.in_ok-places.ensures ∙ ap (places_of c.args.p.now) c.deref-2.ensures.value in
    wrong_line c.args.p.now c.laws-2.ensures.valid c.args.bytes.now c.lattice-order.result.now c.lattice-order.ensures c.in_ok-declared.declared.items
    c.in_ok-declared.ensures.complete ps ep k
    c.loop-number.lines.items c.loop-number.invariant.count c.loop-number.rest.now c.loop-number.invariant.begins c.deref-in-loop-number.result.now
    c.deref-in-loop-number.ensures.value _ h (get_or_default ps k _ _ h)
    c.line_number.result (c.line_number.ensures ∙ ap (λ z. z + k + 2) (c.len.ensures ∙ c.in_ok-declared.declared.ok.0)) c.in_default.ensures

pub returns-then-not-is_empty-clause-fault : goal.returns-then-not-is_empty-clause-fault
returns-then-not-is_empty-clause-fault c =
    let ps = c.deref-place-items.result.now in
    let ep = c.deref-place-items.ensures.value ∙ c.in_ok-places.ensures ∙ ap (places_of c.args.p.now) c.deref-2.ensures.value in
    let n = c.line_number-then-not-is_empty.ensures in
    let a = c.len-then-not-is_empty.ensures ∙ c.in_ok-declared.declared.ok.0 in
    let b = c.len-then-not-is_empty-2.ensures ∙ c.in_ok-places.places.ok.0 ∙ ap length (sym c.deref-place-items.ensures.value) in
    wrong_rest c.args.p.now c.laws-2.ensures.valid c.args.bytes.now c.lattice-order.result.now c.lattice-order.ensures c.in_ok-declared.declared.items
    c.in_ok-declared.ensures.complete ps ep c.loop-number.number
    c.loop-number.lines.items c.loop-number.invariant.count c.loop-number.rest.now c.loop-number.invariant.begins c.loop-number-test.false
    c.loop-number.auto.number-end
    c.line_number-then-not-is_empty.result (omega (arith, n, a, b))
    (some_bytes c.loop-number.rest.now c.is_empty.result c.is_empty.ensures c.if-not-is_empty.true)

pub returns-clause-contents : goal.returns-clause-contents
returns-clause-contents c =
    let ps = c.deref-place-items.result.now in
    let ep = c.deref-place-items.ensures.value ∙ c.in_ok-places.ensures ∙ ap (places_of c.args.p.now) c.deref-2.ensures.value in
    contents c.args.p.now c.laws-2.ensures.valid c.args.bytes.now c.lattice-order.result.now c.lattice-order.ensures c.in_ok-declared.declared.items
    c.in_ok-declared.ensures.complete ps ep c.loop-number.number
    c.loop-number.lines.items c.loop-number.invariant.count c.loop-number.rest.now c.loop-number.invariant.begins c.loop-number-test.false
    c.loop-number.auto.number-end
    c.in_ok-variables.variables.items (c.in_ok-variables.ensures ∙ ap (spread c.args.p.now.declarations) c.deref.ensures.value)
    (no_bytes c.loop-number.rest.now c.is_empty.result c.is_empty.ensures c.if-not-is_empty.false)
