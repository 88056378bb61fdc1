use Rattle.std.proofs.Common.{◌≡◌, ◌≤◌, ◌^◌, sym, subst, refl, inl, inr, arith}
use Rattle.std.proofs.lemmas.Bool.{cases_lt}
use Rattle.std.specs.Prelude.{Result, Ok, Err, IfErr}
use Rattle.std.specs.Result.{IsErrAnd}
use Rattle.space_starts.specs.Space.{seen, size_of}
use Rattle.leak_classes.specs.declared.fault.WalkFault.{WalkFault}
use Rattle.space_walk.proofs.Walking.{none_walked, one_walked, refused, kept, all_walked}
use Rattle.space_walk.proofs.walk.walk_space.Goals as goal

-- what is handed on is the fault itself
same_fault : {T : Type 0} (r : Result T WalkFault) (e : WalkFault) (P : WalkFault → Type 0) → IsErrAnd r (λ x. x ≡ e) → P e → IfErr r P
same_fault (Ok x) e P h k = tt
same_fault (Err x) e P h k = subst P (sym h) k

pub seen_variables-shown-requires : goal.seen_variables-shown-requires
seen_variables-shown-requires g c =
    let few = c.laws.ensures.shaped.1.variables in
    subst (λ z. z.variables ≤ 3072) c.requires.image few

pub loop-number-init : goal.loop-number-init
loop-number-init g c = record {
  walking = none_walked g.E.MachineEnv.env (g.M.MakeEnv.made c.args.make.now) c.args.p.now c.args.label.number c.args.limit
      (seen c.args.space.now) c.args.numbers.begin
      c.args.numbers.end c.new-known.result c.new-known.ensures.none c.new-known.ensures.counted c.new-known.ensures.light;
  chooser = c.in_ok-chooser.ensures;
  inside = λ h. refl;
}

pub loop-number-preserved : goal.loop-number-preserved
loop-number-preserved g c = record {
  walking = one_walked g.E.MachineEnv.env (g.M.MakeEnv.made c.args.make.now) c.args.p.now c.args.label.number c.args.limit
      (seen c.args.space.now) c.args.numbers.begin
      c.args.numbers.end _ c.loop-number.number c.in_ok-seen.seen c.in_ok-seen.ensures.observes c.loop-number.known c.take.new.self
      c.loop-number.invariant.walking (omega arith) (omega arith) c.in_ok-take.ensures.counted c.in_ok-take.ensures.total c.in_ok-take.ensures.taken;
  chooser = c.in_ok-seen.ensures.chooser;
  inside = λ h. absurd (omega (arith, h));
}

pub returns-in_err-take-clause-fault : goal.returns-in_err-take-clause-fault
returns-in_err-take-clause-fault g c =
    same_fault c.from_residual-in_err-take.result c.in_err-take.field-0.0 _ c.from_residual-in_err-take.ensures.1
    (λ n. refused g.E.MachineEnv.env (g.M.MakeEnv.made c.args.make.now) c.args.p.now c.args.label.number c.args.limit
    (seen c.args.space.now) c.args.numbers.begin
    c.args.numbers.end _ c.loop-number.number c.in_ok-seen.seen c.in_ok-seen.ensures.observes c.loop-number.known c.take.new.self
    c.loop-number.invariant.walking (omega arith) (omega arith) c.in_err-take.field-0.0 (c.in_err-take.ensures.refused n))

pub take-requires-clause-kept : goal.take-requires-clause-kept
take-requires-clause-kept g c =
    kept g.E.MachineEnv.env (g.M.MakeEnv.made c.args.make.now) c.args.p.now c.args.label.number c.args.limit
    (seen c.args.space.now) c.args.numbers.begin c.args.numbers.end _
    c.loop-number.number c.in_ok-seen.seen c.in_ok-seen.ensures.observes

pub take-requires-clause-weight : goal.take-requires-clause-weight
take-requires-clause-weight g c =
    let few : size_of (seen c.args.space.now) ≤ 2 ^ 40 = c.requires.space.few in
    let end = c.requires.numbers in
    let total = c.loop-number.invariant.walking.total_is in
    omega (arith, few, end, total)

pub returns-clause-classes : goal.returns-clause-classes
returns-clause-classes g c =
    all_walked g.E.MachineEnv.env (g.M.MakeEnv.made c.args.make.now) c.args.p.now c.args.label.number c.args.limit (seen c.args.space.now) c.args.numbers.begin
    c.args.numbers.end c.loop-number.known c.loop-number.number (omega arith) c.loop-number.invariant.walking

pub returns-clause-total : goal.returns-clause-total
returns-clause-total g c =
    let total = c.loop-number.invariant.walking.total_is in
    let inside = c.loop-number.invariant.inside in
    elim (cases_lt c.args.numbers.end c.args.numbers.begin) [
      | inl l ↦ let at = inside (omega (arith, l)) in omega (arith, total, at, l)
      | inr h ↦ omega (arith, total, h)
    ]
