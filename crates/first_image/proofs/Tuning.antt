-- What entries tell of the run with another number.
use Rattle.std.proofs.Common.{◌≡◌, ◌≢◌, ℕ, ◌+◌, List, ap, sym, ◌∙◌, subst, refl, inl, inr, eqb}
use Rattle.std.specs.Prelude.{ℤ, pos, Some, slice_get}
use Rattle.std.specs.Option.{option_map}
use Rattle.std.proofs.lemmas.Bool.{cases_eq, eq-eqb, ne_eqb, cond-true, cond-false}
use Rattle.std.proofs.lemmas.Option.{get_or_from_slice_get, slice_get-map}
use Rattle.env_contract.specs.Env.{Env}
use Rattle.label_code.specs.declared.code.Work.{Work}
use Rattle.label_code.specs.declared.code.Work.TheVariants.{Push}
use Rattle.label_code.specs.declared.code.Instr.{Instr}
use Rattle.first_replay.specs.Replay.{Timed, IsChange, Keeps, Swaps}
use Rattle.first_replay.proofs.All.{replayed}
use Rattle.run_entries.specs.Entries.{pushed_by, with_number}
use Rattle.run_entries.specs.Told.{at_start}
use Rattle.first_image.specs.Tuned.{number_of, numbers_in, PushesFor, IsTuned, TunedRuns}

-- the number at a place where an instruction stands
number_there : (is : List Instr) (a : ℕ) (i : Instr) → slice_get is a ≡ Some i → pushed_by (numbers_in is) a ≡ number_of i.work
number_there is a i e =
    get_or_from_slice_get (numbers_in is) a (number_of i.work) (pos 0) (slice_get-map (λ (x : Instr). number_of x.work) is a
    ∙ ap (option_map (λ (x : Instr). number_of x.work)) e)

-- an instruction that does something else, with the same labels
abbrev pub relabelled : Work → Instr → Instr
relabelled w i = record { work = w; er = i.er; ew = i.ew }

swaps : (is other : List Instr) (mark place : ℕ) (n : ℤ) → PushesFor is mark place → IsTuned is other place n →
    Swaps (with_number (pushed_by (numbers_in is)) place n) place (slice_get is place) (slice_get is (place + 1)) (slice_get other place)
swaps is other mark place n p t =
    let same : t.one ≡ p.one = Some-injective t.one p.one (sym t.there ∙ p.there) in
    let pushes : t.one.work ≡ Push p.number = ap (λ (i : Instr). i.work) same ∙ p.pushes in
    let new : n ≡ with_number (pushed_by (numbers_in is)) place n place =
    sym (cond-true (eqb place place) n (pushed_by (numbers_in is) place) (eq-eqb place place refl)) in
    record {
      was = p.number;
      er = t.one.er;
      ew = t.one.ew;
      one = t.there ∙ ap (λ (w : Work). Some (relabelled w t.one)) pushes;
      two = t.pushes ∙ ap (λ (z : ℤ). Some (relabelled (Push z) t.one)) new;
      opens = (p.level, mark, p.next.er, p.next.ew, p.after ∙ ap (λ (w : Work). Some (relabelled w p.next)) p.opens);
    }
  where
    Some-injective : (x y : Instr) → Some x ≡ Some y → x ≡ y
    Some-injective x y e = cc

keeps : (is other : List Instr) (place a : ℕ) (n : ℤ) → IsTuned is other place n → a ≢ place →
    Keeps (with_number (pushed_by (numbers_in is)) place n) a (slice_get is a) (slice_get other a)
keeps is other place a n t ne = record {
  same = t.others a ne;
  told = λ m er ew e.
      sym (number_there is a (record { work = Push m; er = er; ew = ew }) e)
      ∙ sym (cond-false (eqb a place) n (pushed_by (numbers_in is) a) (ne_eqb a place ne));
}

change : (is other : List Instr) (mark place : ℕ) (n : ℤ) → PushesFor is mark place → IsTuned is other place n →
    IsChange (with_number (pushed_by (numbers_in is)) place n) is other
change is other mark place n p t a =
    elim (cases_eq a place) [
      | inl e ↦ inr (subst (λ z. Swaps (with_number (pushed_by (numbers_in is)) place n) z (slice_get is z) (slice_get is (z + 1)) (slice_get other z)) (sym e)
          (swaps is other mark place n p t))
      | inr ne ↦ inl (keeps is other place a n t ne)
    ]

pub tuned_runs : {E : Type 0} (v : Env E) → TunedRuns v
tuned_runs v is other mark place n limit memory env es p t tells =
    let numbers = with_number (pushed_by (numbers_in is)) place n in
    let r = replayed v numbers is other (change is other mark place n p t) tells.count memory env in
    let same = tells.same numbers at_start refl in
    let timed = r.1.1 ∙ sym same in
    record {
      count = tells.count;
      halted = sym r.0.halted ∙ tells.halted;
      memory = sym r.0.memory;
      clock = ap (λ (z : Timed). z.clock) timed;
      log = ap (λ (z : Timed). z.log) timed;
    }
