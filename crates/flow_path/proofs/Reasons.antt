-- Reasons for a refusal are the chains that a search goes.
use Rattle.std.proofs.Common.{◌≡◌, ℕ, refl, sym, ap, ◌∙◌, subst, List, [], ◌∷◌, ◌++◌}
use Rattle.std.specs.Prelude.{Bool, true, false, not, Some}
use Rattle.std.proofs.lemmas.Bool.{both_ways}
use Rattle.std.proofs.lemmas.Option.{none-some, same_Some}
use Rattle.text_base.specs.declared.pos.Pos.{Pos}
use Rattle.label_lattice.specs.declared.label.Label.{Label}
use Rattle.label_lattice.specs.Order.{lattice_of}
use Rattle.mit_syntax.specs.Program.{Syntax}
use Rattle.mit_syntax.specs.Valid.{IsValid}
use Rattle.timing_types.specs.declared.rule.Rule.{Rule}
use Rattle.timing_types.specs.declared.rule.TypeFault.TheVariants.{Refused}
use Rattle.timing_types.specs.Labelled.{LabelledProgram, first_broken_of}
use Rattle.label_infer.specs.Least.{IsLeast}
use Rattle.flow_path.specs.declared.step.Spot.{Spot}
use Rattle.flow_path.specs.declared.step.Step.{Step}
use Rattle.flow_path.specs.declared.target.Target.TheVariants.{Broken}
use Rattle.flow_path.specs.Steps.{written}
use Rattle.flow_path.specs.Chains.{Leads, last_step, GoesBy, GoesByOmitted, IsReason}
use Rattle.flow_path.specs.Search.{Where, GoesTo, BeginsAt}
use Rattle.flow_path.specs.Told.{IsTold}
use Rattle.flow_path.specs.Distances.{IsPickedOf}
use Rattle.flow_path.proofs.Picking.{goes, starts, cheapest, earliest}
use Rattle.flow_path.proofs.Complete.{known_refused}
use Rattle.flow_path.proofs.Leading.{IsBroken, broken_found}

high_is : (b : Bool) → (b ≡ true → ⊥) → not b ≡ true
high_is true h = absurd (h refl)
high_is false h = refl

is_high : (b : Bool) → not b ≡ true → b ≡ true → ⊥
is_high true e f = both_ways false refl e
is_high false e f = both_ways false refl f

last_side : (s : Syntax) (p : Spot) (xs : List Step) (q : Spot) (st : Step) → Leads s p xs q → last_step xs ≡ Some st → st.side ≡ q
last_side s p [] q st l e = absurd (none-some st e)
last_side s p (x ∷ []) q st l e = ap (λ (z : Step). z.side) (sym (same_Some x st e)) ∙ l.2
last_side s p (x ∷ (y ∷ xs)) q st l e = last_side s x.side (y ∷ xs) q st l.2 e

module _ (p : LabelledProgram) (rule : Rule) (pos : Pos) (have allowed : Label) where
  abbrev s : Syntax
  s = p.program

  abbrev x : Where
  x = record { program = p.program; target = Broken rule pos allowed }

  -- the step is by the condition that is broken first
  abbrev K : Step → Type 0
  K = IsBroken p rule pos allowed

  record Whole (chain : List Step) (q : Spot) : Type 0 where
    pub last : Spot
    pub leads : Leads s q chain last
    pub step : Step
    pub ends : last_step chain ≡ Some step
    pub goal : IsBroken p rule pos allowed step
    pub side : step.side ≡ last
    pub omitted : GoesByOmitted s chain

  whole : (t : Step) (ts : List Step) → GoesTo s K (t ∷ ts) → Whole (t ∷ ts) t.part.spot
  whole t [] g = record { last = t.side; leads = (g.0, refl, refl); step = t; ends = refl; goal = g.1; side = refl; omitted = tt }
  whole t (u ∷ ts) g =
      let r = whole u ts g.3 in
      record {
        last = r.last;
        leads = (g.0, refl, subst (λ z. Leads s z (u ∷ ts) r.last) g.2 r.leads);
        step = r.step;
        ends = r.ends;
        goal = r.goal;
        side = r.side;
        omitted = (g.1, r.omitted);
      }

  to_reason : (chain : List Step) (a : ℕ) → GoesTo s K chain → BeginsAt x chain a → IsReason p (Refused rule pos have allowed) chain
  to_reason [] a g b = absurd g
  to_reason (t ∷ ts) a g b =
      let r = whole t ts g in
      record {
        why = record {
          first = t.part.spot;
          last = r.last;
          have = a;
          allowed = allowed.number;
          begins = b.0;
          ends = ap (λ z. written s z) (sym r.side) ∙ r.goal.1.2;
          leads = r.leads;
          high = λ f. is_high ((lattice_of s.order).flows a allowed.number) b.1 f;
        };
        ends = record { step = r.step; last = r.ends; condition = r.goal.0; rule = r.goal.1.0; pos = r.goal.1.1; side = r.goal.1.2 };
        omitted = r.omitted;
      }

  goes_of : (q : Spot) (t : Step) (ts : List Step) (r : Spot) → Leads s q (t ∷ ts) r → GoesByOmitted s (t ∷ ts)
      → GoesBy p (t ∷ ts) rule pos allowed → GoesTo s K (t ∷ ts)
  goes_of q t [] r l o e = (l.0, subst (λ (z : Step). IsBroken p rule pos allowed z) (sym (same_Some t e.step e.last)) (e.condition, (e.rule, e.pos, e.side)))
  goes_of q t (u ∷ ts) r l o e = (
    l.0,
    o.0,
    l.2.1,
    goes_of t.side u ts r l.2 o.1 (record { step = e.step; last = e.last; condition = e.condition; rule = e.rule; pos = e.pos; side = e.side }),
  )

  from_reason : (chain : List Step) → IsReason p (Refused rule pos have allowed) chain → GoesTo s K chain × ((a : ℕ) × BeginsAt x chain a)
  from_reason [] r = absurd (none-some r.ends.step r.ends.last)
  from_reason (t ∷ ts) r =
      let w = r.why in
      let e = r.ends in
      let side = last_side s w.first (t ∷ ts) w.last e.step w.leads e.last in
      let same : w.allowed ≡ allowed.number = same_Some w.allowed allowed.number (sym w.ends ∙ ap (λ z. written s z) (sym side) ∙ e.side) in (
        goes_of w.first t ts w.last w.leads r.omitted e,
        (
          w.have,
          (
            ap (λ z. written s z) w.leads.1 ∙ w.begins,
            high_is ((lattice_of s.order).flows w.have allowed.number) (λ f. w.high (ap (λ z. (lattice_of s.order).flows w.have z) same ∙ f)),
          ),
        ),
      )

  -- a chain of which each step is picked is the one that is told
  pub told_is : IsValid p.program → IsLeast p.program p.labels → first_broken_of p ≡ Some (Refused rule pos have allowed) → (chain : List Step)
      → IsPickedOf p.program (Broken rule pos allowed) chain → IsTold p (Refused rule pos have allowed) chain
  told_is valid least broken chain h =
      let k = known_refused s valid p.labels least (Refused rule pos have allowed) broken in
      let G = broken_found p rule pos allowed h.sides h.settled valid least k in
      let g = goes x valid h.sides h.settled K G chain h.picked in
      let b = starts x valid h.sides h.settled K G chain h.picked h.begins in
      record {
        reason = to_reason chain b.0 g b.1;
        cheapest = λ q r. let w = from_reason q r in cheapest x valid h.sides h.settled K G chain h.picked b.0 b.1 q w.1.0 w.0 w.1.1;
        earliest = λ before other after y z e r l. let w = from_reason (other ++ (z ∷ after)) r in
            earliest x valid h.sides h.settled K G chain h.picked b.0 b.1 before other after y z w.1.0 e w.0 w.1.1 l;
      }
