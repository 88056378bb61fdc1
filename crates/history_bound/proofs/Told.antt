-- Where one environment does what another does, pairs of starts are told the same.
use Rattle.std.proofs.Common.{◌≡◌, ℕ, suc, ◌<◌, ◌≤◌, List, [], ◌∷◌, length, map, Bool, true, false, refl, sym, ap, ◌∙◌, subst, ⊎_elim, arith}
use Rattle.std.specs.Prelude.{cond, ltb, leb, ◌&&◌, max, ℤ}
use Rattle.std.proofs.lemmas.Bool.{cases_lt, le-ltb, leb-true}
use Rattle.mit_syntax.specs.Todo.{Todo}
use Rattle.mit_syntax.specs.Values.{read}
use Rattle.label_lattice.specs.Lattice.{Flows}
use Rattle.label_lattice.specs.Order.{Order, lattice_of, flows_in}
use Rattle.env_contract.specs.Env.{Env}
use Rattle.env_contract.specs.Alike.{DoesAs}
use Rattle.label_code.specs.declared.code.Instr.{Instr}
use Rattle.label_code.specs.Machine.{Event, Machine}
use Rattle.label_code.specs.Run.{Start, run_from}
use Rattle.label_code.specs.Alike.{AreAlike, HasLabelsBelow}
use Rattle.label_code.specs.Visible.{visible}
use Rattle.label_code.proofs.Alike.{run_alike}
use Rattle.leak_bound.specs.Relevant.{Begins, ended_count}
use Rattle.leak_bound.specs.Records.{Each, Pairwise}
use Rattle.leak_bound.specs.Sound.{Agree, seen_from, Halts, FirstBegins, most_ended}
use Rattle.history_bound.specs.Told.{Pair, Paired, TellSame}

-- what flows to a label of the lattice is one
pub below_label : (order : Order) (l o : ℕ) → o < order.size → Flows (lattice_of order) l o → l < order.size
below_label order l o low flows =
    ⊎_elim
    (λ (lt : l < order.size). lt)
    (λ (ge : order.size ≤ l).
    let none : ltb l order.size ≡ false = le-ltb l order.size ge in
    let past : leb l o ≡ true = sym (ap (λ b. cond (b && ltb o order.size) (flows_in order.flows l o) (leb l o)) none) ∙ flows in
    absurd (omega (arith, leb-true l o past)))
    (cases_lt l order.size)

-- the other way round
pub does_back : {E F : Type 0} (v : Env E) (w : Env F) (n : ℕ) (related : E → F → Type 0) → DoesAs v w n related → DoesAs w v n (λ f e. related e f)
does_back v w n related does =
    record {
      cost = λ k a er ew f e er_in ew_in r. sym (does.cost k a er ew e f er_in ew_in r);
      next = λ k a er ew f e er_in ew_in r. does.next k a er ew e f er_in ew_in r;
      part = λ q l f e lt r. sym (does.part q l e f lt r);
    }

pub paired_back : {E F : Type 0} (related : E → F → Type 0) (ss : List (Start E)) (rs : List (Start F)) → Paired related ss rs
    → Paired (λ f e. related e f) rs ss
paired_back related [] [] p = tt
paired_back related [] (r ∷ rs) p = p
paired_back related (s ∷ ss) [] p = p
paired_back related (s ∷ ss) (r ∷ rs) p = ((sym p.0.0, p.0.1), paired_back related ss rs p.1)

-- what goes over from each start to its own goes over from all
pub each_over : {E F : Type 0} (related : E → F → Type 0) (P : Start E → Type 0) (Q : Start F → Type 0)
    → ((s : Start E) (r : Start F) → Pair related s r → P s → Q r) → (ss : List (Start E)) (rs : List (Start F)) → Paired related ss rs → Each P ss → Each Q rs
each_over related P Q over [] [] p h = tt
each_over related P Q over [] (r ∷ rs) p h = absurd p
each_over related P Q over (s ∷ ss) [] p h = tt
each_over related P Q over (s ∷ ss) (r ∷ rs) p h = (over s r p.0 h.0, each_over related P Q over ss rs p.1 h.1)

-- one way
module _ {E F : Type 0} (v : Env E) (w : Env F) (order : Order) (serves : E → Type 0) (serves' : F → Type 0) (related : E → F → Type 0)
    (does : DoesAs v w order.size related) (kept : (e : E) (f : F) → related e f → serves' f) (g : ℕ → ℕ) (o : ℕ) (low : o < order.size) where
  pub agree_over : (s s' : Start E) (r r' : Start F) → Pair related s r → Pair related s' r' → Agree v (lattice_of order) serves g o s s'
      → Agree w (lattice_of order) serves' g o r r'
  agree_over s s' r r' p p' a =
      record {
        one = kept s.env r.env p.1;
        other = kept s'.env r'.env p'.1;
        long = sym (ap (λ (m : List ℤ). length m) p.0) ∙ a.long ∙ ap (λ (m : List ℤ). length m) p'.0;
        low = λ x f. sym (ap (λ (m : List ℤ). read m x) p.0) ∙ a.low x f ∙ ap (λ (m : List ℤ). read m x) p'.0;
        parts = λ q l f.
            let lt = below_label order l o low f in
            sym (does.part q l s.env r.env lt p.1) ∙ a.parts q l f ∙ does.part q l s'.env r'.env lt p'.1;
      }

  pub pairwise_over : (ss : List (Start E)) (rs : List (Start F)) → Paired related ss rs → Pairwise (Agree v (lattice_of order) serves g o) ss
      → Pairwise (Agree w (lattice_of order) serves' g o) rs
  pairwise_over ss rs p h =
      each_over related (λ s. Each (Agree v (lattice_of order) serves g o s) ss) (λ r. Each (Agree w (lattice_of order) serves' g o r) rs)
      (λ s r q each. each_over related (Agree v (lattice_of order) serves g o s) (Agree w (lattice_of order) serves' g o r)
      (λ s' r' q' a. agree_over s s' r r' q q' a) ss rs p each)
      ss rs p h

module _ {E F : Type 0} (v : Env E) (w : Env F) (order : Order) (related : E → F → Type 0) (does : DoesAs v w order.size related) (image : List Instr)
    (labels : HasLabelsBelow order.size image) (t : ℕ) where
  pub pair_alike : (s : Start E) (r : Start F) → Pair related s r → AreAlike related (run_from v image t s) (run_from w image t r)
  pair_alike s r p =
      subst (λ m. AreAlike related (run_from v image t s) (run_from w image t (record { memory = m; env = r.env }))) p.0
      (run_alike v w order.size related does image labels t s.memory s.env r.env p.1)

  pub log_same : (s : Start E) (r : Start F) → Pair related s r → (run_from v image t s).core.log ≡ (run_from w image t r).core.log
  log_same s r p = sym (ap (λ (z : Machine F). z.core.log) (pair_alike s r p).same)

  pub clock_same : (s : Start E) (r : Start F) → Pair related s r → (run_from v image t s).core.clock ≡ (run_from w image t r).core.clock
  clock_same s r p = sym (ap (λ (z : Machine F). z.core.clock) (pair_alike s r p).same)

  pub halted_same : (s : Start E) (r : Start F) → Pair related s r → (run_from v image t s).halted ≡ (run_from w image t r).halted
  halted_same s r p = sym (ap (λ (z : Machine F). z.halted) (pair_alike s r p).same)

  pub seen_all : (g : ℕ → ℕ) (o : ℕ) (ss : List (Start E)) (rs : List (Start F)) → Paired related ss rs
      → map (seen_from v (lattice_of order) g image o t) ss ≡ map (seen_from w (lattice_of order) g image o t) rs
  seen_all g o [] [] p = refl
  seen_all g o [] (r ∷ rs) p = absurd p
  seen_all g o (s ∷ ss) [] p = absurd p
  seen_all g o (s ∷ ss) (r ∷ rs) p =
      let one = ap (visible (lattice_of order) g o) (log_same s r p.0) in
      let rest = seen_all g o ss rs p.1 in cc

  pub ended_all : (rel : ℕ → Bool) (ss : List (Start E)) (rs : List (Start F)) → Paired related ss rs
      → most_ended v image rel t ss ≡ most_ended w image rel t rs
  ended_all rel [] [] p = refl
  ended_all rel [] (r ∷ rs) p = absurd p
  ended_all rel (s ∷ ss) [] p = absurd p
  ended_all rel (s ∷ ss) (r ∷ rs) p =
      ap (λ (l : List Event). max (ended_count rel l) (most_ended v image rel t ss)) (log_same s r p.0)
      ∙ ap (λ n. max (ended_count rel (run_from w image t r).core.log) n) (ended_all rel ss rs p.1)

pub length-paired : {E F : Type 0} (related : E → F → Type 0) (ss : List (Start E)) (rs : List (Start F)) → Paired related ss rs → length ss ≡ length rs
length-paired related [] [] p = refl
length-paired related [] (r ∷ rs) p = absurd p
length-paired related (s ∷ ss) [] p = absurd p
length-paired related (s ∷ ss) (r ∷ rs) p = ap suc (length-paired related ss rs p.1)

pub begun_over : {E F M L : Type 0} (related : E → F → Type 0) (order : Order) (g ls : ℕ → ℕ) (o : ℕ) (p : Todo M L) (k : ℕ) (ss : List (Start E))
    (rs : List (Start F)) → Paired related ss rs → FirstBegins (lattice_of order) g ls o p ss k → FirstBegins (lattice_of order) g ls o p rs k
begun_over related order g ls o p k [] [] q h = h
begun_over related order g ls o p k [] (r ∷ rs) q h = absurd q
begun_over related order g ls o p k (s ∷ ss) [] q h = absurd q
begun_over related order g ls o p k (s ∷ ss) (r ∷ rs) q h = subst (λ m. Begins (lattice_of order) g ls o p m k) q.0.0 h

pub tell_same : {E F : Type 0} (v : Env E) (w : Env F) (order : Order) (serves : E → Type 0) (serves' : F → Type 0) (related : E → F → Type 0)
    → DoesAs v w order.size related → ((e : E) (f : F) → related e f → serves e × serves' f) →
    (g : ℕ → ℕ) (image : List Instr) → HasLabelsBelow order.size image → (o t : ℕ) → o < order.size
    → (ss : List (Start E)) (rs : List (Start F)) → Paired related ss rs →
    TellSame v serves w serves' (lattice_of order) g image o t ss rs
tell_same {E} {F} v w order serves serves' related does kept g image labels o t low ss rs p =
    record {
      long = length-paired related ss rs p;
      agree = (
        pairwise_over v w order serves serves' related does (λ e f r. (kept e f r).1) g o low ss rs p,
        pairwise_over w v order serves' serves back does' (λ f e r. (kept e f r).0) g o low rs ss p',
      );
      halt = (
        each_over related (Halts v image t) (Halts w image t) (λ s r q h. sym (halted_same v w order related does image labels t s r q) ∙ h) ss rs p,
        each_over back (Halts w image t) (Halts v image t) (λ r s q h. sym (halted_same w v order back does' image labels t r s q) ∙ h) rs ss p',
      );
      seen = seen_all v w order related does image labels t g o ss rs p;
      begun = λ ls m k. (begun_over related order g ls o m k ss rs p, begun_over back order g ls o m k rs ss p');
      begun_in_plan = λ ls m k. (begun_over related order g ls o m k ss rs p, begun_over back order g ls o m k rs ss p');
      ended = λ rel. ended_all v w order related does image labels t rel ss rs p;
    }
  where
    back : F → E → Type 0
    back f e = related e f

    does' : DoesAs w v order.size back
    does' = does_back v w order.size related does

    p' : Paired back rs ss
    p' = paired_back related ss rs p
