-- Two runs of one list whose program counter is low.
use Rattle.std.proofs.Common.{◌≡◌, ℕ, ◌+◌, ◌-◌, ◌*◌, ◌^◌, ◌<◌, ◌≤◌, List, [], ◌∷◌, ◌++◌, length, refl, sym, ap, ◌∙◌, subst, ◌⊎◌, inl, inr, ⊎_elim, arith}
use Rattle.std.specs.Prelude.{Bool, true, false, cond, ℤ, pos, slice_set, leb}
use Rattle.std.proofs.lemmas.Bool.{cond-false, cases_eq, cases_lt, cases_Bool, both_ways}
use Rattle.std.proofs.lemmas.List.{get_or-set_other, get_or-set_same, set_past, length-set}
use Rattle.mit_syntax.specs.Expression.{Expression}
use Rattle.mit_syntax.specs.Expression.{Number, Variable, Binary, Element}
use Rattle.mit_syntax.specs.Todo.{Marks}
use Rattle.mit_syntax.specs.Values.{apply, element, read, value_of}
use Rattle.label_code.specs.Costs.{op_cost}
use Rattle.label_lattice.specs.Lattice.{Lattice, Flows, IsLattice}
use Rattle.timing_types.specs.Typing.{label_of, index_label}
use Rattle.timing_types.specs.Arrays.{HasArrays}
use Rattle.env_contract.specs.declared.place.Kind.{Kind}
use Rattle.env_contract.specs.Env.{Env}
use Rattle.label_code.specs.Machine.{Core, Opened, Wrote, fetched, touched, waited, written, closed}
use Rattle.env_contract.specs.declared.place.Kind.TheVariants.{Code, Data}
use Rattle.doubling_schedule.specs.Doubling.{misses_after}
use Rattle.code_lower.specs.Layout.{expr_size, size, raised}
use Rattle.env_contract.specs.Laws.{AgreeBelow, IsLawful}
use Rattle.label_code.specs.Visible.{visible}
use Rattle.leak_bound.specs.Records.{Entry, Fits}
use Rattle.code_lower.proofs.Timed.{timed, tested, reached, opening, timed_clock, timed_log, tested_clock}
use Rattle.leak_bound.proofs.Runs.{Job, Runs, done, skip, assign, put, sleep, if_true, if_false, while_none, while_some, mitigate, last, again, late}
use Rattle.leak_bound.proofs.Shown.{shown, shown-append, shown-late}
use Rattle.timing_types.proofs.Flow.{from_left, from_right}
use Rattle.timing_types.proofs.Places.{element_label}
use Rattle.leak_bound.proofs.High.{Unchanged, touched_high, written_high}

-- equal wholes of parts of equal lengths have equal parts
pub same_parts : (a a' b b' : List Entry) → length a ≡ length a' → a ++ b ≡ a' ++ b' → (a ≡ a') × (b ≡ b')
same_parts [] [] b b' l e = (refl, e)
same_parts [] (x ∷ a') b b' l e = absurd (omega (arith, l))
same_parts (x ∷ a) [] b b' l e = absurd (omega (arith, l))
same_parts (x ∷ a) (x' ∷ a') b b' l e =
    let heads : x ≡ x' = cc in
    let tails : a ++ b ≡ a' ++ b' = cc in
    let r = same_parts a a' b b' (omega (arith, l)) tails in
    (cc, r.1)

pub fits_nil : (a : List Entry) → Fits a []
fits_nil [] = tt
fits_nil (x ∷ a) = tt

pub fits_both : (a a' b b' : List Entry) → length a ≡ length a' → Fits a a' → Fits b b' → Fits (a ++ b) (a' ++ b')
fits_both [] [] b b' l f h = h
fits_both [] (x ∷ a') b b' l f h = absurd (omega (arith, l))
fits_both (x ∷ a) [] b b' l f h = absurd (omega (arith, l))
fits_both (x ∷ a) (x' ∷ a') b b' l f h = (f.0, fits_both a a' b b' (omega (arith, l)) f.1 h)

-- more after the longer one
pub fits_left : (a a' b' : List Entry) → length a ≤ length a' → Fits a a' → Fits a (a' ++ b')
fits_left [] a' b' l f = tt
fits_left (x ∷ a) [] b' l f = absurd (omega (arith, l))
fits_left (x ∷ a) (x' ∷ a') b' l f = (f.0, fits_left a a' b' (omega (arith, l)) f.1)

pub fits_right : (a a' b : List Entry) → length a' ≤ length a → Fits a a' → Fits (a ++ b) a'
fits_right [] [] b l f = fits_nil b
fits_right [] (x ∷ a') b l f = absurd (omega (arith, l))
fits_right (x ∷ a) [] b l f = tt
fits_right (x ∷ a) (x' ∷ a') b l f = (f.0, fits_right a a' b (omega (arith, l)) f.1)

module _ {E : Type 0} (v : Env E) (lat : Lattice) (g : ℕ → ℕ) (o lim : ℕ) where
  -- the entry of a mitigation that ends, from the state at its end instruction: none if its level is low or it ends past the cut
  abbrev pub entry_of : Opened → Core E → List Entry
  entry_of w q = cond (lat.flows w.level o) []
      (cond (leb (closed w q).clock lim) ((w.level, misses_after w.estimate (q.clock - w.since) (q.misses w.level)) ∷ []) [])

  -- the part of the record that a run adds: the mitigations that ended and whose levels are not low, where the guards above are low
  abbrev pub record_of : {j : Job} {s s' : Core E} → Runs v lat g lim j s s' → List Entry
  record_of done = []
  record_of (late h) = []
  record_of (skip k) = record_of k
  record_of (assign k) = record_of k
  record_of (put k) = record_of k
  record_of (sleep k) = record_of k
  record_of (if_true {e = e} w b k) = cond (lat.flows (label_of lat g e) o) (record_of b) [] ++ record_of k
  record_of (if_false {e = e} w b k) = cond (lat.flows (label_of lat g e) o) (record_of b) [] ++ record_of k
  record_of (while_none {e = e} w k) = cond (lat.flows (label_of lat g e) o) [] [] ++ record_of k
  record_of (while_some {e = e} w b k) = cond (lat.flows (label_of lat g e) o) (record_of b) [] ++ record_of k
  record_of (mitigate {m = m} {k = mark} {l = l} {e = e} {c = c} {a = a} {s = s} {s1 = s1} b k) =
      let s0 = tested v m e a s in
      (record_of b ++ entry_of (opening (value_of e s.memory) l mark s0) (fetched v m (a + expr_size e + 1 + size c) s1)) ++ record_of k
  record_of (last b w) = record_of b
  record_of (again b w k) = record_of b ++ record_of k

module _ {E : Type 0} {serves : E → Type 0} (v : Env E) (lat : Lattice) (ll : IsLattice lat) (laws : IsLawful v lat serves) (g : ℕ → ℕ) (o lim : ℕ) where
  abbrev Low : ℕ → Type 0
  Low l = Flows lat l o

  -- equal low variables and low parts
  pub record SameLow (s s' : Core E) : Type 0 where
    pub memory : (x : ℕ) → Low (g x) → read s.memory x ≡ read s'.memory x
    pub long : length s.memory ≡ length s'.memory
    pub one : serves s.env
    pub other : serves s'.env
    pub parts : AgreeBelow v lat o s.env s'.env

  -- the same clock, or both past the cut
  abbrev pub Alike : ℕ → ℕ → Type 0
  Alike c c' = (c ≡ c') ⊎ ((lim < c) × (lim < c'))

  pub alike_add : (c c' k k' : ℕ) → k ≡ k' → Alike c c' → Alike (c + k) (c' + k')
  alike_add c c' k k' e (inl h) = inl (omega arith)
  alike_add c c' k k' e (inr h) = let x = h.0 in let y = h.1 in inr (omega arith, omega arith)

  -- equal views up to the cut, equal misses of low levels if both are before the cut, and alike clocks where i is low
  pub record Timing (i : ℕ) (s s' : Core E) : Type 0 where
    pub seen : shown lat g o lim s.log ≡ shown lat g o lim s'.log
    pub misses : s.clock ≤ lim → s'.clock ≤ lim → (l : ℕ) → Low l → s.misses l ≡ s'.misses l
    pub clock : Low i → Alike s.clock s'.clock

  pub fetched_low : (m : Marks) (a : ℕ) (s s' : Core E) → SameLow s s' → SameLow (fetched v m a s) (fetched v m a s')
  fetched_low m a s s' h =
      record {
        memory = h.memory;
        long = h.long;
        one = laws.keeps Code (4 * a) m.er m.ew s.env h.one;
        other =
            laws.keeps Code (4 * a) m.er m.ew s'.env h.other;
        parts = laws.agreement Code (4 * a) m.er m.ew o s.env s'.env h.one h.other h.parts;
      }

  pub touched_low : (m : Marks) (x : ℕ) (s s' : Core E) → SameLow s s' → SameLow (touched v m x s) (touched v m x s')
  touched_low m x s s' h =
      record {
        memory = h.memory;
        long = h.long;
        one = laws.keeps Data (2 ^ 20 + 8 * x) m.er m.ew s.env h.one;
        other =
            laws.keeps Data (2 ^ 20 + 8 * x) m.er m.ew s'.env h.other;
        parts =
            laws.agreement Data (2 ^ 20 + 8 * x) m.er m.ew o s.env s'.env h.one h.other h.parts;
      }

  pub waited_low : (n n' : ℕ) (s s' : Core E) → SameLow s s' → SameLow (waited n s) (waited n' s')
  waited_low n n' s s' h = record { memory = h.memory; long = h.long; one = h.one; other = h.other; parts = h.parts }

  -- where nothing low is changed in both runs
  pub still_same : (s s' m m' : Core E) → SameLow s s' → Unchanged v lat ll laws g o lim s m → Unchanged v lat ll laws g o lim s' m' → SameLow m m'
  still_same s s' m m' h u u' =
      record {
        memory = λ x low. u.memory x low ∙ h.memory x low ∙ sym (u'.memory x low);
        long = u.long ∙ h.long ∙ sym u'.long;
        one = u.kept h.one;
        other = u'.kept h.other;
        parts = λ q l low. u.parts h.one q l low ∙ h.parts q l low ∙ sym (u'.parts h.other q l low);
      }

  -- what a label decides
  pub by_label : (l : ℕ) (A : Type 0) → (Low l → A) → ((Low l → ⊥) → A) → A
  by_label l A f h = go (lat.flows l o) refl
    where
      go : (b : Bool) → lat.flows l o ≡ b → A
      go true e = f e
      go false e = h (λ low. both_ways (lat.flows l o) e low)

  -- an access at a place that is the same, or whose label is not low and flows to the write label
  pub touched_two : (m : Marks) (l x x' : ℕ) (s s' : Core E) → Flows lat l m.ew → (Low l → x ≡ x') → SameLow s s'
      → SameLow (touched v m x s) (touched v m x' s')
  touched_two m l x x' s s' f e h =
      by_label l (SameLow (touched v m x s) (touched v m x' s'))
      (λ low. subst (λ z. SameLow (touched v m x s) (touched v m z s')) (e low) (touched_low m x s s' h))
      (λ high.
      let ew : Low m.ew → ⊥ = λ low. high (ll.chain l m.ew o f low) in
      still_same s s' _ _ h (touched_high v lat ll laws g o lim m x s ew) (touched_high v lat ll laws g o lim m x' s' ew))

  -- what the code of an expression with these labels needs: li <= ew
  abbrev pub Fit : Marks → Expression → Type 0
  Fit m e = Flows lat (index_label lat g e) m.ew × HasArrays g e

  pub fit_of : (pc : ℕ) (m : Marks) (e : Expression) → Flows lat (lat.join pc (index_label lat g e)) m.ew → HasArrays g e → Fit m e
  fit_of pc m e q k = (from_right lat ll g pc (index_label lat g e) m.ew q, k)

  pub fit_raised : (m : Marks) (e : Expression) → Fit m e → Fit (raised lat g e m) e
  fit_raised m e f = (ll.chain (index_label lat g e) m.ew _ f.0 (ll.left m.ew (label_of lat g e)), f.1)

  -- what stands in an index stands in the expression
  index_flows : (e : Expression) → Flows lat (index_label lat g e) (label_of lat g e)
  index_flows (Number n) = ll.same lat.bottom
  index_flows (Variable x) = ll.lowest (g x)
  index_flows (Binary op l r) =
      let j = label_of lat g (Binary op l r) in
      ll.least (index_label lat g l) (index_label lat g r) j
      (ll.chain _ (label_of lat g l) j (index_flows l) (ll.left (label_of lat g l) (label_of lat g r)))
      (ll.chain _ (label_of lat g r) j (index_flows r) (ll.right (label_of lat g l) (label_of lat g r)))
  index_flows (Element f n i) = ll.right (g f) (label_of lat g i)

  -- an index whose labels flow to the write label
  pub fit_index : (m : Marks) (i : Expression) → Flows lat (label_of lat g i) m.ew → HasArrays g i → Fit m i
  fit_index m i f a = (ll.chain (index_label lat g i) (label_of lat g i) m.ew (index_flows i) f, a)

  fit_left : (m : Marks) (l r : Expression) → Flows lat (lat.join (index_label lat g l) (index_label lat g r)) m.ew → HasArrays g l → Fit m l
  fit_left m l r f a = (from_left lat ll g (index_label lat g l) (index_label lat g r) m.ew f, a)

  fit_right : (m : Marks) (l r : Expression) → Flows lat (lat.join (index_label lat g l) (index_label lat g r)) m.ew → HasArrays g r → Fit m r
  fit_right m l r f a = (from_right lat ll g (index_label lat g l) (index_label lat g r) m.ew f, a)

  pub value_low : (e : Expression) (s s' : Core E) → HasArrays g e → SameLow s s' → Low (label_of lat g e) → value_of e s.memory ≡ value_of e s'.memory
  value_low (Number n) s s' k h low = refl
  value_low (Variable x) s s' k h low = h.memory x low
  value_low (Binary op l r) s s' k h low =
      let a = value_low l s s' k.0 h (from_left lat ll g (label_of lat g l) (label_of lat g r) o low) in
      let b = value_low r s s' k.1 h (from_right lat ll g (label_of lat g l) (label_of lat g r) o low) in
      ap (λ x. apply op x (value_of r s.memory)) a ∙ ap (λ x. apply op (value_of l s'.memory) x) b
  value_low (Element f n i) s s' k h low =
      let a = value_low i s s' k.1 h (from_right lat ll g (g f) (label_of lat g i) o low) in
      let here = subst (λ z. Low z) (sym (element_label g f n (value_of i s'.memory) k.0)) (from_left lat ll g (g f) (label_of lat g i) o low) in
      ap (λ z. read s.memory (element f n z)) a ∙ h.memory (element f n (value_of i s'.memory)) here

  pub timed_low : (m : Marks) (e : Expression) (a : ℕ) (s s' : Core E) → Fit m e → SameLow s s' → SameLow (timed v m e a s) (timed v m e a s')
  timed_low m (Number n) a s s' k h = fetched_low m a s s' h
  timed_low m (Variable x) a s s' k h = touched_low m x _ _ (fetched_low m a s s' h)
  timed_low m (Binary op l r) a s s' k h =
      waited_low _ _ _ _ (fetched_low m (a + expr_size l + expr_size r) _ _
      (timed_low m r (a + expr_size l) _ _ (fit_right m l r k.0 k.1.1) (timed_low m l a s s' (fit_left m l r k.0 k.1.0) h)))
  timed_low m (Element f n i) a s s' k h =
      touched_two m (label_of lat g i) _ _ _ _ k.0 (λ low. ap (element f n) (value_low i s s' k.1.1 h low))
      (fetched_low m (a + expr_size i) _ _ (timed_low m i a s s' (fit_index m i k.0 k.1.1) h))

  pub tested_low : (m : Marks) (e : Expression) (a : ℕ) (s s' : Core E) → Fit m e → SameLow s s' → SameLow (tested v m e a s) (tested v m e a s')
  tested_low m e a s s' k h = fetched_low m (a + expr_size e) _ _ (timed_low m e a s s' k h)

  pub reached_low : (m : Marks) (i e : Expression) (a : ℕ) (s s' : Core E) → Fit m i → Fit m e → SameLow s s'
      → SameLow (reached v m i e a s) (reached v m i e a s')
  reached_low m i e a s s' k q h = tested_low m e (a + expr_size i) _ _ q (timed_low m i a s s' k h)

  -- costs of an access with a low read label
  pub cost_low : (k : Kind) (a er ew : ℕ) (s s' : Core E) → SameLow s s' → Low er → v.cost_of k a er ew s.env ≡ v.cost_of k a er ew s'.env
  cost_low k a er ew s s' h low = laws.read_label k a er ew s.env s'.env h.one h.other (λ q l f. h.parts q l (ll.chain l er o f low))

  pub fetched_time : (m : Marks) (a : ℕ) (s s' : Core E) → SameLow s s' → Low m.er → Alike s.clock s'.clock
      → Alike (fetched v m a s).clock (fetched v m a s').clock
  fetched_time m a s s' h low e = alike_add s.clock s'.clock _ _ (ap (λ z. 1 + z) (cost_low Code (4 * a) m.er m.ew s s' h low)) e

  pub touched_time : (m : Marks) (x : ℕ) (s s' : Core E) → SameLow s s' → Low m.er → Alike s.clock s'.clock
      → Alike (touched v m x s).clock (touched v m x s').clock
  touched_time m x s s' h low e = alike_add s.clock s'.clock _ _ (cost_low Data (2 ^ 20 + 8 * x) m.er m.ew s s' h low) e

  -- the same access where the clocks are compared
  pub touched_two_time : (m : Marks) (x x' : ℕ) (s s' : Core E) → x ≡ x' → SameLow s s' → Low m.er → Alike s.clock s'.clock
      → Alike (touched v m x s).clock (touched v m x' s').clock
  touched_two_time m x x' s s' e h low c = subst (λ z. Alike (touched v m x s).clock (touched v m z s').clock) e (touched_time m x s s' h low c)

  pub timed_time : (m : Marks) (e : Expression) (a : ℕ) (s s' : Core E) → Fit m e → SameLow s s' → Low m.er → Low (label_of lat g e) → Alike s.clock s'.clock
      → Alike (timed v m e a s).clock (timed v m e a s').clock
  timed_time m (Number n) a s s' k h low le c = fetched_time m a s s' h low c
  timed_time m (Variable x) a s s' k h low le c = touched_time m x _ _ (fetched_low m a s s' h) low (fetched_time m a s s' h low c)
  timed_time m (Binary op l r) a s s' k h low le c =
      let ll_ = from_left lat ll g (label_of lat g l) (label_of lat g r) o le in
      let lr = from_right lat ll g (label_of lat g l) (label_of lat g r) o le in
      let kl = fit_left m l r k.0 k.1.0 in
      let kr = fit_right m l r k.0 k.1.1 in
      let h1 = timed_low m l a s s' kl h in
      let h2 = timed_low m r (a + expr_size l) _ _ kr h1 in
      let c1 = timed_time m l a s s' kl h low ll_ c in
      let c2 = timed_time m r (a + expr_size l) _ _ kr h1 low lr c1 in
      let c3 = fetched_time m (a + expr_size l + expr_size r) _ _ h2 low c2 in
      let vl = value_low l s s' k.1.0 h ll_ in
      let vr = value_low r s s' k.1.1 h lr in
      let cost = ap (λ x. op_cost op x (value_of r s.memory)) vl ∙ ap (λ x. op_cost op (value_of l s'.memory) x) vr in
      alike_add _ _ _ _ cost c3
  timed_time m (Element f n i) a s s' k h low le c =
      let low_i = from_right lat ll g (g f) (label_of lat g i) o le in
      let ki = fit_index m i k.0 k.1.1 in
      let h1 = timed_low m i a s s' ki h in
      let c1 = timed_time m i a s s' ki h low low_i c in
      touched_two_time m _ _ _ _ (ap (element f n) (value_low i s s' k.1.1 h low_i)) (fetched_low m (a + expr_size i) _ _ h1) low
      (fetched_time m (a + expr_size i) _ _ h1 low c1)

  pub tested_time : (m : Marks) (e : Expression) (a : ℕ) (s s' : Core E) → Fit m e → SameLow s s' → Low m.er → Low (label_of lat g e) → Alike s.clock s'.clock
      → Alike (tested v m e a s).clock (tested v m e a s').clock
  tested_time m e a s s' k h low le c = fetched_time m (a + expr_size e) _ _ (timed_low m e a s s' k h) low (timed_time m e a s s' k h low le c)

  -- an expression's code changes no memory, no misses and no log
  pub timed_memory : (m : Marks) (e : Expression) (a : ℕ) (s : Core E) → (timed v m e a s).memory ≡ s.memory
  timed_memory m (Number n) a s = refl
  timed_memory m (Variable x) a s = refl
  timed_memory m (Binary op l r) a s = timed_memory m r (a + expr_size l) _ ∙ timed_memory m l a s
  timed_memory m (Element f n i) a s = timed_memory m i a s

  pub timed_misses : (m : Marks) (e : Expression) (a : ℕ) (s : Core E) → (timed v m e a s).misses ≡ s.misses
  timed_misses m (Number n) a s = refl
  timed_misses m (Variable x) a s = refl
  timed_misses m (Binary op l r) a s = timed_misses m r (a + expr_size l) _ ∙ timed_misses m l a s
  timed_misses m (Element f n i) a s = timed_misses m i a s

  -- after the code of an expression
  pub timed_timing : (m : Marks) (e : Expression) (a t t1 : ℕ) (s s' : Core E) → Fit m e → SameLow s s' → Flows lat t t1 → Flows lat (label_of lat g e) t1
      → Flows lat m.er t1 → Timing t s s' → Timing t1 (timed v m e a s) (timed v m e a s')
  timed_timing m e a t t1 s s' k h ft fl fe w =
      record {
        seen = ap (shown lat g o lim) (timed_log v m e a s) ∙ w.seen ∙ sym (ap (shown lat g o lim) (timed_log v m e a s'));
        misses = λ i i' l low. ap (λ f. f l) (timed_misses m e a s) ∙ w.misses (omega (arith, timed_clock v m e a s)) (omega (arith, timed_clock v m e a s')) l
            low ∙ sym (ap (λ f. f l) (timed_misses m e a s'));
        clock = λ low. timed_time m e a s s' k h (ll.chain m.er t1 o fe low) (ll.chain (label_of lat g e) t1 o fl low) (w.clock (ll.chain t t1 o ft low));
      }

  -- after the code of an expression and the instruction below it
  pub tested_timing : (m : Marks) (e : Expression) (a t t1 : ℕ) (s s' : Core E) → Fit m e → SameLow s s' → Flows lat t t1 → Flows lat (label_of lat g e) t1
      → Flows lat m.er t1 → Timing t s s' → Timing t1 (tested v m e a s) (tested v m e a s')
  tested_timing m e a t t1 s s' k h ft fl fe w =
      record {
        seen = ap (shown lat g o lim) (timed_log v m e a s) ∙ w.seen ∙ sym (ap (shown lat g o lim) (timed_log v m e a s'));
        misses = λ i i' l low. ap (λ f. f l) (timed_misses m e a s) ∙ w.misses (omega (arith, tested_clock v m e a s)) (omega (arith, tested_clock v m e a s'))
            l low ∙ sym (ap (λ f. f l) (timed_misses m e a s'));
        clock = λ low. tested_time m e a s s' k h (ll.chain m.er t1 o fe low) (ll.chain (label_of lat g e) t1 o fl low) (w.clock (ll.chain t t1 o ft low));
      }

  -- after the code of an index and a value and the instruction below them
  pub reached_timing : (m : Marks) (i e : Expression) (a t t1 : ℕ) (s s' : Core E) → Fit m i → Fit m e → SameLow s s' → Flows lat t t1
      → Flows lat (label_of lat g i) t1 → Flows lat (label_of lat g e) t1 → Flows lat m.er t1 → Timing t s s'
      → Timing t1 (reached v m i e a s) (reached v m i e a s')
  reached_timing m i e a t t1 s s' k q h ft fi fl fe w =
      tested_timing m e (a + expr_size i) t1 t1 _ _ q (timed_low m i a s s' k h) (ll.same t1) fl fe (timed_timing m i a t t1 s s' k h ft fi fe w)

  pub written_low : (x : ℕ) (n n' : ℤ) (s s' : Core E) → SameLow s s' → (Low (g x) → n ≡ n') → SameLow (written x n s) (written x n' s')
  written_low x n n' s s' h e =
      record {
        memory = λ y low. ⊎_elim
            (λ (q : y ≡ x). subst (λ z. read (slice_set s.memory x n) z ≡ read (slice_set s'.memory x n') z) (sym q)
            (same (e (subst (λ z. Low (g z)) q low)) (h.memory x (subst (λ z. Low (g z)) q low)) (cases_lt x (length s.memory))))
            (λ (q : y ≡ x → ⊥). get_or-set_other s.memory x y n (pos 0) q ∙ h.memory y low ∙ sym (get_or-set_other s'.memory x y n' (pos 0) q))
            (cases_eq y x);
        long = length-set s.memory x n ∙ h.long ∙ sym (length-set s'.memory x n');
        one = h.one;
        other = h.other;
        parts = h.parts;
      }
    where
      same : n ≡ n' → read s.memory x ≡ read s'.memory x → (x < length s.memory) ⊎ (length s.memory ≤ x)
          → read (slice_set s.memory x n) x ≡ read (slice_set s'.memory x n') x
      same q r (inl lt) = get_or-set_same s.memory x n (pos 0) lt ∙ q ∙ sym (get_or-set_same s'.memory x n' (pos 0) (subst (λ z. x < z) h.long lt))
      same q r (inr le) = ap (λ z. read z x) (set_past s.memory x n le) ∙ r ∙ sym (ap (λ z. read z x) (set_past s'.memory x n' (subst (λ z. z ≤ x) h.long le)))

  -- two variables with one label, which are one if the label is low
  pub written_two : (l x x' : ℕ) (n n' : ℤ) (s s' : Core E) → g x ≡ l → g x' ≡ l → (Low l → x ≡ x') → (Low l → n ≡ n') → SameLow s s'
      → SameLow (written x n s) (written x' n' s')
  written_two l x x' n n' s s' is is' p e h =
      by_label l (SameLow (written x n s) (written x' n' s'))
      (λ low. subst (λ z. SameLow (written x n s) (written z n' s')) (p low) (written_low x n n' s s' h (λ y. e low)))
      (λ high.
      still_same s s' _ _ h (written_high v lat ll laws g o lim x n s (λ y. high (subst (λ z. Low z) is y)))
      (written_high v lat ll laws g o lim x' n' s' (λ y. high (subst (λ z. Low z) is' y))))

  pub written_timing : (l x x' i : ℕ) (n n' : ℤ) (s s' : Core E) → g x ≡ l → g x' ≡ l → (Low l → x ≡ x') → (Low l → n ≡ n') → (Low l → Alike s.clock s'.clock)
      → Timing i s s' → Timing l (written x n s) (written x' n' s')
  written_timing l x x' i n n' s s' is is' p e c w =
      record {
        seen = shown-append lat g o lim s.log (Wrote x n s.clock ∷ []) ∙ ap (λ z. z ++ shown lat g o lim (Wrote x n s.clock ∷ [])) w.seen
            ∙ ap (λ z. shown lat g o lim s'.log ++ z) (one (cases_Bool (lat.flows l o))) ∙ sym (shown-append lat g o lim s'.log (Wrote x' n' s'.clock ∷ []));
        misses = w.misses;
        clock = c;
      }
    where
      none : (x : ℕ) (n : ℤ) (c : ℕ) (b : Bool) → g x ≡ l → lat.flows l o ≡ false → visible lat g o (cond b (Wrote x n c ∷ []) []) ≡ []
      none x n c true is q = cond-false (lat.flows (g x) o) (Wrote x n c ∷ []) [] (ap (λ z. lat.flows z o) is ∙ q)
      none x n c false is q = refl

      same : x ≡ x' → n ≡ n' → Alike s.clock s'.clock → shown lat g o lim (Wrote x n s.clock ∷ []) ≡ shown lat g o lim (Wrote x' n' s'.clock ∷ [])
      same p q (inl r) = ap (λ z. shown lat g o lim (Wrote z n s.clock ∷ [])) p ∙ ap (λ z. shown lat g o lim (Wrote x' z s.clock ∷ [])) q
          ∙ ap (λ z. shown lat g o lim (Wrote x' n' z ∷ [])) r
      same p q (inr r) = shown-late lat g o lim (Wrote x n s.clock) r.0 ∙ sym (shown-late lat g o lim (Wrote x' n' s'.clock) r.1)

      one : (lat.flows l o ≡ true) ⊎ (lat.flows l o ≡ false) → shown lat g o lim (Wrote x n s.clock ∷ []) ≡ shown lat g o lim (Wrote x' n' s'.clock ∷ [])
      one (inl y) = same (p y) (e y) (c y)
      one (inr nope) = none x n s.clock (leb s.clock lim) is nope ∙ sym (none x' n' s'.clock (leb s'.clock lim) is' nope)
