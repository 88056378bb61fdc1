-- Two runs of one typed list from states with equal low parts.
use Rattle.std.proofs.Common.{◌≡◌, ℕ, ◌+◌, ◌-◌, ◌*◌, ◌^◌, ◌<◌, ◌≤◌, List, [], ◌∷◌, ◌++◌, length, append-nil, length-append, refl, sym, ap, ◌∙◌, subst, ◌⊎◌}
use Rattle.std.proofs.Common.{inl, inr, ⊎_elim, arith}
use Rattle.std.specs.Prelude.{Bool, true, false, cond, ℤ, eqb, max, leb}
use Rattle.std.proofs.lemmas.Bool.{cases_lt, both_ways, eqb-true, leb-true, leb-false}
use Rattle.mit_syntax.specs.Expression.{Expression}
use Rattle.mit_syntax.specs.Todo.{Marks, Marked}
use Rattle.mit_syntax.specs.Values.{element, value_of, holds}
use Rattle.doubling_schedule.specs.Doubling.{at_least_zero, misses_after}
use Rattle.label_lattice.specs.Lattice.{Lattice, Flows, IsLattice}
use Rattle.timing_types.specs.Typing.{label_of, index_label, Types}
use Rattle.timing_types.specs.Arrays.{HasArrays, ArraysIn}
use Rattle.env_contract.specs.Env.{Env}
use Rattle.label_code.specs.Machine.{Core, Began, Ended, fetched, touched, closed}
use Rattle.env_contract.specs.declared.place.Kind.TheVariants.{Code}
use Rattle.code_lower.specs.Layout.{expr_size, size, raised}
use Rattle.env_contract.specs.Laws.{IsLawful}
use Rattle.label_code.specs.Visible.{visible}
use Rattle.code_lower.proofs.Timed.{tested, begun, opening, tested_clock, timed_log}
use Rattle.leak_bound.proofs.Runs.{Job, Do, Loop, Runs, done, skip, assign, put, sleep, if_true, if_false, while_none, while_some, mitigate, last, again, late}
use Rattle.timing_types.proofs.Flow.{from_left, from_right, parts, inner_flows, start_flows, flows_to_end}
use Rattle.timing_types.proofs.Places.{element_label}
use Rattle.leak_bound.proofs.High.{Unchanged, high_up, unchanged_same, unchanged_then, high_run, fetched_high}
use Rattle.label_code.proofs.Upto.{upto}
use Rattle.leak_bound.proofs.Shown.{shown, shown-none}
use Rattle.label_code.proofs.Ticks.{closed_clock}
use Rattle.leak_bound.proofs.Record.{grows_run}
use Rattle.leak_bound.proofs.Late.{From, Tail, tail}
use Rattle.leak_bound.specs.Records.{Entry, Fits}
use Rattle.leak_bound.proofs.Low.{same_parts, fits_nil, fits_both, fits_left, fits_right, entry_of, record_of, SameLow, Alike, alike_add, Timing, fetched_low}
use Rattle.leak_bound.proofs.Low.{touched_low, waited_low, tested_low, value_low, cost_low, fetched_time, touched_two, touched_two_time, tested_timing}
use Rattle.leak_bound.proofs.Low.{still_same, Fit, fit_of, fit_raised, fit_index, reached_low, reached_timing, written_low, written_two, written_timing}

only_count : (x y : Entry) → ◌≡◌ {A = List Entry} (x ∷ []) (y ∷ []) → x.1 ≡ y.1
only_count x y e = let h : x ≡ y = cc in ap (λ (p : Entry). p.1) h

module _ {E : Type 0} {serves : E → Type 0} (v : Env E) (lat : Lattice) (ll : IsLattice lat) (laws : IsLawful v lat serves) (g : ℕ → ℕ) (o lim : ℕ) where
  abbrev Low : ℕ → Type 0
  Low l = Flows lat l o

  abbrev High : ℕ → Type 0
  High l = Flows lat l o → ⊥

  abbrev Same : Core E → Core E → Type 0
  Same s s' = SameLow v lat ll laws g o lim s s'

  abbrev Time : ℕ → Core E → Core E → Type 0
  Time t s s' = Timing v lat ll laws g o lim t s s'

  -- nothing low changes, and no clock turns back
  abbrev Still : Core E → Core E → Type 0
  Still s s' = Unchanged v lat ll laws g o lim s s' × (s.clock ≤ s'.clock)

  abbrev SleepWork : ℕ → ℕ → Core E → Core E → List Entry → Type 0
  SleepWork i end m s b = Tail v lat ll laws g o lim i end m s b

  -- what two runs from s1 to s1' and from s2 to s2', with these parts of the records, have in common
  pub record Both (t end : ℕ) (s1 s1' s2 s2' : Core E) (r r' : List Entry) : Type 0 where
    pub low : s1'.clock ≤ lim → s2'.clock ≤ lim → Same s1' s2'
    pub fits : Fits r r'
    pub most : s1'.clock ≤ lim → length r' ≤ length r
    pub least : s2'.clock ≤ lim → length r ≤ length r'
    pub timed : r ≡ r' → Time t s1 s2 → Time end s1' s2'

  time_back : (t : ℕ) (s s' : Core E) → Time t s s' → Time t s' s
  time_back t s s' w =
      record {
        seen = sym w.seen;
        misses = λ h h' l low. sym (w.misses h' h l low);
        clock = λ low. ⊎_elim (λ (e : s.clock ≡ s'.clock). inl (sym e)) (λ (e : (lim < s.clock) × (lim < s'.clock)). inr (e.1, e.0)) (w.clock low);
      }

  -- on from m1, which is past the cut, and from m2
  past : (t end : ℕ) (m1 s1 m2 s2 : Core E) (b b' : List Entry) → lim < m1.clock → SleepWork t end m1 s1 b → SleepWork t end m2 s2 b'
      → Time t m1 m2 → Time end s1 s2
  past t end m1 s1 m2 s2 b b' h x y w = go (cases_lt lim m2.clock)
    where
      xc : m1.clock ≤ s1.clock
      xc = x.clock

      yc : m2.clock ≤ s2.clock
      yc = y.clock

      first : shown lat g o lim s1.log ≡ shown lat g o lim m2.log
      first = ap (visible lat g o) (x.log h) ∙ w.seen

      go : (lim < m2.clock) ⊎ (m2.clock ≤ lim) → Time end s1 s2
      go (inl l) = record {
        seen = first ∙ sym (ap (visible lat g o) (y.log l));
        misses = λ i i'. absurd (omega arith);
        clock =
            λ low. inr (omega arith, omega arith);
      }
      go (inr l) =
          let high : High t = λ low. ⊎_elim (λ (e : m1.clock ≡ m2.clock). omega arith) (λ (e : (lim < m1.clock) × (lim < m2.clock)). let z = e.1 in
          omega arith) (w.clock low) in
          record { seen = first ∙ sym (y.blind high); misses = λ i i'. absurd (omega arith); clock = λ low. absurd (high (ll.chain t end o x.to low)) }

  past_right : (t end : ℕ) (m1 s1 m2 s2 : Core E) (b b' : List Entry) → lim < m2.clock → SleepWork t end m1 s1 b → SleepWork t end m2 s2 b'
      → Time t m1 m2 → Time end s1 s2
  past_right t end m1 s1 m2 s2 b b' h x y w = time_back end s2 s1 (past t end m2 s2 m1 s1 b' b h y x (time_back t m1 m2 w))

  both_then : (t t1 t2 : ℕ) (s1 m1 s1' s2 m2 s2' : Core E) (a a' b b' : List Entry) → SleepWork t1 t2 m1 s1' b → SleepWork t1 t2 m2 s2' b'
      → Both t t1 s1 m1 s2 m2 a a' → (Same m1 m2 → Both t1 t2 m1 s1' m2 s2' b b') → Both t t2 s1 s1' s2 s2' (a ++ b) (a' ++ b')
  both_then t t1 t2 s1 m1 s1' s2 m2 s2' a a' b b' p q x next = go (cases_lt lim m1.clock) (cases_lt lim m2.clock)
    where
      pc : m1.clock ≤ s1'.clock
      pc = p.clock

      qc : m2.clock ≤ s2'.clock
      qc = q.clock

      n : length (a ++ b) ≡ length a + length b
      n = length-append a b

      n' : length (a' ++ b') ≡ length a' + length b'
      n' = length-append a' b'

      split : length a ≡ length a' → a ++ b ≡ a' ++ b' → a ≡ a'
      split e q = (same_parts a a' b b' e q).0

      go : (lim < m1.clock) ⊎ (m1.clock ≤ lim) → (lim < m2.clock) ⊎ (m2.clock ≤ lim) → Both t t2 s1 s1' s2 s2' (a ++ b) (a' ++ b')
      go (inr h) (inr h') =
          let y = next (x.low h h') in
          let more = x.most h in
          let less = x.least h' in
          let e : length a ≡ length a' = omega arith in
          record {
            low = y.low;
            fits = fits_both a a' b b' e x.fits y.fits;
            most = λ i. let z = y.most i in omega (arith, n, n');
            least = λ i. let z = y.least i in omega (arith, n, n');
            timed = λ q w. let u = same_parts a a' b b' e q in y.timed u.1 (x.timed u.0 w);
          }
      go (inl h) (inl h') =
          let none = p.ends h in
          let none' = q.ends h' in
          let l = ap length none in
          let l' = ap length none' in
          record {
            low = λ i. absurd (omega arith);
            fits = subst (λ z. Fits z (a' ++ b')) (sym (append-nil a) ∙ ap (λ z. a ++ z) (sym none))
                (subst (λ z. Fits a z) (sym (append-nil a') ∙ ap (λ z. a' ++ z) (sym none')) x.fits);
            most = λ i. absurd (omega arith);
            least = λ i. absurd (omega arith);
            timed = λ r w. let m = ap length r in past t1 t2 m1 s1' m2 s2' b b' h p q (x.timed (split (omega (arith, n, n')) r) w);
          }
      go (inl h) (inr h') =
          let none = p.ends h in
          let l = ap length none in
          let less = x.least h' in
          record {
            low = λ i. absurd (omega arith);
            fits = subst (λ z. Fits z (a' ++ b')) (sym (append-nil a) ∙ ap (λ z. a ++ z) (sym none)) (fits_left a a' b' less x.fits);
            most = λ i. absurd (omega arith);
            least = λ i. omega (arith, n, n');
            timed = λ r w. let m = ap length r in past t1 t2 m1 s1' m2 s2' b b' h p q (x.timed (split (omega (arith, n, n')) r) w);
          }
      go (inr h) (inl h') =
          let none' = q.ends h' in
          let l' = ap length none' in
          let more = x.most h in
          record {
            low = λ i i'. absurd (omega arith);
            fits = subst (λ z. Fits (a ++ b) z) (sym (append-nil a') ∙ ap (λ z. a' ++ z) (sym none')) (fits_right a a' b more x.fits);
            most = λ i. omega (arith, n, n');
            least = λ i. absurd (omega arith);
            timed = λ r w. let m = ap length r in past_right t1 t2 m1 s1' m2 s2' b b' h' p q (x.timed (split (omega (arith, n, n')) r) w);
          }

  -- a step that adds nothing to the records, before or after
  quiet_then : (t t1 t2 : ℕ) (s1 m1 s1' s2 m2 s2' : Core E) (b b' : List Entry) → (Time t s1 s2 → Time t1 m1 m2) → Both t1 t2 m1 s1' m2 s2' b b'
      → Both t t2 s1 s1' s2 s2' b b'
  quiet_then t t1 t2 s1 m1 s1' s2 m2 s2' b b' f y = record { low = y.low; fits = y.fits; most = y.most; least = y.least; timed = λ e w. y.timed e (f w) }

  quiet_rest : (t t1 : ℕ) (m s : Core E) → Flows lat t t1 → m.clock ≤ s.clock → s.log ≡ m.log → SleepWork t t1 m s []
  quiet_rest t t1 m s f c e = record { to = f; clock = c; ends = λ h. refl; log = λ h. ap (upto lim) e; blind = λ h. ap (shown lat g o lim) e }

  -- the same before a rest
  rest_after : (t end : ℕ) (m m1 s : Core E) (b : List Entry) → m.clock ≤ m1.clock → m1.log ≡ m.log → SleepWork t end m1 s b → SleepWork t end m s b
  rest_after t end m m1 s b c e y =
      let yc = y.clock in
      record {
        to = y.to;
        clock = omega arith;
        ends = λ h. y.ends (omega arith);
        log = λ h. y.log (omega arith) ∙ ap (upto lim) e;
        blind =
            λ h. y.blind h ∙ ap (shown lat g o lim) e;
      }

  emptied : (t end : ℕ) (s1 s1' s2 s2' : Core E) (b b' : List Entry) → Both t end s1 s1' s2 s2' (b ++ []) (b' ++ []) → Both t end s1 s1' s2 s2' b b'
  emptied t end s1 s1' s2 s2' b b' x =
      subst (λ z. Both t end s1 s1' s2 s2' b z) (append-nil b') (subst (λ z. Both t end s1 s1' s2 s2' z (b' ++ [])) (append-nil b) x)

  emptied_left : (t end : ℕ) (s1 s1' s2 s2' : Core E) (b b' : List Entry) → Both t end s1 s1' s2 s2' (b ++ []) b' → Both t end s1 s1' s2 s2' b b'
  emptied_left t end s1 s1' s2 s2' b b' x = subst (λ z. Both t end s1 s1' s2 s2' z b') (append-nil b) x

  emptied_right : (t end : ℕ) (s1 s1' s2 s2' : Core E) (b b' : List Entry) → Both t end s1 s1' s2 s2' b (b' ++ []) → Both t end s1 s1' s2 s2' b b'
  emptied_right t end s1 s1' s2 s2' b b' x = subst (λ z. Both t end s1 s1' s2 s2' b z) (append-nil b') x

  filled : (t end : ℕ) (s1 s1' s2 s2' : Core E) (b b' : List Entry) → Both t end s1 s1' s2 s2' b b' → Both t end s1 s1' s2 s2' (b ++ []) (b' ++ [])
  filled t end s1 s1' s2 s2' b b' x =
      subst (λ z. Both t end s1 s1' s2 s2' (b ++ []) z) (sym (append-nil b')) (subst (λ z. Both t end s1 s1' s2 s2' z b') (sym (append-nil b)) x)

  then_quiet : (t t1 t2 : ℕ) (s1 m1 s1' s2 m2 s2' : Core E) (b b' : List Entry) → SleepWork t1 t2 m1 s1' [] → SleepWork t1 t2 m2 s2' []
      → Both t t1 s1 m1 s2 m2 b b' → (Same m1 m2 → Time t1 m1 m2 → Time t2 s1' s2') → (Same m1 m2 → Same s1' s2') → Both t t2 s1 s1' s2 s2' b b'
  then_quiet t t1 t2 s1 m1 s1' s2 m2 s2' b b' p q y f h =
      emptied t t2 s1 s1' s2 s2' b b'
      (both_then t t1 t2 s1 m1 s1' s2 m2 s2' b b' [] [] p q y
      (λ same. record { low = λ i i'. h same; fits = tt; most = λ i. omega arith; least = λ i. omega arith; timed = λ e w. f same w }))

  -- one run is cut where the other goes on
  cut_left : (t end : ℕ) (s1 s2 s2' : Core E) (b' : List Entry) → lim < s1.clock → SleepWork t end s2 s2' b' → Both t end s1 s1 s2 s2' [] b'
  cut_left t end s1 s2 s2' b' h y =
      record {
        low = λ i. absurd (omega arith);
        fits = tt;
        most = λ i. absurd (omega arith);
        least = λ i. omega arith;
        timed = λ e w. past t end s1 s1 s2 s2' [] b' h (quiet_rest t end s1 s1 y.to (omega arith) refl) y w;
      }

  cut_right : (t end : ℕ) (s1 s1' s2 : Core E) (b : List Entry) → lim < s2.clock → SleepWork t end s1 s1' b → Both t end s1 s1' s2 s2 b []
  cut_right t end s1 s1' s2 b h x =
      record {
        low = λ i i'. absurd (omega arith);
        fits = fits_nil b;
        most = λ i. omega arith;
        least = λ i. absurd (omega arith);
        timed = λ e w. past_right t end s1 s1' s2 s2 b [] h x (quiet_rest t end s2 s2 x.to (omega arith) refl) w;
      }

  fetched_timing : (m : Marks) (a t t1 : ℕ) (s s' : Core E) → Same s s' → Flows lat t t1 → Flows lat m.er t1 → Time t s s'
      → Time t1 (fetched v m a s) (fetched v m a s')
  fetched_timing m a t t1 s s' h ft fe w =
      record {
        seen = w.seen;
        misses = λ i i'. w.misses (omega arith) (omega arith);
        clock = λ low. fetched_time v lat ll laws g o lim m a s s' h (ll.chain m.er t1 o fe low) (w.clock (ll.chain t t1 o ft low));
      }

  touched_timing : (m : Marks) (x x' t t1 : ℕ) (s s' : Core E) → (Low t1 → x ≡ x') → Same s s' → Flows lat t t1 → Flows lat m.er t1 → Time t s s'
      → Time t1 (touched v m x s) (touched v m x' s')
  touched_timing m x x' t t1 s s' e h ft fe w =
      record {
        seen = w.seen;
        misses = λ i i'. w.misses (omega arith) (omega arith);
        clock = λ low. touched_two_time v lat ll laws g o lim m x x' s s' (e low) h (ll.chain m.er t1 o fe low) (w.clock (ll.chain t t1 o ft low));
      }

  -- what changes nothing low keeps low parts equal, and the rest but the clock
  still_low : (s s' m m' : Core E) → Same s s' → Still s m → Still s' m' → Same m m'
  still_low s s' m m' h x x' = still_same v lat ll laws g o lim s s' m m' h x.0 x'.0

  still_timing : (t t1 : ℕ) (s s' m m' : Core E) → High t1 → Still s m → Still s' m' → Time t s s' → Time t1 m m'
  still_timing t t1 s s' m m' high x x' w =
      let u = x.0 in
      let u' = x'.0 in
      let c = x.1 in
      let c' = x'.1 in
      record {
        seen = u.seen ∙ w.seen ∙ sym u'.seen;
        misses = λ i i' l low. u.misses l low ∙ w.misses (omega arith) (omega arith) l low ∙ sym (u'.misses l low);
        clock = λ low. absurd (high low);
      }

  -- what a guard decides: lockstep where its label is low, and nothing low otherwise
  guarded : (le t t1 : ℕ) (s m s' m' : Core E) (a a' : List Entry) → Same s s' → Flows lat le t1 → (Low le → Both t t1 s m s' m' a a') → (High le → Still s m)
      → (High le → Still s' m') → Both t t1 s m s' m' (cond (lat.flows le o) a []) (cond (lat.flows le o) a' [])
  guarded le t t1 s m s' m' a a' h f low u u' = go (lat.flows le o) refl
    where
      go : (b : Bool) → lat.flows le o ≡ b → Both t t1 s m s' m' (cond b a []) (cond b a' [])
      go true e = low e
      go false e =
          let high : High le = λ y. both_ways (lat.flows le o) e y in
          record {
            low = λ i i'. still_low s s' m m' h (u high) (u' high);
            fits = tt;
            most = λ i. omega arith;
            least = λ i. omega arith;
            timed = λ q w. still_timing t t1 s s' m m' (λ y. high (ll.chain le t1 o f y)) (u high) (u' high) w;
          }

  -- typed at a low pc
  abbrev pub Public : Job → ℕ → ℕ → Type 0
  Public (Do p a) t end = (pc : ℕ) × Types lat g pc t p end × ArraysIn g p × Flows lat pc t × Low pc
  Public (Loop m e c a) t end =
      (pc : ℕ) × Types lat g pc t c t × ArraysIn g c × Flows lat pc t × Low pc × (t ≡ end)
      × Flows lat (label_of lat g e) t × Flows lat m.er t × Fit v lat ll laws g o lim m e × Low (label_of lat g e)

  -- what the typing of a command with a guard gives: l is the guard's label, what it leads to starts at start, and ends at both
  record Facts (pc t l : ℕ) (m : Marks) (start both : ℕ) : Type 0 where
    from_start : Flows lat t start
    guard_start : Flows lat l start
    er_start : Flows lat m.er start
    inner : Flows lat (lat.join pc l) start
    start_both : Flows lat start both
    guard_both : Flows lat l both
    pc_both : Flows lat pc both
    raised_both : Flows lat (lat.join m.er l) both

  facts_of : (pc t l : ℕ) (m : Marks) (start both : ℕ) → Flows lat pc t → Flows lat t start → Flows lat l start → Flows lat m.er start
      → Flows lat start both → Facts pc t l m start both
  facts_of pc t l m start both pt ts ls es sb =
      record {
        from_start = ts;
        guard_start = ls;
        er_start = es;
        inner = ll.least pc l start (ll.chain pc t start pt ts) ls;
        start_both = sb;
        guard_both = ll.chain l start both ls sb;
        pc_both = ll.chain pc t both pt (ll.chain t start both ts sb);
        raised_both = ll.least m.er l both (ll.chain m.er start both es sb) (ll.chain l start both ls sb);
      }

  -- at a start of the form t | l | er
  start_facts : (pc t l : ℕ) (m : Marks) (both : ℕ) → Flows lat pc t → Flows lat (lat.join (lat.join t l) m.er) both
      → Facts pc t l m (lat.join (lat.join t l) m.er) both
  start_facts pc t l m both pt sb =
      let tl = lat.join t l in
      facts_of pc t l m (lat.join tl m.er) both pt (start_flows lat ll g t l m.er)
      (ll.chain l tl (lat.join tl m.er) (ll.right t l) (ll.left tl m.er)) (ll.right tl m.er) sb

  -- a choice: both ends are joined
  if_facts : (pc t : ℕ) (m : Marks) (e : Expression) (c : Marked) (ta tb : ℕ) → Flows lat pc t
      → Types lat g (lat.join pc (label_of lat g e)) (lat.join (lat.join t (label_of lat g e)) m.er) c ta
      → Facts pc t (label_of lat g e) m (lat.join (lat.join t (label_of lat g e)) m.er) (lat.join ta tb)
  if_facts pc t m e c ta tb pt ty =
      let l = label_of lat g e in
      let start = lat.join (lat.join t l) m.er in
      start_facts pc t l m (lat.join ta tb) pt
      (ll.chain start ta (lat.join ta tb) (flows_to_end lat ll g c (lat.join pc l) start ta (inner_flows lat ll g pc t l m.er pt) ty) (ll.left ta tb))

  while_facts : (pc t : ℕ) (m : Marks) (l t' : ℕ) → Flows lat pc t → Flows lat (lat.join (lat.join l t) m.er) t' → Facts pc t l m t' t'
  while_facts pc t m l t' pt f =
      let lt = from_left lat ll g (lat.join l t) m.er t' f in
      facts_of pc t l m t' t' pt (from_right lat ll g l t t' lt) (from_left lat ll g l t t' lt) (from_right lat ll g (lat.join l t) m.er t' f) (ll.same t')

  -- a branch whose guard is not low, and the jump below it
  branch_still : (pc l t end j : ℕ) (m : Marks) (p : Marked) (a : ℕ) (s n : Core E) → Types lat g (lat.join pc l) t p end → ArraysIn g p
      → Flows lat (lat.join pc l) t → High l → Runs v lat g lim (Do p a) s n → Still s n
  branch_still pc l t end j m p a s n ty k f high b = (
    high_run v lat ll laws g o lim (lat.join pc l, t, end, ty, f, k, high_up v lat ll laws g o lim l (lat.join pc l) high (ll.right pc l)) b,
    (grows_run v lat g o lim b).clock,
  )

  jump_still : (l j : ℕ) (m : Marks) (s n : Core E) → High l → Still s n → Still s (fetched v (record { er = lat.join m.er l; ew = lat.join m.ew l }) j n)
  jump_still l j m s n high u =
      let c = u.1 in (
        unchanged_then v lat ll laws g o lim s n _ u.0 (fetched_high v lat ll laws g o lim (record { er = lat.join m.er l; ew = lat.join m.ew l }) j n
            (high_up v lat ll laws g o lim l (lat.join m.ew l) high (ll.right m.ew l))),
        omega arith,
      )

  -- a guard with a low label has one value
  one_guard : (e : Expression) (s s' : Core E) → HasArrays g e → Same s s' → Low (label_of lat g e) → holds (value_of e s.memory) ≡ true
      → holds (value_of e s'.memory) ≡ false → ⊥
  one_guard e s s' k h low y n = both_ways (holds (value_of e s'.memory)) n (sym (ap holds (value_low v lat ll laws g o lim e s s' k h low)) ∙ y)

  mirrored : (s s' : Core E) → Same s s' → Same s' s
  mirrored s s' h = record { memory = λ x low. sym (h.memory x low); long = sym h.long; one = h.other; other = h.one; parts = λ q l low. sym (h.parts q l low) }

  -- at a higher label less is said
  later : (t t1 : ℕ) (s s' : Core E) → Flows lat t t1 → Time t s s' → Time t1 s s'
  later t t1 s s' f w = record { seen = w.seen; misses = w.misses; clock = λ low. w.clock (ll.chain t t1 o f low) }

  loop_still : (pc t' : ℕ) (m : Marks) (e : Expression) (c : Marked) (a : ℕ) (s n : Core E) → Types lat g (lat.join pc (label_of lat g e)) t' c t'
      → ArraysIn g c → Flows lat (lat.join pc (label_of lat g e)) t' → High (label_of lat g e) → Runs v lat g lim (Loop m e c a) s n → Still s n
  loop_still pc t' m e c a s n ty k f high b =
      let l = label_of lat g e in (
        high_run v lat ll laws g o lim (
          lat.join pc l,
          t',
          t',
          ty,
          f,
          k,
          high_up v lat ll laws g o lim l (lat.join pc l) high (ll.right pc l),
          high_up v lat ll laws g o lim l (lat.join m.ew l) high (ll.right m.ew l),
        ) b,
        (grows_run v lat g o lim b).clock,
      )

  unmoved : (s : Core E) → Still s s
  unmoved s = (unchanged_same v lat ll laws g o lim s, omega arith)

  at_end : (t end : ℕ) (s1 s1' s2 s2' : Core E) (r r' : List Entry) → t ≡ end → Both t t s1 s1' s2 s2' r r' → Both t end s1 s1' s2 s2' r r'
  at_end t end s1 s1' s2 s2' r r' e x =
      record { low = x.low; fits = x.fits; most = x.most; least = x.least; timed = λ q w. subst (λ z. Time z s1' s2') e (x.timed q w) }

  begun_low : (k : ℕ) (s s' : Core E) → Same s s' → Same (begun k s) (begun k s')
  begun_low k s s' h = record { memory = h.memory; long = h.long; one = h.one; other = h.other; parts = h.parts }

  begun_timing : (k t : ℕ) (s s' : Core E) → Time t s s' → Time t (begun k s) (begun k s')
  begun_timing k t s s' w =
      record {
        seen = shown-none lat g o lim s.log (Began k s.clock) refl ∙ w.seen ∙ sym (shown-none lat g o lim s'.log (Began k s'.clock) refl);
        misses = w.misses;
        clock = w.clock;
      }

  counts_same : (c c' : ℕ) (n n' : ℤ) (s s' k k' : ℕ) → c ≡ c' → n ≡ n' → s ≡ s' → k ≡ k' → misses_after n (c - s) k ≡ misses_after n' (c' - s') k'
  counts_same c c' n n' s s' k k' a b d e =
      ap (λ x. misses_after n (x - s) k) a ∙ ap (λ x. misses_after x (c' - s) k) b ∙ ap (λ x. misses_after n' (c' - x) k) d
      ∙ ap (λ x. misses_after n' (c' - s') x) e

  ends_same : (s s' : ℕ) (n n' : ℤ) (c c' : ℕ) → s ≡ s' → n ≡ n' → c ≡ c' → s + max (at_least_zero n) 1 * 2 ^ c ≡ s' + max (at_least_zero n') 1 * 2 ^ c'
  ends_same s s' n n' c c' a b d =
      ap (λ x. x + max (at_least_zero n) 1 * 2 ^ c) a ∙ ap (λ x. s' + max (at_least_zero x) 1 * 2 ^ c) b ∙ ap (λ x. s' + max (at_least_zero n') 1 * 2 ^ x) d

  -- a mitigation that began at s0 and s0', from the ends of its bodies to its own
  close_both : (m : Marks) (mark level start t' j : ℕ) (n n' : ℤ) (s0 n1 s0' n2 : Core E) (a a' : List Entry) → Flows lat m.er start → Flows lat start t'
      → Flows lat t' level → (Low start → n ≡ n') → s0.clock ≤ n1.clock → s0'.clock ≤ n2.clock → Both start t' (begun mark s0) n1 (begun mark s0') n2 a a' →
      Both start start s0 (closed (opening n level mark s0) (fetched v m j n1)) s0' (closed (opening n' level mark s0') (fetched v m j n2))
      (a ++ entry_of v lat g o lim (opening n level mark s0) (fetched v m j n1))
      (a' ++ entry_of v lat g o lim (opening n' level mark s0') (fetched v m j n2))
  close_both m mark level start t' j n n' s0 n1 s0' n2 a a' fe ft fl val up up' x = go (lat.flows level o) refl
    where
      q1 : Core E
      q1 = fetched v m j n1

      q2 : Core E
      q2 = fetched v m j n2

      count : ℕ
      count = misses_after n (q1.clock - s0.clock) (n1.misses level)

      count' : ℕ
      count' = misses_after n' (q2.clock - s0'.clock) (n2.misses level)

      e1 : Core E
      e1 = closed (opening n level mark s0) q1

      e2 : Core E
      e2 = closed (opening n' level mark s0') q2

      c1 : q1.clock ≤ e1.clock
      c1 = closed_clock (opening n level mark s0) q1 (omega arith)

      c2 : q2.clock ≤ e2.clock
      c2 = closed_clock (opening n' level mark s0') q2 (omega arith)

      done_low : e1.clock ≤ lim → e2.clock ≤ lim → Same e1 e2
      done_low h h' =
          let f = fetched_low v lat ll laws g o lim m j n1 n2 (x.low (omega (arith, c1, c2)) (omega (arith, c1, c2))) in
          record { memory = f.memory; long = f.long; one = f.one; other = f.other; parts = f.parts }

      ended_seen : Time t' n1 n2 → shown lat g o lim e1.log ≡ shown lat g o lim e2.log
      ended_seen z = shown-none lat g o lim n1.log (Ended mark e1.clock) refl ∙ z.seen ∙ sym (shown-none lat g o lim n2.log (Ended mark e2.clock) refl)

      -- both past the cut
      ended_late : lim < e1.clock → lim < e2.clock → Time t' n1 n2 → Time start e1 e2
      ended_late h h' z = record { seen = ended_seen z; misses = λ i. absurd (omega (arith, c1, c2)); clock = λ low. inr (h, h') }

      -- where the counts of a low level are equal, and those of any level if the start is low
      ended : n1.clock ≤ lim → n2.clock ≤ lim → (Low level → count ≡ count') → (Low start → count ≡ count') → Time start s0 s0'
          → Time t' n1 n2 → Time start e1 e2
      ended h h' same_low same w z =
          record {
            seen = ended_seen z;
            misses = λ i i' l low. pick l (eqb l level) (λ e. same_low (subst (λ i. Low i) e low)) (z.misses h h' l low) refl;
            clock = λ low. ⊎_elim
                (λ (e : s0.clock ≡ s0'.clock). inl (ends_same s0.clock s0'.clock n n' count count' e (val low) (same low)))
                (λ (e : (lim < s0.clock) × (lim < s0'.clock)). let y = e.0 in absurd (omega (arith, c1, c2)))
                (w.clock low);
          }
        where
          pick : (l : ℕ) (b : Bool) → (l ≡ level → count ≡ count') → n1.misses l ≡ n2.misses l → eqb l level ≡ b
              → cond b count (n1.misses l) ≡ cond b count' (n2.misses l)
          pick l true f e q = f (eqb-true l level q)
          pick l false f e q = e

      -- a level that is low
      low_level : Low level → Time start s0 s0' → Time t' n1 n2 → Time start e1 e2
      low_level e w z = settle (z.clock low_end) (cases_lt lim n1.clock)
        where
          low_end : Low t'
          low_end = ll.chain t' level o fl e

          low_start : Low start
          low_start = ll.chain start t' o ft low_end

          settle : Alike v lat ll laws g o lim n1.clock n2.clock → (lim < n1.clock) ⊎ (n1.clock ≤ lim) → Time start e1 e2
          settle (inr h) i = let h0 = h.0 in let h1 = h.1 in ended_late (omega (arith, c1, c2)) (omega (arith, c1, c2)) z
          settle (inl h) (inl i) = ended_late (omega (arith, c1, c2)) (omega (arith, c1, c2)) z
          settle (inl h) (inr i) =
              let i' : n2.clock ≤ lim = omega (arith, c1, c2) in
              let here = x.low i i' in
              let cost = cost_low v lat ll laws g o lim Code (4 * j) m.er m.ew n1 n2 here (ll.chain m.er start o fe low_start) in
              let clocks : q1.clock ≡ q2.clock = omega (arith, c1, c2) in
              let since : s0.clock ≡ s0'.clock = ⊎_elim (λ (e : s0.clock ≡ s0'.clock). e) (λ (e : (lim < s0.clock) × (lim < s0'.clock)). let y = e.0 in
              absurd (omega (arith, c1, c2))) (w.clock low_start) in
              let same = counts_same q1.clock q2.clock n n' s0.clock s0'.clock (n1.misses level) (n2.misses level) clocks (val low_start)
              since (z.misses i i' level e) in
              ended i i' (λ low. same) (λ low. same) w z

      la : (y : Entry) → length (a ++ y ∷ []) ≡ length a + 1
      la y = length-append a (y ∷ [])

      la' : (y : Entry) → length (a' ++ y ∷ []) ≡ length a' + 1
      la' y = length-append a' (y ∷ [])

      high_level : (lat.flows level o ≡ false) → (b b' : Bool) → leb e1.clock lim ≡ b → leb e2.clock lim ≡ b'
          → Both start start s0 e1 s0' e2 (a ++ cond b ((level, count) ∷ []) []) (a' ++ cond b' ((level, count') ∷ []) [])
      high_level e true true by by' =
          let h = leb-true e1.clock lim by in
          let h' = leb-true e2.clock lim by' in
          let i : n1.clock ≤ lim = omega (arith, c1, c2) in
          let i' : n2.clock ≤ lim = omega (arith, c1, c2) in
          let more = x.most i in
          let less = x.least i' in
          let l : length a ≡ length a' = omega (arith, c1, c2) in
          record {
            low = done_low;
            fits = fits_both a a' ((level, count) ∷ []) ((level, count') ∷ []) l x.fits (refl, tt);
            most = λ k. omega (arith, la (level, count), la' (level, count'));
            least = λ k. omega (arith, la (level, count), la' (level, count'));
            timed = λ q w.
                let parts = same_parts a a' ((level, count) ∷ []) ((level, count') ∷ []) l q in
                let z = x.timed parts.0 (begun_timing mark start s0 s0' w) in
                let same : count ≡ count' = only_count (level, count) (level, count') parts.1 in
                ended i i' (λ low. absurd (both_ways (lat.flows level o) e low)) (λ low. same) w z;
          }
      high_level e true false by by' =
          let h = leb-true e1.clock lim by in
          let h' = leb-false e2.clock lim by' in
          let more = x.most (omega (arith, c1, c2)) in
          let l' = ap length (append-nil a') in
          record {
            low = done_low;
            fits = subst (λ z. Fits (a ++ (level, count) ∷ []) z) (sym (append-nil a')) (fits_right a a' ((level, count) ∷ []) more x.fits);
            most = λ k. omega (arith, la (level, count));
            least = λ k. absurd (omega (arith, c1, c2));
            timed = λ q w. let z = ap length q in absurd (omega (arith, la (level, count)));
          }
      high_level e false true by by' =
          let h = leb-false e1.clock lim by in
          let h' = leb-true e2.clock lim by' in
          let less = x.least (omega (arith, c1, c2)) in
          let l = ap length (append-nil a) in
          record {
            low = done_low;
            fits = subst (λ z. Fits z (a' ++ (level, count') ∷ [])) (sym (append-nil a)) (fits_left a a' ((level, count') ∷ []) less x.fits);
            most = λ k. absurd (omega (arith, c1, c2));
            least = λ k. omega (arith, la' (level, count'));
            timed = λ q w. let z = ap length q in absurd (omega (arith, la' (level, count')));
          }
      high_level e false false by by' =
          let h = leb-false e1.clock lim by in
          let h' = leb-false e2.clock lim by' in
          filled start start s0 e1 s0' e2 a a'
          (record {
            low = done_low;
            fits = x.fits;
            most = λ k. absurd (omega (arith, c1, c2));
            least = λ k. absurd (omega (arith, c1, c2));
            timed = λ q w. ended_late h h' (x.timed q (begun_timing mark start s0 s0' w));
          })

      go : (b : Bool) → lat.flows level o ≡ b
          → Both start start s0 e1 s0' e2 (a ++ cond b [] (cond (leb e1.clock lim) ((level, count) ∷ []) []))
          (a' ++ cond b [] (cond (leb e2.clock lim) ((level, count') ∷ []) []))
      go true e =
          filled start start s0 e1 s0' e2 a a'
          (record {
            low = done_low;
            fits = x.fits;
            most = λ k. x.most (omega (arith, c1, c2));
            least = λ k. x.least (omega (arith, c1, c2));
            timed = λ q w. low_level e w (x.timed q (begun_timing mark start s0 s0' w));
          })
      go false e = high_level e (leb e1.clock lim) (leb e2.clock lim) refl refl

  tested_rest : (t end : ℕ) (n : Core E) (m : Marks) (e : Expression) (a : ℕ) → Flows lat t end → SleepWork t end n (tested v m e a n) []
  tested_rest t end n m e a f = quiet_rest t end n (tested v m e a n) f (tested_clock v m e a n) (timed_log v m e a n)

  -- without what is said of the pc
  from_public : (j : Job) (t end : ℕ) → Public j t end → From v lat ll laws g o lim j t end
  from_public (Do p a) t end f = (f.0, f.1, f.2, f.3)
  from_public (Loop m e c a) t end f = (f.0, f.1, f.2, f.3, f.5)

  on : {j : Job} {s s' : Core E} (t end : ℕ) → (d : Runs v lat g lim j s s') → Public j t end → SleepWork t end s s' (record_of v lat g o lim d)
  on {j = j} t end d p = tail v lat ll laws g o lim t end (from_public j t end p) d

  pub two_run : {j : Job} {s1 s1' s2 s2' : Core E} (t end : ℕ) → Public j t end → Same s1 s2 → (d : Runs v lat g lim j s1 s1')
      → (d' : Runs v lat g lim j s2 s2') → Both t end s1 s1' s2 s2' (record_of v lat g o lim d) (record_of v lat g o lim d')
  two_run {s1 = s1} {s2 = s2} t end pub_ h done done =
      record { low = λ i i'. h; fits = tt; most = λ i. omega arith; least = λ i. omega arith; timed = λ e w. subst (λ z. Time z s1 s2) pub_.1 w }
  two_run {s1 = s1} {s2 = s2} t end p h (skip {m = m} {a = a} k) (skip k') =
      let t1 = lat.join t m.er in
      let up = ll.left t m.er in
      quiet_then t t1 end s1 _ _ s2 _ _ _ _
      (λ w. fetched_timing m a t t1 s1 s2 h up (ll.right t m.er) w)
      (two_run t1 end (p.0, p.1.1, p.2, ll.chain p.0 t t1 p.3 up, p.4) (fetched_low v lat ll laws g o lim m a s1 s2 h) k k')
  two_run {s1 = s1} {s2 = s2} t end p h (assign {m = m} {x = x} {e = e} {a = a} k) (assign k') =
      let l = label_of lat g e in
      let fit = fit_of v lat ll laws g o lim p.0 m e p.1.1 p.2.0 in
      let q = parts lat ll g l (index_label lat g e) p.0 t m.er (g x) p.1.0 in
      let h1 = tested_low v lat ll laws g o lim m e a s1 s2 fit h in
      let h2 = touched_low v lat ll laws g o lim m x _ _ h1 in
      let val : Low (g x) → value_of e s1.memory ≡ value_of e s2.memory = λ y. value_low v lat ll laws g o lim e s1 s2 fit.1 h (ll.chain l (g x) o q.value y) in
      quiet_then t (g x) end s1 _ _ s2 _ _ _ _
      (λ w.
      let w1 = tested_timing v lat ll laws g o lim m e a t (g x) s1 s2 fit h q.time q.value q.read w in
      let w2 = touched_timing m x x (g x) (g x) _ _ (λ y. refl) h1 (ll.same (g x)) q.read w1 in
      written_timing v lat ll laws g o lim (g x) x x (g x) (value_of e s1.memory) (value_of e s2.memory) _ _ refl refl (λ y. refl) val w2.clock w2)
      (two_run (g x) end (
        p.0,
        p.1.2,
        p.2.1,
        q.counter,
        p.4,
      ) (written_low v lat ll laws g o lim x (value_of e s1.memory) (value_of e s2.memory) _ _ h2 val) k k')
  two_run {s1 = s1} {s2 = s2} t end p h (put {m = m} {f = f} {n = n} {i = i} {e = e} {a = a} k) (put k') =
      let l = label_of lat g e in
      let j = label_of lat g i in
      let le = index_label lat g e in
      let li = lat.join j le in
      let q = parts lat ll g l li p.0 t m.er (g f) p.1.0 in
      let ew = from_right lat ll g p.0 li m.ew p.1.1 in
      let iw = from_left lat ll g j le m.ew ew in
      let ki = fit_index v lat ll laws g o lim m i iw p.2.0.1 in
      let ke : Fit v lat ll laws g o lim m e = (from_right lat ll g j le m.ew ew, p.2.0.2) in
      let to = from_left lat ll g j le (g f) q.index in
      let x = element f n (value_of i s1.memory) in
      let x' = element f n (value_of i s2.memory) in
      let is = element_label g f n (value_of i s1.memory) p.2.0.0 in
      let is' = element_label g f n (value_of i s2.memory) p.2.0.0 in
      let place : Low j → x ≡ x' = λ y. ap (element f n) (value_low v lat ll laws g o lim i s1 s2 p.2.0.1 h y) in
      let here : Low (g f) → x ≡ x' = λ y. place (ll.chain j (g f) o to y) in
      let val : Low (g f) → value_of e s1.memory ≡ value_of e s2.memory =
      λ y. value_low v lat ll laws g o lim e s1 s2 p.2.0.2 h (ll.chain l (g f) o q.value y) in
      let h1 = reached_low v lat ll laws g o lim m i e a s1 s2 ki ke h in
      let h2 = touched_two v lat ll laws g o lim m j x x' _ _ iw place h1 in
      quiet_then t (g f) end s1 _ _ s2 _ _ _ _
      (λ w.
      let w1 = reached_timing v lat ll laws g o lim m i e a t (g f) s1 s2 ki ke h q.time to q.value q.read w in
      let w2 = touched_timing m x x' (g f) (g f) _ _ here h1 (ll.same (g f)) q.read w1 in
      written_timing v lat ll laws g o lim (g f) x x' (g f) (value_of e s1.memory) (value_of e s2.memory) _ _ is is' here val w2.clock w2)
      (two_run (g f) end (
        p.0,
        p.1.2,
        p.2.1,
        q.counter,
        p.4,
      ) (written_two v lat ll laws g o lim (g f) x x' (value_of e s1.memory) (value_of e s2.memory) _ _ is is' here val h2) k k')
  two_run {s1 = s1} {s2 = s2} t end p h (sleep {m = m} {e = e} {a = a} k) (sleep k') =
      let l = label_of lat g e in
      let fit = fit_of v lat ll laws g o lim p.0 m e p.1.0 p.2.0 in
      let tl = lat.join t l in
      let t1 = lat.join tl m.er in
      let ft = start_flows lat ll g t l m.er in
      let fl = ll.chain l tl t1 (ll.right t l) (ll.left tl m.er) in
      let fe = ll.right tl m.er in
      let h1 = tested_low v lat ll laws g o lim m e a s1 s2 fit h in
      quiet_then t t1 end s1 _ _ s2 _ _ _ _
      (λ w.
      let w1 = tested_timing v lat ll laws g o lim m e a t t1 s1 s2 fit h ft fl fe w in
      record {
        seen = w1.seen;
        misses = λ i i'. w1.misses (omega arith) (omega arith);
        clock = λ low. alike_add v lat ll laws g o lim _ _ _ _ (ap at_least_zero (value_low v lat ll laws g o lim e s1 s2 fit.1 h (ll.chain l t1 o fl low)))
            (w1.clock low);
      })
      (two_run t1 end (p.0, p.1.1, p.2.1, ll.chain p.0 t t1 p.3 ft, p.4) (waited_low v lat ll laws g o lim _ _ _ _ h1) k k')
  two_run {s1 = s1} {s2 = s2} t end p h (if_true {m = m} {e = e} {c = c} {d = d} {a = a} {s1 = n1} w b k) (if_true {s1 = n2} w' b' k') =
      let l = label_of lat g e in
      let fit = fit_of v lat ll laws g o lim p.0 m e p.1.2 p.2.0 in
      let start = lat.join (lat.join t l) m.er in
      let both = lat.join p.1.0 p.1.1 in
      let f = if_facts p.0 t m e c p.1.0 p.1.1 p.3 p.1.3 in
      let s0 = tested v m e a s1 in
      let s0' = tested v m e a s2 in
      let h1 = tested_low v lat ll laws g o lim m e a s1 s2 fit h in
      let rm = raised lat g e m in
      let j = a + expr_size e + 1 + size c in
      let part = guarded l start both s0 (fetched v rm j n1) s0' (fetched v rm j n2) _ _ h1 f.guard_both
      (λ low.
      let x = two_run start p.1.0 (lat.join p.0 l, p.1.3, p.2.1, f.inner, ll.least p.0 l o p.4 low) h1 b b' in
      let to = ll.left p.1.0 p.1.1 in
      then_quiet start p.1.0 both s0 n1 _ s0' n2 _ _ _ (quiet_rest p.1.0 both n1 _ to (omega arith) refl) (quiet_rest p.1.0 both n2 _ to (omega arith) refl) x
      (λ same z. fetched_timing rm j p.1.0 both n1 n2 same to f.raised_both z)
      (λ same. fetched_low v lat ll laws g o lim rm j n1 n2 same))
      (λ high. jump_still l j m s0 n1 high (branch_still p.0 l start p.1.0 j m c _ s0 n1 p.1.3 p.2.1 f.inner high b))
      (λ high. jump_still l j m s0' n2 high (branch_still p.0 l start p.1.0 j m c _ s0' n2 p.1.3 p.2.1 f.inner high b')) in
      quiet_then t start end s1 s0 _ s2 s0' _ _ _
      (tested_timing v lat ll laws g o lim m e a t start s1 s2 fit h f.from_start f.guard_start f.er_start)
      (both_then start both end s0 _ _ s0' _ _ _ _ _ _ (on both end k (p.0, p.1.5, p.2.3, f.pc_both, p.4)) (on both end k' (p.0, p.1.5, p.2.3, f.pc_both, p.4))
      part (λ same. two_run both end (p.0, p.1.5, p.2.3, f.pc_both, p.4) same k k'))
  two_run {s1 = s1} {s2 = s2} t end p h (if_true {m = m} {e = e} {c = c} {d = d} {a = a} {s1 = n1} w b k) (if_false {s1 = n2} w' b' k') =
      let l = label_of lat g e in
      let fit = fit_of v lat ll laws g o lim p.0 m e p.1.2 p.2.0 in
      let start = lat.join (lat.join t l) m.er in
      let both = lat.join p.1.0 p.1.1 in
      let f = if_facts p.0 t m e c p.1.0 p.1.1 p.3 p.1.3 in
      let s0 = tested v m e a s1 in
      let s0' = tested v m e a s2 in
      let h1 = tested_low v lat ll laws g o lim m e a s1 s2 fit h in
      let j = a + expr_size e + 1 + size c in
      let part = guarded l start both s0 (fetched v (raised lat g e m) j n1) s0' n2 _ _ h1 f.guard_both
      (λ low. absurd (one_guard e s1 s2 fit.1 h low w w'))
      (λ high. jump_still l j m s0 n1 high (branch_still p.0 l start p.1.0 j m c _ s0 n1 p.1.3 p.2.1 f.inner high b))
      (λ high. branch_still p.0 l start p.1.1 j m d _ s0' n2 p.1.4 p.2.2 f.inner high b') in
      quiet_then t start end s1 s0 _ s2 s0' _ _ _
      (tested_timing v lat ll laws g o lim m e a t start s1 s2 fit h f.from_start f.guard_start f.er_start)
      (both_then start both end s0 _ _ s0' _ _ _ _ _ _ (on both end k (p.0, p.1.5, p.2.3, f.pc_both, p.4)) (on both end k' (p.0, p.1.5, p.2.3, f.pc_both, p.4))
      part (λ same. two_run both end (p.0, p.1.5, p.2.3, f.pc_both, p.4) same k k'))
  two_run {s1 = s1} {s2 = s2} t end p h (if_false {m = m} {e = e} {c = c} {d = d} {a = a} {s1 = n1} w b k) (if_true {s1 = n2} w' b' k') =
      let l = label_of lat g e in
      let fit = fit_of v lat ll laws g o lim p.0 m e p.1.2 p.2.0 in
      let start = lat.join (lat.join t l) m.er in
      let both = lat.join p.1.0 p.1.1 in
      let f = if_facts p.0 t m e c p.1.0 p.1.1 p.3 p.1.3 in
      let s0 = tested v m e a s1 in
      let s0' = tested v m e a s2 in
      let h1 = tested_low v lat ll laws g o lim m e a s1 s2 fit h in
      let j = a + expr_size e + 1 + size c in
      let part = guarded l start both s0 n1 s0' (fetched v (raised lat g e m) j n2) _ _ h1 f.guard_both
      (λ low. absurd (one_guard e s2 s1 fit.1 (mirrored s1 s2 h) low w' w))
      (λ high. branch_still p.0 l start p.1.1 j m d _ s0 n1 p.1.4 p.2.2 f.inner high b)
      (λ high. jump_still l j m s0' n2 high (branch_still p.0 l start p.1.0 j m c _ s0' n2 p.1.3 p.2.1 f.inner high b')) in
      quiet_then t start end s1 s0 _ s2 s0' _ _ _
      (tested_timing v lat ll laws g o lim m e a t start s1 s2 fit h f.from_start f.guard_start f.er_start)
      (both_then start both end s0 _ _ s0' _ _ _ _ _ _ (on both end k (p.0, p.1.5, p.2.3, f.pc_both, p.4)) (on both end k' (p.0, p.1.5, p.2.3, f.pc_both, p.4))
      part (λ same. two_run both end (p.0, p.1.5, p.2.3, f.pc_both, p.4) same k k'))
  two_run {s1 = s1} {s2 = s2} t end p h (if_false {m = m} {e = e} {c = c} {d = d} {a = a} {s1 = n1} w b k) (if_false {s1 = n2} w' b' k') =
      let l = label_of lat g e in
      let fit = fit_of v lat ll laws g o lim p.0 m e p.1.2 p.2.0 in
      let start = lat.join (lat.join t l) m.er in
      let both = lat.join p.1.0 p.1.1 in
      let f = if_facts p.0 t m e c p.1.0 p.1.1 p.3 p.1.3 in
      let s0 = tested v m e a s1 in
      let s0' = tested v m e a s2 in
      let h1 = tested_low v lat ll laws g o lim m e a s1 s2 fit h in
      let part = guarded l start both s0 n1 s0' n2 _ _ h1 f.guard_both
      (λ low.
      let x = two_run start p.1.1 (lat.join p.0 l, p.1.4, p.2.2, f.inner, ll.least p.0 l o p.4 low) h1 b b' in
      let to = ll.right p.1.0 p.1.1 in
      then_quiet start p.1.1 both s0 n1 _ s0' n2 _ _ _ (quiet_rest p.1.1 both n1 n1 to (omega arith) refl) (quiet_rest p.1.1 both n2 n2 to (omega arith) refl) x
      (λ same z. later p.1.1 both n1 n2 to z) (λ same. same))
      (λ high. branch_still p.0 l start p.1.1 0 m d _ s0 n1 p.1.4 p.2.2 f.inner high b)
      (λ high. branch_still p.0 l start p.1.1 0 m d _ s0' n2 p.1.4 p.2.2 f.inner high b') in
      quiet_then t start end s1 s0 _ s2 s0' _ _ _
      (tested_timing v lat ll laws g o lim m e a t start s1 s2 fit h f.from_start f.guard_start f.er_start)
      (both_then start both end s0 _ _ s0' _ _ _ _ _ _ (on both end k (p.0, p.1.5, p.2.3, f.pc_both, p.4)) (on both end k' (p.0, p.1.5, p.2.3, f.pc_both, p.4))
      part (λ same. two_run both end (p.0, p.1.5, p.2.3, f.pc_both, p.4) same k k'))
  two_run {s1 = s1} {s2 = s2} t end p h (while_none {m = m} {e = e} {c = c} {a = a} w k) (while_none w' k') =
      let l = label_of lat g e in
      let fit = fit_of v lat ll laws g o lim p.0 m e p.1.1 p.2.0 in
      let t' = p.1.0 in
      let f = while_facts p.0 t m l t' p.3 p.1.2 in
      let s0 = tested v m e a s1 in
      let s0' = tested v m e a s2 in
      let h1 = tested_low v lat ll laws g o lim m e a s1 s2 fit h in
      let part = guarded l t' t' s0 s0 s0' s0' [] [] h1 f.guard_start (λ low. record {
        low = λ i i'. h1;
        fits = tt;
        most = λ i. omega arith;
        least =
            λ i. omega arith;
        timed = λ q z. z;
      }) (λ high. unmoved s0) (λ high. unmoved s0') in
      quiet_then t t' end s1 s0 _ s2 s0' _ _ _
      (tested_timing v lat ll laws g o lim m e a t t' s1 s2 fit h f.from_start f.guard_start f.er_start)
      (both_then t' t' end s0 s0 _ s0' s0' _ _ _ _ _ (on t' end k (p.0, p.1.4, p.2.2, f.pc_both, p.4)) (on t' end k' (p.0, p.1.4, p.2.2, f.pc_both, p.4)) part
      (λ same. two_run t' end (p.0, p.1.4, p.2.2, f.pc_both, p.4) same k k'))
  two_run {s1 = s1} {s2 = s2} t end p h (while_none {m = m} {e = e} {c = c} {a = a} w k) (while_some {s1 = n2} w' b' k') =
      let l = label_of lat g e in
      let fit = fit_of v lat ll laws g o lim p.0 m e p.1.1 p.2.0 in
      let t' = p.1.0 in
      let f = while_facts p.0 t m l t' p.3 p.1.2 in
      let s0 = tested v m e a s1 in
      let s0' = tested v m e a s2 in
      let h1 = tested_low v lat ll laws g o lim m e a s1 s2 fit h in
      let part = guarded l t' t' s0 s0 s0' n2 [] _ h1 f.guard_start (λ low. absurd (one_guard e s2 s1 fit.1 (mirrored s1 s2 h) low w' w)) (λ high. unmoved s0)
      (λ high. loop_still p.0 t' m e c _ s0' n2 p.1.3 p.2.1 f.inner high b') in
      quiet_then t t' end s1 s0 _ s2 s0' _ _ _
      (tested_timing v lat ll laws g o lim m e a t t' s1 s2 fit h f.from_start f.guard_start f.er_start)
      (both_then t' t' end s0 s0 _ s0' n2 _ _ _ _ _ (on t' end k (p.0, p.1.4, p.2.2, f.pc_both, p.4)) (on t' end k' (p.0, p.1.4, p.2.2, f.pc_both, p.4)) part
      (λ same. two_run t' end (p.0, p.1.4, p.2.2, f.pc_both, p.4) same k k'))
  two_run {s1 = s1} {s2 = s2} t end p h (while_some {m = m} {e = e} {c = c} {a = a} {s1 = n1} w b k) (while_none w' k') =
      let l = label_of lat g e in
      let fit = fit_of v lat ll laws g o lim p.0 m e p.1.1 p.2.0 in
      let t' = p.1.0 in
      let f = while_facts p.0 t m l t' p.3 p.1.2 in
      let s0 = tested v m e a s1 in
      let s0' = tested v m e a s2 in
      let h1 = tested_low v lat ll laws g o lim m e a s1 s2 fit h in
      let part = guarded l t' t' s0 n1 s0' s0' _ [] h1 f.guard_start (λ low. absurd (one_guard e s1 s2 fit.1 h low w w'))
      (λ high. loop_still p.0 t' m e c _ s0 n1 p.1.3 p.2.1 f.inner high b) (λ high. unmoved s0') in
      quiet_then t t' end s1 s0 _ s2 s0' _ _ _
      (tested_timing v lat ll laws g o lim m e a t t' s1 s2 fit h f.from_start f.guard_start f.er_start)
      (both_then t' t' end s0 n1 _ s0' s0' _ _ _ _ _ (on t' end k (p.0, p.1.4, p.2.2, f.pc_both, p.4)) (on t' end k' (p.0, p.1.4, p.2.2, f.pc_both, p.4)) part
      (λ same. two_run t' end (p.0, p.1.4, p.2.2, f.pc_both, p.4) same k k'))
  two_run {s1 = s1} {s2 = s2} t end p h (while_some {m = m} {e = e} {c = c} {a = a} {s1 = n1} w b k) (while_some {s1 = n2} w' b' k') =
      let l = label_of lat g e in
      let fit = fit_of v lat ll laws g o lim p.0 m e p.1.1 p.2.0 in
      let t' = p.1.0 in
      let f = while_facts p.0 t m l t' p.3 p.1.2 in
      let s0 = tested v m e a s1 in
      let s0' = tested v m e a s2 in
      let h1 = tested_low v lat ll laws g o lim m e a s1 s2 fit h in
      let part = guarded l t' t' s0 n1 s0' n2 _ _ h1 f.guard_start
      (λ low. two_run t' t' (lat.join p.0 l, p.1.3, p.2.1, f.inner, ll.least p.0 l o p.4 low, refl, f.guard_start, f.er_start, fit, low) h1 b b')
      (λ high. loop_still p.0 t' m e c _ s0 n1 p.1.3 p.2.1 f.inner high b)
      (λ high. loop_still p.0 t' m e c _ s0' n2 p.1.3 p.2.1 f.inner high b') in
      quiet_then t t' end s1 s0 _ s2 s0' _ _ _
      (tested_timing v lat ll laws g o lim m e a t t' s1 s2 fit h f.from_start f.guard_start f.er_start)
      (both_then t' t' end s0 n1 _ s0' n2 _ _ _ _ _ (on t' end k (p.0, p.1.4, p.2.2, f.pc_both, p.4)) (on t' end k' (p.0, p.1.4, p.2.2, f.pc_both, p.4)) part
      (λ same. two_run t' end (p.0, p.1.4, p.2.2, f.pc_both, p.4) same k k'))
  two_run {s1 = s1} {s2 = s2} t end p h (mitigate {m = m} {k = mark} {l = level} {e = e} {c = c} {a = a} {s1 = n1} b k) (mitigate {s1 = n2} b' k') =
      let l = label_of lat g e in
      let fit = fit_of v lat ll laws g o lim p.0 m e p.1.1 p.2.0 in
      let start = lat.join (lat.join t l) m.er in
      let f = start_facts p.0 t l m start p.3 (ll.same start) in
      let s0 = tested v m e a s1 in
      let s0' = tested v m e a s2 in
      let h1 = tested_low v lat ll laws g o lim m e a s1 s2 fit h in
      let x = two_run start p.1.0 (p.0, p.1.2, p.2.1, f.pc_both, p.4) (begun_low mark s0 s0' h1) b b' in
      let whole = close_both m mark level start p.1.0 (a + expr_size e + 1 + size c) (value_of e s1.memory) (value_of e s2.memory) s0 n1 s0' n2 _ _ f.er_start
      (flows_to_end lat ll g c p.0 start p.1.0 f.pc_both p.1.2) p.1.3
      (λ low. value_low v lat ll laws g o lim e s1 s2 fit.1 h (ll.chain l start o f.guard_start low)) (grows_run v lat g o lim b).clock
      (grows_run v lat g o lim b').clock x in
      quiet_then t start end s1 s0 _ s2 s0' _ _ _
      (tested_timing v lat ll laws g o lim m e a t start s1 s2 fit h f.from_start f.guard_start f.er_start)
      (both_then start start end s0 _ _ s0' _ _ _ _ _ _ (on start end k (p.0, p.1.4, p.2.2, f.pc_both, p.4)) (on start end k' (
        p.0,
        p.1.4,
        p.2.2,
        f.pc_both,
        p.4,
      )) whole (λ same. two_run start end (p.0, p.1.4, p.2.2, f.pc_both, p.4) same k k'))
  two_run {s1 = s1} {s2 = s2} t end p h (last {m = m} {e = e} {c = c} {a = a} {s1 = n1} b w) (last {s1 = n2} b' w') =
      let x = two_run t t (p.0, p.1, p.2, p.3, p.4) h b b' in
      let rm = raised lat g e m in
      let q = a + size c in
      at_end t end s1 _ s2 _ _ _ p.5
      (then_quiet t t t s1 n1 _ s2 n2 _ _ _ (tested_rest t t n1 rm e q (ll.same t)) (tested_rest t t n2 rm e q (ll.same t)) x
      (λ same. tested_timing v lat ll laws g o lim rm e q t t n1 n2 (fit_raised v lat ll laws g o lim m e p.8) same (ll.same t) p.6
      (ll.least m.er (label_of lat g e) t p.7 p.6))
      (λ same. tested_low v lat ll laws g o lim rm e q n1 n2 (fit_raised v lat ll laws g o lim m e p.8) same))
  two_run {s1 = s1} {s2 = s2} t end p h (last {m = m} {e = e} {c = c} {a = a} {s1 = n1} b w) (again {s1 = n2} b' w' k') =
      let x = two_run t t (p.0, p.1, p.2, p.3, p.4) h b b' in
      let rm = raised lat g e m in
      let q = a + size c in
      emptied_left t end s1 _ s2 _ _ _
      (both_then t t end s1 n1 _ s2 n2 _ _ _ [] _ (tested_rest t end n1 rm e q (subst (λ z. Flows lat t z) p.5 (ll.same t)))
      (rest_after t end n2 _ _ _ (tested_clock v rm e q n2) (timed_log v rm e q n2) (on t end k' p)) x
      (λ same. absurd (one_guard e n2 n1 p.8.1 (mirrored n1 n2 same) p.9 w' w)))
  two_run {s1 = s1} {s2 = s2} t end p h (again {m = m} {e = e} {c = c} {a = a} {s1 = n1} b w k) (last {s1 = n2} b' w') =
      let x = two_run t t (p.0, p.1, p.2, p.3, p.4) h b b' in
      let rm = raised lat g e m in
      let q = a + size c in
      emptied_right t end s1 _ s2 _ _ _
      (both_then t t end s1 n1 _ s2 n2 _ _ _ _ [] (rest_after t end n1 _ _ _ (tested_clock v rm e q n1) (timed_log v rm e q n1) (on t end k p))
      (tested_rest t end n2 rm e q (subst (λ z. Flows lat t z) p.5 (ll.same t))) x
      (λ same. absurd (one_guard e n1 n2 p.8.1 same p.9 w w')))
  two_run {s1 = s1} {s2 = s2} t end p h (again {m = m} {e = e} {c = c} {a = a} {s1 = n1} b w k) (again {s1 = n2} b' w' k') =
      let x = two_run t t (p.0, p.1, p.2, p.3, p.4) h b b' in
      let rm = raised lat g e m in
      let q = a + size c in
      both_then t t end s1 n1 _ s2 n2 _ _ _ _ _ (rest_after t end n1 _ _ _ (tested_clock v rm e q n1) (timed_log v rm e q n1) (on t end k p))
      (rest_after t end n2 _ _ _ (tested_clock v rm e q n2) (timed_log v rm e q n2) (on t end k' p)) x
      (λ same. quiet_then t t end n1 _ _ n2 _ _ _ _
      (tested_timing v lat ll laws g o lim rm e q t t n1 n2 (fit_raised v lat ll laws g o lim m e p.8) same (ll.same t) p.6
      (ll.least m.er (label_of lat g e) t p.7 p.6))
      (two_run t end p (tested_low v lat ll laws g o lim rm e q n1 n2 (fit_raised v lat ll laws g o lim m e p.8) same) k k'))
  two_run {s1 = s1} {s2 = s2} t end p h (late x) d' = cut_left t end s1 s2 _ _ x (on t end d' p)
  two_run {s1 = s1} {s2 = s2} t end p h d (late x) = cut_right t end s1 _ s2 _ x (on t end d p)
