-- Replays, an entry at a time.
use Rattle.std.proofs.Common.{◌≡◌, ◌<◌, ◌≤◌, ◌+◌, ◌-◌, ℕ, zero, suc, List, [], ◌∷◌, ◌++◌, sym, ap, subst, ◌∙◌, arith, refl, length, take, drop, get_or}
use Rattle.std.proofs.Common.{add-one, append_assoc, append-nil, drop-cons}
use Rattle.std.specs.Prelude.{ℤ, replicate, map, reverse, Option, None, Bool, true, false, cond, slice_set, slice_index}
use Rattle.std.proofs.lemmas.List.{drop_all, map-append}
use Rattle.std.proofs.Math.Path.{fun_ext}
use Rattle.label_lattice.specs.Order.{most_labels}
use Rattle.doubling_schedule.specs.Doubling.{prediction, misses_after}
use Rattle.label_code.specs.Machine.{Opened, Event, Ended}
use Rattle.first_replay.specs.Replay.{What, Nothing, Pushed, Assigned, Opens, Closes, Entry, Timed, after, close_timed, replay}
use Rattle.run_entries.specs.declared.entry.Deed.{Deed}
use Rattle.run_entries.specs.declared.replay.Replay.{Replay}
use Rattle.run_entries.specs.declared.entry.Begun.{Begun}
use Rattle.run_entries.specs.declared.entry.Entry.{Entry as Line}
use Rattle.run_entries.specs.declared.event.Event.{Event as Noted}
use Rattle.run_entries.specs.declared.event.Event.TheVariants as kept
use Rattle.run_entries.specs.Entries.{what_of, entry_of, entries_of}
use Rattle.run_entries.specs.Told.{every, is_marked, told_at, counts_told, at_start, replayed, told}
use Rattle.run_entries.specs.Views.{counts, opened_of, event_of, timed_of, Went, Goes, IsReplay}
use Rattle.run_entries.proofs.Closing.{timed, closes_later, last_opened, closed_is, count_is}

-- no entry ends before its own cycles have passed
pub after_later : (numbers : ℕ → ℤ) (w : What) (c : ℕ) (t : Timed) → c ≤ (after numbers w c t).clock
after_later numbers Nothing c t = omega arith
after_later numbers (Pushed a) c t = omega arith
after_later numbers (Assigned x n) c t = omega arith
after_later numbers (Opens n l k) c t = omega arith
after_later numbers Closes c t = closes_later t.opened c t

-- no replay goes back in time
pub replay_later : (numbers : ℕ → ℤ) (es : List Entry) (t : Timed) → t.clock ≤ (replay numbers es t).clock
replay_later numbers [] t = omega arith
replay_later numbers (e ∷ es) t =
    let h = after_later numbers e.what (t.clock + e.cost) t in
    let g = replay_later numbers es (after numbers e.what (t.clock + e.cost) t) in
    omega (arith, h, g)

-- the same of an entry, and of the clock after its cycles
pub went_for : (numbers : ℕ → ℤ) (marked : List Bool) (d : Deed) (w : What) (c c' limit : ℕ) (old new : Replay) → what_of d ≡ w → c' ≡ c →
    Went numbers marked w c' limit old new →
    Went numbers marked (what_of d) c limit old new
went_for numbers marked d w c c' limit old new e f h =
    subst (λ z. Went numbers marked z c limit old new) (sym e) (subst (λ z. Went numbers marked w z limit old new) f h)

none_counted : (n : ℕ) (l : ℕ) → counts (replicate n 0) l ≡ 0
none_counted zero l = refl
none_counted (suc n) zero = refl
none_counted (suc n) (suc l) = none_counted n l

pub none_missed : (ms : List ℕ) → ms ≡ replicate most_labels 0 → counts ms ≡ (λ l. 0)
none_missed ms e = ap counts e ∙ fun_ext (none_counted most_labels)

timed_same : (c c' : ℕ) (ms ms' : List ℕ) (os os' : List Begun) (log log' : List Event) (l l' : Option ℕ) → c ≡ c' → ms ≡ ms' → os ≡ os' → log ≡ log' →
    l ≡ l' → timed c ms os log l ≡ timed c' ms' os' log' l'
timed_same c c' ms ms' os os' log log' l l' e f g h i =
    ap (λ z. timed z ms os log l) e
    ∙ (ap (λ z. timed c' z os log l) f ∙ (ap (λ z. timed c' ms' z log l) g ∙ (ap (λ z. timed c' ms' os' z l) h ∙ ap (λ z. timed c' ms' os' log' z) i)))

-- the mitigation that was opened last has ended
pub close_went : (numbers : ℕ → ℤ) (marked : List Bool) (clock limit : ℕ) (old new : Replay) (rest : List Begun) (o : Begun) (est : ℤ) (elapsed p : ℕ) →
    old.opened.items ≡ rest ++ o ∷ [] → o.level.number < length old.misses → est ≡ o.estimate → elapsed ≡ clock - o.since →
    new.misses ≡ slice_set old.misses o.level.number (misses_after est elapsed (slice_index old.misses o.level.number)) →
    p ≡ prediction est (slice_index new.misses o.level.number) →
    new.clock ≡ o.since + p → new.opened.items ≡ rest → new.log.items ≡ old.log.items ++ kept.Ended o.mark new.clock ∷ [] →
    new.counts.items ≡ old.counts.items ++ slice_index new.misses o.level.number ∷ [] →
    new.shown.items ≡ old.shown.items ++ cond (is_marked marked o.mark) (slice_index new.misses o.level.number ∷ []) [] → new.pushed ≡ None →
    new.clock ≤ limit →
    Went numbers marked Closes clock limit old new
close_went numbers marked clock limit old new rest o est elapsed p i l n d t q c os log cs ss last w =
    let written : map event_of new.log.items ≡ map event_of old.log.items ++ Ended o.mark (o.since + p) ∷ [] =
    ap (map event_of) log
    ∙ (map-append event_of old.log.items (kept.Ended o.mark new.clock ∷ []) ∙ ap (λ z. map event_of old.log.items ++ Ended o.mark z ∷ []) c) in
    let count = count_is old.misses new.misses o.level.number est elapsed o.estimate (clock - o.since) l n d t in
    let is : map opened_of (reverse old.opened.items) ≡ opened_of o ∷ map opened_of (reverse rest) =
    ap (λ z. map opened_of (reverse z)) i ∙ last_opened rest o in
    record {
      timed = timed_same new.clock (o.since + p) new.misses new.misses new.opened.items rest (map event_of new.log.items)
          (map event_of old.log.items ++ Ended o.mark (o.since + p) ∷ []) new.pushed None c refl os written last
          ∙ sym (closed_is old.opened.items rest o est elapsed old.misses new.misses old.clock clock p (map event_of old.log.items) old.pushed i l n d t q);
      counts = cs
          ∙ (ap (λ z. old.counts.items ++ z ∷ []) count
          ∙ ap (λ z. old.counts.items ++ told_at every Closes clock (timed_of old) z) (sym is));
      shown = ss
          ∙ (ap (λ z. old.shown.items ++ cond (is_marked marked o.mark) (z ∷ []) []) count
          ∙ ap (λ z. old.shown.items ++ told_at (is_marked marked) Closes clock (timed_of old) z) (sym is));
      within = w;
    }

-- it would end after the limit
pub close_late : (numbers : ℕ → ℤ) (clock limit : ℕ) (old : Replay) (rest : List Begun) (o : Begun) (est : ℤ) (elapsed p : ℕ) (ms' : List ℕ) →
    old.opened.items ≡ rest ++ o ∷ [] → o.level.number < length old.misses → est ≡ o.estimate → elapsed ≡ clock - o.since →
    ms' ≡ slice_set old.misses o.level.number (misses_after est elapsed (slice_index old.misses o.level.number)) →
    p ≡ prediction est (slice_index ms' o.level.number) → limit < o.since + p → limit < (after numbers Closes clock (timed_of old)).clock
close_late numbers clock limit old rest o est elapsed p ms' i l n d t q h =
    subst (λ z. limit < z.clock)
    (sym (closed_is old.opened.items rest o est elapsed old.misses ms' old.clock clock p (map event_of old.log.items) old.pushed i l n d t q)) h

-- none is open
none_open : (n : ℕ) (xs ys : List Begun) → n ≡ 0 → ys ≡ take (n - 1) xs → xs ≡ ys ++ [] → (xs ≡ []) × (ys ≡ [])
none_open n xs ys e f g =
    let y : ys ≡ [] = f ∙ ap (λ m. take (m - 1) xs) e in
    (g ∙ ap (λ z. z ++ []) y, y)

pub close_none : (numbers : ℕ → ℤ) (marked : List Bool) (clock limit n : ℕ) (old new : Replay) → n ≡ 0 → new.opened.items ≡ take (n - 1) old.opened.items →
    old.opened.items ≡ new.opened.items ++ [] → new.clock ≡ clock → new.misses ≡ old.misses → new.log.items ≡ old.log.items →
    new.counts.items ≡ old.counts.items → new.shown.items ≡ old.shown.items → new.pushed ≡ None → clock ≤ limit → Went numbers marked Closes clock
    limit old new
close_none numbers marked clock limit n old new e f g c ms log cs ss last w =
    let none = none_open n old.opened.items new.opened.items e f g in
    record {
      timed = timed_same new.clock clock new.misses old.misses new.opened.items [] (map event_of new.log.items) (map event_of old.log.items) new.pushed None
          c ms none.1 (ap (map event_of) log) last
          ∙ ap (λ z. close_timed (map opened_of (reverse z)) clock (timed old.clock old.misses z (map event_of old.log.items) old.pushed)) (sym none.0);
      counts = cs
          ∙ (sym (append-nil old.counts.items)
          ∙ ap (λ z. old.counts.items ++ told_at every Closes clock (timed_of old) (map opened_of (reverse z))) (sym none.0));
      shown = ss
          ∙ (sym (append-nil old.shown.items)
          ∙ ap (λ z. old.shown.items ++ told_at (is_marked marked) Closes clock (timed_of old) (map opened_of (reverse z))) (sym none.0));
      within = omega (arith, c, w);
    }

-- a replay on its way: what is left to be replayed from here comes to the whole
pub record Replaying (numbers : ℕ → ℤ) (marked : List Bool) (es : List Line) (limit i : ℕ) (r : Replay) : Type 0 where
  pub timed : replayed numbers (entries_of es) ≡ replay numbers (entries_of (drop i es)) (timed_of r)
  pub counts : told every numbers (entries_of es) ≡ r.counts.items ++ counts_told every numbers (entries_of (drop i es)) (timed_of r)
  pub shown : told (is_marked marked) numbers (entries_of es)
      ≡ r.shown.items ++ counts_told (is_marked marked) numbers (entries_of (drop i es)) (timed_of r)
  pub within : r.clock ≤ limit

told_first : (such : ℕ → Bool) (numbers : ℕ → ℤ) (es : List Line) (r : Replay) (cs : List ℕ) → timed_of r ≡ at_start → cs ≡ [] →
    told such numbers (entries_of es) ≡ cs ++ counts_told such numbers (entries_of es) (timed_of r)
told_first such numbers es r cs e f =
    ap (λ z. counts_told such numbers (entries_of es) z) (sym e) ∙ ap (λ z. z ++ counts_told such numbers (entries_of es) (timed_of r)) (sym f)

pub begins : (numbers : ℕ → ℤ) (marked : List Bool) (es : List Line) (limit : ℕ) (r : Replay) → timed_of r ≡ at_start → r.counts.items ≡ [] →
    r.shown.items ≡ [] → r.clock ≡ 0 →
    Replaying numbers marked es limit 0 r
begins numbers marked es limit r e f g c =
    record {
      timed = ap (λ z. replay numbers (entries_of es) z) (sym e);
      counts = told_first every numbers es r r.counts.items e f;
      shown = told_first (is_marked marked) numbers es r r.shown.items e g;
      within = omega (arith, c);
    }

next_is : (es : List Line) (i : ℕ) (e : Line) → i < length es → e ≡ get_or es i e → drop i es ≡ e ∷ drop (i + 1) es
next_is es i e lt is = drop-cons es i e lt ∙ (ap (λ z. z ∷ drop (suc i) es) (sym is) ∙ ap (λ n. e ∷ drop n es) (sym (add-one i)))

-- the counts of one entry more
told_more : (such : ℕ → Bool) (numbers : ℕ → ℤ) (w : What) (cost : ℕ) (now rest : List Entry) (old new : Replay) (all cs ds : List ℕ) →
    now ≡ record { cost = cost; what = w } ∷ rest → all ≡ cs ++ counts_told such numbers now (timed_of old) →
    timed_of new ≡ after numbers w (old.clock + cost) (timed_of old) →
    ds ≡ cs ++ told_at such w (old.clock + cost) (timed_of old) (timed_of old).opened → all ≡ ds ++ counts_told such numbers rest (timed_of new)
told_more such numbers w cost now rest old new all cs ds next h timed more =
    let here : List ℕ = told_at such w (old.clock + cost) (timed_of old) (timed_of old).opened in
    h
    ∙ (ap (λ z. cs ++ counts_told such numbers z (timed_of old)) next
    ∙ (ap (λ z. cs ++ (here ++ counts_told such numbers rest z)) (sym timed)
    ∙ (sym (append_assoc cs here (counts_told such numbers rest (timed_of new)))
    ∙ ap (λ z. z ++ counts_told such numbers rest (timed_of new)) (sym more))))

pub goes_on : (numbers : ℕ → ℤ) (marked : List Bool) (es : List Line) (limit i : ℕ) (e : Line) (old new : Replay) (went : Bool) → i < length es →
    e ≡ get_or es i e → went ≡ true →
    Goes went numbers marked (what_of e.deed) (old.clock + e.cost) limit old new → Replaying numbers marked es limit i old →
    Replaying numbers marked es limit (i + 1) new
goes_on numbers marked es limit i e old new went lt is b g h =
    let rest : List Entry = entries_of (drop (i + 1) es) in
    let w : Went numbers marked (what_of e.deed) (old.clock + e.cost) limit old new =
    subst (λ z. Goes z numbers marked (what_of e.deed) (old.clock + e.cost) limit old new) b g in
    let next : entries_of (drop i es) ≡ entry_of e ∷ rest = ap entries_of (next_is es i e lt is) in
    record {
      timed = h.timed
          ∙ (ap (λ z. replay numbers z (timed_of old)) next
          ∙ ap (λ z. replay numbers rest z) (sym w.timed));
      counts = told_more every numbers (what_of e.deed) e.cost (entries_of (drop i es)) rest old new (told every numbers (entries_of es))
          old.counts.items new.counts.items next h.counts w.timed w.counts;
      shown = told_more (is_marked marked) numbers (what_of e.deed) e.cost (entries_of (drop i es)) rest old new
          (told (is_marked marked) numbers (entries_of es)) old.shown.items new.shown.items next h.shown w.timed w.shown;
      within = w.within;
    }

pub goes_late : (numbers : ℕ → ℤ) (marked : List Bool) (es : List Line) (limit i : ℕ) (e : Line) (old new : Replay) (went : Bool) → i < length es →
    e ≡ get_or es i e →
    went ≡ false →
    Goes went numbers marked (what_of e.deed) (old.clock + e.cost) limit old new → Replaying numbers marked es limit i old →
    limit < (replayed numbers (entries_of es)).clock
goes_late numbers marked es limit i e old new went lt is b g h =
    let rest : List Entry = entries_of (drop (i + 1) es) in
    let w : limit < (after numbers (what_of e.deed) (old.clock + e.cost) (timed_of old)).clock =
    subst (λ z. Goes z numbers marked (what_of e.deed) (old.clock + e.cost) limit old new) b g in
    let next : entries_of (drop i es) ≡ entry_of e ∷ rest = ap entries_of (next_is es i e lt is) in
    let all : replayed numbers (entries_of es) ≡ replay numbers rest (after numbers (what_of e.deed) (old.clock + e.cost) (timed_of old)) =
    h.timed ∙ ap (λ z. replay numbers z (timed_of old)) next in
    let later = replay_later numbers rest (after numbers (what_of e.deed) (old.clock + e.cost) (timed_of old)) in
    subst (λ z. limit < z.clock) (sym all) (omega (arith, w, later))

told_last : (such : ℕ → Bool) (numbers : ℕ → ℤ) (es : List Line) (i : ℕ) (r : Replay) (all cs : List ℕ) → drop i es ≡ [] →
    all ≡ cs ++ counts_told such numbers (entries_of (drop i es)) (timed_of r) → cs ≡ all
told_last such numbers es i r all cs none h =
    sym (h ∙ (ap (λ z. cs ++ counts_told such numbers (entries_of z) (timed_of r)) none ∙ append-nil cs))

pub goes_to_the_end : (numbers : ℕ → ℤ) (marked : List Bool) (es : List Line) (limit i : ℕ) (r : Replay) → length es ≤ i →
    Replaying numbers marked es limit i r →
    IsReplay numbers marked (entries_of es) limit r
goes_to_the_end numbers marked es limit i r le h =
    let none : drop i es ≡ [] = drop_all i es le in
    record {
      timed = sym (h.timed ∙ ap (λ z. replay numbers (entries_of z) (timed_of r)) none);
      counts = told_last every numbers es i r (told every numbers (entries_of es)) r.counts.items none h.counts;
      shown = told_last (is_marked marked) numbers es i r (told (is_marked marked) numbers (entries_of es)) r.shown.items none h.shown;
      within = h.within;
    }

-- the beginning of a replay
pub starts : (ms : List ℕ) (os : List Begun) (log : List Noted) → ms ≡ replicate most_labels 0 → os ≡ [] → log ≡ [] →
    timed 0 ms os (map event_of log) None ≡ at_start
starts ms os log e f g =
    timed_same 0 0 ms ms os [] (map event_of log) [] None None refl refl f (ap (map event_of) g) refl
    ∙ ap (λ z. record { clock = 0; misses = z; opened = []; log = []; last = None }) (none_missed ms e)
