-- The miss counts of all mitigations are the same exactly where each one's is, and then so are those of any of them.
use Rattle.std.proofs.Common.{◌≡◌, ℕ, ◌+◌, ◌-◌, List, [], ◌∷◌, ◌++◌, ap, ◌∙◌, refl}
use Rattle.std.specs.Prelude.{ℤ, Bool, cond}
use Rattle.doubling_schedule.specs.Doubling.{misses_after}
use Rattle.label_code.specs.Machine.{Opened}
use Rattle.first_replay.specs.Replay.{What, Nothing, Pushed, Assigned, Opens, Closes, Entry, Timed, after, close_timed}
use Rattle.first_replay.specs.Lower.{SameCount, SameCounts}
use Rattle.run_entries.specs.Told.{every, told_at, counts_told}

-- as many mitigations are open, with the same marks
abbrev pub SameMarks : List Opened → List Opened → Type 0
SameMarks [] [] = Unit {0}
SameMarks [] (p ∷ ps) = ⊥
SameMarks (o ∷ os) [] = ⊥
SameMarks (o ∷ os) (p ∷ ps) = (o.mark ≡ p.mark) × SameMarks os ps

pub marks_themselves : (os : List Opened) → SameMarks os os
marks_themselves [] = tt
marks_themselves (o ∷ os) = (refl, marks_themselves os)

close_marks : (os ps : List Opened) (c d : ℕ) (t u : Timed) → SameMarks os ps → SameMarks (close_timed os c t).opened (close_timed ps d u).opened
close_marks [] [] c d t u h = tt
close_marks [] (p ∷ ps) c d t u h = absurd h
close_marks (o ∷ os) [] c d t u h = absurd h
close_marks (o ∷ os) (p ∷ ps) c d t u h = h.1

marks_after : (a b : ℕ → ℤ) (w : What) (c d : ℕ) (t u : Timed) → SameMarks t.opened u.opened → SameMarks (after a w c t).opened (after b w d u).opened
marks_after a b Nothing c d t u h = h
marks_after a b (Pushed p) c d t u h = h
marks_after a b (Assigned x n) c d t u h = h
marks_after a b (Opens n l k) c d t u h = (refl, h)
marks_after a b Closes c d t u h = close_marks t.opened u.opened c d t u h

closes_told : (c d : ℕ) (t u : Timed) (os ps : List Opened) (xs ys : List ℕ) → SameMarks os ps →
    told_at every Closes c t os ++ xs ≡ told_at every Closes d u ps ++ ys →
    SameCount Closes c d t u os ps × (xs ≡ ys)
closes_told c d t u [] [] xs ys h e = (tt, e)
closes_told c d t u [] (p ∷ ps) xs ys h e = absurd h
closes_told c d t u (o ∷ os) [] xs ys h e = absurd h
closes_told c d t u (o ∷ os) (p ∷ ps) xs ys h e =
    parts (misses_after o.estimate (c - o.since) (t.misses o.level)) (misses_after p.estimate (d - p.since) (u.misses p.level)) xs ys e
  where
    parts : (m k : ℕ) (xs ys : List ℕ) → (m ∷ []) ++ xs ≡ (k ∷ []) ++ ys → (m ≡ k) × (xs ≡ ys)
    parts m k xs ys e = let f : m ∷ xs ≡ k ∷ ys = e in let one : m ≡ k = cc in let two : xs ≡ ys = cc in (one, two)

one_told : (w : What) (c d : ℕ) (t u : Timed) (os ps : List Opened) (xs ys : List ℕ) → SameMarks os ps →
    told_at every w c t os ++ xs ≡ told_at every w d u ps ++ ys →
    SameCount w c d t u os ps × (xs ≡ ys)
one_told Nothing c d t u os ps xs ys h e = (tt, e)
one_told (Pushed p) c d t u os ps xs ys h e = (tt, e)
one_told (Assigned x n) c d t u os ps xs ys h e = (tt, e)
one_told (Opens n l k) c d t u os ps xs ys h e = (tt, e)
one_told Closes c d t u os ps xs ys h e = closes_told c d t u os ps xs ys h e

pub told_same : (a b : ℕ → ℤ) (es : List Entry) (t u : Timed) → SameMarks t.opened u.opened →
    counts_told every a es t ≡ counts_told every b es u → SameCounts a b es t u
told_same a b [] t u h e = tt
told_same a b (x ∷ es) t u h e =
    let one = one_told x.what (t.clock + x.cost) (u.clock + x.cost) t u t.opened u.opened
    (counts_told every a es (after a x.what (t.clock + x.cost) t)) (counts_told every b es (after b x.what (u.clock + x.cost) u)) h e in (
      one.0,
      told_same a b es (after a x.what (t.clock + x.cost) t) (after b x.what (u.clock + x.cost) u)
          (marks_after a b x.what (t.clock + x.cost) (u.clock + x.cost) t u h) one.1,
    )

closes_same : (such : ℕ → Bool) (c d : ℕ) (t u : Timed) (os ps : List Opened) → SameMarks os ps →
    SameCount Closes c d t u os ps → told_at such Closes c t os ≡ told_at such Closes d u ps
closes_same such c d t u [] [] h s = refl
closes_same such c d t u [] (p ∷ ps) h s = absurd h
closes_same such c d t u (o ∷ os) [] h s = absurd h
closes_same such c d t u (o ∷ os) (p ∷ ps) h s =
    ap (λ z. cond (such o.mark) (z ∷ []) []) s
    ∙ ap (λ z. cond (such z) (misses_after p.estimate (d - p.since) (u.misses p.level) ∷ []) []) h.0

one_same : (such : ℕ → Bool) (w : What) (c d : ℕ) (t u : Timed) (os ps : List Opened) → SameMarks os ps →
    SameCount w c d t u os ps → told_at such w c t os ≡ told_at such w d u ps
one_same such Nothing c d t u os ps h s = refl
one_same such (Pushed p) c d t u os ps h s = refl
one_same such (Assigned x n) c d t u os ps h s = refl
one_same such (Opens n l k) c d t u os ps h s = refl
one_same such Closes c d t u os ps h s = closes_same such c d t u os ps h s

pub same_told : (such : ℕ → Bool) (a b : ℕ → ℤ) (es : List Entry) (t u : Timed) → SameMarks t.opened u.opened →
    SameCounts a b es t u → counts_told such a es t ≡ counts_told such b es u
same_told such a b [] t u h s = refl
same_told such a b (x ∷ es) t u h s =
    let one = one_same such x.what (t.clock + x.cost) (u.clock + x.cost) t u t.opened u.opened h s.0 in
    let rest = same_told such a b es (after a x.what (t.clock + x.cost) t) (after b x.what (u.clock + x.cost) u)
    (marks_after a b x.what (t.clock + x.cost) (u.clock + x.cost) t u h) s.1 in
    ap (λ z. z ++ counts_told such a es (after a x.what (t.clock + x.cost) t)) one
    ∙ ap (λ z. told_at such x.what (u.clock + x.cost) u u.opened ++ z) rest
