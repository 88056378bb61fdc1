-- What commands add to the time. Where nothing of it is cheaper than what is there, the walk ends where it starts, and so do the
-- walks of its parts: so it is in the body of a loop that is walked from the loop's end.
use Rattle.std.proofs.Common.{◌≡◌, refl, ap, ◌∙◌, subst, sym, List, [], ◌++◌, append_assoc, append-nil, arith, ⊎_elim, inl, inr}
use Rattle.std.specs.Prelude.{ℕ, Bool, true, false, Option, None, Some, Contains, ◌⊎◌}
use Rattle.std.proofs.lemmas.List.Elements.{Contains-append_right, Contains-append_cases}
use Rattle.std.proofs.lemmas.Bool.{both_ways}
use Rattle.mit_syntax.specs.Expression.{Expression}
use Rattle.mit_syntax.specs.Todo.{Done, Skip, Assign, Put, Sleep, If, While, Mitigate}
use Rattle.mit_syntax.specs.Plan.{Written, Plan}
use Rattle.mit_syntax.specs.Program.{Syntax}
use Rattle.flow_path.specs.declared.step.Spot.TheVariants.{Variable as OfVariable}
use Rattle.flow_path.specs.declared.step.How.TheVariants.{AfterReading, AfterComputing, AfterReadLabel, AfterAssigning}
use Rattle.flow_path.specs.declared.step.Part.{Part}
use Rattle.flow_path.specs.declared.cost.Cost.{Cost}
use Rattle.flow_path.specs.declared.target.Target.{Target}
use Rattle.flow_path.specs.declared.best.Best.{Best}
use Rattle.flow_path.specs.Steps.{one, reads, read_label, after, after_set, after_put, ends}
use Rattle.flow_path.specs.Distances.{PartCosts, IsBest, AreNoCheaperThan}
use Rattle.flow_path.proofs.Base.{contains_left, computed}
use Rattle.flow_path.proofs.Costing.{le_trans}
use Rattle.flow_path.proofs.Settling.{first_in}
use Rattle.flow_path.proofs.Firsts.{none_append, first_left, nothing_best}

-- all parts of the first list are parts of the second
abbrev pub In : List Part → List Part → Type 0
In xs ys = (y : Part) → Contains xs y → Contains ys y

pub in_left : (xs ys : List Part) → In xs (xs ++ ys)
in_left xs ys y c = contains_left xs ys y c

pub in_right : (xs ys : List Part) → In ys (xs ++ ys)
in_right xs ys y c = Contains-append_right xs ys y c

both_in : (xs ys zs : List Part) → In xs zs → In ys zs → In (xs ++ ys) zs
both_in xs ys zs h k y c = ⊎_elim (h y) (k y) (Contains-append_cases xs ys y c)

wider : (xs ys us vs : List Part) → In xs us → In ys vs → In (xs ++ ys) (us ++ vs)
wider xs ys us vs h k = both_in xs ys (us ++ vs) (λ y c. in_left us vs y (h y c)) (λ y c. in_right us vs y (k y c))

same_in : (xs : List Part) → In xs xs
same_in xs y c = c

none_in : (xs : List Part) → In [] xs
none_in xs y c = let q = c.1 in absurd (omega (arith, q))

abbrev pub R : Written → Expression → List Part
R w e = reads AfterReading w.pos e

abbrev pub C : Written → Expression → List Part
C w e = reads AfterComputing w.pos e

abbrev pub M : Written → List Part
M w = read_label AfterReadLabel w.pos w.labels

after_in : (A B : List Part) (w : Written) (e : Expression) → In A B → In (after A w e) (after B w e)
after_in A B w e h = wider A (R w e ++ M w) B (R w e ++ M w) h (same_in (R w e ++ M w))

set_in : (A B : List Part) (w : Written) (x : ℕ) (e : Expression) → In A B → In (after_set A w x e) (after_set B w x e)
set_in A B w x e h = wider (computed A w e) S (computed B w e) S (wider A (C w e ++ M w) B (C w e ++ M w) h (same_in (C w e ++ M w))) (same_in S)
  where
    S : List Part
    S = one AfterAssigning w.pos (OfVariable x)

put_in : (A B : List Part) (w : Written) (f : ℕ) (i e : Expression) → In A B → In (after_put A w f i e) (after_put B w f i e)
put_in A B w f i e h = wider (after_set A w f e) (C w i) (after_set B w f e) (C w i) (set_in A B w f e h) (same_in (C w i))

-- what is there at the start is there at the end
pub up : (p : Plan) (A B : List Part) → In A B → In (ends p A) (ends p B)
up Done A B h = h
up (Skip w p) A B h = up p (A ++ M w) (B ++ M w) (wider A (M w) B (M w) h (same_in (M w)))
up (Assign w x e p) A B h = up p (after_set A w x e) (after_set B w x e) (set_in A B w x e h)
up (Put w f n i e p) A B h = up p (after_put A w f i e) (after_put B w f i e) (put_in A B w f i e h)
up (Sleep w e p) A B h = up p (after A w e) (after B w e) (after_in A B w e h)
up (If w e a b p) A B h =
    let s = after_in A B w e h in
    up p (ends a (after A w e) ++ ends b (after A w e)) (ends a (after B w e) ++ ends b (after B w e))
    (wider (ends a (after A w e)) (ends b (after A w e)) (ends a (after B w e)) (ends b (after B w e)) (up a (after A w e) (after B w e) s)
    (up b (after A w e) (after B w e) s))
up (While w e c p) A B h = up p (ends c (after A w e)) (ends c (after B w e)) (up c (after A w e) (after B w e) (after_in A B w e h))
up (Mitigate w k l e c p) A B h = up p (after A w e) (after B w e) (after_in A B w e h)

-- it begins with what is there
pub record Longer (xs ys : List Part) : Type 0 where
  pub more : List Part
  pub is : ys ≡ xs ++ more

longer_by : (xs ys : List Part) → Longer xs (xs ++ ys)
longer_by xs ys = record { more = ys; is = refl }

longer_same : (xs : List Part) → Longer xs xs
longer_same xs = record { more = []; is = sym (append-nil xs) }

then : (xs ys zs : List Part) → Longer xs ys → Longer ys zs → Longer xs zs
then xs ys zs a b = record { more = a.more ++ b.more; is = b.is ∙ ap (λ z. z ++ b.more) a.is ∙ append_assoc xs a.more b.more }

set_longer : (A : List Part) (w : Written) (x : ℕ) (e : Expression) → Longer A (after_set A w x e)
set_longer A w x e =
    then A (computed A w e) (after_set A w x e) (longer_by A (C w e ++ M w)) (longer_by (computed A w e) (one AfterAssigning w.pos (OfVariable x)))

pub begins : (p : Plan) (A : List Part) → Longer A (ends p A)
begins Done A = longer_same A
begins (Skip w p) A = then A (A ++ M w) (ends (Skip w p) A) (longer_by A (M w)) (begins p (A ++ M w))
begins (Assign w x e p) A = then A (after_set A w x e) (ends (Assign w x e p) A) (set_longer A w x e) (begins p (after_set A w x e))
begins (Put w f n i e p) A =
    then A (after_set A w f e) (ends (Put w f n i e p) A) (set_longer A w f e)
    (then (after_set A w f e) (after_put A w f i e) (ends (Put w f n i e p) A) (longer_by (after_set A w f e) (C w i)) (begins p (after_put A w f i e)))
begins (Sleep w e p) A = then A (after A w e) (ends (Sleep w e p) A) (longer_by A (R w e ++ M w)) (begins p (after A w e))
begins (If w e a b p) A =
    let S = after A w e in
    then A S (ends (If w e a b p) A) (longer_by A (R w e ++ M w))
    (then S (ends a S) (ends (If w e a b p) A) (begins a S)
    (then (ends a S) (ends a S ++ ends b S) (ends (If w e a b p) A) (longer_by (ends a S) (ends b S)) (begins p (ends a S ++ ends b S))))
begins (While w e c p) A =
    let S = after A w e in
    then A S (ends (While w e c p) A) (longer_by A (R w e ++ M w)) (then S (ends c S) (ends (While w e c p) A) (begins c S) (begins p (ends c S)))
begins (Mitigate w k l e c p) A = then A (after A w e) (ends (Mitigate w k l e c p) A) (longer_by A (R w e ++ M w)) (begins p (after A w e))

longer_in : (xs ys : List Part) → Longer xs ys → In xs ys
longer_in xs ys h y c = subst (λ z. Contains z y) (sym h.is) (in_left xs h.more y c)

pub starts_in : (p : Plan) (A : List Part) → In A (ends p A)
starts_in p A = longer_in A (ends p A) (begins p A)

-- each part of the time after was there before, or is added
abbrev Splits : (List Part → List Part) → Type 0
Splits F = (A : List Part) (y : Part) → Contains (F A) y → Contains A y ⊎ Contains (F []) y

split_by : (E : List Part) → Splits (λ A. A ++ E)
split_by E A y c = ⊎_elim (λ (h : Contains A y). inl h) (λ (h : Contains E y). inr h) (Contains-append_cases A E y c)

split_then : (F G : List Part → List Part) → Splits F → Splits G → In (F []) (G (F [])) → In (G []) (G (F [])) → Splits (λ A. G (F A))
split_then F G f g a b A y c = ⊎_elim
    (λ (h : Contains (F A) y). ⊎_elim (λ (k : Contains A y). inl k) (λ (k : Contains (F []) y). inr (a y k)) (f A y h))
    (λ (h : Contains (G []) y). inr (b y h))
    (g (F A) y c)

split_two : (F G : List Part → List Part) → Splits F → Splits G → Splits (λ A. F A ++ G A)
split_two F G f g A y c = ⊎_elim
    (λ (h : Contains (F A) y). ⊎_elim (λ (k : Contains A y). inl k) (λ (k : Contains (F []) y). inr (in_left (F []) (G []) y k)) (f A y h))
    (λ (h : Contains (G A) y). ⊎_elim (λ (k : Contains A y). inl k) (λ (k : Contains (G []) y). inr (in_right (F []) (G []) y k)) (g A y h))
    (Contains-append_cases (F A) (G A) y c)

split_ends : (p : Plan) (F : List Part → List Part) → Splits F → Splits (ends p) → Splits (λ A. ends p (F A))
split_ends p F f g = split_then F (ends p) f g (starts_in p (F [])) (up p [] (F []) (none_in (F [])))

split_after : (w : Written) (e : Expression) → Splits (λ A. after A w e)
split_after w e = split_by (R w e ++ M w)

split_set : (w : Written) (x : ℕ) (e : Expression) → Splits (λ A. after_set A w x e)
split_set w x e =
    split_then (λ A. computed A w e) (λ A. A ++ one AfterAssigning w.pos (OfVariable x)) (split_by (C w e ++ M w))
    (split_by (one AfterAssigning w.pos (OfVariable x))) (in_left (computed [] w e) (one AfterAssigning w.pos (OfVariable x)))
    (in_right (computed [] w e) (one AfterAssigning w.pos (OfVariable x)))

split_put : (w : Written) (f : ℕ) (i e : Expression) → Splits (λ A. after_put A w f i e)
split_put w f i e =
    split_then (λ A. after_set A w f e) (λ A. A ++ C w i) (split_set w f e) (split_by (C w i)) (in_left (after_set [] w f e) (C w i))
    (in_right (after_set [] w f e) (C w i))

pub split : (p : Plan) → Splits (ends p)
split Done = λ A y c. inl c
split (Skip w p) = split_ends p (λ A. A ++ M w) (split_by (M w)) (split p)
split (Assign w x e p) = split_ends p (λ A. after_set A w x e) (split_set w x e) (split p)
split (Put w f n i e p) = split_ends p (λ A. after_put A w f i e) (split_put w f i e) (split p)
split (Sleep w e p) = split_ends p (λ A. after A w e) (split_after w e) (split p)
split (If w e a b p) =
    split_ends p (λ A. ends a (after A w e) ++ ends b (after A w e))
    (split_two (λ A. ends a (after A w e)) (λ A. ends b (after A w e)) (split_ends a (λ A. after A w e) (split_after w e) (split a))
    (split_ends b (λ A. after A w e) (split_after w e) (split b))) (split p)
split (While w e c p) = split_ends p (λ A. ends c (after A w e)) (split_ends c (λ A. after A w e) (split_after w e) (split c)) (split p)
split (Mitigate w k l e c p) = split_ends p (λ A. after A w e) (split_after w e) (split p)

-- what the parts of commands add is added by them
pub then_adds : (w : Written) (e : Expression) (a b p : Plan) → In (ends a []) (ends (If w e a b p) [])
then_adds w e a b p y c =
    let S = after [] w e in
    starts_in p (ends a S ++ ends b S) y (in_left (ends a S) (ends b S) y (up a [] S (none_in S) y c))

pub else_adds : (w : Written) (e : Expression) (a b p : Plan) → In (ends b []) (ends (If w e a b p) [])
else_adds w e a b p y c =
    let S = after [] w e in
    starts_in p (ends a S ++ ends b S) y (in_right (ends a S) (ends b S) y (up b [] S (none_in S) y c))

pub body_adds : (w : Written) (e : Expression) (a p : Plan) → In (ends a []) (ends (While w e a p) [])
body_adds w e a p y c = let S = after [] w e in starts_in p (ends a S) y (up a [] S (none_in S) y c)

module _ (s : Syntax) (t : Target) (ds : List (Option Cost)) where
  abbrev V : Part → Cost → Type 0
  V = PartCosts s t ds

  -- of more parts the first of the cheapest costs no more
  pub lower : (T T' ps qs : List Part) (b r : Option Best) → IsBest s t ds T b → In T T' → IsBest s t ds T' r → In qs ps → AreNoCheaperThan s t ds b ps
      → AreNoCheaperThan s t ds r qs
  lower T T' ps qs None r h i k j n y d c w = absurd (n y d (j y c) w)
  lower T T' ps qs (Some b) None h i k j n y d c w = absurd (k b.part b.cost (i b.part (first_in T h.before h.after b.part h.is)) h.has)
  lower T T' ps qs (Some b) (Some r) h i k j n y d c w =
      le_trans r.cost b.cost d (k.least b.part b.cost (i b.part (first_in T h.before h.after b.part h.is)) h.has) (n y d (j y c) w)

  -- where nothing that is added is cheaper, it stays the first of the cheapest
  pub keeps : (p : Plan) (T : List Part) (b : Option Best) → IsBest s t ds T b → AreNoCheaperThan s t ds b (ends p []) → IsBest s t ds (ends p T) b
  keeps p T b h n = subst (λ z. IsBest s t ds z b) (sym (begins p T).is) (go b h n)
    where
      X : List Part
      X = (begins p T).more

      seen : (y : Part) → Contains X y → Contains T y ⊎ Contains (ends p []) y
      seen y c = split p T y (subst (λ z. Contains z y) (sym (begins p T).is) (in_right T X y c))

      go : (b : Option Best) → IsBest s t ds T b → AreNoCheaperThan s t ds b (ends p []) → IsBest s t ds (T ++ X) b
      go None h n = none_append Part V T X h
          (λ y d c w. ⊎_elim (λ (k : Contains T y). h y d k w) (λ (k : Contains (ends p []) y). n y d k w) (seen y c))
      go (Some b) h n = first_left Part V T X b.part b.cost h
          (λ y d c w. ⊎_elim (λ (k : Contains T y). h.least y d k w) (λ (k : Contains (ends p []) y). n y d k w) (seen y c))

  -- at the end nothing that was added is cheaper
  pub ended : (p : Plan) (T : List Part) (r : Option Best) → IsBest s t ds (ends p T) r → AreNoCheaperThan s t ds r (ends p [])
  ended p T None h y d c w = h y d (up p [] T (none_in T) y c) w
  ended p T (Some r) h y d c w = h.least y d (up p [] T (none_in T) y c) w

  -- what is known of the time before commands that add these parts
  abbrev pub TimeOf : Option Best → List Part → Bool → Type 0
  TimeOf b added stays = ((T : List Part) × IsBest s t ds T b) × (stays ≡ true → AreNoCheaperThan s t ds b added)

  -- the same of commands that add no more, from where some were walked
  time_on : (b r : Option Best) (added more : List Part) (stays : Bool)
      → ((T : List Part) → IsBest s t ds T b → (T' : List Part) × In T T' × IsBest s t ds T' r)
      → In more added → TimeOf b added stays → TimeOf r more stays
  time_on b r added more stays f i h =
      let q = f h.0.0 h.0.1 in
      ((q.0, q.2), λ e. lower h.0.0 q.0 added more b r h.0.1 q.1 q.2 i (h.1 e))

  abbrev Starts : Option Best → Option Best → Written → Expression → Type 0
  Starts b r w e = (T : List Part) → IsBest s t ds T b → IsBest s t ds (after T w e) r

  starts_on : (b r : Option Best) (w : Written) (e : Expression) → Starts b r w e → (T : List Part) → IsBest s t ds T b
      → (T' : List Part) × In T T' × IsBest s t ds T' r
  starts_on b r w e m T h = (after T w e, in_left T (R w e ++ M w), m T h)

  pub then_time : (b r : Option Best) (stays : Bool) (w : Written) (e : Expression) (x y rest p : Plan) → p ≡ If w e x y rest → Starts b r w e
      → TimeOf b (ends p []) stays → TimeOf r (ends x []) stays
  then_time b r stays w e x y rest p is m h =
      time_on b r (ends (If w e x y rest) []) (ends x []) stays (starts_on b r w e m) (then_adds w e x y rest) (subst (λ z. TimeOf b (ends z []) stays) is h)

  pub else_time : (b r : Option Best) (stays : Bool) (w : Written) (e : Expression) (x y rest p : Plan) → p ≡ If w e x y rest → Starts b r w e
      → TimeOf b (ends p []) stays → TimeOf r (ends y []) stays
  else_time b r stays w e x y rest p is m h =
      time_on b r (ends (If w e x y rest) []) (ends y []) stays (starts_on b r w e m) (else_adds w e x y rest) (subst (λ z. TimeOf b (ends z []) stays) is h)

  pub body_time : (b r : Option Best) (stays : Bool) (w : Written) (e : Expression) (x rest p : Plan) → p ≡ While w e x rest → Starts b r w e
      → TimeOf b (ends p []) stays → TimeOf r (ends x []) stays
  body_time b r stays w e x rest p is m h =
      time_on b r (ends (While w e x rest) []) (ends x []) stays (starts_on b r w e m) (body_adds w e x rest) (subst (λ z. TimeOf b (ends z []) stays) is h)

  -- in the body of a mitigate nothing is known but that there is a time
  pub free_time : (b r : Option Best) (stays : Bool) (w : Written) (e : Expression) (added more : List Part) → Starts b r w e → TimeOf b added stays
      → TimeOf r more false
  free_time b r stays w e added more m h = ((after h.0.0 w e, m h.0.0 h.0.1), λ e. absurd (both_ways false refl e))

  own_least : (T : List Part) (b : Option Best) → IsBest s t ds T b → AreNoCheaperThan s t ds b T
  own_least T None h y d c w = h y d c w
  own_least T (Some b) h y d c w = h.least y d c w

  -- after the first command
  pub next_time : (b r : Option Best) (stays : Bool) (one all rest : Plan) → ((T : List Part) → IsBest s t ds T b
      → (T' : List Part) × IsBest s t ds T' r × (ends one T ≡ T')) → ((T : List Part) → IsBest s t ds T b
      → (T' : List Part) × IsBest s t ds T' r × (ends all T ≡ ends rest T')) → TimeOf b (ends all []) stays → TimeOf r (ends rest []) stays
  next_time b r stays one all rest g f h =
      let T = h.0.0 in
      let k = h.0.1 in
      let q = g T k in
      let u = f T k in
      let i : In T q.0 = λ y c. subst (λ z. Contains z y) q.2 (starts_in one T y c) in (
        (q.0, q.1),
        λ e. λ y d c w. ⊎_elim
            (λ (m : Contains T y). lower T q.0 T T b r k i q.1 (same_in T) (own_least T b k) y d m w)
            (λ (m : Contains (ends all []) y). lower T q.0 (ends all []) (ends all []) b r k i q.1 (same_in (ends all [])) (h.1 e) y d m w)
            (split all T y (subst (λ z. Contains z y) (sym u.2) (up rest [] u.0 (none_in u.0) y c))),
      )

  -- at the end of a loop's body nothing that the body adds is cheaper
  pub end_time : (b r : Option Best) (p : Plan) → ((T : List Part) → IsBest s t ds T b → (T' : List Part) × IsBest s t ds T' r × (ends p T ≡ T'))
      → (T : List Part) → IsBest s t ds T b → TimeOf r (ends p []) true
  end_time b r p f T h = let q = f T h in ((q.0, q.1), λ e. ended p T r (subst (λ z. IsBest s t ds z r) (sym q.2) q.1))

  pub begin_time : (added : List Part) → TimeOf None added false
  begin_time added = (([], nothing_best s t ds), λ e. absurd (both_ways false refl e))
