-- What a choice of relevant marks, and one of levels, have to do with a program.
use Rattle.std.proofs.Common.{◌≡◌, ℕ, ◌+◌, List, [], ◌∷◌, ◌++◌, length, get_or, refl, sym, ap, ◌∙◌, subst, arith}
use Rattle.std.proofs.Common.{append_assoc, length-append}
use Rattle.std.specs.Prelude.{Bool, true, false, ltb, not, ◌&&◌, ◌||◌}
use Rattle.std.proofs.Math.Seq.{get_or-append_seam}
use Rattle.std.proofs.lemmas.Bool.{lt-ltb}
use Rattle.mit_syntax.specs.Todo.{Marked, Done, Skip, Assign, Put, Sleep, If, While, Mitigate}
use Rattle.mit_syntax.specs.Plan.{mitigates}
use Rattle.mit_syntax.specs.Valid.{AreNumbered}
use Rattle.label_lattice.specs.Lattice.{Lattice}
use Rattle.timing_types.specs.Typing.{label_of}
use Rattle.leak_bound.specs.Relevant.{relevances, is_relevant, LevelsBelow, LevelsAre}

-- rel tells of each mark in the list, at pc, whether its mitigate's level is picked and not low, and its pc low
abbrev pub TellsOf : Lattice → (ℕ → ℕ) → ℕ → (ℕ → Bool) → (ℕ → Bool) → ℕ → Marked → Type 0
TellsOf lat g o pick rel pc Done = Unit {0}
TellsOf lat g o pick rel pc (Skip m r) = TellsOf lat g o pick rel pc r
TellsOf lat g o pick rel pc (Assign m x e r) = TellsOf lat g o pick rel pc r
TellsOf lat g o pick rel pc (Put m f n i e r) = TellsOf lat g o pick rel pc r
TellsOf lat g o pick rel pc (Sleep m e r) = TellsOf lat g o pick rel pc r
TellsOf lat g o pick rel pc (If m e a b r) =
    TellsOf lat g o pick rel (lat.join pc (label_of lat g e)) a × TellsOf lat g o pick rel (lat.join pc (label_of lat g e)) b × TellsOf lat g o pick rel pc r
TellsOf lat g o pick rel pc (While m e c r) = TellsOf lat g o pick rel (lat.join pc (label_of lat g e)) c × TellsOf lat g o pick rel pc r
TellsOf lat g o pick rel pc (Mitigate m k l e c r) =
    (rel k ≡ (pick l && (lat.flows pc o && not (lat.flows l o)))) × TellsOf lat g o pick rel pc c × TellsOf lat g o pick rel pc r

-- so it tells of all levels
abbrev pub Tells : Lattice → (ℕ → ℕ) → ℕ → (ℕ → Bool) → ℕ → Marked → Type 0
Tells lat g o rel pc p = TellsOf lat g o (λ l. true) rel pc p

pub swapped : (a b : Bool) → (a && b) ≡ (b && a)
swapped true true = refl
swapped true false = refl
swapped false true = refl
swapped false false = refl

-- what tells of all levels, and a choice of levels
pub tells_both : (lat : Lattice) (g : ℕ → ℕ) (o : ℕ) (pick rel : ℕ → Bool) (ls : ℕ → ℕ) (pc : ℕ) (p : Marked) → Tells lat g o rel pc p → LevelsAre ls p
    → TellsOf lat g o pick (λ k. rel k && pick (ls k)) pc p
tells_both lat g o pick rel ls pc Done t h = tt
tells_both lat g o pick rel ls pc (Skip m r) t h = tells_both lat g o pick rel ls pc r t h
tells_both lat g o pick rel ls pc (Assign m x e r) t h = tells_both lat g o pick rel ls pc r t h
tells_both lat g o pick rel ls pc (Put m f n i e r) t h = tells_both lat g o pick rel ls pc r t h
tells_both lat g o pick rel ls pc (Sleep m e r) t h = tells_both lat g o pick rel ls pc r t h
tells_both lat g o pick rel ls pc (If m e a b r) t h =
    let inner = lat.join pc (label_of lat g e) in
    (tells_both lat g o pick rel ls inner a t.0 h.0, tells_both lat g o pick rel ls inner b t.1 h.1, tells_both lat g o pick rel ls pc r t.2 h.2)
tells_both lat g o pick rel ls pc (While m e c r) t h =
    let inner = lat.join pc (label_of lat g e) in
    (tells_both lat g o pick rel ls inner c t.0 h.0, tells_both lat g o pick rel ls pc r t.1 h.1)
tells_both lat g o pick rel ls pc (Mitigate m k l e c r) t h = (
  ap (λ b. b && pick (ls k)) t.0 ∙ swapped (lat.flows pc o && not (lat.flows l o)) (pick (ls k))
      ∙ ap (λ z. pick z && (lat.flows pc o && not (lat.flows l o))) (sym h.0),
  tells_both lat g o pick rel ls pc c t.1 h.1,
  tells_both lat g o pick rel ls pc r t.2 h.2,
)

length-relevances : (lat : Lattice) (g ls : ℕ → ℕ) (o pc : ℕ) (p : Marked) → length (relevances lat g ls o pc p) ≡ mitigates p
length-relevances lat g ls o pc Done = refl
length-relevances lat g ls o pc (Skip m r) = length-relevances lat g ls o pc r
length-relevances lat g ls o pc (Assign m x e r) = length-relevances lat g ls o pc r
length-relevances lat g ls o pc (Put m f n i e r) = length-relevances lat g ls o pc r
length-relevances lat g ls o pc (Sleep m e r) = length-relevances lat g ls o pc r
length-relevances lat g ls o pc (If m e a b r) =
    let inner = lat.join pc (label_of lat g e) in
    let fa = relevances lat g ls o inner a in
    let fb = relevances lat g ls o inner b in
    let fr = relevances lat g ls o pc r in
    omega (
      arith,
      length-append fa (fb ++ fr),
      length-append fb fr,
      length-relevances lat g ls o inner a,
      length-relevances lat g ls o inner b,
      length-relevances lat g ls o pc r,
    )
length-relevances lat g ls o pc (While m e c r) =
    let inner = lat.join pc (label_of lat g e) in
    omega (
      arith,
      length-append (relevances lat g ls o inner c) (relevances lat g ls o pc r),
      length-relevances lat g ls o inner c,
      length-relevances lat g ls o pc r,
    )
length-relevances lat g ls o pc (Mitigate m k l e c r) =
    omega (arith, length-append (relevances lat g ls o pc c) (relevances lat g ls o pc r), length-relevances lat g ls o pc c, length-relevances lat g ls o pc r)

-- these stand in the list from this place on
abbrev StandsAt : List Bool → ℕ → List Bool → Type 0
StandsAt all n [] = Unit {0}
StandsAt all n (f ∷ fs) = (get_or all n false ≡ f) × StandsAt all (n + 1) fs

front : (all : List Bool) (n : ℕ) (a b : List Bool) → StandsAt all n (a ++ b) → StandsAt all n a
front all n [] b h = tt
front all n (f ∷ a) b h = (h.0, front all (n + 1) a b h.1)

back : (all : List Bool) (n k : ℕ) (a b : List Bool) → length a ≡ k → StandsAt all n (a ++ b) → StandsAt all (n + k) b
back all n k [] b l h = let e : n ≡ n + k = omega (arith, l) in subst (λ z. StandsAt all z b) e h
back all n k (f ∷ a) b l h = let e : n + 1 + length a ≡ n + k = omega (arith, l) in subst (λ z. StandsAt all z b) e (back all (n + 1) (length a) a b refl h.1)

whole : (pre fs : List Bool) → StandsAt (pre ++ fs) (length pre) fs
whole pre [] = tt
whole pre (f ∷ fs) =
    let n : length (pre ++ f ∷ []) ≡ length pre + 1 = omega (arith, length-append pre (f ∷ [])) in
    let rest = subst (λ l. StandsAt l (length (pre ++ f ∷ [])) fs) (append_assoc pre (f ∷ []) fs) (whole (pre ++ f ∷ []) fs) in
    (get_or-append_seam pre f fs false, subst (λ m. StandsAt (pre ++ f ∷ fs) m fs) n rest)

module _ (lat : Lattice) (g ls : ℕ → ℕ) (o : ℕ) (all : List Bool) where
  tells_at : (p : Marked) (pc n : ℕ) → StandsAt all n (relevances lat g ls o pc p) → AreNumbered n p → LevelsAre ls p
      → Tells lat g o (λ k. get_or all k false) pc p
  tells_at Done pc n f h v = tt
  tells_at (Skip m r) pc n f h v = tells_at r pc n f h v
  tells_at (Assign m x e r) pc n f h v = tells_at r pc n f h v
  tells_at (Put m b k i e r) pc n f h v = tells_at r pc n f h v
  tells_at (Sleep m e r) pc n f h v = tells_at r pc n f h v
  tells_at (If m e a b r) pc n f h v =
      let inner = lat.join pc (label_of lat g e) in
      let fa = relevances lat g ls o inner a in
      let fb = relevances lat g ls o inner b in
      let x = back all n (mitigates a) fa (fb ++ relevances lat g ls o pc r) (length-relevances lat g ls o inner a) f in (
        tells_at a inner n (front all n fa (fb ++ relevances lat g ls o pc r) f) h.0 v.0,
        tells_at b inner (n + mitigates a) (front all (n + mitigates a) fb (relevances lat g ls o pc r) x) h.1 v.1,
        tells_at r pc (n + mitigates a + mitigates b)
            (back all (n + mitigates a) (mitigates b) fb (relevances lat g ls o pc r) (length-relevances lat g ls o inner b) x) h.2 v.2,
      )
  tells_at (While m e c r) pc n f h v =
      let inner = lat.join pc (label_of lat g e) in
      let fc = relevances lat g ls o inner c in (
        tells_at c inner n (front all n fc (relevances lat g ls o pc r) f) h.0 v.0,
        tells_at r pc (n + mitigates c) (back all n (mitigates c) fc (relevances lat g ls o pc r) (length-relevances lat g ls o inner c) f) h.1 v.1,
      )
  tells_at (Mitigate m k l e c r) pc n f h v =
      let fc = relevances lat g ls o pc c in
      let here : get_or all n false ≡ (lat.flows pc o && not (lat.flows l o)) = f.0 ∙ ap (λ z. lat.flows pc o && not (lat.flows z o)) (sym v.0) in (
        subst (λ z. get_or all z false ≡ (lat.flows pc o && not (lat.flows l o))) (sym h.0) here,
        tells_at c pc (n + 1) (front all (n + 1) fc (relevances lat g ls o pc r) f.1) h.1 v.1,
        tells_at r pc (n + 1 + mitigates c) (back all (n + 1) (mitigates c) fc (relevances lat g ls o pc r) (length-relevances lat g ls o pc c) f.1) h.2 v.2,
      )

-- the relevances of a numbered program tell of its marks
pub tells_relevant : (lat : Lattice) (g ls : ℕ → ℕ) (o : ℕ) (p : Marked) → AreNumbered 0 p → LevelsAre ls p
    → Tells lat g o (is_relevant lat g ls o p) lat.bottom p
tells_relevant lat g ls o p h v = tells_at lat g ls o (relevances lat g ls o lat.bottom p) p lat.bottom 0 (whole [] (relevances lat g ls o lat.bottom p)) h v

-- the levels that no relevant mitigate has: those that flow to the observer, and those that are not below the number of labels
abbrev pub beyond : Lattice → ℕ → ℕ → ℕ → Bool
beyond lat o n l = not (ltb l n) || lat.flows l o

pub tells_beyond : (lat : Lattice) (g : ℕ → ℕ) (o n pc : ℕ) (p : Marked) → LevelsBelow n p → TellsOf lat g o (beyond lat o n) (λ k. false) pc p
tells_beyond lat g o n pc Done h = tt
tells_beyond lat g o n pc (Skip m r) h = tells_beyond lat g o n pc r h
tells_beyond lat g o n pc (Assign m x e r) h = tells_beyond lat g o n pc r h
tells_beyond lat g o n pc (Put m f k i e r) h = tells_beyond lat g o n pc r h
tells_beyond lat g o n pc (Sleep m e r) h = tells_beyond lat g o n pc r h
tells_beyond lat g o n pc (If m e a b r) h = (tells_beyond lat g o n _ a h.0, tells_beyond lat g o n _ b h.1, tells_beyond lat g o n pc r h.2)
tells_beyond lat g o n pc (While m e c r) h = (tells_beyond lat g o n _ c h.0, tells_beyond lat g o n pc r h.1)
tells_beyond lat g o n pc (Mitigate m k l e c r) h = (
  neither (lat.flows pc o) (lat.flows l o) ∙ ap (λ b. (not b || lat.flows l o) && (lat.flows pc o && not (lat.flows l o))) (sym (lt-ltb l n h.0)),
  tells_beyond lat g o n pc c h.1,
  tells_beyond lat g o n pc r h.2,
)
  where
    neither : (a b : Bool) → false ≡ ((not true || b) && (a && not b))
    neither true true = refl
    neither true false = refl
    neither false true = refl
    neither false false = refl
