-- The walk decides the type system.
use Rattle.std.proofs.Common.{◌≡◌, ℕ, refl, sym, ap, ◌∙◌, subst, List, [], ◌∷◌, ◌++◌}
use Rattle.std.specs.Prelude.{Bool, true, false, cond, Option, None, Some}
use Rattle.std.proofs.lemmas.Bool.{cond-true}
use Rattle.label_lattice.specs.Lattice.{Lattice, Flows, IsLattice}
use Rattle.mit_syntax.specs.Todo.{Done, Skip, Assign, Put, Sleep, If, While, Mitigate}
use Rattle.timing_types.specs.declared.rule.TypeFault.{TypeFault}
use Rattle.timing_types.specs.declared.rule.Rule.TheVariants.{Mtg as RMtg}
use Rattle.timing_types.specs.Typing.{label_of, index_label, Types, IsTyped}
use Rattle.timing_types.specs.Placed.{Placed, Tree, bare}
use Rattle.timing_types.specs.Walk.{Condition, demand, put_index, after, loop_start, walk_end, conditions, told, first_broken, AllHold, OfLevel, IsLeastStay}
use Rattle.timing_types.proofs.Joins.{join_up, idem, comm, assoc, absorbs}

module _ (lat : Lattice) where
  pub head_holds : (b : Bool) (x : Option TypeFault) (r : TypeFault) → cond b x (Some r) ≡ None → (b ≡ true) × (x ≡ None)
  head_holds true x r h = (refl, h)
  head_holds false x r h = cc

  pub broken_none : (xs ys : List Condition) → first_broken lat xs ≡ None → first_broken lat (xs ++ ys) ≡ first_broken lat ys
  broken_none [] ys h = refl
  broken_none (c ∷ xs) ys h =
      let p = head_holds (lat.flows c.have c.allowed) (first_broken lat xs) (told c) h in
      cond-true (lat.flows c.have c.allowed) (first_broken lat (xs ++ ys)) (Some (told c)) p.0 ∙ broken_none xs ys p.1

  some_cond : (b : Bool) (x y : Option TypeFault) (r s : TypeFault) → (x ≡ Some r → y ≡ Some r) → cond b x (Some s) ≡ Some r → cond b y (Some s) ≡ Some r
  some_cond true x y r s f h = f h
  some_cond false x y r s f h = h

  pub broken_some : (xs ys : List Condition) (r : TypeFault) → first_broken lat xs ≡ Some r → first_broken lat (xs ++ ys) ≡ Some r
  broken_some [] ys r h = cc
  broken_some (c ∷ xs) ys r h = some_cond (lat.flows c.have c.allowed) (first_broken lat xs) (first_broken lat (xs ++ ys)) r (told c) (broken_some xs ys r) h

  -- no condition is broken exactly where each holds
  pub all_hold : (cs : List Condition) → first_broken lat cs ≡ None → AllHold lat cs
  all_hold [] h = tt
  all_hold (c ∷ cs) h = let p = head_holds (lat.flows c.have c.allowed) (first_broken lat cs) (told c) h in (p.0, all_hold cs p.1)

  pub none_broken : (cs : List Condition) → AllHold lat cs → first_broken lat cs ≡ None
  none_broken [] h = refl
  none_broken (c ∷ cs) h = cond-true (lat.flows c.have c.allowed) (first_broken lat cs) (Some (told c)) h.0 ∙ none_broken cs h.1

  pub parts_hold : (xs ys : List Condition) → AllHold lat (xs ++ ys) → AllHold lat xs × AllHold lat ys
  parts_hold [] ys h = (tt, h)
  parts_hold (c ∷ xs) ys h = let q = parts_hold xs ys h.1 in ((h.0, q.0), q.1)

  pub both_hold : (xs ys : List Condition) → AllHold lat xs → AllHold lat ys → AllHold lat (xs ++ ys)
  both_hold [] ys h k = k
  both_hold (c ∷ xs) ys h k = (h.0, both_hold xs ys h.1 k)

module _ (lat : Lattice) (ll : IsLattice lat) (g : ℕ → ℕ) where
  -- a joined label moves out: (t | u) | a = (t | a) | u
  pub swap : (t u a : ℕ) → lat.join (lat.join t u) a ≡ lat.join (lat.join t a) u
  swap t u a = assoc lat ll t u a ∙ ap (lat.join t) (comm lat ll u a) ∙ sym (assoc lat ll t a u)

  pub twice : (x y u : ℕ) → lat.join (lat.join x u) (lat.join y u) ≡ lat.join (lat.join x y) u
  twice x y u =
      assoc lat ll x u (lat.join y u) ∙ ap (lat.join x) (sym (assoc lat ll u y u) ∙ ap (λ z. lat.join z u) (comm lat ll u y) ∙ assoc lat ll y u u
      ∙ ap (lat.join y) (idem lat ll u))
      ∙ sym (assoc lat ll x y u)

  pub start_moves : (t u l a : ℕ) → lat.join (lat.join (lat.join t u) l) a ≡ lat.join (lat.join (lat.join t l) a) u
  start_moves t u l a = ap (λ z. lat.join z a) (swap t u l) ∙ swap (lat.join t l) u a

  pub loop_moves : (t u l a : ℕ) → lat.join (lat.join l (lat.join t u)) a ≡ lat.join (lat.join (lat.join l t) a) u
  loop_moves t u l a = ap (λ z. lat.join z a) (sym (assoc lat ll l t u)) ∙ swap (lat.join l t) u a

  pub demand_moves : (pc t u : ℕ) (m : Placed) (l li x : ℕ)
      → lat.join x (demand lat pc (lat.join t u) m l li) ≡ lat.join (lat.join x (demand lat pc t m l li)) u
  demand_moves pc t u m l li x =
      ap (lat.join x) (loop_moves t u (lat.join (lat.join l li) pc) m.marks.er) ∙ sym (assoc lat ll x (demand lat pc t m l li) u)

  -- so the end of a walk moves with its start
  pub walk_moves : (p : Tree) (pc t u : ℕ) → walk_end lat g p pc (lat.join t u) ≡ lat.join (walk_end lat g p pc t) u
  walk_moves Done pc t u = refl
  walk_moves (Skip m r) pc t u = ap (walk_end lat g r pc) (swap t u m.marks.er) ∙ walk_moves r pc (lat.join t m.marks.er) u
  walk_moves (Assign m x e r) pc t u = ap (walk_end lat g r pc) (demand_moves pc t u m (label_of lat g e) (index_label lat g e) (g x)) ∙ walk_moves r pc _ u
  walk_moves (Put m f n i e r) pc t u = ap (walk_end lat g r pc) (demand_moves pc t u m (label_of lat g e) (put_index lat g i e) (g f)) ∙ walk_moves r pc _ u
  walk_moves (Sleep m e r) pc t u = ap (walk_end lat g r pc) (start_moves t u (label_of lat g e) m.marks.er) ∙ walk_moves r pc _ u
  walk_moves (If m e a b r) pc t u =
      let l = label_of lat g e in
      let start = lat.join (lat.join t l) m.marks.er in
      let inner = lat.join pc l in
      let s = start_moves t u l m.marks.er in
      let ea = ap (walk_end lat g a inner) s ∙ walk_moves a inner start u in
      let eb = ap (walk_end lat g b inner) s ∙ walk_moves b inner start u in
      ap (λ z. walk_end lat g r pc (lat.join z (walk_end lat g b inner (lat.join (lat.join (lat.join t u) l) m.marks.er)))) ea
      ∙ ap (λ z. walk_end lat g r pc (lat.join (lat.join (walk_end lat g a inner start) u) z)) eb
      ∙ ap (walk_end lat g r pc) (twice (walk_end lat g a inner start) (walk_end lat g b inner start) u)
      ∙ walk_moves r pc _ u
  walk_moves (While m e c r) pc t u =
      let l = label_of lat g e in
      ap (λ z. walk_end lat g r pc (walk_end lat g c (lat.join pc l) z)) (loop_moves t u l m.marks.er)
      ∙ ap (walk_end lat g r pc) (walk_moves c (lat.join pc l) (lat.join (lat.join l t) m.marks.er) u)
      ∙ walk_moves r pc _ u
  walk_moves (Mitigate m k l e c r) pc t u = ap (walk_end lat g r pc) (start_moves t u (label_of lat g e) m.marks.er) ∙ walk_moves r pc _ u

  -- the start flows to the end, and a walk from the end stays there
  pub walk_grows : (p : Tree) (pc t : ℕ) → Flows lat t (walk_end lat g p pc t)
  walk_grows p pc t =
      let e = ap (walk_end lat g p pc) (sym (idem lat ll t)) ∙ walk_moves p pc t t in
      subst (λ z. Flows lat t z) (sym e) (ll.right (walk_end lat g p pc t) t)

  pub walk_stays : (p : Tree) (pc t : ℕ) → walk_end lat g p pc (walk_end lat g p pc t) ≡ walk_end lat g p pc t
  walk_stays p pc t =
      let w = walk_end lat g p pc t in
      let e : lat.join t w ≡ w = comm lat ll t w ∙ absorbs lat ll t w (walk_grows p pc t) in
      ap (walk_end lat g p pc) (sym e) ∙ walk_moves p pc t w ∙ idem lat ll w

  -- it grows with its start
  pub walk_up : (p : Tree) (pc t u : ℕ) → Flows lat t u → Flows lat (walk_end lat g p pc t) (walk_end lat g p pc u)
  walk_up p pc t u f =
      let e : lat.join t u ≡ u = comm lat ll t u ∙ absorbs lat ll t u f in
      subst (λ z. Flows lat (walk_end lat g p pc t) z) (sym (ap (walk_end lat g p pc) (sym e) ∙ walk_moves p pc t u)) (ll.left (walk_end lat g p pc t) u)

  -- so the end of a walk is the least label at or above its start from which the walk ends there
  pub least_stay : (p : Tree) (pc t : ℕ) → IsLeastStay lat g p pc t (walk_end lat g p pc t)
  least_stay p pc t =
      record {
        above = walk_grows p pc t;
        stays = walk_stays p pc t;
        least = λ v f e. subst (λ z. Flows lat (walk_end lat g p pc t) z) e (walk_up p pc t v f);
      }

  -- where each condition holds, there is a derivation, to the walk's end
  pub typed_from : (p : Tree) (pc t : ℕ) → AllHold lat (conditions lat g p pc t) → Types lat g pc t (bare p) (walk_end lat g p pc t)
  typed_from Done pc t h = refl
  typed_from (Skip m r) pc t h = (h.0, typed_from r pc (lat.join t m.marks.er) h.1)
  typed_from (Assign m x e r) pc t h =
      let d = demand lat pc t m (label_of lat g e) (index_label lat g e) in
      let same = absorbs lat ll d (g x) h.0 in
      (h.0, h.1.0, subst (λ z. Types lat g pc z (bare r) (walk_end lat g r pc (lat.join (g x) d))) same (typed_from r pc (lat.join (g x) d) h.1.1))
  typed_from (Put m f n i e r) pc t h =
      let d = demand lat pc t m (label_of lat g e) (put_index lat g i e) in
      let same = absorbs lat ll d (g f) h.0 in
      (h.0, h.1.0, subst (λ z. Types lat g pc z (bare r) (walk_end lat g r pc (lat.join (g f) d))) same (typed_from r pc (lat.join (g f) d) h.1.1))
  typed_from (Sleep m e r) pc t h = (h.0, typed_from r pc (after lat g t m e) h.1)
  typed_from (If m e a b r) pc t h =
      let start = after lat g t m e in
      let inner = lat.join pc (label_of lat g e) in
      let ea = walk_end lat g a inner start in
      let eb = walk_end lat g b inner start in
      let y = parts_hold lat (conditions lat g a inner start) (conditions lat g b inner start ++ conditions lat g r pc (lat.join ea eb)) h.1 in
      let z = parts_hold lat (conditions lat g b inner start) (conditions lat g r pc (lat.join ea eb)) y.1 in
      (ea, eb, h.0, typed_from a inner start y.0, typed_from b inner start z.0, typed_from r pc (lat.join ea eb) z.1)
  typed_from (While m e c r) pc t h =
      let inner = lat.join pc (label_of lat g e) in
      let start = loop_start lat g t m e in
      let end = walk_end lat g c inner start in
      let y = parts_hold lat (conditions lat g c inner end) (conditions lat g r pc end) h.1 in (
        end,
        h.0,
        walk_grows c inner start,
        subst (λ z. Types lat g inner end (bare c) z) (walk_stays c inner start) (typed_from c inner end y.0),
        typed_from r pc end y.1,
      )
  typed_from (Mitigate m k l e c r) pc t h =
      let start = after lat g t m e in
      let y = parts_hold lat (conditions lat g c pc start) (record {
        rule = RMtg;
        pos = m.pos;
        have = walk_end lat g c pc start;
        allowed = l.label;
        side =
            OfLevel k l.written;
      } ∷ conditions lat g r pc start) h.1 in
      (walk_end lat g c pc start, h.0, typed_from c pc start y.0, y.1.0, typed_from r pc start y.1.1)

  demand_up : (pc t t2 : ℕ) (m : Placed) (l li : ℕ) → Flows lat t t2 → Flows lat (demand lat pc t m l li) (demand lat pc t2 m l li)
  demand_up pc t t2 m l li f = join_up lat ll _ m.marks.er _ m.marks.er (join_up lat ll _ t _ t2 (ll.same _) f) (ll.same m.marks.er)

  start_up : (t t2 l a : ℕ) → Flows lat t t2 → Flows lat (lat.join (lat.join t l) a) (lat.join (lat.join t2 l) a)
  start_up t t2 l a f = join_up lat ll _ a _ a (join_up lat ll t l t2 l f (ll.same l)) (ll.same a)

  -- where there is a derivation from a label at or above, each condition holds, and the walk's end is at or below the derivation's
  pub holds_from : (p : Tree) (pc t t2 end : ℕ) → Flows lat t t2 → Types lat g pc t2 (bare p) end → AllHold lat (conditions lat g p pc t)
      × Flows lat (walk_end lat g p pc t) end
  holds_from Done pc t t2 end f ty = (tt, subst (λ z. Flows lat t z) ty f)
  holds_from (Skip m r) pc t t2 end f ty =
      let x = holds_from r pc (lat.join t m.marks.er) (lat.join t2 m.marks.er) end (join_up lat ll t m.marks.er t2 m.marks.er f (ll.same m.marks.er)) ty.1 in
      ((ty.0, x.0), x.1)
  holds_from (Assign m x e r) pc t t2 end f ty =
      let l = label_of lat g e in
      let li = index_label lat g e in
      let d = ll.chain (demand lat pc t m l li) (demand lat pc t2 m l li) (g x) (demand_up pc t t2 m l li f) ty.0 in
      let y = holds_from r pc (lat.join (g x) (demand lat pc t m l li)) (g x) end (ll.least (g x) (demand lat pc t m l li) (g x) (ll.same (g x)) d) ty.2 in
      ((d, (ty.1, y.0)), y.1)
  holds_from (Put m b n i e r) pc t t2 end f ty =
      let l = label_of lat g e in
      let li = put_index lat g i e in
      let d = ll.chain (demand lat pc t m l li) (demand lat pc t2 m l li) (g b) (demand_up pc t t2 m l li f) ty.0 in
      let y = holds_from r pc (lat.join (g b) (demand lat pc t m l li)) (g b) end (ll.least (g b) (demand lat pc t m l li) (g b) (ll.same (g b)) d) ty.2 in
      ((d, (ty.1, y.0)), y.1)
  holds_from (Sleep m e r) pc t t2 end f ty =
      let x = holds_from r pc (after lat g t m e) (after lat g t2 m e) end (start_up t t2 (label_of lat g e) m.marks.er f) ty.1 in
      ((ty.0, x.0), x.1)
  holds_from (If m e a b r) pc t t2 end f ty =
      let l = label_of lat g e in
      let inner = lat.join pc l in
      let start = after lat g t m e in
      let start2 = after lat g t2 m e in
      let up = start_up t t2 l m.marks.er f in
      let x = holds_from a inner start start2 ty.0 up ty.3 in
      let y = holds_from b inner start start2 ty.1 up ty.4 in
      let ea = walk_end lat g a inner start in
      let eb = walk_end lat g b inner start in
      let z = holds_from r pc (lat.join ea eb) (lat.join ty.0 ty.1) end (join_up lat ll ea eb ty.0 ty.1 x.1 y.1) ty.5 in
      let rest = conditions lat g r pc (lat.join ea eb) in (
        (
          ty.2,
          both_hold lat (conditions lat g a inner start) (conditions lat g b inner start ++ rest) x.0
              (both_hold lat (conditions lat g b inner start) rest y.0 z.0),
        ),
        z.1,
      )
  holds_from (While m e c r) pc t t2 end f ty =
      let l = label_of lat g e in
      let inner = lat.join pc l in
      let start = loop_start lat g t m e in
      let up = ll.chain start (loop_start lat g t2 m e) ty.0
      (join_up lat ll (lat.join l t) m.marks.er (lat.join l t2) m.marks.er (join_up lat ll l t l t2 (ll.same l) f) (ll.same m.marks.er)) ty.2 in
      let first = holds_from c inner start ty.0 ty.0 up ty.3 in
      let stay = walk_end lat g c inner start in
      let body = holds_from c inner stay ty.0 ty.0 first.1 ty.3 in
      let z = holds_from r pc stay ty.0 end first.1 ty.4 in
      ((ty.1, both_hold lat (conditions lat g c inner stay) (conditions lat g r pc stay) body.0 z.0), z.1)
  holds_from (Mitigate m k l e c r) pc t t2 end f ty =
      let start = after lat g t m e in
      let up = start_up t t2 (label_of lat g e) m.marks.er f in
      let body = holds_from c pc start (after lat g t2 m e) ty.0 up ty.2 in
      let z = holds_from r pc start (after lat g t2 m e) end up ty.4 in
      let last : Condition = record { rule = RMtg; pos = m.pos; have = walk_end lat g c pc start; allowed = l.label; side = OfLevel k l.written } in (
        (
          ty.1,
          both_hold lat (conditions lat g c pc start) (last ∷ conditions lat g r pc start) body.0
              (ll.chain (walk_end lat g c pc start) ty.0 l.label body.1 ty.3, z.0),
        ),
        z.1,
      )

  -- a program is typed exactly where no condition is broken
  pub typed : (p : Tree) → first_broken lat (conditions lat g p lat.bottom lat.bottom) ≡ None → IsTyped lat g (bare p)
  typed p h = (walk_end lat g p lat.bottom lat.bottom, typed_from p lat.bottom lat.bottom (all_hold lat (conditions lat g p lat.bottom lat.bottom) h))

  pub not_broken : (p : Tree) → IsTyped lat g (bare p) → first_broken lat (conditions lat g p lat.bottom lat.bottom) ≡ None
  not_broken p ty = none_broken lat (conditions lat g p lat.bottom lat.bottom) (holds_from p lat.bottom lat.bottom lat.bottom ty.0 (ll.same lat.bottom) ty.1).0

pub none_or_some : (x : Option TypeFault) (r : TypeFault) → x ≡ None → x ≡ Some r → ⊥
none_or_some x r a b = let c : None ≡ Some r = sym a ∙ b in cc
