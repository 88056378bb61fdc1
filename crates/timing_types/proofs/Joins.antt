-- Joins as equations, and how they grow.
use Rattle.std.proofs.Common.{◌≡◌, ℕ}
use Rattle.label_lattice.specs.Lattice.{Lattice, Flows, IsLattice}

module _ (lat : Lattice) (ll : IsLattice lat) where
  pub from_left : (a b c : ℕ) → Flows lat (lat.join a b) c → Flows lat a c
  from_left a b c h = ll.chain a (lat.join a b) c (ll.left a b) h

  pub from_right : (a b c : ℕ) → Flows lat (lat.join a b) c → Flows lat b c
  from_right a b c h = ll.chain b (lat.join a b) c (ll.right a b) h

  pub join_up : (a b a' b' : ℕ) → Flows lat a a' → Flows lat b b' → Flows lat (lat.join a b) (lat.join a' b')
  join_up a b a' b' f h = ll.least a b (lat.join a' b') (ll.chain a a' (lat.join a' b') f (ll.left a' b')) (ll.chain b b' (lat.join a' b') h (ll.right a' b'))

  pub idem : (a : ℕ) → lat.join a a ≡ a
  idem a = ll.anti (lat.join a a) a (ll.least a a a (ll.same a) (ll.same a)) (ll.left a a)

  pub comm : (a b : ℕ) → lat.join a b ≡ lat.join b a
  comm a b = ll.anti (lat.join a b) (lat.join b a) (ll.least a b _ (ll.right b a) (ll.left b a)) (ll.least b a _ (ll.right a b) (ll.left a b))

  pub assoc : (a b c : ℕ) → lat.join (lat.join a b) c ≡ lat.join a (lat.join b c)
  assoc a b c =
      let l = lat.join (lat.join a b) c in
      let r = lat.join a (lat.join b c) in
      ll.anti l r
      (ll.least (lat.join a b) c r
      (ll.least a b r (ll.left a (lat.join b c)) (ll.chain b (lat.join b c) r (ll.left b c) (ll.right a (lat.join b c))))
      (ll.chain c (lat.join b c) r (ll.right b c) (ll.right a (lat.join b c))))
      (ll.least a (lat.join b c) l
      (ll.chain a (lat.join a b) l (ll.left a b) (ll.left (lat.join a b) c))
      (ll.least b c l (ll.chain b (lat.join a b) l (ll.right a b) (ll.left (lat.join a b) c)) (ll.right (lat.join a b) c)))

  -- b is above a
  pub absorbs : (a b : ℕ) → Flows lat a b → lat.join b a ≡ b
  absorbs a b f = ll.anti (lat.join b a) b (ll.least b a b (ll.same b) f) (ll.left b a)
