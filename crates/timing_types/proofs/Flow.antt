-- The program counter's label flows to each start label, and that to the end label.
use Rattle.std.proofs.Common.{ℕ, subst}
use Rattle.mit_syntax.specs.Expression.{Expression}
use Rattle.mit_syntax.specs.Todo.{Marks, Marked, Done, Skip, Assign, Put, Sleep, If, While, Mitigate}
use Rattle.label_lattice.specs.Lattice.{Lattice, Flows, IsLattice}
use Rattle.timing_types.specs.Typing.{label_of, index_label, Types}

module _ (lat : Lattice) (ll : IsLattice lat) (g : ℕ → ℕ) where
  -- a part of a join
  pub from_left : (a b c : ℕ) → Flows lat (lat.join a b) c → Flows lat a c
  from_left a b c h = ll.chain a (lat.join a b) c (ll.left a b) h

  pub from_right : (a b c : ℕ) → Flows lat (lat.join a b) c → Flows lat b c
  from_right a b c h = ll.chain b (lat.join a b) c (ll.right a b) h

  -- the parts of what flows to an assigned variable
  pub record Parts (l li pc t er to : ℕ) : Type 0 where
    pub value : Flows lat l to
    pub index : Flows lat li to
    pub counter : Flows lat pc to
    pub time : Flows lat t to
    pub read : Flows lat er to

  pub parts : (l li pc t er to : ℕ) → Flows lat (lat.join (lat.join (lat.join (lat.join l li) pc) t) er) to → Parts l li pc t er to
  parts l li pc t er to h =
      let two = lat.join l li in
      let three = lat.join two pc in
      let four = lat.join three t in
      let h4 = from_left four er to h in
      let h3 = from_left three t to h4 in
      let h2 = from_left two pc to h3 in
      record {
        value = from_left l li to h2;
        index = from_right l li to h2;
        counter = from_right two pc to h3;
        time =
            from_right three t to h4;
        read = from_right four er to h;
      }

  -- of pc | li <= ew, the part on pc
  pub pc_to_ew : (pc : ℕ) (m : Marks) (e : Expression) → Flows lat (lat.join pc (index_label lat g e)) m.ew → Flows lat pc m.ew
  pc_to_ew pc m e q = from_left pc (index_label lat g e) m.ew q

  -- the start of what a guard leads to
  pub inner_flows : (pc t l er : ℕ) → Flows lat pc t → Flows lat (lat.join pc l) (lat.join (lat.join t l) er)
  inner_flows pc t l er h =
      let tl = lat.join t l in
      ll.chain (lat.join pc l) tl (lat.join tl er)
      (ll.least pc l tl (ll.chain pc t tl h (ll.left t l)) (ll.right t l))
      (ll.left tl er)

  pub start_flows : (t l er : ℕ) → Flows lat t (lat.join (lat.join t l) er)
  start_flows t l er = ll.chain t (lat.join t l) (lat.join (lat.join t l) er) (ll.left t l) (ll.left (lat.join t l) er)

  pub flows_to_end : (p : Marked) (pc t end : ℕ) → Flows lat pc t → Types lat g pc t p end → Flows lat t end
  flows_to_end Done pc t end h ty = subst (λ e. Flows lat t e) ty (ll.same t)
  flows_to_end (Skip m r) pc t end h ty =
      let t1 = lat.join t m.er in
      ll.chain t t1 end (ll.left t m.er) (flows_to_end r pc t1 end (ll.chain pc t t1 h (ll.left t m.er)) ty.1)
  flows_to_end (Assign m x e r) pc t end h ty =
      let to = (parts (label_of lat g e) (index_label lat g e) pc t m.er (g x) ty.0).time in
      ll.chain t (g x) end to (flows_to_end r pc (g x) end (ll.chain pc t (g x) h to) ty.2)
  flows_to_end (Put m f n i e r) pc t end h ty =
      let to = (parts (label_of lat g e) (lat.join (label_of lat g i) (index_label lat g e)) pc t m.er (g f) ty.0).time in
      ll.chain t (g f) end to (flows_to_end r pc (g f) end (ll.chain pc t (g f) h to) ty.2)
  flows_to_end (Sleep m e r) pc t end h ty =
      let l = label_of lat g e in
      let t1 = lat.join (lat.join t l) m.er in
      ll.chain t t1 end (start_flows t l m.er) (flows_to_end r pc t1 end (ll.chain pc t t1 h (start_flows t l m.er)) ty.1)
  flows_to_end (If m e a b r) pc t end h ty =
      let l = label_of lat g e in
      let t1 = lat.join (lat.join t l) m.er in
      let up = start_flows t l m.er in
      let ta = flows_to_end a (lat.join pc l) t1 ty.0 (inner_flows pc t l m.er h) ty.3 in
      let join = lat.join ty.0 ty.1 in
      let t2 : Flows lat t join = ll.chain t t1 join up (ll.chain t1 ty.0 join ta (ll.left ty.0 ty.1)) in
      ll.chain t join end t2 (flows_to_end r pc join end (ll.chain pc t join h t2) ty.5)
  flows_to_end (While m e c r) pc t end h ty =
      let l = label_of lat g e in
      let to : Flows lat t ty.0 = from_right l t ty.0 (from_left (lat.join l t) m.er ty.0 ty.2) in
      ll.chain t ty.0 end to (flows_to_end r pc ty.0 end (ll.chain pc t ty.0 h to) ty.4)
  flows_to_end (Mitigate m k v e c r) pc t end h ty =
      let l = label_of lat g e in
      let t1 = lat.join (lat.join t l) m.er in
      let up = start_flows t l m.er in
      ll.chain t t1 end up (flows_to_end r pc t1 end (ll.chain pc t t1 h up) ty.4)
