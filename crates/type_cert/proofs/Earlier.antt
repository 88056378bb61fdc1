-- A place looks back only: the demands on a line are the same where the lines before it are.
use Rattle.std.proofs.Common.{◌≡◌, ℕ, ◌+◌, ◌<◌, ◌≤◌, refl, sym, ap, ◌∙◌, subst, List, ◌++◌, arith, ◌⊎◌, inl, inr, ⊎_elim}
use Rattle.label_lattice.specs.Lattice.{Lattice, Flows}
use Rattle.mit_syntax.specs.Todo.{Done, Skip, Assign, Put, Sleep, If, While, Mitigate}
use Rattle.mit_syntax.specs.Plan.{Plan, count}
use Rattle.mit_syntax.specs.Declarations.{Declaration}
use Rattle.mit_syntax.specs.Valid.{AreSome, AreKnown}
use Rattle.timing_types.specs.Typing.{label_of}
use Rattle.label_infer.specs.Given.{AllFrom}
use Rattle.label_infer.proofs.Placed.{from_both}
use Rattle.type_cert.specs.declared.line.Line.{Line}
use Rattle.type_cert.specs.declared.place.Start.{Start}
use Rattle.type_cert.specs.declared.place.Start.TheVariants.{First, After, Within, Around}
use Rattle.type_cert.specs.declared.place.Close.{Close}
use Rattle.type_cert.specs.declared.place.Close.TheVariants.{Open, If as ClosesIf, While as ClosesWhile, Mitigate as ClosesMitigate}
use Rattle.type_cert.specs.declared.place.Place.{Place}
use Rattle.type_cert.specs.Places.{label, closing, last_of, places}
use Rattle.type_cert.specs.Demands.{start_of, level_in, Closes, Meets}
use Rattle.type_cert.proofs.Placing.{length_places}

abbrev pub StartsBack : ℕ → Start → Type 0
StartsBack i First = Unit {0}
StartsBack i (After j) = j < i
StartsBack i (Within j le) = j < i
StartsBack i (Around j) = j < i

abbrev pub ClosesBack : ℕ → Close → Type 0
ClosesBack i Open = Unit {0}
ClosesBack i (ClosesIf j k) = (j < i) × (k < i)
ClosesBack i (ClosesWhile j) = j < i
ClosesBack i (ClosesMitigate j) = j < i

abbrev pub LooksBack : ℕ → Place → Type 0
LooksBack i p = StartsBack i p.start × ClosesBack i p.close

later_close : (i j : ℕ) (c : Close) → i ≤ j → ClosesBack i c → ClosesBack j c
later_close i j Open le h = tt
later_close i j (ClosesIf a b) le h = let x = h.0 in let y = h.1 in (omega (arith, x, le), omega (arith, y, le))
later_close i j (ClosesWhile a) le h = omega (arith, h, le)
later_close i j (ClosesMitigate a) le h = omega (arith, h, le)

closing_back : (i : ℕ) (p : Plan) (c : Close) → ClosesBack i c → ClosesBack i (closing p c)
closing_back i Done c h = h
closing_back i (Skip w p) c h = tt
closing_back i (Assign w x e p) c h = tt
closing_back i (Put w f n j e p) c h = tt
closing_back i (Sleep w e p) c h = tt
closing_back i (If w e a b p) c h = tt
closing_back i (While w e d p) c h = tt
closing_back i (Mitigate w k l e d p) c h = tt

-- the last command of a list is in it
pub last_below : (p : Plan) (i last : ℕ) → AreSome p ⊎ (last < i) → last_of p i last < i + count p
last_below Done i last h = ⊎_elim (λ x. absurd x) (λ x. omega (arith, x)) h
last_below (Skip w p) i last h = let q = last_below p (i + 1) i (inr (omega arith)) in omega (arith, q)
last_below (Assign w x e p) i last h = let q = last_below p (i + 1) i (inr (omega arith)) in omega (arith, q)
last_below (Put w f n j e p) i last h = let q = last_below p (i + 1) i (inr (omega arith)) in omega (arith, q)
last_below (Sleep w e p) i last h = let q = last_below p (i + 1) i (inr (omega arith)) in omega (arith, q)
last_below (If w e a b p) i last h = let q = last_below p (i + 1 + count a + count b) i (inr (omega arith)) in omega (arith, q)
last_below (While w e d p) i last h = let q = last_below p (i + 1 + count d) i (inr (omega arith)) in omega (arith, q)
last_below (Mitigate w k l e d p) i last h = let q = last_below p (i + 1 + count d) i (inr (omega arith)) in omega (arith, q)

module _ (lat : Lattice) (g : ℕ → ℕ) (size : ℕ) (ds : List Declaration) where
  pub all_back : (p : Plan) (i pc : ℕ) (s : Start) (c : Close) → AreKnown size ds p → StartsBack i s → ClosesBack i c
      → AllFrom LooksBack i (places lat g p i pc s c)
  all_back Done i pc s c kn hs hc = tt
  all_back (Skip w p) i pc s c kn hs hc =
      ((hs, closing_back i p c hc), all_back p (i + 1) pc (After i) c kn.1 (omega arith) (later_close i (i + 1) c (omega arith) hc))
  all_back (Assign w x e p) i pc s c kn hs hc =
      ((hs, closing_back i p c hc), all_back p (i + 1) pc (After i) c kn.3 (omega arith) (later_close i (i + 1) c (omega arith) hc))
  all_back (Put w f n j e p) i pc s c kn hs hc =
      ((hs, closing_back i p c hc), all_back p (i + 1) pc (After i) c kn.4 (omega arith) (later_close i (i + 1) c (omega arith) hc))
  all_back (Sleep w e p) i pc s c kn hs hc =
      ((hs, closing_back i p c hc), all_back p (i + 1) pc (After i) c kn.2 (omega arith) (later_close i (i + 1) c (omega arith) hc))
  all_back (If w e a b p) i pc s c kn hs hc =
      let inner = lat.join pc (label_of lat g e) in
      let start = Within i (label (label_of lat g e)) in
      let ia = i + 1 in
      let ib = i + 1 + count a in
      let ip = i + 1 + count a + count b in
      let joins = ClosesIf i (last_of a (i + 1) (i + 1)) in
      let last = last_below a (i + 1) (i + 1) (inl kn.2) in
      let na = length_places lat g a ia inner start Open in
      let nb = length_places lat g b ib inner start joins in
      let ra = all_back a ia inner start Open kn.4 (omega arith) tt in
      let rb = all_back b ib inner start joins kn.5 (omega arith) (omega arith, omega (arith, last)) in
      let rp = all_back p ip pc (After i) c kn.6 (omega arith) (later_close i ip c (omega arith) hc) in (
        (hs, closing_back i p c hc),
        from_both LooksBack (places lat g a ia inner start Open) (places lat g b ib inner start joins
            ++ places lat g p ip pc (After i) c) ia ib (omega (arith, na)) ra
            (from_both LooksBack (places lat g b ib inner start joins) (places lat g p ip pc (After i) c) ib ip (omega (arith, nb)) rb rp),
      )
  all_back (While w e d p) i pc s c kn hs hc =
      let inner = lat.join pc (label_of lat g e) in
      let ip = i + 1 + count d in
      let nd = length_places lat g d (i + 1) inner (Around i) (ClosesWhile i) in
      let rd = all_back d (i + 1) inner (Around i) (ClosesWhile i) kn.3 (omega arith) (omega arith) in
      let rp = all_back p ip pc (After i) c kn.4 (omega arith) (later_close i ip c (omega arith) hc) in (
        (hs, closing_back i p c hc),
        from_both LooksBack (places lat g d (i + 1) inner (Around i) (ClosesWhile i)) (places lat g p ip pc (After i) c) (i + 1) ip (omega (arith, nd)) rd rp,
      )
  all_back (Mitigate w k l e d p) i pc s c kn hs hc =
      let start = Within i (label (label_of lat g e)) in
      let ip = i + 1 + count d in
      let nd = length_places lat g d (i + 1) pc start (ClosesMitigate i) in
      let rd = all_back d (i + 1) pc start (ClosesMitigate i) kn.4 (omega arith) (omega arith) in
      let rp = all_back p ip pc (After i) c kn.5 (omega arith) (later_close i ip c (omega arith) hc) in (
        (hs, closing_back i p c hc),
        from_both LooksBack (places lat g d (i + 1) pc start (ClosesMitigate i)) (places lat g p ip pc (After i) c) (i + 1) ip (omega (arith, nd)) rd rp,
      )

-- the demands where the lines before are the same
module _ (lat : Lattice) (E F : ℕ → Line) (i : ℕ) (same : (j : ℕ) → j < i → E j ≡ F j) where
  start_same : (s : Start) → StartsBack i s → start_of lat E s ≡ start_of lat F s
  start_same First h = refl
  start_same (After j) h = ap (λ (z : Line). z.end.number) (same j h)
  start_same (Within j le) h = ap (λ (z : Line). lat.join (lat.join z.start.number le.number) z.read.number) (same j h)
  start_same (Around j) h = ap (λ (z : Line). z.end.number) (same j h)

  closes_same : (c : Close) (e : ℕ) → ClosesBack i c → Closes lat E c e → Closes lat F c e
  closes_same Open e h k = tt
  closes_same (ClosesIf a b) e h k =
      sym (ap (λ (z : Line). z.end.number) (same a h.0)) ∙ k ∙ ap (λ (z : Line). lat.join z.end.number e) (same b h.1)
  closes_same (ClosesWhile a) e h k = k ∙ ap (λ (z : Line). z.end.number) (same a h)
  closes_same (ClosesMitigate a) e h k = subst (λ (z : Line). Flows lat e (level_in lat.bottom z.level)) (same a h) k

  pub meets_same : (p : Place) (x : Line) → LooksBack i p → Meets lat E p x → Meets lat F p x
  meets_same p x h m =
      record {
        pc = m.pc;
        start = m.start ∙ start_same p.start h.0;
        marks = m.marks;
        level = m.level;
        writes = m.writes;
        rule = m.rule;
        close = closes_same p.close x.end.number h.1 m.close;
      }
