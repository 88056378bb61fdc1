-- The mitigates of a program and the lines that have a level, in order of the text.
use Rattle.std.proofs.Common.{◌≡◌, ℕ, suc, zero, ◌+◌, refl, sym, ap, ◌∙◌, List, [], ◌∷◌, length, take, get_or, arith}
use Rattle.std.specs.Prelude.{Option, None, Some}
use Rattle.label_lattice.specs.declared.label.Label.{Label}
use Rattle.label_lattice.specs.Lattice.{Lattice}
use Rattle.mit_syntax.specs.Todo.{Done, Skip, Assign, Put, Sleep, If, While, Mitigate}
use Rattle.mit_syntax.specs.Plan.{Plan, count, mitigates}
use Rattle.mit_syntax.specs.Valid.{AreNumbered}
use Rattle.timing_types.specs.Typing.{label_of}
use Rattle.timing_types.specs.Labelling.{label_at}
use Rattle.label_infer.specs.Given.{AllFrom}
use Rattle.type_cert.specs.declared.line.Line.{Line}
use Rattle.type_cert.specs.declared.place.Start.{Start}
use Rattle.type_cert.specs.declared.place.Start.TheVariants.{After, Within, Around}
use Rattle.type_cert.specs.declared.place.Close.{Close}
use Rattle.type_cert.specs.declared.place.Close.TheVariants.{Open, If as ClosesIf, While as ClosesWhile, Mitigate as ClosesMitigate}
use Rattle.type_cert.specs.declared.place.Place.{Place}
use Rattle.type_cert.specs.Places.{label, last_of, places}
use Rattle.type_cert.specs.Demands.{level_in, HasLevel}
use Rattle.type_cert.specs.Certificate.{line_at, before, levels_in}
use Rattle.type_cert.specs.Contents.{pc_before, pcs_in}
use Rattle.type_cert.proofs.Sound.{HasLevels, HasPcs, if_parts_at, one_part_at}

-- how many of the first lines have a level
abbrev pub marked : List Line → ℕ → ℕ
marked xs i = length (levels_in (take i xs))

abbrev counted : Option Label → ℕ
counted None = 0
counted (Some l) = 1

before_length : (v : Option Label) (ls : List Label) → length (before v ls) ≡ counted v + length ls
before_length None ls = omega arith
before_length (Some l) ls = omega arith

marked_next : (b : ℕ) (xs : List Line) (i : ℕ) → marked xs (suc i) ≡ marked xs i + counted (line_at b xs i).level
marked_next b [] zero = refl
marked_next b [] (suc i) = refl
marked_next b (x ∷ xs) zero = let h = before_length x.level [] in omega (arith, h)
marked_next b (x ∷ xs) (suc i) =
    let h = marked_next b xs i in
    let y = before_length x.level (levels_in (take (suc i) xs)) in
    let z = before_length x.level (levels_in (take i xs)) in
    omega (arith, h, y, z)

zero_add : (n : ℕ) → 0 + n ≡ n
zero_add n = omega arith

before_some : (d : Label) (v : Option Label) (ls : List Label) (n : ℕ) → get_or (before v ls) (counted v + n) d ≡ get_or ls n d
before_some d None ls n = ap (λ z. get_or ls z d) (zero_add n)
before_some d (Some l) ls n = ap (λ z. get_or (l ∷ ls) z d) e
  where
    e : 1 + n ≡ suc n
    e = omega arith

pc_some : (d pc : Label) (v : Option Label) (ls : List Label) (n : ℕ) → get_or (pc_before v pc ls) (counted v + n) d ≡ get_or ls n d
pc_some d pc None ls n = ap (λ z. get_or ls z d) (zero_add n)
pc_some d pc (Some l) ls n = ap (λ z. get_or (pc ∷ ls) z d) e
  where
    e : 1 + n ≡ suc n
    e = omega arith

module _ (b : ℕ) where
  abbrev low : Label
  low = record { number = b }

  none_here : {X : Type 0} (f : Label) → None ≡ Some f → X
  none_here f e = cc

  -- the level and the program-counter label of a line that has a level
  pub level_there : (xs : List Line) (i : ℕ) (f : Label) → (line_at b xs i).level ≡ Some f → get_or (levels_in xs) (marked xs i) low ≡ f
  level_there [] i f e = none_here f e
  level_there (x ∷ xs) zero f e = ap (λ z. get_or (before z (levels_in xs)) 0 low) e
  level_there (x ∷ xs) (suc i) f e =
      ap (λ z. get_or (before x.level (levels_in xs)) z low) (before_length x.level (levels_in (take i xs)))
      ∙ before_some low x.level (levels_in xs) (marked xs i) ∙ level_there xs i f e

  pub pc_there : (xs : List Line) (i : ℕ) (f : Label) → (line_at b xs i).level ≡ Some f → get_or (pcs_in xs) (marked xs i) low ≡ (line_at b xs i).pc
  pc_there [] i f e = none_here f e
  pc_there (x ∷ xs) zero f e = ap (λ z. get_or (pc_before z x.pc (pcs_in xs)) 0 low) e
  pc_there (x ∷ xs) (suc i) f e =
      ap (λ z. get_or (pcs_in (x ∷ xs)) z low) (before_length x.level (levels_in (take i xs)))
      ∙ pc_some low x.pc x.level (pcs_in xs) (marked xs i) ∙ pc_there xs i f e

pub same_lengths : (xs : List Line) → length (pcs_in xs) ≡ length (levels_in xs)
same_lengths [] = refl
same_lengths (x ∷ xs) = go x.level (same_lengths xs)
  where
    go : (v : Option Label) → length (pcs_in xs) ≡ length (levels_in xs) → length (pc_before v x.pc (pcs_in xs)) ≡ length (before v (levels_in xs))
    go None h = h
    go (Some l) h = ap suc h

module _ (lat : Lattice) (g : ℕ → ℕ) (xs : List Line) where
  abbrev E : ℕ → Line
  E = line_at lat.bottom xs

  abbrev ls : ℕ → ℕ
  ls = label_at lat.bottom (levels_in xs)

  abbrev at : ℕ → ℕ
  at = label_at lat.bottom (pcs_in xs)

  abbrev pub LevelAt : ℕ → Place → Type 0
  LevelAt i p = HasLevel p.act (E i).level

  abbrev P : Plan → ℕ → ℕ → Start → Close → List Place
  P = places lat g

  no_mark : (i k : ℕ) → (E i).level ≡ None → marked xs i ≡ k → marked xs (i + 1) ≡ k
  no_mark i k e h =
      let n = marked_next lat.bottom xs i in
      let z : counted (E i).level ≡ 0 = ap counted e in
      let s : i + 1 ≡ suc i = omega arith in
      ap (marked xs) s ∙ n ∙ ap (λ v. marked xs i + v) z ∙ (omega (arith, h))

  one_mark : (i k : ℕ) (f : Label) → (E i).level ≡ Some f → marked xs i ≡ k → marked xs (i + 1) ≡ k + 1
  one_mark i k f e h =
      let n = marked_next lat.bottom xs i in
      let z : counted (E i).level ≡ 1 = ap counted e in
      let s : i + 1 ≡ suc i = omega arith in
      ap (marked xs) s ∙ n ∙ ap (λ v. marked xs i + v) z ∙ (omega (arith, h))

  level_is : (i k : ℕ) (f : Label) → (E i).level ≡ Some f → marked xs i ≡ k → ls k ≡ level_in lat.bottom (E i).level
  level_is i k f e h =
      ap (λ z. label_at lat.bottom (levels_in xs) z) (sym h) ∙ ap (λ (z : Label). z.number) (level_there lat.bottom xs i f e) ∙ sym (ap (level_in lat.bottom) e)

  pc_is : (i k : ℕ) (f : Label) → (E i).level ≡ Some f → marked xs i ≡ k → at k ≡ (E i).pc.number
  pc_is i k f e h = ap (λ z. label_at lat.bottom (pcs_in xs) z) (sym h) ∙ ap (λ (z : Label). z.number) (pc_there lat.bottom xs i f e)

  pub record Marks (p : Plan) (i k : ℕ) : Type 0 where
    pub levels : HasLevels lat g E ls p i
    pub pcs : HasPcs lat g E ls at p i
    pub next : marked xs (i + count p) ≡ k + mitigates p

  at_end : (i j k m : ℕ) → i ≡ j → marked xs i ≡ k → k ≡ m → marked xs j ≡ m
  at_end i j k m e h f = ap (marked xs) (sym e) ∙ h ∙ f

  pub marks : (p : Plan) (i k pc : ℕ) (s : Start) (c : Close) → AreNumbered k p → AllFrom LevelAt i (P p i pc s c) → marked xs i ≡ k → Marks p i k
  marks Done i k pc s c num h m = record { levels = tt; pcs = tt; next = at_end i (i + 0) k (k + 0) (omega arith) m (omega arith) }
  marks (Skip w p) i k pc s c num h m =
      let q = marks p (i + 1) k pc (After i) c num h.1 (no_mark i k h.0 m) in
      record {
        levels = q.levels;
        pcs = q.pcs;
        next =
            at_end (i + 1 + count p) (i + (1 + count p)) (k + mitigates p) (k + mitigates p) (omega arith) q.next refl;
      }
  marks (Assign w x e p) i k pc s c num h m =
      let q = marks p (i + 1) k pc (After i) c num h.1 (no_mark i k h.0 m) in
      record {
        levels = q.levels;
        pcs = q.pcs;
        next =
            at_end (i + 1 + count p) (i + (1 + count p)) (k + mitigates p) (k + mitigates p) (omega arith) q.next refl;
      }
  marks (Put w f n j e p) i k pc s c num h m =
      let q = marks p (i + 1) k pc (After i) c num h.1 (no_mark i k h.0 m) in
      record {
        levels = q.levels;
        pcs = q.pcs;
        next =
            at_end (i + 1 + count p) (i + (1 + count p)) (k + mitigates p) (k + mitigates p) (omega arith) q.next refl;
      }
  marks (Sleep w e p) i k pc s c num h m =
      let q = marks p (i + 1) k pc (After i) c num h.1 (no_mark i k h.0 m) in
      record {
        levels = q.levels;
        pcs = q.pcs;
        next =
            at_end (i + 1 + count p) (i + (1 + count p)) (k + mitigates p) (k + mitigates p) (omega arith) q.next refl;
      }
  marks (If w e a b p) i k pc s c num h m =
      let inner = lat.join pc (label_of lat g e) in
      let start = Within i (label (label_of lat g e)) in
      let parts = if_parts_at lat g E ls LevelAt e a b p i pc c h.1 in
      let qa = marks a (i + 1) k inner start Open num.0 parts.0 (no_mark i k h.0 m) in
      let qb = marks b (i + 1 + count a) (k + mitigates a) inner start (ClosesIf i (last_of a (i + 1) (i + 1))) num.1 parts.1 qa.next in
      let q = marks p (i + 1 + count a + count b) (k + mitigates a + mitigates b) pc (After i) c num.2 parts.2 qb.next in
      record {
        levels = (qa.levels, qb.levels, q.levels);
        pcs = (qa.pcs, qb.pcs, q.pcs);
        next = at_end (i + 1 + count a + count b + count p) (i + (1 + count a + count b + count p)) (k + mitigates a + mitigates b + mitigates p)
            (k + (mitigates a + mitigates b + mitigates p)) (omega arith) q.next (omega arith);
      }
  marks (While w e d p) i k pc s c num h m =
      let inner = lat.join pc (label_of lat g e) in
      let parts = one_part_at lat g E ls LevelAt d p i inner pc (Around i) (ClosesWhile i) c h.1 in
      let qd = marks d (i + 1) k inner (Around i) (ClosesWhile i) num.0 parts.0 (no_mark i k h.0 m) in
      let q = marks p (i + 1 + count d) (k + mitigates d) pc (After i) c num.1 parts.1 qd.next in
      record {
        levels = (qd.levels, q.levels);
        pcs = (qd.pcs, q.pcs);
        next = at_end (i + 1 + count d + count p) (i + (1 + count d + count p)) (k + mitigates d + mitigates p) (k + (mitigates d + mitigates p))
            (omega arith) q.next (omega arith);
      }
  marks (Mitigate w j l e d p) i k pc s c num h m =
      let start = Within i (label (label_of lat g e)) in
      let own = h.0 in
      let parts = one_part_at lat g E ls LevelAt d p i pc pc start (ClosesMitigate i) c h.1 in
      let mj : marked xs i ≡ j = m ∙ sym num.0 in
      let qd = marks d (i + 1) (k + 1) pc start (ClosesMitigate i) num.1 parts.0 (one_mark i k own.0 own.1 m) in
      let q = marks p (i + 1 + count d) (k + 1 + mitigates d) pc (After i) c num.2 parts.1 qd.next in
      record {
        levels = (level_is i j own.0 own.1 mj, qd.levels, q.levels);
        pcs = (pc_is i j own.0 own.1 mj, qd.pcs, q.pcs);
        next = at_end (i + 1 + count d + count p) (i + (1 + count d + count p)) (k + 1 + mitigates d + mitigates p) (k + (1 + mitigates d + mitigates p))
            (omega arith) q.next (omega arith);
      }
