-- The places of one command that has parts, and of the rest of its list.
use Rattle.std.proofs.Common.{◌≡◌, ℕ, ◌+◌, ◌<◌, refl, sym, ap, ◌∙◌, List, [], ◌∷◌, ◌++◌, length, append_assoc, length-append, arith}
use Rattle.std.specs.Prelude.{Option}
use Rattle.label_lattice.specs.Lattice.{Lattice}
use Rattle.label_lattice.specs.declared.label.Label.{Label}
use Rattle.mit_syntax.specs.Expression.{Expression}
use Rattle.mit_syntax.specs.Todo.{Done, Skip, Assign, Put, Sleep, If, While, Mitigate}
use Rattle.mit_syntax.specs.declared.ast.Command.{Command}
use Rattle.mit_syntax.specs.declared.ast.Form.{Form}
use Rattle.mit_syntax.specs.declared.ast.Form.{Skip as FSkip, Assign as FAssign, Put as FPut, Sleep as FSleep, If' as FIf, While' as FWhile}
use Rattle.mit_syntax.specs.declared.ast.Form.{Mitigate' as FMitigate}
use Rattle.mit_syntax.specs.Plan.{Written, Plan, form_plan, list_plan, count}
use Rattle.timing_types.specs.Typing.{label_of, index_label}
use Rattle.timing_types.specs.Walk.{here}
use Rattle.type_cert.specs.declared.place.Act.{Act}
use Rattle.type_cert.specs.declared.place.Act.TheVariants.{If as Branches, While as Loops, Mitigate as Mitigates}
use Rattle.type_cert.specs.declared.place.Start.{Start}
use Rattle.type_cert.specs.declared.place.Start.TheVariants.{After, Within, Around}
use Rattle.type_cert.specs.declared.place.Close.{Close}
use Rattle.type_cert.specs.declared.place.Close.TheVariants.{Open, If as ClosesIf, While as ClosesWhile, Mitigate as ClosesMitigate}
use Rattle.type_cert.specs.declared.place.Place.{Place}
use Rattle.type_cert.specs.Places.{label, place, closing, last_of, places}

module _ (lat : Lattice) (g : ℕ → ℕ) where
  abbrev P : Plan → ℕ → ℕ → Start → Close → List Place
  P = places lat g

  pub length_places : (p : Plan) (i pc : ℕ) (s : Start) (c : Close) → length (P p i pc s c) ≡ count p
  length_places Done i pc s c = refl
  length_places (Skip w p) i pc s c = let h = length_places p (i + 1) pc (After i) c in omega (arith, h)
  length_places (Assign w x e p) i pc s c = let h = length_places p (i + 1) pc (After i) c in omega (arith, h)
  length_places (Put w f n j e p) i pc s c = let h = length_places p (i + 1) pc (After i) c in omega (arith, h)
  length_places (Sleep w e p) i pc s c = let h = length_places p (i + 1) pc (After i) c in omega (arith, h)
  length_places (If w e a b p) i pc s c =
      let inner = lat.join pc (label_of lat g e) in
      let start = Within i (label (label_of lat g e)) in
      let joins = ClosesIf i (last_of a (i + 1) (i + 1)) in
      let x = length_places a (i + 1) inner start Open in
      let y = length_places b (i + 1 + count a) inner start joins in
      let z = length_places p (i + 1 + count a + count b) pc (After i) c in
      let u = length-append (P a (i + 1) inner start Open) (P b (i + 1 + count a) inner start joins ++ P p (i + 1 + count a + count b) pc (After i) c) in
      let v = length-append (P b (i + 1 + count a) inner start joins) (P p (i + 1 + count a + count b) pc (After i) c) in
      omega (arith, x, y, z, u, v)
  length_places (While w e d p) i pc s c =
      let inner = lat.join pc (label_of lat g e) in
      let x = length_places d (i + 1) inner (Around i) (ClosesWhile i) in
      let z = length_places p (i + 1 + count d) pc (After i) c in
      let u = length-append (P d (i + 1) inner (Around i) (ClosesWhile i)) (P p (i + 1 + count d) pc (After i) c) in
      omega (arith, x, z, u)
  length_places (Mitigate w k l e d p) i pc s c =
      let start = Within i (label (label_of lat g e)) in
      let x = length_places d (i + 1) pc start (ClosesMitigate i) in
      let z = length_places p (i + 1 + count d) pc (After i) c in
      let u = length-append (P d (i + 1) pc start (ClosesMitigate i)) (P p (i + 1 + count d) pc (After i) c) in
      omega (arith, x, z, u)

  -- the same places where the numbers are the same
  moved : (p : Plan) (i j pc pc' : ℕ) (s s' : Start) (c c' : Close) → i ≡ j → pc ≡ pc' → s ≡ s' → c ≡ c' → P p i pc s c ≡ P p j pc' s' c'
  moved p i j pc pc' s s' c c' a b d e = ap (λ z. P p z pc s c) a ∙ ap (λ z. P p j z s c) b ∙ ap (λ z. P p j pc' z c) d ∙ ap (λ z. P p j pc' s' z) e

  label_is : (l : Label) (n : ℕ) → l.number ≡ n → l ≡ label n
  label_is l n e = ap label e

  -- the place of a command that reads e, as code writes it
  own_place : (w : Written) (e : Expression) (pc h li : Label) (act : Act) (s : Start) (own c : Close) (rest : Plan) →
      li.number ≡ index_label lat g e → h.number ≡ lat.join pc.number li.number → own ≡ closing rest c →
      record { written = w.labels; pc = pc; here = h; act = act; start = s; close = own }
      ≡ place w.labels pc.number (here lat g pc.number e) act s (closing rest c)
  own_place w e pc h li act s own c rest hl hh hc =
      ap (λ (z : Label). record { written = w.labels; pc = pc; here = z; act = act; start = s; close = own })
      (label_is h (here lat g pc.number e) (hh ∙ ap (lat.join pc.number) hl))
      ∙ ap (λ (z : Close). place w.labels pc.number (here lat g pc.number e) act s z) hc

  module _ (w : Written) (e : Expression) (pc le h li : Label) (s : Start) (own : Close) (x : List Place) (hle : le.number ≡ label_of lat g e)
      (hli : li.number ≡ index_label lat g e)
      (hh : h.number ≡ lat.join pc.number li.number) (k : ℕ) (hk : k ≡ length x) where
    abbrev n : ℕ
    n = length x

    pub if_places : (q a b rest : Plan) (inner : Label) (pl : Place) (u y z : List Place) (c : Close) (last : ℕ) → q ≡ If w e a b rest → own ≡ closing rest c →
        inner.number ≡ lat.join pc.number le.number → pl ≡ record { written = w.labels; pc = pc; here = h; act = Branches le; start = s; close = own }
        → u ≡ x ++ pl ∷ [] →
        y ≡ u ++ P a (length u) inner.number (Within k le) Open → last ≡ last_of a (length u) (length u)
        → z ≡ y ++ P b (length y) inner.number (Within k le) (ClosesIf k last) →
        x ++ P q n pc.number s c ≡ z ++ P rest (length z) pc.number (After n) c
    if_places q a b rest inner pl u y z c last hq hc hi hp hu hy hlast hz =
        let lu = ap length hu ∙ length-append x (pl ∷ []) in
        let ly = ap length hy ∙ length-append u (P a (length u) inner.number (Within k le) Open) in
        let lz = ap length hz ∙ length-append y (P b (length y) inner.number (Within k le) (ClosesIf k last)) in
        let ca = length_places a (length u) inner.number (Within k le) Open in
        let cb = length_places b (length y) inner.number (Within k le) (ClosesIf k last) in
        let nu : length u ≡ n + 1 = omega (arith, lu) in
        let ny : length y ≡ n + 1 + count a = omega (arith, ly, ca, nu) in
        let nz : length z ≡ n + 1 + count a + count b = omega (arith, lz, cb, ny) in
        let l2 = label_of lat g e in
        let le2 : le ≡ label l2 = label_is le l2 hle in
        let from : Within n (label l2) ≡ Within k le = ap (λ (v : Label). Within n v) (sym le2) ∙ ap (λ (v : ℕ). Within v le) (sym hk) in
        let i2 : lat.join pc.number l2 ≡ inner.number = sym (hi ∙ ap (lat.join pc.number) hle) in
        let last2 : last_of a (n + 1) (n + 1) ≡ last = sym (hlast ∙ ap (λ v. last_of a v v) nu) in
        let own2 : place w.labels pc.number (here lat g pc.number e) (Branches (label l2)) s (closing rest c) ≡ pl =
        ap (λ (v : Label). place w.labels pc.number (here lat g pc.number e) (Branches v) s (closing rest c)) (sym le2)
        ∙ sym (own_place w e pc h li (Branches le) s own c rest hli hh hc) ∙ sym hp in
        let pa = moved a (n + 1) (length u) (lat.join pc.number l2) inner.number (Within n (label l2)) (Within k le) Open Open (sym nu) i2 from refl in
        let pb =
        moved b (n + 1 + count a) (length y) (lat.join pc.number l2) inner.number (Within n (label l2)) (Within k le) (ClosesIf n (last_of a (n + 1) (n + 1)))
        (ClosesIf k last) (sym ny) i2 from (ap (λ (v : ℕ). ClosesIf v (last_of a (n + 1) (n + 1))) (sym hk) ∙ ap (λ (v : ℕ). ClosesIf k v) last2) in
        let pr = moved rest (n + 1 + count a + count b) (length z) pc.number pc.number (After n) (After n) c c (sym nz) refl refl refl in
        let A = P a (length u) inner.number (Within k le) Open in
        let B = P b (length y) inner.number (Within k le) (ClosesIf k last) in
        let A0 = P a (n + 1) (lat.join pc.number l2) (Within n (label l2)) Open in
        let B0 = P b (n + 1 + count a) (lat.join pc.number l2) (Within n (label l2)) (ClosesIf n (last_of a (n + 1) (n + 1))) in
        let R0 = P rest (n + 1 + count a + count b) pc.number (After n) c in
        let R = P rest (length z) pc.number (After n) c in
        ap (λ v. x ++ P v n pc.number s c) hq
        ∙ ap (λ v. x ++ v ∷ (A0 ++ (B0 ++ R0))) own2
        ∙ ap (λ v. x ++ pl ∷ (v ++ (B0 ++ R0))) pa
        ∙ ap (λ v. x ++ pl ∷ (A ++ (v ++ R0))) pb
        ∙ ap (λ v. x ++ pl ∷ (A ++ (B ++ v))) pr
        ∙ sym (append_assoc x (pl ∷ []) (A ++ (B ++ R)))
        ∙ ap (λ v. v ++ (A ++ (B ++ R))) (sym hu)
        ∙ sym (append_assoc u A (B ++ R))
        ∙ ap (λ v. v ++ (B ++ R)) (sym hy)
        ∙ sym (append_assoc y B R)
        ∙ ap (λ v. v ++ R) (sym hz)

    pub one_places : (d rest : Plan) (inner pc2 : ℕ) (act act2 : Act) (from from2 : Start) (closes closes2 : Close) (pl : Place) (u y : List Place) (c : Close)
        → own ≡ closing rest c →
        pc2 ≡ inner → act2 ≡ act → from2 ≡ from → closes2 ≡ closes → pl ≡ record { written = w.labels; pc = pc; here = h; act = act; start = s; close = own }
        → u ≡ x ++ pl ∷ [] →
        y ≡ u ++ P d (length u) inner from closes →
        x ++ (place w.labels pc.number (here lat g pc.number e) act2 s (closing rest c) ∷ (P d (n + 1) pc2 from2 closes2
        ++ P rest (n + 1 + count d) pc.number (After n) c)) ≡ y ++ P rest (length y) pc.number (After n) c
    one_places d rest inner pc2 act act2 from from2 closes closes2 pl u y c hc hi ha hf hcl hp hu hy =
        let lu = ap length hu ∙ length-append x (pl ∷ []) in
        let ly = ap length hy ∙ length-append u (P d (length u) inner from closes) in
        let cd = length_places d (length u) inner from closes in
        let nu : length u ≡ n + 1 = omega (arith, lu) in
        let ny : length y ≡ n + 1 + count d = omega (arith, ly, cd, nu) in
        let own2 : place w.labels pc.number (here lat g pc.number e) act2 s (closing rest c) ≡ pl =
        ap (λ (v : Act). place w.labels pc.number (here lat g pc.number e) v s (closing rest c)) ha
        ∙ sym (own_place w e pc h li act s own c rest hli hh hc) ∙ sym hp in
        let pd = moved d (n + 1) (length u) pc2 inner from2 from closes2 closes (sym nu) hi hf hcl in
        let pr = moved rest (n + 1 + count d) (length y) pc.number pc.number (After n) (After n) c c (sym ny) refl refl refl in
        let D = P d (length u) inner from closes in
        let R0 = P rest (n + 1 + count d) pc.number (After n) c in
        let R = P rest (length y) pc.number (After n) c in
        ap (λ v. x ++ v ∷ (P d (n + 1) pc2 from2 closes2 ++ R0)) own2
        ∙ ap (λ v. x ++ pl ∷ (v ++ R0)) pd
        ∙ ap (λ v. x ++ pl ∷ (D ++ v)) pr
        ∙ sym (append_assoc x (pl ∷ []) (D ++ R))
        ∙ ap (λ v. v ++ (D ++ R)) (sym hu)
        ∙ sym (append_assoc u D R)
        ∙ ap (λ v. v ++ R) (sym hy)

    pub while_places : (q d rest : Plan) (inner : Label) (pl : Place) (u y : List Place) (c : Close) → q ≡ While w e d rest → own ≡ closing rest c →
        inner.number ≡ lat.join pc.number le.number → pl ≡ record { written = w.labels; pc = pc; here = h; act = Loops le; start = s; close = own }
        → u ≡ x ++ pl ∷ [] →
        y ≡ u ++ P d (length u) inner.number (Around k) (ClosesWhile k) →
        x ++ P q n pc.number s c ≡ y ++ P rest (length y) pc.number (After n) c
    while_places q d rest inner pl u y c hq hc hi hp hu hy =
        let l2 = label_of lat g e in
        let le2 : le ≡ label l2 = label_is le l2 hle in
        let i2 : lat.join pc.number l2 ≡ inner.number = sym (hi ∙ ap (lat.join pc.number) hle) in
        ap (λ v. x ++ P v n pc.number s c) hq
        ∙ one_places d rest inner.number (lat.join pc.number l2) (Loops le) (Loops (label l2)) (Around k) (Around n) (ClosesWhile k) (ClosesWhile n) pl u y c hc
        i2 (ap (λ (v : Label). Loops v) (sym le2)) (ap (λ (v : ℕ). Around v) (sym hk)) (ap (λ (v : ℕ). ClosesWhile v) (sym hk)) hp hu hy

    pub mitigate_places : (j : ℕ) (l : Option Label) (q d rest : Plan) (pl : Place) (u y : List Place) (c : Close)
        → q ≡ Mitigate w j l e d rest → own ≡ closing rest c →
        pl ≡ record { written = w.labels; pc = pc; here = h; act = Mitigates le l; start = s; close = own } → u ≡ x ++ pl ∷ [] →
        y ≡ u ++ P d (length u) pc.number (Within k le) (ClosesMitigate k) →
        x ++ P q n pc.number s c ≡ y ++ P rest (length y) pc.number (After n) c
    mitigate_places j l q d rest pl u y c hq hc hp hu hy =
        let l2 = label_of lat g e in
        let le2 : le ≡ label l2 = label_is le l2 hle in
        ap (λ v. x ++ P v n pc.number s c) hq
        ∙ one_places d rest pc.number pc.number (Mitigates le l) (Mitigates (label l2) l) (Within k le) (Within n (label l2)) (ClosesMitigate k)
        (ClosesMitigate n) pl u y c hc refl
        (ap (λ (v : Label). Mitigates v l) (sym le2)) (ap (λ (v : Label). Within n v) (sym le2) ∙ ap (λ (v : ℕ). Within v le) (sym hk))
        (ap (λ (v : ℕ). ClosesMitigate v) (sym hk)) hp hu hy

-- the last number of a list after a command that has parts
pub if_last : (w : Written) (e : Expression) (q a b rest : Plan) (n k last : ℕ) → q ≡ If w e a b rest → k ≡ n + 1 + count a + count b
    → last_of q n last ≡ last_of rest k n
if_last w e q a b rest n k last hq hk = ap (λ z. last_of z n last) hq ∙ ap (λ z. last_of rest z n) (sym hk)

pub while_last : (w : Written) (e : Expression) (q d rest : Plan) (n k last : ℕ) → q ≡ While w e d rest → k ≡ n + 1 + count d
    → last_of q n last ≡ last_of rest k n
while_last w e q d rest n k last hq hk = ap (λ z. last_of z n last) hq ∙ ap (λ z. last_of rest z n) (sym hk)

pub mitigate_last : (w : Written) (j : ℕ) (l : Option Label) (e : Expression) (q d rest : Plan) (n k last : ℕ) → q ≡ Mitigate w j l e d rest
    → k ≡ n + 1 + count d → last_of q n last ≡ last_of rest k n
mitigate_last w j l e q d rest n k last hq hk = ap (λ z. last_of z n last) hq ∙ ap (λ z. last_of rest z n) (sym hk)

-- a list that goes on
pub closing_command : (f : Form) (w : Written) (rest : Plan) (c : Close) → closing (form_plan f w rest) c ≡ Open
closing_command FSkip w rest c = refl
closing_command (FAssign x e) w rest c = refl
closing_command (FPut a n i e) w rest c = refl
closing_command (FSleep e) w rest c = refl
closing_command (FIf e s a s' b) w rest c = refl
closing_command (FWhile e s d) w rest c = refl
closing_command (FMitigate k e l s d) w rest c = refl

pub closing_some : (cs : List Command) (c : Close) → 0 < length cs → closing (list_plan cs) c ≡ Open
closing_some [] c h = absurd (omega (arith, h))
closing_some (x ∷ cs) c h = closing_command x.form (record { pos = x.pos; labels = x.labels }) (list_plan cs) c

pub closing_none : (cs : List Command) (c : Close) → length cs ≡ 0 → closing (list_plan cs) c ≡ c
closing_none [] c h = refl
closing_none (x ∷ cs) c h = absurd (omega (arith, h))

pub pushed : {A : Type 0} (x y : List A) (a : A) → y ≡ x ++ a ∷ [] → length y ≡ length x + 1
pushed x y a h = let l = ap length h ∙ length-append x (a ∷ []) in omega (arith, l)
