-- The end of the one walk moves with its start: so the end of a loop is where its turns start, and in the body of a loop, walked
-- from there, each walk ends where it starts.
use Rattle.std.proofs.Common.{◌≡◌, ℕ, refl, sym, ap, ◌∙◌}
use Rattle.mit_syntax.specs.Expression.{Expression}
use Rattle.mit_syntax.specs.Todo.{Todo, Done, Skip, Assign, Put, Sleep, If, While, Mitigate}
use Rattle.timing_types.specs.OneWalk.{Sides, How, AfterReading, AfterComputing, AfterReadLabel, AfterAssigning, reads, after, after_set, after_put, ends}

module _ {L M : Type 0} (A : Sides L M) (assoc : (x y z : L) → A.both (A.both x y) z ≡ A.both x (A.both y z))
    (comm : (x y : L) → A.both x y ≡ A.both y x) (idem : (x : L) → A.both x x ≡ x) where
  swap : (t u a : L) → A.both (A.both t u) a ≡ A.both (A.both t a) u
  swap t u a = assoc t u a ∙ ap (A.both t) (comm u a) ∙ sym (assoc t a u)

  twice : (x y u : L) → A.both (A.both x u) (A.both y u) ≡ A.both (A.both x y) u
  twice x y u =
      assoc x u (A.both y u) ∙ ap (A.both x) (sym (assoc u y u) ∙ ap (λ z. A.both z u) (comm u y) ∙ assoc y u u ∙ ap (A.both y) (idem u))
      ∙ sym (assoc x y u)

  after_moves : (how : How) (m : M) (t u : L) (e : Expression) → after A how (A.both t u) m e ≡ A.both (after A how t m e) u
  after_moves how m t u e = swap t u (A.both (reads A how m e) (A.read AfterReadLabel m))

  set_moves : (m : M) (t u : L) (x : ℕ) (e : Expression) → after_set A (A.both t u) m x e ≡ A.both (after_set A t m x e) u
  set_moves m t u x e =
      ap (λ z. A.both z (A.variable AfterAssigning m x)) (after_moves AfterComputing m t u e)
      ∙ swap (after A AfterComputing t m e) u (A.variable AfterAssigning m x)

  put_moves : (m : M) (t u : L) (f : ℕ) (i e : Expression) → after_put A (A.both t u) m f i e ≡ A.both (after_put A t m f i e) u
  put_moves m t u f i e = ap (λ z. A.both z (reads A AfterComputing m i)) (set_moves m t u f e) ∙ swap (after_set A t m f e) u (reads A AfterComputing m i)

  pub moves : {N : Type 0} (p : Todo M N) (t u : L) → ends A p (A.both t u) ≡ A.both (ends A p t) u
  moves Done t u = refl
  moves (Skip m p) t u = ap (ends A p) (swap t u (A.read AfterReadLabel m)) ∙ moves p _ u
  moves (Assign m x e p) t u = ap (ends A p) (set_moves m t u x e) ∙ moves p _ u
  moves (Put m f n i e p) t u = ap (ends A p) (put_moves m t u f i e) ∙ moves p _ u
  moves (Sleep m e p) t u = ap (ends A p) (after_moves AfterReading m t u e) ∙ moves p _ u
  moves (If m e a b p) t u =
      let start = after A AfterReading t m e in
      let ea = ap (ends A a) (after_moves AfterReading m t u e) ∙ moves a start u in
      let eb = ap (ends A b) (after_moves AfterReading m t u e) ∙ moves b start u in
      ap (λ z. ends A p (A.both z (ends A b (after A AfterReading (A.both t u) m e)))) ea
      ∙ ap (λ z. ends A p (A.both (A.both (ends A a start) u) z)) eb
      ∙ ap (ends A p) (twice (ends A a start) (ends A b start) u)
      ∙ moves p _ u
  moves (While m e c p) t u = ap (ends A p) (ap (ends A c) (after_moves AfterReading m t u e) ∙ moves c (after A AfterReading t m e) u) ∙ moves p _ u
  moves (Mitigate m k l e c p) t u = ap (ends A p) (after_moves AfterReading m t u e) ∙ moves p _ u

  -- the end has all that the start has
  pub grows : {N : Type 0} (p : Todo M N) (t : L) → A.both (ends A p t) t ≡ ends A p t
  grows p t = sym (moves p t t) ∙ ap (ends A p) (idem t)

  -- a walk from its end stays there
  pub stays : {N : Type 0} (p : Todo M N) (t : L) → ends A p (ends A p t) ≡ ends A p t
  stays p t = let w = ends A p t in ap (ends A p) (sym (grows p t) ∙ comm w t) ∙ moves p t w ∙ idem w

  -- what lies between equal ends is equal to them
  between : (t s e : L) → A.both s t ≡ s → A.both e s ≡ e → A.both t e ≡ t → e ≡ s
  between t s e a b c = sym b ∙ comm e s ∙ ap (λ z. A.both z e) (sym a) ∙ assoc s t e ∙ ap (A.both s) c ∙ a

  -- a walk that stays, by its first command and by the rest: from where the command ends the rest stays too
  pub stays_on : {N : Type 0} (all one rest : Todo M N) (t next : L) → ends A all t ≡ t → ends A all t ≡ ends A rest next → ends A one t ≡ next
      → ends A rest next ≡ next
  stays_on all one rest t next h is own =
      let e = ends A rest next in
      between t next e (ap (λ z. A.both z t) (sym own) ∙ grows one t ∙ own) (grows rest next) (ap (A.both t) (sym is ∙ h) ∙ idem t)

  up_after : (m : M) (t : L) (e : Expression) → A.both (after A AfterReading t m e) t ≡ after A AfterReading t m e
  up_after m t e = sym (after_moves AfterReading m t t e) ∙ ap (λ z. after A AfterReading z m e) (idem t)

  -- below what is below
  low : (t x y : L) → A.both t y ≡ t → A.both y x ≡ y → A.both t x ≡ t
  low t x y a b = ap (λ z. A.both z x) (sym a) ∙ assoc t y x ∙ ap (A.both t) b ∙ a

  -- so do the walks of a command's parts, where its own stays
  part_stays : {N : Type 0} (m : M) (e : Expression) (a p : Todo M N) (t both : L) → ends A p both ≡ t
      → A.both both (ends A a (after A AfterReading t m e)) ≡ both → ends A a (after A AfterReading t m e) ≡ after A AfterReading t m e
  part_stays m e a p t both h i =
      let start = after A AfterReading t m e in
      between t start (ends A a start) (up_after m t e) (grows a start)
      (low t (ends A a start) both (ap (λ z. A.both z both) (sym h) ∙ grows p both ∙ h) i)

  pub then_stays : {N : Type 0} (m : M) (e : Expression) (a b p : Todo M N) (t : L) → ends A (If m e a b p) t ≡ t
      → ends A a (after A AfterReading t m e) ≡ after A AfterReading t m e
  then_stays m e a b p t h =
      let ea = ends A a (after A AfterReading t m e) in
      let eb = ends A b (after A AfterReading t m e) in
      part_stays m e a p t (A.both ea eb) h (swap ea eb ea ∙ ap (λ z. A.both z eb) (idem ea))

  pub else_stays : {N : Type 0} (m : M) (e : Expression) (a b p : Todo M N) (t : L) → ends A (If m e a b p) t ≡ t
      → ends A b (after A AfterReading t m e) ≡ after A AfterReading t m e
  else_stays m e a b p t h =
      let ea = ends A a (after A AfterReading t m e) in
      let eb = ends A b (after A AfterReading t m e) in
      part_stays m e b p t (A.both ea eb) h (assoc ea eb eb ∙ ap (A.both ea) (idem eb))

  pub body_stays : {N : Type 0} (m : M) (e : Expression) (c p : Todo M N) (t : L) → ends A (While m e c p) t ≡ t
      → ends A c (after A AfterReading t m e) ≡ after A AfterReading t m e
  body_stays m e c p t h = let ec = ends A c (after A AfterReading t m e) in part_stays m e c p t ec h (idem ec)
