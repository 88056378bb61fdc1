-- The code of a program, with HALT below it, has known depths.
use Rattle.std.proofs.Common.{◌≡◌, ◌<◌, ◌≤◌, ◌+◌, ℕ, zero, suc, List, [], ◌∷◌, ◌++◌, length, refl, sym, ap, subst, arith, length-append, append_assoc, get_or}
use Rattle.std.proofs.Common.{Some}
use Rattle.std.specs.Prelude.{slice_get}
use Rattle.std.proofs.Math.Seq.{get_or-append_seam}
use Rattle.mit_syntax.specs.Expression.{Expression, Number, Variable, Binary, Element}
use Rattle.mit_syntax.specs.Todo.{Marks, Marked, Done, Skip, Assign, Put, Sleep, If, While, Mitigate}
use Rattle.label_lattice.specs.Order.{Order}
use Rattle.label_lattice.specs.Lattice.{Lattice}
use Rattle.label_code.specs.declared.code.Instr.{Instr}
use Rattle.label_code.specs.declared.code.Work.{Work}
use Rattle.label_code.specs.declared.code.Work.TheVariants.{Store, StoreAt, Brz, Brnz, Jmp, Sleep as SleepWork, Mitb, Mite, Nop, Halt}
use Rattle.label_code.specs.Machine.{label, instr}
use Rattle.label_code.specs.Shaped.{Depths, Arrives, Leads, IsShaped, InRange, takes, leaves, opens, closes}
use Rattle.code_lower.specs.Layout.{expr_size, size, raised}
use Rattle.code_lower.specs.Code.{expr_code, code_of, image_of}
use Rattle.code_lower.specs.Depth.{expr_operands, most_operands, deepest}
use Rattle.code_lower.proofs.Stands.{length-expr_code, length-code_of}

-- variables and labels are in range
abbrev pub AllInRange : ℕ → ℕ → List Instr → Type 0
AllInRange vars labels [] = Unit {0}
AllInRange vars labels (i ∷ is) = (InRange vars labels i.work × (i.er.number < labels) × (i.ew.number < labels)) × AllInRange vars labels is

-- the depths at a place
pub record Spot : Type 0 where
  pub operands : ℕ
  pub nesting : ℕ

abbrev pub spot : ℕ → ℕ → Spot
spot d n = record { operands = d; nesting = n }

abbrev pub expr_spots : Expression → ℕ → ℕ → List Spot
expr_spots (Number x) d n = spot d n ∷ []
expr_spots (Variable x) d n = spot d n ∷ []
expr_spots (Binary o l r) d n = expr_spots l d n ++ (expr_spots r (d + 1) n ++ spot (d + 2) n ∷ [])
expr_spots (Element f k i) d n = expr_spots i d n ++ spot (d + 1) n ∷ []

abbrev pub spots : Marked → ℕ → List Spot
spots Done n = []
spots (Skip m r) n = spot 0 n ∷ spots r n
spots (Assign m x e r) n = expr_spots e 0 n ++ (spot 1 n ∷ spots r n)
spots (Put m f k i e r) n = expr_spots i 0 n ++ (expr_spots e 1 n ++ (spot 2 n ∷ spots r n))
spots (Sleep m e r) n = expr_spots e 0 n ++ (spot 1 n ∷ spots r n)
spots (If m e c d r) n = expr_spots e 0 n ++ (spot 1 n ∷ (spots c n ++ (spot 0 n ∷ (spots d n ++ spots r n))))
spots (While m e c r) n = expr_spots e 0 n ++ (spot 1 n ∷ (spots c n ++ (expr_spots e 0 n ++ (spot 1 n ∷ spots r n))))
spots (Mitigate m k l e c r) n = expr_spots e 0 n ++ (spot 1 n ∷ (spots c (n + 1) ++ (spot 0 (n + 1) ∷ spots r n)))

pub record At (ds : Depths) (a d n : ℕ) : Type 0 where
  pub operands : ds.operands a ≡ d
  pub nesting : ds.nesting a ≡ n

abbrev pub HasSpots : Depths → ℕ → List Spot → Type 0
HasSpots ds a [] = Unit {0}
HasSpots ds a (x ∷ xs) = At ds a x.operands x.nesting × HasSpots ds (a + 1) xs

pub record Deep (ds : Depths) (total a : ℕ) (i : Instr) : Type 0 where
  pub enough : takes i.work ≤ ds.operands a
  pub opened : closes i.work ≤ ds.nesting a
  pub leads : Leads ds total a i.work

abbrev pub DeepAt : Depths → ℕ → ℕ → List Instr → Type 0
DeepAt ds total a [] = Unit {0}
DeepAt ds total a (i ∷ is) = Deep ds total a i × DeepAt ds total (a + 1) is

front : (ds : Depths) (a : ℕ) (xs ys : List Spot) → HasSpots ds a (xs ++ ys) → HasSpots ds a xs
front ds a [] ys h = tt
front ds a (x ∷ xs) ys h = (h.0, front ds (a + 1) xs ys h.1)

back : (ds : Depths) (a : ℕ) (xs ys : List Spot) (b : ℕ) → a + length xs ≡ b → HasSpots ds a (xs ++ ys) → HasSpots ds b ys
back ds a [] ys b e h = let e' : a ≡ b = omega (arith, e) in subst (λ z. HasSpots ds z ys) e' h
back ds a (x ∷ xs) ys b e h = back ds (a + 1) xs ys b (omega (arith, e)) h.1

joined : (ds : Depths) (t a : ℕ) (xs ys : List Instr) (b : ℕ) → a + length xs ≡ b → DeepAt ds t a xs → DeepAt ds t b ys → DeepAt ds t a (xs ++ ys)
joined ds t a [] ys b e h k = let e' : b ≡ a = omega (arith, e) in subst (λ z. DeepAt ds t z ys) e' k
joined ds t a (x ∷ xs) ys b e h k = (h.0, joined ds t (a + 1) xs ys b (omega (arith, e)) h.1 k)

length-expr_spots : (e : Expression) (d n : ℕ) → length (expr_spots e d n) ≡ expr_size e
length-expr_spots (Number x) d n = refl
length-expr_spots (Variable x) d n = refl
length-expr_spots (Binary o l r) d n =
    let t : List Spot = spot (d + 2) n ∷ [] in
    omega (
      arith,
      length-append (expr_spots l d n) (expr_spots r (d + 1) n ++ t),
      length-append (expr_spots r (d + 1) n) t,
      length-expr_spots l d n,
      length-expr_spots r (d + 1) n,
    )
length-expr_spots (Element f k i) d n =
    let t : List Spot = spot (d + 1) n ∷ [] in omega (arith, length-append (expr_spots i d n) t, length-expr_spots i d n)

-- an expression begins at the depth that it is given
expr_start : (ds : Depths) (e : Expression) (a d n : ℕ) → HasSpots ds a (expr_spots e d n) → At ds a d n
expr_start ds (Number x) a d n h = h.0
expr_start ds (Variable x) a d n h = h.0
expr_start ds (Binary o l r) a d n h = expr_start ds l a d n (front ds a (expr_spots l d n) _ h)
expr_start ds (Element f k i) a d n h = expr_start ds i a d n (front ds a (expr_spots i d n) _ h)

deep_expr : (ds : Depths) (t : ℕ) (m : Marks) (e : Expression) (a d n b : ℕ) → a + expr_size e ≡ b → HasSpots ds a (expr_spots e d n) → At ds b (d + 1) n
    → b < t → DeepAt ds t a (expr_code m e)
deep_expr ds t m (Number x) a d n b q h k l =
    let k' : At ds (a + 1) (d + 1) n = subst (λ z. At ds z (d + 1) n) (sym q) k in (
      record {
        enough = omega arith;
        opened = omega arith;
        leads =
            record { within = omega (arith, q, l); operands = omega (arith, h.0.operands, k'.operands); nesting = omega (arith, h.0.nesting, k'.nesting) };
      },
      tt,
    )
deep_expr ds t m (Variable x) a d n b q h k l =
    let k' : At ds (a + 1) (d + 1) n = subst (λ z. At ds z (d + 1) n) (sym q) k in (
      record {
        enough = omega arith;
        opened = omega arith;
        leads =
            record { within = omega (arith, q, l); operands = omega (arith, h.0.operands, k'.operands); nesting = omega (arith, h.0.nesting, k'.nesting) };
      },
      tt,
    )
deep_expr ds t m (Binary o x r) a d n b q h k l =
    let hx = front ds a (expr_spots x d n) _ h in
    let hr' = back ds a (expr_spots x d n) _ (a + expr_size x) (omega (arith, length-expr_spots x d n)) h in
    let hr = front ds (a + expr_size x) (expr_spots r (d + 1) n) _ hr' in
    let c : ℕ = a + expr_size x + expr_size r in
    let ho = back ds (a + expr_size x) (expr_spots r (d + 1) n) _ c (omega (arith, length-expr_spots r (d + 1) n)) hr' in
    let k' : At ds (c + 1) (d + 1) n = subst (λ z. At ds z (d + 1) n) (omega (arith, q)) k in
    let ho2 : At ds c (d + 1 + 1) n = record { operands = omega (arith, ho.0.operands); nesting = ho.0.nesting } in
    joined ds t a (expr_code m x) _ (a + expr_size x) (omega (arith, length-expr_code m x))
    (deep_expr ds t m x a d n (a + expr_size x) refl hx (expr_start ds r (a + expr_size x) (d + 1) n hr) (omega (arith, q, l)))
    (joined ds t (a + expr_size x) (expr_code m r) _ c (omega (arith, length-expr_code m r))
    (deep_expr ds t m r (a + expr_size x) (d + 1) n c refl hr ho2 (omega (arith, q, l))) (
      record {
        enough = omega (arith, ho.0.operands);
        opened = omega arith;
        leads =
            record { within = omega (arith, q, l); operands = omega (arith, ho.0.operands, k'.operands); nesting = omega (arith, ho.0.nesting, k'.nesting) };
      },
      tt,
    ))
deep_expr ds t m (Element f j i) a d n b q h k l =
    let hi = front ds a (expr_spots i d n) _ h in
    let c : ℕ = a + expr_size i in
    let ho = back ds a (expr_spots i d n) _ c (omega (arith, length-expr_spots i d n)) h in
    let k' : At ds (c + 1) (d + 1) n = subst (λ z. At ds z (d + 1) n) (omega (arith, q)) k in
    joined ds t a (expr_code m i) _ c (omega (arith, length-expr_code m i))
    (deep_expr ds t m i a d n c refl hi ho.0 (omega (arith, q, l))) (
      record {
        enough = omega (arith, ho.0.operands);
        opened = omega arith;
        leads =
            record { within = omega (arith, q, l); operands = omega (arith, ho.0.operands, k'.operands); nesting = omega (arith, ho.0.nesting, k'.nesting) };
      },
      tt,
    )

length-spots : (p : Marked) (n : ℕ) → length (spots p n) ≡ size p
length-spots Done n = refl
length-spots (Skip m r) n = omega (arith, length-spots r n)
length-spots (Assign m x e r) n = omega (arith, length-append (expr_spots e 0 n) (spot 1 n ∷ spots r n), length-expr_spots e 0 n, length-spots r n)
length-spots (Put m f k i e r) n =
    omega (
      arith,
      length-append (expr_spots i 0 n) (expr_spots e 1 n ++ (spot 2 n ∷ spots r n)),
      length-append (expr_spots e 1 n) (spot 2 n ∷ spots r n),
      length-expr_spots i 0 n,
      length-expr_spots e 1 n,
      length-spots r n,
    )
length-spots (Sleep m e r) n = omega (arith, length-append (expr_spots e 0 n) (spot 1 n ∷ spots r n), length-expr_spots e 0 n, length-spots r n)
length-spots (If m e c d r) n =
    let s3 : List Spot = spots d n ++ spots r n in
    let s2 : List Spot = spots c n ++ (spot 0 n ∷ s3) in
    omega (
      arith,
      length-append (expr_spots e 0 n) (spot 1 n ∷ s2),
      length-append (spots c n) (spot 0 n ∷ s3),
      length-append (spots d n) (spots r n),
      length-expr_spots e 0 n,
      length-spots c n,
      length-spots d n,
      length-spots r n,
    )
length-spots (While m e c r) n =
    let s3 : List Spot = expr_spots e 0 n ++ (spot 1 n ∷ spots r n) in
    let s2 : List Spot = spots c n ++ s3 in
    omega (
      arith,
      length-append (expr_spots e 0 n) (spot 1 n ∷ s2),
      length-append (spots c n) s3,
      length-append (expr_spots e 0 n) (spot 1 n ∷ spots r n),
      length-expr_spots e 0 n,
      length-spots c n,
      length-spots r n,
    )
length-spots (Mitigate m k l e c r) n =
    let s2 : List Spot = spots c (n + 1) ++ (spot 0 (n + 1) ∷ spots r n) in
    omega (
      arith,
      length-append (expr_spots e 0 n) (spot 1 n ∷ s2),
      length-append (spots c (n + 1)) (spot 0 (n + 1) ∷ spots r n),
      length-expr_spots e 0 n,
      length-spots c (n + 1),
      length-spots r n,
    )

-- commands begin with no operand
start_at : (ds : Depths) (p : Marked) (a n b : ℕ) → a + size p ≡ b → HasSpots ds a (spots p n) → At ds b 0 n → At ds a 0 n
start_at ds Done a n b q h k = subst (λ z. At ds z 0 n) (omega (arith, q)) k
start_at ds (Skip m r) a n b q h k = h.0
start_at ds (Assign m x e r) a n b q h k = expr_start ds e a 0 n (front ds a (expr_spots e 0 n) _ h)
start_at ds (Put m f j i e r) a n b q h k = expr_start ds i a 0 n (front ds a (expr_spots i 0 n) _ h)
start_at ds (Sleep m e r) a n b q h k = expr_start ds e a 0 n (front ds a (expr_spots e 0 n) _ h)
start_at ds (If m e c d r) a n b q h k = expr_start ds e a 0 n (front ds a (expr_spots e 0 n) _ h)
start_at ds (While m e c r) a n b q h k = expr_start ds e a 0 n (front ds a (expr_spots e 0 n) _ h)
start_at ds (Mitigate m j l e c r) a n b q h k = expr_start ds e a 0 n (front ds a (expr_spots e 0 n) _ h)

arrives : (ds : Depths) (t a a' d n d' n' : ℕ) (w : Work) → At ds a d n → At ds a' d' n' → a' < t → d' + takes w ≡ d + leaves w
    → n' + closes w ≡ n + opens w → Arrives ds t a w a'
arrives ds t a a' d n d' n' w h k l p q = record { within = l; operands = rw (h.operands, k.operands) p; nesting = rw (h.nesting, k.nesting) q }

module _ (lat : Lattice) (g : ℕ → ℕ) (ds : Depths) (t : ℕ) where
  deep_todo : (p : Marked) (a n b : ℕ) → a + size p ≡ b → HasSpots ds a (spots p n) → At ds b 0 n → b < t → DeepAt ds t a (code_of lat g p a)
  deep_todo Done a n b q h k l = tt
  deep_todo (Skip m r) a n b q h k l =
      let kr = start_at ds r (a + 1) n b (omega (arith, q)) h.1 k in (
        record { enough = omega arith; opened = omega arith; leads = arrives ds t a (a + 1) 0 n 0 n Nop h.0 kr (omega (arith, q, l)) refl refl },
        deep_todo r (a + 1) n b (omega (arith, q)) h.1 k l,
      )
  deep_todo (Assign m x e r) a n b q h k l =
      let c : ℕ = a + expr_size e in
      let hs = back ds a (expr_spots e 0 n) _ c (omega (arith, length-expr_spots e 0 n)) h in
      let kr = start_at ds r (c + 1) n b (omega (arith, q)) hs.1 k in
      joined ds t a (expr_code m e) _ c (omega (arith, length-expr_code m e))
      (deep_expr ds t m e a 0 n c refl (front ds a (expr_spots e 0 n) _ h) hs.0 (omega (arith, q, l))) (
        record {
          enough = omega (arith, hs.0.operands);
          opened = omega arith;
          leads =
              arrives ds t c (c + 1) 1 n 0 n (Store x) hs.0 kr (omega (arith, q, l)) refl refl;
        },
        deep_todo r (c + 1) n b (omega (arith, q)) hs.1 k l,
      )
  deep_todo (Put m f j i e r) a n b q h k l =
      let c' : ℕ = a + expr_size i in
      let c : ℕ = a + expr_size i + expr_size e in
      let h' = back ds a (expr_spots i 0 n) _ c' (omega (arith, length-expr_spots i 0 n)) h in
      let he = front ds c' (expr_spots e 1 n) _ h' in
      let hs = back ds c' (expr_spots e 1 n) _ c (omega (arith, length-expr_spots e 1 n)) h' in
      let kr = start_at ds r (c + 1) n b (omega (arith, q)) hs.1 k in
      joined ds t a (expr_code m i) _ c' (omega (arith, length-expr_code m i))
      (deep_expr ds t m i a 0 n c' refl (front ds a (expr_spots i 0 n) _ h) (expr_start ds e c' 1 n he) (omega (arith, q, l)))
      (joined ds t c' (expr_code m e) _ c (omega (arith, length-expr_code m e))
      (deep_expr ds t m e c' 1 n c refl he hs.0 (omega (arith, q, l))) (
        record {
          enough = omega (arith, hs.0.operands);
          opened = omega arith;
          leads =
              arrives ds t c (c + 1) 2 n 0 n (StoreAt f j) hs.0 kr (omega (arith, q, l)) refl refl;
        },
        deep_todo r (c + 1) n b (omega (arith, q)) hs.1 k l,
      ))
  deep_todo (Sleep m e r) a n b q h k l =
      let c : ℕ = a + expr_size e in
      let hs = back ds a (expr_spots e 0 n) _ c (omega (arith, length-expr_spots e 0 n)) h in
      let kr = start_at ds r (c + 1) n b (omega (arith, q)) hs.1 k in
      joined ds t a (expr_code m e) _ c (omega (arith, length-expr_code m e))
      (deep_expr ds t m e a 0 n c refl (front ds a (expr_spots e 0 n) _ h) hs.0 (omega (arith, q, l))) (
        record {
          enough = omega (arith, hs.0.operands);
          opened = omega arith;
          leads =
              arrives ds t c (c + 1) 1 n 0 n SleepWork hs.0 kr (omega (arith, q, l)) refl refl;
        },
        deep_todo r (c + 1) n b (omega (arith, q)) hs.1 k l,
      )
  deep_todo (If m e c d r) a n b q h k l =
      let b0 : ℕ = a + expr_size e in
      let j : ℕ = b0 + 1 + size c in
      let z : ℕ = j + 1 + size d in
      let h1 = back ds a (expr_spots e 0 n) _ b0 (omega (arith, length-expr_spots e 0 n)) h in
      let hc = front ds (b0 + 1) (spots c n) _ h1.1 in
      let h3 = back ds (b0 + 1) (spots c n) _ j (omega (arith, length-spots c n)) h1.1 in
      let hd = front ds (j + 1) (spots d n) _ h3.1 in
      let hr = back ds (j + 1) (spots d n) _ z (omega (arith, length-spots d n)) h3.1 in
      let kr = start_at ds r z n b (omega (arith, q)) hr k in
      let kd = start_at ds d (j + 1) n z refl hd kr in
      let kc = start_at ds c (b0 + 1) n j refl hc h3.0 in
      joined ds t a (expr_code m e) _ b0 (omega (arith, length-expr_code m e))
      (deep_expr ds t m e a 0 n b0 refl (front ds a (expr_spots e 0 n) _ h) h1.0 (omega (arith, q, l))) (
        record {
          enough = omega (arith, h1.0.operands);
          opened = omega arith;
          leads = (
            arrives ds t b0 (b0 + 1) 1 n 0 n (Brz (j + 1)) h1.0 kc (omega (arith, q, l)) refl refl,
            arrives ds t b0 (j + 1) 1 n 0 n (Brz (j + 1)) h1.0 kd (omega (arith, q, l)) refl refl,
          );
        },
        joined ds t (b0 + 1) (code_of lat g c (b0 + 1)) _ j (omega (arith, length-code_of lat g c (b0 + 1)))
            (deep_todo c (b0 + 1) n j refl hc h3.0 (omega (arith, q, l))) (
              record { enough = omega arith; opened = omega arith; leads = arrives ds t j z 0 n 0 n (Jmp z) h3.0 kr (omega (arith, q, l)) refl refl },
              joined ds t (j + 1) (code_of lat g d (j + 1)) _ z (omega (arith, length-code_of lat g d (j + 1)))
                  (deep_todo d (j + 1) n z refl hd kr (omega (arith, q, l)))
                  (deep_todo r z n b (omega (arith, q)) hr k l),
            ),
      )
  deep_todo (While m e c r) a n b q h k l =
      let b0 : ℕ = a + expr_size e in
      let j : ℕ = b0 + 1 + size c in
      let u : ℕ = j + expr_size e in
      let z : ℕ = u + 1 in
      let h1 = back ds a (expr_spots e 0 n) _ b0 (omega (arith, length-expr_spots e 0 n)) h in
      let hc = front ds (b0 + 1) (spots c n) _ h1.1 in
      let h3 = back ds (b0 + 1) (spots c n) _ j (omega (arith, length-spots c n)) h1.1 in
      let he = front ds j (expr_spots e 0 n) _ h3 in
      let hu = back ds j (expr_spots e 0 n) _ u (omega (arith, length-expr_spots e 0 n)) h3 in
      let kr = start_at ds r z n b (omega (arith, q)) hu.1 k in
      let kj = expr_start ds e j 0 n he in
      let kc = start_at ds c (b0 + 1) n j refl hc kj in
      joined ds t a (expr_code m e) _ b0 (omega (arith, length-expr_code m e))
      (deep_expr ds t m e a 0 n b0 refl (front ds a (expr_spots e 0 n) _ h) h1.0 (omega (arith, q, l))) (
        record {
          enough = omega (arith, h1.0.operands);
          opened = omega arith;
          leads = (
            arrives ds t b0 (b0 + 1) 1 n 0 n (Brz z) h1.0 kc (omega (arith, q, l)) refl refl,
            arrives ds t b0 z 1 n 0 n (Brz z) h1.0 kr (omega (arith, q, l)) refl refl,
          );
        },
        joined ds t (b0 + 1) (code_of lat g c (b0 + 1)) _ j (omega (arith, length-code_of lat g c (b0 + 1)))
            (deep_todo c (b0 + 1) n j refl hc kj (omega (arith, q, l)))
            (joined ds t j (expr_code (raised lat g e m) e) _ u (omega (arith, length-expr_code (raised lat g e m) e))
            (deep_expr ds t (raised lat g e m) e j 0 n u refl he hu.0 (omega (arith, q, l))) (
              record {
                enough = omega (arith, hu.0.operands);
                opened = omega arith;
                leads = (
                  arrives ds t u z 1 n 0 n (Brnz (b0 + 1)) hu.0 kr (omega (arith, q, l)) refl refl,
                  arrives ds t u (b0 + 1) 1 n 0 n (Brnz (b0 + 1)) hu.0 kc (omega (arith, q, l)) refl refl,
                );
              },
              deep_todo r z n b (omega (arith, q)) hu.1 k l,
            )),
      )
  deep_todo (Mitigate m y v e c r) a n b q h k l =
      let b0 : ℕ = a + expr_size e in
      let j : ℕ = b0 + 1 + size c in
      let h1 = back ds a (expr_spots e 0 n) _ b0 (omega (arith, length-expr_spots e 0 n)) h in
      let hc = front ds (b0 + 1) (spots c (n + 1)) _ h1.1 in
      let h3 = back ds (b0 + 1) (spots c (n + 1)) _ j (omega (arith, length-spots c (n + 1))) h1.1 in
      let kr = start_at ds r (j + 1) n b (omega (arith, q)) h3.1 k in
      let kc = start_at ds c (b0 + 1) (n + 1) j refl hc h3.0 in
      joined ds t a (expr_code m e) _ b0 (omega (arith, length-expr_code m e))
      (deep_expr ds t m e a 0 n b0 refl (front ds a (expr_spots e 0 n) _ h) h1.0 (omega (arith, q, l))) (
        record {
          enough = omega (arith, h1.0.operands);
          opened = omega arith;
          leads =
              arrives ds t b0 (b0 + 1) 1 n 0 (n + 1) (Mitb (label v) y) h1.0 kc (omega (arith, q, l)) refl (omega arith);
        },
        joined ds t (b0 + 1) (code_of lat g c (b0 + 1)) _ j (omega (arith, length-code_of lat g c (b0 + 1)))
            (deep_todo c (b0 + 1) (n + 1) j refl hc h3.0 (omega (arith, q, l))) (
              record {
                enough = omega arith;
                opened = omega (arith, h3.0.nesting);
                leads =
                    arrives ds t j (j + 1) 0 (n + 1) 0 n Mite h3.0 kr (omega (arith, q, l)) refl (omega arith);
              },
              deep_todo r (j + 1) n b (omega (arith, q)) h3.1 k l,
            ),
      )

-- the depths that a list of spots gives
abbrev depths_of : List Spot → Depths
depths_of xs = record { operands = λ k. (get_or xs k (spot 0 0)).operands; nesting = λ k. (get_or xs k (spot 0 0)).nesting }

-- no spot is deeper than these depths
abbrev AreWithin : ℕ → ℕ → List Spot → Type 0
AreWithin d n [] = Unit {0}
AreWithin d n (x ∷ xs) = ((x.operands ≤ d) × (x.nesting ≤ n)) × AreWithin d n xs

within_both : (d n : ℕ) (xs ys : List Spot) → AreWithin d n xs → AreWithin d n ys → AreWithin d n (xs ++ ys)
within_both d n [] ys h k = k
within_both d n (x ∷ xs) ys h k = (h.0, within_both d n xs ys h.1 k)

within_at : (d n : ℕ) (xs : List Spot) (k : ℕ) → AreWithin d n xs → ((get_or xs k (spot 0 0)).operands ≤ d) × ((get_or xs k (spot 0 0)).nesting ≤ n)
within_at d n [] k h = (omega arith, omega arith)
within_at d n (x ∷ xs) zero h = h.0
within_at d n (x ∷ xs) (suc k) h = within_at d n xs k h.1

-- an expression has a value
one_operand : (e : Expression) → 1 ≤ expr_operands e
one_operand (Number n) = omega arith
one_operand (Variable x) = omega arith
one_operand (Binary o l r) = omega arith
one_operand (Element f n i) = one_operand i

expr_within : (most deep : ℕ) (e : Expression) (d n : ℕ) → d + expr_operands e ≤ most → n ≤ deep → AreWithin most deep (expr_spots e d n)
expr_within most deep (Number x) d n h k = ((omega (arith, h), k), tt)
expr_within most deep (Variable x) d n h k = ((omega (arith, h), k), tt)
expr_within most deep (Binary o l r) d n h k =
    let p = one_operand r in
    within_both most deep (expr_spots l d n) (expr_spots r (d + 1) n ++ spot (d + 2) n ∷ []) (expr_within most deep l d n (omega (arith, h)) k)
    (within_both most deep (expr_spots r (d + 1) n) (spot (d + 2) n ∷ []) (expr_within most deep r (d + 1) n (omega (arith, h)) k) (
      (omega (arith, h, p), k),
      tt,
    ))
expr_within most deep (Element f j i) d n h k =
    let p = one_operand i in
    within_both most deep (expr_spots i d n) (spot (d + 1) n ∷ []) (expr_within most deep i d n h k) ((omega (arith, h, p), k), tt)

module _ (most deep : ℕ) where
  both : (xs ys : List Spot) → AreWithin most deep xs → AreWithin most deep ys → AreWithin most deep (xs ++ ys)
  both = within_both most deep

  spots_within : (p : Marked) (n : ℕ) → most_operands p ≤ most → n + deepest p ≤ deep → AreWithin most deep (spots p n)
  spots_within Done n h k = tt
  spots_within (Skip m r) n h k = ((omega arith, omega (arith, k)), spots_within r n h k)
  spots_within (Assign m x e r) n h k =
      let p = one_operand e in
      both (expr_spots e 0 n) (spot 1 n ∷ spots r n) (expr_within most deep e 0 n (omega (arith, h)) (omega (arith, k)))
      ((omega (arith, h, p), omega (arith, k)), spots_within r n (omega (arith, h)) k)
  spots_within (Put m f j i e r) n h k =
      let p = one_operand e in
      both (expr_spots i 0 n) (expr_spots e 1 n ++ (spot 2 n ∷ spots r n)) (expr_within most deep i 0 n (omega (arith, h)) (omega (arith, k)))
      (both (expr_spots e 1 n) (spot 2 n ∷ spots r n) (expr_within most deep e 1 n (omega (arith, h)) (omega (arith, k)))
      ((omega (arith, h, p), omega (arith, k)), spots_within r n (omega (arith, h)) k))
  spots_within (Sleep m e r) n h k =
      let p = one_operand e in
      both (expr_spots e 0 n) (spot 1 n ∷ spots r n) (expr_within most deep e 0 n (omega (arith, h)) (omega (arith, k)))
      ((omega (arith, h, p), omega (arith, k)), spots_within r n (omega (arith, h)) k)
  spots_within (If m e c d r) n h k =
      let p = one_operand e in
      both (expr_spots e 0 n) (spot 1 n ∷ (spots c n ++ (spot 0 n ∷ (spots d n ++ spots r n))))
      (expr_within most deep e 0 n (omega (arith, h)) (omega (arith, k))) (
        (omega (arith, h, p), omega (arith, k)),
        both (spots c n) (spot 0 n ∷ (spots d n ++ spots r n)) (spots_within c n (omega (arith, h)) (omega (arith, k))) (
          (omega arith, omega (arith, k)),
          both (spots d n) (spots r n) (spots_within d n (omega (arith, h)) (omega (arith, k))) (spots_within r n (omega (arith, h)) (omega (arith, k))),
        ),
      )
  spots_within (While m e c r) n h k =
      let p = one_operand e in
      let t = expr_within most deep e 0 n (omega (arith, h)) (omega (arith, k)) in
      both (expr_spots e 0 n) (spot 1 n ∷ (spots c n ++ (expr_spots e 0 n ++ (spot 1 n ∷ spots r n)))) t (
        (omega (arith, h, p), omega (arith, k)),
        both (spots c n) (expr_spots e 0 n ++ (spot 1 n ∷ spots r n)) (spots_within c n (omega (arith, h)) (omega (arith, k)))
            (both (expr_spots e 0 n) (spot 1 n ∷ spots r n) t (
              (omega (arith, h, p), omega (arith, k)),
              spots_within r n (omega (arith, h)) (omega (arith, k)),
            )),
      )
  spots_within (Mitigate m y v e c r) n h k =
      let p = one_operand e in
      both (expr_spots e 0 n) (spot 1 n ∷ (spots c (n + 1) ++ (spot 0 (n + 1) ∷ spots r n)))
      (expr_within most deep e 0 n (omega (arith, h)) (omega (arith, k))) (
        (omega (arith, h, p), omega (arith, k)),
        both (spots c (n + 1)) (spot 0 (n + 1) ∷ spots r n) (spots_within c (n + 1) (omega (arith, h)) (omega (arith, k)))
            ((omega arith, omega (arith, k)), spots_within r n (omega (arith, h)) (omega (arith, k))),
      )

spots_stand : (xs pre : List Spot) (a : ℕ) → length pre ≡ a → HasSpots (depths_of (pre ++ xs)) a xs
spots_stand [] pre a e = tt
spots_stand (x ∷ xs) pre a e =
    let here : get_or (pre ++ x ∷ xs) a (spot 0 0) ≡ x = subst (λ z. get_or (pre ++ x ∷ xs) z (spot 0 0) ≡ x) e (get_or-append_seam pre x xs (spot 0 0)) in
    let n : length (pre ++ x ∷ []) ≡ a + 1 = omega (arith, length-append pre (x ∷ []), e) in (
      record { operands = ap (λ s. s.operands) here; nesting = ap (λ s. s.nesting) here },
      subst (λ l. HasSpots (depths_of l) (a + 1) xs) (append_assoc pre (x ∷ []) xs) (spots_stand xs (pre ++ x ∷ []) (a + 1) n),
    )

each_is : (ds : Depths) (t vars labels a : ℕ) (is : List Instr) → DeepAt ds t a is → AllInRange vars labels is → (k : ℕ) (i : Instr) → slice_get is k ≡ Some i →
    Deep ds t (a + k) i × (InRange vars labels i.work × (i.er.number < labels) × (i.ew.number < labels))
each_is ds t vars labels a [] h r k i e = cc
each_is ds t vars labels a (x ∷ xs) h r zero i e =
    let same : x ≡ i = cc in
    let place : a ≡ a + 0 = omega arith in
    subst (λ z. Deep ds t (a + 0) z × (InRange vars labels z.work × (z.er.number < labels) × (z.ew.number < labels))) same
    (subst (λ z. Deep ds t z x) place h.0, r.0)
each_is ds t vars labels a (x ∷ xs) h r (suc k) i e =
    let place : a + 1 + k ≡ a + suc k = omega arith in
    let b = each_is ds t vars labels (a + 1) xs h.1 r.1 k i e in
    (subst (λ z. Deep ds t z i) place b.0, b.1)

-- a program's image is shaped, with the greatest depths of its commands
pub image_shaped : (lat : Lattice) (g : ℕ → ℕ) (p : Marked) (vars : ℕ) (order : Order) → vars ≤ 3072 →
    length (image_of lat g p) ≤ 200000 → AllInRange vars order.size (image_of lat g p) →
    IsShaped (record { instrs = image_of lat g p; variables = vars; order = order; operands = most_operands p; nesting = deepest p })
image_shaped lat g p vars order v small range =
    let labels = order.size in
    let all : List Spot = spots p 0 ++ spot 0 0 ∷ [] in
    let ds : Depths = depths_of all in
    let code : List Instr = code_of lat g p 0 in
    let halt : Instr = instr Halt (record { er = lat.bottom; ew = lat.bottom }) in
    let long : length (image_of lat g p) ≡ size p + 1 = omega (arith, length-append code (halt ∷ []), length-code_of lat g p 0) in
    let stand = spots_stand all [] 0 refl in
    let last = back ds 0 (spots p 0) (spot 0 0 ∷ []) (size p) (omega (arith, length-spots p 0)) stand in
    let body = deep_todo lat g ds (length (image_of lat g p)) p 0 0 (size p) (omega arith) (front ds 0 (spots p 0) (spot 0 0 ∷ []) stand)
    last.0 (omega (arith, long)) in
    let deep : DeepAt ds (length (image_of lat g p)) 0 (image_of lat g p) =
    joined ds (length (image_of lat g p)) 0 code (halt ∷ []) (size p) (omega (arith, length-code_of lat g p 0)) body
    (record { enough = omega arith; opened = omega arith; leads = omega (arith, long) }, tt) in
    let begin = start_at ds p 0 0 (size p) (omega arith) (front ds 0 (spots p 0) (spot 0 0 ∷ []) stand) last.0 in
    let within : AreWithin (most_operands p) (deepest p) all =
    within_both (most_operands p) (deepest p) (spots p 0) (spot 0 0 ∷ []) (spots_within (most_operands p) (deepest p) p 0 (omega arith) (omega arith))
    ((omega arith, omega arith), tt) in (
      ds,
      record {
        some = omega (arith, long);
        small = small;
        variables = v;
        operands = begin.operands;
        nesting = begin.nesting;
        each = λ a i e.
            let b = each_is ds (length (image_of lat g p)) vars labels 0 (image_of lat g p) deep range a i e in
            let place : 0 + a ≡ a = omega arith in
            let d : Deep ds (length (image_of lat g p)) a i = subst (λ z. Deep ds (length (image_of lat g p)) z i) place b.0 in
            let w = within_at (most_operands p) (deepest p) all a within in
            record {
              enough = d.enough;
              opened = d.opened;
              few = w.0;
              shallow = w.1;
              range = b.1.0;
              er = b.1.1;
              ew = b.1.2;
              leads = d.leads;
            };
      },
    )
