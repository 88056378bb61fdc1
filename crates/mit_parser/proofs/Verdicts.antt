-- What a verdict tells of the words.
use Rattle.std.proofs.Common.{◌≡◌, refl, ap, ◌∙◌, sym, subst, List, [], ◌∷◌, ◌++◌, Bool, true, false, cond, Option, Some, None}
use Rattle.mit_parser.specs.Words.{Told}
use Rattle.mit_parser.specs.declared.counts.Counts.{Counts}
use Rattle.mit_parser.specs.Machine.{Part, step, verdict, Bad, Deep, choice}
use Rattle.mit_parser.specs.Counting.{count, is_over, counts_after, Fits}

-- what is still to be read after some words
abbrev pub after : List Part → List Told → Option (List Part)
after s [] = Some s
after s (b ∷ r) = choice (step s b.symbol) None (λ t. after t r)

abbrev pub StopsAt : List Part → List Told → Type 0
StopsAt t [] = Unit {0}
StopsAt t (b ∷ r) = step t b.symbol ≡ None

pub record IsBad (s : List Part) (c : Counts) (i l : List Told) : Type 0 where
  pub before : List Told
  pub left : List Part
  pub are : i ≡ before ++ l
  pub reads : after s before ≡ Some left
  pub stops : StopsAt left l
  pub fit : Fits c before

pub record IsDeep (s : List Part) (c : Counts) (i l : List Told) : Type 0 where
  pub before : List Told
  pub left : List Part
  pub deep : Told
  pub rest : List Told
  pub next : List Part
  pub are : i ≡ before ++ l
  pub there : l ≡ deep ∷ rest
  pub reads : after s before ≡ Some left
  pub takes : step left deep.symbol ≡ Some next
  pub fit : Fits c before
  pub passes : is_over (count (counts_after c before) deep.symbol) ≡ true

-- the first step, and what is told of the rest
bad_at_limit : (s t : List Part) (c : Counts) (b : Told) (r l : List Told) (o : Bool) → is_over (count c b.symbol) ≡ o → step s b.symbol ≡ Some t
    → cond o (Deep (b ∷ r)) (verdict t (count c b.symbol) r) ≡ Bad l
    → (verdict t (count c b.symbol) r ≡ Bad l → IsBad t (count c b.symbol) r l) → IsBad s c (b ∷ r) l
bad_at_limit s t c b r l true h e v told = cc
bad_at_limit s t c b r l false h e v told =
    let k = told v in
    record {
      before = b ∷ k.before;
      left = k.left;
      are = ap (λ x. b ∷ x) k.are;
      reads = ap (λ o. choice o None (λ t. after t k.before)) e ∙ k.reads;
      stops = k.stops;
      fit = (h, k.fit);
    }

bad_at_step : (s : List Part) (c : Counts) (b : Told) (r l : List Told) (o : Option (List Part)) → step s b.symbol ≡ o
    → choice o (Bad (b ∷ r)) (λ t. cond (is_over (count c b.symbol)) (Deep (b ∷ r)) (verdict t (count c b.symbol) r)) ≡ Bad l
    → ((t : List Part) → verdict t (count c b.symbol) r ≡ Bad l → IsBad t (count c b.symbol) r l) → IsBad s c (b ∷ r) l
bad_at_step s c b r l None e v told =
    let here : l ≡ b ∷ r = cc in
    record { before = []; left = s; are = sym here; reads = refl; stops = subst (StopsAt s) (sym here) e; fit = tt }
bad_at_step s c b r l (Some t) e v told = bad_at_limit s t c b r l (is_over (count c b.symbol)) refl e v (told t)

pub tells_bad : (s : List Part) (c : Counts) (i l : List Told) → verdict s c i ≡ Bad l → IsBad s c i l
tells_bad s c [] l v =
    let here : l ≡ [] = cc in
    record { before = []; left = s; are = sym here; reads = refl; stops = subst (StopsAt s) (sym here) tt; fit = tt }
tells_bad s c (b ∷ r) l v = bad_at_step s c b r l (step s b.symbol) refl v (λ t. tells_bad t (count c b.symbol) r l)

deep_at_limit : (s t : List Part) (c : Counts) (b : Told) (r l : List Told) (o : Bool) → is_over (count c b.symbol) ≡ o → step s b.symbol ≡ Some t
    → cond o (Deep (b ∷ r)) (verdict t (count c b.symbol) r) ≡ Deep l
    → (verdict t (count c b.symbol) r ≡ Deep l → IsDeep t (count c b.symbol) r l) → IsDeep s c (b ∷ r) l
deep_at_limit s t c b r l true h e v told =
    let here : l ≡ b ∷ r = cc in
    record { before = []; left = s; deep = b; rest = r; next = t; are = sym here; there = here; reads = refl; takes = e; fit = tt; passes = h }
deep_at_limit s t c b r l false h e v told =
    let k = told v in
    record {
      before = b ∷ k.before;
      left = k.left;
      deep = k.deep;
      rest = k.rest;
      next = k.next;
      are = ap (λ x. b ∷ x) k.are;
      there = k.there;
      reads = ap (λ o. choice o None (λ t. after t k.before)) e ∙ k.reads;
      takes = k.takes;
      fit = (h, k.fit);
      passes = k.passes;
    }

deep_at_step : (s : List Part) (c : Counts) (b : Told) (r l : List Told) (o : Option (List Part)) → step s b.symbol ≡ o
    → choice o (Bad (b ∷ r)) (λ t. cond (is_over (count c b.symbol)) (Deep (b ∷ r)) (verdict t (count c b.symbol) r)) ≡ Deep l
    → ((t : List Part) → verdict t (count c b.symbol) r ≡ Deep l → IsDeep t (count c b.symbol) r l) → IsDeep s c (b ∷ r) l
deep_at_step s c b r l None e v told = cc
deep_at_step s c b r l (Some t) e v told = deep_at_limit s t c b r l (is_over (count c b.symbol)) refl e v (told t)

pub tells_deep : (s : List Part) (c : Counts) (i l : List Told) → verdict s c i ≡ Deep l → IsDeep s c i l
tells_deep s c [] l v = cc
tells_deep s c (b ∷ r) l v = deep_at_step s c b r l (step s b.symbol) refl v (λ t. tells_deep t (count c b.symbol) r l)

-- the first words that the machine can't take
abbrev pub stuck : List Part → List Told → Option (List Told)
stuck s [] = None
stuck s (b ∷ r) = choice (step s b.symbol) (Some (b ∷ r)) (λ t. stuck t r)

-- it is stuck there whatever follows

stuck_step : (s left : List Part) (b d : Told) (p w : List Told) (o : Option (List Part)) → step s b.symbol ≡ o → choice o None (λ t. after t p) ≡ Some left
    → ((t : List Part) → after t p ≡ Some left → stuck t (p ++ d ∷ w) ≡ Some (d ∷ w)) → stuck s (b ∷ (p ++ d ∷ w)) ≡ Some (d ∷ w)
stuck_step s left b d p w None e h told = cc
stuck_step s left b d p w (Some t) e h told = ap (λ o. choice o (Some (b ∷ (p ++ d ∷ w))) (λ t. stuck t (p ++ d ∷ w))) e ∙ told t h

pub stuck_after : (s left : List Part) (d : Told) (p w : List Told) → after s p ≡ Some left → step left d.symbol ≡ None → stuck s (p ++ d ∷ w) ≡ Some (d ∷ w)
stuck_after s left d [] w h n =
    let same : s ≡ left = cc in
    ap (λ o. choice o (Some (d ∷ w)) (λ t. stuck t w)) (ap (λ q. step q d.symbol) same ∙ n)
stuck_after s left d (b ∷ p) w h n = stuck_step s left b d p w (step s b.symbol) refl h (λ t k. stuck_after t left d p w k n)
