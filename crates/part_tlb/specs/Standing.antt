-- An environment of structures answers by the history that it stands for.
use Rattle.std.proofs.Common.{◌≡◌, ℕ, ◌+◌, ◌/◌, ◌<◌, List, [], ◌∷◌, ◌++◌, Bool, true, false, refl, sym, ap, ◌∙◌, subst, Option, Some, None, get_or, length}
use Rattle.std.proofs.Common.{drop, arith}
use Rattle.std.specs.Prelude.{cond, ◌||◌, IfSome}
use Rattle.std.specs.List.{All}
use Rattle.std.proofs.lemmas.List.{append-nil, append_assoc, drop_more}
use Rattle.std.proofs.lemmas.List.Elements.{All-head, All-tail}
use Rattle.label_lattice.specs.Order.{Order}
use Rattle.env_contract.specs.declared.place.Kind.{Kind}
use Rattle.env_contract.specs.declared.place.Kind.TheVariants as kind
use Rattle.env_contract.specs.declared.place.Place.{Place}
use Rattle.env_contract.specs.declared.place.Place.TheVariants.{Page, Code, Data, Second}
use Rattle.env_contract.specs.declared.place.Touch.{Touch}
use Rattle.part_cache.specs.declared.replacement.Replacement.{Replacement}
use Rattle.part_cache.specs.declared.replacement.Replacement.TheVariants.{LeastRecent}
use Rattle.part_cache.specs.History.{Touched, hits, hits_by}
use Rattle.part_cache.specs.Rows.{Rows, IsCacheOf, StandsBy, StandsFor, found, touched}
use Rattle.part_cache.proofs.Stands.{found_is, StandsBy-touched}
use Rattle.part_tlb.specs.declared.part.PartEnv.{PartEnv}
use Rattle.part_tlb.specs.declared.part2.Part2Env.{Part2Env}
use Rattle.part_tlb.specs.declared.bank.Bank.{Bank}
use Rattle.part_tlb.specs.declared.bank.Hardware.{Hardware}
use Rattle.part_tlb.specs.Machine.{is_place, line_place, home, touch_at, accessed, touches_in, hits_in, access_cost}
use Rattle.part_tlb.specs.Named.{buffer_bank, code_bank, data_bank, second_bank, part_machine, part2_machine}
use Rattle.part_tlb.specs.Sizes.{sets_at, ways_at, tag_at, touches_at}
use Rattle.part_tlb.specs.Structures.{IsMadeFor, StandsForAll, warmed}
use Rattle.part_tlb.specs.Envs.{part_structure, part_touched, part_penalty, part_after, part2_structure, part2_touched, part2_penalty, part2_after}
use Rattle.part_tlb.specs.Keeps.{Moves, touches, leaves, touch_serves}
use Rattle.part_tlb.specs.Laws.{part_moves, part2_moves, first_serves}

-- a touch as the bank at a place sees it
abbrev seen : Place → Touch → Touched
seen p x = record { label = x.label.number; tag = tag_at p x.address }

pub touches_at-push : (p : Place) (h : List Touch) (x : Touch) → touches_at p (h ++ x ∷ []) ≡ touches_at p h ++ cond (is_place p x.place) (seen p x ∷ []) []
touches_at-push p [] x = refl
touches_at-push p (y ∷ h) x = go (is_place p y.place) (touches_at-push p h x)
  where
    go : (b : Bool) → touches_at p (h ++ x ∷ []) ≡ touches_at p h ++ cond (is_place p x.place) (seen p x ∷ []) [] →
        cond b (seen p y ∷ touches_at p (h ++ x ∷ [])) (touches_at p (h ++ x ∷ []))
        ≡ cond b (seen p y ∷ touches_at p h) (touches_at p h) ++ cond (is_place p x.place) (seen p x ∷ []) []
    go true e = ap (λ t. seen p y ∷ t) e
    go false e = e

tag_same : (p q : Place) (a : ℕ) → is_place p q ≡ true → tag_at q a ≡ tag_at p a
tag_same Page Page a e = refl
tag_same Page Code a e = absurd (cc)
tag_same Page Data a e = absurd (cc)
tag_same Page Second a e = absurd (cc)
tag_same Code Page a e = absurd (cc)
tag_same Code Code a e = refl
tag_same Code Data a e = absurd (cc)
tag_same Code Second a e = absurd (cc)
tag_same Data Page a e = absurd (cc)
tag_same Data Code a e = absurd (cc)
tag_same Data Data a e = refl
tag_same Data Second a e = absurd (cc)
tag_same Second Page a e = absurd (cc)
tag_same Second Code a e = absurd (cc)
tag_same Second Data a e = absurd (cc)
tag_same Second Second a e = refl

-- what a bank of a machine sees, where labels have partitions of their own and its tags are those of the place
pub touches_are : (hw : Hardware) (order : Order) (b : Bank) (p : Place) → ((l : ℕ) → home hw order l ≡ l) → ((a : ℕ) → a / b.bytes ≡ tag_at p a)
    → (h : List Touch) → touches_at p h ≡ touches_in hw order b p h
touches_are hw order b p own tags [] = refl
touches_are hw order b p own tags (x ∷ h) = go (is_place p x.place) (touches_are hw order b p own tags h)
  where
    go : (c : Bool) → touches_at p h ≡ touches_in hw order b p h →
        cond c (seen p x ∷ touches_at p h) (touches_at p h)
        ≡ cond c (record { label = home hw order x.label.number; tag = x.address / b.bytes } ∷ touches_in hw order b p h) (touches_in hw order b p h)
    go true e =
        ap (λ t. seen p x ∷ t) e
        ∙ sym (ap (λ n. record { label = n; tag = tag_at p x.address } ∷ touches_in hw order b p h) (own x.label.number))
        ∙ sym (ap (λ n. record { label = home hw order x.label.number; tag = n } ∷ touches_in hw order b p h) (tags x.address))
    go false e = e

-- ---- touches
module _ {E : Type 0} (structure : Place → Option (E → Rows)) (touched_at : Place → ℕ → ℕ → E → E) (moves : (p q : Place)
    → IfSome (structure p) (Moves touched_at p q)) (order : Order) where
  pub touch_stands : (x : Touch) (e : E) (h : List Touch) → IsMadeFor structure order e → x.label.number < order.size → StandsForAll structure e h
      → StandsForAll structure (touched_at x.place (tag_at x.place x.address) x.label.number e) (h ++ x ∷ [])
  touch_stands x e h s in_range stands = record { each = λ p. go p (structure p) (s.each p) (stands.each p) (moves p x.place) }
    where
      tag : ℕ
      tag = tag_at x.place x.address

      ew : ℕ
      ew = x.label.number

      next : E
      next = touched_at x.place tag ew e

      here : (p : Place) → is_place p x.place ≡ true → touches_at p h ++ record { label = ew; tag = tag } ∷ [] ≡ touches_at p (h ++ x ∷ [])
      here p same =
          ap (λ n. touches_at p h ++ record { label = ew; tag = n } ∷ []) (tag_same p x.place x.address same)
          ∙ sym (touches_at-push p h x ∙ ap (λ b. touches_at p h ++ cond b (seen p x ∷ []) []) same)

      there : (p : Place) → is_place p x.place ≡ false → touches_at p h ≡ touches_at p (h ++ x ∷ [])
      there p apart = sym (touches_at-push p h x ∙ ap (λ b. touches_at p h ++ cond b (seen p x ∷ []) []) apart ∙ append-nil (touches_at p h))

      moved : (p : Place) (at : E → Rows) → IsCacheOf order (sets_at p) (ways_at p) (at e) → StandsFor (at e) (touches_at p h)
          → Moves touched_at p x.place at → StandsFor (at next) (touches_at p (h ++ x ∷ []))
      moved p at c d (touches same t) =
          subst (λ v. StandsFor v (touches_at p (h ++ x ∷ []))) (sym (t tag ew e))
          (subst (StandsFor (touched (at e) tag ew)) (here p same)
          (StandsBy-touched (at e) c.cache LeastRecent tag ew (touches_at p h) d))
      moved p at c d (leaves apart t) =
          subst (λ v. StandsFor v (touches_at p (h ++ x ∷ []))) (sym (t tag ew e)) (subst (StandsFor (at e)) (there p apart) d)

      go : (p : Place) (o : Option (E → Rows)) → IfSome o (λ at. IsCacheOf order (sets_at p) (ways_at p) (at e))
          → IfSome o (λ at. StandsFor (at e) (touches_at p h)) → IfSome o (Moves touched_at p x.place)
          → IfSome o (λ at. StandsFor (at next) (touches_at p (h ++ x ∷ [])))
      go p None c d m = tt
      go p (Some at) c d m = moved p at c d m

  pub warmed_serves : (e : E) (ts : List Touch) → IsMadeFor structure order e → IsMadeFor structure order (warmed touched_at e ts)
  warmed_serves e [] s = s
  warmed_serves e (t ∷ ts) s =
      warmed_serves (touched_at t.place (tag_at t.place t.address) t.label.number e) ts
      (touch_serves structure touched_at moves order t.place (tag_at t.place t.address) t.label.number e s)

  pub warmed_stands : (e : E) (ts h : List Touch) → IsMadeFor structure order e → All (λ t. t.label.number < order.size) ts
      → StandsForAll structure e h → StandsForAll structure (warmed touched_at e ts) (h ++ ts)
  warmed_stands e [] h s all stands = subst (StandsForAll structure e) (sym (append-nil h)) stands
  warmed_stands e (t ∷ ts) h s all stands =
      let next : E = touched_at t.place (tag_at t.place t.address) t.label.number e in
      subst (StandsForAll structure (warmed touched_at next ts)) (append_assoc h (t ∷ []) ts)
      (warmed_stands next ts (h ++ t ∷ []) (touch_serves structure touched_at moves order t.place (tag_at t.place t.address) t.label.number e s)
      (All-tail (λ t. t.label.number < order.size) t ts all)
      (touch_stands t e h s (All-head (λ t. t.label.number < order.size) t ts all) stands))

-- one touch of the list
pub warm_step : {E : Type 0} (touched_at : Place → ℕ → ℕ → E → E) (e e' w : E) (ts : List Touch) (i : ℕ) (d : Touch) (tag : ℕ) → i < length ts
    → tag ≡ tag_at (get_or ts i d).place (get_or ts i d).address → e' ≡ touched_at (get_or ts i d).place tag (get_or ts i d).label.number e →
    warmed touched_at e (drop i ts) ≡ w → warmed touched_at e' (drop (i + 1) ts) ≡ w
warm_step touched_at e e' w ts i d tag h t s r =
    ap (λ x. warmed touched_at x (drop (i + 1) ts)) (s ∙ ap (λ n. touched_at (get_or ts i d).place n (get_or ts i d).label.number e) t)
    ∙ ap (warmed touched_at e) (sym (drop_more ts i d h)) ∙ r

-- ---- look-ups
pub found_hits : (r : Replacement) (order : Order) (sets ways : ℕ) (c : Rows) (tag er : ℕ) (h : List Touched) → IsCacheOf order sets ways c
    → StandsBy r c h → found c tag er ≡ hits_by r order sets ways h er tag
found_hits r order sets ways c tag er h s stands =
    found_is c s.cache r tag er h stands
    ∙ ap (λ o. hits_by r o c.sets c.ways h er tag) s.same_order
    ∙ ap (λ n. hits_by r order n c.ways h er tag) s.same_sets
    ∙ ap (λ n. hits_by r order sets n h er tag) s.same_ways

-- the touch of an access
abbrev new : Place → ℕ → ℕ → Touch
new p a ew = record { place = p; label = record { number = ew }; address = a }

-- ---- one level
page_found : (hw : Hardware) (order : Order) → ((l : ℕ) → home hw order l ≡ l) → (a er : ℕ) (e : PartEnv) (h : List Touch)
    → IsMadeFor part_structure order e → StandsForAll part_structure e h → found e.buffer (a / 1024) er ≡ hits_in hw order buffer_bank Page h er a
page_found hw order own a er e h s stands =
    found_hits LeastRecent order 1 4 e.buffer (a / 1024) er (touches_at Page h) (s.each Page) (stands.each Page)
    ∙ ap (λ t. hits order 1 4 t er (a / 1024)) (touches_are hw order buffer_bank Page own (λ n. refl) h)
    ∙ sym (ap (λ l. hits order 1 4 (touches_in hw order buffer_bank Page h) l (a / 1024)) (own er))

code_found : (hw : Hardware) (order : Order) → ((l : ℕ) → home hw order l ≡ l) → (a er : ℕ) (e : PartEnv) (h : List Touch)
    → IsMadeFor part_structure order e → StandsForAll part_structure e h → found e.code_cache (a / 32) er ≡ hits_in hw order code_bank Code h er a
code_found hw order own a er e h s stands =
    found_hits LeastRecent order 8 2 e.code_cache (a / 32) er (touches_at Code h) (s.each Code) (stands.each Code)
    ∙ ap (λ t. hits order 8 2 t er (a / 32)) (touches_are hw order code_bank Code own (λ n. refl) h)
    ∙ sym (ap (λ l. hits order 8 2 (touches_in hw order code_bank Code h) l (a / 32)) (own er))

data_found : (hw : Hardware) (order : Order) → ((l : ℕ) → home hw order l ≡ l) → (a er : ℕ) (e : PartEnv) (h : List Touch)
    → IsMadeFor part_structure order e → StandsForAll part_structure e h → found e.data_cache (a / 32) er ≡ hits_in hw order data_bank Data h er a
data_found hw order own a er e h s stands =
    found_hits LeastRecent order 8 2 e.data_cache (a / 32) er (touches_at Data h) (s.each Data) (stands.each Data)
    ∙ ap (λ t. hits order 8 2 t er (a / 32)) (touches_are hw order data_bank Data own (λ n. refl) h)
    ∙ sym (ap (λ l. hits order 8 2 (touches_in hw order data_bank Data h) l (a / 32)) (own er))

-- what the page and the line cost, where there is no second level
first_costs : (p p' l l' : Bool) (n m : ℕ) → p ≡ p' → l ≡ l' → cond p 0 n + cond l 0 m ≡ cond p' 0 n + cond l' 0 m + cond l' 0 0
first_costs p p' l true n m e f = omega (arith, ap (λ b. cond b 0 n) e, ap (λ b. cond b 0 m) f)
first_costs p p' l false n m e f = omega (arith, ap (λ b. cond b 0 n) e, ap (λ b. cond b 0 m) f)

pub part_penalty_is : (order : Order) (k : Kind) (a er ew : ℕ) (e : PartEnv) (h : List Touch) → IsMadeFor part_structure order e
    → StandsForAll part_structure e h → part_penalty k a er ew e ≡ access_cost part_machine order k a er h
part_penalty_is order kind.Code a er ew e h s stands =
    first_costs _ _ _ _ 20 8 (page_found part_machine order (λ l. refl) a er e h s stands) (code_found part_machine order (λ l. refl) a er e h s stands)
part_penalty_is order kind.Data a er ew e h s stands =
    first_costs _ _ _ _ 20 12 (page_found part_machine order (λ l. refl) a er e h s stands) (data_found part_machine order (λ l. refl) a er e h s stands)

tag_of_line : (k : Kind) (a : ℕ) → tag_at (line_place k) a ≡ a / 32
tag_of_line kind.Code a = refl
tag_of_line kind.Data a = refl

-- The history says that the second level was touched too, of which this environment has none.
pub part_after_stands : (order : Order) (k : Kind) (a er ew : ℕ) (e : PartEnv) (h : List Touch) → IsMadeFor part_structure order e → ew < order.size
    → StandsForAll part_structure e h → StandsForAll part_structure (part_after k a er ew e) (accessed k a ew h)
part_after_stands order k a er ew e h s in_range stands =
    let paged : PartEnv = part_touched Page (a / 1024) ew e in
    let paged_serves : IsMadeFor part_structure order paged = touch_serves part_structure part_touched part_moves order Page (a / 1024) ew e s in
    touch_stands part_structure part_touched part_moves order (new Second a ew) (part_after k a er ew e) (touch_at (line_place k) a ew (touch_at Page a ew h))
    (touch_serves part_structure part_touched part_moves order (line_place k) (a / 32) ew paged paged_serves) in_range
    (subst (λ tag. StandsForAll part_structure (part_touched (line_place k) tag ew paged) (touch_at (line_place k) a ew (touch_at Page a ew h)))
    (tag_of_line k a)
    (touch_stands part_structure part_touched part_moves order (new (line_place k) a ew) paged (touch_at Page a ew h) paged_serves in_range
    (touch_stands part_structure part_touched part_moves order (new Page a ew) e h s in_range stands)))

-- ---- two levels
pub first_stands : (e : Part2Env) (h : List Touch) → StandsForAll part2_structure e h → StandsForAll part_structure e.first h
first_stands e h stands = record { each = go }
  where
    go : (p : Place) → IfSome (part_structure p) (λ at. StandsFor (at e.first) (touches_at p h))
    go Page = stands.each Page
    go Code = stands.each Code
    go Data = stands.each Data
    go Second = tt

both_costs : (p p' l l' s s' : Bool) (n m c : ℕ) → p ≡ p' → l ≡ l' → s ≡ s' → cond p 0 n + cond l 0 m + cond (l || s) 0 c
    ≡ cond p' 0 n + cond l' 0 m + cond l' 0 (cond s' 0 c)
both_costs p p' true true s s' n m c e f g = omega (arith, ap (λ b. cond b 0 n) e)
both_costs p p' true false s s' n m c e f g = absurd (cc)
both_costs p p' false true s s' n m c e f g = absurd (cc)
both_costs p p' false false s s' n m c e f g = omega (arith, ap (λ b. cond b 0 n) e, ap (λ b. cond b 0 c) g)

second_found : (order : Order) (a er : ℕ) (e : Part2Env) (h : List Touch) → IsMadeFor part2_structure order e → StandsForAll part2_structure e h
    → found e.second (a / 32) er ≡ hits_in part2_machine order second_bank Second h er a
second_found order a er e h s stands =
    found_hits LeastRecent order 32 4 e.second (a / 32) er (touches_at Second h) (s.each Second) (stands.each Second)
    ∙ ap (λ t. hits order 32 4 t er (a / 32)) (touches_are part2_machine order second_bank Second (λ l. refl) (λ n. refl) h)

pub part2_penalty_is : (order : Order) (k : Kind) (a er ew : ℕ) (e : Part2Env) (h : List Touch) → IsMadeFor part2_structure order e
    → StandsForAll part2_structure e h → part2_penalty k a er ew e ≡ access_cost part2_machine order k a er h
part2_penalty_is order kind.Code a er ew e h s stands =
    let s' = first_serves order e s in
    let stands' = first_stands e h stands in
    both_costs _ _ _ _ _ _ 20 8 30 (page_found part2_machine order (λ l. refl) a er e.first h s' stands')
    (code_found part2_machine order (λ l. refl) a er e.first h s' stands') (second_found order a er e h s stands)
part2_penalty_is order kind.Data a er ew e h s stands =
    let s' = first_serves order e s in
    let stands' = first_stands e h stands in
    both_costs _ _ _ _ _ _ 20 12 30 (page_found part2_machine order (λ l. refl) a er e.first h s' stands')
    (data_found part2_machine order (λ l. refl) a er e.first h s' stands') (second_found order a er e h s stands)

pub part2_after_stands : (order : Order) (k : Kind) (a er ew : ℕ) (e : Part2Env) (h : List Touch) → IsMadeFor part2_structure order e → ew < order.size
    → StandsForAll part2_structure e h → StandsForAll part2_structure (part2_after k a er ew e) (accessed k a ew h)
part2_after_stands order k a er ew e h s in_range stands =
    let paged : Part2Env = part2_touched Page (a / 1024) ew e in
    let lined : Part2Env = part2_touched (line_place k) (a / 32) ew paged in
    let paged_serves : IsMadeFor part2_structure order paged = touch_serves part2_structure part2_touched part2_moves order Page (a / 1024) ew e s in
    touch_stands part2_structure part2_touched part2_moves order (new Second a ew) lined (touch_at (line_place k) a ew (touch_at Page a ew h))
    (touch_serves part2_structure part2_touched part2_moves order (line_place k) (a / 32) ew paged paged_serves) in_range
    (subst (λ tag. StandsForAll part2_structure (part2_touched (line_place k) tag ew paged) (touch_at (line_place k) a ew (touch_at Page a ew h)))
    (tag_of_line k a)
    (touch_stands part2_structure part2_touched part2_moves order (new (line_place k) a ew) paged (touch_at Page a ew h) paged_serves in_range
    (touch_stands part2_structure part2_touched part2_moves order (new Page a ew) e h s in_range stands)))

-- ---- conditions of the calls
pub label_in : (order : Order) (sets ways : ℕ) (c : Rows) (l : ℕ) → IsCacheOf order sets ways c → l < order.size → l < c.order.size
label_in order sets ways c l s h = subst (λ (o : Order). l < o.size) (sym s.same_order) h

-- ---- new environments
pub part_serves : (order : Order) (e : PartEnv) → IsCacheOf order 1 4 e.buffer → IsCacheOf order 8 2 e.code_cache → IsCacheOf order 8 2 e.data_cache
    → IsMadeFor part_structure order e
part_serves order e b c d = record { each = go }
  where
    go : (p : Place) → IfSome (part_structure p) (λ at. IsCacheOf order (sets_at p) (ways_at p) (at e))
    go Page = b
    go Code = c
    go Data = d
    go Second = tt

pub part_stands : (e : PartEnv) → StandsFor e.buffer [] → StandsFor e.code_cache [] → StandsFor e.data_cache [] → StandsForAll part_structure e []
part_stands e b c d = record { each = go }
  where
    go : (p : Place) → IfSome (part_structure p) (λ at. StandsFor (at e) (touches_at p []))
    go Page = b
    go Code = c
    go Data = d
    go Second = tt

pub part2_serves : (order : Order) (e : Part2Env) → IsMadeFor part_structure order e.first → IsCacheOf order 32 4 e.second → IsMadeFor part2_structure order e
part2_serves order e first second = record { each = go }
  where
    go : (p : Place) → IfSome (part2_structure p) (λ at. IsCacheOf order (sets_at p) (ways_at p) (at e))
    go Page = first.each Page
    go Code = first.each Code
    go Data = first.each Data
    go Second = second

pub part2_stands : (e : Part2Env) → StandsForAll part_structure e.first [] → StandsFor e.second [] → StandsForAll part2_structure e []
part2_stands e first second = record { each = go }
  where
    go : (p : Place) → IfSome (part2_structure p) (λ at. StandsFor (at e) (touches_at p []))
    go Page = first.each Page
    go Code = first.each Code
    go Data = first.each Data
    go Second = second
