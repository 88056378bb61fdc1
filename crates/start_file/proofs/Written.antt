-- What is written for one name more is the memory of one name more.
use Rattle.std.proofs.Common.{◌≡◌, ◌∙◌, refl, sym, ap, subst, ℕ, ℤ, pos, zero, suc, ◌+◌, ◌-◌, ◌<◌, ◌≤◌, List, [], ◌∷◌, ◌++◌, Bool, true, false, cond, ◌&&◌}
use Rattle.std.proofs.Common.{length, get_or, take, drop, set, replicate, append-nil, map, ap₂, Option, None, Some, String, Global, string_bytes}
use Rattle.std.proofs.Common.{append_assoc, length-append, length-take, length-drop, arith}
use Rattle.std.specs.Prelude.{option_map}
use Rattle.std.proofs.lemmas.List.{replicate-append-replicate}
use Rattle.std.specs.Cmp.Lexicographic.{slice_cmp}
use Rattle.std.specs.Ordering.{nat_cmp, is_eq, match_ordering}
use Rattle.std.specs.Str.{bytes_eq}
use Rattle.std.specs.declared.cmp.Ordering.{Ordering}
use Rattle.std.specs.declared.cmp.Ordering.TheVariants.{Less, Equal, Greater}
use Rattle.std.proofs.lemmas.Bool.{cond-true, cond-false}
use Rattle.std.proofs.lemmas.Map.Text.{is_eq-slice_cmp}
use Rattle.std.proofs.lemmas.Option.{none-some}
use Rattle.std.proofs.lemmas.Slice.Eq.{bytes_eq-Decides}
use Rattle.toml.specs.Data.{Data, Items, no_items, item, Members, no_members, member, get_member, get_item}
use Rattle.toml.proofs.Views.{with_last}
use Rattle.label_lattice.specs.Order.{AllDiffer}
use Rattle.mit_syntax.specs.declared.declarations.Decl.{Decl}
use Rattle.mit_syntax.specs.Declarations.{Declaration, declared, size_of, size_in, variables, cells, cells_of}
use Rattle.mit_syntax.proofs.Numbers.{length-cells_of}
use Rattle.start_file.specs.declared.slot.Slot.{Slot}
use borrow.Rule.Slice.PartMut.{put_mid, Post-is}
use Rattle.start_file.specs.Values.{slot_of, is_value, values_pass, values_of, elements_of, number_of, memory_of}
use Rattle.start_file.specs.Tables.{items_in}
use Rattle.start_file.specs.Edits.{splice, written}
use Rattle.std.specs.List.{AllByRecursion}
use Rattle.std.specs.List.Sorted.{IsStrictlySortedBy}
use Rattle.std.specs.Map.{keys_of}
use Rattle.std.specs.String.{string_cmp}
use Rattle.std.specs.Ordering.{ordering_reverse}
use Rattle.std.proofs.lemmas.Cmp.{nat_list_cmp_total}
use Rattle.toml.specs.View.{view, members_view}
use Rattle.toml.specs.declared.value.Value.{Value}
use Rattle.start_file.proofs.Names.{not_true}

match_found : (o : Ordering) (a x : Option Data) → match_ordering o a x a ≡ cond (is_eq o) x a
match_found Less a x = refl
match_found Equal a x = refl
match_found Greater a x = refl

-- the value at a key, where there is one member more
pub get_more : (k l : List ℕ) (d : Data) (ms : Members) → get_member k (member l d ms) ≡ cond (bytes_eq k l) (Some d) (get_member k ms)
get_more k l d ms = match_found (slice_cmp nat_cmp k l) (get_member k ms) (Some d) ∙ ap (λ (b : Bool). cond b (Some d) (get_member k ms)) (is_eq-slice_cmp k l)

pub same_bytes : (w : List ℕ) → bytes_eq w w ≡ true
same_bytes w = (bytes_eq-Decides w w).1 refl

-- a new key at the end is found
pub last_new : (w : List ℕ) (d : Data) (ms : Members) → get_member w ms ≡ None → get_member w (with_last ms w d) ≡ Some d
last_new w d no_members h = get_more w w d no_members ∙ cond-true (bytes_eq w w) (Some d) None (same_bytes w)
last_new w d (member l e ms) h = by (last_new w d ms) (bytes_eq w l) refl
  where
    by : (get_member w ms ≡ None → get_member w (with_last ms w d) ≡ Some d) → (b : Bool) → bytes_eq w l ≡ b
        → get_member w (with_last (member l e ms) w d) ≡ Some d
    by more true s = absurd (none-some e (sym h ∙ get_more w l e ms ∙ cond-true (bytes_eq w l) (Some e) (get_member w ms) s))
    by more false s =
        get_more w l e (with_last ms w d) ∙ cond-false (bytes_eq w l) (Some e) (get_member w (with_last ms w d)) s
        ∙ more (sym (get_more w l e ms ∙ cond-false (bytes_eq w l) (Some e) (get_member w ms) s) ∙ h)

-- and changes nothing at others
pub last_other : (k w : List ℕ) (d : Data) (ms : Members) → bytes_eq k w ≡ false → get_member k (with_last ms w d) ≡ get_member k ms
last_other k w d no_members n = get_more k w d no_members ∙ cond-false (bytes_eq k w) (Some d) None n
last_other k w d (member l e ms) n =
    get_more k l e (with_last ms w d) ∙ ap (λ (o : Option Data). cond (bytes_eq k l) (Some e) o) (last_other k w d ms n) ∙ sym (get_more k l e ms)

length-elements_of : (n : ℕ) (ds : Items) → length (elements_of n ds) ≡ n
length-elements_of zero ds = refl
length-elements_of (suc n) no_items = let r = length-elements_of n no_items in omega (arith, r)
length-elements_of (suc n) (item d ds) = let r = length-elements_of n ds in omega (arith, r)

pub length-values_of : (l : Option ℕ) (d : Option Data) → length (values_of l d) ≡ size_in l
length-values_of None d = refl
length-values_of (Some n) d = length-elements_of n (items_in d)

-- the memory has a value for each variable
pub length-memory_of : (ds : List Declaration) (ms : Members) → length (memory_of ds ms) ≡ variables ds
length-memory_of [] ms = refl
length-memory_of (x ∷ ds) ms =
    let values = values_of x.1.length (get_member x.0 ms) in
    let a = length-append values (memory_of ds ms) in
    let b = length-append (cells_of x.0 x.1.label x.1.length) (cells ds) in
    let c = length-values_of x.1.length (get_member x.0 ms) in
    let d = length-cells_of x.0 x.1.label x.1.length in
    let r = length-memory_of ds ms in
    omega (arith, a, b, c, d, r)

take_after : (xs ys : List ℤ) (f k : ℕ) → k ≡ length xs + f → take k (xs ++ ys) ≡ xs ++ take f ys
take_after [] ys f k e = let same : k ≡ f = omega (arith, e) in ap (λ n. take n ys) same
take_after (x ∷ xs) ys f zero e = absurd (omega arith)
take_after (x ∷ xs) ys f (suc k) e = ap (λ l. x ∷ l) (take_after xs ys f k (omega arith))

drop_after : (xs ys : List ℤ) (f k : ℕ) → k ≡ length xs + f → drop k (xs ++ ys) ≡ drop f ys
drop_after [] ys f k e = let same : k ≡ f = omega (arith, e) in ap (λ n. drop n ys) same
drop_after (x ∷ xs) ys f zero e = absurd (omega arith)
drop_after (x ∷ xs) ys f (suc k) e = drop_after xs ys f k (omega arith)

-- values written past the first list are written into the second
splice_after : (xs ys vs : List ℤ) (f k : ℕ) → k ≡ length xs + f → splice k vs (xs ++ ys) ≡ xs ++ splice f vs ys
splice_after xs ys vs f k e =
    let n : k + length vs ≡ length xs + (f + length vs) = omega (arith, e) in
    ap (λ l. l ++ vs ++ drop (k + length vs) (xs ++ ys)) (take_after xs ys f k e)
    ∙ ap (λ l. (xs ++ take f ys) ++ vs ++ l) (drop_after xs ys (f + length vs) (k + length vs) n)
    ∙ ap (λ l. l ++ drop (f + length vs) ys) (append_assoc xs (take f ys) vs)
    ∙ append_assoc xs (take f ys ++ vs) (drop (f + length vs) ys)

-- values written over a list at the front
splice_front : (xs ys vs : List ℤ) → length vs ≡ length xs → splice 0 vs (xs ++ ys) ≡ vs ++ ys
splice_front xs ys vs e =
    let n : 0 + length vs ≡ length xs + 0 = omega (arith, e) in
    ap (λ l. vs ++ l) (drop_after xs ys 0 (0 + length vs) n)

abbrev pub names : List Declaration → List (List ℕ)
names ds = map (λ d. d.0) ds

-- two tables have the same, but perhaps for one name
abbrev pub AlikeBut : List ℕ → Members → Members → Type 0
AlikeBut w ms ns = (k : List ℕ) → bytes_eq k w ≡ false → get_member k ns ≡ get_member k ms

-- a name that is declared nowhere changes nothing
memory_apart : (ds : List Declaration) (w : List ℕ) (ms ns : Members) → AlikeBut w ms ns
    → ((j : ℕ) → j < length (names ds) → bytes_eq (get_or (names ds) j []) w ≡ false)
    → memory_of ds ns ≡ memory_of ds ms
memory_apart [] w ms ns alike n = refl
memory_apart (x ∷ ds) w ms ns alike n =
    ap (λ o. values_of x.1.length o ++ memory_of ds ns) (alike x.0 (n 0 (omega arith)))
    ∙ ap (λ l. values_of x.1.length (get_member x.0 ms) ++ l) (memory_apart ds w ms ns alike (λ j l. n (suc j) (omega (arith, l))))

rest_differ : (x : Declaration) (ds : List Declaration) → AllDiffer (names (x ∷ ds)) → AllDiffer (names ds)
rest_differ x ds h i j d l k = h (suc i) (suc j) d (omega arith) (omega arith)

first_apart : (x : Declaration) (ds : List Declaration) → AllDiffer (names (x ∷ ds)) → (j : ℕ) → j < length (names ds)
    → bytes_eq (get_or (names ds) j []) x.0 ≡ false
first_apart x ds h j l =
    not_true (bytes_eq (get_or (names ds) j []) x.0)
    (λ t. h 0 (suc j) [] (omega arith) (omega arith) (sym ((bytes_eq-Decides (get_or (names ds) j []) x.0).0 t)))

pub other_way : (a b : List ℕ) → bytes_eq a b ≡ false → bytes_eq b a ≡ false
other_way a b n = not_true (bytes_eq b a) (λ t. by (sym n ∙ (bytes_eq-Decides a b).1 (sym ((bytes_eq-Decides b a).0 t))))
  where
    by : false ≡ true → ⊥
    by e = cc

abbrev slot_at : ℕ × Decl → Slot
slot_at r = record { first = r.0; length = r.1.length }

abbrev later : ℕ → ℕ × Decl → ℕ × Decl
later n r = (n + r.0, r.1)

written_after : (r : Option (ℕ × Decl)) (d : Data) (n : ℕ) (xs ys : List ℤ) → length xs ≡ n
    → xs ++ written (option_map slot_at r) d ys ≡ written (option_map slot_at (option_map (later n) r)) d (xs ++ ys)
written_after None d n xs ys e = refl
written_after (Some r) d n xs ys e = let k : n + r.0 ≡ length xs + r.0 = omega (arith, e) in
    sym (splice_after xs ys (values_of r.1.length (Some d)) r.0 (n + r.0) k)

-- where a name's value alone is another one, it is written
pub put_name : (ds : List Declaration) (w : List ℕ) (d : Data) (ms ns : Members) → AllDiffer (names ds) → AlikeBut w ms ns → get_member w ns ≡ Some d
    → memory_of ds ns ≡ written (slot_of ds w) d (memory_of ds ms)
put_name [] w d ms ns h alike there = refl
put_name (x ∷ ds) w d ms ns h alike there = by (put_name ds w d ms ns (rest_differ x ds h) alike there) (bytes_eq w x.0) refl
  where
    by : memory_of ds ns ≡ written (slot_of ds w) d (memory_of ds ms) → (b : Bool) → bytes_eq w x.0 ≡ b
        → memory_of (x ∷ ds) ns ≡ written (slot_of (x ∷ ds) w) d (memory_of (x ∷ ds) ms)
    by more true e =
        let same : w ≡ x.0 = (bytes_eq-Decides w x.0).0 e in
        let old = values_of x.1.length (get_member x.0 ms) in
        let new = values_of x.1.length (Some d) in
        let sizes : length new ≡ length old = length-values_of x.1.length (Some d) ∙ sym (length-values_of x.1.length (get_member x.0 ms)) in
        let slot : slot_of (x ∷ ds) w ≡ Some (slot_at (0, x.1)) =
        ap (option_map slot_at) (cond-true (bytes_eq w x.0) (Some (0, x.1)) (option_map (later (size_of x.1)) (declared ds w)) e) in
        let found : get_member x.0 ns ≡ Some d = subst (λ v. get_member v ns ≡ Some d) same there in
        let apart : (j : ℕ) → j < length (names ds) → bytes_eq (get_or (names ds) j []) w ≡ false =
        λ j l. subst (λ v. bytes_eq (get_or (names ds) j []) v ≡ false) (sym same) (first_apart x ds h j l) in
        ap (λ o. values_of x.1.length o ++ memory_of ds ns) found
        ∙ ap (λ l. new ++ l) (memory_apart ds w ms ns alike apart)
        ∙ sym (splice_front old (memory_of ds ms) new sizes)
        ∙ ap (λ s. written s d (old ++ memory_of ds ms)) (sym slot)
    by more false e =
        let old = values_of x.1.length (get_member x.0 ms) in
        let slot : slot_of (x ∷ ds) w ≡ option_map slot_at (option_map (later (size_of x.1)) (declared ds w)) =
        ap (option_map slot_at) (cond-false (bytes_eq w x.0) (Some (0, x.1)) (option_map (later (size_of x.1)) (declared ds w)) e) in
        ap (λ o. values_of x.1.length o ++ memory_of ds ns) (alike x.0 (other_way w x.0 e))
        ∙ ap (λ l. old ++ l) more
        ∙ written_after (declared ds w) d (size_of x.1) old (memory_of ds ms) (length-values_of x.1.length (get_member x.0 ms))
        ∙ ap (λ s. written s d (old ++ memory_of ds ms)) (sym slot)

-- a list that has at each place the number of an item, or 0
pub elements_from : (xs : List ℤ) (n : ℕ) (ds : Items) → length xs ≡ n → ((k : ℕ) → k < n → get_or xs k (pos 0) ≡ number_of (get_item k ds))
    → xs ≡ elements_of n ds
elements_from [] zero ds e h = refl
elements_from [] (suc n) ds e h = absurd (omega (arith, e))
elements_from (x ∷ xs) zero ds e h = absurd (omega (arith, e))
elements_from (x ∷ xs) (suc n) no_items e h =
    ap₂ (λ (y : ℤ) (l : List ℤ). y ∷ l) (h 0 (omega arith)) (elements_from xs n no_items (omega (arith, e)) (λ k l. h (suc k) (omega (arith, l))))
elements_from (x ∷ xs) (suc n) (item d ds) e h =
    ap₂ (λ (y : ℤ) (l : List ℤ). y ∷ l) (h 0 (omega arith)) (elements_from xs n ds (omega (arith, e)) (λ k l. h (suc k) (omega (arith, l))))

set_parts : (xs : List ℤ) (f k : ℕ) (z : ℤ) → f < length xs → k ≡ f + 1 → set xs f z ≡ take f xs ++ (z ∷ []) ++ drop k xs
set_parts [] f k z l e = absurd (omega arith)
set_parts (x ∷ xs) f zero z l e = absurd (omega arith)
set_parts (x ∷ xs) zero (suc k) z l e = let none : 0 ≡ k = omega (arith, e) in ap (λ n. z ∷ drop n xs) none
set_parts (x ∷ xs) (suc f) (suc k) z l e = ap (λ (r : List ℤ). x ∷ r) (set_parts xs f k z (omega arith) (omega (arith, e)))

-- a part written
mid_splice : (xs vs : List ℤ) (f e : ℕ) → f ≤ e → e ≡ f + length vs → put_mid f (e - f) xs vs ≡ splice f vs xs
mid_splice xs vs f e h g =
    ap (λ l. take f xs ++ (vs ++ l)) (Post-is f e xs h) ∙ sym (append_assoc (take f xs) vs (drop e xs)) ∙ ap (λ n. take f xs ++ vs ++ drop n xs) g

module _ (m : List ℤ) (s : Slot) (d : Data) (fits : s.first + size_in s.length ≤ length m) where
  -- the value of a scalar written
  pub one_written : (z : ℤ) → s.length ≡ None → z ≡ number_of (Some d) → set m s.first z ≡ splice s.first (values_of s.length (Some d)) m
  one_written z e g =
      let one : size_in s.length ≡ 1 = ap size_in e in
      set_parts m s.first (s.first + 1) z (omega (arith, one, fits)) refl
      ∙ ap (λ y. splice s.first (y ∷ []) m) g
      ∙ ap (λ l. splice s.first (values_of l (Some d)) m) (sym e)

  -- the values of an array written
  pub part_written : (n : ℕ) (new : List ℤ) (ds : Items) → s.length ≡ Some n → ds ≡ items_in (Some d)
      → new ≡ elements_of (length (take (s.first + n - s.first) (drop s.first m))) ds
      → put_mid s.first (s.first + n - s.first) m new ≡ splice s.first (values_of s.length (Some d)) m
  part_written n new ds e g h =
      let size : size_in s.length ≡ n = ap size_in e in
      let a = length-take (s.first + n - s.first) (drop s.first m) in
      let b = length-drop s.first m in
      let part : length (take (s.first + n - s.first) (drop s.first m)) ≡ n = omega (arith, a, b, size, fits) in
      let is : new ≡ values_of (Some n) (Some d) = h ∙ ap (λ k. elements_of k ds) part ∙ ap (elements_of n) g in
      let long : length new ≡ n = ap length is ∙ length-values_of (Some n) (Some d) in
      mid_splice m new s.first (s.first + n) (omega arith) (omega (arith, long))
      ∙ ap (λ l. splice s.first l m) is
      ∙ ap (λ l. splice s.first (values_of l (Some d)) m) (sym e)

abbrev pub Entry : Type 0
Entry = String Global × Value

below_later : (x : Entry) (es : List Entry) (e : Entry) (more : List Entry) → AllByRecursion (λ y. string_cmp x.0 y ≡ Less) (keys_of (es ++ e ∷ more))
    → string_cmp x.0 e.0 ≡ Less
below_later x [] e more h = h.0
below_later x (y ∷ es) e more h = below_later x es e more h.1

-- the key of an entry stands in none before it
pub new_key : (es : List Entry) (e : Entry) (more : List Entry) → IsStrictlySortedBy string_cmp (keys_of (es ++ e ∷ more))
    → get_member (string_bytes e.0) (members_view es) ≡ None
unfolding IsStrictlySortedBy
new_key [] e more h = refl
new_key (x ∷ es) e more h =
    let above : string_cmp e.0 x.0 ≡ Greater =
    nat_list_cmp_total.antisymm (string_bytes e.0) (string_bytes x.0) ∙ ap ordering_reverse (below_later x es e more h.0) in
    rw above (new_key es e more h.1)

-- the entry at the front of those that are left, with its key's bytes
module _ (ds : List Declaration) (it rest : List Entry) (e : Entry) (w : List ℕ) (front : it ≡ e ∷ rest) (key : w ≡ string_bytes e.0) where
  pub passes_more : (all : Bool) → is_value (slot_of ds w) (view e.1) ≡ true → all ≡ values_pass ds (members_view it) → all ≡ values_pass ds (members_view rest)
  passes_more all good h =
      let here : is_value (slot_of ds (string_bytes e.0)) (view e.1) ≡ true = subst (λ b. is_value (slot_of ds b) (view e.1) ≡ true) key good in
      h ∙ ap (λ l. values_pass ds (members_view l)) front ∙ ap (λ b. b && values_pass ds (members_view rest)) here

zero_elements : (n : ℕ) → elements_of n no_items ≡ replicate n (pos 0)
zero_elements zero = refl
zero_elements (suc n) = ap (λ (l : List ℤ). pos 0 ∷ l) (zero_elements n)

zero_values : (l : Option ℕ) → values_of l None ≡ replicate (size_in l) (pos 0)
zero_values None = refl
zero_values (Some n) = zero_elements n

-- the memory of an empty table
pub zero_memory : (ds : List Declaration) → memory_of ds no_members ≡ replicate (variables ds) (pos 0)
zero_memory [] = refl
zero_memory (x ∷ ds) =
    let b = length-append (cells_of x.0 x.1.label x.1.length) (cells ds) in
    let d = length-cells_of x.0 x.1.label x.1.length in
    let size : size_in x.1.length + variables ds ≡ variables (x ∷ ds) = omega (arith, b, d) in
    ap₂ (λ (l r : List ℤ). l ++ r) (zero_values x.1.length) (zero_memory ds)
    ∙ replicate-append-replicate (size_in x.1.length) (variables ds) (pos 0)
    ∙ ap (λ n. replicate n (pos 0)) size

-- a list that was lent as a whole and came back
pub whole_back : (n : ℕ) (new old : List ℤ) → length new ≡ n → take n (new ++ drop (length new) old) ≡ new
whole_back n new old e = take_after new (drop (length new) old) 0 n (omega (arith, e)) ∙ append-nil new
