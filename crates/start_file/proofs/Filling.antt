-- A table that is filled with what another one has.
use Rattle.std.proofs.Common.{◌≡◌, ◌∙◌, refl, sym, ap, subst, ℕ, ℤ, List, [], ◌∷◌, ◌++◌, Bool, true, false, cond, string_bytes, Option, None, Some}
use Rattle.std.specs.Prelude.{is_some}
use Rattle.std.specs.Str.{bytes_eq}
use Rattle.std.specs.List.Sorted.{IsStrictlySortedBy}
use Rattle.std.specs.Map.{keys_of}
use Rattle.std.specs.String.{string_cmp}
use Rattle.std.proofs.lemmas.Bool.{cond-true, cond-false}
use Rattle.std.proofs.lemmas.Slice.Eq.{bytes_eq-Decides}
use Rattle.toml.specs.Data.{Data, Members, no_members, member, get_member}
use Rattle.toml.specs.View.{view, members_view}
use Rattle.toml.proofs.Views.{with_last, members_view-last}
use Rattle.label_lattice.specs.Order.{AllDiffer}
use Rattle.mit_syntax.specs.Declarations.{Declaration}
use Rattle.start_file.specs.Values.{slot_of, memory_of}
use Rattle.start_file.specs.Edits.{written}
use Rattle.start_file.specs.Shared.{filled}
use Rattle.start_file.proofs.Written.{get_more, last_new, last_other, new_key, put_name, names, Entry, AlikeBut}

-- the first of two that is there
abbrev pub either : Option Data → Option Data → Option Data
either None o = o
either (Some d) o = Some d

either_none : (o : Option Data) → either o None ≡ o
either_none None = refl
either_none (Some d) = refl

-- what is at a key of a filled table
module _ (k l : List ℕ) (d : Data) (own ms : Members) where
  abbrev at_step : Option Data → Option Data
  at_step o = get_member k (cond (is_some o) (filled own ms) (member l d (filled own ms)))

  key_same : bytes_eq k l ≡ true → get_member k own ≡ get_member l own
  key_same e = ap (λ w. get_member w own) ((bytes_eq-Decides k l).0 e)

  at_more : (o : Option Data) → get_member l own ≡ o → (b : Bool) → bytes_eq k l ≡ b
      → get_member k (filled own ms) ≡ either (get_member k own) (get_member k ms)
      → at_step (get_member l own) ≡ either (get_member k own) (get_member k (member l d ms))
  at_more (Some x) e true s more =
      let here : get_member k own ≡ Some x = key_same s ∙ e in
      ap at_step e ∙ more ∙ ap (λ o. either o (get_member k ms)) here ∙ sym (ap (λ o. either o (get_member k (member l d ms))) here)
  at_more (Some x) e false s more =
      ap at_step e ∙ more ∙ sym (ap (either (get_member k own)) (get_more k l d ms ∙ cond-false (bytes_eq k l) (Some d) (get_member k ms) s))
  at_more None e true s more =
      let here : get_member k own ≡ None = key_same s ∙ e in
      ap at_step e ∙ get_more k l d (filled own ms) ∙ cond-true (bytes_eq k l) (Some d) (get_member k (filled own ms)) s
      ∙ sym (ap (λ o. either o (get_member k (member l d ms))) here ∙ get_more k l d ms ∙ cond-true (bytes_eq k l) (Some d) (get_member k ms) s)
  at_more None e false s more =
      ap at_step e ∙ get_more k l d (filled own ms) ∙ cond-false (bytes_eq k l) (Some d) (get_member k (filled own ms)) s ∙ more
      ∙ sym (ap (either (get_member k own)) (get_more k l d ms ∙ cond-false (bytes_eq k l) (Some d) (get_member k ms) s))

pub filled_at : (k : List ℕ) (own ms : Members) → get_member k (filled own ms) ≡ either (get_member k own) (get_member k ms)
filled_at k own no_members = sym (either_none (get_member k own))
filled_at k own (member l d ms) = at_more k l d own ms (get_member l own) refl (bytes_eq k l) refl (filled_at k own ms)

-- an empty table is filled with all
pub filled_none : (ms : Members) → filled no_members ms ≡ ms
filled_none no_members = refl
filled_none (member l d ms) = ap (λ (x : Members). member l d x) (filled_none ms)

-- before the first entry all is as it is shared
pub none_yet : (ds : List Declaration) (m : List ℤ) (shared : Members) → m ≡ memory_of ds shared → m ≡ memory_of ds (filled no_members shared)
none_yet ds m shared h = h ∙ ap (memory_of ds) (sym (filled_none shared))

-- one entry more, before what is filled in
pub put_entry : (ds : List Declaration) (es : List Entry) (e : Entry) (more : List Entry) (shared : Members) → AllDiffer (names ds)
    → IsStrictlySortedBy string_cmp (keys_of (es ++ e ∷ more))
    → memory_of ds (filled (members_view (es ++ e ∷ [])) shared)
    ≡ written (slot_of ds (string_bytes e.0)) (view e.1) (memory_of ds (filled (members_view es) shared))
put_entry ds es e more shared h sorted =
    let w = string_bytes e.0 in
    let d = view e.1 in
    let ms = members_view es in
    let last : get_member w (with_last ms w d) ≡ Some d = last_new w d ms (new_key es e more sorted) in
    let there : get_member w (filled (with_last ms w d) shared) ≡ Some d =
    filled_at w (with_last ms w d) shared ∙ ap (λ o. either o (get_member w shared)) last in
    let alike : AlikeBut w (filled ms shared) (filled (with_last ms w d) shared) = λ k n.
    filled_at k (with_last ms w d) shared ∙ ap (λ o. either o (get_member k shared)) (last_other k w d ms n) ∙ sym (filled_at k ms shared) in
    ap (λ x. memory_of ds (filled x shared)) (members_view-last es e.0 e.1)
    ∙ put_name ds w d (filled ms shared) (filled (with_last ms w d) shared) h alike there

-- the entry at the front of those that are left, with its key's bytes
module _ (ds : List Declaration) (it rest : List Entry) (e : Entry) (w : List ℕ) (front : it ≡ e ∷ rest) (key : w ≡ string_bytes e.0) where
  pub memory_more : (all done : List Entry) (shared : Members) (m new : List ℤ) → AllDiffer (names ds) → IsStrictlySortedBy string_cmp (keys_of all)
      → all ≡ done ++ it → m ≡ memory_of ds (filled (members_view done) shared) → new ≡ written (slot_of ds w) (view e.1) m
      → new ≡ memory_of ds (filled (members_view (done ++ e ∷ [])) shared)
  memory_more all done shared m new differ sorted parts h put =
      let whole : all ≡ done ++ e ∷ rest = parts ∙ ap (λ l. done ++ l) front in
      let ordered : IsStrictlySortedBy string_cmp (keys_of (done ++ e ∷ rest)) = subst (λ l. IsStrictlySortedBy string_cmp (keys_of l)) whole sorted in
      put ∙ ap (λ b. written (slot_of ds b) (view e.1) m) key ∙ ap (written (slot_of ds (string_bytes e.0)) (view e.1)) h
      ∙ sym (put_entry ds done e rest shared differ ordered)
