-- Declarations with their labels, put into a table one after another.
use Rattle.std.proofs.Common.{◌≡◌, refl, sym, ap, ◌∙◌, subst, ℕ, suc, ◌+◌, ◌≤◌, arith, List, [], ◌∷◌, ◌++◌, append_assoc, length, length-append, drop, get_or}
use Rattle.std.proofs.Common.{None, Some}
use Rattle.std.specs.Prelude.{Bool, true, false, map, slice_get}
use Rattle.std.specs.Map.{lookup}
use Rattle.std.specs.Str.{bytes_eq}
use Rattle.std.proofs.lemmas.List.{append-nil, drop_more, drop_all, length-map}
use Rattle.std.proofs.lemmas.Map.{NonePasses, lookup-none}
use Rattle.std.proofs.lemmas.Option.{slice_get_within, get_or_from_slice_get}
use Rattle.std.proofs.lemmas.Slice.Eq.{bytes_eq-Decides}
use Rattle.label_lattice.specs.contracts.name.NamePartialEq.TheImpl.{eq-value}
use Rattle.label_lattice.specs.Order.{Order, AllDiffer}
use Rattle.mit_syntax.specs.declared.declarations.Decl.{Decl}
use Rattle.mit_syntax.specs.Declarations.{Declaration, size_of, first_of}
use Rattle.mit_syntax.proofs.Named.{same_name}
use Rattle.mit_syntax.proofs.Numbers.{first_more}
use Rattle.timing_types.specs.Labelling.{Labelling, variable_of}
use Rattle.label_write.specs.Written.{as_label, written_declarations}
use Rattle.label_write.proofs.Validity.{names_written}

-- the declarations, once this many are put
pub record PutSoFar (o : Order) (l : Labelling) (ds : List Declaration) (k next : ℕ) (done : List Declaration) : Type 0 where
  pub first : next ≡ first_of ds k
  pub is : written_declarations o l ds 0 ≡ done ++ written_declarations o l (drop k ds) next

abbrev names : List Declaration → List (List ℕ)
names ds = map (λ d. d.0) ds

-- a name that differs from all others is not among those before it
later_name : (done rest : List Declaration) (w : List ℕ) (d : Decl) → get_or (names (done ++ (w, d) ∷ rest)) (length done) [] ≡ w
later_name [] rest w d = refl
later_name (x ∷ done) rest w d = later_name done rest w d

other_name : (a b : List ℕ) → (b ≡ a → ⊥) → eq-value.it a b ≡ false
other_name a b h = by (bytes_eq a b) refl
  where
    by : (t : Bool) → bytes_eq a b ≡ t → eq-value.it a b ≡ false
    by true e = absurd (h (sym ((bytes_eq-Decides a b).0 e)))
    by false e = same_name a b ∙ e

none_passes : (done rest : List Declaration) (w : List ℕ) (d : Decl) → AllDiffer (names (done ++ (w, d) ∷ rest)) → NonePasses (eq-value.it w) done
none_passes [] rest w d h = tt
none_passes (x ∷ done) rest w d h =
    let size : length (names (done ++ (w, d) ∷ rest)) ≡ length (done ++ (w, d) ∷ rest) = length-map (done ++ (w, d) ∷ rest) (λ z. z.0) in
    let sum : length (done ++ (w, d) ∷ rest) ≡ length done + suc (length rest) = length-append done ((w, d) ∷ rest) in (
      other_name w x.0 (λ e. h 0 (suc (length done)) [] (omega arith) (omega (arith, size, sum)) (e ∙ sym (later_name done rest w d))),
      none_passes done rest w d (λ i j z a b. h (suc i) (suc j) z (omega (arith, a)) (omega (arith, b))),
    )

module _ (o : Order) (l : Labelling) (ds : List Declaration) where
  pub none_put : (done : List Declaration) → done ≡ [] → PutSoFar o l ds 0 0 done
  none_put done e = record { first = refl; is = ap (λ z. z ++ written_declarations o l ds 0) (sym e) }

  module _ (k next : ℕ) (done : List Declaration) (so : PutSoFar o l ds k next done) where
    module _ (d : Declaration) (at : slice_get ds k ≡ Some d) where
      front : drop k ds ≡ d ∷ drop (k + 1) ds
      front = drop_more ds k d (slice_get_within ds k d at) ∙ ap (λ z. z ∷ drop (k + 1) ds) (get_or_from_slice_get ds k d d at)

      all : written_declarations o l ds 0 ≡ done ++ written_declarations o l (d ∷ drop (k + 1) ds) next
      all = so.is ∙ ap (λ z. done ++ written_declarations o l z next) front

      -- its name is not yet put
      pub is_new : AllDiffer (names ds) → lookup (eq-value.it d.0) done ≡ None
      is_new h =
          lookup-none (eq-value.it d.0) done
          (none_passes done (written_declarations o l (drop (k + 1) ds) (next + size_of d.1)) d.0
          (record { label = Some (as_label (variable_of o l next)); length = d.1.length })
          (subst (λ z. AllDiffer z) (sym (names_written o l ds 0) ∙ ap names all) h))

      pub next_put : (end : ℕ) → end ≡ next + size_of d.1
          → PutSoFar o l ds (k + 1) end (done ++ (d.0, record { label = Some (as_label (variable_of o l next)); length = d.1.length }) ∷ [])
      next_put end e =
          let m = first_more ds k d at in
          let f = so.first in
          record {
            first = omega (arith, m, f, e);
            is =
                all
                ∙ sym (append_assoc done ((d.0, record { label = Some (as_label (variable_of o l next)); length = d.1.length }) ∷ [])
                (written_declarations o l (drop (k + 1) ds) (next + size_of d.1)))
                ∙ ap (λ z. (done ++ (d.0, record { label = Some (as_label (variable_of o l next)); length = d.1.length }) ∷ [])
                ++ written_declarations o l (drop (k + 1) ds) z) (sym e);
          }

    pub all_put : length ds ≤ k → done ≡ written_declarations o l ds 0
    all_put h = sym (append-nil done) ∙ ap (λ z. done ++ written_declarations o l z next) (sym (drop_all k ds h)) ∙ sym so.is
