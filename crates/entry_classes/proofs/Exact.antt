-- Lists of entries that compare as equal stand for the same entries.
use Rattle.std.proofs.Common.{◌≡◌, ℕ, List, [], ◌∷◌, Vec, Global, Bool, true, false, refl, sym, ap, ◌∙◌, true≢false}
use Rattle.std.specs.Ordering.{int_eq}
use Rattle.std.specs.Cmp.{signed_Decides}
use Rattle.std.proofs.Common.{nat_eq, eqb-true}
use Rattle.std.specs.Prelude.{ℤ}
use Rattle.label_lattice.specs.declared.label.Label.{Label}
use Rattle.label_lattice.specs.contracts.label.LabelPartialEq as labels
use Rattle.std.specs.Prelude.{◌&&◌}
use Rattle.std.specs.Cmp.Lexicographic.{pointwise}
use Rattle.first_replay.specs.Replay.{What, Pushed, Assigned, Opens, Entry as Done}
use Rattle.run_entries.specs.declared.entry.Entry.{Entry}
use Rattle.run_entries.specs.Entries.{what_of, entry_of, entries_of}
use Rattle.run_entries.specs.declared.entry.Deed.{Deed}
use Rattle.run_entries.specs.declared.entry.Deed.TheVariants as deed
use Rattle.run_entries.specs.declared.entry.Opening.{Opening}
use Rattle.run_entries.specs.contracts.entry.EntryPartialEq as entries
use Rattle.run_entries.specs.contracts.entry.DeedPartialEq as deeds
use Rattle.run_entries.specs.contracts.entry.OpeningPartialEq as openings

abbrev pub same_opening : Opening → Opening → Bool
same_opening = openings.TheImpl.ghosts.eq

abbrev pub same_deed : Deed → Deed → Bool
same_deed = deeds.TheImpl.ghosts.eq

abbrev pub same_entry : Entry → Entry → Bool
same_entry = entries.TheImpl.ghosts.eq

abbrev pub same_entries : Vec Entry Global → Vec Entry Global → Bool
same_entries x y = pointwise same_entry x.items y.items

both : (p q : Bool) → (p && q) ≡ true → (p ≡ true) × (q ≡ true)
both true q e = (refl, e)
both false q e = absurd (true≢false (sym e))

abbrev same_label : Label → Label → Bool
same_label = labels.TheImpl.ghosts.eq

-- mitigations that begin with the same estimate, level and mark
opens_exact : (x y : Opening) → same_opening x y ≡ true → Opens x.estimate x.level.number x.mark ≡ Opens y.estimate y.level.number y.mark
opens_exact x y e =
    let one = both (int_eq x.estimate y.estimate) (same_label x.level y.level && nat_eq x.mark y.mark) e in
    let two = both (same_label x.level y.level) (nat_eq x.mark y.mark) one.1 in
    ap (λ z. Opens z x.level.number x.mark) ((signed_Decides x.estimate y.estimate).0 one.0)
    ∙ (ap (λ z. Opens y.estimate z x.mark) (eqb-true x.level.number y.level.number two.0) ∙ ap (Opens y.estimate y.level.number) (eqb-true x.mark y.mark two.1))

deed_exact : (x y : Deed) → same_deed x y ≡ true → what_of x ≡ what_of y
deed_exact deed.Nothing deed.Nothing e = refl
deed_exact deed.Nothing (deed.Pushed b) e = absurd (true≢false (sym e))
deed_exact deed.Nothing (deed.Assigned b m) e = absurd (true≢false (sym e))
deed_exact deed.Nothing (deed.Opens b) e = absurd (true≢false (sym e))
deed_exact deed.Nothing deed.Closes e = absurd (true≢false (sym e))
deed_exact (deed.Pushed a) deed.Nothing e = absurd (true≢false (sym e))
deed_exact (deed.Pushed a) (deed.Pushed b) e = ap Pushed (eqb-true a b e)
deed_exact (deed.Pushed a) (deed.Assigned b m) e = absurd (true≢false (sym e))
deed_exact (deed.Pushed a) (deed.Opens b) e = absurd (true≢false (sym e))
deed_exact (deed.Pushed a) deed.Closes e = absurd (true≢false (sym e))
deed_exact (deed.Assigned a n) deed.Nothing e = absurd (true≢false (sym e))
deed_exact (deed.Assigned a n) (deed.Pushed b) e = absurd (true≢false (sym e))
deed_exact (deed.Assigned a n) (deed.Assigned b m) e =
    let k = both (nat_eq a b) (int_eq n m) e in
    ap (λ z. Assigned z n) (eqb-true a b k.0) ∙ ap (Assigned b) ((signed_Decides n m).0 k.1)
deed_exact (deed.Assigned a n) (deed.Opens b) e = absurd (true≢false (sym e))
deed_exact (deed.Assigned a n) deed.Closes e = absurd (true≢false (sym e))
deed_exact (deed.Opens a) deed.Nothing e = absurd (true≢false (sym e))
deed_exact (deed.Opens a) (deed.Pushed b) e = absurd (true≢false (sym e))
deed_exact (deed.Opens a) (deed.Assigned b m) e = absurd (true≢false (sym e))
deed_exact (deed.Opens a) (deed.Opens b) e = opens_exact a b e
deed_exact (deed.Opens a) deed.Closes e = absurd (true≢false (sym e))
deed_exact deed.Closes deed.Nothing e = absurd (true≢false (sym e))
deed_exact deed.Closes (deed.Pushed b) e = absurd (true≢false (sym e))
deed_exact deed.Closes (deed.Assigned b m) e = absurd (true≢false (sym e))
deed_exact deed.Closes (deed.Opens b) e = absurd (true≢false (sym e))
deed_exact deed.Closes deed.Closes e = refl

entry_exact : (x y : Entry) → same_entry x y ≡ true → entry_of x ≡ entry_of y
entry_exact x y e =
    let of : ℕ → What → Done = λ n w. record { cost = n; what = w } in
    let k = both (nat_eq x.cost y.cost) (same_deed x.deed y.deed) e in
    ap (λ z. of z (what_of x.deed)) (eqb-true x.cost y.cost k.0) ∙ ap (of y.cost) (deed_exact x.deed y.deed k.1)

lists_exact : (xs ys : List Entry) → pointwise same_entry xs ys ≡ true → entries_of xs ≡ entries_of ys
lists_exact [] [] e = refl
lists_exact [] (y ∷ ys) e = absurd (true≢false (sym e))
lists_exact (x ∷ xs) [] e = absurd (true≢false (sym e))
lists_exact (x ∷ xs) (y ∷ ys) e =
    let k = both (same_entry x y) (pointwise same_entry xs ys) e in
    ap (λ z. z ∷ entries_of xs) (entry_exact x y k.0) ∙ ap (λ z. entry_of y ∷ z) (lists_exact xs ys k.1)

pub entries_exact : (x y : Vec Entry Global) → same_entries x y ≡ true → entries_of x.items ≡ entries_of y.items
entries_exact x y e = lists_exact x.items y.items e
