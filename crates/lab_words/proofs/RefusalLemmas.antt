-- The line on words that ask for nothing: its pieces, and that all words can be taken where each can stand.
use Rattle.std.proofs.Common.{◌≡◌, ◌∙◌, refl, sym, ap, ap₂, subst, ℕ, ◌+◌, ◌<◌, ◌≤◌, arith, Bool, true, false, ◌&&◌, ◌||◌, ⊎_elim}
use Rattle.std.proofs.Common.{List, [], ◌∷◌, ◌++◌, append_assoc, length, drop, get_or, map, String, string_bytes}
use Rattle.std.proofs.lemmas.List.{drop-map, drop_more, take_all}
use Rattle.std.proofs.Math.Nat.{eq-or-lt_of_le}
use Rattle.clap.specs.Faults.{defaults_fault, walk_fault}
use Rattle.clap.specs.Walk.{is_empty}
use Rattle.clap.specs.Words.{App, Row, Text, fault_of, is_simple_and_free, matches_of}
use Rattle.lab_words.specs.declared.verbs.Verb.{Verb}
use Rattle.lab_words.specs.declared.verbs.Verb.TheVariants.{Why, Seen, Timeline, Bound, Steady, Leak, Tune, Check, Help, Version}
use Rattle.lab_words.specs.QuestionForms.{form_app}
use Rattle.lab_words.specs.Refusal.{StandUpTo, has_values, loosened, is_taken, stands, wrong_line, wrong_line_at}

pub then_three : (x₀ x₁ x₂ x₃ a b c : List ℕ) → x₁ ≡ x₀ ++ a → x₂ ≡ x₁ ++ b → x₃ ≡ x₂ ++ c → x₃ ≡ x₀ ++ (a ++ (b ++ c))
then_three x₀ x₁ x₂ x₃ a b c e₁ e₂ e₃ =
    let two : x₂ ≡ x₀ ++ (a ++ b) = e₂ ∙ ap (λ l. l ++ b) e₁ ∙ simp append_assoc in
    e₃ ∙ ap (λ l. l ++ c) two ∙ simp append_assoc

pub then_five : (x₀ x₁ x₂ x₃ x₄ x₅ a b c d e : List ℕ) → x₁ ≡ x₀ ++ a → x₂ ≡ x₁ ++ b → x₃ ≡ x₂ ++ c → x₄ ≡ x₃ ++ d → x₅ ≡ x₄ ++ e
    → x₅ ≡ x₀ ++ (a ++ (b ++ (c ++ (d ++ e))))
then_five x₀ x₁ x₂ x₃ x₄ x₅ a b c d e e₁ e₂ e₃ e₄ e₅ =
    let three : x₃ ≡ x₀ ++ (a ++ (b ++ c)) = then_three x₀ x₁ x₂ x₃ a b c e₁ e₂ e₃ in
    let four : x₄ ≡ x₀ ++ (a ++ (b ++ (c ++ d))) = e₄ ∙ ap (λ l. l ++ d) three ∙ simp append_assoc in
    e₅ ∙ ap (λ l. l ++ e) four ∙ simp append_assoc

-- the form of each command without words that must be there is one of which `clap` tells the faults
pub loose_simple : (verb : Verb) (a : App) → a ≡ loosened (form_app verb) → is_simple_and_free a ≡ true
loose_simple Why a e = ap is_simple_and_free e
loose_simple Seen a e = ap is_simple_and_free e
loose_simple Timeline a e = ap is_simple_and_free e
loose_simple Bound a e = ap is_simple_and_free e
loose_simple Steady a e = ap is_simple_and_free e
loose_simple Leak a e = ap is_simple_and_free e
loose_simple Tune a e = ap is_simple_and_free e
loose_simple Check a e = ap is_simple_and_free e
loose_simple Help a e = ap is_simple_and_free e
loose_simple Version a e = ap is_simple_and_free e

-- words that `clap` takes can be taken where their values are of their form
pub taken_by : (verb : Verb) (words : List Text) (a : App) (rows : List Row) (b : Bool) → a ≡ loosened (form_app verb) → is_empty (fault_of a words) ≡ true
    → rows ≡ matches_of a words → b ≡ has_values rows → b ≡ is_taken verb words
taken_by verb words a rows b app free found e =
    let clean : is_empty (fault_of (loosened (form_app verb)) words) ≡ true = subst (λ (x : App). is_empty (fault_of x words) ≡ true) app free in
    let at : rows ≡ matches_of (loosened (form_app verb)) words = found ∙ ap (λ (x : App). matches_of x words) app in
    e ∙ ap has_values at ∙ sym (ap (λ (z : Bool). z && has_values (matches_of (loosened (form_app verb)) words)) clean)

pub not_taken : (verb : Verb) (words : List Text) (a : App) → a ≡ loosened (form_app verb) → is_empty (fault_of a words) ≡ false → false ≡ is_taken verb words
not_taken verb words a app fault =
    let at : is_empty (fault_of (loosened (form_app verb)) words) ≡ false = subst (λ (x : App). is_empty (fault_of x words) ≡ false) app fault in
    sym (ap (λ (z : Bool). z && has_values (matches_of (loosened (form_app verb)) words)) at)

-- no words can be taken after any command word
pub none_taken : (verb : Verb) → is_taken verb [] ≡ true
unfolding walk_fault defaults_fault
none_taken Why = refl
none_taken Seen = refl
none_taken Timeline = refl
none_taken Bound = refl
none_taken Steady = refl
none_taken Leak = refl
none_taken Tune = refl
none_taken Check = refl
none_taken Help = refl
none_taken Version = refl

one_of_same : (a b c : Bool) → a ≡ c → b ≡ c → a || b ≡ true → c ≡ true
one_of_same true b c e f h = sym e
one_of_same false b c e f h = sym f ∙ h

-- where each word can stand, all can be taken
pub all_taken : (verb : Verb) (words : List Text) → StandUpTo verb words (length words) → is_taken verb words ≡ true
all_taken verb [] h = none_taken verb
all_taken verb (w ∷ ws) h =
    one_of_same _ _ _ (ap (is_taken verb) (take_all (length ws + 1) (w ∷ ws) (omega arith)))
    (ap (is_taken verb) (take_all (length ws + 2) (w ∷ ws) (omega arith))) (h (length ws) (omega arith))

pub stand_more : (verb : Verb) (words : List Text) (n : ℕ) → StandUpTo verb words n → stands verb words n ≡ true → StandUpTo verb words (n + 1)
stand_more verb words n h e m i =
    let le : m ≤ n = omega (arith, i) in
    ⊎_elim (λ (q : m ≡ n). subst (λ z. stands verb words z ≡ true) (sym q) e) (λ (q : m < n). h m q) (eq-or-lt_of_le le)

-- the word at a place, and those after it
pub wrong_at : {Z : Type 0} (verb : Verb) (command : Text) (words rest : List (String Z)) (n : ℕ) (w : String Z) (text : Text) → n < length words
    → w ≡ get_or words n w → text ≡ string_bytes w → rest ≡ drop (n + 1) words
    → wrong_line verb command text (map string_bytes rest) ≡ wrong_line_at verb command (drop n (map string_bytes words))
wrong_at verb command words rest n w text lt is told more =
    let at : drop n (map string_bytes words) ≡ string_bytes w ∷ map string_bytes (drop (n + 1) words) =
    drop-map string_bytes n words ∙ ap (map string_bytes) (drop_more words n w lt)
    ∙ ap (λ z. string_bytes z ∷ map string_bytes (drop (n + 1) words)) (sym is) in
    ap₂ (λ t r. wrong_line verb command t (map string_bytes r)) told more ∙ sym (ap (wrong_line_at verb command) at)
