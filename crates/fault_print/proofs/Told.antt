-- What is told of a token, and of a byte with which no word begins.
use Rattle.std.proofs.Common.{◌≡◌, ◌≢◌, ◌-◌, ◌<◌, sym, ap, ◌∙◌, subst, ℕ, List, [], ◌++◌, length, take, get_or, Result, Ok, Err, IfOk, OnOk}
use Rattle.std.proofs.Common.{inr, arith}
use Rattle.std.specs.Prelude.{◌==◌, if◌then◌else◌}
use Rattle.std.proofs.lemmas.Option.{slice_get-get_or}
use Rattle.text_base.specs.declared.pos.Pos.{Pos}
use Rattle.mit_syntax.specs.declared.fault.TextFault.{TextFault}
use Rattle.mit_syntax.specs.declared.fault.TextFault.TheVariants.{Memory}
use Rattle.mit_syntax.specs.declared.token.Token.{Token}
use Rattle.mit_syntax.specs.Cut.{AreTokens, token_bytes}
use Rattle.mit_parser.specs.Words.{told}
use Rattle.next_tokens.specs.declared.sort.Sort.{Sort}
use Rattle.next_tokens.specs.Following.{Reaches}
use Rattle.next_tokens.specs.Sorts.{sort_in}
use Rattle.fault_print.specs.Marked.{marked, from_place, before_place}
use Rattle.fault_print.specs.Words.{expected_line}
use Rattle.fault_print.specs.Faults.{found_sort, trap_at, token_lines, lines_at, Follow, CouldFollow, byte_lines, TellsByte}

pub on_ok : {A E : Type 0} (r : Result A E) (P Q : Type 0) → (P → Q) → OnOk r P → OnOk r Q
on_ok (Ok v) P Q f h = f h
on_ok (Err e) P Q f h = h

pub if_ok : {A E : Type 0} (r : Result A E) (P Q : A → Type 0) → ((v : A) → P v → Q v) → IfOk r P → IfOk r Q
if_ok (Ok v) P Q f h = f v h
if_ok (Err e) P Q f h = h

-- the lines on the token with a number
pub token_told : (T : List ℕ) (ts : List Token) (n : ℕ) (d : Token) (could : List Sort) (x : Sort) (w trap old new : List ℕ) → n < length ts
    → x ≡ sort_in (get_or ts n d).kind → w ≡ token_bytes T (get_or ts n d) → trap ≡ trap_at T ts n x w could
    → new ≡ old ++ (marked T (get_or ts n d).pos ++ (found_sort (sort_in (get_or ts n d).kind) w ++ (expected_line could ++ trap)))
    → new ≡ old ++ token_lines T ts n could
token_told T ts n d could x w trap old new h sort word is e =
    let t : Token = get_or ts n d in
    let k : Sort = sort_in t.kind in
    e
    ∙ ap (λ (z : List ℕ). old ++ (marked T t.pos ++ (found_sort k w ++ (expected_line could ++ z)))) is
    ∙ ap (λ (z : Sort). old ++ (marked T t.pos ++ (found_sort k w ++ (expected_line could ++ trap_at T ts n z w could)))) sort
    ∙ ap (λ (z : List ℕ). old ++ (marked T t.pos ++ (found_sort k z ++ (expected_line could ++ trap_at T ts n k z could)))) word
    ∙ ap (λ z. old ++ lines_at T ts n could z) (sym (slice_get-get_or ts n d h))

pub not_all : (a b : ℕ) (xs ys : List Sort) → a ≢ b → (if a == b then xs else ys) ≡ ys
not_all a b xs ys h = grind arith

-- what could stand behind a text with these tokens
pub follows : (F : List ℕ) (ts : List Token) (could : List Sort) (n taken : ℕ) (sorts : List Sort) → n ≡ length ts - 1
    → ((text : List ℕ) → Reaches (told text (take n ts)) taken sorts) → could ≡ (if taken == n then sorts else []) → AreTokens F ts → Follow F could
follows F ts could n taken sorts e reaches are cut =
    record {
      tokens = ts;
      cut = cut;
      taken = taken;
      sorts = sorts;
      reaches = subst (λ (k : ℕ). Reaches (told F (take k ts)) taken sorts) e (reaches F);
      are = are ∙ ap (λ (k : ℕ). if taken == k then sorts else []) e;
    }

pub none_follow : (F : List ℕ) (f : TextFault) (could : List Sort) → ((others : List Token) → AreTokens F others → f ≡ Memory)
    → (f ≢ Memory) × (could ≡ []) → CouldFollow F could
none_follow F f could only h = inr ((λ ts cut. h.0 (only ts cut)), h.1)

pub tells_byte : (T : List ℕ) (p : Pos) (could : List Sort) (before old t : List ℕ) → before ≡ before_place T p → CouldFollow before could → old ≡ []
    → t ≡ old ++ (marked T p ++ byte_lines (from_place T p) could) → TellsByte T p t
tells_byte T p could before old t e follow none lines =
    record {
      could = could;
      follow = subst (λ (z : List ℕ). CouldFollow z could) e follow;
      lines = lines ∙ ap (λ (z : List ℕ). z ++ (marked T p ++ byte_lines (from_place T p) could)) none;
    }
