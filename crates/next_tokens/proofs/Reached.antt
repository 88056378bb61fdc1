-- How far tokens begin a program, and what can stand behind these.
use Rattle.std.proofs.Common.{◌≡◌, ◌<◌, ◌+◌, refl, ap, ◌∙◌, sym, subst, ℕ, List, [], ◌∷◌, ◌++◌}
use Rattle.std.proofs.Common.{length, take, drop, get_or, Option, Some, None, Bool, true, false, cond, arith}
use Rattle.std.specs.Prelude.{is_some, map}
use Rattle.std.proofs.lemmas.List.{take_more, drop_more, take-map, drop-map, length-map, map-append}
use Rattle.mit_syntax.specs.declared.token.Token.{Token}
use Rattle.mit_syntax.specs.declared.token.TokenKind.{TokenKind}
use Rattle.mit_syntax.specs.declared.token.TokenKind.TheVariants as kind
use Rattle.mit_syntax.specs.Cut.{token_bytes}
use Rattle.mit_parser.specs.Words.{Symbol, Told, told, symbol_of}
use Rattle.mit_parser.specs.Machine.{Part, step}
use Rattle.mit_parser.specs.Spells.{Begins}
use Rattle.next_tokens.specs.declared.sort.Sort.{Sort}
use Rattle.next_tokens.specs.Sorts.{sort_in, sort_of}
use Rattle.next_tokens.specs.Following.{IsOneOf, all_sorts, Reaches}
use Rattle.next_tokens.specs.Parts.{after, at_start, IsRead, AreTaken}
use Rattle.next_tokens.proofs.Begun.{begins, begins_none, after_one}
use Rattle.next_tokens.proofs.Sets.{every_sort}

sort_same : (k : TokenKind) (w : List ℕ) → sort_of (symbol_of k w) ≡ sort_in k
sort_same (kind.Key k) w = refl
sort_same kind.Name w = refl
sort_same (kind.Number n) w = refl
sort_same (kind.Sign s) w = refl
sort_same kind.End w = refl

abbrev one_told : List ℕ → Token → Told
one_told text t = record { symbol = symbol_of t.kind (token_bytes text t); pos = t.pos }

told_map : (text : List ℕ) (ts : List Token) → told text ts ≡ map (one_told text) ts
told_map text [] = refl
told_map text (t ∷ ts) = ap (λ l. one_told text t ∷ l) (told_map text ts)

told_take : (text : List ℕ) (ts : List Token) (n : ℕ) → take n (told text ts) ≡ told text (take n ts)
told_take text ts n = ap (take n) (told_map text ts) ∙ take-map (one_told text) n ts ∙ sym (told_map text (take n ts))

told_drop : (text : List ℕ) (ts : List Token) (n : ℕ) → drop n (told text ts) ≡ told text (drop n ts)
told_drop text ts n = ap (drop n) (told_map text ts) ∙ drop-map (one_told text) n ts ∙ sym (told_map text (drop n ts))

told_length : (text : List ℕ) (ts : List Token) → length (told text ts) ≡ length ts
told_length text ts = ap length (told_map text ts) ∙ length-map ts (one_told text)

told_more : (text : List ℕ) (ts : List Token) (i : ℕ) (d : Token) → i < length ts
    → told text (take (i + 1) ts) ≡ told text (take i ts) ++ one_told text (get_or ts i d) ∷ []
told_more text ts i d h =
    ap (told text) (take_more ts i d h)
    ∙ told_map text (take i ts ++ get_or ts i d ∷ [])
    ∙ map-append (one_told text) (take i ts) (get_or ts i d ∷ [])
    ∙ ap (λ l. l ++ one_told text (get_or ts i d) ∷ []) (sym (told_map text (take i ts)))

module _ (text : List ℕ) (ts : List Token) where
  -- all tokens are taken
  pub read_all : (n : ℕ) (left : List Part) → n ≡ length ts → after at_start (told text (take n ts)) ≡ Some left → IsRead (told text ts) n left
  read_all n left e r =
      let size = told_length text ts in
      record {
        within = omega (arith, size, e);
        reads = ap (after at_start) (told_take text ts n) ∙ r;
        stops = λ b rest d. absurd (none b rest (ap length (sym (told_drop text ts n)) ∙ ap length d));
      }
    where
      none : (b : Told) (rest : List Told) → length (told text (drop n ts)) ≡ length (b ∷ rest) → ⊥
      none b rest d =
          let size = told_length text (drop n ts) in
          let cut = Rattle.std.proofs.lemmas.List.length-drop n ts in
          omega (arith, size, cut, e, d)

  module _ (i : ℕ) (d : Token) (left : List Part) (x : Sort) (h : i < length ts) (s : x ≡ sort_in (get_or ts i d).kind)
      (r : after at_start (told text (take i ts)) ≡ Some left) where
    -- what the token says
    abbrev symbol_there : Symbol
    symbol_there = symbol_of (get_or ts i d).kind (token_bytes text (get_or ts i d))

    sort_there : sort_of symbol_there ≡ x
    sort_there = sort_same (get_or ts i d).kind (token_bytes text (get_or ts i d)) ∙ sym s

    none : (o : Option (List Part)) → false ≡ is_some o → o ≡ None
    none None q = refl
    none (Some l) q = cc

    taken : (next : List Part) (b : Bool) (o : Option (List Part)) → o ≡ cond b (Some next) None → true ≡ is_some o → o ≡ Some next
    taken next true o q c = q
    taken next false o q c = cc

    -- a token can't be taken
    pub read_to : ((w : Symbol) → sort_of w ≡ x → false ≡ is_some (step left w)) → IsRead (told text ts) i left
    read_to cannot =
        let size = told_length text ts in
        record {
          within = omega (arith, size, h);
          reads = ap (after at_start) (told_take text ts i) ∙ r;
          stops = λ b rest q. stops b rest (sym (told_drop text ts i ∙ ap (told text) (drop_more ts i d h)) ∙ q);
        }
      where
        stops : (b : Told) (rest : List Told) → one_told text (get_or ts i d) ∷ told text (drop (i + 1) ts) ≡ b ∷ rest → step left b.symbol ≡ None
        stops b rest q =
            let same : one_told text (get_or ts i d) ≡ b = cc in
            subst (λ (y : Told). step left y.symbol ≡ None) same (none (step left symbol_there) (cannot symbol_there sort_there))

    -- a token is taken
    pub read_on : (next : List Part) (took : Bool) → ((w : Symbol) → sort_of w ≡ x → true ≡ is_some (step left w))
        → ((w : Symbol) → sort_of w ≡ x → step left w ≡ cond took (Some next) None)
        → after at_start (told text (take (i + 1) ts)) ≡ Some next
    read_on next took can takes =
        ap (after at_start) (told_more text ts i d h)
        ∙ after_one at_start left next (told text (take i ts)) (one_told text (get_or ts i d)) r
        (taken next took (step left symbol_there) (takes symbol_there sort_there) (can symbol_there sort_there))

-- what is read and what can be taken tell how far the words begin what the grammar allows
module _ (words : List Told) (n : ℕ) (left : List Part) (sorts : List Sort) (r : IsRead words n left) (t : AreTaken left all_sorts sorts) where
  next_only : (b : Told) (o : Option (List Part)) → step left b.symbol ≡ o → is_some o ≡ true → Begins (take n words ++ b ∷ [])
  next_only b None q e = cc
  next_only b (Some next) q e = begins (take n words ++ b ∷ []) next (after_one at_start left next (take n words) b r.reads q)

  next_all : (b : Told) (o : Option (List Part)) → step left b.symbol ≡ o → Begins (take n words ++ b ∷ []) → IsOneOf sorts (sort_of b.symbol)
  next_all b None q begun = absurd (begins_none (take n words) left b r.reads q begun)
  next_all b (Some next) q begun = t.all b.symbol (every_sort (sort_of b.symbol)) (ap is_some q)

  pub reaches : Reaches words n sorts
  reaches = record {
    within = r.within;
    begins = begins (take n words) left r.reads;
    ends = ends;
    next = record {
      only = λ b h. next_only b (step left b.symbol) refl (t.only b.symbol h);
      all = λ b begun. next_all b (step left b.symbol) refl begun;
      order = t.order;
    };
  }
    where
      ends : n < length words → Begins (take (n + 1) words) → ⊥
      ends h begun =
          let d : Told = record { symbol = Rattle.mit_parser.specs.Words.the_end; pos = record { line = 0; column = 0 } } in
          let b = get_or words n d in
          begins_none (take n words) left b r.reads (r.stops b (drop (n + 1) words) (drop_more words n d h)) (subst Begins (take_more words n d h) begun)
