-- One text is told of a fault.
use Rattle.std.proofs.Common.{◌≡◌, ◌-◌, sym, ap, ◌∙◌, subst, ℕ, List, [], ◌++◌, length, inl, inr}
use Rattle.std.specs.Prelude.{◌==◌, if◌then◌else◌}
use Rattle.text_base.specs.declared.pos.Pos.{Pos}
use Rattle.mit_syntax.specs.declared.fault.TextFault.{TextFault}
use Rattle.mit_syntax.specs.declared.fault.TextFault.TheVariants as text
use Rattle.mit_syntax.specs.declared.token.Token.{Token}
use Rattle.mit_syntax.proofs.OneList.{one_list}
use Rattle.mit_parser.specs.declared.fault.ParseFault.{ParseFault}
use Rattle.mit_parser.specs.declared.fault.ParseFault.TheVariants as parse
use Rattle.mit_parser.specs.Words.{told}
use Rattle.next_tokens.specs.declared.sort.Sort.{Sort}
use Rattle.next_tokens.specs.Following.{Reaches}
use Rattle.fault_print.specs.Marked.{marked, from_place, before_place}
use Rattle.fault_print.specs.Faults.{token_lines, TellsToken, but_end, Follow, CouldFollow, byte_lines, TellsByte, TellsText, TellsTokens}
use Rattle.fault_print.proofs.OneReach.{one_reach}

one_token : (T : List ℕ) (ts : List Token) (t x : List ℕ) → TellsToken T ts t → TellsToken T ts x → t ≡ x
one_token T ts t x h k =
    let one = one_reach (told T ts) h.taken k.taken h.sorts k.sorts h.reaches k.reaches in
    h.lines ∙ ap (λ (n : ℕ). token_lines T ts n h.sorts) one.0 ∙ ap (token_lines T ts k.taken) one.1 ∙ sym k.lines

one_follow : (F : List ℕ) (a b : List Sort) → Follow F a → Follow F b → a ≡ b
one_follow F a b h k =
    let list : h.tokens ≡ k.tokens = one_list F h.tokens k.tokens h.cut k.cut in
    let reaches : Reaches (told F (but_end k.tokens)) h.taken h.sorts =
    subst (λ (z : List Token). Reaches (told F (but_end z)) h.taken h.sorts) list h.reaches in
    let one = one_reach (told F (but_end k.tokens)) h.taken k.taken h.sorts k.sorts reaches k.reaches in
    h.are ∙ ap (λ (z : List Token). if h.taken == length z - 1 then h.sorts else []) list
    ∙ ap (λ (n : ℕ). if n == length k.tokens - 1 then h.sorts else []) one.0
    ∙ ap (λ (z : List Sort). if k.taken == length k.tokens - 1 then z else []) one.1 ∙ sym k.are

pub one_could : (F : List ℕ) (a b : List Sort) → CouldFollow F a → CouldFollow F b → a ≡ b
one_could F a b (inl h) (inl k) = one_follow F a b h k
one_could F a b (inl h) (inr k) = absurd (k.0 h.tokens h.cut)
one_could F a b (inr h) (inl k) = absurd (h.0 k.tokens k.cut)
one_could F a b (inr h) (inr k) = h.1 ∙ sym k.1

one_byte : (T : List ℕ) (p : Pos) (t x : List ℕ) → TellsByte T p t → TellsByte T p x → t ≡ x
one_byte T p t x h k =
    h.lines ∙ ap (λ (z : List Sort). marked T p ++ byte_lines (from_place T p) z) (one_could (before_place T p) h.could k.could h.follow k.follow) ∙ sym k.lines

pub one_text : (T : List ℕ) (f : TextFault) (t x : List ℕ) → TellsText T f t → TellsText T f x → t ≡ x
one_text T (text.NotUtf8 n) t x h k = h ∙ sym k
one_text T (text.BadByte p) t x h k = one_byte T p t x h k
one_text T (text.WideNumber p) t x h k = h ∙ sym k
one_text T (text.LongName p) t x h k = h ∙ sym k
one_text T text.Memory t x h k = h ∙ sym k

pub one_tokens : (T : List ℕ) (ts : List Token) (f : ParseFault) (t x : List ℕ) → TellsTokens T ts f t → TellsTokens T ts f x → t ≡ x
one_tokens T ts (parse.Unexpected p) t x h k = one_token T ts t x h k
one_tokens T ts (parse.TooDeep p) t x h k = h ∙ sym k
one_tokens T ts (parse.TooMany n) t x h k = h ∙ sym k
one_tokens T ts (parse.Unknown p) t x h k = h ∙ sym k
one_tokens T ts (parse.Twice p) t x h k = h ∙ sym k
one_tokens T ts (parse.Lattice f) t x h k = h ∙ sym k
one_tokens T ts parse.Memory t x h k = h ∙ sym k
one_tokens T ts (parse.Size p) t x h k = h ∙ sym k
one_tokens T ts (parse.Misuse p) t x h k = h ∙ sym k
