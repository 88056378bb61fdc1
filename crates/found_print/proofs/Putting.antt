-- Items that are put one behind another.
use Rattle.std.proofs.Common.{◌≡◌, ℕ, ◌+◌, ◌<◌, sym, ap, ◌∙◌, List, [], ◌++◌, append_assoc, append-nil, length, get_or, drop}
use Rattle.std.proofs.lemmas.List.{drop_more}
use Rattle.mit_syntax.specs.declared.token.Token.{Token}
use Rattle.mit_syntax.specs.Program.{Syntax}
use Rattle.flow_path.specs.declared.step.Step.{Step}
use Rattle.json_text.specs.Json.{Items, items_text}
use Rattle.found_print.specs.Chains.{step_items, steps_items}
use Rattle.found_print.specs.Puts.{PutsItems}

pub puts_then : (a b c : List ℕ) (f g : Items → Items) → PutsItems a b f → PutsItems b c g → PutsItems a c (λ more. f (g more))
puts_then a b c f g h k = record { is = λ more. k.is more ∙ h.is (g more) }

-- the items of one step more
pub steps_on : (T : List ℕ) (ts : List Token) (s : Syntax) (a : List ℕ) (xs : List Step) (i : ℕ) (x : Step) (old new whole : List ℕ) → i < length xs
    → PutsItems old new (step_items T ts s (get_or xs i x) a) → old ++ items_text (steps_items T ts s (drop i xs) a) ≡ whole
    → new ++ items_text (steps_items T ts s (drop (i + 1) xs) a) ≡ whole
steps_on T ts s a xs i x old new whole h e so =
    e.is (steps_items T ts s (drop (i + 1) xs) a) ∙ sym (ap (λ (z : List Step). old ++ items_text (steps_items T ts s z a)) (drop_more xs i x h)) ∙ so

-- pieces, put one after another
pub then_three : (x₀ x₁ x₂ x₃ a b c : List ℕ) → x₁ ≡ x₀ ++ a → x₂ ≡ x₁ ++ b → x₃ ≡ x₂ ++ c → x₃ ≡ x₀ ++ (a ++ (b ++ c))
then_three x₀ x₁ x₂ x₃ a b c e₁ e₂ e₃ = e₃ ∙ ap (λ l. l ++ c) (e₂ ∙ ap (λ l. l ++ b) e₁) ∙ simp append_assoc

pub then_four : (x₀ x₁ x₂ x₃ x₄ a b c d : List ℕ) → x₁ ≡ x₀ ++ a → x₂ ≡ x₁ ++ b → x₃ ≡ x₂ ++ c → x₄ ≡ x₃ ++ d → x₄ ≡ x₀ ++ (a ++ (b ++ (c ++ d)))
then_four x₀ x₁ x₂ x₃ x₄ a b c d e₁ e₂ e₃ e₄ = e₄ ∙ ap (λ l. l ++ d) (then_three x₀ x₁ x₂ x₃ a b c e₁ e₂ e₃) ∙ simp append_assoc

-- an object of a place, an end and a text
pub line_put : (x₀ x₁ x₂ x₃ x₄ x₅ brace place colon from comma end to text words close : List ℕ) → x₁ ≡ x₀ ++ (brace ++ (place ++ colon))
    → x₂ ≡ x₁ ++ (from ++ ((comma ++ (end ++ colon)) ++ to)) → x₃ ≡ x₂ ++ (comma ++ (text ++ colon)) → x₄ ≡ x₃ ++ words → x₅ ≡ x₄ ++ close
    → x₅ ≡ x₀ ++ (brace ++ ((place ++ (colon ++ (from ++ (comma ++ (end ++ (colon ++ (to ++ (comma ++ (text ++ (colon ++ (words ++ []))))))))))) ++ close))
line_put x₀ x₁ x₂ x₃ x₄ x₅ brace place colon from comma end to text words close e₁ e₂ e₃ e₄ e₅ =
    e₅ ∙ ap (λ l. l ++ close) (e₄ ∙ ap (λ l. l ++ words) (e₃ ∙ ap (λ l. l ++ (comma ++ (text ++ colon)))
    (e₂ ∙ ap (λ l. l ++ (from ++ ((comma ++ (end ++ colon)) ++ to))) e₁))) ∙ simp (append_assoc, append-nil)

-- an object of a status, a message and two numbers, on a line
pub counted_put : (x₁ x₂ x₃ x₄ x₅ x₆ brace status colon found comma message line one m two n close feed : List ℕ)
    → x₁ ≡ (brace ++ (status ++ colon)) ++ (found ++ ((comma ++ (message ++ colon)) ++ line)) → x₂ ≡ x₁ ++ (comma ++ (one ++ colon)) → x₃ ≡ x₂ ++ m
    → x₄ ≡ x₃ ++ (comma ++ (two ++ colon)) → x₅ ≡ x₄ ++ n → x₆ ≡ x₅ ++ (close ++ feed)
    → x₆ ≡ (brace ++ ((status ++ (colon ++ (found ++ (comma ++ (message ++ (colon ++ (line ++ (comma ++ (one ++ (colon ++ (m ++ (comma ++ (two
    ++ (colon ++ (n ++ []))))))))))))))) ++ close)) ++ feed
counted_put x₁ x₂ x₃ x₄ x₅ x₆ brace status colon found comma message line one m two n close feed e₁ e₂ e₃ e₄ e₅ e₆ =
    e₆ ∙ ap (λ l. l ++ (close ++ feed)) (e₅ ∙ ap (λ l. l ++ n) (e₄ ∙ ap (λ l. l ++ (comma ++ (two ++ colon))) (e₃ ∙ ap (λ l. l ++ m)
    (e₂ ∙ ap (λ l. l ++ (comma ++ (one ++ colon))) e₁)))) ∙ simp (append_assoc, append-nil)

-- an object of a status, a message, a place, an end, a rule, labels and a chain, on a line
pub refused_put : (x₁ x₂ x₃ x₄ x₅ x₆ x₇ x₈ x₉ x₁₀ brace status colon found comma message line place from end to rule name labels pair chain items close
    feed : List ℕ)
    → x₁ ≡ (brace ++ (status ++ colon)) ++ (found ++ ((comma ++ (message ++ colon)) ++ line)) → x₂ ≡ x₁ ++ (comma ++ (place ++ colon))
    → x₃ ≡ x₂ ++ (from ++ ((comma ++ (end ++ colon)) ++ to)) → x₄ ≡ x₃ ++ (comma ++ (rule ++ colon)) → x₅ ≡ x₄ ++ name
    → x₆ ≡ x₅ ++ (comma ++ (labels ++ colon)) → x₇ ≡ x₆ ++ pair → x₈ ≡ x₇ ++ (comma ++ (chain ++ colon)) → x₉ ≡ x₈ ++ items
    → x₁₀ ≡ x₉ ++ (close ++ feed)
    → x₁₀ ≡ (brace ++ ((status ++ (colon ++ (found ++ (comma ++ (message ++ (colon ++ (line ++ (comma ++ (place ++ (colon ++ (from ++ (comma ++ (end
    ++ (colon ++ (to ++ (comma ++ (rule ++ (colon ++ (name ++ (comma ++ (labels ++ (colon ++ (pair ++ (comma ++ (chain ++ (colon
    ++ (items ++ []))))))))))))))))))))))))))) ++ close)) ++ feed
refused_put x₁ x₂ x₃ x₄ x₅ x₆ x₇ x₈ x₉ x₁₀ brace status colon found comma message line place from end to rule name labels pair chain items close feed
    e₁ e₂ e₃ e₄ e₅ e₆ e₇ e₈ e₉ e₁₀ =
    e₁₀ ∙ ap (λ l. l ++ (close ++ feed)) (e₉ ∙ ap (λ l. l ++ items) (e₈ ∙ ap (λ l. l ++ (comma ++ (chain ++ colon))) (e₇ ∙ ap (λ l. l ++ pair)
    (e₆ ∙ ap (λ l. l ++ (comma ++ (labels ++ colon))) (e₅ ∙ ap (λ l. l ++ name) (e₄ ∙ ap (λ l. l ++ (comma ++ (rule ++ colon)))
    (e₃ ∙ ap (λ l. l ++ (from ++ ((comma ++ (end ++ colon)) ++ to))) (e₂ ∙ ap (λ l. l ++ (comma ++ (place ++ colon))) e₁))))))))
    ∙ simp (append_assoc, append-nil)
