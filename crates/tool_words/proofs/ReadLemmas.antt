-- What the values of taken words ask for.
use Rattle.std.proofs.Common.{◌≡◌, ◌∙◌, sym, ap, subst, List, Option, Some, None, Bool, true, cond, Result, option_map, ok_or, IfOk}
use Rattle.clap.specs.Words.{App, Row, Text, fault_of, matches_of}
use Rattle.clap.specs.Walk.{is_empty}
use Rattle.tool_words.specs.declared.words.Command.{Command}
use Rattle.tool_words.specs.declared.verbs.Verb.{Verb}
use Rattle.tool_words.specs.declared.words.WordsFault.{WordsFault}
use Rattle.tool_words.specs.WordsAsked.{Asked, asked_after, asked_of, form_app, given}

pub taken_asks : (verb : Verb) (words : List Text) (a : App) (rows : List Row) (t : Option Asked) → a ≡ form_app verb
    → is_empty (fault_of a words) ≡ true → rows ≡ matches_of a words → t ≡ given verb rows → asked_after verb words ≡ t
taken_asks verb words a rows t app taken found e =
    let free : is_empty (fault_of (form_app verb) words) ≡ true = subst (λ (x : App). is_empty (fault_of x words) ≡ true) app taken in
    let at : rows ≡ matches_of (form_app verb) words = found ∙ ap (λ (x : App). matches_of x words) app in
    ap (λ (b : Bool). cond b (given verb (matches_of (form_app verb) words)) None) free ∙ sym (e ∙ ap (given verb) at)

pub ok_asks : (t : Option Asked) (r : Option Command) (e : WordsFault) (res : Result Command WordsFault) → res ≡ ok_or r e → t ≡ option_map asked_of r
    → IfOk res (λ c. t ≡ Some (asked_of c))
ok_asks t None e res p q = subst (λ (x : Result Command WordsFault). IfOk x (λ c. t ≡ Some (asked_of c))) (sym p) tt
ok_asks t (Some x) e res p q = subst (λ (x : Result Command WordsFault). IfOk x (λ c. t ≡ Some (asked_of c))) (sym p) q
