-- A made text is read, one of its labels is L, and its starts are valid.
use Rattle.std.proofs.Common.{◌≡◌, ◌≤◌, ◌<◌, ℕ, zero, suc, List, [], ◌∷◌, ◌++◌, length, Option, Some, inl, inr, refl, sym, ap, subst, ◌∙◌, arith, codes}
use Rattle.std.specs.Prelude.{slice_index_or}
use Rattle.label_lattice.specs.declared.label.Label.{Label}
use Rattle.label_lattice.specs.Order.{Order, name_of}
use Rattle.mit_syntax.specs.declared.token.Token.{Token}
use Rattle.mit_syntax.specs.Cut.{start, moved, end_at, AreTokens}
use Rattle.mit_syntax.specs.Program.{Syntax}
use Rattle.mit_syntax.proofs.OneFault.{no_tokens}
use Rattle.mit_parser.specs.Words.{Told, told}
use Rattle.mit_parser.specs.Tree.{Header, no_header, ProgramTree}
use Rattle.mit_parser.specs.Named.{label_names}
use Rattle.mit_parser.specs.Spells.{Spells, Refuses, IsProgram}
use Rattle.mit_gen.specs.Made.{program_text, starts_text}
use Rattle.mit_gen.proofs.Sizes.{program_short, starts_short}
use Rattle.made_laws.specs.Words.{HasWords}
use Rattle.made_laws.specs.MadeWords.{program_chunks, program_words}
use Rattle.made_laws.proofs.Apart.{chunk_words}
use Rattle.made_laws.proofs.Parts.{program_apart}
use Rattle.made_laws.proofs.Texts.{program_bytes}
use Rattle.made_laws.proofs.Onto.{ToldAs, told_as}
use Rattle.made_laws.proofs.Trees.{program_tree, program_spelled}
use Rattle.made_laws.proofs.Wholly.{made_spelled}
use Rattle.made_laws.specs.MadeStarts.{made_starts}
use Rattle.made_laws.proofs.Given.{made_has_starts}
use Rattle.parse_laws.proofs.Meant.{program_order}
use Rattle.parse_laws.proofs.OneProgram.{one_tree}
use Rattle.parse_laws.proofs.Refused.{not_refused}
use Rattle.tool_texts.specs.declared.status.Status.{Status}
use Rattle.tool_texts.specs.declared.status.Status.TheVariants as status
use Rattle.tool_texts.specs.Texts.{program}
use Rattle.tool_stages.specs.Stages.{Reads, HasTextFault, HasParseFault, ProgramStops, ObserverStops, Observes, StartsAre}
use Rattle.tool_stages.specs.Goes.{OfObserver}
use Rattle.tool_stages.proofs.OneFirst.{one_observer}
use Rattle.tool_stages.proofs.StageStops.{BadText, file_goes, program_stops, observer_stops}

made_words : (size number : ℕ) → HasWords (program_text size number) (program_words size number)
made_words size number =
    let P : List ℕ → Type 0 = λ t. HasWords t (program_words size number) in
    subst P (program_bytes size number) (chunk_words (program_chunks size number) (program_apart size number))

no_text_fault : (size number : ℕ) (t : List ℕ) → HasTextFault (Some (Some (program_text size number))) t → ⊥
no_text_fault size number t f =
    let w : HasWords (program_text size number) (program_words size number) = made_words size number in
    f.none (no_tokens f.bytes f.fault (w.tokens ++ end_at (moved start (program_text size number)) ∷ []) f.is
    (subst (λ (z : List ℕ). AreTokens z (w.tokens ++ end_at (moved start (program_text size number)) ∷ [])) (sym f.are) w.are))

no_parse_fault : (size number : ℕ) (t : List ℕ) → 0 < size → HasParseFault (Some (Some (program_text size number))) t → ⊥
no_parse_fault size number t some f =
    let cut : AreTokens (program_text size number) f.tokens = subst (λ (z : List ℕ). AreTokens z f.tokens) f.are f.cut in
    let is : Refuses (told (program_text size number) f.tokens) f.fault = subst (λ (z : List ℕ). Refuses (told z f.tokens) f.fault) f.are f.is in
    f.none (not_refused (told (program_text size number) f.tokens) (made_spelled size number some (made_words size number) f.tokens cut) f.fault is)

no_bad_text : (size number : ℕ) (t : List ℕ) → 0 < size → BadText (Some (Some (program_text size number))) t → ⊥
no_bad_text size number t some (inl f) = no_text_fault size number t f
no_bad_text size number t some (inr f) = no_parse_fault size number t some f

pub made_goes : (size number : ℕ) (s : Status) (t : List ℕ) → 0 < size → size ≤ 10000 → ProgramStops ⊥ (Some (Some (program_text size number))) s t → ⊥
made_goes size number s t some few h =
    let c : Option (Option (List ℕ)) = Some (Some (program_text size number)) in
    file_goes ⊥ program c (BadText c) status.Syntax s t (λ n. n) (λ long. let short = program_short size number few in
    omega (arith, long, short)) (no_bad_text size number t some) (program_stops ⊥ c s t h)

-- ---- its labels

made_header : (size number : ℕ) (tokens : List Token) (tree : ProgramTree) → 0 < size → AreTokens (program_text size number) tokens
    → Spells tree (told (program_text size number) tokens) → tree.header ≡ no_header
made_header zero number tokens tree some a s = absurd (omega (arith, some))
made_header (suc n) number tokens tree some a s =
    let words : List Told = told (program_text (suc n) number) tokens in
    let h : ToldAs words (program_words (suc n) number) =
    told_as (program_text (suc n) number) (program_words (suc n) number) (made_words (suc n) number) tokens a in
    let spells : Spells (program_tree number n h.positions) words = (h.last, h.are ∙ program_spelled number n h.positions _) in
    ap (λ (x : ProgramTree). x.header) (one_tree words tree (program_tree number n h.positions) s spells)

first_is_low : (head : Header) (o : Order) → head ≡ no_header → o.size ≡ length (label_names head) → o.names ≡ label_names head
    → (0 < o.size) × (name_of o 0 ≡ codes "L")
first_is_low head o is size named =
    let two : o.size ≡ 2 = size ∙ ap (λ (x : Header). length (label_names x)) is in
    let names : o.names ≡ (76 ∷ []) ∷ (72 ∷ []) ∷ [] = named ∙ ap (λ (x : Header). label_names x) is in
    (omega (arith, two), ap (λ (x : List (List ℕ)). slice_index_or x 0 []) names)

made_low : (size number : ℕ) (p : Syntax) → 0 < size → Reads (Some (Some (program_text size number))) p → (0 < p.order.size) × (name_of p.order 0 ≡ codes "L")
made_low size number p some r =
    let cut : AreTokens (program_text size number) r.tokens = subst (λ (z : List ℕ). AreTokens z r.tokens) r.are r.cut in
    let spells : Spells r.spelled.tree (told (program_text size number) r.tokens) =
    subst (λ (z : List ℕ). Spells r.spelled.tree (told z r.tokens)) r.are r.spelled.spells in
    first_is_low r.spelled.tree.header p.order (made_header size number r.tokens r.spelled.tree some cut spells) r.spelled.resolves.order.size
    r.spelled.resolves.order.named

pub made_observer_goes : (size number : ℕ) (p : Syntax) (s : Status) (t : List ℕ) → 0 < size → Reads (Some (Some (program_text size number))) p
    → ObserverStops p.order (Some (codes "L")) s t → ⊥
made_observer_goes size number p s t some r h =
    let k = made_low size number p some r in
    (observer_stops p.order (Some (codes "L")) s t h).1 0 k.0 k.1

-- what is so of its first label is so of the observer that L names
pub made_observer : (size number : ℕ) (p : Syntax) (o : Option Label) (P : ℕ → Type 0) → 0 < size → Reads (Some (Some (program_text size number))) p
    → Observes p.order (Some (codes "L")) o → P 0 → OfObserver P o
made_observer size number p o P some r is h =
    let first : Label = record { number = 0 } in
    let same : o ≡ Some first = one_observer p.order (Some (codes "L")) o (Some first) (program_order _ p r.spelled) is (made_low size number p some r) in
    subst (OfObserver P) (sym same) h

-- ---- its starts

pub made_starts_are : (size number : ℕ) (p : Syntax) → 0 < size → Reads (Some (Some (program_text size number))) p
    → StartsAre (Some (Some starts_text)) p made_starts
made_starts_are size number p some r =
    let text : List ℕ = program_text size number in
    let cut : AreTokens text r.tokens = subst (λ (z : List ℕ). AreTokens z r.tokens) r.are r.cut in
    let spelled : IsProgram (told text r.tokens) p = subst (λ (z : List ℕ). IsProgram (told z r.tokens) p) r.are r.spelled in
    let has = made_has_starts size number some (made_words size number) p (r.tokens, cut, spelled) in
    (starts_text, refl, starts_short, has.gives)
