-- One text tells where a label comes from.
use Rattle.std.proofs.Common.{◌≡◌, ℕ, List, [], ◌∷◌, ◌++◌, map, Option, None, Some, codes, refl, sym, ap, subst, ◌∙◌}
use Rattle.std.proofs.lemmas.Option.{none-some}
use Rattle.label_lattice.specs.Order.{IsOrder, name_of}
use Rattle.mit_syntax.specs.declared.token.Token.{Token}
use Rattle.mit_syntax.specs.Cut.{AreTokens}
use Rattle.mit_syntax.specs.Program.{Syntax}
use Rattle.mit_syntax.proofs.OneList.{one_list}
use Rattle.timing_types.specs.Labelling.{Labelling}
use Rattle.timing_types.specs.Labelled.{LabelledProgram}
use Rattle.label_infer.proofs.OneLeast.{one_least}
use Rattle.flow_path.specs.declared.step.Spot.{Spot}
use Rattle.flow_path.specs.declared.step.Step.{Step}
use Rattle.flow_path.specs.declared.origins.Origin.{Origin}
use Rattle.flow_path.specs.Steps.{written}
use Rattle.flow_path.specs.Origins.{IsOmitted, label_there}
use Rattle.flow_path.specs.Sameness.{label_and_steps, TellTheSame}
use Rattle.flow_path.proofs.OneList.{list_one}
use Rattle.flow_path.proofs.Telling.{omitted_written}
use Rattle.flow_print.specs.Lines.{chain_text, origins_text}
use Rattle.tool_stages.specs.Content.{IsKnown}
use Rattle.tool_stages.proofs.GoesLemmas.{one_told}
use Rattle.lab_why.specs.Origins.{TellsOrigins, HasOrigins}

-- the lines of chains, by their steps alone
abbrev lines_by : List ℕ → List Token → Syntax → List (ℕ × List Step) → List ℕ
lines_by T ts s [] = []
lines_by T ts s (w ∷ ws) = chain_text T ts s w.1 ++ lines_by T ts s ws

lines_is : (T : List ℕ) (ts : List Token) (s : Syntax) (ws : List Origin) → origins_text T ts s ws ≡ lines_by T ts s (map label_and_steps ws)
lines_is T ts s [] = refl
lines_is T ts s (w ∷ ws) = ap (λ (z : List ℕ). chain_text T ts s w.chain.items ++ z) (lines_is T ts s ws)

same_lines : (T : List ℕ) (ts : List Token) (s : Syntax) (xs ys : List Origin) → TellTheSame xs ys → origins_text T ts s xs ≡ origins_text T ts s ys
same_lines T ts s xs ys h = lines_is T ts s xs ∙ ap (λ (z : List (ℕ × List Step)). lines_by T ts s z) h ∙ sym (lines_is T ts s ys)

-- two lists of chains that are told tell the same
same_origins : (T : List ℕ) (ts : List Token) (q : LabelledProgram) (w : List ℕ) (spot : Spot) (t x : List ℕ) (h : TellsOrigins T ts q w spot t)
    (k : TellsOrigins T ts q w spot x) → TellTheSame h.origins k.origins
same_origins T ts q w spot t x h k = go (written q.program spot) refl
  where
    go : (o : Option ℕ) → written q.program spot ≡ o → TellTheSame h.origins k.origins
    go None e = list_one q.program spot h.origins k.origins (h.told e) (k.told e)
    go (Some a) e =
        let no : IsOmitted q.program spot → ⊥ = λ i. none-some a (sym (omitted_written q.program spot i) ∙ e) in
        ap (λ (z : List Origin). map label_and_steps z) (h.none no ∙ sym (k.none no))

pub one_text : (T : List ℕ) (ts : List Token) (q : LabelledProgram) (w : List ℕ) (spot : Spot) (t x : List ℕ) → TellsOrigins T ts q w spot t
    → TellsOrigins T ts q w spot x → t ≡ x
one_text T ts q w spot t x h k =
    h.lines
    ∙ ap (λ (z : List ℕ). w ++ (codes " is " ++ (name_of q.program.order (label_there q spot) ++ (codes "\n" ++ z))))
    (same_lines T ts q.program h.origins k.origins (same_origins T ts q w spot t x h k))
    ∙ sym k.lines

pub one_origins : (c : Option (Option (List ℕ))) (p : Syntax) (w : List ℕ) (spot : Spot) (t x : List ℕ) → IsKnown c → IsOrder p.order
    → HasOrigins c p w spot t → HasOrigins c p w spot x → t ≡ x
one_origins c p w spot t x known o h k =
    let bytes : h.source.bytes ≡ k.source.bytes = one_told c h.source.bytes k.source.bytes known h.source.are k.source.are in
    let tokens : h.source.tokens ≡ k.source.tokens =
    one_list k.source.bytes h.source.tokens k.source.tokens (subst (λ (z : List ℕ). AreTokens z h.source.tokens) bytes h.source.cut) k.source.cut in
    let labels : h.labels ≡ k.labels = one_least p o h.labels k.labels h.least k.least in
    one_text k.source.bytes k.source.tokens (record { program = p; labels = k.labels }) w spot t x
    (subst (λ (z : Labelling). TellsOrigins k.source.bytes k.source.tokens (record { program = p; labels = z }) w spot t) labels
    (subst (λ (z : List Token). TellsOrigins k.source.bytes z (record { program = p; labels = h.labels }) w spot t) tokens
    (subst (λ (z : List ℕ). TellsOrigins z h.source.tokens (record { program = p; labels = h.labels }) w spot t) bytes h.tells)))
    k.tells
