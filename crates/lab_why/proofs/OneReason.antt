-- One text tells the reason of a refusal.
use Rattle.std.proofs.Common.{◌≡◌, ℕ, List, Option, Some, sym, ap, subst, ◌∙◌}
use Rattle.label_lattice.specs.Order.{IsOrder}
use Rattle.mit_syntax.specs.declared.token.Token.{Token}
use Rattle.mit_syntax.specs.Cut.{AreTokens}
use Rattle.mit_syntax.specs.Program.{Syntax}
use Rattle.mit_syntax.proofs.OneList.{one_list}
use Rattle.timing_types.specs.Labelling.{Labelling}
use Rattle.timing_types.specs.Labelled.{first_broken_of}
use Rattle.timing_types.specs.declared.rule.TypeFault.{TypeFault}
use Rattle.label_infer.proofs.OneLeast.{one_least}
use Rattle.flow_path.specs.Told.{IsTold}
use Rattle.flow_path.proofs.Earliest.{told_one}
use Rattle.tool_stages.specs.Stages.{HasNoType}
use Rattle.tool_stages.specs.Content.{IsKnown}
use Rattle.tool_stages.proofs.GoesLemmas.{one_told}
use Rattle.lab_why.specs.Reasons.{HasReason, fault_of, refused_of, refusal_text}

one_labelling : (p : Syntax) (t x : List ℕ) → IsOrder p.order → (f : HasNoType p t) (g : HasNoType p x) → f.labels ≡ g.labels
one_labelling p t x o f g = one_least p o f.labels g.labels f.least g.least

one_fault : (p : Syntax) (t x : List ℕ) → IsOrder p.order → (f : HasNoType p t) (g : HasNoType p x) → fault_of f ≡ fault_of g
one_fault p t x o f g =
    let labels : f.labels ≡ g.labels = one_labelling p t x o f g in
    let same : Some (fault_of f) ≡ Some (fault_of g) =
    sym f.first ∙ ap (λ (l : Labelling). first_broken_of (record { program = p; labels = l })) labels ∙ g.first in
    cc

is_told : {c : Option (Option (List ℕ))} {p : Syntax} {t : List ℕ} (h : HasReason c p t) → IsTold (refused_of h.refused) (fault_of h.refused) h.chain
is_told h = record { reason = h.reason; cheapest = h.cheapest; earliest = h.earliest }

pub one_reason : (c : Option (Option (List ℕ))) (p : Syntax) (t x : List ℕ) → IsKnown c → IsOrder p.order → HasReason c p t → HasReason c p x → t ≡ x
one_reason c p t x known o h k =
    let bytes : h.source.bytes ≡ k.source.bytes = one_told c h.source.bytes k.source.bytes known h.source.are k.source.are in
    let tokens : h.source.tokens ≡ k.source.tokens =
    one_list k.source.bytes h.source.tokens k.source.tokens (subst (λ (z : List ℕ). AreTokens z h.source.tokens) bytes h.source.cut) k.source.cut in
    let fault : fault_of h.refused ≡ fault_of k.refused = one_fault p h.line k.line o h.refused k.refused in
    let chain : h.chain ≡ k.chain =
    told_one (refused_of k.refused) (fault_of k.refused) h.chain k.chain
    (subst (λ (z : Labelling). IsTold (record { program = p; labels = z }) (fault_of k.refused) h.chain) (one_labelling p h.line k.line o h.refused k.refused)
    (subst (λ (z : TypeFault). IsTold (refused_of h.refused) z h.chain) fault (is_told h))) (is_told k) in
    h.text
    ∙ ap (λ (z : List ℕ). refusal_text z h.source.tokens p (fault_of h.refused) h.chain) bytes
    ∙ ap (λ (z : List Token). refusal_text k.source.bytes z p (fault_of h.refused) h.chain) tokens
    ∙ ap (λ (z : TypeFault). refusal_text k.source.bytes k.source.tokens p z h.chain) fault
    ∙ ap (refusal_text k.source.bytes k.source.tokens p (fault_of k.refused)) chain
    ∙ sym k.text
