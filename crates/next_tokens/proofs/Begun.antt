-- From what the machine takes to what the grammar allows.
use Rattle.std.proofs.Common.{◌≡◌, refl, ap, ◌∙◌, sym, List, [], ◌∷◌, ◌++◌, append_assoc, Option, Some, None}
use Rattle.mit_parser.specs.Words.{Told, end_at}
use Rattle.mit_parser.specs.Tree.{ProgramTree, front_program, front_header, front_declarations, front_commands}
use Rattle.mit_parser.specs.Machine.{Part, step, choice}
use Rattle.mit_parser.specs.Spells.{Begins}
use Rattle.mit_parser.proofs.Verdicts.{after as machine_after, stuck, stuck_after}
use Rattle.mit_parser.proofs.Trees.{start, never_stuck}
use Rattle.mit_parser.proofs.Back.{back_all, complete}
use Rattle.next_tokens.specs.Parts.{after}

-- the same as the parser's
same_choice : (o : Option (List Part)) (f g : List Part → Option (List Part)) → ((t : List Part) → f t ≡ g t) → choice o None f ≡ choice o None g
same_choice None f g h = refl
same_choice (Some t) f g h = h t

pub same_after : (s : List Part) (p : List Told) → after s p ≡ machine_after s p
same_after s [] = refl
same_after s (b ∷ r) = same_choice (step s b.symbol) (λ t. after t r) (λ t. machine_after t r) (λ t. same_after t r)

-- what the machine takes begins a spelling
pub begins : (p : List Told) (left : List Part) → after start p ≡ Some left → Begins p
begins p left h =
    let k = complete left in
    let c = back_all start left p k.0 (sym (same_after start p) ∙ h) k.1 in
    let d = c.3 in
    let m = d.3 in
    let e = m.3 in
    let t : ProgramTree = record { header = c.0; declarations = d.0; commands = m.0 } in
    (k.0, t, (e.0, c.2 ∙ ap (front_header c.0) (d.2 ∙ ap (front_declarations d.0) (m.2 ∙ ap (front_commands m.0) (e.2 ∙ ap (λ l. end_at e.0 ∷ l) e.3)))))

-- where it is stuck, no spelling begins
pub begins_none : (p : List Told) (left : List Part) (b : Told) → after start p ≡ Some left → step left b.symbol ≡ None → Begins (p ++ b ∷ []) → ⊥
begins_none p left b h n begun =
    let w = begun.0 in
    let at : stuck start (p ++ b ∷ w) ≡ Some (b ∷ w) = stuck_after start left b p w (sym (same_after start p) ∙ h) n in
    let same : p ++ b ∷ w ≡ front_program begun.1 (end_at begun.2.0 ∷ []) = sym (append_assoc p (b ∷ []) w) ∙ begun.2.1 in
    let none : stuck start (p ++ b ∷ w) ≡ None = ap (stuck start) same ∙ never_stuck begun.1 begun.2.0 in
    cc

-- one word more
pub after_one : (s left next : List Part) (p : List Told) (b : Told) → after s p ≡ Some left
    → step left b.symbol ≡ Some next → after s (p ++ b ∷ []) ≡ Some next
after_one s left next [] b h e =
    let same : s ≡ left = cc in
    ap (λ q. choice (step q b.symbol) None (λ t. Some t)) same ∙ ap (λ o. choice o None (λ t. Some t)) e
after_one s left next (a ∷ p) b h e = after_step s left next p a b (step s a.symbol) refl h (λ u q. after_one u left next p b q e)
  where
    after_step : (s left next : List Part) (p : List Told) (a b : Told) (o : Option (List Part)) → step s a.symbol ≡ o
        → choice o None (λ u. after u p) ≡ Some left
        → ((u : List Part) → after u p ≡ Some left → after u (p ++ b ∷ []) ≡ Some next) → after s (a ∷ (p ++ b ∷ [])) ≡ Some next
    after_step s left next p a b None q h ih = cc
    after_step s left next p a b (Some u) q h ih = ap (λ o. choice o None (λ t. after t (p ++ b ∷ []))) q ∙ ih u h
