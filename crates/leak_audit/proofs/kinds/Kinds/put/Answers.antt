use Rattle.std.proofs.Common.{◌≡◌, ℕ, ◌+◌, ◌++◌, List, [], ◌∷◌, map, sym, ap, ◌∙◌, subst, Vec, Global}
use Rattle.std.specs.Cmp.Derive.Mapped.{pointwise-map}
use Rattle.std.specs.Cmp.Lexicographic.{pointwise}
use Rattle.label_code.specs.Machine.{Event}
use Rattle.leak_audit.specs.declared.sighting.Sighting.{Sighting}
use Rattle.leak_audit.specs.contracts.sighting.SightingPartialEq as equality
use Rattle.leak_audit.specs.Observed.{event_of, sequence_of}
use Rattle.leak_audit.specs.Sequences.{same_event, same_sequence, Classed}
use Rattle.leak_audit.proofs.Classing.{tests_sequences, one_classed, insert-shown, position-shown}
use Rattle.leak_audit.proofs.kinds.Kinds.put.Goals as goal

classed_at : (xs ds es : List (List Event)) (cs bs : List ℕ) → ds ≡ es → cs ≡ bs → Classed same_sequence xs ds cs → Classed same_sequence xs es bs
classed_at xs ds es cs bs q r h = subst (λ z. Classed same_sequence xs z bs) q (subst (λ z. Classed same_sequence xs ds z) r h)

-- sequences in memory are equal where the events that they stand for are the same
shown : (x y : Vec Sighting Global) → pointwise equality.TheImpl.ghosts.eq x.items y.items ≡ same_sequence (sequence_of x) (sequence_of y)
shown x y = sym (pointwise-map event_of same_event x.items y.items)

pub returns : goal.returns
returns c = λ seqs h.
    let ks = c.args.self.now.different.keys in
    let x = c.args.sequence in
    let index = c.in_ok-index.ensures.index ∙ position-shown sequence_of
    (λ x y. pointwise equality.TheImpl.ghosts.eq x.items y.items) same_sequence shown x ks in
    classed_at (seqs ++ sequence_of x ∷ []) _ _ _ _
    (sym (ap (map sequence_of) c.in_ok-index.ensures.keys ∙ insert-shown sequence_of
    (λ x y. pointwise equality.TheImpl.ghosts.eq x.items y.items) same_sequence shown ks x))
    (sym (c.in_ok-push.ensures.items ∙ ap (λ n. c.args.self.now.classes.items ++ (n + 1) ∷ []) index))
    (one_classed same_sequence tests_sequences seqs (map sequence_of ks) c.args.self.now.classes.items (sequence_of x) h)
