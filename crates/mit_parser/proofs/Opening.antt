-- The header as a whole.
use Rattle.std.proofs.Common.{◌≡◌, refl, ap, ◌∙◌, sym, subst, ℕ, List, [], ◌∷◌, length, Option, None, arith}
use Rattle.label_lattice.specs.declared.label.Label.{Label}
use Rattle.label_lattice.specs.Order.{Order}
use Rattle.mit_syntax.specs.declared.token.Keyword.TheVariants.{Labels}
use Rattle.mit_syntax.specs.declared.token.Sign.TheVariants.{Semicolon}
use Rattle.mit_syntax.specs.Chunks.{key, sign}
use Rattle.mit_parser.specs.declared.fault.ParseFault.{ParseFault}
use Rattle.mit_parser.specs.declared.fault.ParseFault.TheVariants.{Memory}
use Rattle.mit_parser.specs.Words.{word, sign_at, key_at}
use Rattle.mit_parser.specs.State.{State, with_fault}
use Rattle.mit_parser.specs.Tree.{header_of, front_names, front_ordering}
use Rattle.mit_parser.specs.Faults.{Labelled, labelled, add_labels, as_labels, ordering_numbers, note_ordering}
use Rattle.mit_parser.specs.Machine.{Part, want, header, ordering, after_labels, verdict}
use Rattle.mit_parser.specs.Reads.{Refused, Took}
use Rattle.mit_parser.specs.Headers.{AreLabels, IsOrdering, Makes, IsHeader}
use Rattle.mit_parser.proofs.Listed.{after_word}

pub refused_memory : (part : Part) (old new : State) (f : ParseFault) → f ≡ Memory → Refused part old new f
refused_memory part old new f e = subst (Refused part old new) (sym e) tt

pub header_some : (old a b c d new : State) (labels : List (List ℕ)) (numbers : List (ℕ × ℕ)) (lattice : Option Order) (kept_pairs : List (Label × Label))
    → old.fault ≡ None
    → Took (word (key Labels)) old a → AreLabels labels a b → Took (word (sign Semicolon)) b c → IsOrdering labels numbers c d
    → new ≡ with_fault d new.fault → Makes labels (as_labels numbers) d.fault lattice kept_pairs new.fault → IsHeader lattice kept_pairs old new
header_some old a b c d new labels numbers lattice kept_pairs n t l u o e m =
    let k = l.taken in
    let s : labelled labels b.fault ≡ add_labels k.tree.1 (labelled (k.tree.0.0 ∷ []) None) =
    k.means ∙ ap (λ z. add_labels k.tree.1 (labelled (k.tree.0.0 ∷ []) z)) (t.fault ∙ n) in
    let f : d.fault ≡ note_ordering labels o.tree b.fault = o.means.1 ∙ ap (note_ordering labels o.tree) u.fault in
    let v : Makes labels (as_labels (ordering_numbers labels o.tree)) (note_ordering labels o.tree b.fault) lattice kept_pairs new.fault =
    subst (λ z. Makes labels (as_labels (ordering_numbers labels o.tree)) z lattice kept_pairs new.fault) f
    (subst (λ z. Makes labels (as_labels z) d.fault lattice kept_pairs new.fault) o.means.0 m) in
    let here : new.words ≡ d.words = ap (λ z. z.words) e in
    let size = ap length here in
    record {
      tree = header_of t.place k.tree.0.0 k.tree.0.1 k.tree.1 u.place o.tree;
      spelled = t.was ∙ ap (λ z. key_at Labels t.place ∷ z)
          (k.spelled ∙ ap (front_names k.tree) (u.was ∙ ap (λ z. sign_at Semicolon u.place ∷ z) (o.spelled ∙ ap (front_ordering o.tree) (sym here))));
      means = subst (λ (z : Labelled). Makes z.names (as_labels (ordering_numbers z.names o.tree)) (note_ordering z.names o.tree z.fault)
          lattice kept_pairs new.fault) s v;
      next = ap (λ z. z.marks) e ∙ o.next ∙ u.marks ∙ k.next ∙ t.marks;
      goes = λ s. after_word (word (key Labels)) header after_labels old a (λ s. refl) t s ∙ k.goes (want (word (sign Semicolon)) ∷ ordering ∷ s)
          ∙ u.goes (ordering ∷ s) ∙ o.goes s
          ∙ ap (λ z. verdict s z.counts z.words) (sym e);
      shorter = omega (arith, size, t.shorter, k.shorter, u.shorter, o.shorter);
    }
