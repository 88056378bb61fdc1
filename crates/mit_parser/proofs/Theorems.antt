-- From verdicts to spellings.
use Rattle.std.proofs.Common.{◌≡◌, refl, ap, ◌∙◌, sym, subst, List, [], ◌∷◌, ◌++◌, append_assoc, false, cond, Option, Some, None}
use Rattle.text_base.specs.declared.pos.Pos.{Pos}
use Rattle.mit_parser.specs.declared.fault.ParseFault.{ParseFault}
use Rattle.mit_parser.specs.declared.fault.ParseFault.TheVariants.{Unexpected, TooDeep, TooMany, Unknown, Twice, Lattice, Memory, Size, Misuse}
use Rattle.mit_parser.specs.Words.{Told, the_end, end_at, is, is_end, head_symbol}
use Rattle.mit_parser.specs.Tree.{ProgramTree, front_program, front_header, front_declarations, front_commands}
use Rattle.mit_parser.specs.Counting.{nothing_yet, count, is_over, Fits}
use Rattle.mit_parser.specs.State.{State}
use Rattle.mit_parser.specs.Machine.{Part, want, step, verdict, Bad, Deep, choice}
use Rattle.mit_parser.specs.Reads.{Refused, Found, OnlyEnd}
use Rattle.mit_parser.specs.Spells.{Begins, IsUnexpected, IsTooDeep, Refuses}
use Rattle.mit_parser.proofs.Rules.{bad_at}
use Rattle.mit_parser.proofs.Verdicts.{after, StopsAt, tells_bad, tells_deep, stuck, stuck_after}
use Rattle.mit_parser.proofs.Trees.{start, never_stuck}
use Rattle.mit_parser.proofs.Back.{back_all, complete}

-- what the machine takes begins a spelling
pub begins : (p : List Told) (left : List Part) → after start p ≡ Some left → Begins p
begins p left h =
    let k = complete left in
    let c = back_all start left p k.0 h k.1 in
    let d = c.3 in
    let m = d.3 in
    let e = m.3 in
    let t : ProgramTree = record { header = c.0; declarations = d.0; commands = m.0 } in
    (k.0, t, (e.0, c.2 ∙ ap (front_header c.0) (d.2 ∙ ap (front_declarations d.0) (m.2 ∙ ap (front_commands m.0) (e.2 ∙ ap (λ l. end_at e.0 ∷ l) e.3)))))

-- where it is stuck, no spelling begins
pub begins_none : (p : List Told) (left : List Part) (b : Told) → after start p ≡ Some left → step left b.symbol ≡ None → Begins (p ++ b ∷ []) → ⊥
begins_none p left b h n begun =
    let w = begun.0 in
    let at : stuck start (p ++ b ∷ w) ≡ Some (b ∷ w) = stuck_after start left b p w h n in
    let same : p ++ b ∷ w ≡ front_program begun.1 (end_at begun.2.0 ∷ []) = sym (append_assoc p (b ∷ []) w) ∙ begun.2.1 in
    let none : stuck start (p ++ b ∷ w) ≡ None = ap (stuck start) same ∙ never_stuck begun.1 begun.2.0 in
    cc

after_one : (s left next : List Part) (p : List Told) (b : Told) → after s p ≡ Some left → step left b.symbol ≡ Some next → after s (p ++ b ∷ []) ≡ Some next
after_one s left next [] b h e =
    let same : s ≡ left = cc in
    ap (λ q. choice (step q b.symbol) None (λ t. Some t)) same ∙ ap (λ o. choice o None (λ t. Some t)) e
after_one s left next (a ∷ p) b h e = after_step s left next p a b (step s a.symbol) refl h (λ u q. after_one u left next p b q e)
  where
    after_step : (s left next : List Part) (p : List Told) (a b : Told) (o : Option (List Part)) → step s a.symbol ≡ o
        → choice o None (λ u. after u p) ≡ Some left
        → ((u : List Part) → after u p ≡ Some left → after u (p ++ b ∷ []) ≡ Some next) → after s (a ∷ (p ++ b ∷ [])) ≡ Some next
    after_step s left next p a b None q h ih = cc
    after_step s left next p a b (Some u) q h ih = ap (λ o. choice o None (λ t. after t (p ++ b ∷ []))) q ∙ ih u h

pub unexpected : (words l : List Told) (pos : Pos) (b : Told) (r : List Told) → l ≡ b ∷ r → b.pos ≡ pos
    → verdict start nothing_yet words ≡ Bad l → IsUnexpected words pos
unexpected words l pos b r e place v =
    let k = tells_bad start nothing_yet words l v in
    record {
      before = k.before;
      bad = b;
      after = r;
      are = k.are ∙ ap (λ x. k.before ++ x) e;
      place = place;
      begins = begins k.before k.left k.reads;
      ends = begins_none k.before k.left b k.reads (subst (StopsAt k.left) e k.stops);
      fit = k.fit;
    }

pub too_deep : (words l : List Told) (pos : Pos) (b : Told) (r : List Told) → l ≡ b ∷ r → b.pos ≡ pos
    → verdict start nothing_yet words ≡ Deep l → IsTooDeep words pos
too_deep words l pos b r e place v =
    let k = tells_deep start nothing_yet words l v in
    let same : k.deep ≡ b = cc (k.there, e) in
    record {
      before = k.before;
      deep = k.deep;
      after = k.rest;
      are = k.are ∙ ap (λ x. k.before ++ x) k.there;
      place = ap (λ t. t.pos) same ∙ place;
      begins = begins (k.before ++ k.deep ∷ []) k.next (after_one start k.left k.next k.before k.deep k.reads k.takes);
      fit = k.fit;
      passes = k.passes;
    }

-- what refuses a part refuses the words
pub refuses : (words : List Told) (old new : State) (part : Part) (rest : List Part) (f : ParseFault)
    → verdict start nothing_yet words ≡ verdict (part ∷ rest) old.counts old.words
    → Refused part old new f → Refuses words f
refuses words old new part rest (Unexpected p) e h = unexpected words new.words p h.first h.rest h.there h.place (e ∙ h.is rest)
refuses words old new part rest (TooDeep p) e h = too_deep words new.words p h.first h.rest h.there h.place (e ∙ h.is rest)
refuses words old new part rest (TooMany n) e h = absurd h
refuses words old new part rest (Unknown p) e h = absurd h
refuses words old new part rest (Twice p) e h = absurd h
refuses words old new part rest (Lattice l) e h = absurd h
refuses words old new part rest Memory e h = tt
refuses words old new part rest (Size p) e h = absurd h
refuses words old new part rest (Misuse p) e h = absurd h

-- more than a program
pub more_left : (words : List Told) (new : State) (f : ParseFault) → verdict start nothing_yet words ≡ verdict (want the_end ∷ []) new.counts new.words
    → is the_end (head_symbol new.words) ≡ false
    → Found f new → Refuses words f
more_left words new (Unexpected p) e n h =
    let stops : step (want the_end ∷ []) h.first.symbol ≡ None = ap (λ b. cond b (Some []) None) (sym (ap (λ l. is_end (head_symbol l)) h.was) ∙ n) in
    unexpected words new.words p h.first h.rest h.was h.place
    (e ∙ ap (verdict (want the_end ∷ []) new.counts) h.was ∙ bad_at (want the_end ∷ []) new.counts h.first h.rest stops ∙ ap Bad (sym h.was))
more_left words new (TooDeep p) e n h = absurd h
more_left words new (TooMany k) e n h = absurd h
more_left words new (Unknown p) e n h = absurd h
more_left words new (Twice p) e n h = absurd h
more_left words new (Lattice l) e n h = absurd h
more_left words new Memory e n h = absurd h
more_left words new (Size p) e n h = absurd h
more_left words new (Misuse p) e n h = absurd h

-- the words pass no limit where the machine takes them all
pub all_fit : (words : List Told) (new : State) → verdict start nothing_yet words ≡ verdict (want the_end ∷ []) new.counts new.words → OnlyEnd new.words
    → is_over (count new.counts the_end) ≡ false → Fits nothing_yet words
all_fit words new e o low =
    let through : verdict start nothing_yet words ≡ Bad [] =
    e ∙ ap (verdict (want the_end ∷ []) new.counts) o.1 ∙ ap (λ b. cond b (Deep (end_at o.0 ∷ [])) (Bad [])) low in
    let t = tells_bad start nothing_yet words [] through in
    subst (Fits nothing_yet) (sym (Rattle.std.proofs.lemmas.List.append-nil t.before) ∙ sym t.are) t.fit
