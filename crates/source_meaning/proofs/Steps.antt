-- One command of a walk.
use Rattle.std.proofs.Common.{◌≡◌, ℕ, ◌-◌, List, [], ◌∷◌, ◌++◌, All, length, refl, sym, ap, ◌∙◌, subst, Vec, Global, Option}
use Rattle.std.specs.Prelude.{ℤ, true, cond, slice_set, pos, negsuc, zero, suc}
use Rattle.std.proofs.lemmas.List.Elements.{All-append, All-take}
use Rattle.label_lattice.specs.declared.label.Label.{Label}
use Rattle.mit_syntax.specs.declared.ast.Expr.{Expr}
use Rattle.mit_syntax.specs.Expression.{expression_of}
use Rattle.mit_syntax.specs.declared.ast.Command.{Command}
use Rattle.mit_syntax.specs.declared.ast.Form.{Form, While as DWhile, If as DIf, Mitigate as DMitigate}
use Rattle.mit_syntax.specs.declared.ast.Form.{Skip as FSkip, Assign as FAssign, Put as FPut, Sleep as FSleep, If' as FIf, While' as FWhile}
use Rattle.mit_syntax.specs.declared.ast.Form.{Mitigate' as FMitigate}
use Rattle.mit_syntax.specs.Todo.{Skip, Assign, Put, Sleep, If, While, Mitigate, then_todo}
use Rattle.mit_syntax.specs.Plan.{Written, Plan, form_plan, list_plan, plan-If, plan-While, plan-Mitigate}
use Rattle.mit_syntax.specs.Values.{value_of, holds, element}
use Rattle.source_meaning.specs.Source.{Note, Assigned, Started, Source, source_act}
use Rattle.source_meaning.specs.Walked.{source_at}
use Rattle.source_meaning.proofs.Stacks.{todo_some, todo_two}
use Rattle.source_meaning.proofs.Single.{All-none, All-one}
use Rattle.mit_syntax.specs.Valid.{AreSome}
use Rattle.source_meaning.specs.InRange.{AreIn}
use Rattle.source_meaning.specs.Frames.{without_last, some_list, todo_of, IsFrame, IsGoing}

abbrev pub written_of : Command → Written
written_of k = record { pos = k.pos; labels = k.labels }

-- the plan of a list from its first command
pub front : (list : List Command) (k : Command) (rest : List Command) → list ≡ k ∷ rest → list_plan list ≡ form_plan k.form (written_of k) (list_plan rest)
front list k rest e = ap list_plan e

module _ (list : List Command) (k : Command) (rest : List Command) (is : list ≡ k ∷ rest) where
  pub skip_front : k.form ≡ FSkip → list_plan list ≡ Skip (written_of k) (list_plan rest)
  skip_front e = front list k rest is ∙ ap (λ f. form_plan f (written_of k) (list_plan rest)) e

  pub sleep_front : (e : Expr) → k.form ≡ FSleep e → list_plan list ≡ Sleep (written_of k) (expression_of e) (list_plan rest)
  sleep_front e h = front list k rest is ∙ ap (λ f. form_plan f (written_of k) (list_plan rest)) h

  pub assign_front : (x : ℕ) (e : Expr) → k.form ≡ FAssign x e → list_plan list ≡ Assign (written_of k) x (expression_of e) (list_plan rest)
  assign_front x e h = front list k rest is ∙ ap (λ f. form_plan f (written_of k) (list_plan rest)) h

  pub put_front : (f n : ℕ) (i e : Expr) → k.form ≡ FPut f n i e → list_plan list ≡ Put (written_of k) f n (expression_of i) (expression_of e) (list_plan rest)
  put_front f n i e h = front list k rest is ∙ ap (λ z. form_plan z (written_of k) (list_plan rest)) h

  pub if_front : (e : Expr) (v u : Vec Command Global) → k.form ≡ DIf e v u
      → list_plan list ≡ If (written_of k) (expression_of e) (list_plan v.items) (list_plan u.items) (list_plan rest)
  if_front e v u h = front list k rest is ∙ (ap (λ f. form_plan f (written_of k) (list_plan rest)) h ∙ plan-If e v u (written_of k) (list_plan rest))

  pub while_front : (e : Expr) (v : Vec Command Global) → k.form ≡ DWhile e v
      → list_plan list ≡ While (written_of k) (expression_of e) (list_plan v.items) (list_plan rest)
  while_front e v h = front list k rest is ∙ (ap (λ f. form_plan f (written_of k) (list_plan rest)) h ∙ plan-While e v (written_of k) (list_plan rest))

  pub mitigate_front : (m : ℕ) (e : Expr) (l : Option Label) (v : Vec Command Global) → k.form ≡ DMitigate m e l v →
      list_plan list ≡ Mitigate (written_of k) m l (expression_of e) (list_plan v.items) (list_plan rest)
  mitigate_front m e l v h = front list k rest is
      ∙ (ap (λ f. form_plan f (written_of k) (list_plan rest)) h ∙ plan-Mitigate m e l v (written_of k) (list_plan rest))

-- a guard that is not 0 holds
pub holds_not : (z : ℤ) → (z ≡ pos 0 → ⊥) → holds z ≡ true
holds_not (pos zero) h = absurd (h refl)
holds_not (pos (suc n)) h = refl
holds_not (negsuc n) h = refl

some_front : (c : Command) (cs : List Command) → AreSome (list_plan (c ∷ cs))
some_front c cs = go c.form
  where
    go : (f : Form) → AreSome (form_plan f (written_of c) (list_plan cs))
    go FSkip = tt
    go (FAssign x e) = tt
    go (FPut a n i e) = tt
    go (FSleep e) = tt
    go (FIf e s a s' b) = tt
    go (FWhile e s c) = tt
    go (FMitigate m e l s c) = tt

some_frame : (k : ℕ) (f : List Command) → AreIn k (list_plan f) → All (IsFrame k) (some_list f)
some_frame k [] h = All-none (IsFrame k)
some_frame k (c ∷ cs) h = All-one (IsFrame k) (c ∷ cs) (some_front c cs, h)

pub going_left : (fs : List (List Command)) (k : ℕ) (rest : List Command) (new : List (List Command)) → IsGoing fs k → AreIn k (list_plan rest) →
    new ≡ without_last fs ++ some_list rest → IsGoing new k
going_left fs k rest new g h e = record {
  frames = subst (All (IsFrame k)) (sym e)
      (All-append (IsFrame k) (without_last fs) (some_list rest) (All-take (IsFrame k) (length fs - 1) fs g.frames) (some_frame k rest h));
  few = g.few;
}

pub going_entered : (fs : List (List Command)) (k : ℕ) (rest body : List Command) (new : List (List Command)) → IsGoing fs k
    → AreIn k (list_plan rest) → IsFrame k body →
    new ≡ without_last fs ++ (some_list rest ++ body ∷ []) → IsGoing new k
going_entered fs k rest body new g h b e = record {
  frames = subst (All (IsFrame k)) (sym e)
      (All-append (IsFrame k) (without_last fs) (some_list rest ++ body ∷ []) (All-take (IsFrame k) (length fs - 1) fs g.frames)
      (All-append (IsFrame k) (some_list rest) (body ∷ []) (some_frame k rest h) (All-one (IsFrame k) body b)));
  few = g.few;
}

-- a step that leaves its command
pub left : (fs : List (List Command)) (list rest : List Command) (new : List (List Command)) (x : Plan) (m m' : List ℤ) (t : List Note) → list_plan list ≡ x →
    new ≡ without_last fs ++ some_list rest →
    ((q : Plan) → source_act (then_todo x q) m [] ≡ record { todo = then_todo (list_plan rest) q; memory = m'; notes = t }) →
    source_act (then_todo (list_plan list) (todo_of (without_last fs))) m [] ≡ source_at (record { lists = new; memory = m' }) t
left fs list rest new x m m' t is e h =
    let q = todo_of (without_last fs) in
    ap (λ p. source_act (then_todo p q) m []) is
    ∙ (h q ∙ ap (λ z. let r : Source Written (Option Label) = record { todo = z; memory = m'; notes = t } in
    r) (sym (ap todo_of e ∙ todo_some (without_last fs) rest)))

-- a step into a list inside its command
pub entered : (fs : List (List Command)) (list rest body : List Command) (new : List (List Command)) (x : Plan) (m : List ℤ) (t : List Note)
    → list_plan list ≡ x →
    new ≡ without_last fs ++ (some_list rest ++ body ∷ []) →
    ((q : Plan) → source_act (then_todo x q) m [] ≡ record { todo = then_todo (list_plan body) (then_todo (list_plan rest) q); memory = m; notes = t }) →
    source_act (then_todo (list_plan list) (todo_of (without_last fs))) m [] ≡ source_at (record { lists = new; memory = m }) t
entered fs list rest body new x m t is e h =
    let q = todo_of (without_last fs) in
    ap (λ p. source_act (then_todo p q) m []) is
    ∙ (h q ∙ ap (λ z. let r : Source Written (Option Label) = record { todo = z; memory = m; notes = t } in
    r) (sym (ap todo_of e ∙ todo_two (without_last fs) rest body)))

abbrev at : Plan → List ℤ → List Note → Source Written (Option Label)
at p m t = record { todo = p; memory = m; notes = t }

module _ (fs : List (List Command)) (list : List Command) (k : Command) (rest : List Command) (new : List (List Command))
    (m : List ℤ) (is : list ≡ k ∷ rest) where
  pub skip_step : k.form ≡ FSkip → new ≡ without_last fs ++ some_list rest →
      source_act (then_todo (list_plan list) (todo_of (without_last fs))) m [] ≡ source_at (record { lists = new; memory = m }) []
  skip_step f e = left fs list rest new _ m m [] (skip_front list k rest is f) e (λ q. refl)

  pub sleep_step : (i : Expr) → k.form ≡ FSleep i → new ≡ without_last fs ++ some_list rest →
      source_act (then_todo (list_plan list) (todo_of (without_last fs))) m [] ≡ source_at (record { lists = new; memory = m }) []
  sleep_step i f e = left fs list rest new _ m m [] (sleep_front list k rest is i f) e (λ q. refl)

  pub assign_step : (x : ℕ) (i : Expr) (z : ℤ) → k.form ≡ FAssign x i → z ≡ value_of (expression_of i) m → new ≡ without_last fs ++ some_list rest →
      source_act (then_todo (list_plan list) (todo_of (without_last fs))) m []
      ≡ source_at (record { lists = new; memory = slice_set m x z }) (Assigned x z ∷ [])
  assign_step x i z f v e =
      left fs list rest new _ m (slice_set m x z) (Assigned x z ∷ []) (assign_front list k rest is x i f) e
      (λ q. ap (λ y. at (then_todo (list_plan rest) q) (slice_set m x y) (Assigned x y ∷ [])) (sym v))

  pub put_step : (a n : ℕ) (j i : Expr) (x : ℕ) (z : ℤ) → k.form ≡ FPut a n j i → x ≡ element a n (value_of (expression_of j) m)
      → z ≡ value_of (expression_of i) m → new ≡ without_last fs ++ some_list rest →
      source_act (then_todo (list_plan list) (todo_of (without_last fs))) m []
      ≡ source_at (record { lists = new; memory = slice_set m x z }) (Assigned x z ∷ [])
  put_step a n j i x z f w v e =
      left fs list rest new _ m (slice_set m x z) (Assigned x z ∷ []) (put_front list k rest is a n j i f) e
      (λ q. ap (λ y. at (then_todo (list_plan rest) q) (slice_set m (element a n (value_of (expression_of j) m)) y)
      (Assigned (element a n (value_of (expression_of j) m)) y ∷ [])) (sym v)
      ∙ ap (λ y. at (then_todo (list_plan rest) q) (slice_set m y z) (Assigned y z ∷ [])) (sym w))

  pub then_step : (i : Expr) (v u : Vec Command Global) (body : List Command) (z : ℤ) → k.form ≡ DIf i v u → z ≡ value_of (expression_of i) m
      → (z ≡ pos 0 → ⊥) → body ≡ v.items →
      new ≡ without_last fs ++ (some_list rest ++ body ∷ []) →
      source_act (then_todo (list_plan list) (todo_of (without_last fs))) m [] ≡ source_at (record { lists = new; memory = m }) []
  then_step i v u body z f w n b e =
      entered fs list rest body new _ m [] (if_front list k rest is i v u f) e
      (λ q. ap (λ y. at (cond y (then_todo (list_plan v.items) (then_todo (list_plan rest) q)) (then_todo (list_plan u.items) (then_todo (list_plan rest) q))) m
      []) (ap holds (sym w) ∙ holds_not z n)
      ∙ ap (λ y. at (then_todo (list_plan y) (then_todo (list_plan rest) q)) m []) (sym b))

  pub else_step : (i : Expr) (v u : Vec Command Global) (body : List Command) (z : ℤ) → k.form ≡ DIf i v u → z ≡ value_of (expression_of i) m
      → z ≡ pos 0 → body ≡ u.items →
      new ≡ without_last fs ++ (some_list rest ++ body ∷ []) →
      source_act (then_todo (list_plan list) (todo_of (without_last fs))) m [] ≡ source_at (record { lists = new; memory = m }) []
  else_step i v u body z f w n b e =
      entered fs list rest body new _ m [] (if_front list k rest is i v u f) e
      (λ q. ap (λ y. at (cond y (then_todo (list_plan v.items) (then_todo (list_plan rest) q)) (then_todo (list_plan u.items) (then_todo (list_plan rest) q))) m
      []) (ap holds (sym w) ∙ ap holds n)
      ∙ ap (λ y. at (then_todo (list_plan y) (then_todo (list_plan rest) q)) m []) (sym b))

  pub turn_step : (i : Expr) (v : Vec Command Global) (body : List Command) (z : ℤ) → k.form ≡ DWhile i v → z ≡ value_of (expression_of i) m
      → (z ≡ pos 0 → ⊥) → body ≡ v.items →
      new ≡ without_last fs ++ (some_list list ++ body ∷ []) →
      source_act (then_todo (list_plan list) (todo_of (without_last fs))) m [] ≡ source_at (record { lists = new; memory = m }) []
  turn_step i v body z f w n b e =
      let front = while_front list k rest is i v f in
      entered fs list list body new _ m [] front e
      (λ q. ap (λ y. at (cond y (then_todo (list_plan v.items) (While (written_of k) (expression_of i) (list_plan v.items) (then_todo (list_plan rest) q)))
      (then_todo (list_plan rest) q)) m [])
      (ap holds (sym w) ∙ holds_not z n)
      ∙ (ap (λ y. at (then_todo (list_plan v.items) (then_todo y q)) m []) (sym front)
      ∙ ap (λ y. at (then_todo (list_plan y) (then_todo (list_plan list) q)) m []) (sym b)))

  pub done_step : (i : Expr) (v : Vec Command Global) (z : ℤ) → k.form ≡ DWhile i v → z ≡ value_of (expression_of i) m → z ≡ pos 0
      → new ≡ without_last fs ++ some_list rest →
      source_act (then_todo (list_plan list) (todo_of (without_last fs))) m [] ≡ source_at (record { lists = new; memory = m }) []
  done_step i v z f w n e =
      left fs list rest new _ m m [] (while_front list k rest is i v f) e
      (λ q. ap (λ y. at (cond y (then_todo (list_plan v.items) (While (written_of k) (expression_of i) (list_plan v.items) (then_todo (list_plan rest) q)))
      (then_todo (list_plan rest) q)) m [])
      (ap holds (sym w) ∙ ap holds n))

  pub mitigate_step : (j : ℕ) (i : Expr) (l : Option Label) (v : Vec Command Global) (body : List Command) → k.form ≡ DMitigate j i l v → body ≡ v.items →
      new ≡ without_last fs ++ (some_list rest ++ body ∷ []) →
      source_act (then_todo (list_plan list) (todo_of (without_last fs))) m [] ≡ source_at (record { lists = new; memory = m }) (Started j ∷ [])
  mitigate_step j i l v body f b e =
      entered fs list rest body new _ m (Started j ∷ []) (mitigate_front list k rest is j i l v f) e
      (λ q. ap (λ y. at (then_todo (list_plan y) (then_todo (list_plan rest) q)) m (Started j ∷ [])) (sym b))

  -- the lists after a step
  module _ (n : ℕ) (g : IsGoing fs n) (h : IsFrame n list) where
    in_front : (x : Plan) → list_plan list ≡ x → AreIn n x
    in_front x e = subst (AreIn n) e h.1

    pub skip_going : k.form ≡ FSkip → new ≡ without_last fs ++ some_list rest → IsGoing new n
    skip_going f e = going_left fs n rest new g (in_front _ (skip_front list k rest is f)) e

    pub sleep_going : (i : Expr) → k.form ≡ FSleep i → new ≡ without_last fs ++ some_list rest → IsGoing new n
    sleep_going i f e = going_left fs n rest new g (in_front _ (sleep_front list k rest is i f)) e

    pub assign_going : (x : ℕ) (i : Expr) → k.form ≡ FAssign x i → new ≡ without_last fs ++ some_list rest → IsGoing new n
    assign_going x i f e = going_left fs n rest new g (in_front _ (assign_front list k rest is x i f)).2 e

    pub put_going : (a j : ℕ) (y i : Expr) → k.form ≡ FPut a j y i → new ≡ without_last fs ++ some_list rest → IsGoing new n
    put_going a j y i f e = going_left fs n rest new g (in_front _ (put_front list k rest is a j y i f)).3 e

    pub then_going : (i : Expr) (v u : Vec Command Global) (body : List Command) → k.form ≡ DIf i v u → body ≡ v.items
        → new ≡ without_last fs ++ (some_list rest ++ body ∷ []) → IsGoing new n
    then_going i v u body f b e =
        let all = in_front _ (if_front list k rest is i v u f) in
        going_entered fs n rest body new g all.3 (subst (IsFrame n) (sym b) all.1) e

    pub else_going : (i : Expr) (v u : Vec Command Global) (body : List Command) → k.form ≡ DIf i v u → body ≡ u.items
        → new ≡ without_last fs ++ (some_list rest ++ body ∷ []) → IsGoing new n
    else_going i v u body f b e =
        let all = in_front _ (if_front list k rest is i v u f) in
        going_entered fs n rest body new g all.3 (subst (IsFrame n) (sym b) all.2) e

    pub turn_going : (i : Expr) (v : Vec Command Global) (body : List Command) → k.form ≡ DWhile i v → body ≡ v.items
        → new ≡ without_last fs ++ (some_list list ++ body ∷ []) → IsGoing new n
    turn_going i v body f b e =
        let all = in_front _ (while_front list k rest is i v f) in
        going_entered fs n list body new g h.1 (subst (IsFrame n) (sym b) all.1) e

    pub done_going : (i : Expr) (v : Vec Command Global) → k.form ≡ DWhile i v → new ≡ without_last fs ++ some_list rest → IsGoing new n
    done_going i v f e = going_left fs n rest new g (in_front _ (while_front list k rest is i v f)).2 e

    pub mitigate_going : (j : ℕ) (i : Expr) (l : Option Label) (v : Vec Command Global) (body : List Command) → k.form ≡ DMitigate j i l v → body ≡ v.items →
        new ≡ without_last fs ++ (some_list rest ++ body ∷ []) → IsGoing new n
    mitigate_going j i l v body f b e =
        let all = in_front _ (mitigate_front list k rest is j i l v f) in
        going_entered fs n rest body new g all.1 (subst (IsFrame n) (sym b) all.0) e
