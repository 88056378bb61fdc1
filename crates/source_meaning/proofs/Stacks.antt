-- The lists of a walk.
use Rattle.std.proofs.Common.{◌≡◌, List, [], ◌∷◌, ◌++◌, refl, sym, ap, ◌∙◌, append_assoc, append-nil}
use Rattle.mit_syntax.specs.declared.ast.Command.{Command}
use Rattle.mit_syntax.specs.Todo.{Done, then_todo}
use Rattle.mit_syntax.specs.Plan.{Plan, list_plan}
use Rattle.source_meaning.specs.Frames.{some_list, todo_from, todo_of}

-- the last list comes first
pub todo_last : (q : Plan) (fs : List (List Command)) (f : List Command) → todo_from q (fs ++ f ∷ []) ≡ then_todo (list_plan f) (todo_from q fs)
todo_last q [] f = refl
todo_last q (g ∷ fs) f = todo_last (then_todo (list_plan g) q) fs f

-- an empty list adds nothing
pub todo_some : (fs : List (List Command)) (f : List Command) → todo_of (fs ++ some_list f) ≡ then_todo (list_plan f) (todo_of fs)
todo_some fs [] = ap todo_of (append-nil fs)
todo_some fs (c ∷ cs) = todo_last Done fs (c ∷ cs)

pub todo_two : (fs : List (List Command)) (f g : List Command)
    → todo_of (fs ++ (some_list f ++ g ∷ [])) ≡ then_todo (list_plan g) (then_todo (list_plan f) (todo_of fs))
todo_two fs f g =
    ap todo_of (sym (append_assoc fs (some_list f) (g ∷ [])))
    ∙ (todo_last Done (fs ++ some_list f) g ∙ ap (then_todo (list_plan g)) (todo_some fs f))
