-- What a word stops that names no label: it is one stop, it is no other than for that, and it comes before the typing.
use Rattle.std.proofs.Common.{◌≡◌, ℕ, List, Option, Some, None, inl, inr, refl, sym, subst, ◌∙◌}
use Rattle.std.specs.Prelude.{IsTrue}
use Rattle.label_lattice.specs.declared.label.Label.{Label}
use Rattle.label_lattice.specs.Order.{Order}
use Rattle.tool_texts.specs.declared.status.Status.{Status}
use Rattle.tool_texts.specs.declared.status.Status.TheVariants as status
use Rattle.tool_texts.specs.declared.stop.Stop.{Stop}
use Rattle.tool_texts.specs.Ends.{Broke, IsStop, status_of, stop_text}
use Rattle.tool_stages.specs.Stages.{IsUnknown, Observes}
use Rattle.tool_stages.specs.Accepted.{is_past_typing}
use Rattle.tool_stages.specs.Content.{Content}
use Rattle.tool_stages.proofs.EarlyLemmas.{IsEarly, program_early, type_early, image_early, not_late}
use Rattle.tool_stages.proofs.OneLemmas.{Same}
use Rattle.lab_runs.specs.Labels.{UnnamedStops, no_label_text, NamedCompileStops, observer_option}

module _ (option : List ℕ) (o : Order) (w : Option (List ℕ)) where
  pub unnamed_stops : (s : Status) (t : List ℕ) → UnnamedStops option o w s t → (s ≡ status.Usage) × IsUnknown o w × (t ≡ no_label_text option o)
  unnamed_stops status.Done t h = absurd h
  unnamed_stops status.Refused t h = absurd h
  unnamed_stops status.Syntax t h = absurd h
  unnamed_stops status.Starts t h = absurd h
  unnamed_stops status.Usage t h = (refl, h.0, h.1)
  unnamed_stops status.ReadFault t h = absurd h
  unnamed_stops status.WriteFault t h = absurd h
  unnamed_stops status.TooLong t h = absurd h
  unnamed_stops status.Budget t h = absurd h
  unnamed_stops status.Disagree t h = absurd h
  unnamed_stops status.Unfinished t h = absurd h
  unnamed_stops status.Memory t h = absurd h
  unnamed_stops status.Rejected t h = absurd h

  -- what stops is one
  pub one_unnamed_stop : (s u : Status) (t x : List ℕ) → UnnamedStops option o w s t → UnnamedStops option o w u x → Same s u t x
  one_unnamed_stop s u t x h k =
      let a = unnamed_stops s t h in
      let b = unnamed_stops u x k in
      (a.0 ∙ sym b.0, a.2 ∙ sym b.2)

  -- a word that names a label does not stop
  pub unnamed_goes : (l : Option Label) (s : Status) (t : List ℕ) → Observes o w l → UnnamedStops option o w s t → ⊥
  unnamed_goes l s t k h = not_unknown w l k (unnamed_stops s t h).1
    where
      not_unknown : (v : Option (List ℕ)) (a : Option Label) → Observes o v a → IsUnknown o v → ⊥
      not_unknown None a h u = u
      not_unknown (Some v) None h u = h
      not_unknown (Some v) (Some a) h u = u a.number h.0 h.1

  unnamed_early : (s : Status) (t : List ℕ) → UnnamedStops option o w s t → IsEarly s
  unnamed_early s t h = subst IsEarly (sym (unnamed_stops s t h).0) (record { early = refl; no_fault = λ e. cc })

-- ---- before the typing

broke_early : (A : Status → List ℕ → Type 0) (s : Status) (t : List ℕ) → (A s t → IsEarly s) → Broke A s t → IsEarly s
broke_early A status.Done t f h = f h
broke_early A status.Refused t f h = f h
broke_early A status.Syntax t f h = f h
broke_early A status.Starts t f h = f h
broke_early A status.Usage t f h = f h
broke_early A status.ReadFault t f h = f h
broke_early A status.WriteFault t f h = f h
broke_early A status.TooLong t f h = f h
broke_early A status.Budget t f h = f h
broke_early A status.Disagree t f h = f h
broke_early A status.Unfinished t f h = f h
broke_early A status.Memory t f h = record { early = refl; no_fault = λ e. cc }
broke_early A status.Rejected t f h = f h

module _ (Rises : List ℕ → Type 0) (content : Content) (file : List ℕ) (observer : Option (List ℕ)) where
  compile_early : (s : Status) (t : List ℕ) → NamedCompileStops Rises content file observer s t → IsEarly s
  compile_early s t (inl h) = program_early (Rises file) (content file) s t h
  compile_early s t (inr (p, reads, inl h)) = unnamed_early observer_option p.order observer s t h
  compile_early s t (inr (p, reads, inr (o, sees, inl h))) = type_early p s t h
  compile_early s t (inr (p, reads, inr (o, sees, inr (q, types, inl h)))) = image_early q s t h
  compile_early s t (inr (p, reads, inr (o, sees, inr (q, types, inr (code, image, h))))) = absurd h

  -- what stops before the starts does not come past the typing
  pub compile_not_late : (e : Stop) → IsStop (NamedCompileStops Rises content file observer) e → IsTrue (is_past_typing (status_of e)) → ⊥
  compile_not_late e h =
      not_late (status_of e)
      (broke_early (NamedCompileStops Rises content file observer) (status_of e) (stop_text e) (compile_early (status_of e) (stop_text e)) h)
