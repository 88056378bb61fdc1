-- The machine follows the source, one source step after another.
use Rattle.std.proofs.Common.{◌≡◌, ℕ, ◌+◌, List, [], ◌∷◌, ◌++◌, append-nil, refl, sym, ap, ◌∙◌, subst, arith}
use Rattle.std.specs.Prelude.{Bool, true, false, cond, ℤ, slice_set}
use Rattle.mit_syntax.specs.Expression.{Expression}
use Rattle.mit_syntax.specs.Expression.{Number, Variable, Binary, Element}
use Rattle.mit_syntax.specs.Todo.{Marks, Marked, Done, Skip, Assign, Put, Sleep, If, While, Mitigate, then_todo}
use Rattle.mit_syntax.specs.Values.{element, value_of, holds}
use Rattle.doubling_schedule.specs.Doubling.{at_least_zero}
use Rattle.source_meaning.specs.Source.{Note, Assigned, Started, Source, source_step}
use Rattle.label_lattice.specs.Lattice.{Lattice}
use Rattle.env_contract.specs.Env.{Env}
use Rattle.label_code.specs.Machine.{Core, Machine, Opened, Event, Wrote, Began, Ended, fetched, touched, waited, written, closed, at, label}
use Rattle.label_code.specs.declared.code.Work.TheVariants.{Brz, Brnz, Jmp, Store, Sleep as SleepWork, Mitb, Mite, Nop, Halt}
use Rattle.label_code.specs.declared.code.Instr.{Instr}
use Rattle.code_lower.specs.Layout.{Stands, expr_size, size, HasExpr, raised, HasCode}
use Rattle.code_lower.specs.Follows.{told}
use Rattle.code_lower.proofs.Timed.{timed, timed_log, timed_memory, tested, reached, stored, begun, opening}
use Rattle.label_code.proofs.Leads.{Leads, leads_then, leads_to}
use Rattle.code_lower.proofs.Stretches.{one, test_leads, put_leads}

pub told-append : (es fs : List Event) → told (es ++ fs) ≡ told es ++ told fs
told-append [] fs = refl
told-append (Wrote x n c ∷ es) fs = ap (λ t. Assigned x n ∷ t) (told-append es fs)
told-append (Began k c ∷ es) fs = ap (λ t. Started k ∷ t) (told-append es fs)
told-append (Ended k c ∷ es) fs = told-append es fs

-- what is done below the current list: the rest of a list, also behind a jump; a loop again, and the rest; the end of a mitigation, and the rest
pub data Frame : Type 0 where
  After : Marked → Frame
  Jumped : Marked → Frame
  Again : Marks → Expression → Marked → Marked → Frame
  Closing : Marked → Frame

abbrev pub rest_of : List Frame → Marked
rest_of [] = Done
rest_of (After p ∷ fs) = then_todo p (rest_of fs)
rest_of (Jumped p ∷ fs) = then_todo p (rest_of fs)
rest_of (Again m e c p ∷ fs) = While m e c (then_todo p (rest_of fs))
rest_of (Closing p ∷ fs) = then_todo p (rest_of fs)

module _ {E : Type 0} (v : Env E) (lat : Lattice) (g : ℕ → ℕ) (image : List Instr) where
  -- the code of what is below, from the end of the current list on
  abbrev pub Fits : List Frame → ℕ → List Opened → Type 0
  Fits [] q os = (m : Marks) × Stands image q Halt m
  Fits (After p ∷ fs) q os = HasCode lat g image p q × Fits fs (q + size p) os
  Fits (Jumped p ∷ fs) q os = (m : Marks) × (q' : ℕ) × Stands image q (Jmp q') m × HasCode lat g image p q' × Fits fs (q' + size p) os
  Fits (Again m e c p ∷ fs) q os =
      (b : ℕ) × (b + size c ≡ q) × HasExpr image (raised lat g e m) e q × Stands image (q + expr_size e) (Brnz b) (raised lat g e m)
      × HasCode lat g image c b × HasCode lat g image p (q + expr_size e + 1) × Fits fs (q + expr_size e + 1 + size p) os
  Fits (Closing p ∷ fs) q [] = ⊥
  Fits (Closing p ∷ fs) q (w ∷ os) = (m : Marks) × Stands image q Mite m × HasCode lat g image p (q + 1) × Fits fs (q + 1 + size p) os

  abbrev pub source_at : Marked → List Frame → Core E → Source Marks ℕ
  source_at p fs s = record { todo = then_todo p (rest_of fs); memory = s.memory; notes = told s.log }

  -- the machine stands where the source does
  pub record Meets (σ : Source Marks ℕ) (x : Machine E) : Type 0 where
    pub list : Marked
    pub frames : List Frame
    pub place : ℕ
    pub opened : List Opened
    pub core : Core E
    pub is : x ≡ at place [] opened core
    pub code : HasCode lat g image list place
    pub below : Fits frames (place + size list) opened
    pub same : σ ≡ source_at list frames core

  -- the machine goes on with the source's next step, or halts where nothing is left to do
  pub data Goes (σ : Source Marks ℕ) (x : Machine E) : Type 0 where
    on : {y : Machine E} → (σ.todo ≡ Done → ⊥) → Leads v image x y → Meets (source_step σ) y → Goes σ x
    over : {y : Machine E} → Leads v image x y → σ.todo ≡ Done → y.halted ≡ true → σ.notes ≡ told y.core.log → Goes σ x

  goes_after : (σ : Source Marks ℕ) (x y : Machine E) → Leads v image x y → Goes σ y → Goes σ x
  goes_after σ x y l (on d k m) = on d (leads_then v image x y _ l k) m
  goes_after σ x y l (over k d h n) = over (leads_then v image x y _ l k) d h n

  pub meets : (p : Marked) (fs : List Frame) (a : ℕ) (os : List Opened) (s : Core E) → HasCode lat g image p a → Fits fs (a + size p) os → (σ : Source Marks ℕ)
      → σ ≡ source_at p fs s → Meets σ (at a [] os s)
  meets p fs a os s code below σ e = record { list = p; frames = fs; place = a; opened = os; core = s; is = refl; code = code; below = below; same = e }

  source_same : (t t' : Marked) (m m' : List ℤ) (n n' : List Note) → t ≡ t' → m ≡ m' → n ≡ n'
      → ◌≡◌ {A = Source Marks ℕ} (record { todo = t; memory = m; notes = n }) (record { todo = t'; memory = m'; notes = n' })
  source_same t t' m m' n n' a b c =
      ap (λ z. let r : Source Marks ℕ = record { todo = z; memory = m; notes = n } in r) a
      ∙ ap (λ z. let r : Source Marks ℕ = record { todo = t'; memory = z; notes = n } in r) b
      ∙ ap (λ z. let r : Source Marks ℕ = record { todo = t'; memory = m'; notes = z } in r) c

  fits_at : (fs : List Frame) (q q' : ℕ) (os : List Opened) → q ≡ q' → Fits fs q os → Fits fs q' os
  fits_at fs q q' os e f = subst (λ z. Fits fs z os) e f

  -- a command whose guard decides what is done next
  if_goes : (m : Marks) (e : Expression) (c d r : Marked) (fs : List Frame) (a : ℕ) (os : List Opened) (s : Core E) → HasCode lat g image (If m e c d r) a
      → Fits fs (a + size (If m e c d r)) os → Goes (source_at (If m e c d r) fs s) (at a [] os s)
  if_goes m e c d r fs a os s code below = go (holds (value_of e s.memory)) refl
    where
      b : ℕ
      b = a + expr_size e

      j : ℕ
      j = a + expr_size e + 1 + size c

      s0 : Core E
      s0 = tested v m e a s

      end : j + 1 + size d + size r ≡ a + size (If m e c d r)
      end = omega arith

      leads : (w : Bool) → holds (value_of e s.memory) ≡ w → Leads v image (at a [] os s) (at (cond w (b + 1) (j + 1)) [] os s0)
      leads w f = leads_to v image _ _ _ (test_leads v image (Brz (j + 1)) e m a [] os s code.0 code.1) (ap (λ z. at (cond z (b + 1) (j + 1)) [] os s0) f)

      stepped : (w : Bool) → holds (value_of e s.memory) ≡ w
          → source_step (source_at (If m e c d r) fs s) ≡ record {
            todo =
                cond w (then_todo c (then_todo r (rest_of fs))) (then_todo d (then_todo r (rest_of fs)));
            memory = s0.memory;
            notes = told s0.log;
          }
      stepped w f = source_same _ _ _ _ _ _ (ap (λ z. cond z (then_todo c (then_todo r (rest_of fs))) (then_todo d (then_todo r (rest_of fs)))) f)
          (sym (timed_memory v m e a s)) (ap told (sym (timed_log v m e a s)))

      go : (w : Bool) → holds (value_of e s.memory) ≡ w → Goes (source_at (If m e c d r) fs s) (at a [] os s)
      go true f = on (λ z. cc) (leads true f) (meets c (Jumped r ∷ fs) (b + 1) os s0 code.2 (
        raised lat g e m,
        j + 1 + size d,
        code.3,
        code.5,
        fits_at fs _ _ os (sym end) below,
      ) _ (stepped true f))
      go false f = on (λ z. cc) (leads false f) (meets d (After r ∷ fs) (j + 1) os s0 code.4 (code.5, fits_at fs _ _ os (sym end) below) _ (stepped false f))

  while_goes : (m : Marks) (e : Expression) (c r : Marked) (fs : List Frame) (a : ℕ) (os : List Opened) (s : Core E) → HasCode lat g image (While m e c r) a
      → Fits fs (a + size (While m e c r)) os → Goes (source_at (While m e c r) fs s) (at a [] os s)
  while_goes m e c r fs a os s code below = go (holds (value_of e s.memory)) refl
    where
      b : ℕ
      b = a + expr_size e

      t : ℕ
      t = a + expr_size e + 1 + size c

      q : ℕ
      q = t + expr_size e + 1

      s0 : Core E
      s0 = tested v m e a s

      end : q + size r ≡ a + size (While m e c r)
      end = omega arith

      leads : (w : Bool) → holds (value_of e s.memory) ≡ w → Leads v image (at a [] os s) (at (cond w (b + 1) q) [] os s0)
      leads w f = leads_to v image _ _ _ (test_leads v image (Brz q) e m a [] os s code.0 code.1) (ap (λ z. at (cond z (b + 1) q) [] os s0) f)

      stepped : (w : Bool) → holds (value_of e s.memory) ≡ w
          → source_step (source_at (While m e c r) fs s) ≡ record {
            todo =
                cond w (then_todo c (While m e c (then_todo r (rest_of fs)))) (then_todo r (rest_of fs));
            memory = s0.memory;
            notes = told s0.log;
          }
      stepped w f = source_same _ _ _ _ _ _ (ap (λ z. cond z (then_todo c (While m e c (then_todo r (rest_of fs)))) (then_todo r (rest_of fs))) f)
          (sym (timed_memory v m e a s)) (ap told (sym (timed_log v m e a s)))

      go : (w : Bool) → holds (value_of e s.memory) ≡ w → Goes (source_at (While m e c r) fs s) (at a [] os s)
      go true f = on (λ z. cc) (leads true f) (meets c (Again m e c r ∷ fs) (b + 1) os s0 code.2 (
        b + 1,
        refl,
        code.3,
        code.4,
        code.2,
        code.5,
        fits_at fs _ _ os (sym end) below,
      ) _ (stepped true f))
      go false f = on (λ z. cc) (leads false f) (meets r fs q os s0 code.5 (fits_at fs _ _ os (sym end) below) _ (stepped false f))

  again_goes : (m : Marks) (e : Expression) (c p : Marked) (fs : List Frame) (a : ℕ) (os : List Opened) (s : Core E) → Fits (Again m e c p ∷ fs) a os
      → Goes (source_at Done (Again m e c p ∷ fs) s) (at a [] os s)
  again_goes m e c p fs a os s below = go (holds (value_of e s.memory)) refl
    where
      rm : Marks
      rm = raised lat g e m

      b : ℕ
      b = below.0

      q : ℕ
      q = a + expr_size e + 1

      s0 : Core E
      s0 = tested v rm e a s

      leads : (w : Bool) → holds (value_of e s.memory) ≡ w → Leads v image (at a [] os s) (at (cond w b q) [] os s0)
      leads w f = leads_to v image _ _ _ (test_leads v image (Brnz b) e rm a [] os s below.2 below.3) (ap (λ z. at (cond z b q) [] os s0) f)

      stepped : (w : Bool) → holds (value_of e s.memory) ≡ w
          → source_step (source_at Done (Again m e c p ∷ fs) s) ≡ record {
            todo =
                cond w (then_todo c (While m e c (then_todo p (rest_of fs)))) (then_todo p (rest_of fs));
            memory = s0.memory;
            notes = told s0.log;
          }
      stepped w f = source_same _ _ _ _ _ _ (ap (λ z. cond z (then_todo c (While m e c (then_todo p (rest_of fs)))) (then_todo p (rest_of fs))) f)
          (sym (timed_memory v rm e a s)) (ap told (sym (timed_log v rm e a s)))

      go : (w : Bool) → holds (value_of e s.memory) ≡ w → Goes (source_at Done (Again m e c p ∷ fs) s) (at a [] os s)
      go true f = on (λ z. cc) (leads true f)
          (meets c (Again m e c p ∷ fs) b os s0 below.4 (fits_at (Again m e c p ∷ fs) a (b + size c) os (sym below.1) below) _ (stepped true f))
      go false f = on (λ z. cc) (leads false f) (meets p fs q os s0 below.5 below.6 _ (stepped false f))

  -- the source's next step
  pub goes : (fs : List Frame) (p : Marked) (a : ℕ) (os : List Opened) (s : Core E) → HasCode lat g image p a → Fits fs (a + size p) os
      → Goes (source_at p fs s) (at a [] os s)
  goes fs (Skip m r) a os s code below =
      let e : a + size (Skip m r) ≡ a + 1 + size r = omega arith in
      on (λ z. cc) (one v image Nop m a [] os s code.0) (meets r fs (a + 1) os (fetched v m a s) code.1 (fits_at fs _ _ os e below) _ refl)
  goes fs (Assign m x e r) a os s code below =
      let n = value_of e s.memory in
      let s1 = written x n (touched v m x (tested v m e a s)) in
      let end : a + size (Assign m x e r) ≡ a + expr_size e + 1 + size r = omega arith in
      on (λ z. cc) (test_leads v image (Store x) e m a [] os s code.0 code.1)
      (meets r fs (a + expr_size e + 1) os s1 code.2 (fits_at fs _ _ os end below) _
      (source_same _ _ _ _ _ _ refl (ap (λ z. slice_set z x n) (sym (timed_memory v m e a s)))
      (ap (λ z. told z ++ Assigned x n ∷ []) (sym (timed_log v m e a s))
      ∙ sym (told-append (timed v m e a s).log (Wrote x n (touched v m x (tested v m e a s)).clock ∷ [])))))
  goes fs (Put m f n i e r) a os s code below =
      let x = element f n (value_of i s.memory) in
      let y = value_of e s.memory in
      let s0 = reached v m i e a s in
      let s1 = touched v m x s0 in
      let b = a + expr_size i in
      let end : a + size (Put m f n i e r) ≡ b + expr_size e + 1 + size r = omega arith in
      let memory : s0.memory ≡ s.memory = timed_memory v m e b (timed v m i a s) ∙ timed_memory v m i a s in
      let log : s0.log ≡ s.log = timed_log v m e b (timed v m i a s) ∙ timed_log v m i a s in
      on (λ z. cc) (put_leads v image f n i e m a [] os s code.0 code.1 code.2)
      (meets r fs (b + expr_size e + 1) os (stored v m f n i e a s) code.3 (fits_at fs _ _ os end below) _
      (source_same _ _ _ _ _ _ refl (ap (λ z. slice_set z x y) (sym memory))
      (ap (λ z. told z ++ Assigned x y ∷ []) (sym log) ∙ sym (told-append s0.log (Wrote x y s1.clock ∷ [])))))
  goes fs (Sleep m e r) a os s code below =
      let s1 = waited (at_least_zero (value_of e s.memory)) (tested v m e a s) in
      let end : a + size (Sleep m e r) ≡ a + expr_size e + 1 + size r = omega arith in
      on (λ z. cc) (test_leads v image SleepWork e m a [] os s code.0 code.1)
      (meets r fs (a + expr_size e + 1) os s1 code.2 (fits_at fs _ _ os end below) _
      (source_same _ _ _ _ _ _ refl (sym (timed_memory v m e a s)) (ap told (sym (timed_log v m e a s)))))
  goes fs (If m e c d r) a os s code below = if_goes m e c d r fs a os s code below
  goes fs (While m e c r) a os s code below = while_goes m e c r fs a os s code below
  goes fs (Mitigate m k l e c r) a os s code below =
      let s0 = tested v m e a s in
      let w = opening (value_of e s.memory) l k s0 in
      let j = a + expr_size e + 1 + size c in
      let end : a + size (Mitigate m k l e c r) ≡ j + 1 + size r = omega arith in
      on (λ z. cc) (test_leads v image (Mitb (label l) k) e m a [] os s code.0 code.1)
      (meets c (Closing r ∷ fs) (a + expr_size e + 1) (w ∷ os) (begun k s0) code.2 (m, code.3, code.4, fits_at fs _ _ os end below) _
      (source_same _ _ _ _ _ _ refl (sym (timed_memory v m e a s))
      (ap (λ z. told z ++ Started k ∷ []) (sym (timed_log v m e a s)) ∙ sym (told-append (timed v m e a s).log (Began k s0.clock ∷ [])))))
  goes [] Done a os s code below =
      let e : a + 0 ≡ a = omega arith in
      over (one v image Halt below.0 a [] os s (subst (λ z. Stands image z Halt below.0) e below.1)) refl refl refl
  goes (After p ∷ fs) Done a os s code below =
      let e : a + 0 ≡ a = omega arith in
      subst (λ z. Goes (source_at p fs s) (at z [] os s)) e (goes fs p (a + 0) os s below.0 below.1)
  goes (Jumped p ∷ fs) Done a os s code below =
      let e : a + 0 ≡ a = omega arith in
      goes_after _ _ _ (one v image (Jmp below.1) below.0 a [] os s (subst (λ z. Stands image z (Jmp below.1) below.0) e below.2))
      (goes fs p below.1 os (fetched v below.0 a s) below.3 below.4)
  goes (Again m e c p ∷ fs) Done a os s code below =
      let z : a + 0 ≡ a = omega arith in
      again_goes m e c p fs a os s (fits_at (Again m e c p ∷ fs) (a + 0) a os z below)
  goes (Closing p ∷ fs) Done a [] s code below = absurd below
  goes (Closing p ∷ fs) Done a (w ∷ os) s code below =
      let e : a + 0 ≡ a = omega arith in
      let here = fits_at (Closing p ∷ fs) (a + 0) a (w ∷ os) e below in
      let s1 = closed w (fetched v here.0 a s) in
      let same : source_at p fs s1 ≡ source_at Done (Closing p ∷ fs) s = source_same _ _ _ _ _ _ refl refl (told-append s.log _ ∙ append-nil (told s.log)) in
      goes_after _ _ _ (one v image Mite here.0 a [] (w ∷ os) s here.1)
      (subst (λ z. Goes z (at (a + 1) [] os s1)) same (goes fs p (a + 1) os s1 here.2 here.3))
