use Rattle.std.proofs.Common.{◌≡◌, ◌<◌, ◌≤◌, ℕ, ◌+◌, List, ◌∷◌, map, length, drop, get_or, refl, sym, subst, ◌∙◌, arith}
use Rattle.std.specs.Prelude.{All}
use Rattle.std.proofs.lemmas.List.{length-map}
use Rattle.env_contract.specs.Env.{Env}
use Rattle.start_file.specs.declared.start.Start.{Start as Stored}
use Rattle.start_file.specs.Starts.{StartValue, seen, IsFor}
use Rattle.leak_audit.specs.Agreement.{start_of}
use Rattle.leak_audit.proofs.Agreeing.{All-seen}
use Rattle.lab_runs.proofs.TextLemmas.{map-from}
use Rattle.lab_runs.specs.ShownViews.{shown_of}
use Rattle.lab_timeline.proofs.Named.{named_timed}
use Rattle.lab_timeline.proofs.Walking.{walking_first, walking_next, walking_breaks}
use Rattle.lab_timeline.proofs.walk.write_runs.Goals as goal

up_to : (a b c : ℕ) → a ≤ b → b ≤ c → a ≤ c
up_to a b c p q = omega arith

-- the start at a place of the list
from_here : (xs items : List Stored) (i : ℕ) (x : Stored) → xs ≡ items → i < length xs → x ≡ get_or xs i x
    → drop i (map seen items) ≡ seen x ∷ drop (i + 1) (map seen items)
from_here xs items i x same lt is = subst (λ z. drop i (map seen z) ≡ seen x ∷ drop (i + 1) (map seen z)) same (map-from seen xs i x lt is)

within : (xs items : List Stored) (i : ℕ) → xs ≡ items → i < length xs → i < length (map seen items)
within xs items i same lt = subst (λ z. i < length (map seen z)) same (omega (arith, lt, length-map xs seen))

fits_here : (P : StartValue → Type 0) (xs items : List Stored) (i : ℕ) (x : Stored) → All P (map seen items) → xs ≡ items → i < length xs
    → x ≡ get_or xs i x → P (seen x)
fits_here P xs items i x h same lt is = All-seen P xs i x (subst (λ z. All P (map seen z)) (sym same) h) lt is

pub loop-i-init : goal.loop-i-init
loop-i-init g c = record {
  walking =
      walking_first c.args.setting.env c.args.setting.budget (shown_of c.args.p.now.program.labels).labelled c.args.p.now.program.observer
      c.args.p.now.program.image (map seen c.args.p.now.starts.items)
      c.args.listing.now.tallies.items c.requires.none (g.W.Sink.taken c.args.out.now);
  places = refl;
  later = omega arith;
}

pub write_run-requires-clause-start : goal.write_run-requires-clause-start
write_run-requires-clause-start g c =
    let lt : c.loop-i.i < length c.as_slice-starts.result.now = omega arith in
    fits_here (IsFor (shown_of c.args.p.now.program.labels).labelled.program) c.as_slice-starts.result.now c.args.p.now.starts.items c.loop-i.i
    c.index-starts-i.result c.requires.fit.starts c.as_slice-starts.ensures.value lt c.index-starts-i.is

pub returns-in-Err-clause-prefix : goal.returns-in-Err-clause-prefix
returns-in-Err-clause-prefix g c = λ e.
    let v : Env g.row.E.Denot = g.E.MachineEnv.env in
    let lt : c.loop-i.i < length c.as_slice-starts.result.now = omega arith in
    let items = c.args.p.now.starts.items in
    let x = c.index-starts-i.result in
    let q = (shown_of c.args.p.now.program.labels).labelled in
    let same = c.as_slice-starts.ensures.value in
    let fits = fits_here (IsFor q.program) c.as_slice-starts.result.now items c.loop-i.i x c.requires.fit.starts same lt c.index-starts-i.is in
    walking_breaks c.args.setting.env c.args.setting.budget q c.args.p.now.program.observer c.args.p.now.program.image (map seen items) c.loop-i.i (seen x)
    (within c.as_slice-starts.result.now items c.loop-i.i same lt)
    (from_here c.as_slice-starts.result.now items c.loop-i.i x same lt c.index-starts-i.is) v (start_of
    (g.M.MakeEnv.made c.args.maker.now) q.program.order (seen x))
    (named_timed v (g.M.MakeEnv.made c.args.maker.now) c.args.setting.env (g.M.MachineMaker.machine c.args.maker.now) c.requires.machine q
    c.args.p.now.program.image c.laws.ensures.shaped
    c.requires.fit.image (c.makers_tell_as_histories.ensures.runs c.args.maker.now) (c.timelines_are_the_same.ensures c.args.maker.now)
    (seen x) fits c.args.setting.budget)
    (g.W.Sink.taken c.args.out.now) (g.W.Sink.taken c.loop-i.out) (g.W.Sink.taken c.write_run.new.out) c.loop-i.listing.tallies.items
    c.loop-i.invariant.walking (c.in-Err.ensures.prefix e)

pub loop-i-preserved : goal.loop-i-preserved
loop-i-preserved g c =
    let v : Env g.row.E.Denot = g.E.MachineEnv.env in
    let lt : c.loop-i.i < length c.as_slice-starts.result.now = omega arith in
    let items = c.args.p.now.starts.items in
    let x = c.index-starts-i.result in
    let q = (shown_of c.args.p.now.program.labels).labelled in
    let same = c.as_slice-starts.ensures.value in
    let fits = fits_here (IsFor q.program) c.as_slice-starts.result.now items c.loop-i.i x c.requires.fit.starts same lt c.index-starts-i.is in
    record {
      walking =
          walking_next c.args.setting.env c.args.setting.budget q c.args.p.now.program.observer c.args.p.now.program.image (map seen items) c.loop-i.i
          (seen x) (within c.as_slice-starts.result.now items c.loop-i.i same lt)
          (from_here c.as_slice-starts.result.now items c.loop-i.i x same lt c.index-starts-i.is) v (start_of
          (g.M.MakeEnv.made c.args.maker.now) q.program.order (seen x))
          (named_timed v (g.M.MakeEnv.made c.args.maker.now) c.args.setting.env (g.M.MachineMaker.machine c.args.maker.now) c.requires.machine q
          c.args.p.now.program.image c.laws.ensures.shaped
          c.requires.fit.image (c.makers_tell_as_histories.ensures.runs c.args.maker.now) (c.timelines_are_the_same.ensures c.args.maker.now)
          (seen x) fits c.args.setting.budget)
          (g.W.Sink.taken c.args.out.now) (g.W.Sink.taken c.loop-i.out) (g.W.Sink.taken c.write_run.new.out) c.loop-i.listing.tallies.items
          c.write_run.new.listing.tallies.items c.loop-i.invariant.walking c.in-Ok.ensures.written c.write_run.ensures.grown c.requires.cycles.1;
      places = c.write_run.ensures.places ∙ c.loop-i.invariant.places;
      later = up_to _ _ _ c.loop-i.invariant.later c.write_run.ensures.later;
    }
