use Rattle.std.proofs.Common.{◌≡◌, ◌<◌, ◌≤◌, ℕ, ◌+◌, List, ◌∷◌, map, length, drop, get_or, sym, subst, arith}
use Rattle.std.specs.Prelude.{All}
use Rattle.std.specs.Io.KnownBytes.{Appends}
use Rattle.std.proofs.lemmas.List.{length-map}
use Rattle.tim_base.specs.Sinks.{AppendsPrefix}
use Rattle.start_file.specs.declared.start.Start.{Start as Stored}
use Rattle.start_file.specs.Starts.{StartValue, seen, IsFor}
use Rattle.cycle_machine.specs.Rest.{Told}
use Rattle.leak_audit.proofs.Agreeing.{All-seen}
use Rattle.lab_runs.specs.ShownViews.{shown_of}
use Rattle.lab_runs.proofs.TextLemmas.{map-from, wrote_one, broke_in}
use Rattle.lab_seen.specs.Seen.{line_text, line_in}
use Rattle.tool_stages.proofs.EnvLemmas.{named_told}
use Rattle.lab_seen.proofs.walk.run_lines.Goals as goal

up_to : (a b c : ℕ) → a ≤ b → b ≤ c → a ≤ c
up_to a b c p q = omega arith

-- the start at a place of the list
from_here : (xs items : List Stored) (i : ℕ) (x : Stored) → xs ≡ items → i < length xs → x ≡ get_or xs i x
    → drop i (map seen items) ≡ seen x ∷ drop (i + 1) (map seen items)
from_here xs items i x same lt is = subst (λ z. drop i (map seen z) ≡ seen x ∷ drop (i + 1) (map seen z)) same (map-from seen xs i x lt is)

within : (xs items : List Stored) (i : ℕ) → xs ≡ items → i < length xs → i < length (map seen items)
within xs items i same lt = subst (λ z. i < length (map seen z)) same (omega (arith, lt, length-map xs seen))

fits_here : (P : StartValue → Type 0) (xs items : List Stored) (i : ℕ) (x : Stored) → All P (map seen items) → xs ≡ items → i < length xs
    → x ≡ get_or xs i x → P (seen x)
fits_here P xs items i x h same lt is = All-seen P xs i x (subst (λ z. All P (map seen z)) (sym same) h) lt is

pub run_line-requires-clause-start : goal.run_line-requires-clause-start
run_line-requires-clause-start g c =
    let lt : c.loop-i.i < length c.as_slice-starts.result.now = omega arith in
    fits_here (IsFor (shown_of c.args.p.now.program.labels).labelled.program) c.as_slice-starts.result.now c.args.p.now.starts.items c.loop-i.i
    c.index-starts-i.result c.requires.fit.starts c.as_slice-starts.ensures.value lt c.index-starts-i.is

pub returns-in-Err-clause-prefix : goal.returns-in-Err-clause-prefix
returns-in-Err-clause-prefix g c = λ e.
    let lt : c.loop-i.i < length c.as_slice-starts.result.now = omega arith in
    let items = c.args.p.now.starts.items in
    let x = c.index-starts-i.result in
    let q = (shown_of c.args.p.now.program.labels).labelled in
    let same = c.as_slice-starts.ensures.value in
    let fits = fits_here (IsFor q.program) c.as_slice-starts.result.now items c.loop-i.i x c.requires.fit.starts same lt c.index-starts-i.is in
    broke_in (line_in c.args.setting.env c.args.setting.budget q c.args.observer c.args.p.now.program.image) (map seen items) c.loop-i.i (seen x)
    (within c.as_slice-starts.result.now items c.loop-i.i same lt)
    (from_here c.as_slice-starts.result.now items c.loop-i.i x same lt c.index-starts-i.is) (g.W.Sink.taken c.args.out.now) (g.W.Sink.taken c.loop-i.out)
    (g.W.Sink.taken c.run_line.new.out) c.loop-i.invariant.written
    (subst (λ (z : Told). AppendsPrefix (g.W.Sink.taken c.loop-i.out) (g.W.Sink.taken c.run_line.new.out)
    (line_text q c.args.observer (c.loop-i.i + 1) z))
    (named_told g.E.MachineEnv.env (g.M.MakeEnv.made c.args.maker.now) c.args.setting.env (g.M.MachineMaker.machine c.args.maker.now) c.requires.machine q
    c.args.p.now.program.image
    c.laws.ensures.shaped (c.makers_tell_as_histories.ensures.runs c.args.maker.now) c.requires.fit.image (seen x) fits c.args.setting.budget)
    (c.in-Err.ensures.prefix e))

pub loop-i-preserved : goal.loop-i-preserved
loop-i-preserved g c =
    let lt : c.loop-i.i < length c.as_slice-starts.result.now = omega arith in
    let items = c.args.p.now.starts.items in
    let x = c.index-starts-i.result in
    let q = (shown_of c.args.p.now.program.labels).labelled in
    let same = c.as_slice-starts.ensures.value in
    let fits = fits_here (IsFor q.program) c.as_slice-starts.result.now items c.loop-i.i x c.requires.fit.starts same lt c.index-starts-i.is in
    record {
      written =
          wrote_one (line_in c.args.setting.env c.args.setting.budget q c.args.observer c.args.p.now.program.image) (map seen items) c.loop-i.i (seen x)
          (within c.as_slice-starts.result.now items c.loop-i.i same lt)
          (from_here c.as_slice-starts.result.now items c.loop-i.i x same lt c.index-starts-i.is) (g.W.Sink.taken c.args.out.now) (g.W.Sink.taken c.loop-i.out)
          (g.W.Sink.taken c.run_line.new.out) c.loop-i.invariant.written
          (subst (λ (z : Told). Appends (g.W.Sink.taken c.loop-i.out) (g.W.Sink.taken c.run_line.new.out)
          (line_text q c.args.observer (c.loop-i.i + 1) z))
          (named_told g.E.MachineEnv.env (g.M.MakeEnv.made c.args.maker.now) c.args.setting.env (g.M.MachineMaker.machine c.args.maker.now) c.requires.machine q
          c.args.p.now.program.image
          c.laws.ensures.shaped (c.makers_tell_as_histories.ensures.runs c.args.maker.now) c.requires.fit.image (seen x) fits c.args.setting.budget)
          c.in-Ok.ensures.text);
      later = up_to _ _ _ c.loop-i.invariant.later c.run_line.ensures.later;
    }
