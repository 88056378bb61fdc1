use Rattle.std.proofs.Common.{◌≡◌, refl, ap, ◌∙◌, ◌++◌, ◌+◌, get_or, length}
use Rattle.black_box.specs.Outcomes.{seen}
use Rattle.tool_texts.specs.Reports.{run_text}
use Rattle.tool_texts.proofs.PieceLemmas.{no_run_put, next_run_put, all_runs_put, runs_numbered}
use Rattle.tool_texts.proofs.pieces.boxes.put_runs.Goals as goal

pub loop-k-init : goal.loop-k-init
loop-k-init c = no_run_put c.args.all.now c.args.runs.now c.args.classes.now _ _ refl

pub loop-k-preserved : goal.loop-k-preserved
loop-k-preserved c =
    let v = c.index-all-k.result in
    let r = c.index-runs-k.result in
    let x = get_or c.args.classes.now c.loop-k.k 0 in
    let n : length c.as_slice-ready.result.now ≡ length v.items = ap length c.as_slice-ready.ensures.value in
    let line : c.run.result ≡ run_text (c.loop-k.k + 1) (length v.items) (seen r) x = c.run.ensures ∙ ap (λ m. run_text (c.loop-k.k + 1) m (seen r) x) n in
    let put : c.put.new.text.items ≡ c.loop-k.text.items ++ run_text (c.loop-k.k + 1) (length v.items) (seen r) x =
    c.in_ok-put.ensures ∙ ap (λ z. c.loop-k.text.items ++ z) line in
    next_run_put c.args.all.now c.args.runs.now c.args.classes.now c.args.text.now.items c.loop-k.text.items c.put.new.text.items c.loop-k.k v
    c.index-all-k.result r c.index-runs-k.result x 0
    c.loop-k-test.true c.requires.runs c.requires.classes c.index-all-k.is c.index-runs-k.is refl c.loop-k.invariant put

pub returns : goal.returns
returns c =
    all_runs_put c.args.all.now c.args.runs.now c.args.classes.now _ _ c.loop-k.k c.loop-k-test.false c.loop-k.invariant
    ∙ ap (λ z. c.args.text.now.items ++ z) (runs_numbered 1 c.args.all.now c.args.runs.now c.args.classes.now)
