use Rattle.std.proofs.Common.{◌∙◌, sym, ap, ◌+◌, [], ◌∷◌, drop, map, arith}
use Rattle.std.proofs.lemmas.List.{map-append}
use Rattle.toml.specs.View.{items_view, view}
use Rattle.start_file.specs.Starts.{run_of, runs_from, seen}
use Rattle.start_file.specs.Shared.{filled_run, filled_items}
use Rattle.start_file.proofs.Listed.{onto, run_more, run_refused, runs_over}
use Rattle.start_file.proofs.starts.all_runs.Goals as goal

pub loop-i-preserved : goal.loop-i-preserved
loop-i-preserved c ms is_shared =
    let p = c.args.program.now in
    let v = c.args.version in
    let vs = c.args.values.now in
    let i = c.loop-i.i in
    let one = ap (λ x. run_of p v (i + 1) (filled_run ms (view x))) (sym c.index-values-i.is) ∙ c.in-Ok.ensures.ok ms is_shared in
    let all = runs_from p v 1 (filled_items ms (items_view vs)) in
    let more = run_more p v ms all vs i (map seen c.loop-i.starts.items) (c.loop-i.invariant ms is_shared) c.index-values-i.result
    (seen c.in-Ok.start) (omega arith) one in
    let pushed = ap (map seen) c.in_ok-push.ensures.items ∙ map-append seen c.loop-i.starts.items (c.in-Ok.start ∷ []) in
    more ∙ ap (λ l. onto l (runs_from p v (i + 1 + 1) (filled_items ms (items_view (drop (i + 1) vs))))) (sym pushed)

pub returns-in-Err-clause-refused : goal.returns-in-Err-clause-refused
returns-in-Err-clause-refused c n ms is_shared =
    let p = c.args.program.now in
    let v = c.args.version in
    let vs = c.args.values.now in
    let i = c.loop-i.i in
    let one = ap (λ x. run_of p v (i + 1) (filled_run ms (view x))) (sym c.index-values-i.is) ∙ c.in-Err.ensures.refused n ms is_shared in
    run_refused p v ms (runs_from p v 1 (filled_items ms (items_view vs))) vs i (map seen c.loop-i.starts.items) (c.loop-i.invariant ms is_shared)
    c.index-values-i.result c.in-Err.fault (omega arith) one

pub returns-clause-ok : goal.returns-clause-ok
returns-clause-ok c ms is_shared =
    let p = c.args.program.now in
    let v = c.args.version in
    let vs = c.args.values.now in
    runs_over p v ms (runs_from p v 1 (filled_items ms (items_view vs))) vs c.loop-i.i (map seen c.loop-i.starts.items) (c.loop-i.invariant ms is_shared)
    (omega arith)
