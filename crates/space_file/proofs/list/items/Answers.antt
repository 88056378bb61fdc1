use Rattle.std.proofs.Common.{◌≡◌, ◌∙◌, ◌<◌, ◌≤◌, ◌+◌, ℕ, sym, ap, subst, length, map, drop, List, [], ◌∷◌, ◌++◌, arith}
use Rattle.std.specs.Prelude.{All}
use Rattle.std.proofs.lemmas.List.{length-map, get_or-map, length_push}
use Rattle.std.proofs.lemmas.List.Elements.{All-nil, All-cons, All-append}
use Rattle.space_starts.specs.Space.{IsInterval}
use Rattle.space_file.specs.Ranges.{item_of, items_of}
use Rattle.space_file.proofs.Lists.{after_items, item_more, no_item, all_items}
use Rattle.space_file.proofs.list.items.Goals as goal

pub loop-piece-preserved : goal.loop-piece-preserved
loop-piece-preserved c =
    let k = c.loop-piece.piece-index in
    let is = c.loop-piece.items.items in
    let ws = map (λ w. w.now) c.args.pieces.now in
    let lt : k < length ws = subst (λ n. k < n) (sym (length-map c.args.pieces.now (λ w. w.now))) c.loop-piece-test.true in
    let at = c.as_bytes.ensures.value ∙ sym (get_or-map (λ w. w.now) c.args.pieces.now k _ c.as_bytes.result.now c.loop-piece-test.true) in
    let more = item_more ws k c.as_bytes.result.now is lt at c.loop-piece.invariant.so_far c.in-Some.item
    (c.in-Some.ensures.value ∙ ap item_of c.trim.ensures) in
    let pushed = c.in_ok-push.ensures.items in
    let long = c.loop-piece.invariant.long in
    record {
      so_far = more ∙ ap (λ l. after_items l (items_of (drop (k + 1) ws))) (sym pushed);
      are = subst (All IsInterval) (sym pushed)
          (All-append IsInterval is (c.in-Some.item ∷ []) c.loop-piece.invariant.are
          (All-cons IsInterval c.in-Some.item [] c.in-Some.ensures.is (All-nil IsInterval)));
      long = ap length pushed ∙ length_push is c.in-Some.item ∙ ap (λ n. n + 1) long;
    }

pub returns-in_default-clause-refused : goal.returns-in_default-clause-refused
returns-in_default-clause-refused c = λ _.
    let k = c.loop-piece.piece-index in
    let ws = map (λ w. w.now) c.args.pieces.now in
    let lt : k < length ws = subst (λ n. k < n) (sym (length-map c.args.pieces.now (λ w. w.now))) c.loop-piece-test.true in
    let at = c.as_bytes.ensures.value ∙ sym (get_or-map (λ w. w.now) c.args.pieces.now k _ c.as_bytes.result.now c.loop-piece-test.true) in
    no_item ws k c.as_bytes.result.now c.loop-piece.items.items lt at c.loop-piece.invariant.so_far (c.in_default.ensures.value ∙ ap item_of c.trim.ensures)

pub returns-clause-ok : goal.returns-clause-ok
returns-clause-ok c =
    let ws = map (λ w. w.now) c.args.pieces.now in
    let long : length ws ≡ length c.args.pieces.now = length-map c.args.pieces.now (λ w. w.now) in
    let all = c.loop-piece-test.false in
    all_items ws c.loop-piece.piece-index c.loop-piece.items.items (omega (arith, long, all)) c.loop-piece.invariant.so_far

pub returns-clause-are : goal.returns-clause-are
returns-clause-are c =
    let long = c.loop-piece.invariant.long in
    let all = c.loop-piece-test.false in
    let some = c.requires in
    record { some = omega (arith, long, all, some); fit = c.loop-piece.invariant.are }
