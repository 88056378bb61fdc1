use Rattle.std.proofs.Common.{◌++◌, codes, sym, subst}
use Rattle.flow_path.specs.declared.step.How.{How}
use Rattle.flow_print.specs.Lines.{line, place_text, reader_line, label_line, time_line, counts_line}
use Rattle.flow_print.specs.Places.{next_place}
use Rattle.found_print.specs.Chains.{placed_item, part_items}
use Rattle.found_print.specs.Puts.{PutsItems}
use Rattle.found_print.proofs.Putting.{puts_then}
use Rattle.found_print.proofs.chain.put_part.Goals as goal

pub returns-in_ok-put_time_there-in-AfterReading : goal.returns-in_ok-put_time_there-in-AfterReading
returns-in_ok-put_time_there-in-AfterReading c =
    let T = c.args.spelling.now.text.now in
    let ts = c.args.spelling.now.tokens.now in
    let q = c.args.q in
    let w = c.args.name.now in
    let a = c.args.first.now in
    let old = c.args.out.now.items in
    let new = c.put_time_there.new.out.items in
    subst (λ (how : How). PutsItems old new (part_items T ts how q w a)) (sym c.in-AfterReading.is)
    (puts_then old c.put_before.new.out.items new (placed_item T ts (next_place T ts q w) (reader_line T ts q w)) (placed_item T ts q (time_line ts q a))
    c.in_ok-put_before-in-AfterReading.ensures c.in_ok-put_time_there-in-AfterReading.ensures)

pub returns-in_ok-put_counts_there-in-AfterComputing : goal.returns-in_ok-put_counts_there-in-AfterComputing
returns-in_ok-put_counts_there-in-AfterComputing c =
    let T = c.args.spelling.now.text.now in
    let ts = c.args.spelling.now.tokens.now in
    let q = c.args.q in
    let w = c.args.name.now in
    let a = c.args.first.now in
    let old = c.args.out.now.items in
    let new = c.put_counts_there.new.out.items in
    subst (λ (how : How). PutsItems old new (part_items T ts how q w a)) (sym c.in-AfterComputing.is)
    (puts_then old c.put_before-in-AfterComputing.new.out.items new (placed_item T ts (next_place T ts q w) (reader_line T ts q w))
    (placed_item T ts q (counts_line q a)) c.in_ok-put_before-in-AfterComputing.ensures c.in_ok-put_counts_there-in-AfterComputing.ensures)

pub returns-in_ok-put_time_there-in-AfterReadLabel : goal.returns-in_ok-put_time_there-in-AfterReadLabel
returns-in_ok-put_time_there-in-AfterReadLabel c =
    let T = c.args.spelling.now.text.now in
    let ts = c.args.spelling.now.tokens.now in
    let q = c.args.q in
    let w = c.args.name.now in
    let a = c.args.first.now in
    let old = c.args.out.now.items in
    let new = c.put_time_there-in-AfterReadLabel.new.out.items in
    subst (λ (how : How). PutsItems old new (part_items T ts how q w a)) (sym c.in-AfterReadLabel.is)
    (puts_then old c.put_label_there-in-AfterReadLabel.new.out.items new (placed_item T ts q (label_line ts q w)) (placed_item T ts q (time_line ts q a))
    c.in_ok-put_label_there-in-AfterReadLabel.ensures c.in_ok-put_time_there-in-AfterReadLabel.ensures)

pub returns-in_ok-put_words_there-in-AfterAssigning-2 : goal.returns-in_ok-put_words_there-in-AfterAssigning-2
returns-in_ok-put_words_there-in-AfterAssigning-2 c =
    let T = c.args.spelling.now.text.now in
    let ts = c.args.spelling.now.tokens.now in
    let q = c.args.q in
    let w = c.args.name.now in
    let a = c.args.first.now in
    let old = c.args.out.now.items in
    let new = c.put_words_there-in-AfterAssigning.new.out.items in
    subst (λ (how : How). PutsItems old new (part_items T ts how q w a)) (sym c.in-AfterAssigning.is)
    (puts_then old c.put_words_there.new.out.items new (placed_item T ts q (place_text q ++ line (codes "this assigns to ") w))
    (placed_item T ts q (place_text q ++ line (codes "so when it is done is ") a))
    c.in_ok-put_words_there-in-AfterAssigning.ensures c.in_ok-put_words_there-in-AfterAssigning-2.ensures)
