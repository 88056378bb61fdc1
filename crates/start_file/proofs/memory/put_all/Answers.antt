use Rattle.std.proofs.Common.{◌∙◌, sym, ap, ◌∷◌, [], map, String, Global}
use Rattle.std.proofs.lemmas.List.{map-append}
use Rattle.std.specs.Map.Iter.{deref_pair}
use Rattle.std.proofs.lemmas.Map.Iter.{rest_more, rest_so_far}
use Rattle.toml.specs.View.{members_view}
use Rattle.toml.specs.declared.value.Value.{Value}
use Rattle.start_file.specs.Values.{memory_of}
use Rattle.start_file.proofs.Written.{passes_more}
use Rattle.start_file.proofs.Filling.{memory_more}
use Rattle.start_file.specs.Shared.{filled}
use Rattle.start_file.proofs.memory.put_all.Goals as goal

pub loop-key-preserved : goal.loop-key-preserved
loop-key-preserved c =
    let ds = c.args.program.now.declarations in
    let e : String Global × Value = (c.in-Some.key.now, c.in-Some.value.now) in
    let done = map deref_pair c.loop-key.yielded in
    let front = rest_more deref_pair c.loop-key.key-iterator c.next.new.self c.next.result (c.in-Some.key, c.in-Some.value) c.in-Some.is c.next.ensures.steps in
    let gives = c.into_iter-key-iterator.ensures.into_iter_gives in
    let parts = sym gives.0 ∙ rest_so_far deref_pair c.loop-key.yielded c.into_iter-key-iterator.result c.loop-key.key-iterator c.loop-key.yielded_by in
    let one = map-append deref_pair c.loop-key.yielded ((c.in-Some.key, c.in-Some.value) ∷ []) in
    record {
      passes = passes_more ds c.loop-key.key-iterator c.next.new.self e c.as_str.result.now front c.as_str.ensures.value _ (sym c.put.ensures.value
          ∙ c.if-not-put.false) c.loop-key.invariant.passes;
      size = c.put.auto.memory ∙ c.loop-key.invariant.size;
      memory = λ shared h. memory_more ds c.loop-key.key-iterator c.next.new.self e c.as_str.result.now front c.as_str.ensures.value c.args.table.now.entries
          done shared c.loop-key.memory c.put.new.memory
          c.requires.valid.differ gives.5 parts (c.loop-key.invariant.memory shared h) (c.put.ensures.written c.if-not-put.false)
          ∙ ap (λ l. memory_of ds (filled (members_view l) shared)) (sym one);
    }
