use Rattle.std.specs.Prelude.{ℕ, List, [], ◌∷◌}
use Rattle.tim_base.specs.Faults.{Rose}
use Rattle.tool_texts.specs.Ends.{Nothing, told_status, told_text}
use Rattle.tool_texts.proofs.EndLemmas.{ends_finish, no_fault, result_tells}
use Rattle.tool_stages.proofs.FetchLemmas.{told_fetched}
use Rattle.lab_why.specs.Origins.{IsOriginAnswer}
use Rattle.lab_why.proofs.OriginLemmas.{origin_no_fault}
use Rattle.lab_why.proofs.of.why_of.Goals as goal

pub tell-requires : goal.tell-requires
tell-requires g c =
    let content = g.S.Shelf.content c.args.shelf.now in
    let rises = λ (name : List ℕ). Rose (g.S.Shelf.faults c.args.shelf.now name) (g.S.Shelf.faults c.origin_text-made.new.shelf name) in
    no_fault (IsOriginAnswer rises content c.args.file.now c.args.word.now) c.origin_text-made.result
    (origin_no_fault rises content c.args.file.now c.args.word.now)
    c.origin_text-made.ensures.stop

pub returns-clause-answered : goal.returns-clause-answered
returns-clause-answered g c =
    let content = g.S.Shelf.content c.args.shelf.now in
    let rises = λ (name : List ℕ). Rose (g.S.Shelf.faults c.args.shelf.now name) (g.S.Shelf.faults c.origin_text-made.new.shelf name) in
    let answer = IsOriginAnswer rises content c.args.file.now c.args.word.now in
    ends_finish (g.W.Sink.taken c.args.out.now) (g.W.Sink.taken c.tell.new.out) Nothing answer (told_status c.origin_text-made.result)
    (told_text c.origin_text-made.result) c.tell.result
    (result_tells answer c.origin_text-made.result c.origin_text-made.ensures.text c.origin_text-made.ensures.stop)
    c.tell.ensures.told c.tell.ensures.prefix

pub returns-clause-fetched : goal.returns-clause-fetched
returns-clause-fetched g c =
    told_fetched (c.args.file.now ∷ []) (g.S.Shelf.log c.args.shelf.now) (g.S.Shelf.log c.origin_text-made.new.shelf) c.origin_text-made.result
    c.tell.result c.origin_text-made.ensures.log (λ n. (c.tell.ensures.told n).0)
