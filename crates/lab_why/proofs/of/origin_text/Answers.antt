use Rattle.std.proofs.Common.{refl, sym, ap, inr, ◌∙◌}
use Rattle.std.specs.Prelude.{ℕ, List, [], ◌∷◌}
use Rattle.tim_base.specs.Faults.{Rose}
use Rattle.tool_texts.specs.declared.stop.Stop.{Stop}
use Rattle.tool_texts.specs.Ends.{status_of}
use Rattle.tool_stages.specs.Fetches.{is_read_fault}
use Rattle.tool_stages.proofs.FetchLemmas.{fetch_stops}
use Rattle.lab_why.proofs.ReasonLemmas.{same_tokens}
use Rattle.lab_why.proofs.OriginLemmas.{has_origins, word_stop}
use Rattle.lab_why.proofs.of.origin_text.Goals as goal

pub returns-in-Ok-label_text-clause-text : goal.returns-in-Ok-label_text-clause-text
returns-in-Ok-label_text-clause-text g c =
    let reads = c.in_ok-text.ensures.ok in
    let list = same_tokens _ _ _ _ (reads.1 ∙ sym c.as_slice.ensures.value) reads.0.cut c.in-Ok-tokens.ensures.only in
    inr (
      c.in_ok-text.field-0.program,
      reads.0,
      inr (
        c.in-Some.spot,
        sym c.in-Some.ensures.value,
        (
          refl,
          has_origins _ _ c.in-Ok.labelled reads.0 _ _ _ _ _ c.as_bytes.result.now (reads.1 ∙ sym c.as_slice-2.ensures.value)
              (list ∙ sym c.as_slice-3.ensures.value)
              c.in-Ok.ensures.program c.as_bytes.ensures.value c.in-Ok.ensures.least c.in-Ok-label_text.ensures,
        ),
      ),
    )

pub returns-in_default-clause-stop : goal.returns-in_default-clause-stop
returns-in_default-clause-stop g c =
    word_stop (λ (name : List ℕ). Rose (g.S.Shelf.faults c.args.shelf.now name) (g.S.Shelf.faults c.read_source.new.shelf name))
    (g.S.Shelf.content c.args.shelf.now) c.args.file.now c.args.word.now c.in_ok-text.field-0.program c.name_stop.result c.in_ok-text.ensures.ok.0
    (c.name_stop.ensures.stop c.args.word.now (sym c.named.ensures.value ∙ c.in_default.is))

pub returns-in_default-tokens-clause-log : goal.returns-in_default-tokens-clause-log
returns-in_default-tokens-clause-log g c =
    fetch_stops _ (Unit {0}) (c.args.file.now ∷ []) (g.S.Shelf.log c.args.shelf.now) (g.S.Shelf.log c.read_source.new.shelf) c.in_ok-text.field-0
    c.no_memory-in_default-tokens.result (ap (λ (e : Stop). is_read_fault (status_of e)) c.no_memory-in_default-tokens.ensures)
    c.in_ok-text.ensures.log

pub returns-clause-log : goal.returns-clause-log
returns-clause-log g c =
    fetch_stops _ (Unit {0}) (c.args.file.now ∷ []) (g.S.Shelf.log c.args.shelf.now) (g.S.Shelf.log c.read_source.new.shelf) c.in_ok-text.field-0
    c.no_memory-in-Err.result (ap (λ (e : Stop). is_read_fault (status_of e)) c.no_memory-in-Err.ensures)
    c.in_ok-text.ensures.log
