-- What a black box tells.
use Rattle.std.proofs.Common.{Vec, Global, ◌≡◌, refl, ap, ◌∙◌, ℕ, ◌+◌, List, [], ◌∷◌, map}
use Rattle.black_box.specs.declared.release.Releases.{Releases}
use Rattle.black_box.specs.Files.{ready_lists}
use Rattle.black_box.specs.Outcomes.{seen, IsOutcome}
use Rattle.black_box.specs.Audits.{same_cycles, shown}
use Rattle.black_box.specs.declared.audit.BoxAudit.{BoxAudit}
use Rattle.std.specs.List.{AllZip}
use Rattle.leak_bound.specs.Digits.{digits}
use Rattle.leak_bound.specs.Records.{distinct_count, classes_of}
use Rattle.tool_texts.specs.declared.status.Status.TheVariants.{Done}
use Rattle.tool_texts.specs.Reports.{box_text, all_released}
use Rattle.mit_tool.specs.Audited.{HasReleased}

-- ---- the text of a black box

shown_at : (rs : List Releases) → shown rs ≡ all_released (map seen rs)
shown_at [] = refl
shown_at (r ∷ rs) = ap (λ z. r.at.items ∷ z) (shown_at rs)

pub box_tells : (first t : ℕ) (all : List (Vec ℕ Global)) (a : BoxAudit) (x : List ℕ) → AllZip (IsOutcome first t) (ready_lists all) (map seen a.runs.items)
    → a.distinct ≡ distinct_count same_cycles (shown a.runs.items) → a.classes.items ≡ classes_of same_cycles (shown a.runs.items)
    → a.base ≡ t + 1 → a.exponent ≡ digits t
    → x ≡ box_text first t (ready_lists all) (map seen a.runs.items) a.distinct a.base a.exponent a.classes.items → HasReleased first t (ready_lists all) Done x
box_tells first t all a x outcomes distinct classes base exponent text =
    let vs = ready_lists all in
    let ws = map seen a.runs.items in
    let d : a.distinct ≡ distinct_count same_cycles (all_released ws) = distinct ∙ ap (distinct_count same_cycles) (shown_at a.runs.items) in
    let k : a.classes.items ≡ classes_of same_cycles (all_released ws) = classes ∙ ap (classes_of same_cycles) (shown_at a.runs.items) in (
      refl,
      ws,
      outcomes,
      text ∙ ap (λ z. box_text first t vs ws z a.base a.exponent a.classes.items) d
          ∙ ap (λ z. box_text first t vs ws (distinct_count same_cycles (all_released ws)) z a.exponent a.classes.items) base
          ∙ ap (λ z. box_text first t vs ws (distinct_count same_cycles (all_released ws)) (t + 1) z a.classes.items) exponent
          ∙ ap (box_text first t vs ws (distinct_count same_cycles (all_released ws)) (t + 1) (digits t)) k,
    )
