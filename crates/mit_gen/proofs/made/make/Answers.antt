use Rattle.std.proofs.Common.{◌≡◌, ◌≤◌, ◌∙◌, length, List, ℕ, sym, ap, subst}
use Rattle.mit_gen.specs.Made.{program_text, starts_text}
use Rattle.mit_gen.proofs.Sizes.{program_short, starts_short}
use Rattle.mit_gen.proofs.made.make.Goals as goal

pub returns-clause-short : goal.returns-clause-short
returns-clause-short c =
    let P : List ℕ → Type 0 = λ t. length t ≤ 1048576 in
    let program : c.into_bytes.result.items ≡ program_text c.args.size c.args.number = ap (λ v. v.items) c.into_bytes.ensures.value ∙ c.in_ok-program.ensures in
    let starts : c.into_bytes-2.result.items ≡ starts_text = ap (λ v. v.items) c.into_bytes-2.ensures.value ∙ c.in_ok-starts.ensures in
    (subst P (sym program) (program_short c.args.size c.args.number c.requires.few), subst P (sym starts) starts_short)
