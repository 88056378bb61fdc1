use Rattle.std.proofs.Common.{◌≡◌, ◌∙◌, ◌<◌, ◌^◌, ◌++◌, ap, append_assoc, arith, codes, decimal, length, ℕ, List}
use Rattle.tim_base.proofs.LineLemmas.{length-decimal, length-appended}
use Rattle.space_stage.proofs.lines.many_starts.Goals as goal

pub put_unsigned-requires : goal.put_unsigned-requires
put_unsigned-requires c =
    let small : c.args.size < 2 ^ 64 = omega arith in
    let long : length c.words-line.result ≡ 24 = ap length c.words-line.ensures in
    omega (arith, length-decimal c.args.size small, long)

pub put_text-requires : goal.put_text-requires
put_text-requires c =
    let small : c.args.size < 2 ^ 64 = omega arith in
    let long : length c.words-line.result ≡ 24 = ap length c.words-line.ensures in
    let all = length-appended c.put_unsigned.new.self c.words-line.result (decimal c.args.size) 24 20 c.put_unsigned.ensures (omega (arith, long))
    (length-decimal c.args.size small) in
    omega (arith, all)

pub returns : goal.returns
returns c =
    c.put_text.ensures
    ∙ ap (λ (z : List ℕ). z ++ codes ", at most 4096\n") (c.put_unsigned.ensures ∙ ap (λ (z : List ℕ). z ++ decimal c.args.size) c.words-line.ensures)
    ∙ append_assoc (codes "space: too many starts: ") (decimal c.args.size) (codes ", at most 4096\n")
