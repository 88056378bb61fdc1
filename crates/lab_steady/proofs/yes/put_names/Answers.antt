use Rattle.std.proofs.Common.{List, ℕ, Bool, ◌++◌, codes, ap, ◌∙◌}
use Rattle.lab_steady.specs.Text.{is_empty, word_if}
use Rattle.lab_steady.proofs.Pieces.{after_two, after_four, after_five}
use Rattle.lab_steady.proofs.yes.put_names.Goals as goal

pub returns : goal.returns
returns c =
    let k = c.args.constant in
    let a : List ℕ = codes "constant" in
    let b : List ℕ = word_if (is_empty k) (codes " none") in
    let d : List ℕ = word_if k.add (codes " add") in
    let e : List ℕ = word_if k.subtract (codes " subtract") in
    let f : List ℕ = word_if k.multiply (codes " multiply") in
    let g : List ℕ = word_if k.divide (codes " divide") in
    let h : List ℕ = word_if k.remainder (codes " remainder") in
    let i : List ℕ = word_if k.compare (codes " compare") in
    let j : List ℕ = codes "\n" in
    after_five c.args.out.now.items c.extend_from_slice.new.self.items c.put_if.new.out.items c.put_if-2.new.out.items c.put_if-3.new.out.items
    c.extend_from_slice-2.new.self.items a b d e (f ++ (g ++ (h ++ (i ++ j))))
    c.in_ok-extend_from_slice.ensures.items
    (c.in_ok-put_if.ensures ∙ ap (λ (z : Bool). c.extend_from_slice.new.self.items ++ word_if z (codes " none")) c.is_empty.ensures)
    c.in_ok-put_if-2.ensures c.in_ok-put_if-3.ensures
    (after_two c.put_if-3.new.out.items c.put_if-4.new.out.items c.extend_from_slice-2.new.self.items f (g ++ (h ++ (i ++ j)))
    c.in_ok-put_if-4.ensures
    (after_four c.put_if-4.new.out.items c.put_if-5.new.out.items c.put_if-6.new.out.items c.put_if-7.new.out.items c.extend_from_slice-2.new.self.items
    g h i j c.in_ok-put_if-5.ensures c.in_ok-put_if-6.ensures c.in_ok-put_if-7.ensures c.in_ok-extend_from_slice-2.ensures.items))
