use Rattle.std.proofs.Common.{◌≡◌, ◌<◌, ◌≤◌, ◌-◌, ◌++◌, ℕ, length, map, get_or, refl, ap, ◌∙◌, subst, arith, codes, decimal}
use Rattle.start_file.specs.Starts.{seen, IsFor}
use Rattle.cycle_machine.specs.Rest.{Told}
use Rattle.leak_audit.proofs.Agreeing.{All-seen}
use Rattle.tool_stages.proofs.EnvLemmas.{named_told}
use Rattle.lab_seen.specs.Seen.{line_text}
use Rattle.lab_leak.specs.Answer.{sequences_in}
use Rattle.lab_leak.specs.Classes.{classes_of_runs}
use Rattle.lab_leak.proofs.Members.{how_many, class_is, line_put, lines_put}
use Rattle.lab_leak.proofs.Writing.{at_run, first_at, some_at, known_at, sized_at, size_at}
use Rattle.lab_leak.proofs.lines.write_in.Goals as goal

below : (m n k : ℕ) → m < n → n ≡ k → m < k
below m n k lt e = omega (arith, lt, e)

pub overflow_sub-start : goal.overflow_sub-start
overflow_sub-start g c =
    let q = c.args.p.now in
    let zs = sequences_in c.args.setting.env c.args.setting.budget q c.args.observer.number (map seen c.args.starts.now) in
    let same = c.as_slice-firsts.ensures.value ∙ c.requires.are.firsts in
    let lt : c.loop-k.k < length c.as_slice-firsts.result.now = omega (arith, c.loop-k-test.true) in
    some_at zs c.as_slice-firsts.result.now c.loop-k.k same lt

pub bounds-starts-first : goal.bounds-starts-first
bounds-starts-first g c =
    let q = c.args.p.now in
    let zs = sequences_in c.args.setting.env c.args.setting.budget q c.args.observer.number (map seen c.args.starts.now) in
    let same = c.as_slice-firsts.ensures.value ∙ c.requires.are.firsts in
    let lt : c.loop-k.k < length c.as_slice-firsts.result.now = omega (arith, c.loop-k-test.true) in
    below (get_or c.as_slice-firsts.result.now c.loop-k.k 0 - 1) (length zs) (length c.args.starts.now)
    (known_at zs c.as_slice-firsts.result.now c.loop-k.k same lt)
    (how_many c.args.setting.env c.args.setting.budget q c.args.observer c.args.image.now c.requires.fit.image c.args.starts.now)

pub bounds-sizes-k : goal.bounds-sizes-k
bounds-sizes-k g c =
    let q = c.args.p.now in
    let zs = sequences_in c.args.setting.env c.args.setting.budget q c.args.observer.number (map seen c.args.starts.now) in
    let same = c.as_slice-firsts.ensures.value ∙ c.requires.are.firsts in
    let lt : c.loop-k.k < length c.as_slice-firsts.result.now = omega (arith, c.loop-k-test.true) in
    sized_at zs c.as_slice-firsts.result.now c.loop-k.k same lt c.as_slice-sizes.result.now (c.as_slice-sizes.ensures.value ∙ c.requires.are.sizes)

pub write_class-requires-clause-start : goal.write_class-requires-clause-start
write_class-requires-clause-start g c =
    let q = c.args.p.now in
    let zs = sequences_in c.args.setting.env c.args.setting.budget q c.args.observer.number (map seen c.args.starts.now) in
    let same = c.as_slice-firsts.ensures.value ∙ c.requires.are.firsts in
    let lt : c.loop-k.k < length c.as_slice-firsts.result.now = omega (arith, c.loop-k-test.true) in
    let here = below (get_or c.as_slice-firsts.result.now c.loop-k.k 0 - 1) (length zs) (length c.args.starts.now)
    (known_at zs c.as_slice-firsts.result.now c.loop-k.k same lt)
    (how_many c.args.setting.env c.args.setting.budget q c.args.observer c.args.image.now c.requires.fit.image c.args.starts.now) in
    All-seen (IsFor q.program) c.args.starts.now (get_or c.as_slice-firsts.result.now c.loop-k.k 0 - 1)
    c.index-starts-first.result c.requires.fit.starts here c.index-starts-first.is

pub loop-k-preserved : goal.loop-k-preserved
loop-k-preserved g c =
    let q = c.args.p.now in
    let l = c.args.observer in
    let code = c.args.image.now in
    let e = c.args.setting.env in
    let t = c.args.setting.budget in
    let items = c.args.starts.now in
    let zs = sequences_in e t q l.number (map seen items) in
    let classes = classes_of_runs zs in
    let firsts = c.as_slice-firsts.result.now in
    let sizes = c.as_slice-sizes.result.now in
    let k = c.loop-k.k in
    let same = c.as_slice-firsts.ensures.value ∙ c.requires.are.firsts in
    let lt : k < length firsts = omega (arith, c.loop-k-test.true) in
    let first = get_or firsts k 0 in
    let size = get_or sizes k 0 in
    let x = c.index-starts-first.result in
    let now = c.loop-k.out.text.items in
    let a = at_run zs firsts k same lt in
    let here : first - 1 < length items = below (first - 1) (length zs) (length items) (known_at zs firsts k same lt)
    (how_many e t q l code c.requires.fit.image items) in
    let fits = All-seen (IsFor q.program) items (first - 1) x c.requires.fit.starts here c.index-starts-first.is in
    let told = named_told g.E.MachineEnv.env (g.M.MakeEnv.made c.args.maker.now) e (g.M.MachineMaker.machine c.args.maker.now) c.requires.machine q code
    c.laws.ensures.shaped (c.makers_tell_as_histories.ensures.runs c.args.maker.now) c.requires.fit.image (seen x) fits t in
    let is : x ≡ get_or items (first - 1) x = c.index-starts-first.is in
    let line = class_is e t q l code c.requires.fit.image items classes.seen classes.firsts k a x (first - 1) first size here is refl
    (first_at zs firsts k same lt) (size_at zs firsts k same lt sizes (c.as_slice-sizes.ensures.value ∙ c.requires.are.sizes)) in
    line_put q.program.declarations classes.seen classes.firsts c.args.out.now.text.items zs k now c.write_class.new.out.text.items a c.loop-k.invariant
    (c.in_ok-write_class.ensures
    ∙ ap (λ (z : Told). now ++ ((codes "class " ++ (decimal size ++ codes " first ")) ++ line_text q l first z)) told
    ∙ ap (λ z. now ++ z) line)

pub returns : goal.returns
returns g c =
    let q = c.args.p.now in
    let zs = sequences_in c.args.setting.env c.args.setting.budget q c.args.observer.number (map seen c.args.starts.now) in
    let classes = classes_of_runs zs in
    let same = c.as_slice-firsts.ensures.value ∙ c.requires.are.firsts in
    let le : length c.as_slice-firsts.result.now ≤ c.loop-k.k = omega (arith, c.loop-k-test.false) in
    lines_put q.program.declarations classes.seen classes.firsts c.args.out.now.text.items c.loop-k.k c.loop-k.out.text.items
    (subst (λ xs. length xs ≤ c.loop-k.k) same le) c.loop-k.invariant
