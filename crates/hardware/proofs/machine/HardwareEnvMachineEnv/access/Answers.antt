use Rattle.std.proofs.Common.{rules, ◌≡◌, ◌+◌, ◌≤◌, sym, ◌∙◌, subst, arith}
use Rattle.env_contract.specs.declared.place.Place.TheVariants.{Page, Second}
use Rattle.part_tlb.specs.Machine.{bank_at, accessed}
use Rattle.hardware.specs.Envs.{machine_cost, IsMadeOf, Keeps}
use Rattle.hardware.specs.Seated.{made_paged, second_left, machine_small, made_access, keeps_access, cost_told}
use Rattle.hardware.proofs.machine.HardwareEnvMachineEnv.access.Goals as goal

pub look_at-page-requires : goal.look_at-page-requires
look_at-page-requires c =
    let made = c.requires.1.0.made in
    let hw = c.requires.1.0.hardware in
    (hw.sharing, c.requires.0, bank_at hw Page, (made.seats Page, c.requires.1.1, c.requires.1.2))

pub look_line-line-requires : goal.look_line-line-requires
look_line-line-requires c =
    let is = c.requires.1.0 in (
      is.hardware,
      c.requires.0,
      (
        made_paged is.hardware c.requires.0 c.args.self.now is.made c.look_at-page.new.seat c.args.address c.args.ew.number c.look_at-page.ensures.next,
        c.requires.1.1,
        c.requires.1.2,
      ),
    )

pub look_at-second-requires : goal.look_at-second-requires
look_at-second-requires c =
    let is = c.requires.1.0 in (
      is.hardware.sharing,
      c.requires.0,
      bank_at is.hardware Second,
      (
        second_left is.hardware c.requires.0 (record c.args.self.now { buffer = c.look_at-page.new.seat }) c.look_line-line.new.self
            (made_paged is.hardware c.requires.0 c.args.self.now is.made c.look_at-page.new.seat c.args.address c.args.ew.number c.look_at-page.ensures.next)
            c.args.kind c.args.address c.args.ew.number c.look_line-line.ensures.next,
        c.requires.1.1,
        c.requires.1.2,
      ),
    )

pub returns-clause-cost : goal.returns-clause-cost
returns-clause-cost c = search rules

pub returns-clause-next : goal.returns-clause-next
returns-clause-next c = search rules

pub overflow_add-result : goal.overflow_add-result
overflow_add-result c =
    let e : c.look_at-page.result.cost + c.look_line-line.result.cost + c.if-line.far
    ≡ machine_cost c.args.kind c.args.address c.args.er.number c.args.ew.number c.args.self.now = search rules in
    let small = machine_small c.requires.1.0.hardware c.requires.0 c.args.self.now c.requires.1.0.made c.args.kind c.args.address c.args.er.number
    c.args.ew.number in
    omega (arith, e, small)

pub overflow_add-result-2 : goal.overflow_add-result-2
overflow_add-result-2 c =
    let e : c.look_at-page.result.cost + c.look_line-line.result.cost + c.if-line.far
    ≡ machine_cost c.args.kind c.args.address c.args.er.number c.args.ew.number c.args.self.now = search rules in
    let small = machine_small c.requires.1.0.hardware c.requires.0 c.args.self.now c.requires.1.0.made c.args.kind c.args.address c.args.er.number
    c.args.ew.number in
    omega (arith, e, small)

pub returns-clause-small : goal.returns-clause-small
returns-clause-small c =
    subst (λ n. n ≤ 1000) (sym (returns-clause-cost c))
    (machine_small c.requires.1.0.hardware c.requires.0 c.args.self.now c.requires.1.0.made c.args.kind c.args.address c.args.er.number c.args.ew.number)

pub returns-clause-serves : goal.returns-clause-serves
returns-clause-serves c order is =
    record {
      hardware = is.hardware;
      made = subst (IsMadeOf is.hardware order) (sym (returns-clause-next c))
          (made_access is.hardware order c.args.self.now is.made c.args.kind c.args.address c.args.er.number c.args.ew.number);
    }

pub returns-clause-history_cost : goal.returns-clause-history_cost
returns-clause-history_cost c hw order h keeps =
    returns-clause-cost c ∙ cost_told hw order c.args.self.now h keeps c.args.kind c.args.address c.args.er.number c.args.ew.number

pub returns-clause-history_next : goal.returns-clause-history_next
returns-clause-history_next c hw order h keeps =
    subst (λ e. Keeps hw order e (accessed c.args.kind c.args.address c.args.ew.number h)) (sym (returns-clause-next c))
    (keeps_access hw order c.args.self.now h keeps c.args.kind c.args.address c.args.er.number c.args.ew.number)
