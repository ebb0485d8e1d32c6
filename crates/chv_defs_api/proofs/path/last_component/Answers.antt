use Rattle.std.proofs.Common.{sym, ◌∙◌, ap, ◌≡◌, ◌-◌, ◌<◌, ◌≤◌, get_or, length, arith, lit<}
use Rattle.chv_defs_api.proofs.Components.{last_component-after, last_component-whole}
use Rattle.chv_defs_api.proofs.path.last_component.Goals as goal

pub returns-in-Some : goal.returns-in-Some
returns-in-Some c =
    let s = c.in-Some.ensures.cases in
    let within : s.1 ≤ length c.args.path.now = omega arith in
    let some : 0 < s.1 = omega (arith, s.2.1.ends) in
    let before : s.1 - 1 ≡ s.0 = omega (arith, s.2.1.ends) in
    let slash : get_or c.args.path.now (s.1 - 1) 0 ≡ 47 = ap (λ n. get_or c.args.path.now n 0) before ∙ s.2.1.byte (lit< tt) in
    s.4 ∙ sym (last_component-after c.args.path.now s.1 within some slash s.2.0)

pub returns-in-None : goal.returns-in-None
returns-in-None c = sym (last_component-whole c.args.path.now c.in-None.ensures.cases)
