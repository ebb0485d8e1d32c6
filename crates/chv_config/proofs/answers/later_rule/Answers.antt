use Rattle.std.proofs.Common.{◌∙◌, sym, subst, ◌≡◌}
use Rattle.std.specs.Prelude.{IfOk, Option}
use Rattle.chv_defs_base.specs.declared.rule.Rule.{Rule}
use Rattle.chv_defs_api.specs.ConfigRules.{memory_rules, device_rules}
use Rattle.chv_config.proofs.Firsts.{first_broken-some, first_broken-none}
use Rattle.chv_config.proofs.answers.later_rule.Goals as goal

pub returns-in-Some : goal.returns-in-Some
returns-in-Some c = sym (first_broken-some (memory_rules c.args.config.now) (device_rules c.args.disks.now c.args.config.now) c.in-Some.rule (sym c.in_ok-rule.ensures ∙ c.in-Some.is))

pub returns-in-None : goal.returns-in-None
returns-in-None c =
    let P : Option Rule → Type 0 = λ found. IfOk c.device_rule.result (λ rule. rule ≡ found) in
    subst P (sym (first_broken-none (memory_rules c.args.config.now) (device_rules c.args.disks.now c.args.config.now) (sym c.in_ok-rule.ensures ∙ c.in-None.is))) c.device_rule.ensures
