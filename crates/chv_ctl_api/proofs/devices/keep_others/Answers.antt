use Rattle.std.proofs.Common.{rules, ◌∙◌, ap}
use Rattle.std.specs.Prelude.{not, filter}
use borrow.Author.Tests.{tests}
use Rattle.std.proofs.lemmas.Fn.{filter_same}
use Rattle.chv_defs_api.specs.declared.config.DiskConfig.{DiskConfig}
use Rattle.chv_defs_control.specs.ApiStep.{has_id}
use Rattle.chv_ctl_api.proofs.devices.keep_others.Goals as goal

pub returns : goal.returns
returns c =
    let kept = filter_same _ (λ (disk : DiskConfig). not (has_id c.args.id.now disk)) _ (λ x b f k. search (rules, tests)) _ _ c.retain.ensures.filtered in
    c.new.ensures ∙ kept ∙ ap (filter (λ (disk : DiskConfig). not (has_id c.args.id.now disk))) (c.into_vec-kept.ensures ∙ c.replace.ensures.value)
