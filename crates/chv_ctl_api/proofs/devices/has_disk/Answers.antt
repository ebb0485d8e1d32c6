use Rattle.std.proofs.Common.{rules, ◌∙◌}
use borrow.Author.Tests.{tests}
use Rattle.std.proofs.lemmas.Iterator.{YieldsList-from_slice}
use Rattle.std.proofs.lemmas.Iterator.Search.{any_from_yields_List}
use Rattle.chv_ctl_api.proofs.Ids.{is_given, has_text-given}
use Rattle.chv_ctl_api.proofs.devices.has_disk.Goals as goal

pub returns : goal.returns
returns c =
    any_from_yields_List (is_given c.args.id.now) _ _ _ c.any.ensures.ran (YieldsList-from_slice c.args.disks.now cc) (λ x b q k. search (rules, tests))
    ∙ has_text-given c.args.id.now c.args.disks.now
