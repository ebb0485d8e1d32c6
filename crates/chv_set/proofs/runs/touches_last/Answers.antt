use Rattle.std.proofs.Common.{sym, ◌∙◌, ap, false, ◌+◌}
use Rattle.std.specs.Prelude.{◌==◌}
use Rattle.std.specs.Option.{option_map_or}
use Rattle.chv_set.proofs.RunLists.{touches_end-last}
use Rattle.chv_set.proofs.runs.touches_last.Goals as goal

pub returns-in-Some : goal.returns-in-Some
returns-in-Some c = ap (λ o. option_map_or (λ run. run.first + run.count == c.args.block) o false) c.in-Some.ensures.value ∙ sym (touches_end-last c.args.runs.now c.args.block)
