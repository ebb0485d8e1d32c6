use Rattle.std.proofs.Common.{◌/◌, rules}
use Rattle.std.specs.Prelude.{not, ◌==◌}
use Rattle.chv_pages.specs.declared.held.Held.{Held}
use Rattle.std.proofs.lemmas.Fn.{filter_same}
use Rattle.chv_pages.proofs.edits.drop_block.Goals as goal

pub returns-clause-items : goal.returns-clause-items
returns-clause-items c = filter_same _ (λ (h : Held). not (h.number / 512 == c.args.block)) _ (λ x b g r. search rules) c.args.held.now.items c.retain.new.self.items c.retain.ensures.filtered
