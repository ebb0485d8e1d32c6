use Rattle.std.proofs.Common.{◌≡◌, ap, ◌∙◌}
use Rattle.chv_defs_book.proofs.Histories.{begins_whole}
use Rattle.chv_tests_book.specs.Entered.{caller_of}
use Rattle.chv_tests_book.proofs.turns.look.Goals as goal

pub returns-clause-alone : goal.returns-clause-alone
returns-clause-alone g c first nobody =
    let seen : c.leave.new.pass.seen ≡ c.value.result.now.entries.items = ap (λ p. p.seen) c.leave.ensures in
    seen ∙ ap (λ v. v.entries.items) c.value.ensures.value ∙ begins_whole caller_of _ _ _ _ c.begin-turn.ensures.value first nobody
