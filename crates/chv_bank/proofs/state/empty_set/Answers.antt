use Rattle.std.proofs.Common.{◌∙◌, ap, false, length}
use Rattle.std.proofs.lemmas.Result.{IfOk-weaker}
use Rattle.chv_defs_memory.specs.BlockSets.{has}
use Rattle.chv_bank.proofs.Sets.{has-numbers_where, len-numbers_where}
use Rattle.chv_bank.proofs.state.empty_set.Goals as goal

pub returns-clause-len : goal.returns-clause-len
returns-clause-len c = IfOk-weaker c.new.result _ _ (λ set e. ap length e ∙ len-numbers_where c.args.size (λ _. false)) c.new.ensures

pub returns-clause-none : goal.returns-clause-none
returns-clause-none c = IfOk-weaker c.new.result _ _ (λ set e k small. ap (λ s. has s k) e ∙ has-numbers_where c.args.size (λ _. false) k small) c.new.ensures
