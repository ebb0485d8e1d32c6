use Rattle.chv_script.proofs.LawLemmas.{names_first, no_script}
use Rattle.chv_script.proofs.laws.refusal_names_the_first_fault.Goals as goal

pub returns-clause-first : goal.returns-clause-first
returns-clause-first c = names_first

pub returns-clause-none : goal.returns-clause-none
returns-clause-none c = no_script
