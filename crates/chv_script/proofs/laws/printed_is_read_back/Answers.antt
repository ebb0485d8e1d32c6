use Rattle.chv_script.proofs.LawLemmas.{read_back}
use Rattle.chv_script.proofs.laws.printed_is_read_back.Goals as goal

pub returns : goal.returns
returns c = read_back c.args.script.now
