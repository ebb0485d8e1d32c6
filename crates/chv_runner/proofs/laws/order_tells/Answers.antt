use Rattle.chv_runner.proofs.OrderLemmas.{order_tells}
use Rattle.chv_runner.proofs.laws.order_tells.Goals as goal

pub returns : goal.returns
returns c = order_tells
