use Rattle.chv_vcpu.proofs.answer.settle.Goals as goal

pub returns-in-Load : goal.returns-in-Load
returns-in-Load c = rw c.in-Load.is (c.loaded.ensures c.in-Load.addr c.in-Load.width)

pub returns-in-Store : goal.returns-in-Store
returns-in-Store c = rw c.in-Store.is (c.stored.ensures c.in-Store.addr c.in-Store.bytes c.in-Store.put)

pub returns-in-In : goal.returns-in-In
returns-in-In c = rw c.in-In.is (c.read.ensures c.in-In.width c.in-In.port)

pub returns-in-Out : goal.returns-in-Out
returns-in-Out c = rw c.in-Out.is (c.written.ensures c.in-Out.width c.in-Out.port c.in-Out.value)
