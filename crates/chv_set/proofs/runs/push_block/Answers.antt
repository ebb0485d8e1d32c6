use Rattle.std.proofs.Common.{◌≡◌, ◌+◌, arith, length, ◌∙◌, sym, ap}
use Rattle.chv_set.proofs.RunLists.{last-fits, last-longer}
use Rattle.chv_set.proofs.runs.push_block.Goals as goal

pub overflow_add-index_mut : goal.overflow_add-index_mut
overflow_add-index_mut c =
    let len : c.len-last.result ≡ length c.args.runs.now.items = c.len-last.ensures ∙ sym c.as_slice.ensures.len ∙ ap length c.as_slice.ensures.value in
    let end : c.index_mut.result.now.first + c.index_mut.result.now.count ≡ c.args.block =
    last-fits c.args.runs.now.items c.as_slice.result.now c.len-last.result c.args.block c.index_mut.result.now c.as_slice.ensures.value len c.if-touches_last.ensures c.index_mut.ensures.value in
    omega arith

pub returns-then-touches_last-clause-ok : goal.returns-then-touches_last-clause-ok
returns-then-touches_last-clause-ok c =
    let len : c.len-last.result ≡ length c.args.runs.now.items = c.len-last.ensures ∙ sym c.as_slice.ensures.len ∙ ap length c.as_slice.ensures.value in
    last-longer c.args.runs.now.items c.as_slice.result.now c.len-last.result c.args.block c.index_mut.result.now c.as_slice.ensures.value len c.if-touches_last.ensures c.index_mut.ensures.value
