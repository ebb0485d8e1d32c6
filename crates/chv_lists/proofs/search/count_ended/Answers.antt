-- crates/chv_lists/proofs/search/count_ended/Answers.antt
use Rattle.std.proofs.Common.{sym, rules}
use Rattle.std.specs.Prelude.{nat_le}
use Rattle.std.proofs.lemmas.List.Sorted.{IsPartitionPoint-from_clause, IsPartitionedBy-leb}
use Rattle.chv_lists.proofs.Ends.{ends-ascend, prefix_len-point}
use Rattle.chv_lists.proofs.search.count_ended.Goals as goal

pub returns : goal.returns
returns g c =
    let items = c.args.items.now in
    let parted = IsPartitionedBy-leb g.S.Stretch.end items c.args.at (ends-ascend g.S.Stretch.start g.S.Stretch.end 0 items c.requires) in
    let point = IsPartitionPoint-from_clause (λ x. nat_le (g.S.Stretch.end x) c.args.at) items c.partition_point.result c.partition_point.ensures.partitioned parted (λ a r q k. search rules) in
    sym (prefix_len-point (λ x. nat_le (g.S.Stretch.end x) c.args.at) items c.partition_point.result c.partition_point.ensures.bound point)
