use Rattle.std.proofs.Common.{◌≡◌, replicate}
use Rattle.chv_store.proofs.mem_disk.blank_sectors.Given as goal

abbrev pub invariant-loop : goal.invariant-loop
invariant-loop l = l.sectors.items ≡ replicate l.counter (replicate 512 0)
