use Rattle.std.proofs.Common.{◌≡◌, map}
use Rattle.std.specs.List.{range_with_len}
use Rattle.chv_guest.specs.LentBanks.{fresh_at}
use Rattle.chv_guest.proofs.lent_banks.LentBanks.new.Given as goal

abbrev pub invariant-loop-place : goal.invariant-loop-place
invariant-loop-place l = l.banks.items ≡ map fresh_at (range_with_len 0 l.place)
