-- The blocks of a span up to the one that a loop has come to.
use Rattle.std.proofs.Common.{ℕ, Bool}
use Rattle.std.specs.Prelude.{◌&&◌, nat_lt, nat_le}
use Rattle.chv_defs_memory.specs.BankState.{belongs}

-- whether a block is one of the bank's from one on and below another
abbrev pub passed : ℕ → ℕ → ℕ → ℕ → Bool
passed bank low high k = belongs bank k && (nat_le low k && nat_lt k high)
