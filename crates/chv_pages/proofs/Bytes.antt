-- Bytes that are all zero.
use Rattle.std.proofs.Common.{◌≡◌, ℕ, true, refl, zero, suc, replicate}
use Rattle.chv_defs_memory.specs.PageContents.{is_blank}

pub is_blank-replicate : (n : ℕ) → is_blank (replicate n 0) ≡ true
is_blank-replicate zero = refl
is_blank-replicate (suc n) = is_blank-replicate n
