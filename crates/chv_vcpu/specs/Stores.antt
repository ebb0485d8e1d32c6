-- What a step takes memory for.
use Rattle.std.specs.Prelude.{Bool, true, false}
use Rattle.chv_defs_guest.specs.declared.want.Want.{Want}
use Rattle.chv_defs_guest.specs.declared.want.Want.TheVariants as want

-- whether a store is asked for
abbrev pub is_store : Want → Bool
is_store (want.Store addr bytes put) = true
is_store _ = false
