-- Identifiers of zones, of devices and of labels: 1 to 32 bytes, each a letter, a digit, `_` or `-`.
use Rattle.std.specs.Prelude.{ℕ, Bool, List, ◌==◌, ◌&&◌, ◌||◌, nat_le, length}
use Rattle.std.specs.List.{list_all}
use Rattle.chv_defs_base.specs.Name.{is_alphanumeric}

-- a byte of an identifier
abbrev pub is_id_byte : ℕ → Bool
is_id_byte b = is_alphanumeric b || b == 95 || b == 45

-- whether the bytes are an identifier
abbrev pub is_id : List ℕ → Bool
is_id bs = nat_le 1 (length bs) && nat_le (length bs) 32 && list_all is_id_byte bs
