-- Names of disks and snapshots, which are this project's own: 1 to 64 bytes, each a letter, a digit, `.`, `_` or `-`, the first not `.`.
use Rattle.std.specs.Prelude.{ℕ, Bool, false, List, [], ◌∷◌, ◌==◌, ◌&&◌, ◌||◌, not, nat_le, length}
use Rattle.std.specs.List.{list_all}

-- an ASCII letter or digit
abbrev pub is_alphanumeric : ℕ → Bool
is_alphanumeric b = (nat_le 48 b && nat_le b 57) || (nat_le 65 b && nat_le b 90) || (nat_le 97 b && nat_le b 122)

-- a byte of a name
abbrev pub is_name_byte : ℕ → Bool
is_name_byte b = is_alphanumeric b || b == 46 || b == 95 || b == 45

-- whether the first byte is `.`
abbrev pub starts_with_dot : List ℕ → Bool
starts_with_dot [] = false
starts_with_dot (b ∷ bs) = b == 46

-- whether the bytes are a name
abbrev pub is_name : List ℕ → Bool
is_name bs = nat_le 1 (length bs) && nat_le (length bs) 64 && list_all is_name_byte bs && not (starts_with_dot bs)
