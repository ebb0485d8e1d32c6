-- The limits of a book, which are this project's own, and the bytes of a block.
use Rattle.std.specs.Prelude.{ℕ, ◌/◌}

-- how many entries a book has at most, reserved ones counted
abbrev pub most_entries : ℕ
most_entries = 1048576

-- how many bytes of payload a book has at most
abbrev pub most_payload : ℕ
most_payload = 16777216

-- the bytes of a block: 2 MiB
abbrev pub block_bytes : ℕ
block_bytes = 2097152

-- how many blocks so many bytes are
abbrev pub blocks_in : ℕ → ℕ
blocks_in bytes = bytes / block_bytes
