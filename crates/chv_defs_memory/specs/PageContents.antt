-- What guest memory holds: one byte for each block and each offset in it, 0 where none was written. A block has
-- 2,097,152 bytes, which are 512 pages of 4,096 bytes.
use Rattle.std.specs.Prelude.{◌≡◌, ℕ, ◌+◌, ◌-◌, ◌*◌, ◌/◌, ◌%◌, ◌==◌, ◌&&◌, Bool, nat_le, nat_lt, if◌then◌else◌, List, [], ◌∷◌, length, map, slice_index, Option, None, Some}
use Rattle.std.specs.List.{range_with_len, filter_map, list_all}
use Rattle.chv_defs_memory.specs.declared.bank.PageAt.{PageAt}

-- the contents of a zone's memory: how many blocks it has, its pages that are not all zero, and for how many further
-- pages room is reserved
pub record Contents : Type 0 where
  pub blocks : ℕ
  pub pages : List PageAt
  pub reserved : ℕ

-- whether a page stands at this place
abbrev pub is_page_at : ℕ → ℕ → PageAt → Bool
is_page_at block page p = p.block == block && p.page == page

-- the byte at an offset of a block, by the pages that are held: 0 where no page is
abbrev pub byte_of : List PageAt → ℕ → ℕ → ℕ
byte_of [] block offset = 0
byte_of (p ∷ ps) block offset = if is_page_at block (offset / 4096) p then slice_index p.bytes (offset % 4096) else byte_of ps block offset

-- the byte that memory holds at an offset of a block
abbrev pub byte_at : Contents → ℕ → ℕ → ℕ
byte_at memory block offset = byte_of memory.pages block offset

-- the bytes of a block from an offset on
abbrev pub bytes_at : Contents → ℕ → ℕ → ℕ → List ℕ
bytes_at memory block offset len = map (byte_at memory block) (range_with_len offset len)

-- whether an offset lies in a range of offsets
abbrev pub is_inside : ℕ → ℕ → ℕ → Bool
is_inside offset len at = nat_le offset at && nat_lt at (offset + len)

-- after a write of bytes at an offset of a block: these bytes stand there, and every other byte is as before
pub record Writes (old new : Contents) (block offset : ℕ) (bytes : List ℕ) : Type 0 where
  pub blocks : new.blocks ≡ old.blocks
  pub reserved : new.reserved ≡ old.reserved
  pub bytes_after : (b at : ℕ) → byte_at new b at ≡ (if b == block && is_inside offset (length bytes) at then slice_index bytes (at - offset) else byte_at old b at)

-- after a page was filled: its bytes stand there, one reserved page is used, and every other byte is as before
pub record Fills (old new : Contents) (block page : ℕ) (bytes : List ℕ) : Type 0 where
  pub blocks : new.blocks ≡ old.blocks
  pub reserved : new.reserved + 1 ≡ old.reserved
  pub bytes_after : (b at : ℕ) → byte_at new b at ≡ (if b == block && is_inside (page * 4096) 4096 at then slice_index bytes (at - page * 4096) else byte_at old b at)

-- after a block was cleared: its bytes are 0, and every other byte is as before
pub record Clears (old new : Contents) (block : ℕ) : Type 0 where
  pub blocks : new.blocks ≡ old.blocks
  pub reserved : new.reserved ≡ old.reserved
  pub bytes_after : (b at : ℕ) → byte_at new b at ≡ (if b == block then 0 else byte_at old b at)

-- the 4,096 bytes of a page, by the byte at each offset of each block
unfoldable pub page_bytes : (ℕ → ℕ → ℕ) → ℕ → ℕ → List ℕ
page_bytes byte block page = map (byte block) (range_with_len (page * 4096) 4096)

-- whether the bytes are all zero
abbrev pub is_blank : List ℕ → Bool
is_blank bytes = list_all (λ byte. byte == 0) bytes

-- the page with a number, pages of all blocks counted, unless it is all zero
abbrev pub page_numbered : (ℕ → ℕ → ℕ) → ℕ → Option PageAt
page_numbered byte n =
    let bytes = page_bytes byte (n / 512) (n % 512) in
    if is_blank bytes then None else Some (record { block = n / 512; page = n % 512; bytes = bytes })

-- the pages of a number of blocks that are not all zero, ascending by block and page
abbrev pub pages_of : ℕ → (ℕ → ℕ → ℕ) → List PageAt
pages_of blocks byte = filter_map (page_numbered byte) (range_with_len 0 (blocks * 512))

-- the pages that stand are exactly those that are not all zero, ascending
abbrev pub AreExact : Contents → Type 0
AreExact memory = memory.pages ≡ pages_of memory.blocks (byte_at memory)
