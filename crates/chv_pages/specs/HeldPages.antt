-- Pages that are held, each with its number, pages of all blocks counted. A page that is held may be all zero.
use Rattle.std.specs.Prelude.{◌≡◌, ◌≢◌, ℕ, suc, zero, ◌+◌, ◌-◌, ◌/◌, ◌%◌, ◌<◌, ◌≤◌, ◌==◌, ◌&&◌, Bool, true, nat_lt, if◌then◌else◌, List, [], ◌∷◌, length, map, slice_index, Option, None, Some}
use Rattle.std.specs.List.{filter_map, list_any}
use Rattle.chv_defs_memory.specs.declared.bank.PageAt.{PageAt}
use Rattle.chv_defs_memory.specs.PageContents.{is_blank, is_inside}
use Rattle.chv_pages.specs.declared.held.Held.{Held}

-- whether the page with a number holds the offset of the block
abbrev pub is_address : ℕ → ℕ → ℕ → Bool
is_address number block offset = number / 512 == block && number % 512 == offset / 4096

-- the byte at an offset of a block
abbrev pub held_at : List Held → ℕ → ℕ → ℕ
held_at [] block offset = 0
held_at (h ∷ hs) block offset = if is_address h.number block offset then slice_index h.page (offset % 4096) else held_at hs block offset

-- whether the page with a number is held
abbrev pub has_number : List Held → ℕ → Bool
has_number held number = list_any (λ h. h.number == number) held

-- the first page with a number stands at a place
abbrev pub IsAt : List Held → ℕ → ℕ → Type 0
IsAt [] place number = ⊥
IsAt (h ∷ hs) zero number = h.number ≡ number
IsAt (h ∷ hs) (suc place) number = (h.number ≢ number) × IsAt hs place number

-- pages ascend from a number on and lie below another one, each of 4,096 bytes
abbrev pub AreHeld : ℕ → ℕ → List Held → Type 0
AreHeld low high [] = Unit {0}
AreHeld low high (h ∷ hs) = (low ≤ h.number) × (h.number < high) × (length h.page ≡ 4096) × AreHeld (h.number + 1) high hs

-- a page as it is shown, unless it is all zero
abbrev pub shown : Held → Option PageAt
shown h = if is_blank h.page then None else Some (record { block = h.number / 512; page = h.number % 512; bytes = h.page })

-- the pages that are shown
abbrev pub visible : List Held → List PageAt
visible held = filter_map shown held

-- pages with one put at its number, in place of the one that has it
abbrev pub put : List Held → ℕ → List ℕ → List Held
put [] number page = record { number = number; page = page } ∷ []
put (h ∷ hs) number page =
    if nat_lt h.number number then h ∷ put hs number page
    else (if h.number == number then record { number = number; page = page } ∷ hs else record { number = number; page = page } ∷ h ∷ hs)

-- one page was made where none was: what is shown is as before
pub record MakesRoom (old new : List Held) : Type 0 where
  pub same : visible new ≡ visible old
  pub keeps : (n : ℕ) → has_number old n ≡ true → has_number new n ≡ true

-- after bytes were written at an offset of a block: these bytes stand there, every other byte is as before, and the same
-- pages are held
pub record WritesHeld (old new : List Held) (block offset : ℕ) (bytes : List ℕ) : Type 0 where
  pub numbers : map (λ h. h.number) new ≡ map (λ h. h.number) old
  pub keeps : (high : ℕ) → AreHeld 0 high old → AreHeld 0 high new
  pub bytes_after : (b at : ℕ) → held_at new b at ≡ (if b == block && is_inside offset (length bytes) at then slice_index bytes (at - offset) else held_at old b at)
