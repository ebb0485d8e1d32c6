-- The banks of the tests of lending.
use Rattle.std.specs.Prelude.{◌≡◌, ℕ, ◌==◌, ◌&&◌, false, []}
use Rattle.chv_defs_memory.specs.Zones.{IsBank}
use Rattle.chv_guest.specs.LentBanks.{known_at, Lent}

-- No bank but that of zone 0 has an entry.
abbrev pub IsOnlyFirst : Lent → Type 0
IsOnlyFirst zones = (z b : ℕ) → IsBank z b → (z == 0 && b == 0) ≡ false → (known_at zones.books z b).history ≡ []
