-- What is known of the disks that stand by.
use Rattle.std.specs.Prelude.{ℕ, List, length, map}
use Rattle.chv_defs_api.specs.declared.shelf.OnShelf.{OnShelf}
use Rattle.chv_store.specs.AnyDisk.{of_either}
use Rattle.chv_store.specs.declared.any_disk.AnyDisk.{AnyDisk}

-- disks that stand by: each one's name, and its number of sectors, which `count` says
abbrev pub shelf_of : {T : Type 0} → (T → ℕ) → List (List ℕ × T) → List OnShelf
shelf_of count disks = map (λ disk. record { name = disk.0; sectors = count disk.1 }) disks

-- how many sectors a disk of either kind has, where `count` says how many a disk has that was handed in
abbrev pub sectors_of : {D : Type 0} → (D → ℕ) → AnyDisk D → ℕ
sectors_of count = of_either count (λ disk. length disk.sectors)
