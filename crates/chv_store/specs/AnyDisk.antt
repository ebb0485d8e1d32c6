-- One of two kinds of disk.
use Rattle.std.specs.Prelude.{ℕ, Bool, true, false, List, length, Option, Some}
use Rattle.chv_io.specs.FailingCalls.{Calls}
use Rattle.chv_store.specs.MemDisk.{Platter}
use Rattle.chv_store.specs.declared.any_disk.AnyDisk.{AnyDisk}
use Rattle.chv_store.specs.declared.any_disk.AnyDisk.TheVariants.{Given, Made}

-- What a fact of disks is for one that was handed in, or for one in memory.
abbrev pub of_either : {D X : Type 0} → (D → X) → (Platter → X) → AnyDisk D → X
of_either given made (Given disk) = given disk
of_either given made (Made disk) = made disk

-- whether it was handed in, and not made in memory
abbrev pub is_given : {D : Type 0} → AnyDisk D → Bool
is_given = of_either (λ disk. true) (λ disk. false)

-- its sectors, its number of sectors, its faults and its listed calls, by those of the disks that are handed in
abbrev pub contents_by : {D : Type 0} → (D → Option (List (List ℕ))) → AnyDisk D → Option (List (List ℕ))
contents_by contents = of_either contents (λ disk. Some disk.sectors)

abbrev pub sector_count_by : {D : Type 0} → (D → ℕ) → AnyDisk D → ℕ
sector_count_by count = of_either count (λ disk. length disk.sectors)

abbrev pub faults_by : {D : Type 0} → (D → ℕ) → AnyDisk D → ℕ
faults_by faults = of_either faults (λ disk. disk.calls.faults)

abbrev pub calls_by : {D : Type 0} → (D → Option Calls) → AnyDisk D → Option Calls
calls_by calls = of_either calls (λ disk. Some disk.calls)
