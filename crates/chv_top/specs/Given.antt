-- Disks that are handed in, as the control value has them.
use Rattle.std.specs.Prelude.{ℕ, List, [], ◌∷◌, map}
use Rattle.chv_store.specs.declared.any_disk.AnyDisk.{AnyDisk}
use Rattle.chv_store.specs.declared.any_disk.AnyDisk.TheVariants.{Given, Made}

-- each disk as one that was handed in, with its name
abbrev pub as_given : {D : Type 0} → List (List ℕ × D) → List (List ℕ × AnyDisk D)
as_given disks = map (λ disk. (disk.0, Given disk.1)) disks

-- a disk before others, where it was handed in
abbrev pub with_handed : {D : Type 0} → List ℕ → AnyDisk D → List (List ℕ × D) → List (List ℕ × D)
with_handed name (Given disk) others = (name, disk) ∷ others
with_handed name (Made disk) others = others

-- those of the disks that were handed in
abbrev pub handed_in : {D : Type 0} → List (List ℕ × AnyDisk D) → List (List ℕ × D)
handed_in [] = []
handed_in (disk ∷ disks) = with_handed disk.0 disk.1 (handed_in disks)
