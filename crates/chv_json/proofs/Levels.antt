-- A configuration and a disk that are written have few levels, so their texts mean them as bodies.
use Rattle.std.proofs.Common.{◌≡◌, ◌≤◌, ℕ, zero-le, List, [], ◌∷◌, map, Result, Ok, IfOk, None, Some, subst, arith, lit≤}
use Rattle.std.proofs.Math.Nat.{max-le}
use Rattle.std.proofs.lemmas.Result.{IfOk-weaker}
use Rattle.serde_json.specs.Data.{Data, depth, items_depth}
use Rattle.serde_json.specs.Read.{max_depth}
use Rattle.serde_json.specs.View.{items_of}
use Rattle.chv_defs_api.specs.JsonBodies.{value_of, config_of, disk_of}
use Rattle.chv_defs_api.specs.JsonTexts.{method_value, zone_value, disk_value, config_value}
use Rattle.chv_defs_api.specs.declared.config.VmConfig.{VmConfig}
use Rattle.chv_defs_api.specs.declared.config.DiskConfig.{DiskConfig}
use Rattle.chv_defs_api.specs.declared.config.Hotplug.{Hotplug}
use Rattle.chv_defs_api.specs.declared.config.Hotplug.TheVariants.{Acpi, VirtioMem}
use Rattle.chv_json.proofs.Again.{config_again, disk_again}

depth-items : {A : Type 0} (f : A → Data) (n : ℕ) → ((x : A) → depth (f x) ≤ n) → (xs : List A) → items_depth (items_of (map f xs)) ≤ n
depth-items f n each [] = zero-le
depth-items f n each (x ∷ xs) = max-le (each x) (depth-items f n each xs)

depth-disk : (d : DiskConfig) → depth (disk_value d) ≤ 1
depth-disk d = elim d.id as (λ id. depth (disk_value (record d { id = id })) ≤ 1) [ None ↦ lit≤ tt | Some id ↦ lit≤ tt ]

depth-method : (w : Hotplug) → depth (method_value w) ≤ 0
depth-method Acpi = zero-le
depth-method VirtioMem = zero-le

depth-config : (c : VmConfig) → depth (config_value c) ≤ max_depth
depth-config c =
    let disks : items_depth (items_of (map disk_value c.disks)) ≤ 1 = depth-items disk_value 1 depth-disk c.disks in
    let zones : items_depth (items_of (map zone_value c.memory.zones)) ≤ 1 = depth-items zone_value 1 (λ z. lit≤ tt) c.memory.zones in
    let method = depth-method c.memory.way in
    omega (arith, disks, zones, method)

config_of-text : (c : VmConfig) (text : List ℕ) → (depth (config_value c) ≤ max_depth → value_of text ≡ Ok (config_value c)) → config_of text ≡ Ok c
unfolding config_of
config_of-text c text means = rw (means (depth-config c)) (config_again c)

disk_of-text : (d : DiskConfig) (text : List ℕ) → (depth (disk_value d) ≤ max_depth → value_of text ≡ Ok (disk_value d)) → disk_of text ≡ Ok d
unfolding disk_of
disk_of-text d text means = let few : depth (disk_value d) ≤ max_depth = omega (arith, depth-disk d) in rw (means few) (disk_again d)

-- what is written of a value that is the configuration's means the configuration
pub config_means : {E : Type 0} (c : VmConfig) (value : Data) (r : Result (List ℕ) E) → value ≡ config_value c
    → IfOk r (λ text. depth value ≤ max_depth → value_of text ≡ Ok value) → IfOk r (λ text. config_of text ≡ Ok c)
config_means c value r same = IfOk-weaker r (λ text. depth value ≤ max_depth → value_of text ≡ Ok value) (λ text. config_of text ≡ Ok c)
    (λ text means. config_of-text c text (subst (λ (v : Data). depth v ≤ max_depth → value_of text ≡ Ok v) same means))

-- and so for a disk
pub disk_means : {E : Type 0} (d : DiskConfig) (value : Data) (r : Result (List ℕ) E) → value ≡ disk_value d
    → IfOk r (λ text. depth value ≤ max_depth → value_of text ≡ Ok value) → IfOk r (λ text. disk_of text ≡ Ok d)
disk_means d value r same = IfOk-weaker r (λ text. depth value ≤ max_depth → value_of text ≡ Ok value) (λ text. disk_of text ≡ Ok d)
    (λ text means. disk_of-text d text (subst (λ (v : Data). depth v ≤ max_depth → value_of text ≡ Ok v) same means))
