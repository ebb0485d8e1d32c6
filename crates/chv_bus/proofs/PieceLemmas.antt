-- What an instruction asks for can be made.
use Rattle.std.proofs.Common.{◌≡◌, ℕ, zero, suc, ◌+◌, ◌-◌, ◌/◌, ◌<◌, ◌≤◌, ◌^◌, Bool, true, false, List, [], ◌∷◌, Option, None, Some, length, slice_get, refl, sym, ap, subst, arith, rules}
use Rattle.std.specs.Prelude.{◌&&◌, nat_le, nat_lt}
use Rattle.std.specs.List.{list_all}
use Rattle.std.proofs.Math.Nat.{pow-succ'}
use Rattle.std.proofs.lemmas.Bool.Decides.{nat_tests}
use Rattle.std.proofs.lemmas.List.{take_all}
use Rattle.chv_defs_base.specs.Numbers.{is_width, le_bytes, le_field, le_number}
use Rattle.chv_defs_api.specs.declared.config.ZoneConfig.{ZoneConfig}
use Rattle.chv_defs_api.specs.declared.context.CpuNote.{CpuNote}
use Rattle.chv_defs_api.specs.Registers.{is_port_width, LiesInWindow}
use Rattle.chv_defs_scene.specs.ScriptReading.{is_instruction, is_port, is_put, is_register}
use Rattle.chv_defs_scene.specs.declared.scene.Line.{Line}
use Rattle.chv_defs_scene.specs.declared.scene.Line.TheVariants as line
use Rattle.chv_addr.specs.declared.place.Place.{Place}
use Rattle.chv_addr.specs.declared.place.Place.TheVariants as place
use Rattle.chv_addr.specs.AddressMap.{is_within_limits, map_of, place_of}
use Rattle.chv_defs_guest.proofs.ScriptLemmas.{line_is_instruction}
use Rattle.chv_defs_guest.specs.declared.want.Want.{Want}
use Rattle.chv_defs_guest.specs.declared.want.Want.TheVariants as want
use Rattle.chv_defs_guest.specs.Instruction.{CanBeRun, instruction, is_asking, lowest, register, step_at, step_of}
use Rattle.chv_defs_guest.specs.Pieces.{CanBeMade, has_width, PiecesCanBeMade}
use Rattle.chv_defs_guest.specs.Routing.{load_route, piece_of, put_route, route_of, store_route, window_route}
use Rattle.chv_bus.proofs.PlaceLemmas.{IsInLimits, place-in_limits}

-- ---- bytes of values

-- numbers of one byte
abbrev pub AreBytes : List ℕ → Type 0
AreBytes [] = Unit {0}
AreBytes (b ∷ bs) = (b < 256) × AreBytes bs

le_bytes-are : (n x : ℕ) → AreBytes (le_bytes n x)
le_bytes-are zero x = tt
le_bytes-are (suc n) x = (omega arith, le_bytes-are n (x / 256))

le_bytes-length : (n x : ℕ) → length (le_bytes n x) ≡ n
le_bytes-length zero x = refl
le_bytes-length (suc n) x = ap suc (le_bytes-length n (x / 256))

le_number-below : (bs : List ℕ) → AreBytes bs → le_number bs < 256 ^ length bs
le_number-below [] are = omega arith
le_number-below (b ∷ bs) are = omega (arith, are.0, le_number-below bs are.1, pow-succ' 256 (length bs))

lowest-below : (width value : ℕ) → lowest width value < 256 ^ width
lowest-below width value =
    let P : ℕ → Type 0 = λ n. lowest width value < 256 ^ n in
    subst P (le_bytes-length width value) (le_number-below (le_bytes width value) (le_bytes-are width value))

-- ---- what instructions ask for

-- what an instruction asks for has a width that there is; a store has bytes, of a `put` at most 4,096
abbrev pub IsAsked : Want → Type 0
IsAsked (want.Load addr width reg) = is_width width ≡ true
IsAsked (want.Store addr bytes true) = is_put bytes ≡ true
IsAsked (want.Store addr bytes false) = (is_width (length bytes) ≡ true) × AreBytes bytes
IsAsked (want.In width port reg) = is_port_width width ≡ true
IsAsked (want.Out width port value) = (is_port_width width ≡ true) × (value < 256 ^ width)
IsAsked _ = Unit {0}

stored : (width value : ℕ) → is_width width ≡ true → (is_width (length (le_bytes width value)) ≡ true) × AreBytes (le_bytes width value)
stored width value h =
    let P : ℕ → Type 0 = λ n. is_width n ≡ true in
    (subst P (sym (le_bytes-length width value)) h, le_bytes-are width value)

first-of : (a b : Bool) → (a && b) ≡ true → a ≡ true
first-of true b e = refl
first-of false b e = cc

second-of : (a b : Bool) → (a && b) ≡ true → b ≡ true
second-of true b e = e
second-of false b e = cc

first-of-four : (a b c d : Bool) → (a && b && c && d) ≡ true → a ≡ true
first-of-four true b c d e = refl
first-of-four false b c d e = cc

asked : (script : List Line) (l : Line) (cpu : CpuNote) → is_instruction l ≡ true → IsAsked (instruction script l cpu).1
asked script (line.At name) cpu good = tt
asked script (line.Set rd value) cpu good = tt
asked script (line.Mov rd ra) cpu good = tt
asked script (line.Math o rd ra rb) cpu good = tt
asked script (line.Ld width rd ra offset) cpu good = first-of-four (is_width width) (is_register rd) (is_register ra) (nat_lt offset (2 ^ 64)) good
asked script (line.St width rs ra offset) cpu good = stored width (register cpu rs) (first-of-four (is_width width) (is_register rs) (is_register ra) (nat_lt offset (2 ^ 64)) good)
asked script (line.Put ra bytes) cpu good = second-of (is_register ra) (is_put bytes) (first-of (is_register ra && is_put bytes) (list_all (λ b. nat_lt b 256) bytes) good)
asked script (line.In width rd port) cpu good = first-of (is_port_width width) (is_register rd) (first-of (is_port_width width && is_register rd) (is_port port) good)
asked script (line.Out width rs port) cpu good = (first-of (is_port_width width) (is_register rs) (first-of (is_port_width width && is_register rs) (is_port port) good), lowest-below width (register cpu rs))
asked script (line.Jmp to) cpu good = tt
asked script (line.Jz ra to) cpu good = tt
asked script (line.Jnz ra to) cpu good = tt
asked script (line.Jlt ra rb to) cpu good = tt
asked script line.Halt cpu good = tt

-- what is asked for has its width
asked-width : (w : Want) → IsAsked w → has_width w ≡ true
asked-width (want.Load addr width reg) good = good
asked-width (want.Store addr bytes put) good = refl
asked-width (want.In width port reg) good = good
asked-width (want.Out width port value) good = refl
asked-width want.Nothing good = refl
asked-width want.Halted good = refl

-- ---- what is made of it

some-values : (width : ℕ) → 0 < 256 ^ width
some-values zero = omega arith
some-values (suc width) = omega (arith, some-values width, pow-succ' 256 width)

ones-fit : (width : ℕ) → 256 ^ width - 1 < 256 ^ width
ones-fit width = omega (arith, some-values width)

load-made : (addr width reg : ℕ) (at : Place) → is_width width ≡ true → IsInLimits addr width at → CanBeMade (want.Load addr width reg) (piece_of (want.Load addr width reg) (load_route at addr width))
load-made addr width reg (place.Ram zone block offset) good within = search rules
load-made addr width reg (place.Bar slot offset) good within = (good, within)
load-made addr width reg place.Hole good within = ones-fit width
load-made addr width reg place.Crosses good within = tt

window-made : (addr : ℕ) (bytes : List ℕ) → is_width (length bytes) ≡ true → AreBytes bytes → LiesInWindow addr (length bytes) → CanBeMade (want.Store addr bytes false) (piece_of (want.Store addr bytes false) (window_route addr (length bytes) (le_field bytes 0 (length bytes))))
window-made addr bytes good are within =
    let fits : (is_width (length bytes) && nat_le (0 + length bytes) (length bytes)) ≡ true = grind (arith, nat_tests) in
    let whole : le_field bytes 0 (length bytes) ≡ Some (le_number bytes) = rw fits (ap (λ bs. Some (le_number bs)) (take_all (length bytes) bytes (omega arith))) in
    rw whole (good, le_number-below bytes are, within)

store-made : (addr : ℕ) (bytes : List ℕ) (at : Place) → is_width (length bytes) ≡ true → AreBytes bytes → IsInLimits addr (length bytes) at → CanBeMade (want.Store addr bytes false) (piece_of (want.Store addr bytes false) (store_route at addr bytes))
store-made addr bytes (place.Ram zone block offset) good are within = let few : length bytes ≤ 8 = grind (arith, nat_tests) in search rules
store-made addr bytes (place.Bar slot offset) good are within = window-made addr bytes good are within
store-made addr bytes place.Hole good are within = tt
store-made addr bytes place.Crosses good are within = tt

put-made : (addr : ℕ) (bytes : List ℕ) (at : Place) → is_put bytes ≡ true → IsInLimits addr (length bytes) at → CanBeMade (want.Store addr bytes true) (piece_of (want.Store addr bytes true) (put_route at))
put-made addr bytes (place.Ram zone block offset) good within = let few : length bytes ≤ 4096 = grind (arith, nat_tests) in search rules
put-made addr bytes (place.Bar slot offset) good within = tt
put-made addr bytes place.Hole good within = tt
put-made addr bytes place.Crosses good within = tt

made : (zones : List ZoneConfig) (w : Want) → is_within_limits zones ≡ true → IsAsked w → is_asking w ≡ true → CanBeMade w (piece_of w (route_of (map_of zones) w))
made zones (want.Load addr width reg) within good asks = load-made addr width reg (place_of (map_of zones) addr width) good (place-in_limits zones addr width within)
made zones (want.Store addr bytes false) within good asks = store-made addr bytes (place_of (map_of zones) addr (length bytes)) good.0 good.1 (place-in_limits zones addr (length bytes) within)
made zones (want.Store addr bytes true) within good asks = put-made addr bytes (place_of (map_of zones) addr (length bytes)) good (place-in_limits zones addr (length bytes) within)
made zones (want.In width port reg) within good asks = good
made zones (want.Out width port value) within good asks = good
made zones want.Nothing within good asks = cc
made zones want.Halted within good asks = cc

-- ---- the next instruction

at : (script : List Line) (cpu : CpuNote) → CanBeRun script → (o : Option Line) → slice_get script cpu.pos ≡ o → IsAsked (step_at script o cpu).1
at script cpu run None e = tt
at script cpu run (Some l) e = asked script l cpu (line_is_instruction script cpu.pos l run.instructions e)

pub pieces_made : PiecesCanBeMade
pieces_made zones script cpu within run can asks =
    let good = at script cpu run (slice_get script cpu.pos) refl in
    (asked-width (step_of script cpu).1 good, made zones (step_of script cpu).1 within good asks)
