-- Where an access of an instruction goes, by the place of all of its bytes; and the piece of a slice that one instruction is: at
-- most one entry, in one bank or in the control book. Windows of devices and ports are the control machine's.
use Rattle.std.specs.Prelude.{ℕ, ◌%◌, ◌-◌, ◌^◌, true, false, List, length, Option, None, Some}
use Rattle.chv_defs_base.specs.Numbers.{le_field}
use Rattle.chv_defs_api.specs.declared.register.RegAccess.{RegAccess}
use Rattle.chv_defs_api.specs.declared.register.RegAccess.TheVariants as access
use Rattle.chv_defs_memory.specs.declared.bank.BankCall.{BankCall}
use Rattle.chv_defs_memory.specs.declared.bank.BankCall.TheVariants as call
use Rattle.chv_defs_memory.specs.BankState.{banks}
use Rattle.chv_addr.specs.declared.place.Place.{Place}
use Rattle.chv_addr.specs.declared.place.Place.TheVariants as place
use Rattle.chv_addr.specs.AddressMap.{AddressMap, place_of}
use Rattle.chv_defs_guest.specs.declared.want.Want.{Want}
use Rattle.chv_defs_guest.specs.declared.want.Want.TheVariants as want
use Rattle.chv_defs_guest.specs.declared.want.Got.{Got}
use Rattle.chv_defs_guest.specs.declared.want.Got.TheVariants as got
use Rattle.chv_defs_guest.specs.declared.route.Route.{Route}
use Rattle.chv_defs_guest.specs.declared.route.Route.TheVariants as route

-- ---- where an access goes

-- a load of so many bytes at an address, by their place
abbrev pub load_route : Place → ℕ → ℕ → Route
load_route (place.Ram zone block offset) addr width = route.Ram zone block offset
load_route (place.Bar slot offset) addr width = route.Control (access.MmioRead width addr)
load_route place.Hole addr width = route.Ones
load_route place.Crosses addr width = route.Bad

-- a write of a number to a window; bytes that are no field of 1, 2, 4 or 8 bytes are none
abbrev pub window_route : ℕ → ℕ → Option ℕ → Route
window_route addr width None = route.Bad
window_route addr width (Some value) = route.Control (access.MmioWrite width addr value)

-- the store of an `st`, by the place of its bytes
abbrev pub store_route : Place → ℕ → List ℕ → Route
store_route (place.Ram zone block offset) addr bytes = route.Ram zone block offset
store_route (place.Bar slot offset) addr bytes = window_route addr (length bytes) (le_field bytes 0 (length bytes))
store_route place.Hole addr bytes = route.Drop
store_route place.Crosses addr bytes = route.Bad

-- a `put`, which goes to memory or nowhere
abbrev pub put_route : Place → Route
put_route (place.Ram zone block offset) = route.Ram zone block offset
put_route _ = route.Bad

-- Where what an instruction asks for goes. (An instruction that asks for nothing has no access.)
abbrev pub route_of : AddressMap → Want → Route
route_of map (want.Load addr width reg) = load_route (place_of map addr width) addr width
route_of map (want.Store addr bytes false) = store_route (place_of map addr (length bytes)) addr bytes
route_of map (want.Store addr bytes true) = put_route (place_of map addr (length bytes))
route_of map (want.In width port reg) = route.Control (access.In width port)
route_of map (want.Out width port value) = route.Control (access.Out width port value)
route_of map want.Nothing = route.Bad
route_of map want.Halted = route.Bad

-- ---- the piece of a slice that one instruction is

-- What an access makes: an entry in a bank, an entry in the control book, or none, and then its answer is known.
pub data Piece : Type 0 where
  InBank : (zone bank : ℕ) → (made : BankCall) → Piece
  InControl : (made : RegAccess) → Piece
  Known : (answer : Got) → Piece

-- the call in the bank of a block: a Read for a load, a Write for a store (no other want goes to memory)
abbrev pub bank_call_of : Want → ℕ → ℕ → BankCall
bank_call_of (want.Store addr bytes put) block offset = call.Write block offset bytes
bank_call_of (want.Load addr width reg) block offset = call.Read block offset width
bank_call_of _ block offset = call.Read block offset 0

-- how many bytes a load has, and else none
abbrev pub width_of : Want → ℕ
width_of (want.Load addr width reg) = width
width_of _ = 0

-- The piece of an access that goes there. A load where nothing is gives all ones of its width.
abbrev pub piece_of : Want → Route → Piece
piece_of w (route.Ram zone block offset) = InBank zone (block % banks) (bank_call_of w block offset)
piece_of w (route.Control made) = InControl made
piece_of w route.Ones = Known (got.Value (256 ^ width_of w - 1))
piece_of w route.Drop = Known got.Done
piece_of w route.Bad = Known got.Fault
