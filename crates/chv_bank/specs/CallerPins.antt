-- How the outstanding pins are kept: those of each caller in a row of their own.
use Rattle.std.specs.Prelude.{◌≡◌, ℕ, ◌+◌, ◌≤◌, ◌==◌, ◌&&◌, Bool, not, nat_lt, if◌then◌else◌, List, [], ◌∷◌, ◌++◌, length, filter, find, unwrap_or}
use Rattle.std.specs.List.{list_any}
use Rattle.std.specs.Option.{option_map}
use Rattle.chv_defs_memory.specs.BankState.{PinOut, pins_block}

-- a caller, and its outstanding pins in the order in which they were made
pub record CallerPins : Type 0 where
  pub caller : ℕ
  pub pins : List PinOut

-- rows ascend by caller, from a number on: a caller has at most one
abbrev pub AreRows : ℕ → List CallerPins → Type 0
AreRows low [] = Unit {0}
AreRows low (row ∷ rows) = (low ≤ row.caller) × AreRows (row.caller + 1) rows

-- the pins that are kept of a caller
abbrev pub pins_by : List CallerPins → ℕ → List PinOut
pins_by [] caller = []
pins_by (row ∷ rows) caller = if row.caller == caller then row.pins else pins_by rows caller

-- how many pins are kept
abbrev pub total : List CallerPins → ℕ
total [] = 0
total (row ∷ rows) = length row.pins + total rows

-- The rows hold these pins and no others: each caller's are its own ones among them, in their order.
pub record HoldPins (rows : List CallerPins) (pins : List PinOut) : Type 0 where
  pub ascend : AreRows 0 rows
  pub of_each : (caller : ℕ) → pins_by rows caller ≡ filter (λ (pin : PinOut). caller == pin.caller) pins
  pub counted : total rows ≡ length pins

-- ---- changes

-- with one more pin, the last one of its caller
abbrev pub with_pin : List CallerPins → PinOut → List CallerPins
with_pin [] pin = record { caller = pin.caller; pins = pin ∷ [] } ∷ []
with_pin (row ∷ rows) pin =
    if nat_lt row.caller pin.caller then row ∷ with_pin rows pin
    else (if row.caller == pin.caller then record { caller = row.caller; pins = row.pins ++ pin ∷ [] } ∷ rows else record { caller = pin.caller; pins = pin ∷ [] } ∷ row ∷ rows)

-- whether a pin is another one than the caller's of a number
abbrev pub is_other : ℕ → ℕ → PinOut → Bool
is_other caller number pin = not ((caller == pin.caller) && (number == pin.number))

-- without the caller's pin of a number
abbrev pub without_pin : List CallerPins → ℕ → ℕ → List CallerPins
without_pin [] caller number = []
without_pin (row ∷ rows) caller number =
    if row.caller == caller then record { caller = row.caller; pins = filter (is_other caller number) row.pins } ∷ rows else row ∷ without_pin rows caller number

-- ---- blocks

-- whether a row has a pin that pins a block of the bank
abbrev pub has_pinned : ℕ → ℕ → CallerPins → Bool
has_pinned bank block row = list_any (pins_block bank block) row.pins

-- the caller of the first row that has one, 0 where none has
abbrev pub first_pinner : ℕ → List CallerPins → ℕ → ℕ
first_pinner bank rows block = unwrap_or (option_map (λ (row : CallerPins). row.caller) (find (has_pinned bank block) rows)) 0
