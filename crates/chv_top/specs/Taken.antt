-- What was read of an input.
use Rattle.std.specs.Prelude.{◌≡◌, ◌≤◌, ◌<◌, ℕ, List, [], ◌++◌, length, Option, IfSome}
use Rattle.chv_io.specs.Outside.{Rose, Loses}
use Rattle.chv_top.specs.declared.input.InputError.{InputError}
use Rattle.chv_top.specs.declared.input.InputError.TheVariants.{Memory, ReadFault}

-- A piece of at most so many bytes was moved from the input behind the bytes. It is empty exactly where nothing is left.
pub record Took (left left_after : Option (List ℕ)) (bytes grown : List ℕ) (most count : ℕ) : Type 0 where
  pub piece : List ℕ
  pub count_is : length piece ≡ count
  pub within : count ≤ most
  pub grows : grown ≡ bytes ++ piece
  pub moved : Loses left left_after piece
  pub end : count ≡ 0 → IfSome left_after (λ rest. rest ≡ [])

-- These bytes were moved from the input, at most so many, and all of it where they are fewer.
pub record HasRead (left left_after : Option (List ℕ)) (bytes : List ℕ) (limit : ℕ) : Type 0 where
  pub moved : Loses left left_after bytes
  pub within : length bytes ≤ limit
  pub end : length bytes < limit → IfSome left_after (λ rest. rest ≡ [])

-- A fault of reading is told only where the count rose, and want of memory only where it did not.
abbrev pub FailsBy : ℕ → ℕ → InputError → Type 0
FailsBy before now Memory = now ≡ before
FailsBy before now ReadFault = Rose before now
