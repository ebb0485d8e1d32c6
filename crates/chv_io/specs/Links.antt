-- What a connection means besides what it has left and what was put into it: the bytes that it gave and the most that
-- one read gives, each told or not, and whether it was closed.
use Rattle.std.specs.Prelude.{◌≡◌, ◌≤◌, ℕ, ◌++◌, min, ⊤, List, [], length, take, Bool, false, Option, None, Some, IfSome, Result, Ok, Err, OnOk}

-- A read adds its bytes to those that were given, and a failed one adds none. No call changes whether it is told.
abbrev pub Gives : {E : Type 0} → Option (List ℕ) → Option (List ℕ) → List ℕ → Result ℕ E → Type 0
Gives None after buffer result = after ≡ None
Gives (Some before) None buffer result = ⊥
Gives (Some before) (Some after) buffer (Ok n) = after ≡ before ++ take n buffer
Gives (Some before) (Some after) buffer (Err _) = after ≡ before

-- What a read leaves of a connection: what was put, whether it is closed, and a count of write faults that does not
-- fall. An answered read leaves that count too, as `KeepsOther` says.
pub record ReadLeaves (put put_after : Option (List ℕ)) (closed closed_after : Bool) (faults faults_after : ℕ) : Type 0 where
  pub put_stays : put_after ≡ put
  pub closed_stays : closed_after ≡ closed
  pub later : faults ≤ faults_after

-- What a write leaves of a connection: what is left to read, what was given, whether it is closed, and a count of read
-- faults that does not fall.
pub record WriteLeaves (left left_after given given_after : Option (List ℕ)) (closed closed_after : Bool) (faults faults_after : ℕ) : Type 0 where
  pub left_stays : left_after ≡ left
  pub given_stays : given_after ≡ given
  pub closed_stays : closed_after ≡ closed
  pub later : faults ≤ faults_after

-- An answered call of the one kind leaves the count of faults of the other kind as it was.
abbrev pub KeepsOther : {T E : Type 0} → ℕ → ℕ → Result T E → Type 0
KeepsOther before now result = OnOk result (now ≡ before)

-- A connection that tells what it has left, and the most that one of its reads gives, gives in a read as much as fits.
abbrev pub GivesMost : {E : Type 0} → Option (List ℕ) → Option ℕ → ℕ → Result ℕ E → Type 0
GivesMost (Some left) (Some most) room (Ok n) = n ≡ min (min most room) (length left)
GivesMost _ _ room _ = ⊤

-- What a read into a buffer of so many bytes has to do with the most that a read gives, which no call changes.
pub record Fills {E : Type 0} (left : Option (List ℕ)) (most most_after : Option ℕ) (room : ℕ) (result : Result ℕ E) : Type 0 where
  pub most_stays : most_after ≡ most
  pub full : GivesMost left most room result

-- A connection that was just accepted gave nothing, nothing was put into it, and it is not closed.
pub record IsNew (given put : Option (List ℕ)) (closed : Bool) : Type 0 where
  pub gave_nothing : IfSome given (λ bytes. bytes ≡ [])
  pub nothing_put : IfSome put (λ bytes. bytes ≡ [])
  pub not_closed : closed ≡ false
