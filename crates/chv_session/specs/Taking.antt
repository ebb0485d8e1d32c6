-- What a session takes of its connection.
use Rattle.std.specs.Prelude.{◌≡◌, ◌≤◌, ◌+◌, ℕ, List, [], ◌++◌, length, Option, None, Some, Result, IfOk, IfSome, OnErr, ⊤}
use Rattle.std.specs.List.{concat}
use Rattle.chv_io.specs.Outside.{Gains, Loses, Rose}
use Rattle.chv_defs_api.specs.SessionBytes.{AreTaken, AreGiven}

-- What a session takes bytes with: all that it has asked, and the rest of that which is not answered; what its connection
-- has left, and what it gave, each told or not; the most that one read gives, where that is told; and the count of failed
-- reads.
pub record Intake : Type 0 where
  pub asked : List ℕ
  pub rest : List ℕ
  pub left : Option (List ℕ)
  pub gave : Option (List ℕ)
  pub most : Option ℕ
  pub reads : ℕ

-- these together
abbrev pub intake : List ℕ → List ℕ → Option (List ℕ) → Option (List ℕ) → Option ℕ → ℕ → Intake
intake asked rest left gave most reads =
    record { asked = asked; rest = rest; left = left; gave = gave; most = most; reads = reads }

-- The pieces are those that the connection gives, where it tells what it has left and the most that one read gives.
abbrev pub AreGivenWhereTold : Option ℕ → Option (List ℕ) → ℕ → List (List ℕ) → Type 0
AreGivenWhereTold (Some most) (Some left) count pieces = AreGiven most left count pieces
AreGivenWhereTold (Some most) None count pieces = ⊤
AreGivenWhereTold None left count pieces = ⊤

-- What a session has asked, of which a rest was not answered, grew by pieces that it was to take, and that the
-- connection gave and lost.
pub record TakesPieces (before after : Intake) : Type 0 where
  pub pieces : List (List ℕ)
  pub grows : after.asked ≡ before.asked ++ concat pieces
  pub taken : AreTaken (length before.asked) before.rest pieces
  pub given : AreGivenWhereTold before.most before.left (length before.asked) pieces
  pub loses : Loses before.left after.left (concat pieces)
  pub gains : Gains before.gave after.gave (concat pieces)

-- The same bytes were added to what was asked and to what is not answered.
abbrev pub HasFed : List ℕ → List ℕ → List ℕ → List ℕ → Type 0
HasFed asked asked_after rest rest_after = (more : List ℕ) × (asked_after ≡ asked ++ more) × (rest_after ≡ rest ++ more)

-- Neither changed.
abbrev pub IsSame : List ℕ → List ℕ → List ℕ → List ℕ → Type 0
IsSame asked asked_after rest rest_after = (asked_after ≡ asked) × (rest_after ≡ rest)

-- One piece was asked for. What was asked has it, whatever the answer. A count of bytes says how many came, and a read of
-- none, or one that failed, changed neither what was asked nor the rest: the one is answered only where nothing is left,
-- the other only where the count of failed reads rose.
pub record TakesPiece {E F : Type 0} (result : Result (Result ℕ F) E) (before after : Intake) : Type 0 where
  pub pieces : TakesPieces before after
  pub fed : IfOk result (λ _. HasFed before.asked after.asked before.rest after.rest)
  pub count : IfOk result (λ answer. IfOk answer (λ n. length after.asked ≡ length before.asked + n))
  pub empty : IfOk result (λ answer. IfOk answer (λ n. n ≡ 0 → IsSame before.asked after.asked before.rest after.rest))
  pub failed : IfOk result (λ answer. OnErr answer (IsSame before.asked after.asked before.rest after.rest))
  pub drained : IfOk result (λ answer. IfOk answer (λ n. n ≡ 0 → IfSome after.left (λ bytes. bytes ≡ [])))
  pub cause : IfOk result (λ answer. OnErr answer (Rose before.reads after.reads))
  pub most_stays : after.most ≡ before.most
  pub later : before.reads ≤ after.reads
