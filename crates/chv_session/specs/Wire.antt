-- What a session does to its connection besides taking and putting.
use Rattle.std.specs.Prelude.{◌≡◌, ◌<◌, ◌⊎◌, ℕ, Bool, true, List, [], ◌++◌, length, Option, IfSome}
use Rattle.chv_defs_api.specs.declared.session.SessionEnd.TheVariants as end
use Rattle.chv_io.specs.Outside.{Rose}
use Rattle.chv_defs_api.specs.Requests.{IsShort}
use Rattle.chv_defs_api.specs.SessionBytes.{session_limit}
use Rattle.chv_session.specs.declared.next.Next.{Next}
use Rattle.chv_session.specs.declared.next.Next.TheVariants as next
use Rattle.chv_session.specs.Taking.{Intake}

-- What a connection tells besides whether it is closed: what it has left, what it gave, and what was put into it, each told
-- or not; the most that one read gives, where that is told; and its counts of failed reads and of failed writes.
pub record Wire : Type 0 where
  pub left : Option (List ℕ)
  pub gave : Option (List ℕ)
  pub put : Option (List ℕ)
  pub most : Option ℕ
  pub reads : ℕ
  pub writes : ℕ

-- these together
abbrev pub wire : Option (List ℕ) → Option (List ℕ) → Option (List ℕ) → Option ℕ → ℕ → ℕ → Wire
wire left gave put most reads writes =
    record { left = left; gave = gave; put = put; most = most; reads = reads; writes = writes }

-- A connection is closed at an end, and else stays as it was.
abbrev pub Closes : Next → Bool → Bool → Type 0
Closes next.Answered before after = after ≡ before
Closes (next.Ended how) before after = after ≡ true

-- All that a connection tells stays, but whether it is closed.
pub record StaysButClosed (before after : Wire) : Type 0 where
  pub left_stays : after.left ≡ before.left
  pub gave_stays : after.gave ≡ before.gave
  pub put_stays : after.put ≡ before.put
  pub most_stays : after.most ≡ before.most
  pub read_stays : after.reads ≡ before.reads
  pub written_stays : after.writes ≡ before.writes

-- A read failed, and so the session ended, or the run stopped at that end.
abbrev pub HasReadFault : Next → ℕ → ℕ → Type 0
HasReadFault (next.Ended end.Fault) reads reads_after = Rose reads reads_after
HasReadFault (next.Ended end.Stopped) reads reads_after = Rose reads reads_after
HasReadFault _ reads reads_after = ⊥

-- A session that has neither a whole request nor a refusal at hand, below the limit, has nothing left, where that is told; or
-- a read failed. That is so at an end, and where the run stopped at one.
abbrev pub Drains : Next → Intake → Intake → Type 0
Drains what before after =
    (more : List ℕ) → after.asked ≡ before.asked ++ more → IsShort (before.rest ++ more) → length after.asked < session_limit
    → IfSome after.left (λ bytes. bytes ≡ []) ⊎ HasReadFault what before.reads after.reads
