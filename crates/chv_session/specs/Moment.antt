-- What the caller of `next` sees of a session and of what it works at.
use Rattle.std.specs.Prelude.{ℕ, List, Option}
use Rattle.chv_defs_api.specs.declared.control.ControlCall.{ControlCall}
use Rattle.chv_defs_api.specs.Desks.{Answer}
use Rattle.chv_session.specs.Talk.{Talk}

-- A session; the calls that its caller has made, and the last one that was answered Stopped, where one was; what was put
-- into its connection, where that is told, and the connection's counts of failed reads and of failed writes.
pub record Moment : Type 0 where
  pub talk : Talk
  pub answers : List Answer
  pub refused : Option ControlCall
  pub put : Option (List ℕ)
  pub reads : ℕ
  pub writes : ℕ

-- these together
abbrev pub moment : Talk → List Answer → Option ControlCall → Option (List ℕ) → ℕ → ℕ → Moment
moment talk answers refused put reads writes =
    record { talk = talk; answers = answers; refused = refused; put = put; reads = reads; writes = writes }

-- The two counts of a connection's faults, before a call and after it.
pub record Faults : Type 0 where
  pub reads : ℕ
  pub reads_after : ℕ
  pub writes : ℕ
  pub writes_after : ℕ

-- these together
abbrev pub faults : ℕ → ℕ → ℕ → ℕ → Faults
faults reads reads_after writes writes_after =
    record { reads = reads; reads_after = reads_after; writes = writes; writes_after = writes_after }
