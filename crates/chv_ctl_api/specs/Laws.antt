-- What holds of every call of the API, whatever the machine.
use Rattle.std.specs.Prelude.{◌≡◌, ℕ, List, true}
use Rattle.chv_defs_control.specs.declared.machine.Machine.{Machine}
use Rattle.chv_defs_api.specs.declared.shelf.OnShelf.{OnShelf}
use Rattle.chv_defs_base.specs.declared.rule.Rule.{Rule}
use Rattle.chv_defs_api.specs.declared.control.ControlCall.{ControlCall}
use Rattle.chv_defs_api.specs.declared.control.ControlReply.TheVariants as reply
use Rattle.chv_defs_control.specs.Machine.{IsWellFormed}
use Rattle.chv_defs_control.specs.ApiStep.{after, reply_to}
use Rattle.chv_defs_control.specs.ControlStep.{MayCall}
use Rattle.chv_defs_api.specs.Desks.{can_have, is_session_call}

-- A call that is refused by rule leaves the state as it was.
abbrev pub RefusedLeaveTheState : Type 0
RefusedLeaveTheState = (m : Machine) (caller : ℕ) (c : ControlCall) (rule : Rule) → after m caller c (reply.Ruled rule) ≡ m

-- A call of a session is answered by a reply of a kind that it can have.
abbrev pub AnswersFit : Type 0
AnswersFit = (shelf : List OnShelf) (m : Machine) (c : ControlCall) → IsWellFormed m → is_session_call c ≡ true → can_have c (reply_to shelf m c) ≡ true

-- What a call leaves is well formed.
abbrev pub StatesStayWellFormed : Type 0
StatesStayWellFormed =
    (shelf : List OnShelf) (m : Machine) (caller : ℕ) (c : ControlCall) → IsWellFormed m → MayCall m caller c
    → IsWellFormed (after m caller c (reply_to shelf m c))
