-- One entry of the control book: who may make the call, what it is answered, and what it leaves.
use Rattle.std.specs.Prelude.{◌≡◌, ℕ, List, true, false}
use Rattle.chv_defs_control.specs.declared.machine.Machine.{Machine}
use Rattle.chv_defs_api.specs.declared.shelf.OnShelf.{OnShelf}
use Rattle.chv_defs_api.specs.declared.control.ControlCall.{ControlCall}
use Rattle.chv_defs_api.specs.declared.control.ControlCall.TheVariants as call
use Rattle.chv_defs_api.specs.declared.control.ControlEntry.{ControlEntry}
use Rattle.chv_defs_api.specs.Desks.{IsSession}
use Rattle.chv_defs_api.specs.Desks.{is_session_call}
use Rattle.chv_defs_control.specs.ApiStep.{reply_to, after}

-- Any caller may stop the run where no Stop stands yet. Sessions make the calls of the API and their Bye, in any state. (A
-- Settle comes behind an answer Holding, which no call has so far.)
abbrev pub MayCall : Machine → ℕ → ControlCall → Type 0
MayCall m caller call.Stop = m.stopped ≡ false
MayCall m caller c = IsSession caller × (is_session_call c ≡ true)

-- From the old state the entry's caller may make its call, which is answered so where these disks stand by, and leaves the
-- new state.
pub record Step (shelf : List OnShelf) (old : Machine) (entry : ControlEntry) (new : Machine) : Type 0 where
  pub may : MayCall old entry.caller entry.call
  pub replied : entry.reply ≡ reply_to shelf old entry.call
  pub left : new ≡ after old entry.caller entry.call entry.reply
