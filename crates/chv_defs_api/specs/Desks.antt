-- A desk, at which one caller asks the control machine: which calls it may make there, of which kinds their answers are,
-- and what it means that nothing but asking was done at a desk. The caller is a session, or it has taken a context. Callers and
-- their numbers are this project's own.
use Rattle.std.specs.Prelude.{◌≤◌, ◌≡◌, ℕ, Bool, true, false, List, [], ◌∷◌, Option, Some}
use Rattle.chv_defs_api.specs.declared.control.ControlCall.{ControlCall}
use Rattle.chv_defs_api.specs.declared.control.ControlCall.TheVariants as call
use Rattle.chv_defs_api.specs.declared.control.ControlReply.{ControlReply}
use Rattle.chv_defs_api.specs.declared.control.ControlReply.TheVariants as reply
use Rattle.chv_defs_api.specs.Registers.{is_reply_to, IsRegAccess}

-- The callers 1 to 16 are sessions.
abbrev pub IsSession : ℕ → Type 0
IsSession caller = (1 ≤ caller) × (caller ≤ 16)

-- A call that was made, with its answer.
pub record Answer : Type 0 where
  pub call : ControlCall
  pub reply : ControlReply

-- a call that a session makes unasked: one of the API, or its Bye
abbrev pub is_session_call : ControlCall → Bool
is_session_call call.Settle = false
is_session_call (call.Take role) = false
is_session_call (call.Hand note) = false
is_session_call (call.Reg context access) = false
is_session_call (call.Mem slot request) = false
is_session_call call.Stop = false
is_session_call _ = true

-- an answer that says that the goal is not reached yet
abbrev pub is_holding : ControlReply → Bool
is_holding reply.Holding = true
is_holding _ = false

-- the last of the answers is Holding, so that the caller has to settle
abbrev pub is_held : List Answer → Bool
is_held [] = false
is_held (a ∷ []) = is_holding a.reply
is_held (a ∷ b ∷ more) = is_held (b ∷ more)

-- A session may make the calls of the API and its Bye, and behind an answer Holding its Settle. A caller with whom a context is
-- out may make register accesses with the context's number.
abbrev pub MayAsk : ℕ → Option ℕ → List Answer → ControlCall → Type 0
MayAsk caller context answers call.Settle = IsSession caller × (is_held answers ≡ true)
MayAsk caller context answers (call.Reg number access) = (context ≡ Some number) × IsRegAccess access
MayAsk caller context answers c = IsSession caller × (is_session_call c ≡ true)

-- Whether an answer is of a kind that a call of a session can have (which rule refuses it is not said here), or one that a
-- register access can have.
abbrev pub can_have : ControlCall → ControlReply → Bool
can_have call.Ping reply.Done = true
can_have call.Ping _ = false
can_have call.Settle reply.Done = true
can_have call.Settle _ = false
can_have call.Bye reply.Done = true
can_have call.Bye _ = false
can_have (call.Reg context access) answer = is_reply_to access answer
can_have _ (reply.Ruled rule) = true
can_have call.Info (reply.Shown info) = true
can_have call.Info _ = false
can_have call.Counters (reply.Counted counts) = true
can_have call.Counters _ = false
can_have (call.Restore name) (reply.Restored image) = true
can_have (call.Restore name) _ = false
can_have (call.AddDisk disk) (reply.Added id slot) = true
can_have (call.Begin goal) reply.Holding = true
can_have c reply.Done = is_session_call c
can_have _ _ = false

-- These calls were asked at a desk, one after another, and nothing else was done to it; `asks` says what holds between the
-- desk before a call and the desk behind it.
abbrev pub AreAsked : {A : Type 0} → (A → ControlCall → A → Type 0) → A → List ControlCall → A → Type 0
AreAsked asks before [] after = after ≡ before
AreAsked {A} asks before (c ∷ calls) after = (between : A) × asks before c between × AreAsked asks between calls after

-- Nothing was done to a desk but that calls were asked there.
abbrev pub IsOnlyAsked : {A : Type 0} → (A → ControlCall → A → Type 0) → A → A → Type 0
IsOnlyAsked asks before after = (calls : List ControlCall) × AreAsked asks before calls after
