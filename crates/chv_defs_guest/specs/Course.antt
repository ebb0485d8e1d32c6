-- What a slice of a context is: the calls that it makes in banks and at the control machine, each with what it comes to, until
-- the slice ends. What a context does from a moment on is its course: it goes on by what its calls come to, so that a refusal
-- and want of memory have a continuation like a reply.
use Rattle.std.specs.Prelude.{◌≡◌, ◌==◌, ◌&&◌, ℕ, List, [], ◌∷◌, flat_map, Option, None, Some, Result, Ok, Err, if◌then◌else◌}
use Rattle.std.specs.declared.alloc.AllocError.{AllocError}
use Rattle.chv_defs_base.specs.declared.book.BookId.{BookId}
use Rattle.chv_defs_base.specs.declared.book.BookId.TheVariants as book
use Rattle.chv_defs_api.specs.declared.context.SliceEnd.{SliceEnd}
use Rattle.chv_defs_api.specs.declared.context.StopCause.{StopCause}
use Rattle.chv_defs_api.specs.declared.context.StopCause.TheVariants as cause
use Rattle.chv_defs_api.specs.declared.control.ControlCall.{ControlCall}
use Rattle.chv_defs_api.specs.declared.control.ControlReply.{ControlReply}
use Rattle.chv_defs_api.specs.declared.desk.Stopped.{Stopped}
use Rattle.chv_defs_api.specs.Desks.{Answer}
use Rattle.chv_defs_memory.specs.declared.bank.BankCall.{BankCall}
use Rattle.chv_defs_memory.specs.declared.bank.BankEntry.{BankEntry}
use Rattle.chv_defs_memory.specs.declared.bank.Refusal.TheVariants as refusal
use Rattle.chv_defs_memory.specs.BankState.{later}
use Rattle.chv_defs_memory.specs.Lending.{Access}

-- What a call at the control machine comes to: a reply, or that the run stops, or want of memory. (What one in a bank comes to is
-- an `Access`.)
abbrev pub Outcome : Type 0
Outcome = Result (Result ControlReply Stopped) AllocError

-- What a context does from a moment on: its slice ends, with this note; or it makes an access in a bank, or asks the control
-- machine, and goes on by what that comes to.
pub data Course (N : Type 0) : Type 0 where
  Ends : (note : N) → (how : SliceEnd) → Course N
  Accesses : (zone bank : ℕ) → (call : BankCall) → (next : Access → Course N) → Course N
  Asks : (call : ControlCall) → (next : Outcome → Course N) → Course N

-- A call that was made, and what it came to.
pub data Exchange : Type 0 where
  Accessed : (zone bank : ℕ) → (call : BankCall) → (answer : Access) → Exchange
  Asked : (call : ControlCall) → (answer : Outcome) → Exchange

-- By a course these exchanges are made, one after another, and then the last course is left.
abbrev pub Leads : {N : Type 0} → Course N → List Exchange → Course N → Type 0
Leads course [] rest = course ≡ rest
Leads (Accesses zone bank call next) (Accessed z b c answer ∷ es) rest = (z ≡ zone) × (b ≡ bank) × (c ≡ call) × Leads (next answer) es rest
Leads (Asks call next) (Asked c answer ∷ es) rest = (c ≡ call) × Leads (next answer) es rest
Leads _ _ rest = ⊥

-- These exchanges are a whole slice of a course, which ends so, with this note.
abbrev pub IsSlice : {N : Type 0} → Course N → List Exchange → N → SliceEnd → Type 0
IsSlice course exchanges note how = Leads course exchanges (Ends note how)

-- ---- the entries of exchanges

-- the entry of an access that was replied to; a refusal and want of memory make none
abbrev pub entry_by : ℕ → BankCall → Access → List BankEntry
entry_by caller call (Ok (Ok reply)) = record { caller = caller; call = call; reply = reply } ∷ []
entry_by caller call (Ok (Err why)) = []
entry_by caller call (Err wanting) = []

-- the entries that an exchange makes in a bank: one where it is an access there that was replied to
abbrev pub entry_in : ℕ → ℕ → ℕ → Exchange → List BankEntry
entry_in caller zone bank (Accessed z b call answer) = if zone == z && bank == b then entry_by caller call answer else []
entry_in caller zone bank (Asked call answer) = []

-- The entries that exchanges make in a bank, in order.
abbrev pub entries_in : ℕ → ℕ → ℕ → List Exchange → List BankEntry
entries_in caller zone bank exchanges = flat_map (entry_in caller zone bank) exchanges

-- the call of an exchange with its reply, where the control machine replied to it
abbrev pub answer_in : Exchange → List Answer
answer_in (Accessed zone bank call answer) = []
answer_in (Asked call (Ok (Ok reply))) = record { call = call; reply = reply } ∷ []
answer_in (Asked call (Ok (Err stopped))) = []
answer_in (Asked call (Err wanting)) = []

-- The calls of exchanges with their replies at the control machine, in order. Each is an entry of the control book.
abbrev pub answers_of : List Exchange → List Answer
answers_of exchanges = flat_map answer_in exchanges

-- a book, where what was done there was replied to
abbrev pub book_if : {A B C : Type 0} → BookId → Result (Result A B) C → List BookId
book_if id (Ok (Ok reply)) = id ∷ []
book_if id (Ok (Err why)) = []
book_if id (Err wanting) = []

-- the book of an exchange's entry
abbrev pub book_in : Exchange → List BookId
book_in (Accessed zone bank call answer) = book_if (book.Bank zone bank) answer
book_in (Asked call answer) = book_if book.Control answer

-- The books of the entries that exchanges make, in order.
abbrev pub books_of : List Exchange → List BookId
books_of exchanges = flat_map book_in exchanges

-- ---- what stood in the way

-- the call to which the control machine answered that the run stops
abbrev pub stopped_in : Exchange → Option ControlCall
stopped_in (Accessed zone bank call answer) = None
stopped_in (Asked call (Ok (Ok reply))) = None
stopped_in (Asked call (Ok (Err stopped))) = Some call
stopped_in (Asked call (Err wanting)) = None

-- The last call of exchanges to which the control machine answered that the run stops, where there is one.
abbrev pub last_stopped : List Exchange → Option ControlCall
last_stopped [] = None
last_stopped (e ∷ es) = later (stopped_in e) (last_stopped es)

-- why an access was refused, where its bank was full or memory was wanted
abbrev pub access_cause : Access → Option StopCause
access_cause (Ok (Ok reply)) = None
access_cause (Ok (Err (refusal.Sealed block seen))) = None
access_cause (Ok (Err (refusal.Frozen seen))) = None
access_cause (Ok (Err (refusal.Full full))) = Some (cause.Full full)
access_cause (Err wanting) = Some cause.Memory

-- whether memory was wanted at the control machine; why the run stops is told to whom it was told first
abbrev pub outcome_cause : Outcome → Option StopCause
outcome_cause (Ok (Ok reply)) = None
outcome_cause (Ok (Err stopped)) = None
outcome_cause (Err wanting) = Some cause.Memory

-- the cause of an exchange, for which the run stops
abbrev pub cause_in : Exchange → Option StopCause
cause_in (Accessed zone bank call answer) = access_cause answer
cause_in (Asked call answer) = outcome_cause answer

-- The last cause of exchanges for which the run stops, where there is one: a bank that was full, or want of memory.
abbrev pub cause_of : List Exchange → Option StopCause
cause_of [] = None
cause_of (e ∷ es) = later (cause_in e) (cause_of es)
