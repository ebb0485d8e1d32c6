-- The laws above slices: what the answers of a slice tell of it, how many calls it makes, and what its Hand, its order and a refusal
-- at a sealed block tell.
use Rattle.std.specs.Prelude.{◌≡◌, ◌≤◌, ⊤, ℕ, Bool, true, false, List, [], ◌∷◌, ◌++◌, length, map, Option, None, Some, Ok, Err, IfSome}
use Rattle.std.specs.List.{list_all}
use Rattle.chv_defs_base.specs.declared.book.BookId.TheVariants as book
use Rattle.chv_defs_api.specs.declared.context.ContextNote.TheVariants as context
use Rattle.chv_defs_api.specs.declared.context.CpuNote.{CpuNote}
use Rattle.chv_defs_api.specs.declared.context.SliceEnd.{SliceEnd}
use Rattle.chv_defs_api.specs.declared.context.SliceEnd.TheVariants as end
use Rattle.chv_defs_api.specs.declared.control.ControlCall.{ControlCall}
use Rattle.chv_defs_memory.specs.declared.bank.BankCall.{BankCall}
use Rattle.chv_defs_memory.specs.declared.bank.BankEntry.{BankEntry}
use Rattle.chv_defs_memory.specs.declared.bank.Refusal.TheVariants as refusal
use Rattle.chv_defs_memory.specs.LegalBank.{first_sealed, IsLegal}
use Rattle.chv_defs_memory.specs.Lending.{Access, GoesOnFor}
use Rattle.chv_defs_scene.specs.declared.scene.Line.{Line}
use Rattle.chv_addr.specs.AddressMap.{AddressMap}
use Rattle.chv_defs_guest.specs.Course.{Course, Ends, Accesses, Asks, Exchange, Accessed, Asked, IsSlice, Outcome, answers_of, books_of, entries_in}
use Rattle.chv_defs_guest.specs.Moments.{Makes, Moment, Turns}
use Rattle.chv_defs_guest.specs.Slices.{IsVcpuSlice}
use Rattle.chv_defs_guest.specs.VcpuCourse.{most_instructions, vcpu_course}

-- ---- what the answers tell

-- what a call came to, without the call
pub data Came : Type 0 where
  FromBank : (answer : Access) → Came
  FromControl : (answer : Outcome) → Came

-- what the call of an exchange came to
abbrev pub came_of : Exchange → Came
came_of (Accessed zone bank call answer) = FromBank answer
came_of (Asked call answer) = FromControl answer

-- A slice: its exchanges, its note and its end.
pub record Slice (N : Type 0) : Type 0 where
  pub exchanges : List Exchange
  pub note : N
  pub how : SliceEnd

-- a slice behind one more exchange, where there is one
abbrev pub behind : {N : Type 0} → Exchange → Option (Slice N) → Option (Slice N)
behind e None = None
behind e (Some s) = Some (record s { exchanges = e ∷ s.exchanges })

-- The slice that answers make of a course, where they are neither too few nor too many.
abbrev pub replayed : {N : Type 0} → Course N → List Came → Option (Slice N)
replayed (Ends note how) [] = Some (record { exchanges = []; note = note; how = how })
replayed (Accesses zone bank call next) (FromBank answer ∷ rest) = behind (Accessed zone bank call answer) (replayed (next answer) rest)
replayed (Asks call next) (FromControl answer ∷ rest) = behind (Asked call answer) (replayed (next answer) rest)
replayed _ _ = None

-- The law of answers: those of a vCPU's slice give its calls, its note and its end.
abbrev pub AnswersTell : Type 0
AnswersTell =
    (addresses : AddressMap) (script : List Line) (n : ℕ) (taken : CpuNote) (exchanges : List Exchange) (note : CpuNote) (how : SliceEnd)
    → IsSlice (vcpu_course addresses script n taken) exchanges note how
    → replayed (vcpu_course addresses script n taken) (map came_of exchanges) ≡ Some (record { exchanges = exchanges; note = note; how = how })

-- ---- in a world that determines each answer

-- What a world answers to a call, by the exchanges before it.
pub record World : Type 0 where
  pub access : List Exchange → ℕ → ℕ → BankCall → Access
  pub ask : List Exchange → ControlCall → Outcome

-- Each of these exchanges, which stand behind others, was answered as the world answers it.
abbrev pub AreAnswered : World → List Exchange → List Exchange → Type 0
AreAnswered world before [] = ⊤
AreAnswered world before (Accessed zone bank call answer ∷ es) =
    (answer ≡ world.access before zone bank call) × AreAnswered world (before ++ Accessed zone bank call answer ∷ []) es
AreAnswered world before (Asked call answer ∷ es) = (answer ≡ world.ask before call) × AreAnswered world (before ++ Asked call answer ∷ []) es

-- a course's slice, each of whose exchanges was answered as the world answers it
pub record IsSliceOf {N : Type 0} (world : World) (before : List Exchange) (course : Course N) (slice : Slice N) : Type 0 where
  pub is : IsSlice course slice.exchanges slice.note slice.how
  pub answered : AreAnswered world before slice.exchanges

-- The law of worlds: where the world determines each answer, a vCPU that was taken has exactly one slice.
abbrev pub WorldGivesOne : Type 0
WorldGivesOne =
    (world : World) (addresses : AddressMap) (script : List Line) (n : ℕ) (taken : CpuNote)
    → (slice : Slice CpuNote) × IsSliceOf world [] (vcpu_course addresses script n taken) slice
    × ((other : Slice CpuNote) → IsSliceOf world [] (vcpu_course addresses script n taken) other → other ≡ slice)

-- ---- how many calls

-- The law of calls: a slice of so many instructions makes at most as many calls.
abbrev pub FewCalls : Type 0
FewCalls =
    (addresses : AddressMap) (script : List Line) (n : ℕ) (taken : CpuNote) (exchanges : List Exchange) (note : CpuNote) (how : SliceEnd)
    → IsSlice (vcpu_course addresses script n taken) exchanges note how → length exchanges ≤ n

-- ---- what the Hand tells

-- whether a call was replied to, so that it made an entry
abbrev pub is_replied : Exchange → Bool
is_replied (Accessed zone bank call (Ok (Ok reply))) = true
is_replied (Asked call (Ok (Ok reply))) = true
is_replied _ = false

-- all of these calls were replied to
abbrev pub AreReplied : List Exchange → Type 0
AreReplied exchanges = list_all is_replied exchanges ≡ true

-- whether the run stops for what a call came to: it was refused, though not at a sealed block, or memory was wanted
abbrev pub is_stopping : Exchange → Bool
is_stopping (Accessed zone bank call (Ok (Ok reply))) = false
is_stopping (Accessed zone bank call (Ok (Err (refusal.Sealed block seen)))) = false
is_stopping (Asked call (Ok (Ok reply))) = false
is_stopping _ = true

-- The exchanges of a slice that ends so: where it is Full or Idle each was replied to; else each was but the last, which was refused
-- at the sealed block, in the bank and at the place that the end names, or for which the run stops.
abbrev pub EndSo : SliceEnd → List Exchange → Type 0
EndSo end.Full exchanges = AreReplied exchanges
EndSo end.Idle exchanges = AreReplied exchanges
EndSo (end.Sealed id block seen) exchanges =
    (before : List Exchange) × (zone : ℕ) × (bank : ℕ) × (call : BankCall) × AreReplied before × (id ≡ book.Bank zone bank)
    × (exchanges ≡ before ++ Accessed zone bank call (Ok (Err (refusal.Sealed block seen))) ∷ [])
EndSo (end.Broken fault) exchanges = ⊥
EndSo end.Stopped exchanges =
    (before : List Exchange) × (last : Exchange) × AreReplied before × (is_stopping last ≡ true) × (exchanges ≡ before ++ last ∷ [])

-- The law of the Hand: its end tells which calls of a vCPU's slice made an entry, and what the last one came to where it made none.
abbrev pub HandTells : Type 0
HandTells =
    (addresses : AddressMap) (script : List Line) (n : ℕ) (taken : CpuNote) (exchanges : List Exchange) (note : CpuNote) (how : SliceEnd)
    → IsSlice (vcpu_course addresses script n taken) exchanges note how → EndSo how exchanges

-- The law of what is handed back: where a vCPU's whole slice was made from one moment to another, a Hand with its note and its end, and
-- with the books that were noted in between, hands back a slice.
abbrev pub HandsASlice : Type 0
HandsASlice =
    (addresses : AddressMap) (script : List Line) (taken note : CpuNote) (exchanges : List Exchange) (how : SliceEnd) (before after : Moment)
    → before.order ≡ [] → Makes before exchanges after → IsSlice (vcpu_course addresses script most_instructions taken) exchanges note how
    → IsVcpuSlice addresses script taken exchanges (record { note = context.Cpu note; end = how; order = after.order })

-- ---- what the order tells

-- The law of the order: what a caller's exchanges entered in each book, and the books in order, tell the exchanges, where each was
-- replied to.
abbrev pub OrderTells : Type 0
OrderTells =
    (caller : ℕ) (es fs : List Exchange) → AreReplied es → AreReplied fs → books_of es ≡ books_of fs
    → ((zone bank : ℕ) → entries_in caller zone bank es ≡ entries_in caller zone bank fs) → answers_of es ≡ answers_of fs → es ≡ fs

-- ---- what a Sealed tells

-- What an access that was refused at a sealed block tells: in its turn, to which the turns before it lead, the bank's history was a
-- legal one that went on from what was seen by entries of others, had as many entries as the refusal says, and this was the lowest
-- sealed block of the call.
pub record SealedAt (caller : ℕ) (before : ℕ → ℕ → Option (List BankEntry)) (es : List Exchange) (zone bank : ℕ) (call : BankCall) (block seen : ℕ) : Type 0 where
  pub between : ℕ → ℕ → Option (List BankEntry)
  pub led : Turns caller before es between
  pub at : List BankEntry
  pub legal : IsLegal bank at
  pub goes_on : IfSome (between zone bank) (λ was. GoesOnFor caller was at)
  pub place : seen ≡ length at
  pub sealed : first_sealed bank at call ≡ Some block

-- The law of a Sealed.
abbrev pub SealedTells : Type 0
SealedTells =
    (caller : ℕ) (before after : ℕ → ℕ → Option (List BankEntry)) (es fs : List Exchange) (zone bank : ℕ) (call : BankCall) (block seen : ℕ)
    → Turns caller before (es ++ Accessed zone bank call (Ok (Err (refusal.Sealed block seen))) ∷ fs) after
    → SealedAt caller before es zone bank call block seen
