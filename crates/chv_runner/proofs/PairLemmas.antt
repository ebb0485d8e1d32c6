-- A slice at one value, as a slice at another that is read from it.
use Rattle.std.proofs.Common.{◌≡◌, ◌∙◌, ℕ, List, [], ◌∷◌, Option, inl, inr, ap}
use Rattle.chv_defs_api.specs.declared.context.CpuNote.{CpuNote}
use Rattle.chv_defs_api.specs.declared.context.SliceEnd.{SliceEnd}
use Rattle.chv_defs_api.specs.declared.context.StopCause.{StopCause}
use Rattle.chv_defs_api.specs.declared.control.ControlCall.{ControlCall}
use Rattle.chv_defs_memory.specs.declared.bank.BankCall.{BankCall}
use Rattle.chv_defs_memory.specs.Lending.{Access}
use Rattle.chv_defs_scene.specs.declared.scene.Line.{Line}
use Rattle.chv_addr.specs.AddressMap.{AddressMap}
use Rattle.chv_defs_guest.specs.Course.{Course, Exchange, Accessed, Asked}
use Rattle.chv_defs_guest.specs.Moments.{Moment}
use Rattle.chv_defs_guest.specs.Slices.{MakesSlice}
use Rattle.chv_defs_guest.specs.Worlds.{Chains, Does}

chains_at : {P W : Type 0} (f : P → W) (accesses : P → ℕ → ℕ → BankCall → Access → P → Type 0) (asks : P → ControlCall → P → Type 0)
    (reached : W → ℕ → ℕ → BankCall → Access → W → Type 0) (asked : W → ControlCall → W → Type 0)
    → ((p q : P) (zone bank : ℕ) (call : BankCall) (answer : Access) → accesses p zone bank call answer q → reached (f p) zone bank call answer (f q))
    → ((p q : P) (call : ControlCall) → asks p call q → asked (f p) call (f q))
    → (p q : P) (es : List Exchange) → Chains accesses asks p es q → Chains reached asked (f p) es (f q)
chains_at f accesses asks reached asked a b p q [] h = ap f h
chains_at f accesses asks reached asked a b p q (Accessed zone bank call answer ∷ es) h =
    (f h.0, a p h.0 zone bank call answer h.1, chains_at f accesses asks reached asked a b h.0 q es h.2)
chains_at f accesses asks reached asked a b p q (Asked call answer ∷ es) h = (f h.0, b p h.0 call h.1, chains_at f accesses asks reached asked a b h.0 q es h.2)

chains_keep : {P V : Type 0} (f : P → V) (accesses : P → ℕ → ℕ → BankCall → Access → P → Type 0) (asks : P → ControlCall → P → Type 0)
    → ((p q : P) (zone bank : ℕ) (call : BankCall) (answer : Access) → accesses p zone bank call answer q → f q ≡ f p)
    → ((p q : P) (call : ControlCall) → asks p call q → f q ≡ f p)
    → (p q : P) (es : List Exchange) → Chains accesses asks p es q → f q ≡ f p
chains_keep f accesses asks a b p q [] h = ap f h
chains_keep f accesses asks a b p q (Accessed zone bank call answer ∷ es) h = chains_keep f accesses asks a b h.0 q es h.2 ∙ a p h.0 zone bank call answer h.1
chains_keep f accesses asks a b p q (Asked call answer ∷ es) h = chains_keep f accesses asks a b h.0 q es h.2 ∙ b p h.0 call h.1

-- what a slice keeps that each call keeps
pub slice_keeps : {P V : Type 0} (f : P → V) (accesses : P → ℕ → ℕ → BankCall → Access → P → Type 0) (asks : P → ControlCall → P → Type 0)
    → ((p q : P) (zone bank : ℕ) (call : BankCall) (answer : Access) → accesses p zone bank call answer q → f q ≡ f p)
    → ((p q : P) (call : ControlCall) → asks p call q → f q ≡ f p)
    → (map : AddressMap) (script : List Line) (taken note : CpuNote) (p q : P) (was : Moment) (now : Option StopCause → Moment) (how : SliceEnd) (why : Option StopCause)
    → MakesSlice accesses asks map script taken p was q now note how why → f q ≡ f p
slice_keeps f accesses asks a b map script taken note p q was now how why (inl h) = chains_keep f accesses asks a b p q h.exchanges h.chains
slice_keeps f accesses asks a b map script taken note p q was now how why (inr h) = chains_keep f accesses asks a b p q h.does.exchanges h.does.chains

does_at : {N P W : Type 0} (f : P → W) (accesses : P → ℕ → ℕ → BankCall → Access → P → Type 0) (asks : P → ControlCall → P → Type 0)
    (reached : W → ℕ → ℕ → BankCall → Access → W → Type 0) (asked : W → ControlCall → W → Type 0)
    → ((p q : P) (zone bank : ℕ) (call : BankCall) (answer : Access) → accesses p zone bank call answer q → reached (f p) zone bank call answer (f q))
    → ((p q : P) (call : ControlCall) → asks p call q → asked (f p) call (f q))
    → (course rest : Course N) (p q : P) (m n : Moment) → Does accesses asks course p m q n rest → Does reached asked course (f p) m (f q) n rest
does_at f accesses asks reached asked a b course rest p q m n h =
    record { exchanges = h.exchanges; leads = h.leads; makes = h.makes; chains = chains_at f accesses asks reached asked a b p q h.exchanges h.chains }

-- the slice, at what is read
pub slice_at : {P W : Type 0} (f : P → W) (accesses : P → ℕ → ℕ → BankCall → Access → P → Type 0) (asks : P → ControlCall → P → Type 0)
    (reached : W → ℕ → ℕ → BankCall → Access → W → Type 0) (asked : W → ControlCall → W → Type 0)
    → ((p q : P) (zone bank : ℕ) (call : BankCall) (answer : Access) → accesses p zone bank call answer q → reached (f p) zone bank call answer (f q))
    → ((p q : P) (call : ControlCall) → asks p call q → asked (f p) call (f q))
    → (map : AddressMap) (script : List Line) (taken note : CpuNote) (p q : P) (was : Moment) (now : Option StopCause → Moment) (how : SliceEnd) (why : Option StopCause)
    → MakesSlice accesses asks map script taken p was q now note how why → MakesSlice reached asked map script taken (f p) was (f q) now note how why
slice_at f accesses asks reached asked a b map script taken note p q was now how why (inl h) =
    inl (does_at f accesses asks reached asked a b _ _ p q was _ h)
slice_at f accesses asks reached asked a b map script taken note p q was now how why (inr h) =
    inr (record { left = h.left; few = h.few; does = does_at f accesses asks reached asked a b _ _ p q was _ h.does; stops = h.stops; wants = h.wants })
