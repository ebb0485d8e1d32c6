-- A slice, instruction by instruction.
use Rattle.std.proofs.Common.{◌≡◌, ◌∙◌, ◌<◌, ◌-◌, ℕ, zero, suc, true, false, List, Option, None, Some, inl, refl, ap, sym, subst, arith, rules}
use Rattle.std.specs.Prelude.{if◌then◌else◌}
use Rattle.chv_defs_api.specs.declared.context.CpuNote.{CpuNote}
use Rattle.chv_defs_api.specs.declared.context.SliceEnd.{SliceEnd}
use Rattle.chv_defs_api.specs.declared.context.SliceEnd.TheVariants as end
use Rattle.chv_defs_api.specs.declared.context.StopCause.{StopCause}
use Rattle.chv_defs_api.specs.declared.control.ControlCall.{ControlCall}
use Rattle.chv_defs_memory.specs.declared.bank.BankCall.{BankCall}
use Rattle.chv_defs_memory.specs.Lending.{Access}
use Rattle.chv_defs_scene.specs.declared.scene.Line.{Line}
use Rattle.chv_addr.specs.AddressMap.{AddressMap}
use Rattle.chv_defs_guest.specs.declared.want.Want.{Want}
use Rattle.chv_defs_guest.specs.declared.want.Want.TheVariants as want
use Rattle.chv_defs_guest.specs.declared.want.Got.{Got}
use Rattle.chv_defs_guest.specs.Course.{Course, Ends}
use Rattle.chv_defs_guest.specs.Instruction.{is_asking, settled, step_of, CanBeRun, CanSettle, CanStep}
use Rattle.chv_defs_guest.specs.Moments.{Moment}
use Rattle.chv_defs_guest.specs.Pieces.{has_width, CanBeMade}
use Rattle.chv_defs_guest.specs.Routing.{Piece, piece_of, route_of}
use Rattle.chv_defs_guest.specs.Routing.Piece.{Known}
use Rattle.chv_defs_guest.specs.Slices.{IsMapOfZones, MakesSlice}
use Rattle.chv_defs_guest.specs.VcpuCourse.{instruction_course, is_over, most_instructions, on_or_end, piece_course, vcpu_course}
use Rattle.chv_defs_guest.specs.Worlds.{Does, StaysOut}
use Rattle.chv_defs_guest.proofs.CourseLemmas.{does_join, does_none}
use Rattle.chv_bus.proofs.PieceLemmas.{pieces_made}
use Rattle.chv_vcpu.proofs.RunLemmas.{asked_can}
use Rattle.chv_runner.specs.Cuts.{end_of, why_of}
use Rattle.chv_runner.specs.declared.cut.Cut.{Cut}

-- ---- one instruction

-- no call was made, and a course is left that is the first one, written otherwise
pub quiet_does : {N W : Type 0} (accesses : W → ℕ → ℕ → BankCall → Access → W → Type 0) (asks : W → ControlCall → W → Type 0) (course rest : Course N) (w : W) (m n : Moment)
    → course ≡ rest → n ≡ m → Does accesses asks course w m w n rest
quiet_does accesses asks course rest w m n is same =
    subst (λ d. Does accesses asks course w m w n d) is (subst (λ k. Does accesses asks course w m w k course) (sym same) (does_none accesses asks course w m))

-- the answer was known without a call
pub known_does : {W : Type 0} (accesses : W → ℕ → ℕ → BankCall → Access → W → Type 0) (asks : W → ControlCall → W → Type 0) (on : CpuNote → Course CpuNote)
    (cpu next : CpuNote) (w : Want) (p : Piece) (g : Got) (cut : Option Cut) (world : W) (m : Option StopCause → Moment)
    → p ≡ Known g → next ≡ settled cpu w g → cut ≡ None
    → Does accesses asks (piece_course on cpu w p) world (m None) world (m (why_of cut)) (on_or_end on next (end_of cut))
known_does accesses asks on cpu next w p g cut world m is state none =
    quiet_does accesses asks (piece_course on cpu w p) (on_or_end on next (end_of cut)) world (m None) (m (why_of cut))
    (ap (piece_course on cpu w) is ∙ ap on (sym state) ∙ ap (λ k. on_or_end on next (end_of k)) (sym none)) (ap (λ k. m (why_of k)) none)

asking : (w : Want) → (w ≡ want.Nothing → ⊥) → (w ≡ want.Halted → ⊥) → is_asking w ≡ true
asking want.Nothing some more = absurd (some refl)
asking want.Halted some more = absurd (more refl)
asking (want.Load addr width reg) some more = refl
asking (want.Store addr bytes put) some more = refl
asking (want.In width port reg) some more = refl
asking (want.Out width port value) some more = refl

stays_asked : (script : List Line) (cpu : CpuNote) → is_asking (step_of script cpu).1 ≡ true → (step_of script cpu).0 ≡ cpu
stays_asked script cpu asks = search rules

-- An instruction that asks for something: it can be settled, its call can be made, and the vCPU is as before.
pub record IsReady (map : AddressMap) (w : Want) (cpu next : CpuNote) : Type 0 where
  pub asks : is_asking w ≡ true
  pub can : CanSettle w next
  pub wide : has_width w ≡ true
  pub made : CanBeMade w (piece_of w (route_of map w))
  pub same : next ≡ cpu

pub is_ready : (map : AddressMap) (script : List Line) (cpu next : CpuNote) (w : Want) → IsMapOfZones map → CanBeRun script → CanStep cpu
    → next ≡ (step_of script cpu).0 → w ≡ (step_of script cpu).1 → (w ≡ want.Nothing → ⊥) → (w ≡ want.Halted → ⊥) → IsReady map w cpu next
is_ready map script cpu next w zones run can state wanted some more =
    let asks : is_asking (step_of script cpu).1 ≡ true = ap is_asking (sym wanted) ∙ asking w some more in
    let made = pieces_made zones.0 script cpu zones.1 run can asks in
    record {
      asks = asking w some more;
      can = subst (λ v. CanSettle v next) (sym wanted) (subst (λ n. CanSettle (step_of script cpu).1 n) (sym state) (asked_can script cpu run can asks));
      wide = ap has_width wanted ∙ made.0;
      made = subst (λ v. CanBeMade v (piece_of v (route_of map v))) (sym wanted)
          (subst (λ k. CanBeMade (step_of script cpu).1 (piece_of (step_of script cpu).1 (route_of k (step_of script cpu).1))) (sym zones.2) made.1);
      same = state ∙ stays_asked script cpu asks;
    }

-- ---- the slice

-- one that is over ends
pub course_over : (map : AddressMap) (script : List Line) (n : ℕ) (cpu : CpuNote) → is_over cpu ≡ true → vcpu_course map script n cpu ≡ Ends cpu end.Idle
unfolding vcpu_course
course_over map script zero cpu over = ap (λ b. Ends cpu (if b then end.Idle else end.Full)) over
course_over map script (suc n) cpu over = ap (λ b. if b then Ends cpu end.Idle else instruction_course map script (vcpu_course map script n) cpu) over

-- one that has instructions left and is not over makes one more
pub course_on : (map : AddressMap) (script : List Line) (n m : ℕ) (cpu : CpuNote) → n ≡ suc m → is_over cpu ≡ false
    → vcpu_course map script n cpu ≡ instruction_course map script (vcpu_course map script m) cpu
unfolding vcpu_course
course_on map script n m cpu is goes =
    ap (λ k. vcpu_course map script k cpu) is ∙ ap (λ b. if b then Ends cpu end.Idle else instruction_course map script (vcpu_course map script m) cpu) goes

-- one that has none left and is not over ends
pub course_full : (map : AddressMap) (script : List Line) (n : ℕ) (cpu : CpuNote) → n ≡ 0 → is_over cpu ≡ false → vcpu_course map script n cpu ≡ Ends cpu end.Full
unfolding vcpu_course
course_full map script n cpu is goes = ap (λ k. vcpu_course map script k cpu) is ∙ ap (λ b. Ends cpu (if b then end.Idle else end.Full)) goes

above_none : (n : ℕ) → 0 < n → n ≡ suc (n - 1)
above_none n h = omega arith

-- one more instruction
pub does_one : {W : Type 0} (accesses : W → ℕ → ℕ → BankCall → Access → W → Type 0) (asks : W → ControlCall → W → Type 0) (map : AddressMap) (script : List Line)
    (start rest : Course CpuNote) (n : ℕ) (cpu : CpuNote) (u v w : W) (k l m : Moment) → 0 < n → is_over cpu ≡ false
    → Does accesses asks start u k v l (vcpu_course map script n cpu)
    → Does accesses asks (instruction_course map script (vcpu_course map script (n - 1)) cpu) v l w m rest → Does accesses asks start u k w m rest
does_one accesses asks map script start rest n cpu u v w k l m left goes before one =
    does_join accesses asks start (vcpu_course map script n cpu) rest u v w k l m before
    (subst (λ d. Does accesses asks d v l w m rest) (sym (course_on map script n (n - 1) cpu (above_none n left) goes)) one)

-- what is left, written otherwise
pub does_as : {N W : Type 0} (accesses : W → ℕ → ℕ → BankCall → Access → W → Type 0) (asks : W → ControlCall → W → Type 0) (first left rest : Course N) (v w : W) (m n k : Moment)
    → left ≡ rest → k ≡ n → Does accesses asks first v m w n left → Does accesses asks first v m w k rest
does_as accesses asks first left rest v w m n k is same h =
    subst (λ d. Does accesses asks first v m w k d) is (subst (λ j. Does accesses asks first v m w j left) (sym same) h)

-- the slice ends here
pub slice_ends : {W : Type 0} (accesses : W → ℕ → ℕ → BankCall → Access → W → Type 0) (asks : W → ControlCall → W → Type 0) (map : AddressMap) (script : List Line)
    (taken note : CpuNote) (before after : W) (was : Moment) (now : Option StopCause → Moment) (left : Course CpuNote) (how said : SliceEnd) (why : Option StopCause)
    → left ≡ Ends note how → said ≡ how → why ≡ None
    → Does accesses asks (vcpu_course map script most_instructions taken) before was after (now None) left
    → MakesSlice accesses asks map script taken before was after now note said why
slice_ends accesses asks map script taken note before after was now left how said why is same none h =
    inl (does_as accesses asks (vcpu_course map script most_instructions taken) left (Ends note said) before after was (now None) (now why) (is ∙ ap (Ends note) (sym same)) (ap now none) h)

-- an instruction ends it
pub slice_cut : {W : Type 0} (accesses : W → ℕ → ℕ → BankCall → Access → W → Type 0) (asks : W → ControlCall → W → Type 0) (map : AddressMap) (script : List Line)
    (taken cpu next : CpuNote) (before between after : W) (was mid : Moment) (now : Option StopCause → Moment) (n : ℕ) (cut : Option Cut) (k : Cut)
    → cut ≡ Some k → 0 < n → is_over cpu ≡ false
    → Does accesses asks (vcpu_course map script most_instructions taken) before was between mid (vcpu_course map script n cpu)
    → Does accesses asks (instruction_course map script (vcpu_course map script (n - 1)) cpu) between mid after (now (why_of cut)) (on_or_end (vcpu_course map script (n - 1)) next (end_of cut))
    → MakesSlice accesses asks map script taken before was after now next k.end k.cause
slice_cut accesses asks map script taken cpu next before between after was mid now n cut k is left goes h one =
    inl (does_one accesses asks map script (vcpu_course map script most_instructions taken) (Ends next k.end) n cpu before between after was mid (now k.cause) left goes h
    (subst (λ o. Does accesses asks (instruction_course map script (vcpu_course map script (n - 1)) cpu) between mid after (now (why_of o)) (on_or_end (vcpu_course map script (n - 1)) next (end_of o))) is one))

-- it goes on behind an instruction
pub slice_on : {W : Type 0} (accesses : W → ℕ → ℕ → BankCall → Access → W → Type 0) (asks : W → ControlCall → W → Type 0) (map : AddressMap) (script : List Line)
    (taken cpu next : CpuNote) (before between after : W) (was mid : Moment) (now : Option StopCause → Moment) (n : ℕ) (cut : Option Cut)
    → cut ≡ None → 0 < n → is_over cpu ≡ false
    → Does accesses asks (vcpu_course map script most_instructions taken) before was between mid (vcpu_course map script n cpu)
    → Does accesses asks (instruction_course map script (vcpu_course map script (n - 1)) cpu) between mid after (now (why_of cut)) (on_or_end (vcpu_course map script (n - 1)) next (end_of cut))
    → Does accesses asks (vcpu_course map script most_instructions taken) before was after (now None) (vcpu_course map script (n - 1) next)
slice_on accesses asks map script taken cpu next before between after was mid now n cut is left goes h one =
    does_one accesses asks map script (vcpu_course map script most_instructions taken) (vcpu_course map script (n - 1) next) n cpu before between after was mid (now None) left goes h
    (subst (λ o. Does accesses asks (instruction_course map script (vcpu_course map script (n - 1)) cpu) between mid after (now (why_of o)) (on_or_end (vcpu_course map script (n - 1)) next (end_of o))) is one)

-- ---- the context stays out

pub stays_join : {W : Type 0} (number : W → ℕ) (lent : W → ℕ → Type 0) (books : W → List (List ℕ)) (caller : W → ℕ) (context : W → Option ℕ) (u v w : W)
    → StaysOut number lent books caller context u v → StaysOut number lent books caller context v w → StaysOut number lent books caller context u w
stays_join number lent books caller context u v w h k = record {
  still_lent = k.still_lent;
  same_bank_caller = k.same_bank_caller ∙ h.same_bank_caller;
  same_books = k.same_books ∙ h.same_books;
  same_caller = k.same_caller ∙ h.same_caller;
  same_context = k.same_context ∙ h.same_context;
}
