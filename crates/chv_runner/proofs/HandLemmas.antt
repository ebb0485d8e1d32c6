-- How the exchanges of a vCPU's slice end, and how many there are.
use Rattle.std.proofs.Common.{◌≡◌, ◌≤◌, ℕ, zero, suc, Bool, true, false, List, [], ◌∷◌, ◌++◌, length, refl, ap, sym, subst, ◌∙◌, arith}
use Rattle.std.specs.Prelude.{◌&&◌, Ok, Err, if◌then◌else◌}
use Rattle.std.specs.List.{list_all}
use Rattle.chv_defs_base.specs.declared.book.BookId.TheVariants as book
use Rattle.chv_defs_api.specs.declared.context.CpuNote.{CpuNote}
use Rattle.chv_defs_api.specs.declared.context.SliceEnd.{SliceEnd}
use Rattle.chv_defs_api.specs.declared.context.SliceEnd.TheVariants as end
use Rattle.chv_defs_api.specs.declared.control.ControlCall.{ControlCall}
use Rattle.chv_defs_memory.specs.declared.bank.BankCall.{BankCall}
use Rattle.chv_defs_memory.specs.declared.bank.Refusal.TheVariants as refusal
use Rattle.chv_defs_scene.specs.declared.scene.Line.{Line}
use Rattle.chv_addr.specs.AddressMap.{AddressMap}
use Rattle.chv_defs_guest.specs.declared.want.Want.{Want}
use Rattle.chv_defs_guest.specs.declared.want.Want.TheVariants as want
use Rattle.chv_defs_guest.specs.Course.{Course, Ends, Accesses, Asks, Exchange, Accessed, Asked, IsSlice, books_of}
use Rattle.chv_defs_guest.specs.Instruction.{step_of}
use Rattle.chv_defs_guest.specs.Routing.{Piece, piece_of, route_of}
use Rattle.chv_defs_guest.specs.Routing.Piece.{InBank, InControl, Known}
use Rattle.chv_defs_guest.specs.SliceLaws.{AreReplied, EndSo, FewCalls, HandTells, HandsASlice, is_replied, is_stopping}
use Rattle.chv_defs_guest.specs.VcpuCourse.{behind_access, behind_ask, gets, instruction_course, is_over, piece_course, vcpu_course}

-- ---- one more exchange that was replied to

replied_more : (e : Exchange) (es : List Exchange) → is_replied e ≡ true → AreReplied es → AreReplied (e ∷ es)
replied_more e es h k = ap (λ b. b && list_all is_replied es) h ∙ k

so_more : (how : SliceEnd) (e : Exchange) (es : List Exchange) → is_replied e ≡ true → EndSo how es → EndSo how (e ∷ es)
so_more end.Full e es h k = replied_more e es h k
so_more end.Idle e es h k = replied_more e es h k
so_more (end.Sealed id block seen) e es h k = (e ∷ k.0, k.1, k.2, k.3, replied_more e k.0 h k.4, k.5, ap (λ xs. e ∷ xs) k.6)
so_more (end.Broken fault) e es h k = k
so_more end.Stopped e es h k = (e ∷ k.0, k.1, replied_more e k.0 h k.2, k.3, ap (λ xs. e ∷ xs) k.4)

-- ---- courses

-- each slice of the course has at most so many calls, and ends so
abbrev IsTold : ℕ → Course CpuNote → Type 0
IsTold n course = (es : List Exchange) (note : CpuNote) (how : SliceEnd) → IsSlice course es note how → (length es ≤ n) × EndSo how es

abbrev end_in : SliceEnd → Course CpuNote → SliceEnd
end_in other (Ends note how) = how
end_in other course = other

-- the slice ends here, behind no call
told_end : (n : ℕ) (cpu : CpuNote) (how : SliceEnd) → EndSo how [] → IsTold n (Ends cpu how)
told_end n cpu how so [] note told h = (omega arith, subst (λ e. EndSo e []) (ap (end_in how) h) so)
told_end n cpu how so (e ∷ es) note told h = absurd h

-- the slice ends here, behind this call
told_last : (n : ℕ) (cpu : CpuNote) (how : SliceEnd) (e : Exchange) (es : List Exchange) (note : CpuNote) (told : SliceEnd) → EndSo how (e ∷ []) → IsSlice (Ends cpu how) es note told
    → (length (e ∷ es) ≤ suc n) × EndSo told (e ∷ es)
told_last n cpu how e [] note told so h = (omega arith, subst (λ x. EndSo x (e ∷ [])) (ap (end_in how) h) so)
told_last n cpu how e (x ∷ xs) note told so h = absurd h

-- it goes on behind this call
told_behind : (n : ℕ) (course : Course CpuNote) (e : Exchange) (es : List Exchange) (note : CpuNote) (how : SliceEnd) → IsTold n course → is_replied e ≡ true → IsSlice course es note how
    → (length (e ∷ es) ≤ suc n) × EndSo how (e ∷ es)
told_behind n course e es note how f r h = let k = f es note how h in (omega (arith, k.0), so_more how e es r k.1)

told_more : (n : ℕ) (course : Course CpuNote) → IsTold n course → IsTold (suc n) course
told_more n course f es note how h = let k = f es note how h in (omega (arith, k.0), k.1)

stops_at : (e : Exchange) → is_stopping e ≡ true → EndSo end.Stopped (e ∷ [])
stops_at e h = ([], e, refl, h, refl)

told_access : (n : ℕ) (on : CpuNote → Course CpuNote) (cpu : CpuNote) (w : Want) (zone bank : ℕ) (c : BankCall) → ((x : CpuNote) → IsTold n (on x))
    → IsTold (suc n) (Accesses zone bank c (behind_access on cpu w zone bank))
told_access n on cpu w zone bank c f [] note how h = cc
told_access n on cpu w zone bank c f (Accessed z b d (Ok (Ok r)) ∷ es) note how h = told_behind n _ (Accessed z b d (Ok (Ok r))) es note how (f _) refl h.3
told_access n on cpu w zone bank c f (Accessed z b d (Ok (Err (refusal.Sealed block seen))) ∷ es) note how h =
    told_last n cpu (end.Sealed (book.Bank zone bank) block seen) (Accessed z b d (Ok (Err (refusal.Sealed block seen)))) es note how
    ([], z, b, d, refl, ap (λ x. book.Bank x bank) (sym h.0) ∙ ap (book.Bank z) (sym h.1), refl) h.3
told_access n on cpu w zone bank c f (Accessed z b d (Ok (Err (refusal.Frozen seen))) ∷ es) note how h =
    told_last n cpu end.Stopped (Accessed z b d (Ok (Err (refusal.Frozen seen)))) es note how (stops_at (Accessed z b d (Ok (Err (refusal.Frozen seen)))) refl) h.3
told_access n on cpu w zone bank c f (Accessed z b d (Ok (Err (refusal.Full full))) ∷ es) note how h =
    told_last n cpu end.Stopped (Accessed z b d (Ok (Err (refusal.Full full)))) es note how (stops_at (Accessed z b d (Ok (Err (refusal.Full full)))) refl) h.3
told_access n on cpu w zone bank c f (Accessed z b d (Err wanting) ∷ es) note how h =
    told_last n cpu end.Stopped (Accessed z b d (Err wanting)) es note how (stops_at (Accessed z b d (Err wanting)) refl) h.3
told_access n on cpu w zone bank c f (Asked d a ∷ es) note how h = absurd h

told_ask : (n : ℕ) (on : CpuNote → Course CpuNote) (cpu : CpuNote) (w : Want) (c : ControlCall) → ((x : CpuNote) → IsTold n (on x)) → IsTold (suc n) (Asks c (behind_ask on cpu w))
told_ask n on cpu w c f [] note how h = cc
told_ask n on cpu w c f (Asked d (Ok (Ok r)) ∷ es) note how h = told_behind n _ (Asked d (Ok (Ok r))) es note how (f _) refl h.1
told_ask n on cpu w c f (Asked d (Ok (Err stopped)) ∷ es) note how h =
    told_last n cpu end.Stopped (Asked d (Ok (Err stopped))) es note how (stops_at (Asked d (Ok (Err stopped))) refl) h.1
told_ask n on cpu w c f (Asked d (Err wanting) ∷ es) note how h = told_last n cpu end.Stopped (Asked d (Err wanting)) es note how (stops_at (Asked d (Err wanting)) refl) h.1
told_ask n on cpu w c f (Accessed z b d a ∷ es) note how h = absurd h

told_piece : (n : ℕ) (on : CpuNote → Course CpuNote) (cpu : CpuNote) (w : Want) (p : Piece) → ((x : CpuNote) → IsTold n (on x)) → IsTold (suc n) (piece_course on cpu w p)
told_piece n on cpu w (InBank zone bank made) f = told_access n on cpu w zone bank made f
told_piece n on cpu w (InControl made) f = told_ask n on cpu w _ f
told_piece n on cpu w (Known got) f = told_more n _ (f _)

told_want : (n : ℕ) (addresses : AddressMap) (on : CpuNote → Course CpuNote) (cpu : CpuNote) (w : Want) → ((x : CpuNote) → IsTold n (on x)) → IsTold (suc n) (gets addresses on cpu w)
told_want n addresses on cpu want.Nothing f = told_more n (on cpu) (f cpu)
told_want n addresses on cpu want.Halted f = told_end (suc n) cpu end.Idle refl
told_want n addresses on cpu (want.Load addr width reg) f = told_piece n on cpu (want.Load addr width reg) (piece_of (want.Load addr width reg) (route_of addresses (want.Load addr width reg))) f
told_want n addresses on cpu (want.Store addr bytes put) f = told_piece n on cpu (want.Store addr bytes put) (piece_of (want.Store addr bytes put) (route_of addresses (want.Store addr bytes put))) f
told_want n addresses on cpu (want.In width port reg) f = told_piece n on cpu (want.In width port reg) (piece_of (want.In width port reg) (route_of addresses (want.In width port reg))) f
told_want n addresses on cpu (want.Out width port value) f = told_piece n on cpu (want.Out width port value) (piece_of (want.Out width port value) (route_of addresses (want.Out width port value))) f

no_more : (cpu : CpuNote) (over : Bool) → IsTold 0 (Ends cpu (if over then end.Idle else end.Full))
no_more cpu true = told_end 0 cpu end.Idle refl
no_more cpu false = told_end 0 cpu end.Full refl

choice : (n : ℕ) (addresses : AddressMap) (script : List Line) (cpu : CpuNote) → ((x : CpuNote) → IsTold n (vcpu_course addresses script n x)) → (over : Bool)
    → IsTold (suc n) (if over then Ends cpu end.Idle else instruction_course addresses script (vcpu_course addresses script n) cpu)
choice n addresses script cpu f true = told_end (suc n) cpu end.Idle refl
choice n addresses script cpu f false = told_want n addresses (vcpu_course addresses script n) (step_of script cpu).0 (step_of script cpu).1 f

told : (addresses : AddressMap) (script : List Line) (n : ℕ) (cpu : CpuNote) → IsTold n (vcpu_course addresses script n cpu)
unfolding vcpu_course
told addresses script zero cpu = no_more cpu (is_over cpu)
told addresses script (suc n) cpu = choice n addresses script cpu (told addresses script n) (is_over cpu)

pub few_calls : FewCalls
few_calls addresses script n taken exchanges note how h = (told addresses script n taken exchanges note how h).0

pub hand_tells : HandTells
hand_tells addresses script n taken exchanges note how h = (told addresses script n taken exchanges note how h).1

-- ---- what is handed back

pub hands_a_slice : HandsASlice
hands_a_slice addresses script taken note exchanges how before after empty makes slice =
    record { note = note; handed = refl; slice = slice; order = makes.order ∙ ap (λ books. books ++ books_of exchanges) empty }
