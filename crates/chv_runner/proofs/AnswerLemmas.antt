-- A slice by its answers, and in a world that determines each answer.
use Rattle.std.proofs.Common.{◌≡◌, ◌∙◌, List, [], ◌∷◌, ◌++◌, refl, ap, sym, subst}
use Rattle.std.specs.Prelude.{map, Some}
use Rattle.chv_defs_api.specs.declared.context.SliceEnd.{SliceEnd}
use Rattle.chv_defs_memory.specs.Lending.{Access}
use Rattle.chv_defs_guest.specs.Course.{Course, Ends, Accesses, Asks, Exchange, Accessed, Asked, IsSlice, Outcome}
use Rattle.chv_defs_guest.specs.SliceLaws.{AnswersTell, AreAnswered, IsSliceOf, Slice, World, WorldGivesOne, behind, came_of, replayed}
use Rattle.chv_defs_guest.specs.VcpuCourse.{vcpu_course}

-- a slice, by its parts
abbrev made : {N : Type 0} → List Exchange → N → SliceEnd → Slice N
made exchanges note how = record { exchanges = exchanges; note = note; how = how }

given : {N : Type 0} (course : Course N) (exchanges : List Exchange) (note : N) (how : SliceEnd) → IsSlice course exchanges note how
    → replayed course (map came_of exchanges) ≡ Some (made exchanges note how)
given course [] note how h = ap (λ c. replayed c []) h
given (Ends n e) (x ∷ es) note how h = absurd h
given (Accesses zone bank call next) (Accessed z b c answer ∷ es) note how h =
    ap (behind (Accessed zone bank call answer)) (given (next answer) es note how h.3)
    ∙ ap (λ x. Some (made (Accessed x bank call answer ∷ es) note how)) (sym h.0)
    ∙ ap (λ x. Some (made (Accessed z x call answer ∷ es) note how)) (sym h.1)
    ∙ ap (λ x. Some (made (Accessed z b x answer ∷ es) note how)) (sym h.2)
given (Accesses zone bank call next) (Asked c answer ∷ es) note how h = absurd h
given (Asks call next) (Asked c answer ∷ es) note how h =
    ap (behind (Asked call answer)) (given (next answer) es note how h.1)
    ∙ ap (λ x. Some (made (Asked x answer ∷ es) note how)) (sym h.0)
given (Asks call next) (Accessed z b c answer ∷ es) note how h = absurd h

pub answers_tell : AnswersTell
answers_tell addresses script n taken exchanges note how h = given (vcpu_course addresses script n taken) exchanges note how h

-- ---- in a world

-- a slice with one more exchange before its own
abbrev put : {N : Type 0} → Exchange → Slice N → Slice N
put e s = made (e ∷ s.exchanges) s.note s.how

-- the slice of a course in a world, behind some exchanges
abbrev played : {N : Type 0} → World → List Exchange → Course N → Slice N
played world before (Ends note how) = made [] note how
played world before (Accesses zone bank call next) =
    put (Accessed zone bank call (world.access before zone bank call))
    (played world (before ++ Accessed zone bank call (world.access before zone bank call) ∷ []) (next (world.access before zone bank call)))
played world before (Asks call next) =
    put (Asked call (world.ask before call)) (played world (before ++ Asked call (world.ask before call) ∷ []) (next (world.ask before call)))

is_played : {N : Type 0} (world : World) (before : List Exchange) (course : Course N) → IsSliceOf world before course (played world before course)
is_played world before (Ends note how) = record { is = refl; answered = tt }
is_played world before (Accesses zone bank call next) =
    let rest = is_played world (before ++ Accessed zone bank call (world.access before zone bank call) ∷ []) (next (world.access before zone bank call)) in
    record { is = (refl, refl, refl, rest.is); answered = (refl, rest.answered) }
is_played world before (Asks call next) =
    let rest = is_played world (before ++ Asked call (world.ask before call) ∷ []) (next (world.ask before call)) in
    record { is = (refl, rest.is); answered = (refl, rest.answered) }

only_played : {N : Type 0} (world : World) (before : List Exchange) (course : Course N) (exchanges : List Exchange) (note : N) (how : SliceEnd)
    → IsSlice course exchanges note how → AreAnswered world before exchanges → made exchanges note how ≡ played world before course
only_played world before course [] note how h k = ap (played world before) (sym h)
only_played world before (Ends n e) (x ∷ es) note how h k = absurd h
only_played {N} world before (Accesses zone bank call next) (Accessed z b c answer ∷ es) note how h k =
    let P : Exchange → Type 0 = λ e. AreAnswered world before (e ∷ es) in
    let same : Accessed z b c answer ≡ Accessed zone bank call answer =
    ap (λ x. Accessed x b c answer) h.0 ∙ ap (λ x. Accessed zone x c answer) h.1 ∙ ap (λ x. Accessed zone bank x answer) h.2 in
    let j = subst P same k in
    let rest = only_played world (before ++ Accessed zone bank call answer ∷ []) (next answer) es note how h.3 j.1 in
    ap (λ e. made (e ∷ es) note how) same ∙ ap (put (Accessed zone bank call answer)) rest
    ∙ ap (λ (a : Access). put (Accessed zone bank call a) (played world (before ++ Accessed zone bank call a ∷ []) (next a))) j.0
only_played world before (Accesses zone bank call next) (Asked c answer ∷ es) note how h k = absurd h
only_played {N} world before (Asks call next) (Asked c answer ∷ es) note how h k =
    let P : Exchange → Type 0 = λ e. AreAnswered world before (e ∷ es) in
    let same : Asked c answer ≡ Asked call answer = ap (λ x. Asked x answer) h.0 in
    let j = subst P same k in
    let rest = only_played world (before ++ Asked call answer ∷ []) (next answer) es note how h.1 j.1 in
    ap (λ e. made (e ∷ es) note how) same ∙ ap (put (Asked call answer)) rest
    ∙ ap (λ (a : Outcome). put (Asked call a) (played world (before ++ Asked call a ∷ []) (next a))) j.0
only_played world before (Asks call next) (Accessed z b c answer ∷ es) note how h k = absurd h

pub world_gives_one : WorldGivesOne
world_gives_one world addresses script n taken =
    let course = vcpu_course addresses script n taken in
    (played world [] course, is_played world [] course, λ other is. only_played world [] course other.exchanges other.note other.how is.is is.answered)
