-- A fault is told as a fault.
use Rattle.std.proofs.Common.{◌≡◌, ◌⊎◌, ℕ, List, Option, Result, Ok, Err, refl, sym, subst, ◌∙◌, ⊎_elim, inl, inr}
use Rattle.std.specs.Prelude.{IfErr}
use Rattle.chv_top.specs.Faultless.{NoneRose, TellsFaults, StopsFaultless, WritesFaultless}
use Rattle.chv_top.specs.Says.{Tells}
use Rattle.chv_top.specs.declared.status.Status.{Status}
use Rattle.chv_top.specs.declared.status.Status.TheVariants as status
use Rattle.chv_top.specs.declared.program.Stop.{Stop}
use Rattle.chv_top.specs.declared.program.Stop.TheVariants as stop

stop_keeps : (why : Stop) (reads reads_after : ℕ) → reads_after ≡ reads → StopsFaultless why reads reads_after
stop_keeps stop.Memory reads reads_after same = same
stop_keeps stop.ReadFault reads reads_after same = tt
stop_keeps stop.TooLong reads reads_after same = same
stop_keeps (stop.Scene fault) reads reads_after same = same

-- an input that had no fault
pub any_stop_keeps : {T : Type 0} (result : Result T Stop) (reads reads_after : ℕ) → reads_after ≡ reads
    → IfErr result (λ why. StopsFaultless why reads reads_after)
any_stop_keeps (Ok scene) reads reads_after same = tt
any_stop_keeps (Err why) reads reads_after same = stop_keeps why reads reads_after same

status_keeps : {reads reads_after writes writes_after : ℕ} (s : Status) → NoneRose reads reads_after writes writes_after
    → TellsFaults s reads reads_after writes writes_after
status_keeps status.Done none = none
status_keeps status.Usage none = none
status_keeps (status.Scene line reason) none = none
status_keeps status.ReadFault none = none.writes_stay
status_keeps status.WriteFault none = tt
status_keeps status.Memory none = none
status_keeps (status.Full book entries bytes) none = none
status_keeps (status.TooLong bytes) none = none

-- a run whose input had no fault
pub read_well : {reads reads_after writes writes_after : ℕ} (s : Status) → reads_after ≡ reads → WritesFaultless s writes writes_after
    → TellsFaults s reads reads_after writes writes_after
read_well {reads} {reads_after} {writes} {writes_after} s same wrote =
    ⊎_elim
    (λ is. subst (λ (t : Status). TellsFaults t reads reads_after writes writes_after) (sym is) tt)
    (λ stays. status_keeps s (record { reads_stay = same; writes_stay = stays }))
    wrote

-- a run that met why there is no scenario
pub stopped_so : (reads reads_after writes writes_after : ℕ) (put put_after : Option (List ℕ)) (why : Stop) (s : Status)
    → StopsFaultless why reads reads_after → Tells put put_after writes writes_after why s → WritesFaultless s writes writes_after
    → TellsFaults s reads reads_after writes writes_after
stopped_so reads reads_after writes writes_after put put_after stop.Memory s by tells wrote = read_well s by wrote
stopped_so reads reads_after writes writes_after put put_after stop.ReadFault s by tells wrote =
    let P : Status → Type 0 = λ t. TellsFaults t reads reads_after writes writes_after in
    ⊎_elim
    (λ done. ⊎_elim (λ is. absurd (cc (sym done.0 ∙ is))) (λ stays. subst P (sym done.0) stays) wrote)
    (λ failed. subst P (sym failed.0) tt)
    tells
stopped_so reads reads_after writes writes_after put put_after stop.TooLong s by tells wrote = read_well s by wrote
stopped_so reads reads_after writes writes_after put put_after (stop.Scene fault) s by tells wrote = read_well s by wrote

-- what is told at a status that is known
pub told_at : (reads reads_after writes writes_after : ℕ) (s t : Status) → TellsFaults s reads reads_after writes writes_after → s ≡ t
    → TellsFaults t reads reads_after writes writes_after
told_at reads reads_after writes writes_after s t told is =
    subst (λ (u : Status). TellsFaults u reads reads_after writes writes_after) is told
