-- What the functions for single lines return, in the words of the definitions.
use Rattle.std.specs.Prelude.{◌≡◌, Bool, true, false, List, [], ◌∷◌, ◌++◌, Option, None, Some, Result, Ok, Err}
use Rattle.chv_defs_base.specs.declared.rule.Reason.{Reason}
use Rattle.chv_defs_scene.specs.ScenarioLines.{Part, Has, Ends, Before, Opening, OpensVcpu, OpensSession, OpensOrder}
use Rattle.chv_scene.specs.declared.outside.Passed.{Passed}
use Rattle.chv_scene.specs.declared.outside.Opens.{Opens}
use Rattle.chv_scene.specs.declared.outside.Opens.TheVariants as opens

-- what a line of a section means: what stands in it, or nothing where it ends the section
abbrev pub part_of : {A : Type 0} → Result (Option A) Reason → Result (Part A) Reason
part_of (Ok (Some thing)) = Ok (Has thing)
part_of (Ok None) = Ok Ends
part_of (Err reason) = Err reason

-- what stands before a line outside of the sections
abbrev pub before_of : Passed → Before
before_of p = record { next_vcpu = p.next_vcpu; sessions = p.sessions; has_order = p.has_order }

-- what such a line opens
abbrev pub opening : Opens → Opening
opening (opens.Vcpu vcpu fuel) = OpensVcpu vcpu fuel
opening opens.Session = OpensSession
opening opens.Order = OpensOrder

-- the same where the line may fail
abbrev pub opening_of : Result Opens Reason → Result Opening Reason
opening_of (Ok o) = Ok (opening o)
opening_of (Err reason) = Err reason

-- What a line of a section has done, of which the section then may go on: something stands behind what stood there; or the line
-- ended the section; or it fails.
abbrev pub Went : {A : Type 0} → List A → List A → Result Bool Reason → Result (Part A) Reason → Type 0
Went {A} old new (Ok true) part = (thing : A) × (part ≡ Ok (Has thing)) × (new ≡ old ++ thing ∷ [])
Went old new (Ok false) part = (part ≡ Ok Ends) × (new ≡ old)
Went old new (Err reason) part = part ≡ Err reason
