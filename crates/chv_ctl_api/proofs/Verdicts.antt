-- What an answer of the rules says of them, and what a call comes to by them.
use Rattle.std.proofs.Common.{◌≡◌, Bool, true, false, List, [], ◌∷◌, Option, None, Some, Result, Ok, Err, refl, sym, subst, ap}
use Rattle.std.specs.Prelude.{IfOk}
use Rattle.std.specs.Option.{option_or}
use Rattle.chv_defs_control.specs.declared.machine.Machine.{Machine}
use Rattle.chv_defs_api.specs.declared.config.Checked.{Checked}
use Rattle.chv_defs_api.specs.declared.config.VmConfig.{VmConfig}
use Rattle.chv_defs_api.specs.declared.config.DiskConfig.{DiskConfig}
use Rattle.chv_defs_api.specs.declared.shelf.OnShelf.{OnShelf}
use Rattle.chv_defs_base.specs.declared.rule.Rule.{Rule}
use Rattle.chv_defs_base.specs.declared.rule.Rule.TheVariants.{NotBuilt, SlotsFull}
use Rattle.chv_defs_api.specs.declared.control.ControlCall.TheVariants as call
use Rattle.chv_defs_api.specs.declared.control.ControlReply.{ControlReply}
use Rattle.chv_defs_api.specs.declared.control.ControlReply.TheVariants as reply
use Rattle.chv_defs_api.specs.ConfigRules.{first_broken, further_disk_rules, unless_refused, verdict}
use Rattle.chv_config.proofs.Firsts.{first_broken-append}
use Rattle.chv_defs_control.specs.ApiStep.{has_full_slots, is_booted, names_of, refused_or, reply_to}
use Rattle.chv_ctl_api.specs.declared.decided.Change.{Change}
use Rattle.chv_ctl_api.specs.ApiCalls.{disk_rule}
use Rattle.chv_ctl_api.specs.Changed.{changed, done_unless}

-- where the success is answered, no rule is broken
pub none-from_done : (found : Option Rule) → reply.Done ≡ refused_or found reply.Done → found ≡ None
none-from_done None e = refl
none-from_done (Some rule) e = cc

-- no condition of these rows holds
abbrev pub NoneBroken : List (Bool × Rule) → Type 0
NoneBroken [] = Unit {0}
NoneBroken (row ∷ rows) = (row.0 ≡ false) × NoneBroken rows

-- where no rule is broken, no condition holds
pub none-broken : (rows : List (Bool × Rule)) → first_broken rows ≡ None → NoneBroken rows
none-broken [] e = tt
none-broken ((true, rule) ∷ rows) e = cc
none-broken ((false, rule) ∷ rows) e = (refl, none-broken rows e)

-- the answer to a Create, where there is no machine
pub reply_to-create : (shelf : List OnShelf) (m : Machine) (config : VmConfig) → m.config ≡ None → reply_to shelf m (call.Create config) ≡ refused_or (verdict (names_of shelf) config) reply.Done
reply_to-create shelf m config none =
    let P : Option Checked → Type 0 = λ c. reply_to shelf (record m { config = c }) (call.Create config) ≡ refused_or (verdict (names_of shelf) config) reply.Done in
    subst P (sym none) refl

-- the answer to an AddDisk, where there is a machine
pub reply_to-add : (shelf : List OnShelf) (m : Machine) (now : Checked) (disk : DiskConfig) → m.config ≡ Some now → reply_to shelf m (call.AddDisk disk) ≡ refused_or (disk_rule (names_of shelf) now m.life disk) reply.Done
reply_to-add shelf m now disk there =
    let P : Option Checked → Type 0 = λ c. reply_to shelf (record m { config = c }) (call.AddDisk disk) ≡ refused_or (disk_rule (names_of shelf) now m.life disk) reply.Done in
    subst P (sym there) (ap (λ f. refused_or f reply.Done) (first_broken-append (further_disk_rules (names_of shelf) now disk) ((has_full_slots now, SlotsFull) ∷ (is_booted m.life, NotBuilt) ∷ [])))

-- the reply of what is done unless a rule is broken
pub done_unless-reply : (found : Option Rule) (change : Change) → (done_unless found change).reply ≡ refused_or found reply.Done
done_unless-reply None change = refl
done_unless-reply (Some rule) change = refl

-- what it changes is what its reply leaves, where that is so of Done, and of a refusal
pub done_unless-change : (m : Machine) (leave : ControlReply → Machine) (found : Option Rule) (change : Change) → changed m change ≡ leave reply.Done → ((rule : Rule) → m ≡ leave (reply.Ruled rule)) → changed m (done_unless found change).change ≡ leave (done_unless found change).reply
done_unless-change m leave None change done ruled = done
done_unless-change m leave (Some rule) change done ruled = ruled rule

-- what is made of an answer that is a value is done, unless a later rule is broken
pub done_unless-ok : {T : Type 0} (found later : Option Rule) (value x : T) (make : T → Change) → unless_refused found value ≡ Ok x → done_unless later (make x) ≡ done_unless (option_or found later) (make value)
done_unless-ok None later value x make e = cc
done_unless-ok (Some rule) later value x make e = cc

-- a rule that is answered refuses, whatever later rule is broken
pub done_unless-err : {T : Type 0} (found later : Option Rule) (value : T) (rule : Rule) (change : Change) → unless_refused found value ≡ Err rule → done_unless (Some rule) change ≡ done_unless (option_or found later) change
done_unless-err None later value rule change e = cc
done_unless-err (Some r) later value rule change e = cc

-- no later rule
pub done_unless-last : (found : Option Rule) (change : Change) → done_unless (option_or found None) change ≡ done_unless found change
done_unless-last None change = refl
done_unless-last (Some rule) change = refl

-- what follows from a fact of the value is a fact of it
pub IfOk-map : {T E : Type 0} {P Q : T → Type 0} (r : Result T E) → ((x : T) → P x → Q x) → IfOk r P → IfOk r Q
IfOk-map (Ok x) f p = f x p
IfOk-map (Err e) f p = tt
