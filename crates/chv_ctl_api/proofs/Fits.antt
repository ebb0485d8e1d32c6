-- The answer to a call of a session is of a kind that it can have.
use Rattle.std.proofs.Common.{◌≡◌, List, Option, None, Some, true, refl, rules}
use Rattle.chv_defs_control.specs.declared.machine.Machine.{Machine}
use Rattle.chv_defs_api.specs.declared.shelf.OnShelf.{OnShelf}
use Rattle.chv_defs_base.specs.declared.rule.Rule.{Rule}
use Rattle.chv_defs_api.specs.declared.control.ControlCall.{ControlCall}
use Rattle.chv_defs_api.specs.declared.control.ControlCall.TheVariants as call
use Rattle.chv_defs_api.specs.declared.control.ControlReply.{ControlReply}
use Rattle.chv_defs_api.specs.declared.control.ControlReply.TheVariants as reply
use Rattle.chv_defs_control.specs.Machine.{IsWellFormed}
use Rattle.chv_defs_control.specs.ApiStep.{refusal_of, refused_or, reply_to, success_of}
use Rattle.chv_defs_api.specs.Desks.{can_have, is_session_call}

-- an answer by rule fits, and so does the success
either_fits : (c : ControlCall) (found : Option Rule) (success : ControlReply) → ((rule : Rule) → can_have c (reply.Ruled rule) ≡ true) → can_have c success ≡ true → can_have c (refused_or found success) ≡ true
either_fits c None success ruled fits = fits
either_fits c (Some rule) success ruled fits = ruled rule

pub fits : (shelf : List OnShelf) (m : Machine) (c : ControlCall) → IsWellFormed m → is_session_call c ≡ true → can_have c (reply_to shelf m c) ≡ true
fits shelf m call.Ping formed s = refl
fits shelf m call.Bye formed s = refl
fits shelf m call.Counters formed s = search rules
fits shelf m (call.Restore name) formed s = search rules
fits shelf m call.Settle formed s = cc
fits shelf m (call.Take role) formed s = cc
fits shelf m (call.Hand note) formed s = cc
fits shelf m (call.Reg context access) formed s = cc
fits shelf m (call.Mem slot request) formed s = cc
fits shelf m call.Stop formed s = cc
fits shelf m c formed s = either_fits c (refusal_of shelf m c) (success_of m c) (λ rule. refl) refl
