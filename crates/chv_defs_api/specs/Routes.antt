-- The routes of the API (Cloud Hypervisor REST API v1; the bodies of `vmm.ping` and of a refusal are this project's own):
-- which control call a request makes, and which reply the answer to it is.
use Rattle.std.specs.Prelude.{ℕ, ◌==◌, Bool, List, [], ◌∷◌, ◌++◌, length, take, drop, codes, Option, None, Some, Result, Ok, Err, if◌then◌else◌}
use Rattle.std.specs.Str.{bytes_eq}
use Rattle.chv_defs_api.specs.ConfigRules.{last_component}
use Rattle.chv_defs_base.specs.Name.{is_name}
use Rattle.chv_defs_api.specs.JsonBodies.{◌>>=◌, config_of, disk_of, resize_of, zone_of, text_of}
use Rattle.chv_defs_api.specs.JsonTexts.{info_text, counters_text, device_text}
use Rattle.chv_defs_base.specs.Rules.{rule_name, rule_status}
use Rattle.chv_defs_api.specs.Replies.{reply_of_status}
use Rattle.chv_defs_base.specs.declared.rule.Rule.{Rule}
use Rattle.chv_defs_base.specs.declared.rule.Rule.TheVariants.{NoRoute, BadName}
use Rattle.chv_defs_api.specs.declared.request.Request.{Request}
use Rattle.chv_defs_api.specs.declared.control.Goal.TheVariants.{Pause, Shutdown, Delete}
use Rattle.chv_defs_api.specs.declared.control.ControlCall.{ControlCall}
use Rattle.chv_defs_api.specs.declared.control.ControlCall.TheVariants as call
use Rattle.chv_defs_api.specs.declared.control.ControlReply.{ControlReply}
use Rattle.chv_defs_api.specs.declared.control.ControlReply.TheVariants as reply

-- ---- requests

-- what stands before a route's name in each target
unfoldable pub target_front : List ℕ
target_front = codes "/api/v1/"

-- the name of the route that a target asks for: what stands behind `/api/v1/`
abbrev pub route_name : List ℕ → Option (List ℕ)
route_name target = if bytes_eq (take (length target_front) target) target_front then Some (drop (length target_front) target) else None

-- a URL without the one `/` at its end, where it has one
abbrev pub without_final_slash : List ℕ → List ℕ
without_final_slash [] = []
without_final_slash (b ∷ []) = if b == 47 then [] else b ∷ []
without_final_slash (b ∷ c ∷ more) = b ∷ without_final_slash (c ∷ more)

-- the name of the snapshot that a URL names: its last component, a final `/` being dropped first
abbrev pub snapshot_name : List ℕ → Result (List ℕ) Rule
snapshot_name url = let name = last_component (without_final_slash url) in if is_name name then Ok name else Err BadName

-- the calls of the routes with GET
abbrev pub get_call : List ℕ → Result ControlCall Rule
get_call name =
    if bytes_eq name (codes "vmm.ping") then Ok call.Ping else (
    if bytes_eq name (codes "vm.info") then Ok call.Info else (
    if bytes_eq name (codes "vm.counters") then Ok call.Counters else Err NoRoute))

-- the calls of the routes with PUT; a route that needs no body ignores it
abbrev pub put_call : List ℕ → List ℕ → Result ControlCall Rule
put_call name body =
    if bytes_eq name (codes "vm.create") then config_of body >>= (λ config. Ok (call.Create config)) else (
    if bytes_eq name (codes "vm.delete") then Ok (call.Begin Delete) else (
    if bytes_eq name (codes "vm.boot") then Ok call.Boot else (
    if bytes_eq name (codes "vm.shutdown") then Ok (call.Begin Shutdown) else (
    if bytes_eq name (codes "vm.pause") then Ok (call.Begin Pause) else (
    if bytes_eq name (codes "vm.resume") then Ok call.Resume else (
    if bytes_eq name (codes "vm.resize") then resize_of body >>= (λ asked. Ok (call.Resize asked.0 asked.1)) else (
    if bytes_eq name (codes "vm.resize-zone") then zone_of body >>= (λ asked. Ok (call.ResizeZone asked.0 asked.1)) else (
    if bytes_eq name (codes "vm.add-disk") then disk_of body >>= (λ disk. Ok (call.AddDisk disk)) else (
    if bytes_eq name (codes "vm.remove-device") then text_of body (codes "id") >>= (λ id. Ok (call.Remove id)) else (
    if bytes_eq name (codes "vm.snapshot") then text_of body (codes "destination_url") >>= snapshot_name >>= (λ name. Ok (call.Snapshot name)) else (
    if bytes_eq name (codes "vm.restore") then text_of body (codes "source_url") >>= snapshot_name >>= (λ name. Ok (call.Restore name)) else
    Err NoRoute)))))))))))

-- the call of a request for the route of this name
abbrev pub call_named : Request → Option (List ℕ) → Result ControlCall Rule
call_named request None = Err NoRoute
call_named request (Some name) = if request.get then get_call name else (if request.put then put_call name request.body else Err NoRoute)

-- The control call that a request makes, or the rule that refuses the request before the control machine is asked.
unfoldable pub call_of_request : Request → Result ControlCall Rule
call_of_request request = call_named request (route_name request.target)

-- ---- replies

-- the body of `vmm.ping`
unfoldable pub ping_body : List ℕ
ping_body = codes "{\"version\":\"chv 1\"}"

-- the body of a refusal: an object whose one key is `rule`
abbrev pub rule_body : Rule → List ℕ
rule_body rule = codes "{\"rule\":\"" ++ rule_name rule ++ codes "\"}"

-- the status and the body of the answer to a call: those of the rule where it is refused, and else those of its route
-- (it is not asked of Holding, after which the caller settles)
abbrev pub status_and_body : ControlCall → ControlReply → ℕ × Option (List ℕ)
status_and_body c (reply.Ruled rule) = (rule_status rule, Some (rule_body rule))
status_and_body c (reply.Shown info) = (200, Some (info_text info))
status_and_body c (reply.Counted counts) = (200, Some (counters_text counts))
status_and_body c (reply.Added id slot) = (200, Some (device_text (record { slot = slot; id = id })))
status_and_body call.Ping r = (200, Some ping_body)
status_and_body c r = (204, None)

-- The bytes of the reply to a request of which the last call was answered so. The `last` reply of a connection says so.
abbrev pub reply_to_call : ControlCall → ControlReply → Bool → List ℕ
reply_to_call c r last = let answer = status_and_body c r in reply_of_status answer.0 answer.1 last

-- The bytes of the reply to a request, or to bytes that are none, that a rule refuses before the control machine is asked.
abbrev pub refusal_bytes : Rule → Bool → List ℕ
refusal_bytes rule last = reply_of_status (rule_status rule) (Some (rule_body rule)) last
