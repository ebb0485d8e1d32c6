-- How a scenario is spelled, in a format of this project's own, and which bytes a session's requests stand for (HTTP/1.1
-- requests: RFC 9112, 3 and 6).
use Rattle.std.specs.Prelude.{ℕ, List, [], ◌++◌, length, flat_map, codes, Option, None, Some}
use Rattle.chv_defs_base.specs.Numbers.{dec_text, pairs}
use Rattle.chv_defs_scene.specs.ScriptText.{field, script_text}
use Rattle.chv_defs_scene.specs.declared.scene.MadeDisk.{MadeDisk}
use Rattle.chv_defs_scene.specs.declared.scene.VcpuSection.{VcpuSection}
use Rattle.chv_defs_scene.specs.declared.scene.Asked.{Asked}
use Rattle.chv_defs_scene.specs.declared.scene.Asked.TheVariants as asked
use Rattle.chv_defs_scene.specs.declared.scene.OrderStep.{OrderStep}
use Rattle.chv_defs_scene.specs.declared.scene.OrderStep.TheVariants as step
use Rattle.chv_defs_scene.specs.declared.scene.Scene.{Scene}
use Rattle.chv_defs_api.specs.Replies.{length_text, line_end}

-- the line of a disk that the scenario makes: its name and its number of sectors
abbrev pub disk_line : MadeDisk → List ℕ
disk_line disk = codes "disk" ++ field disk.name ++ field (dec_text disk.sectors) ++ codes "\n"

-- the section of a vCPU: its number, its fuel, its script, and the line that ends it
abbrev pub vcpu_section : VcpuSection → List ℕ
vcpu_section v = codes "vcpu" ++ field (dec_text v.vcpu) ++ field (dec_text v.fuel) ++ codes "\n" ++ script_text v.script ++ codes "end\n"

-- the line of a request
abbrev pub request_line : Asked → List ℕ
request_line (asked.Get name) = codes "get" ++ field name ++ codes "\n"
request_line (asked.Put name None) = codes "put" ++ field name ++ codes "\n"
request_line (asked.Put name (Some body)) = codes "put" ++ field name ++ field body ++ codes "\n"
request_line (asked.Raw bytes) = codes "raw" ++ field (pairs bytes) ++ codes "\n"

-- the section of a session: its requests, and the line that ends it
abbrev pub session_section : List Asked → List ℕ
session_section requests = codes "session\n" ++ flat_map request_line requests ++ codes "end\n"

-- a step of the schedule
abbrev pub step_line : OrderStep → List ℕ
step_line (step.Session k) = codes "s" ++ field (dec_text k) ++ codes "\n"
step_line (step.Vcpu n) = codes "v" ++ field (dec_text n) ++ codes "\n"
step_line step.Queue = codes "q\n"

-- the section of the order, where there is one
abbrev pub order_section : Option (List OrderStep) → List ℕ
order_section None = []
order_section (Some steps) = codes "order\n" ++ flat_map step_line steps ++ codes "end\n"

-- a scenario: its disks, vCPUs, sessions, and order
abbrev pub scene_text : Scene → List ℕ
scene_text s = flat_map disk_line s.disks ++ flat_map vcpu_section s.vcpus ++ flat_map session_section s.sessions ++ order_section s.order

-- the request line of a GET and of a PUT, up to the name of the route
unfoldable pub get_front : List ℕ
get_front = codes "GET /api/v1/"

unfoldable pub put_front : List ℕ
put_front = codes "PUT /api/v1/"

-- the rest of the request line, and the header that names the host
unfoldable pub host_part : List ℕ
host_part = codes " HTTP/1.1\r\nHost: localhost\r\n"

-- a PUT request with this body
abbrev pub put_bytes : List ℕ → List ℕ → List ℕ
put_bytes name body = put_front ++ name ++ host_part ++ length_text ++ dec_text (length body) ++ line_end ++ line_end ++ body

-- the bytes that a request stands for; a PUT without a body has one of no bytes
abbrev pub request_bytes : Asked → List ℕ
request_bytes (asked.Get name) = get_front ++ name ++ host_part ++ line_end
request_bytes (asked.Put name None) = put_bytes name []
request_bytes (asked.Put name (Some body)) = put_bytes name body
request_bytes (asked.Raw bytes) = bytes
