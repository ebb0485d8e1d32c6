-- The text of a trace, in a format of this project's own: what is printed of everything that happened in a run.
use Rattle.std.specs.Prelude.{ℕ, ◌+◌, Bool, true, false, List, [], ◌∷◌, ◌++◌, length, sum_by, flat_map, codes, Option, None, Some}
use Rattle.chv_defs_base.specs.Numbers.{dec_text, hex_text, pairs}
use Rattle.chv_defs_api.specs.JsonTexts.{config_text, disk_text, info_text, counters_text, device_text}
use Rattle.chv_defs_base.specs.Rules.{rule_name}
use Rattle.chv_defs_scene.specs.ScriptText.{field}
use Rattle.chv_defs_scene.specs.SceneText.{disk_line, vcpu_section}
use Rattle.chv_defs_memory.specs.declared.bank.Span.{Span}
use Rattle.chv_defs_base.specs.declared.book.BookId.{BookId}
use Rattle.chv_defs_base.specs.declared.book.BookId.TheVariants as book
use Rattle.chv_defs_memory.specs.declared.bank.BankCall.{BankCall}
use Rattle.chv_defs_memory.specs.declared.bank.BankCall.TheVariants as bank
use Rattle.chv_defs_memory.specs.declared.bank.BankReply.{BankReply}
use Rattle.chv_defs_memory.specs.declared.bank.BankReply.TheVariants as banked
use Rattle.chv_defs_memory.specs.declared.bank.BankEntry.{BankEntry}
use Rattle.chv_defs_api.specs.declared.register.RegAccess.{RegAccess}
use Rattle.chv_defs_api.specs.declared.register.RegAccess.TheVariants as access
use Rattle.chv_defs_api.specs.declared.context.ContextNote.{ContextNote}
use Rattle.chv_defs_api.specs.declared.context.ContextNote.TheVariants as note
use Rattle.chv_defs_api.specs.declared.context.SliceEnd.{SliceEnd}
use Rattle.chv_defs_api.specs.declared.context.SliceEnd.TheVariants as end
use Rattle.chv_defs_api.specs.declared.context.QueueFault.{QueueFault}
use Rattle.chv_defs_api.specs.declared.context.QueueFault.TheVariants as fault
use Rattle.chv_defs_base.specs.declared.rule.Rule.{Rule}
use Rattle.chv_defs_base.specs.declared.rule.Rule.TheVariants.{BadImage}
use Rattle.chv_defs_api.specs.declared.control.Goal.{Goal}
use Rattle.chv_defs_api.specs.declared.control.Goal.TheVariants as goal
use Rattle.chv_defs_api.specs.declared.control.Role.{Role}
use Rattle.chv_defs_api.specs.declared.control.Role.TheVariants as role
use Rattle.chv_defs_api.specs.declared.control.BusyAt.{BusyAt}
use Rattle.chv_defs_api.specs.declared.control.ControlCall.{ControlCall}
use Rattle.chv_defs_api.specs.declared.control.ControlCall.TheVariants as call
use Rattle.chv_defs_api.specs.declared.control.ControlReply.{ControlReply}
use Rattle.chv_defs_api.specs.declared.control.ControlReply.TheVariants as reply
use Rattle.chv_defs_api.specs.declared.control.ControlEntry.{ControlEntry}
use Rattle.chv_defs_api.specs.declared.session.SessionEnd.{SessionEnd}
use Rattle.chv_defs_api.specs.declared.session.SessionEnd.TheVariants as session
use Rattle.chv_defs_scene.specs.declared.scene.VcpuSection.{VcpuSection}
use Rattle.chv_defs.specs.declared.trace.Trace.{Trace}
use Rattle.chv_defs.specs.declared.trace.BankTrace.{BankTrace}
use Rattle.chv_defs.specs.declared.trace.SessionTrace.{SessionTrace}
use Rattle.chv_defs_api.specs.JsonTexts.{quoted}

-- ---- fields

-- bytes in pairs of hexadecimal digits, or a dash where there is none
abbrev pub pairs_or_dash : List ℕ → List ℕ
pairs_or_dash [] = codes "-"
pairs_or_dash (b ∷ bs) = pairs (b ∷ bs)

-- a number, or a dash where it is absent
abbrev pub number_or_dash : Option ℕ → List ℕ
number_or_dash None = codes "-"
number_or_dash (Some n) = dec_text n

-- numbers in hexadecimal, each after a space
abbrev pub hex_fields : List ℕ → List ℕ
hex_fields numbers = flat_map (λ n. field (hex_text n)) numbers

-- a flag, 0 or 1
abbrev pub flag : Bool → List ℕ
flag true = codes "1"
flag false = codes "0"

-- the control book, or a bank by its zone and number
abbrev pub book_text : BookId → List ℕ
book_text book.Control = codes "c"
book_text (book.Bank zone number) = dec_text zone ++ codes "." ++ dec_text number

-- books after a space each, or a dash where there is none
abbrev pub book_fields : List BookId → List ℕ
book_fields [] = field (codes "-")
book_fields (b ∷ bs) = flat_map (λ x. field (book_text x)) (b ∷ bs)

-- blocks that follow each other: the first, and how many
abbrev pub span_fields : Span → List ℕ
span_fields span = field (dec_text span.first) ++ field (dec_text span.count)

-- ---- control calls

-- where a pause, a shutdown or a delete leads
abbrev pub goal_text : Goal → List ℕ
goal_text goal.Pause = codes "pause"
goal_text goal.Shutdown = codes "shutdown"
goal_text goal.Delete = codes "delete"

-- what is taken
abbrev pub role_text : Role → List ℕ
role_text (role.Vcpu n) = codes "vcpu" ++ field (dec_text n)
role_text role.Queue = codes "queue"

-- a context: a vCPU's position, fuel, whether it halted, and registers; or a queue's slot, indices and counts
abbrev pub note_text : ContextNote → List ℕ
note_text (note.Cpu n) = codes "cpu" ++ field (dec_text n.vcpu) ++ field (dec_text n.pos) ++ field (dec_text n.fuel) ++ field (flag n.halted) ++ hex_fields n.regs
note_text (note.Queue n) = codes "slot" ++ field (dec_text n.slot) ++ field (dec_text n.last) ++ field (dec_text n.used) ++ field (dec_text n.counts.reads) ++ field (dec_text n.counts.writes) ++ field (dec_text n.counts.read_bytes) ++ field (dec_text n.counts.write_bytes)

-- what is wrong with a queue, with the guest address where a part of it is not open memory
abbrev pub fault_text : QueueFault → List ℕ
fault_text fault.BadIndex = codes "BadIndex"
fault_text fault.Loop = codes "Loop"
fault_text fault.Indirect = codes "Indirect"
fault_text fault.Order = codes "Order"
fault_text fault.TooLong = codes "TooLong"
fault_text fault.Short = codes "Short"
fault_text (fault.RingClosed addr) = codes "RingClosed" ++ field (hex_text addr)
fault_text (fault.BufferClosed addr) = codes "BufferClosed" ++ field (hex_text addr)

-- how a slice ended (no trace that is printed has a slice that the run stopped)
abbrev pub slice_end_text : SliceEnd → List ℕ
slice_end_text end.Full = codes "full"
slice_end_text end.Idle = codes "idle"
slice_end_text (end.Sealed book block seen) = codes "sealed" ++ field (book_text book) ++ field (dec_text block) ++ field (dec_text seen)
slice_end_text (end.Broken f) = codes "broken" ++ field (fault_text f)
slice_end_text end.Stopped = codes "stopped"

-- an access, with the number of its context
abbrev pub access_text : ℕ → RegAccess → List ℕ
access_text context (access.In width port) = codes "in" ++ field (dec_text context) ++ field (dec_text width) ++ field (hex_text port)
access_text context (access.Out width port value) = codes "out" ++ field (dec_text context) ++ field (dec_text width) ++ field (hex_text port) ++ field (hex_text value)
access_text context (access.MmioRead width addr) = codes "mmr" ++ field (dec_text context) ++ field (dec_text width) ++ field (hex_text addr)
access_text context (access.MmioWrite width addr value) = codes "mmw" ++ field (dec_text context) ++ field (dec_text width) ++ field (hex_text addr) ++ field (hex_text value)

-- a control call (no trace that is printed has a stop)
abbrev pub call_text : ControlCall → List ℕ
call_text call.Ping = codes "ping"
call_text call.Info = codes "info"
call_text call.Counters = codes "counters"
call_text (call.Create config) = codes "create" ++ field (config_text config)
call_text call.Boot = codes "boot"
call_text (call.Begin g) = codes "begin" ++ field (goal_text g)
call_text call.Settle = codes "settle"
call_text call.Resume = codes "resume"
call_text (call.Resize vcpus ram) = codes "resize" ++ field (number_or_dash vcpus) ++ field (number_or_dash ram)
call_text (call.ResizeZone zone ram) = codes "zone" ++ field (quoted zone) ++ field (dec_text ram)
call_text (call.AddDisk disk) = codes "add" ++ field (disk_text disk)
call_text (call.Remove id) = codes "remove" ++ field (quoted id)
call_text (call.Snapshot name) = codes "snapshot" ++ field name
call_text (call.Restore name) = codes "restore" ++ field name
call_text call.Bye = codes "bye"
call_text (call.Take r) = codes "take" ++ field (role_text r)
call_text (call.Hand h) = codes "hand" ++ field (note_text h.note) ++ field (codes "end") ++ field (slice_end_text h.end) ++ field (codes "order") ++ book_fields h.order
call_text (call.Reg context a) = access_text context a
call_text (call.Mem slot request) = codes "mem" ++ field (dec_text slot) ++ field (dec_text request.kind) ++ field (hex_text request.addr) ++ field (dec_text request.blocks)
call_text call.Stop = codes "stop"

-- ---- control replies

-- the block and its caller, where the answer names them, which is BUSY
abbrev pub busy_fields : Option BusyAt → List ℕ
busy_fields None = []
busy_fields (Some busy) = field (dec_text busy.block) ++ field (dec_text busy.caller)

-- a rule, with the place for an image that is refused
abbrev pub rule_text : Rule → List ℕ
rule_text (BadImage place) = codes "BadImage" ++ field (dec_text place)
rule_text rule = rule_name rule

-- a control reply
abbrev pub reply_text : ControlReply → List ℕ
reply_text reply.Done = codes "done"
reply_text (reply.Shown info) = codes "shown" ++ field (info_text info)
reply_text (reply.Counted counts) = codes "counted" ++ field (counters_text counts)
reply_text (reply.Added id slot) = codes "added" ++ field (device_text (record { slot = slot; id = id }))
reply_text reply.Holding = codes "holding"
reply_text (reply.Ruled rule) = codes "rule" ++ field (rule_text rule)
reply_text (reply.Taken n) = codes "taken" ++ field (note_text n)
reply_text (reply.Value value) = codes "value" ++ field (hex_text value)
reply_text (reply.Answer answer) = codes "answer" ++ field (dec_text answer.kind) ++ field (dec_text answer.state) ++ busy_fields answer.busy
reply_text (reply.Restored image) = codes "restored" ++ field (pairs image)

-- an entry: the caller, the call, an arrow, the reply
abbrev pub control_line : ControlEntry → List ℕ
control_line e = dec_text e.caller ++ field (call_text e.call) ++ codes " -> " ++ reply_text e.reply ++ codes "\n"

-- ---- banks

-- a call on a bank
abbrev pub bank_call_text : BankCall → List ℕ
bank_call_text (bank.Shape blocks) = codes "shape" ++ field (dec_text blocks)
bank_call_text bank.Wipe = codes "wipe"
bank_call_text (bank.Open span) = codes "open" ++ span_fields span
bank_call_text (bank.Seal span) = codes "seal" ++ span_fields span
bank_call_text (bank.Unseal span) = codes "unseal" ++ span_fields span
bank_call_text (bank.Close span) = codes "close" ++ span_fields span
bank_call_text bank.Freeze = codes "freeze"
bank_call_text bank.Thaw = codes "thaw"
bank_call_text (bank.Fill block page bytes) = codes "fill" ++ field (dec_text block) ++ field (dec_text page) ++ field (pairs bytes)
bank_call_text bank.Show = codes "show"
bank_call_text (bank.Read block offset len) = codes "read" ++ field (dec_text block) ++ field (dec_text offset) ++ field (dec_text len)
bank_call_text (bank.Write block offset bytes) = codes "write" ++ field (dec_text block) ++ field (dec_text offset) ++ field (pairs bytes)
bank_call_text (bank.Pin number span) = codes "pin" ++ field (dec_text number) ++ span_fields span
bank_call_text (bank.Unpin number) = codes "unpin" ++ field (dec_text number)

-- the answer of a bank
abbrev pub bank_reply_text : BankReply → List ℕ
bank_reply_text banked.Done = codes "done"
bank_reply_text (banked.Got bytes) = codes "got" ++ field (pairs bytes)
bank_reply_text banked.Sealed = codes "sealed"
bank_reply_text (banked.Busy block caller) = codes "busy" ++ field (dec_text block) ++ field (dec_text caller)
bank_reply_text banked.Closed = codes "closed"
bank_reply_text (banked.Pages n) = codes "pages" ++ field (dec_text n)
bank_reply_text banked.Pinned = codes "pinned"
bank_reply_text (banked.Fault block) = codes "fault" ++ field (dec_text block)

-- an entry of a bank: the caller, the call, an arrow, the reply
abbrev pub bank_line : BankEntry → List ℕ
bank_line e = dec_text e.caller ++ field (bank_call_text e.call) ++ codes " -> " ++ bank_reply_text e.reply ++ codes "\n"

-- a bank that has entries: its zone and number, how many entries it has, and these
abbrev pub bank_part : BankTrace → List ℕ
bank_part b = codes "bank" ++ field (dec_text b.zone) ++ field (dec_text b.bank) ++ field (dec_text (length b.entries)) ++ codes "\n" ++ flat_map bank_line b.entries

-- ---- sessions

-- how a session ended (no trace that is printed has one that the run stopped)
abbrev pub session_end_text : SessionEnd → List ℕ
session_end_text session.Ended = codes "ended"
session_end_text session.Cut = codes "cut"
session_end_text session.Bad = codes "bad"
session_end_text session.Closed = codes "closed"
session_end_text session.Fault = codes "fault"
session_end_text session.Limit = codes "limit"
session_end_text session.Stopped = codes "stopped"

-- a session: its number and its end, the bytes that it took, and the replies that were put
abbrev pub session_part : SessionTrace → List ℕ
session_part s = codes "session" ++ field (dec_text s.session) ++ field (session_end_text s.log.end) ++ codes "\nask" ++ field (pairs_or_dash s.log.asked) ++ codes "\nreply" ++ field (pairs_or_dash s.log.replied) ++ codes "\n"

-- ---- the whole

-- how many lines the sections of disks and vCPUs have: one for each disk, and for each vCPU its script and two
abbrev pub scene_lines : Trace → ℕ
scene_lines t = length t.disks + sum_by (λ (v : VcpuSection). length v.script.lines + 2) t.vcpus

-- the sections of the scenario that a trace repeats
abbrev pub scene_part : Trace → List ℕ
scene_part t = codes "scene" ++ field (dec_text (scene_lines t)) ++ codes "\n" ++ flat_map disk_line t.disks ++ flat_map vcpu_section t.vcpus

-- the control book: how many entries it has, and these
abbrev pub control_part : List ControlEntry → List ℕ
control_part entries = codes "control" ++ field (dec_text (length entries)) ++ codes "\n" ++ flat_map control_line entries

-- the text of a trace
abbrev pub trace_text : Trace → List ℕ
trace_text t = codes "trace 1\n" ++ scene_part t ++ control_part t.control ++ flat_map bank_part t.banks ++ flat_map session_part t.sessions ++ codes "end\n"
