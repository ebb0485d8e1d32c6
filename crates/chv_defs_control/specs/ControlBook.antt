-- How much the control book holds, and when it is full. The limits are this project's own, and the same as a bank's.
use Rattle.std.specs.Prelude.{ℕ, ◌+◌, Bool, true, false, ◌||◌, nat_lt, if◌then◌else◌, List, length, sum_by, Option, None, Some}
use Rattle.chv_defs_control.specs.declared.machine.Machine.{Machine}
use Rattle.chv_defs_base.specs.declared.book.Full.{Full}
use Rattle.chv_defs_base.specs.declared.book.BookId.TheVariants.{Control}
use Rattle.chv_defs_api.specs.declared.control.ControlCall.{ControlCall}
use Rattle.chv_defs_api.specs.declared.control.ControlCall.TheVariants as call
use Rattle.chv_defs_api.specs.declared.control.ControlReply.{ControlReply}
use Rattle.chv_defs_api.specs.declared.control.ControlReply.TheVariants as reply
use Rattle.chv_defs_api.specs.declared.control.ControlEntry.{ControlEntry}
use Rattle.chv_defs_base.specs.Sizes.{most_entries, most_payload}
use Rattle.chv_defs_api.specs.JsonTexts.{config_text, counters_text, device_text, disk_text, info_text}

-- the payload of a call, in bytes: the length of the JSON text that is printed of it, where there is one
abbrev pub call_payload : ControlCall → ℕ
call_payload (call.Create config) = length (config_text config)
call_payload (call.AddDisk disk) = length (disk_text disk)
call_payload _ = 0

-- the payload of a reply: the length of its JSON text, or of the image that it holds
abbrev pub reply_payload : ControlReply → ℕ
reply_payload (reply.Shown info) = length (info_text info)
reply_payload (reply.Counted counts) = length (counters_text counts)
reply_payload (reply.Added id slot) = length (device_text (record { slot = slot; id = id }))
reply_payload (reply.Restored image) = length image
reply_payload _ = 0

-- the payload of an entry
abbrev pub entry_payload : ControlEntry → ℕ
entry_payload e = call_payload e.call + reply_payload e.reply

-- the payload of a history
abbrev pub payload : List ControlEntry → ℕ
payload history = sum_by entry_payload history

-- how many places are taken: one for each entry, and one that is kept for a Stop where none stands
abbrev pub places : Machine → List ControlEntry → ℕ
places m history = length history + (if m.stopped then 0 else 1)

-- whether a call is the Stop, whose place is kept
abbrev pub is_stop : ControlCall → Bool
is_stop call.Stop = true
is_stop _ = false

-- whether a further entry passes a limit
abbrev pub passes_limit : Machine → List ControlEntry → ControlEntry → Bool
passes_limit m history entry =
    nat_lt most_entries (places m history + 1) || nat_lt most_payload (payload history + entry_payload entry)

-- The refusal of a further entry behind a history with this last state, where one is due: the book is full where the entry
-- passes a limit. Its numbers are those before the entry, the place that is kept counted. A Stop is never refused.
abbrev pub full_at : Machine → List ControlEntry → ControlEntry → Option Full
full_at m history entry =
    if is_stop entry.call then None
    else (if passes_limit m history entry
    then Some (record { book = Control; entries = places m history; bytes = payload history })
    else None)
