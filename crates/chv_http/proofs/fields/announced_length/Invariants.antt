use Rattle.std.proofs.Common.{◌≡◌, drop, map, ◌++◌}
use Rattle.std.specs.Option.{option_to_list, option_copied}
use Rattle.httparse.specs.Spans.{header_bytes}
use Rattle.chv_defs_api.specs.Requests.{values, content_length}
use Rattle.chv_http.proofs.fields.announced_length.Given as goal

-- the values are the one that was found, and those of the fields that are left
abbrev pub invariant-loop-field : goal.invariant-loop-field
invariant-loop-field l =
    values content_length (map (header_bytes l.head) l.fields)
    ≡ option_to_list (option_copied l.found)
    ++ values content_length (map (header_bytes l.head) (drop l.field-index l.fields))
