use Rattle.std.proofs.Common.{◌≡◌, drop, map}
use Rattle.std.specs.List.{list_any}
use Rattle.httparse.specs.Spans.{header_bytes}
use Rattle.chv_defs_api.specs.Requests.{is_named}
use Rattle.chv_http.proofs.fields.has_field.Given as goal

-- the fields that are left decide
abbrev pub invariant-loop-field : goal.invariant-loop-field
invariant-loop-field l =
    list_any (is_named l.name) (map (header_bytes l.head) (drop l.field-index l.fields))
    ≡ list_any (is_named l.name) (map (header_bytes l.head) l.fields)
