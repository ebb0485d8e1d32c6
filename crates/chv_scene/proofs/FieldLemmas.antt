-- Names of routes are texts.
use Rattle.std.proofs.Common.{◌≡◌, ℕ, ◌<◌, ◌&&◌, nat_le, true, List, [], ◌∷◌, length, arith}
use Rattle.std.specs.List.{list_all, All}
use Rattle.std.specs.Str.{IsUtf8}
use Rattle.std.proofs.lemmas.Bool.{and_parts}
use Rattle.std.proofs.lemmas.Bool.Decides.{nat_tests}
use Rattle.std.proofs.lemmas.Str.{IsUtf8-from_ascii}
use Rattle.std.proofs.lemmas.Str.Ascii.{IsAscii-from_all}
use Rattle.std.proofs.lemmas.List.Elements.{All-nil, All-cons}
use Rattle.chv_defs_scene.specs.ScenarioLines.{is_route_byte, is_route_name}

ascii_byte : (b : ℕ) → is_route_byte b ≡ true → b < 128
ascii_byte b h = grind (arith, nat_tests)

all_ascii : (bytes : List ℕ) → list_all is_route_byte bytes ≡ true → All (λ b. b < 128) bytes
all_ascii [] h = All-nil (λ b. b < 128)
all_ascii (b ∷ bytes) h =
    let parts = and_parts (is_route_byte b) (list_all is_route_byte bytes) h in
    All-cons (λ b. b < 128) b bytes (ascii_byte b parts.0) (all_ascii bytes parts.1)

-- a name of a route is a text
pub name_is_text : (name : List ℕ) → is_route_name name ≡ true → IsUtf8 name
name_is_text name h =
    let parts = and_parts (nat_le 1 (length name) && nat_le (length name) 32) (list_all is_route_byte name) h in
    IsUtf8-from_ascii name (IsAscii-from_all name (all_ascii name parts.1))
