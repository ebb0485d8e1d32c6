-- The function that reads a head from a front reads each head of the grammar, and nothing else.
use Rattle.std.proofs.Common.{◌≡◌, ℕ, Bool, true, false, ◌&&◌, cond, List, [], ◌++◌, length, get_or, bytes_eq, nat_lt, nat_le, Option, Some, None, refl, sym, ap, ◌∙◌}
use Rattle.std.proofs.lemmas.Bool.{ltb-true, leb-true, lt-ltb, le-leb}
use Rattle.std.proofs.lemmas.List.{append-nil}
use Rattle.std.proofs.lemmas.List.Sums.{list_all-from_AllPass, AllPass-from_list_all}
use Rattle.std.proofs.lemmas.Slice.Eq.{bytes_eq-Decides}
use Rattle.std.proofs.lemmas.Str.{IsUtf8-from_is_utf8, is_utf8-from_IsUtf8}
use Rattle.std.specs.List.{list_all}
use Rattle.std.specs.Str.{is_utf8}
use Rattle.httparse.specs.Grammar.{Field, IsField, RequestHead, IsRequestHead, print_request, IsToken, is_token, is_token_byte, is_uri_byte, is_value_byte}
use Rattle.chv_defs_api.specs.StreamCut.{parts_of, lines_of, is_field, is_request_head, head_of}
use Rattle.chv_http.specs.Head.{IsHead}
use Rattle.chv_http.proofs.LineLemmas.{both, head_again}

make : (a b : Bool) → a ≡ true → b ≡ true → (a && b) ≡ true
make a b x y = rw (x, y) refl

token_yes : (bytes : List ℕ) → IsToken bytes → is_token bytes ≡ true
token_yes bytes is =
    make (nat_lt 0 (length bytes)) (list_all is_token_byte bytes) (lt-ltb 0 (length bytes) is.0)
    (list_all-from_AllPass is_token_byte bytes is.1)

token_is : (bytes : List ℕ) → is_token bytes ≡ true → IsToken bytes
token_is bytes e =
    let parts = both (nat_lt 0 (length bytes)) (list_all is_token_byte bytes) e in
    (ltb-true 0 (length bytes) parts.0, AllPass-from_list_all is_token_byte bytes parts.1)

field_yes : (f : Field) → IsField f → is_field f ≡ true
field_yes f is = make (is_token f.name) (list_all is_value_byte f.raw) (token_yes f.name is.name) (list_all-from_AllPass is_value_byte f.raw is.raw)

field_is : (f : Field) → is_field f ≡ true → IsField f
field_is f e =
    let parts = both (is_token f.name) (list_all is_value_byte f.raw) e in
    record { name = token_is f.name parts.0; raw = AllPass-from_list_all is_value_byte f.raw parts.1 }

abbrev target_test : RequestHead → Bool
target_test h = nat_lt 0 (length h.target) && list_all is_uri_byte h.target && is_utf8 h.target

head_yes : (h : RequestHead) → IsRequestHead h → is_request_head h ≡ true
head_yes h is =
    make (is_token h.method && target_test h && nat_le h.minor 1) (list_all is_field h.fields)
    (make (is_token h.method && target_test h) (nat_le h.minor 1)
    (make (is_token h.method) (target_test h) (token_yes h.method is.method)
    (make (nat_lt 0 (length h.target) && list_all is_uri_byte h.target) (is_utf8 h.target)
    (make (nat_lt 0 (length h.target)) (list_all is_uri_byte h.target) (lt-ltb 0 (length h.target) is.target.0)
    (list_all-from_AllPass is_uri_byte h.target is.target.1))
    (is_utf8-from_IsUtf8 h.target is.target_text)))
    (le-leb h.minor 1 is.minor))
    (list_all-from_AllPass is_field h.fields (λ k d below. field_yes (get_or h.fields k d) (is.fields k d below)))

head_is : (h : RequestHead) → is_request_head h ≡ true → IsRequestHead h
head_is h e =
    let all = both (is_token h.method && target_test h && nat_le h.minor 1) (list_all is_field h.fields) e in
    let three = both (is_token h.method && target_test h) (nat_le h.minor 1) all.0 in
    let two = both (is_token h.method) (target_test h) three.0 in
    let target = both (nat_lt 0 (length h.target) && list_all is_uri_byte h.target) (is_utf8 h.target) two.1 in
    let bytes = both (nat_lt 0 (length h.target)) (list_all is_uri_byte h.target) target.0 in
    let fields = AllPass-from_list_all is_field h.fields all.1 in
    record {
      method = token_is h.method two.0;
      target = (ltb-true 0 (length h.target) bytes.0, AllPass-from_list_all is_uri_byte h.target bytes.1);
      target_text = IsUtf8-from_is_utf8 h.target target.1;
      minor = leb-true h.minor 1 three.1;
      fields = λ k d below. field_is (get_or h.fields k d) (fields k d below);
    }

-- the test of a head that was read
abbrev holds : List ℕ → RequestHead → Bool
holds front h = is_request_head h && bytes_eq front (print_request h) && nat_le (length h.fields) 32

abbrev given : List ℕ → RequestHead → Option RequestHead
given front h = cond (holds front h) (Some h) None

opened : (front : List ℕ) → head_of front ≡ given front (parts_of (lines_of front))
unfolding head_of
opened front = refl

chosen : (b : Bool) (x y : RequestHead) → ◌≡◌ {A = Option RequestHead} (cond b (Some x) None) (Some y) → (b ≡ true) × (x ≡ y)
chosen true x y e = (refl, cc)
chosen false x y e = cc

-- each head of at most 32 fields is read
pub head_found : (front : List ℕ) (h : RequestHead) → IsHead front h → head_of front ≡ Some h
head_found front h is =
    let same : front ≡ print_request h ++ [] = is.reads.1 in
    let parts : parts_of (lines_of front) ≡ h = ap (λ b. parts_of (lines_of b)) same ∙ head_again h is.reads.0 in
    let printed = (bytes_eq-Decides front (print_request h)).1 (same ∙ append-nil (print_request h)) in
    let test = make (is_request_head h && bytes_eq front (print_request h)) (nat_le (length h.fields) 32)
    (make (is_request_head h) (bytes_eq front (print_request h)) (head_yes h is.reads.0) printed)
    (le-leb (length h.fields) 32 is.room) in
    opened front ∙ ap (given front) parts ∙ ap (λ b. cond b (Some h) None) test

-- and what is read is one
pub head_sound : (front : List ℕ) (h : RequestHead) → head_of front ≡ Some h → IsHead front h
head_sound front h e =
    let head = parts_of (lines_of front) in
    let got = chosen (holds front head) head h (sym (opened front) ∙ e) in
    let test : holds front h ≡ true = sym (ap (holds front) got.1) ∙ got.0 in
    let outer = both (is_request_head h && bytes_eq front (print_request h)) (nat_le (length h.fields) 32) test in
    let inner = both (is_request_head h) (bytes_eq front (print_request h)) outer.0 in
    record {
      reads = (head_is h inner.0, (bytes_eq-Decides front (print_request h)).0 inner.1 ∙ sym (append-nil (print_request h)));
      room = leb-true (length h.fields) 32 outer.1;
    }
