-- What the head that was read from a front says of it.
use Rattle.std.specs.Prelude.{◌≡◌, ℕ, ◌≤◌, ◌⊎◌, ◌||◌, ◌==◌, List, [], length, take, Ok, Err, codes}
use Rattle.std.specs.List.{list_any}
use Rattle.std.specs.Str.{bytes_eq}
use Rattle.httparse.specs.Grammar.{RequestHead, ReadsRequest}
use Rattle.httparse.specs.Spans.{IsWithin, span_bytes}
use Rattle.chv_defs_base.specs.declared.rule.Rule.{Rule}
use Rattle.chv_defs_base.specs.declared.rule.Rule.TheVariants.{BadHead}
use Rattle.chv_defs_api.specs.HttpFront.{IsFront}
use Rattle.chv_defs_api.specs.Requests.{fields_of, asks_to_close, body_length}
use Rattle.chv_http.specs.declared.head.Head.{Head}

-- the whole front is this head of at most 32 fields
pub record IsHead (front : List ℕ) (tree : RequestHead) : Type 0 where
  pub reads : ReadsRequest front tree []
  pub room : length tree.fields ≤ 32

-- the whole front is a head, and these are its length and its parts
pub record IsHeadOf (front : List ℕ) (head : Head) (tree : RequestHead) : Type 0 where
  pub is_head : IsHead front tree
  pub len : head.len ≡ length front
  pub put : head.put ≡ bytes_eq tree.method (codes "PUT")
  pub get : head.get ≡ bytes_eq tree.method (codes "GET")
  pub within : IsWithin (length front) head.target
  pub target : span_bytes front head.target ≡ tree.target
  pub last : head.last ≡ (tree.minor == 0 || list_any asks_to_close (fields_of tree))
  pub body : body_length (fields_of tree) ≡ Ok head.body

-- the front is no head, or a head whose fields the rule refuses
abbrev pub RefusesFront : List ℕ → Rule → Type 0
RefusesFront front rule =
    ((rule ≡ BadHead) × ((tree : RequestHead) → ¬ (IsHead front tree)))
    ⊎ ((tree : RequestHead) × IsHead front tree × (body_length (fields_of tree) ≡ Err rule))

-- the bytes begin with the head, and its body is to follow
pub record Awaits (bytes : List ℕ) (head : Head) : Type 0 where
  pub front : IsFront bytes head.len
  pub short : head.len ≤ 8192
  pub within : head.len ≤ length bytes
  pub tree : RequestHead
  pub is : IsHeadOf (take head.len bytes) head tree
