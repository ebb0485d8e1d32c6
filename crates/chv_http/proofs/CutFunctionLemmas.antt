-- The function `cut` gives an outcome of the bytes.
use Rattle.std.proofs.Common.{◌≡◌, ℕ, ◌+◌, ◌≤◌, Bool, true, false, nat_lt, cond, List, length, take, drop, Option, Some, None, Result, Ok, Err, refl, inl, inr}
use Rattle.std.proofs.lemmas.Bool.{ltb-true, ltb-false}
use Rattle.httparse.specs.Grammar.{RequestHead}
use Rattle.chv_defs_base.specs.declared.rule.Rule.{Rule}
use Rattle.chv_defs_base.specs.declared.rule.Rule.TheVariants.{BadHead}
use Rattle.chv_defs_api.specs.declared.request.Took.{Took}
use Rattle.chv_defs_api.specs.declared.request.Took.TheVariants as took
use Rattle.chv_defs_api.specs.HttpFront.{IsFront, HasNoFront}
use Rattle.chv_defs_api.specs.Requests.{fields_of, body_length, request_of, HasHead, Cuts}
use Rattle.chv_defs_api.specs.StreamCut.{front_end, head_of, cut_body, cut_head, cut_front, cut}
use Rattle.chv_http.proofs.FrontEndLemmas.{end_is, end_is_none}
use Rattle.chv_http.proofs.ReadingLemmas.{head_found, head_sound}

-- the outcome that a pair names
abbrev Gives : List ℕ → Took × List ℕ → Type 0
Gives bytes result = Cuts bytes result.0 result.1

whole_or_not : (bytes : List ℕ) (n : ℕ) (head : RequestHead) (len : ℕ) → HasHead bytes n head
    → body_length (fields_of head) ≡ Ok len → Gives bytes (cut_body bytes n head (Ok len))
whole_or_not bytes n head len has accepted = go (nat_lt (length bytes) (n + len)) refl
  where
    go : (b : Bool) → nat_lt (length bytes) (n + len) ≡ b
        → Gives bytes (cond b (took.NotYet, bytes) (took.Request (request_of head (take len (drop n bytes))), drop (n + len) bytes))
    go true short = (
      inr (n, head, len, record { begins = has; accepted = accepted }, ltb-true (length bytes) (n + len) short),
      refl,
    )
    go false whole = record {
      n = n;
      head = head;
      len = len;
      announces = record { begins = has; accepted = accepted };
      whole = ltb-false (length bytes) (n + len) whole;
      request_is = refl;
      rest_is = refl;
    }

judged : (bytes : List ℕ) (n : ℕ) (head : RequestHead) (r : Result ℕ Rule) → HasHead bytes n head
    → body_length (fields_of head) ≡ r → Gives bytes (cut_body bytes n head r)
judged bytes n head (Ok len) has e = whole_or_not bytes n head len has e
judged bytes n head (Err rule) has e = (inr (n, head, has, e), refl)

read : (bytes : List ℕ) (n : ℕ) (h : Option RequestHead) → IsFront bytes n → n ≤ 8192 → head_of (take n bytes) ≡ h
    → Gives bytes (cut_head bytes n h)
read bytes n None front short e = (
  inl (
    refl,
    inr (n, front, short, λ head has. cc (head_found (take n bytes) head (record { reads = has.reads; room = has.room }), e)),
  ),
  refl,
)
read bytes n (Some head) front short e =
    let is = head_sound (take n bytes) head e in
    judged bytes n head (body_length (fields_of head))
    (record { front = front; short = short; reads = is.reads; room = is.room }) refl

endless : (bytes : List ℕ) → HasNoFront bytes → Gives bytes (cut_front bytes None)
endless bytes none = go (nat_lt (length bytes) 8192) refl
  where
    go : (b : Bool) → nat_lt (length bytes) 8192 ≡ b → Gives bytes (cond b took.NotYet (took.Bad BadHead), bytes)
    go true short = (inl (none, ltb-true (length bytes) 8192 short), refl)
    go false long = (inl (refl, inl (none, ltb-false (length bytes) 8192 long)), refl)

fronted : (bytes : List ℕ) (n : Option ℕ) → front_end bytes ≡ n → Gives bytes (cut_front bytes n)
fronted bytes None e = endless bytes (end_is_none bytes e)
fronted bytes (Some n) e =
    let front = end_is bytes n e in
    read bytes n (head_of (take n bytes)) front.0 front.1 refl

-- the function gives an outcome
pub cut_gives : (bytes : List ℕ) → Cuts bytes (cut bytes).0 (cut bytes).1
unfolding cut
cut_gives bytes = fronted bytes (front_end bytes) refl
