-- What stands in a front stands at the same place of the bytes that begin with it.
use Rattle.std.proofs.Common.{◌≡◌, ℕ, ◌-◌, ◌≤◌, ◌||◌, ◌==◌, Bool, List, ◌++◌, length, take, drop, slice_range, codes, bytes_eq, sym, ap, ◌∙◌, arith, length-drop}
use Rattle.std.proofs.lemmas.List.{take-append-le, drop-append-le, take-append-drop}
use Rattle.std.specs.List.{list_any}
use Rattle.httparse.specs.Grammar.{RequestHead}
use Rattle.chv_defs_api.specs.declared.request.Request.{Request}
use Rattle.chv_defs_api.specs.Requests.{request_of, fields_of, asks_to_close}

slice_of_front : (front rest : List ℕ) (start end : ℕ) → start ≤ end → end ≤ length front
    → slice_range (front ++ rest) start end ≡ slice_range front start end
slice_of_front front rest start end ordered within =
    let whole : start ≤ length front = omega arith in
    let part : end - start ≤ length (drop start front) = omega (arith, length-drop start front) in
    ap (take (end - start)) (drop-append-le start front rest whole)
    ∙ take-append-le (end - start) (drop start front) rest part

-- a part of the first n bytes is that part of all
pub slice_of_all : (bytes : List ℕ) (n start end : ℕ) → start ≤ end → end ≤ length (take n bytes)
    → slice_range bytes start end ≡ slice_range (take n bytes) start end
slice_of_all bytes n start end ordered within =
    ap (λ b. slice_range b start end) (sym (take-append-drop n bytes))
    ∙ slice_of_front (take n bytes) (drop n bytes) start end ordered within

-- the request of these parts
pub request_is : (head : RequestHead) (body target shown : List ℕ) (put get last : Bool)
    → put ≡ bytes_eq head.method (codes "PUT") → get ≡ bytes_eq head.method (codes "GET")
    → last ≡ (head.minor == 0 || list_any asks_to_close (fields_of head)) → target ≡ head.target → shown ≡ body
    → ◌≡◌ {A = Request} (record { put = put; get = get; target = target; body = shown; last = last }) (request_of head body)
request_is head body target shown put get last a b c d e = cc
