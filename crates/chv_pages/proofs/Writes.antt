-- Writes one after another.
use Rattle.std.proofs.Common.{◌≡◌, ℕ, ◌+◌, ◌-◌, ◌≤◌, Bool, true, false, List, [], ◌∷◌, ◌++◌, refl, sym, ◌∙◌, ap, subst, arith, length, take, drop, inl, inr}
use Rattle.std.specs.Prelude.{cond, ◌==◌, ◌&&◌, ◌||◌, map, slice_index, slice_range}
use Rattle.std.proofs.lemmas.Bool.{cases_lt}
use Rattle.std.proofs.lemmas.List.{length-append, length-take}
use Rattle.std.proofs.Math.ListN.{get_or-append}
use Rattle.std.proofs.Math.Seq.{get_or-append_right, take-add}
use Rattle.chv_defs_memory.specs.PageContents.{is_inside}
use Rattle.chv_pages.specs.declared.held.Held.{Held}
use Rattle.chv_pages.specs.HeldPages.{has_number, held_at, WritesHeld}
use Rattle.chv_pages.proofs.Pieces.{inside_true, outside_below, outside_above}

-- which numbers are held is told by the numbers
pub has_number-numbers : (xs ys : List Held) (n : ℕ) → map (λ h. h.number) xs ≡ map (λ h. h.number) ys → has_number xs n ≡ has_number ys n
has_number-numbers xs ys n e = told xs ∙ ap (Rattle.std.specs.List.list_any (λ m. m == n)) e ∙ sym (told ys)
  where
    told : (zs : List Held) → has_number zs n ≡ Rattle.std.specs.List.list_any (λ m. m == n) (map (λ h. h.number) zs)
    told [] = refl
    told (z ∷ zs) = ap (λ b. (z.number == n) || b) (told zs)

and_left : (a b : Bool) → b ≡ true → (a && b) ≡ a
and_left true b h = h
and_left false b h = refl

-- two writes in a row are one
two-bytes : (offset at : ℕ) (xs ys : List ℕ) (same : Bool) (value : ℕ) →
    cond (same && is_inside (offset + length xs) (length ys) at) (slice_index ys (at - (offset + length xs))) (cond (same && is_inside offset (length xs) at) (slice_index xs (at - offset)) value)
    ≡ cond (same && is_inside offset (length (xs ++ ys)) at) (slice_index (xs ++ ys) (at - offset)) value
two-bytes offset at xs ys false value = refl
two-bytes offset at xs ys true value = elim (cases_lt at offset) [
  | inl below ↦ rw (outside_below (offset + length xs) (length ys) at (omega arith), outside_below offset (length xs) at below, outside_below offset (length (xs ++ ys)) at below) refl
  | inr from ↦ (elim (cases_lt at (offset + length xs)) [
    | inl first ↦ rw (outside_below (offset + length xs) (length ys) at first, inside_true offset (length xs) at from first, inside_true offset (length (xs ++ ys)) at from (omega (arith, first, length-append xs ys))) (sym (get_or-append xs ys 0 (at - offset) (omega arith)))
    | inr second ↦ (elim (cases_lt at (offset + length xs + length ys)) [
      | inl inside ↦
          (let place : at - offset - length xs ≡ at - (offset + length xs) = omega arith in
          rw (inside_true (offset + length xs) (length ys) at second inside, inside_true offset (length (xs ++ ys)) at from (omega (arith, inside, length-append xs ys)))
          (sym (get_or-append_right xs ys (at - offset) 0 (omega arith) ∙ ap (slice_index ys) place)))
      | inr behind ↦ rw (outside_above (offset + length xs) (length ys) at behind, outside_above offset (length xs) at second, outside_above offset (length (xs ++ ys)) at (omega (arith, behind, length-append xs ys))) refl
    ])
  ])
]

pub writes-then : (old mid new : List Held) (block offset : ℕ) (xs ys : List ℕ) → WritesHeld old mid block offset xs → WritesHeld mid new block (offset + length xs) ys → WritesHeld old new block offset (xs ++ ys)
writes-then old mid new block offset xs ys first second =
    record {
      numbers = second.numbers ∙ first.numbers;
      keeps = λ high a. second.keeps high (first.keeps high a);
      bytes_after = λ b at. second.bytes_after b at
          ∙ ap (λ v. cond (b == block && is_inside (offset + length xs) (length ys) at) (slice_index ys (at - (offset + length xs))) v) (first.bytes_after b at)
          ∙ two-bytes offset at xs ys (b == block) (held_at old b at);
    }

-- the first bytes, and those of one more piece
pub writes-more : (old mid new : List Held) (block offset done len : ℕ) (from : List ℕ) → done + len ≤ length from → WritesHeld old mid block offset (take done from) → WritesHeld mid new block (offset + done) (slice_range from done (done + len)) → WritesHeld old new block offset (take (done + len) from)
writes-more old mid new block offset done len from fits first second =
    let width : done + len - done ≡ len = omega arith in
    let count : length (take done from) ≡ done = simp length-take (omega arith) in
    let P : ℕ → Type 0 = λ n. WritesHeld mid new block (offset + n) (slice_range from done (done + len)) in
    let both : WritesHeld old new block offset (take done from ++ slice_range from done (done + len)) =
    writes-then old mid new block offset (take done from) (slice_range from done (done + len)) first (subst P (sym count) second) in
    let Q : List ℕ → Type 0 = λ bytes. WritesHeld old new block offset bytes in
    let joined : take done from ++ slice_range from done (done + len) ≡ take (done + len) from =
    ap (λ n. take done from ++ take n (drop done from)) width ∙ sym (take-add done len from) in
    subst Q joined both
