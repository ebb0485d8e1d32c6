-- Bytes that lie in one page.
use Rattle.std.proofs.Common.{◌≡◌, ℕ, ◌+◌, ◌-◌, ◌*◌, ◌/◌, ◌%◌, ◌<◌, ◌≤◌, Bool, true, false, List, [], ◌∷◌, refl, sym, ◌∙◌, ap, arith, length, get_or, set, drop, suc, zero, inl, inr}
use Rattle.std.specs.Prelude.{cond, ◌==◌, ◌&&◌, slice_index, slice_range}
use Rattle.std.proofs.lemmas.Bool.{false_from_ne_true, cases_lt, and_parts, eq-eqb}
use Rattle.std.proofs.lemmas.Bool.Decides.{nat_tests}
use Rattle.std.proofs.lemmas.List.{get_or-drop, get_or-take, length-take, length-drop}
use Rattle.chv_defs_memory.specs.PageContents.{is_inside}
use Rattle.chv_pages.specs.Copies.{CopiedAt}
use Rattle.chv_pages.specs.declared.held.Held.{Held}
use Rattle.chv_pages.specs.HeldPages.{has_number, held_at, is_address, IsAt, AreHeld, WritesHeld}
use Rattle.chv_pages.proofs.Places.{at-read, at-set, at-numbers, at-keeps, none-read}

pub address_parts : (n b o : ℕ) → is_address n b o ≡ true → (n / 512 ≡ b) × (n % 512 ≡ o / 4096)
address_parts n b o h = (grind (arith, nat_tests), grind (arith, nat_tests))

pub address_true : (n b o : ℕ) → n / 512 ≡ b → n % 512 ≡ o / 4096 → is_address n b o ≡ true
address_true n b o h g = grind (arith, nat_tests)

inside_parts : (offset len at : ℕ) → is_inside offset len at ≡ true → (offset ≤ at) × (at < offset + len)
inside_parts offset len at h = (grind (arith, nat_tests), grind (arith, nat_tests))

pub inside_true : (offset len at : ℕ) → offset ≤ at → at < offset + len → is_inside offset len at ≡ true
inside_true offset len at h g = grind (arith, nat_tests)

pub outside_below : (offset len at : ℕ) → at < offset → is_inside offset len at ≡ false
outside_below offset len at h = grind (arith, nat_tests)

pub outside_above : (offset len at : ℕ) → offset + len ≤ at → is_inside offset len at ≡ false
outside_above offset len at h = grind (arith, nat_tests)

eqb_true : (a b : ℕ) → (a == b) ≡ true → a ≡ b
eqb_true a b h = grind (arith, nat_tests)

and_true_left : (a b : Bool) → a ≡ true → (a && b) ≡ b
and_true_left true b h = refl
and_true_left false b h = cc

-- an address of another page lies outside a piece
piece-out : (n block offset len b at : ℕ) → n ≡ block * 512 + offset / 4096 → offset < 2097152 → offset % 4096 + len ≤ 4096 → is_address n b at ≡ false → (b == block && is_inside offset len at) ≡ false
piece-out n block offset len b at e small page other =
    false_from_ne_true (b == block && is_inside offset len at) (λ h.
    let both = and_parts (b == block) (is_inside offset len at) h in
    let same : b ≡ block = eqb_true b block both.0 in
    let range = inside_parts offset len at both.1 in
    let there : is_address n b at ≡ true = address_true n b at (omega (arith, e, same, range.0, range.1, small, page)) (omega (arith, e, same, range.0, range.1, small, page)) in
    cc)

-- a piece that is written
piece-bytes : (n block offset b at : ℕ) (old new from : List ℕ) → n ≡ block * 512 + offset / 4096 → offset < 2097152 → offset % 4096 + length from ≤ 4096 → CopiedAt old new (offset % 4096) from → is_address n b at ≡ true → slice_index new (at % 4096) ≡ cond (b == block && is_inside offset (length from) at) (slice_index from (at - offset)) (slice_index old (at % 4096))
piece-bytes n block offset b at old new from e small page copied there =
    elim (cases_lt at offset) [
      | inl below ↦ copied.before (at % 4096) (omega (arith, e, parts.0, parts.1, small, below)) ∙ sym (result false (outside_below offset (length from) at below))
      | inr from_ ↦ (elim (cases_lt at (offset + length from)) [
        | inl inside ↦ ap (slice_index new) (place from_) ∙ copied.inside (at - offset) (omega (arith, from_, inside)) ∙ sym (result true (inside_true offset (length from) at from_ inside))
        | inr behind ↦ copied.behind (at % 4096) (omega (arith, e, parts.0, parts.1, small, behind, page)) ∙ sym (result false (outside_above offset (length from) at behind))
      ])
    ]
  where
    parts : (n / 512 ≡ b) × (n % 512 ≡ at / 4096)
    parts = address_parts n b at there

    same : b ≡ block
    same = omega (arith, e, parts.0, small)

    place : offset ≤ at → at % 4096 ≡ offset % 4096 + (at - offset)
    place low = omega (arith, e, parts.0, parts.1, small)

    result : (t : Bool) → is_inside offset (length from) at ≡ t → cond (b == block && is_inside offset (length from) at) (slice_index from (at - offset)) (slice_index old (at % 4096)) ≡ cond t (slice_index from (at - offset)) (slice_index old (at % 4096))
    result t h = ap (λ x. cond x (slice_index from (at - offset)) (slice_index old (at % 4096))) (and_true_left (b == block) (is_inside offset (length from) at) (eq-eqb b block same) ∙ h)

at-len : (low high : ℕ) (held : List Held) (place number : ℕ) (d : Held) → IsAt held place number → AreHeld low high held → length (get_or held place d).page ≡ 4096
at-len low high [] place number d h a = absurd h
at-len low high (x ∷ xs) zero number d h a = a.2
at-len low high (x ∷ xs) (suc place) number d h a = at-len (x.number + 1) high xs place number d h.1 a.3

-- the page at a place is replaced by one into which bytes were written
pub writes-piece : (held : List Held) (place block offset : ℕ) (page : List ℕ) (d : Held) (from : List ℕ) → IsAt held place (block * 512 + offset / 4096) → offset < 2097152 → offset % 4096 + length from ≤ 4096 → (number : ℕ) → number ≡ block * 512 + offset / 4096 → CopiedAt (get_or held place d).page page (offset % 4096) from → WritesHeld held (set held place (record { number = number; page = page })) block offset from
writes-piece held place block offset page d from at small fits number e copied =
    record {
      numbers = at-numbers held place (block * 512 + offset / 4096) v at e;
      keeps = λ high a. at-keeps 0 high held place (block * 512 + offset / 4096) v at e (copied.len ∙ at-len 0 high held place (block * 512 + offset / 4096) d at a) a;
      bytes_after = λ b o. at-set held place (block * 512 + offset / 4096) b o v at e ∙ by b o (is_address (block * 512 + offset / 4096) b o) refl;
    }
  where
    v : Held
    v = record { number = number; page = page }

    by : (b o : ℕ) (t : Bool) → is_address (block * 512 + offset / 4096) b o ≡ t →
        cond t (slice_index page (o % 4096)) (held_at held b o) ≡ cond (b == block && is_inside offset (length from) o) (slice_index from (o - offset)) (held_at held b o)
    by b o true there =
        piece-bytes (block * 512 + offset / 4096) block offset b o (get_or held place d).page page from refl small fits copied there
        ∙ ap (λ x. cond (b == block && is_inside offset (length from) o) (slice_index from (o - offset)) x) (sym (at-read held place (block * 512 + offset / 4096) b o d at there))
    by b o false other = sym (ap (λ x. cond x (slice_index from (o - offset)) (held_at held b o)) (piece-out (block * 512 + offset / 4096) block offset (length from) b o refl small fits other))

-- ---- reading

piece-address : (block offset done len k : ℕ) → (offset + done) % 4096 + len ≤ 4096 → offset + done + len ≤ 2097152 → done ≤ k → k < done + len → is_address (block * 512 + (offset + done) / 4096) block (offset + k) ≡ true
piece-address block offset done len k page small low high =
    address_true (block * 512 + (offset + done) / 4096) block (offset + k) (omega arith) (omega arith)

piece-place : (offset done len k : ℕ) → (offset + done) % 4096 + len ≤ 4096 → done ≤ k → k < done + len → (offset + k) % 4096 ≡ (offset + done) % 4096 + (k - done)
piece-place offset done len k page low high = omega arith

pub reads-piece : (held : List Held) (place block offset done len k : ℕ) (d : Held) (page before into : List ℕ) → IsAt held place (block * 512 + (offset + done) / 4096) → page ≡ (get_or held place d).page → length page ≡ 4096 → (offset + done) % 4096 + len ≤ 4096 → offset + done + len ≤ 2097152 → done ≤ k → k < done + len →
    CopiedAt before into done (slice_range page ((offset + done) % 4096) ((offset + done) % 4096 + len)) → slice_index into k ≡ held_at held block (offset + k)
reads-piece held place block offset done len k d page before into at e full fits small low high copied =
    let start = (offset + done) % 4096 in
    let width : start + len - start ≡ len = omega arith in
    let count : length (slice_range page start (start + len)) ≡ len = simp (length-take, length-drop) (omega (arith, full, fits)) in
    let where_ : k ≡ done + (k - done) = omega arith in
    let near : k - done < start + len - start = omega arith in
    ap (slice_index into) where_
    ∙ copied.inside (k - done) (omega (arith, count))
    ∙ get_or-take (start + len - start) (drop start page) (k - done) 0 near
    ∙ get_or-drop start page (k - done) 0
    ∙ ap (λ xs. slice_index xs (start + (k - done))) e
    ∙ sym (ap (slice_index (get_or held place d).page) (piece-place offset done len k fits low high))
    ∙ sym (at-read held place (block * 512 + (offset + done) / 4096) block (offset + k) d at (piece-address block offset done len k fits small low high))

pub reads-none : (held : List Held) (block offset done len k : ℕ) → has_number held (block * 512 + (offset + done) / 4096) ≡ false → (offset + done) % 4096 + len ≤ 4096 → offset + done + len ≤ 2097152 → done ≤ k → k < done + len → held_at held block (offset + k) ≡ 0
reads-none held block offset done len k none page small low high = none-read held (block * 512 + (offset + done) / 4096) block (offset + k) none (piece-address block offset done len k page small low high)

-- the number of the page at a place
pub at-number : (held : List Held) (place number : ℕ) (d : Held) → IsAt held place number → (get_or held place d).number ≡ number
at-number [] place number d h = absurd h
at-number (x ∷ xs) zero number d h = h
at-number (x ∷ xs) (suc place) number d h = at-number xs place number d h.1
