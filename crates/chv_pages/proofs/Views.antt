-- What the pages that are shown tell of the pages that are held.
use Rattle.std.proofs.Common.{◌≡◌, ℕ, ◌+◌, ◌-◌, ◌*◌, ◌/◌, ◌%◌, ◌<◌, ◌≤◌, Bool, true, false, List, [], ◌∷◌, None, Some, refl, sym, ◌∙◌, ap, subst, arith, length, get_or, suc, zero, zero-add}
use Rattle.std.specs.Prelude.{cond, ◌==◌, ◌&&◌, not, map, filter, slice_index}
use Rattle.std.specs.List.{filter_map, cons_option, range_with_len}
use Rattle.std.proofs.lemmas.Bool.{eqb-false}
use Rattle.std.proofs.lemmas.Bool.Decides.{nat_tests}
use Rattle.std.proofs.lemmas.List.{ext_get_or}
use Rattle.std.proofs.lemmas.List.FromFn.{get_or-map-range_with_len, length-map-range_with_len}
use Rattle.chv_lists.proofs.Bools.{bool_eq}
use Rattle.chv_defs_memory.specs.PageContents.{Contents, byte_at, byte_of, bytes_at, is_blank, is_inside, page_bytes, page_numbered, pages_of, Writes, Fills, Clears}
use Rattle.chv_pages.specs.Copies.{CopiedAt}
use Rattle.chv_pages.specs.declared.held.Held.{Held}
use Rattle.chv_pages.specs.HeldPages.{held_at, is_address, put, shown, visible, AreHeld, MakesRoom, WritesHeld}
use Rattle.chv_pages.proofs.Places.{one_address}
use Rattle.chv_pages.proofs.Puts.{put-read, put-keeps}
use Rattle.chv_pages.proofs.Pieces.{address_parts, address_true, inside_true}

-- a page of zeros reads as 0
blank-read : (bytes : List ℕ) (k : ℕ) → is_blank bytes ≡ true → slice_index bytes k ≡ 0
blank-read [] k h = refl
blank-read (x ∷ xs) k h = by (x == 0) refl h k (λ m rest. blank-read xs m rest)
  where
    by : (t : Bool) → (x == 0) ≡ t → (t && is_blank xs) ≡ true → (k : ℕ) → ((m : ℕ) → is_blank xs ≡ true → slice_index xs m ≡ 0) → slice_index (x ∷ xs) k ≡ 0
    by true e g zero f = grind (arith, nat_tests)
    by true e g (suc k) f = f k g
    by false e g k f = cc

weaken : (low from high : ℕ) (held : List Held) → low ≤ from → AreHeld from high held → AreHeld low high held
weaken low from high [] h a = tt
weaken low from high (x ∷ xs) h a = (omega arith, a.1, a.2, a.3)

-- pages behind a number hold none of its addresses
later-read : (number high : ℕ) (held : List Held) (b o : ℕ) → AreHeld (number + 1) high held → is_address number b o ≡ true → held_at held b o ≡ 0
later-read number high [] b o a there = refl
later-read number high (x ∷ xs) b o a there =
    by (is_address x.number b o) refl (later-read number high xs b o (weaken (number + 1) (x.number + 1) high xs (omega arith) a.3) there)
  where
    by : (t : Bool) → is_address x.number b o ≡ t → held_at xs b o ≡ 0 → cond t (slice_index x.page (o % 4096)) (held_at xs b o) ≡ 0
    by true e r = let same : x.number ≡ number = one_address x.number number b o e there in absurd (omega arith)
    by false e r = r

-- the byte by the pages that are shown is the byte by the pages that are held
pub visible-read : (low high : ℕ) (held : List Held) (b o : ℕ) → AreHeld low high held → byte_of (visible held) b o ≡ held_at held b o
visible-read low high [] b o a = refl
visible-read low high (x ∷ xs) b o a =
    by (is_blank x.page) (is_address x.number b o) refl refl (visible-read (x.number + 1) high xs b o a.3) (λ there. later-read x.number high xs b o a.3 there)
  where
    by : (t u : Bool) → is_blank x.page ≡ t → is_address x.number b o ≡ u → byte_of (visible xs) b o ≡ held_at xs b o → (is_address x.number b o ≡ true → held_at xs b o ≡ 0) →
        byte_of (cons_option (cond t None (Some (record { block = x.number / 512; page = x.number % 512; bytes = x.page }))) (visible xs)) b o ≡ cond u (slice_index x.page (o % 4096)) (held_at xs b o)
    by true true e f r none = r ∙ none f ∙ sym (blank-read x.page (o % 4096) e)
    by true false e f r none = r
    by false true e f r none = ap (λ c. cond c (slice_index x.page (o % 4096)) (byte_of (visible xs) b o)) f
    by false false e f r none = ap (λ c. cond c (slice_index x.page (o % 4096)) (byte_of (visible xs) b o)) f ∙ r

-- ---- reading

pub bytes-are : (memory : Contents) (high : ℕ) (held : List Held) (block offset : ℕ) (into : List ℕ) (len : ℕ) → AreHeld 0 high held → visible held ≡ memory.pages → length into ≡ len → ((k : ℕ) → k < len → slice_index into k ≡ held_at held block (offset + k)) → into ≡ bytes_at memory block offset len
bytes-are memory high held block offset into len a e count read =
    ext_get_or 0 into (bytes_at memory block offset len) (count ∙ sym (length-map-range_with_len (byte_at memory block) offset len))
    (λ k small.
    let below : k < len = omega (arith, count) in
    read k below
    ∙ sym (visible-read 0 high held block (offset + k) a)
    ∙ ap (λ pages. byte_of pages block (offset + k)) e
    ∙ sym (get_or-map-range_with_len (byte_at memory block) offset len k (offset + k) 0 below refl))

-- ---- writing

pub writes-are : (memory : Contents) (high : ℕ) (old mid new : List Held) (block offset : ℕ) (from : List ℕ) (reserved : ℕ) → visible old ≡ memory.pages → reserved ≡ memory.reserved → AreHeld 0 high mid → MakesRoom old mid → WritesHeld mid new block offset from → Writes memory (record { blocks = memory.blocks; pages = visible new; reserved = reserved }) block offset from
writes-are memory high old mid new block offset from reserved e f a room written =
    record {
      blocks = refl;
      reserved = f;
      bytes_after = λ b at.
          visible-read 0 high new b at (written.keeps high a)
          ∙ written.bytes_after b at
          ∙ ap (λ v. cond (b == block && is_inside offset (length from) at) (slice_index from (at - offset)) v)
          (sym (visible-read 0 high mid b at a) ∙ ap (λ pages. byte_of pages b at) (room.same ∙ e));
    }

-- ---- filling

page_address : (number block page b at : ℕ) → number ≡ block * 512 + page → page < 512 → is_address number b at ≡ (b == block && is_inside (page * 4096) 4096 at)
page_address number block page b at e small =
    bool_eq (is_address number b at) (b == block && is_inside (page * 4096) 4096 at)
    (λ h.
    let parts = address_parts number b at h in
    let same : b ≡ block = omega (arith, e, parts.0) in
    let inside : is_inside (page * 4096) 4096 at ≡ true = inside_true (page * 4096) 4096 at (omega (arith, e, parts.0, parts.1)) (omega (arith, e, parts.0, parts.1)) in
    both (b == block) (is_inside (page * 4096) 4096 at) (eqb_same b block same) inside)
    (λ h.
    let parts = split (b == block) (is_inside (page * 4096) 4096 at) h in
    let same : b ≡ block = eqb_true b block parts.0 in
    let range = inside_parts (page * 4096) 4096 at parts.1 in
    address_true number b at (omega (arith, e, same)) (omega (arith, e, same, range.0, range.1)))
  where
    both : (x y : Bool) → x ≡ true → y ≡ true → (x && y) ≡ true
    both true y h g = g
    both false y h g = cc

    split : (x y : Bool) → (x && y) ≡ true → (x ≡ true) × (y ≡ true)
    split true y h = (refl, h)
    split false y h = cc

    eqb_same : (x y : ℕ) → x ≡ y → (x == y) ≡ true
    eqb_same x y h = grind (arith, nat_tests)

    eqb_true : (x y : ℕ) → (x == y) ≡ true → x ≡ y
    eqb_true x y h = grind (arith, nat_tests)

    inside_parts : (offset len at : ℕ) → is_inside offset len at ≡ true → (offset ≤ at) × (at < offset + len)
    inside_parts offset len at h = (grind (arith, nat_tests), grind (arith, nat_tests))

-- a whole page that was written is the bytes
pub whole-page : (old new bytes : List ℕ) → length new ≡ 4096 → length bytes ≡ 4096 → CopiedAt old new 0 bytes → new ≡ bytes
whole-page old new bytes full whole copied =
    ext_get_or 0 new bytes (full ∙ sym whole)
    (λ k small. ap (slice_index new) (sym (zero-add k)) ∙ copied.inside k (omega (arith, full, whole)))

pub fills-are : (memory : Contents) (high : ℕ) (old : List Held) (number block page : ℕ) (bytes : List ℕ) (reserved : ℕ) → visible old ≡ memory.pages → reserved + 1 ≡ memory.reserved → AreHeld 0 high old → number ≡ block * 512 + page → number < high → page < 512 → length bytes ≡ 4096 → Fills memory (record { blocks = memory.blocks; pages = visible (put old number bytes); reserved = reserved }) block page bytes
fills-are memory high old number block page bytes reserved e f a where_ low small whole =
    record {
      blocks = refl;
      reserved = f;
      bytes_after = λ b at.
          visible-read 0 high (put old number bytes) b at (put-keeps 0 high old number bytes (omega arith) low whole a)
          ∙ put-read old number bytes b at
          ∙ by b at (b == block && is_inside (page * 4096) 4096 at) (page_address number block page b at where_ small);
    }
  where
    by : (b at : ℕ) (t : Bool) → is_address number b at ≡ t → cond (is_address number b at) (slice_index bytes (at % 4096)) (held_at old b at) ≡ cond t (slice_index bytes (at - page * 4096)) (byte_of memory.pages b at)
    by b at true h =
        let parts = address_parts number b at h in
        let place : at % 4096 ≡ at - page * 4096 = omega (arith, where_, parts.1, small) in
        ap (λ c. cond c (slice_index bytes (at % 4096)) (held_at old b at)) h ∙ ap (slice_index bytes) place
    by b at false h =
        ap (λ c. cond c (slice_index bytes (at % 4096)) (held_at old b at)) h
        ∙ sym (visible-read 0 high old b at a) ∙ ap (λ pages. byte_of pages b at) e

-- ---- clearing

pub filter-keeps : (low high block : ℕ) (held : List Held) → AreHeld low high held → AreHeld low high (filter (λ h. not (h.number / 512 == block)) held)
filter-keeps low high block [] a = tt
filter-keeps low high block (x ∷ xs) a = by (not (x.number / 512 == block)) (filter-keeps (x.number + 1) high block xs a.3)
  where
    by : (t : Bool) → AreHeld (x.number + 1) high (filter (λ h. not (h.number / 512 == block)) xs) → AreHeld low high (cond t (x ∷ filter (λ h. not (h.number / 512 == block)) xs) (filter (λ h. not (h.number / 512 == block)) xs))
    by true r = (a.0, a.1, a.2, r)
    by false r = weaken low (x.number + 1) high (filter (λ h. not (h.number / 512 == block)) xs) (omega arith) r

zero_both : (t : Bool) → cond t 0 0 ≡ zero
zero_both true = refl
zero_both false = refl

filter-read : (block : ℕ) (held : List Held) (b o : ℕ) → held_at (filter (λ h. not (h.number / 512 == block)) held) b o ≡ cond (b == block) 0 (held_at held b o)
filter-read block [] b o = sym (zero_both (b == block))
filter-read block (x ∷ xs) b o = by (x.number / 512 == block) (is_address x.number b o) (b == block) refl refl refl (filter-read block xs b o)
  where
    by : (s t u : Bool) → (x.number / 512 == block) ≡ s → is_address x.number b o ≡ t → (b == block) ≡ u → held_at (filter (λ h. not (h.number / 512 == block)) xs) b o ≡ cond u 0 (held_at xs b o) →
        held_at (cond (not s) (x ∷ filter (λ h. not (h.number / 512 == block)) xs) (filter (λ h. not (h.number / 512 == block)) xs)) b o ≡ cond u 0 (cond t (slice_index x.page (o % 4096)) (held_at xs b o))
    by true true true p q v r = r
    by true true false p q v r =
        let parts = address_parts x.number b o q in
        absurd (eqb-false b block v (grind (arith, nat_tests)))
    by true false u p q v r = r
    by false true true p q v r =
        let parts = address_parts x.number b o q in
        absurd (eqb-false (x.number / 512) block p (grind (arith, nat_tests)))
    by false true false p q v r = ap (λ c. cond c (slice_index x.page (o % 4096)) (held_at (filter (λ h. not (h.number / 512 == block)) xs) b o)) q
    by false false u p q v r = ap (λ c. cond c (slice_index x.page (o % 4096)) (held_at (filter (λ h. not (h.number / 512 == block)) xs) b o)) q ∙ r

pub clears-are : (memory : Contents) (high : ℕ) (old new : List Held) (block : ℕ) (reserved : ℕ) → visible old ≡ memory.pages → reserved ≡ memory.reserved → AreHeld 0 high old → new ≡ filter (λ h. not (h.number / 512 == block)) old → Clears memory (record { blocks = memory.blocks; pages = visible new; reserved = reserved }) block
clears-are memory high old new block reserved e f a same =
    record {
      blocks = refl;
      reserved = f;
      bytes_after = λ b at.
          ap (λ xs. byte_of (visible xs) b at) same
          ∙ visible-read 0 high (filter (λ h. not (h.number / 512 == block)) old) b at (filter-keeps 0 high block old a)
          ∙ filter-read block old b at
          ∙ ap (λ v. cond (b == block) 0 v) (sym (visible-read 0 high old b at a) ∙ ap (λ pages. byte_of pages b at) e);
    }

-- ---- the pages that are shown are exactly those that are not all zero

unfolding_page : (byte : ℕ → ℕ → ℕ) (block page : ℕ) (bytes : List ℕ) → length bytes ≡ 4096 → ((k : ℕ) → k < 4096 → byte block (page * 4096 + k) ≡ slice_index bytes k) → page_bytes byte block page ≡ bytes
unfolding page_bytes
unfolding_page byte block page bytes full same =
    sized 4096 full same
  where
    sized : (n : ℕ) → length bytes ≡ n → ((k : ℕ) → k < n → byte block (page * 4096 + k) ≡ slice_index bytes k) → map (byte block) (range_with_len (page * 4096) n) ≡ bytes
    sized n len eq =
        ext_get_or 0 (map (byte block) (range_with_len (page * 4096) n)) bytes (length-map-range_with_len (byte block) (page * 4096) n ∙ sym len)
        (λ k small.
        let below : k < n = omega (arith, length-map-range_with_len (byte block) (page * 4096) n) in
        get_or-map-range_with_len (byte block) (page * 4096) n k (page * 4096 + k) 0 below refl ∙ eq k below)

list_all-map : (f : ℕ → ℕ) (a n : ℕ) → ((k : ℕ) → a ≤ k → k < a + n → f k ≡ 0) → is_blank (map f (range_with_len a n)) ≡ true
list_all-map f a zero h = refl
list_all-map f a (suc n) h =
    let here : (f a == 0) ≡ true = (let e : f a ≡ 0 = h a (omega arith) (omega arith) in grind (arith, nat_tests)) in
    let rest : is_blank (map f (range_with_len (a + 1) n)) ≡ true = list_all-map f (a + 1) n (λ k low high. h k (omega arith) (omega arith)) in
    ap (λ b. b && is_blank (map f (range_with_len (a + 1) n))) here ∙ rest

blank-page : (byte : ℕ → ℕ → ℕ) (block page : ℕ) → ((k : ℕ) → page * 4096 ≤ k → k < page * 4096 + 4096 → byte block k ≡ 0) → is_blank (page_bytes byte block page) ≡ true
unfolding page_bytes
blank-page byte block page h = list_all-map (byte block) (page * 4096) 4096 h

-- the byte at each address of a number from low on is told by these pages
abbrev pub Tells : (ℕ → ℕ → ℕ) → ℕ → List Held → Type 0
Tells byte low held = (n b o : ℕ) → low ≤ n → is_address n b o ≡ true → byte b o ≡ held_at held b o

address-of : (n k : ℕ) → n % 512 * 4096 ≤ k → k < n % 512 * 4096 + 4096 → is_address n (n / 512) k ≡ true
address-of n k low high = address_true n (n / 512) k refl (omega arith)

-- the page of a number that is held, and of one that is not
numbered-held : (byte : ℕ → ℕ → ℕ) (x : Held) (xs : List Held) → length x.page ≡ 4096 → Tells byte x.number (x ∷ xs) → page_numbered byte x.number ≡ shown x
numbered-held byte x xs full tells =
    ap (λ bytes. cond (is_blank bytes) None (Some (record { block = x.number / 512; page = x.number % 512; bytes = bytes })))
    (unfolding_page byte (x.number / 512) (x.number % 512) x.page full (λ k small.
    let there : is_address x.number (x.number / 512) (x.number % 512 * 4096 + k) ≡ true = address-of x.number (x.number % 512 * 4096 + k) (omega arith) (omega arith) in
    let place : (x.number % 512 * 4096 + k) % 4096 ≡ k = omega arith in
    tells x.number (x.number / 512) (x.number % 512 * 4096 + k) (omega arith) there
    ∙ ap (λ c. cond c (slice_index x.page ((x.number % 512 * 4096 + k) % 4096)) (held_at xs (x.number / 512) (x.number % 512 * 4096 + k))) there
    ∙ ap (slice_index x.page) place))

numbered-none : (byte : ℕ → ℕ → ℕ) (low high : ℕ) (held : List Held) → AreHeld (low + 1) high held → Tells byte low held → page_numbered byte low ≡ None
numbered-none byte low high held a tells =
    ap (λ b. cond b None (Some (record { block = low / 512; page = low % 512; bytes = page_bytes byte (low / 512) (low % 512) })))
    (blank-page byte (low / 512) (low % 512) (λ k from to.
    let there : is_address low (low / 512) k ≡ true = address-of low k from to in
    tells low (low / 512) k (omega arith) there ∙ later-read low high held (low / 512) k a there))

tells-rest : (byte : ℕ → ℕ → ℕ) (x : Held) (xs : List Held) → Tells byte x.number (x ∷ xs) → Tells byte (x.number + 1) xs
tells-rest byte x xs tells n b o low there = tells n b o (omega arith) there ∙ by (is_address x.number b o) refl
  where
    by : (t : Bool) → is_address x.number b o ≡ t → cond t (slice_index x.page (o % 4096)) (held_at xs b o) ≡ held_at xs b o
    by true e = let same : x.number ≡ n = one_address x.number n b o e there in absurd (omega arith)
    by false e = refl

tells-later : (byte : ℕ → ℕ → ℕ) (low : ℕ) (held : List Held) → Tells byte low held → Tells byte (low + 1) held
tells-later byte low held tells n b o from there = tells n b o (omega arith) there

exact : (byte : ℕ → ℕ → ℕ) (count low : ℕ) (held : List Held) → AreHeld low (low + count) held → Tells byte low held → filter_map (page_numbered byte) (range_with_len low count) ≡ visible held
exact byte zero low [] a tells = refl
exact byte zero low (x ∷ xs) a tells = absurd (omega arith)
exact byte (suc count) low [] a tells =
    ap (λ o. cons_option o (filter_map (page_numbered byte) (range_with_len (low + 1) count))) (numbered-none byte low (low + suc count) [] tt tells)
    ∙ exact byte count (low + 1) [] tt (tells-later byte low [] tells)
exact byte (suc count) low (x ∷ xs) a tells = by (x.number == low) refl (exact byte count (low + 1))
  where
    end : low + suc count ≡ low + 1 + count
    end = omega arith

    by : (t : Bool) → (x.number == low) ≡ t → ((held : List Held) → AreHeld (low + 1) (low + 1 + count) held → Tells byte (low + 1) held → filter_map (page_numbered byte) (range_with_len (low + 1) count) ≡ visible held) →
        cons_option (page_numbered byte low) (filter_map (page_numbered byte) (range_with_len (low + 1) count)) ≡ visible (x ∷ xs)
    by true e rest =
        let same : x.number ≡ low = grind (arith, nat_tests) in
        let told : Tells byte x.number (x ∷ xs) = subst (λ n. Tells byte n (x ∷ xs)) (sym same) tells in
        let later : AreHeld (low + 1) (low + 1 + count) xs = subst (λ n. AreHeld (n + 1) (low + 1 + count) xs) same (subst (λ n. AreHeld (x.number + 1) n xs) end a.3) in
        let more : Tells byte (low + 1) xs = subst (λ n. Tells byte (n + 1) xs) same (tells-rest byte x xs told) in
        ap (λ n. cons_option (page_numbered byte n) (filter_map (page_numbered byte) (range_with_len (low + 1) count))) (sym same)
        ∙ ap (λ o. cons_option o (filter_map (page_numbered byte) (range_with_len (low + 1) count))) (numbered-held byte x xs a.2 told)
        ∙ ap (λ pages. cons_option (shown x) pages) (rest xs later more)
    by false e rest =
        let after : low + 1 ≤ x.number = grind (arith, nat_tests) in
        let all : AreHeld (low + 1) (low + suc count) (x ∷ xs) = (after, a.1, a.2, a.3) in
        ap (λ o. cons_option o (filter_map (page_numbered byte) (range_with_len (low + 1) count))) (numbered-none byte low (low + suc count) (x ∷ xs) all tells)
        ∙ rest (x ∷ xs) (subst (λ n. AreHeld (low + 1) n (x ∷ xs)) end all) (tells-later byte low (x ∷ xs) tells)

-- the pages that are shown are those of the bytes
pub shown-are : (blocks : ℕ) (held : List Held) (memory : Contents) → AreHeld 0 (blocks * 512) held → memory.blocks ≡ blocks → visible held ≡ memory.pages → visible held ≡ pages_of memory.blocks (byte_at memory)
shown-are blocks held memory a same e =
    let tells : Tells (byte_at memory) 0 held = λ n b o low there. ap (λ pages. byte_of pages b o) (sym e) ∙ visible-read 0 (blocks * 512) held b o a in
    let end : blocks * 512 ≡ 0 + blocks * 512 = omega arith in
    sym (ap (λ n. filter_map (page_numbered (byte_at memory)) (range_with_len 0 (n * 512))) same
    ∙ exact (byte_at memory) (blocks * 512) 0 held (subst (λ n. AreHeld 0 n held) end a) tells)

-- the numbers of pages lie below the end
pub below-end : (low high : ℕ) (held : List Held) (k : ℕ) (d : Held) → AreHeld low high held → k < length held → (get_or held k d).number < high
below-end low high [] k d a small = absurd (omega arith)
below-end low high (x ∷ xs) zero d a small = a.1
below-end low high (x ∷ xs) (suc k) d a small = below-end (x.number + 1) high xs k d a.3 (omega arith)
