-- The pages that are not all zero, by the bytes of a number of blocks.
use Rattle.std.proofs.Common.{◌≡◌, ℕ, ◌+◌, ◌*◌, ◌/◌, ◌%◌, ◌<◌, ◌≤◌, List, ◌∷◌, Option, None, Some, refl, ◌∙◌, ap, arith, suc, zero, length}
use Rattle.std.specs.Prelude.{cond, map}
use Rattle.std.specs.List.{range_with_len, filter_map, cons_option}
use Rattle.chv_defs_memory.specs.declared.bank.PageAt.{PageAt}
use Rattle.chv_defs_memory.specs.declared.bank.BankEntry.{BankEntry}
use Rattle.chv_defs_memory.specs.BankState.{most_blocks}
use Rattle.chv_defs_memory.specs.LastByte.{last_byte}
use Rattle.chv_defs_memory.specs.LegalBank.{page_count}
use Rattle.chv_defs_memory.specs.BankBook.{pages_shown, pages_counted}
use Rattle.chv_defs_memory.specs.PageContents.{Contents, byte_at, page_bytes, page_numbered, is_blank, pages_of, AreExact}

-- bytes read by two readings that agree
pub map_same : {A : Type 0} (f g : ℕ → A) (low n : ℕ) → ((k : ℕ) → f k ≡ g k) → map f (range_with_len low n) ≡ map g (range_with_len low n)
map_same f g low zero h = refl
map_same f g low (suc n) h = ap (λ x. x ∷ map f (range_with_len (low + 1) n)) (h low) ∙ ap (λ xs. g low ∷ xs) (map_same f g (low + 1) n h)

page_same : (f g : ℕ → ℕ → ℕ) (block page : ℕ) → ((at : ℕ) → f block at ≡ g block at) → page_bytes f block page ≡ page_bytes g block page
unfolding page_bytes
page_same f g block page h = map_same (f block) (g block) (page * 4096) 4096 h

numbered_same : (f g : ℕ → ℕ → ℕ) (n : ℕ) → ((at : ℕ) → f (n / 512) at ≡ g (n / 512) at) → page_numbered f n ≡ page_numbered g n
numbered_same f g n h =
    ap (λ (bytes : List ℕ). let o : Option PageAt = cond (is_blank bytes) None (Some (record { block = n / 512; page = n % 512; bytes = bytes })) in o) (page_same f g (n / 512) (n % 512) h)

listed_same : (f g : ℕ → ℕ → ℕ) (blocks low n : ℕ) → low + n ≤ blocks * 512 → ((b at : ℕ) → b < blocks → f b at ≡ g b at) → filter_map (page_numbered f) (range_with_len low n) ≡ filter_map (page_numbered g) (range_with_len low n)
listed_same f g blocks low zero h e = refl
listed_same f g blocks low (suc n) h e =
    let small : low / 512 < blocks = omega arith in
    ap (λ o. cons_option o (filter_map (page_numbered f) (range_with_len (low + 1) n))) (numbered_same f g low (λ at. e (low / 512) at small))
    ∙ ap (cons_option (page_numbered g low)) (listed_same f g blocks (low + 1) n (omega arith) e)

-- the same bytes show the same pages
pub pages_of_same : (blocks : ℕ) (f g : ℕ → ℕ → ℕ) → ((b at : ℕ) → b < blocks → f b at ≡ g b at) → pages_of blocks f ≡ pages_of blocks g
pages_of_same blocks f g e = listed_same f g blocks 0 (blocks * 512) (omega arith) e

cons_len : (o : Option PageAt) (ps : List PageAt) → length (cons_option o ps) ≤ length ps + 1
cons_len None ps = omega arith
cons_len (Some p) ps = omega arith

few : (f : ℕ → ℕ → ℕ) (low n : ℕ) → length (filter_map (page_numbered f) (range_with_len low n)) ≤ n
few f low zero = omega arith
few f low (suc n) = omega (arith, cons_len (page_numbered f low) (filter_map (page_numbered f) (range_with_len (low + 1) n)), few f (low + 1) n)

-- there are no more of them than pages
pub pages_of_few : (blocks : ℕ) (f : ℕ → ℕ → ℕ) → length (pages_of blocks f) ≤ blocks * 512
pages_of_few blocks f = few f 0 (blocks * 512)

-- what memory shows, where it holds these bytes
pub shown-is : (memory : Contents) (blocks : ℕ) (f : ℕ → ℕ → ℕ) → AreExact memory → memory.blocks ≡ blocks → ((b at : ℕ) → b < blocks → byte_at memory b at ≡ f b at) → memory.pages ≡ pages_of blocks f
shown-is memory blocks f exact e same = exact ∙ ap (λ n. pages_of n (byte_at memory)) e ∙ pages_of_same blocks (byte_at memory) f same

-- memory shows no more pages than it has
pub shown-few : (memory : Contents) (blocks : ℕ) → AreExact memory → memory.blocks ≡ blocks → length memory.pages ≤ blocks * 512
shown-few memory blocks exact e = omega (arith, ap length exact, ap (λ n. n * 512) e, pages_of_few memory.blocks (byte_at memory))

-- the pages of a bank's history, where memory holds its bytes
pub history-shown : (memory : Contents) (bank : ℕ) (history : List BankEntry) → AreExact memory → memory.blocks ≡ most_blocks → ((b at : ℕ) → b < most_blocks → byte_at memory b at ≡ last_byte bank history b at) → memory.pages ≡ pages_shown bank history
unfolding pages_shown
history-shown memory bank history exact e same = shown-is memory most_blocks (last_byte bank history) exact e same

-- and how many they are
pub history-counted : (memory : Contents) (bank : ℕ) (history : List BankEntry) → AreExact memory → memory.blocks ≡ most_blocks → ((b at : ℕ) → b < most_blocks → byte_at memory b at ≡ last_byte bank history b at) → length memory.pages ≡ pages_counted bank history
unfolding pages_counted
history-counted memory bank history exact e same = ap length (shown-is memory most_blocks (last_byte bank history) exact e same)

-- the count is that of the definition
pub is-count : (bank : ℕ) (history : List BankEntry) → pages_counted bank history ≡ page_count bank history
unfolding pages_counted
is-count bank history = refl
