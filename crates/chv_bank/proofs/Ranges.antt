-- The first of a span's blocks that passes a test.
use Rattle.std.proofs.Common.{◌≡◌, ℕ, ◌+◌, ◌-◌, ◌<◌, ◌≤◌, Bool, true, false, List, [], ◌∷◌, None, Some, refl, ◌∙◌, ap, arith, suc, zero}
use Rattle.std.specs.Prelude.{cond, not, ◌&&◌, if◌then◌else◌, filter, find}
use Rattle.std.specs.List.{range_with_len, list_all}
use Rattle.chv_defs_memory.specs.BankState.{belongs}

-- the bank's blocks from one on and below another
abbrev pub blocks_between : ℕ → ℕ → ℕ → List ℕ
blocks_between bank low high = filter (belongs bank) (range_with_len low (high - low))

chosen : (p : ℕ → Bool) (low : ℕ) (rest : List ℕ) (s t : Bool) → p low ≡ t → find p (cond s (low ∷ rest) rest) ≡ (if s && t then Some low else find p rest)
chosen p low rest true true e = ap (λ b. cond b (Some low) (find p rest)) e
chosen p low rest true false e = ap (λ b. cond b (Some low) (find p rest)) e
chosen p low rest false t e = refl

-- a step of the search
pub find_next : (p : ℕ → Bool) (bank low high : ℕ) → low < high → find p (blocks_between bank low high) ≡ (if belongs bank low && p low then Some low else find p (blocks_between bank (low + 1) high))
find_next p bank low high h =
    let more : high - low ≡ suc (high - (low + 1)) = omega arith in
    ap (λ n. find p (filter (belongs bank) (range_with_len low n))) more ∙ chosen p low (blocks_between bank (low + 1) high) (belongs bank low) (p low) refl

-- the search goes on past a block that does not pass, or is another bank's
pub find_past : (p : ℕ → Bool) (bank low high : ℕ) → low < high → p low ≡ false → find p (blocks_between bank low high) ≡ find p (blocks_between bank (low + 1) high)
find_past p bank low high h e = find_next p bank low high h ∙ by (belongs bank low)
  where
    by : (s : Bool) → (if s && p low then Some low else find p (blocks_between bank (low + 1) high)) ≡ find p (blocks_between bank (low + 1) high)
    by true = ap (λ b. if b then Some low else find p (blocks_between bank (low + 1) high)) e
    by false = refl

pub find_other : (p : ℕ → Bool) (bank low high : ℕ) → low < high → belongs bank low ≡ false → find p (blocks_between bank low high) ≡ find p (blocks_between bank (low + 1) high)
find_other p bank low high h own = find_next p bank low high h ∙ ap (λ b. if b && p low then Some low else find p (blocks_between bank (low + 1) high)) own

same_choice : (p q : ℕ → Bool) (low : ℕ) (rest : List ℕ) (s : Bool) → p low ≡ q low → find p rest ≡ find q rest → find p (cond s (low ∷ rest) rest) ≡ find q (cond s (low ∷ rest) rest)
same_choice p q low rest true e f = ap (λ b. cond b (Some low) (find p rest)) e ∙ ap (λ o. cond (q low) (Some low) o) f
same_choice p q low rest false e f = f

-- tests that agree below a number find the same
pub find_same : (p q : ℕ → Bool) (bank high low n : ℕ) → low + n ≤ high → ((k : ℕ) → k < high → p k ≡ q k) → find p (filter (belongs bank) (range_with_len low n)) ≡ find q (filter (belongs bank) (range_with_len low n))
find_same p q bank high low zero h f = refl
find_same p q bank high low (suc n) h f =
    same_choice p q low (filter (belongs bank) (range_with_len (low + 1) n)) (belongs bank low) (f low (omega arith)) (find_same p q bank high (low + 1) n (omega arith) f)

none_here : (p : ℕ → Bool) (k : ℕ) (ks : List ℕ) (b : Bool) → p k ≡ b → (find p ks ≡ None → list_all (λ j. not (p j)) ks ≡ true) → cond b (Some k) (find p ks) ≡ None → (not b && list_all (λ j. not (p j)) ks) ≡ true
none_here p k ks true e f g = cc
none_here p k ks false e f g = f g

-- where none is found, none passes
pub none_passes : (p : ℕ → Bool) (ks : List ℕ) → find p ks ≡ None → list_all (λ k. not (p k)) ks ≡ true
none_passes p [] h = refl
none_passes p (k ∷ ks) h = none_here p k ks (p k) refl (none_passes p ks) h
