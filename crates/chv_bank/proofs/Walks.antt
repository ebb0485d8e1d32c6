-- What holds of the entries before a place, from one place to another.
use Rattle.std.proofs.Common.{◌≡◌, ℕ, ◌+◌, ◌<◌, ◌≤◌, Bool, true, false, List, [], ◌∷◌, ◌++◌, Some, refl, sym, ap, subst, arith, suc, zero, length, take, inl, inr}
use Rattle.std.specs.Prelude.{slice_get, not, ◌&&◌, nat_lt, nat_le, filter, cond}
use Rattle.std.specs.List.{list_all, range_with_len}
use Rattle.std.proofs.lemmas.Bool.{cases_lt}
use Rattle.std.proofs.lemmas.Bool.Decides.{nat_tests}
use Rattle.chv_defs_memory.specs.declared.bank.BankEntry.{BankEntry}
use Rattle.chv_defs_memory.specs.declared.bank.Span.{Span}
use Rattle.chv_defs_memory.specs.BankState.{belongs, names, blocks_in}

-- the entry at a place
pub entry_at : (h : List BankEntry) (m : ℕ) → m < length h → (e : BankEntry) × (slice_get h m ≡ Some e)
entry_at [] m small = absurd (omega arith)
entry_at (x ∷ h) zero small = (x, refl)
entry_at (x ∷ h) (suc m) small = entry_at h m (omega arith)

pub place_within : (h : List BankEntry) (m : ℕ) (e : BankEntry) → slice_get h m ≡ Some e → m < length h
place_within [] m e at = cc
place_within (x ∷ h) zero e at = omega arith
place_within (x ∷ h) (suc m) e at = let below : m < length h = place_within h m e at in omega arith

-- the entries up to a place are those before it and the one there
pub take_snoc : (h : List BankEntry) (m : ℕ) (e : BankEntry) → slice_get h m ≡ Some e → take (suc m) h ≡ take m h ++ e ∷ []
take_snoc [] m e at = cc
take_snoc (x ∷ h) zero e at = let same : x ≡ e = cc in ap (λ (y : BankEntry). y ∷ []) same
take_snoc (x ∷ h) (suc m) e at = ap (λ (rest : List BankEntry). x ∷ rest) (take_snoc h m e at)

-- what holds right behind one place and is kept by each entry up to another holds there
pub walk : (h : List BankEntry) (P : List BankEntry → Type 0) (from at : ℕ) → P (take (suc from) h) → from < at → at ≤ length h
    → ((m : ℕ) (e : BankEntry) → from < m → m < at → slice_get h m ≡ Some e → P (take m h) → P (take m h ++ e ∷ [])) → P (take at h)
walk h P from zero base above inside step = absurd (omega arith)
walk h P from (suc at) base above inside step = elim (cases_lt from at) [
  | inl below ↦ (let e = entry_at h at (omega arith) in
      subst P (sym (take_snoc h at e.0 e.1)) (step at e.0 below (omega arith) e.1 (walk h P from at base below (omega arith) (λ m x low high there holds. step m x low (omega arith) there holds))))
  | inr last ↦ (let same : from ≡ at = omega arith in subst (λ n. P (take (suc n) h)) same base)
]

and_left : (a b : Bool) → (a && b) ≡ true → a ≡ true
and_left true b h = refl
and_left false b h = h

and_right : (a b : Bool) → (a && b) ≡ true → b ≡ true
and_right true b h = h
and_right false b h = cc

all_here : (p : ℕ → Bool) (low : ℕ) (rest : List ℕ) (s : Bool) → s ≡ true → list_all p (cond s (low ∷ rest) rest) ≡ true → p low ≡ true
all_here p low rest true e h = and_left (p low) (list_all p rest) h
all_here p low rest false e h = cc

all_rest : (p : ℕ → Bool) (low : ℕ) (rest : List ℕ) (s : Bool) → list_all p (cond s (low ∷ rest) rest) ≡ true → list_all p rest ≡ true
all_rest p low rest true h = and_right (p low) (list_all p rest) h
all_rest p low rest false h = h

in_range : (p : ℕ → Bool) (bank block low n : ℕ) → list_all p (filter (belongs bank) (range_with_len low n)) ≡ true → belongs bank block ≡ true → low ≤ block → block < low + n → p block ≡ true
in_range p bank block low zero h own from to = absurd (omega arith)
in_range p bank block low (suc n) h own from to = elim (cases_lt low block) [
  | inl below ↦ in_range p bank block (low + 1) n (all_rest p low (filter (belongs bank) (range_with_len (low + 1) n)) (belongs bank low) h) own (omega arith) (omega arith)
  | inr here ↦ (let same : low ≡ block = omega arith in
      subst (λ k. p k ≡ true) same (all_here p low (filter (belongs bank) (range_with_len (low + 1) n)) (belongs bank low) (subst (λ k. belongs bank k ≡ true) (sym same) own) h))
]

-- what all the bank's blocks of a span pass, each passes
pub each_named : (p : ℕ → Bool) (bank : ℕ) (span : Span) (block : ℕ) → names bank span block ≡ true → list_all p (blocks_in bank span) ≡ true → p block ≡ true
each_named p bank span block named h =
    let own : belongs bank block ≡ true = and_left (belongs bank block) (nat_le span.first block && nat_lt block (span.first + span.count)) named in
    let inside : (nat_le span.first block && nat_lt block (span.first + span.count)) ≡ true = and_right (belongs bank block) (nat_le span.first block && nat_lt block (span.first + span.count)) named in
    let low : span.first ≤ block = (let e : nat_le span.first block ≡ true = and_left (nat_le span.first block) (nat_lt block (span.first + span.count)) inside in grind (arith, nat_tests)) in
    let high : block < span.first + span.count = (let e : nat_lt block (span.first + span.count) ≡ true = and_right (nat_le span.first block) (nat_lt block (span.first + span.count)) inside in grind (arith, nat_tests)) in
    in_range p bank block span.first span.count h own low high

pub not_not_true : (b : Bool) → not (not b) ≡ true → b ≡ true
not_not_true true h = refl
not_not_true false h = cc
