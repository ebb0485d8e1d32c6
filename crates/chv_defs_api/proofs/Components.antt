-- The last component of a path.
use Rattle.std.proofs.Common.{◌≡◌, ◌≢◌, ℕ, ◌+◌, ◌-◌, ◌<◌, ◌≤◌, true, false, List, refl, ◌∙◌, ap, arith, length, drop, get_or}
use Rattle.std.specs.Prelude.{◌==◌, not}
use Rattle.std.specs.List.{suffix_len}
use Rattle.std.specs.Str.{NoCharPasses}
use Rattle.std.proofs.lemmas.List.{get_or-drop, length-drop}
use Rattle.std.proofs.lemmas.List.Sums.{suffix_len_is}
use Rattle.std.proofs.lemmas.Str.Pattern.{NoCharPasses-char}
use Rattle.chv_defs_api.specs.ConfigRules.{last_component}

no_slash : (b : ℕ) → b ≢ 47 → not (b == 47) ≡ true
no_slash b h = grind arith

-- where no slash stands from j on, and one stands before it
pub last_component-after : (path : List ℕ) (j : ℕ) → j ≤ length path → 0 < j → get_or path (j - 1) 0 ≡ 47 → NoCharPasses (λ d. d == 47) (drop j path) → last_component path ≡ drop j path
last_component-after path j small some here rest =
    let passes : (k : ℕ) → j ≤ k → k < length path → not (get_or path k 0 == 47) ≡ true = λ k low high. no_slash (get_or path k 0) (after k low high) in
    let stops : 0 < j → not (get_or path (j - 1) 0 == 47) ≡ false = λ _. rw here refl in
    let len : suffix_len (λ b. not (b == 47)) path ≡ length path - j = suffix_len_is (λ b. not (b == 47)) path j 0 small passes stops in
    let place : length path - suffix_len (λ b. not (b == 47)) path ≡ j = omega (arith, len) in
    ap (λ n. drop n path) place
  where
    after : (k : ℕ) → j ≤ k → k < length path → get_or path k 0 ≢ 47
    after k low high =
        let there : get_or (drop j path) (k - j) 0 ≢ 47 = NoCharPasses-char 47 (drop j path) (k - j) rest (omega arith) (simp length-drop (omega arith)) in
        let same : j + (k - j) ≡ k = omega arith in
        λ e. there (get_or-drop j path (k - j) 0 ∙ ap (λ n. get_or path n 0) same ∙ e)

-- where no slash stands
pub last_component-whole : (path : List ℕ) → NoCharPasses (λ d. d == 47) path → last_component path ≡ path
last_component-whole path none =
    let passes : (k : ℕ) → 0 ≤ k → k < length path → not (get_or path k 0 == 47) ≡ true = λ k low high. no_slash (get_or path k 0) (NoCharPasses-char 47 path k none (omega arith) high) in
    let len : suffix_len (λ b. not (b == 47)) path ≡ length path - 0 = suffix_len_is (λ b. not (b == 47)) path 0 0 (omega arith) passes (λ h. absurd (omega arith)) in
    let place : length path - suffix_len (λ b. not (b == 47)) path ≡ 0 = omega (arith, len) in
    ap (λ n. drop n path) place
