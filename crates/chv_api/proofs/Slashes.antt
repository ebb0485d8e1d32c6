-- URLs with and without a final slash.
use Rattle.std.proofs.Common.{◌≡◌, ◌≢◌, ℕ, Bool, true, false, List, [], ◌∷◌, ◌++◌, refl, ap}
use Rattle.std.proofs.lemmas.Bool.{eqb-true}
use Rattle.std.specs.Prelude.{◌==◌, if◌then◌else◌}
use Rattle.chv_defs_api.specs.Routes.{without_final_slash}

-- where one stands at the end
pub without_final_slash-front : (front : List ℕ) → without_final_slash (front ++ (47 ∷ [])) ≡ front
without_final_slash-front [] = refl
without_final_slash-front (b ∷ []) = refl
without_final_slash-front (b ∷ c ∷ more) = ap (λ l. b ∷ l) (without_final_slash-front (c ∷ more))

-- a URL of one byte that is none
one : (b : ℕ) (is_slash : Bool) → (is_slash ≡ true → ⊥) → (if is_slash then [] else b ∷ []) ≡ b ∷ []
one b true none = absurd (none refl)
one b false none = refl

-- where none stands there
pub without_final_slash-whole : (url : List ℕ) → ((front : List ℕ) → url ≢ front ++ (47 ∷ [])) → without_final_slash url ≡ url
without_final_slash-whole [] none = refl
without_final_slash-whole (b ∷ []) none = one b (b == 47) (λ e. none [] (ap (λ n. n ∷ []) (eqb-true b 47 e)))
without_final_slash-whole (b ∷ c ∷ more) none = ap (λ l. b ∷ l) (without_final_slash-whole (c ∷ more) (λ front e. none (b ∷ front) (ap (λ l. b ∷ l) e)))
