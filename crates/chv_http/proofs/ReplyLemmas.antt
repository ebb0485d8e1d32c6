-- The phrases of the statuses that this server sends are those of the crate `http`.
use Rattle.std.proofs.Common.{◌≡◌, ℕ, ◌==◌, false, List, [], ◌∷◌, ◌++◌, append_assoc, ◌∙◌, Option, Some, None, option_map, Bor, refl, sym, subst, inl, inr, arith}
use Rattle.std.specs.Option.{unwrap_or}
use Rattle.std.proofs.lemmas.Bool.Decides.{nat_tests}
use Rattle.http.specs.StatusCode.{reason_phrase}
use Rattle.chv_defs_api.specs.Replies.{phrase, line_end}
use Rattle.chv_http.specs.Reply.{IsSent}

differs : (a b : ℕ) → ¬ (a ≡ b) → (a == b) ≡ false
differs a b other = grind (arith, nat_tests)

-- another status has no phrase
pub no_phrase : (status : ℕ) → ¬ (IsSent status) → ◌≡◌ {A = List ℕ} [] (phrase status)
unfolding phrase
no_phrase status other =
    let a = differs status 200 (λ e. other (inl e)) in
    let b = differs status 204 (λ e. other (inr (inl e))) in
    let c = differs status 400 (λ e. other (inr (inr (inl e)))) in
    let d = differs status 404 (λ e. other (inr (inr (inr (inl e))))) in
    let e = differs status 500 (λ e. other (inr (inr (inr (inr e))))) in
    rw (a, b, c, d, e) refl

-- a status that is sent has the crate's
pub same_phrase : (status : ℕ) → IsSent status → reason_phrase status ≡ Some (phrase status)
unfolding phrase
same_phrase status (inl e) = let P : ℕ → Type 0 = λ n. reason_phrase n ≡ Some (phrase n) in subst P (sym e) refl
same_phrase status (inr (inl e)) = let P : ℕ → Type 0 = λ n. reason_phrase n ≡ Some (phrase n) in subst P (sym e) refl
same_phrase status (inr (inr (inl e))) = let P : ℕ → Type 0 = λ n. reason_phrase n ≡ Some (phrase n) in subst P (sym e) refl
same_phrase status (inr (inr (inr (inl e)))) = let P : ℕ → Type 0 = λ n. reason_phrase n ≡ Some (phrase n) in subst P (sym e) refl
same_phrase status (inr (inr (inr (inr e)))) = let P : ℕ → Type 0 = λ n. reason_phrase n ≡ Some (phrase n) in subst P (sym e) refl

-- the text of an option that has one
pub text_of : (found : Option (Bor (List ℕ))) (other result : Bor (List ℕ)) (text : List ℕ)
    → option_map (λ s. s.now) found ≡ Some text → result ≡ unwrap_or found other → result.now ≡ text
text_of (Some s) other result text is unwrapped = cc
text_of None other result text is unwrapped = cc

-- the length's line, the empty line and the body
pub behind_length : (digits body : List ℕ)
    → digits ++ (13 ∷ 10 ∷ 13 ∷ 10 ∷ body) ≡ ((digits ++ line_end) ++ line_end) ++ body
behind_length digits body =
    sym (append_assoc (digits ++ line_end) line_end body ∙ append_assoc digits line_end (line_end ++ body))
