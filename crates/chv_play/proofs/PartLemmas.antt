-- A stream to which parts were appended.
use Rattle.std.proofs.Common.{◌≡◌, ℕ, List, ◌++◌, sym, ap, ◌∙◌, append_assoc}
use Rattle.chv_defs_api.specs.Replies.{line_end}

-- one part behind another
pub two_parts : (s t u a b : List ℕ) → t ≡ s ++ a → u ≡ t ++ b → u ≡ s ++ (a ++ b)
two_parts s t u a b first second = second ∙ ap (λ (l : List ℕ). l ++ b) first ∙ append_assoc s a b

pub three_parts : (s t u v a b c : List ℕ) → t ≡ s ++ a → u ≡ t ++ b → v ≡ u ++ c → v ≡ s ++ ((a ++ b) ++ c)
three_parts s t u v a b c first second third = two_parts s u v (a ++ b) c (two_parts s t u a b first second) third

-- a header, whose two line ends were appended at once
pub header_parts : (s t header name digits : List ℕ) → header ≡ name ++ (digits ++ (line_end ++ line_end)) → t ≡ s ++ header
    → t ≡ s ++ (((name ++ digits) ++ line_end) ++ line_end)
header_parts s t header name digits is appended = appended ∙ ap (λ (l : List ℕ). s ++ l) (is ∙ regrouped)
  where
    regrouped : name ++ (digits ++ (line_end ++ line_end)) ≡ ((name ++ digits) ++ line_end) ++ line_end
    regrouped = sym (append_assoc name digits (line_end ++ line_end)) ∙ sym (append_assoc (name ++ digits) line_end line_end)

-- a front, a header in four parts, and a body
pub put_parts : (s t u v f a b c d body : List ℕ) → t ≡ s ++ f → u ≡ t ++ (((a ++ b) ++ c) ++ d) → v ≡ u ++ body
    → v ≡ s ++ (((((f ++ a) ++ b) ++ c) ++ d) ++ body)
put_parts s t u v f a b c d body first second third =
    three_parts s t u v f (((a ++ b) ++ c) ++ d) body first second third ∙ ap (λ (l : List ℕ). s ++ (l ++ body)) regrouped
  where
    regrouped : f ++ (((a ++ b) ++ c) ++ d) ≡ (((f ++ a) ++ b) ++ c) ++ d
    regrouped = simp append_assoc
