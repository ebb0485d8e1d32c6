-- Texts that are joined.
use Rattle.std.proofs.Common.{◌≡◌, ℕ, List, ◌++◌, append_assoc}

pub regrouped : (a b c : List ℕ) → (a ++ b) ++ c ≡ a ++ (b ++ c)
regrouped a b c = append_assoc a b c
