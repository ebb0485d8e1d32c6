-- What a step on a word leaves of the two numbers that the words tell.
use Rattle.std.proofs.Common.{◌≡◌, ℕ, ◌+◌, ◌%◌, ◌^◌, ◌<◌, List, length, get_or, set, sym, ap, ◌∙◌, subst, arith}
use Rattle.std.proofs.lemmas.List.{get_or-set_same, get_or-set_other, length-set, set-get_or}
use native.Mathlib.Nat.{mod-add-mod}
use Rattle.chv_book.specs.TicketRule.{WordsTell}

module _ (drawn served : ℕ) (words : List ℕ) (tell : WordsTell drawn served words) where
  there : (i : ℕ) → i < 17 → i < length words
  there i lt = subst (λ (n : ℕ). i < n) (sym tell.count) lt

  -- word 0 was set
  pub drawn_set : (n x : ℕ) → x ≡ n % 2 ^ 64 → WordsTell n served (set words 0 x)
  drawn_set n x is = record {
    count = length-set words 0 x ∙ tell.count;
    drawn_is = get_or-set_same words 0 x 0 (there 0 (omega arith)) ∙ is;
    served_is = get_or-set_other words 0 16 x 0 (λ (e : 16 ≡ 0). omega arith) ∙ tell.served_is;
  }

  -- word 16 was set
  pub served_set : (n x : ℕ) → x ≡ n % 2 ^ 64 → WordsTell drawn n (set words 16 x)
  served_set n x is = record {
    count = length-set words 16 x ∙ tell.count;
    drawn_is = get_or-set_other words 16 0 x 0 (λ (e : 0 ≡ 16). omega arith) ∙ tell.drawn_is;
    served_is = get_or-set_same words 16 x 0 (there 16 (omega arith)) ∙ is;
  }

  -- a ticket was drawn
  pub one_drawn : WordsTell (drawn + 1) served (set words 0 ((get_or words 0 0 + 1) % 2 ^ 64))
  one_drawn = drawn_set (drawn + 1) _ (ap (λ (x : ℕ). (x + 1) % 2 ^ 64) tell.drawn_is ∙ mod-add-mod drawn (2 ^ 64) 1)

  -- a turn was passed
  pub one_served : WordsTell drawn (served + 1) (set words 16 ((get_or words 16 0 + 1) % 2 ^ 64))
  one_served = served_set (served + 1) _ (ap (λ (x : ℕ). (x + 1) % 2 ^ 64) tell.served_is ∙ mod-add-mod served (2 ^ 64) 1)

  -- a word was looked at
  pub looked_at : (i : ℕ) → WordsTell drawn served (set words i (get_or words i 0))
  looked_at i = subst (WordsTell drawn served) (sym (set-get_or words i 0)) tell
