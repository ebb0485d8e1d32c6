-- How a seat of a book's table is told as a pass or as a turn.
use Rattle.std.specs.Prelude.{◌≡◌, ℕ, true, List, [], ◌∷◌, length}
use Rattle.atomic_table.specs.Seated.{TableId}
use Rattle.chv_book.specs.declared.view.View.{View}
use Rattle.chv_book.specs.declared.view.Stage.TheVariants.{Idle}
use Rattle.chv_defs_book.specs.Passes.{in_turn, PassView, TurnView}

module _ {E O : Type 0} where
  -- a pass whose seat has this view
  abbrev pub rested : TableId → ℕ → View E O → PassView E O
  rested book caller v = record { book = book; caller = caller; free = true; seen = v.seen; side = v.side; out = v.out; origin = v.origin }

  -- a pass, by the views of its badge: one, or none while the seat is with a turn
  abbrev pub pass_of : TableId → ℕ → List (View E O) → PassView E O
  pass_of book caller [] = in_turn caller
  pass_of book caller (v ∷ vs) = rested book caller v

  -- the view of a pass that has no turn
  pub record Rests (caller count : ℕ) (v : View E O) : Type 0 where
    pub idle : v.stage ≡ Idle
    pub caller_is : v.caller ≡ caller
    pub count_is : length v.seen ≡ count

-- a turn whose seat has this view
abbrev pub held : {V E O : Type 0} → TableId → View E O → V → TurnView V E O
held book v value = record { book = book; caller = v.caller; noted = v.noted; noted_side = v.noted_side; out = v.out; origin = v.origin; value = value }
