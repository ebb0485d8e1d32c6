-- What contracts see of a pass and of a turn, and what the calls on a book come to. They speak of histories alone.
use Rattle.std.specs.Prelude.{◌≡◌, ◌≢◌, ℕ, ◌<◌, Bool, true, false, List, [], ◌∷◌, ◌++◌, Option, Some, None}
use Rattle.atomic_table.specs.Seated.{TableId}
use Rattle.chv_defs_book.specs.Histories.{entries_by, is_out, longer, without, AreOfOthers, AreOut}

-- A pass: of which book and whose it is, whether it is free to take a turn, what it has seen of the history, and the value's
-- origin. The first pass, caller 0's, knows the side with which it left the value and the numbers that are out. A pass that has
-- a turn tells its caller alone.
pub record PassView (E O : Type 0) : Type 0 where
  pub book : TableId
  pub caller : ℕ
  pub free : Bool
  pub seen : List E
  pub side : ℕ × ℕ
  pub out : List ℕ
  pub origin : Option O

-- A turn: of which book and whose it is, the value, the history and the side that the value had when the turn began, and what
-- its pass knows of the origin and of the numbers that are out.
pub record TurnView (V E O : Type 0) : Type 0 where
  pub book : TableId
  pub caller : ℕ
  pub noted : List E
  pub noted_side : ℕ × ℕ
  pub out : List ℕ
  pub origin : Option O
  pub value : V

-- no book
abbrev pub no_book : TableId
no_book = record { words = 0; slots = 0; views_name = 0; atom = 0; block = 0; offset = 0; slot_names = [] }

module _ {E O : Type 0} where
  abbrev pub IsFree : PassView E O → Type 0
  IsFree pass = pass.free ≡ true

  abbrev pub IsFirst : PassView E O → Type 0
  IsFirst pass = pass.caller ≡ 0

  -- a pass that has a turn
  abbrev pub in_turn : ℕ → PassView E O
  in_turn caller = record { book = no_book; caller = caller; free = false; seen = []; side = (0, 0); out = []; origin = None }

  -- the first pass to a book whose value has this origin and this side, and no entry yet
  abbrev pub first_pass : TableId → O → ℕ × ℕ → PassView E O
  first_pass book origin side = record { book = book; caller = 0; free = true; seen = []; side = side; out = []; origin = Some origin }

  -- the first pass, with one number more that is out
  abbrev pub with_out : ℕ → PassView E O → PassView E O
  with_out caller first = record first { out = caller ∷ first.out }

  -- a pass for that number, which has seen what the first one has
  abbrev pub split_off : ℕ → PassView E O → PassView E O
  split_off caller first = record { book = first.book; caller = caller; free = true; seen = first.seen; side = (0, 0); out = []; origin = first.origin }

  -- the first pass, once another has ended: it has seen the longer of the two histories, and the number is not out any more
  abbrev pub taken_back : PassView E O → PassView E O → PassView E O
  taken_back first ended = record first { seen = longer first.seen ended.seen; out = without ended.caller first.out }

module _ {V E O : Type 0} where
  -- a turn of this pass at this value
  abbrev pub turn_of : PassView E O → V → List E → ℕ × ℕ → TurnView V E O
  turn_of pass value history side = record { book = pass.book; caller = pass.caller; noted = history; noted_side = side; out = pass.out; origin = pass.origin; value = value }

  -- the same turn at another value
  abbrev pub with_value : TurnView V E O → V → TurnView V E O
  with_value turn value = record turn { value = value }

  -- the pass behind its turn: it has seen the whole history
  abbrev pub behind : TurnView V E O → List E → ℕ × ℕ → PassView E O
  behind turn history side = record { book = turn.book; caller = turn.caller; free = true; seen = history; side = side; out = turn.out; origin = turn.origin }

-- What a pass finds as its turn begins: a history and a side.
pub record Begins {E O : Type 0} (by : E → ℕ) (is_still : List E → Bool) (pass : PassView E O) (history : List E) (side : ℕ × ℕ) : Type 0 where
  -- The history begins with all that the pass has seen; what is new are entries of others.
  pub more : List E
  pub seen : history ≡ pass.seen ++ more
  pub others : AreOfOthers by pass.caller more
  -- The first pass finds the side that it left, nothing new but entries of numbers that are out, and none out where the value
  -- is still.
  pub side_kept : pass.caller ≡ 0 → side ≡ pass.side
  pub of_out : pass.caller ≡ 0 → AreOut by pass.out more
  pub home : pass.caller ≡ 0 → is_still (entries_by by 0 history) ≡ true → pass.out ≡ []
  -- Another pass finds a value that is not still.
  pub moving : pass.caller ≢ 0 → is_still (entries_by by 0 history) ≡ false

-- One entry of the caller stands behind the history that was noted.
abbrev pub Appends : {E : Type 0} → (E → ℕ) → ℕ → List E → List E → Type 0
Appends {E} by caller noted history = (entry : E) × (by entry ≡ caller) × (history ≡ noted ++ entry ∷ [])

-- A turn may end with this history and this side: only the first pass changes the side, and it leaves the value still only
-- where no number is out.
pub record MayEnd {V E O : Type 0} (by : E → ℕ) (is_still : List E → Bool) (turn : TurnView V E O) (history : List E) (side : ℕ × ℕ) : Type 0 where
  pub side_kept : turn.caller ≢ 0 → side ≡ turn.noted_side
  pub home : turn.caller ≡ 0 → is_still (entries_by by 0 history) ≡ true → turn.out ≡ []

-- A pass for this number may be split off: by the first pass, while it has no turn, where the number is above 0 and not out,
-- and the first pass has not left the value still.
pub record MaySplit {E O : Type 0} (by : E → ℕ) (is_still : List E → Bool) (caller : ℕ) (first : PassView E O) : Type 0 where
  pub free : IsFree first
  pub is_first : IsFirst first
  pub above : 0 < caller
  pub home : is_out caller first.out ≡ false
  pub moving : is_still (entries_by by 0 first.seen) ≡ false

-- A history goes on from what the first pass has seen and from what another pass has. What is new to the first are entries of
-- numbers that were out, and none of caller 0; what is new to the other is none of its own caller's.
pub record Joins {E : Type 0} (by : E → ℕ) (seen : List E) (out : List ℕ) (others : List E) (caller : ℕ) (history : List E) : Type 0 where
  pub more : List E
  pub goes_on : history ≡ seen ++ more
  pub of_out : AreOut by out more
  pub of_others : AreOfOthers by 0 more
  pub rest : List E
  pub begins : history ≡ others ++ rest
  pub own : AreOfOthers by caller rest
