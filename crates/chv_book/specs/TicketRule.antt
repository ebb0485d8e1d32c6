-- The rule of a book's table: a ticket lock round one slot, whose value keeps a history. Word 0 is the number of tickets that
-- were drawn and word 16 the number of turns that were passed, both modulo 2^64; the words between them keep those who look
-- for their turn apart from those who draw. No contract of a user names what stands here.
use Rattle.std.specs.Prelude.{◌≡◌, ◌≢◌, ◌⊎◌, ℕ, ◌%◌, ◌^◌, ◌<◌, ◌≤◌, slice_index, List, [], ◌∷◌, length, Option, Some, None, Bool, true, false}
use mathlib.Core.Option.{some}
use mathlib.Core.Option as maybe
use lib.ListN.{get_elem?}
use Rattle.atomic_table.specs.Table.{State}
use Rattle.chv_book.specs.declared.view.View.{View}
use Rattle.chv_book.specs.declared.view.Stage.{Stage}
use Rattle.chv_book.specs.declared.view.Stage.TheVariants.{Opening, Idle, Waits, Serves, Joined, Spent}
use Rattle.chv_defs_book.specs.Histories.{entries_by, is_out, longer, without, StartsWith}
use Rattle.chv_defs_book.specs.Passes.{Joins}

-- whether a seat is one of a pass or of a turn
abbrev pub is_live : Stage → Bool
is_live Opening = false
is_live Idle = true
is_live Waits = true
is_live Serves = true
is_live Joined = true
is_live Spent = false

-- whether it holds a ticket
abbrev pub has_ticket : Stage → Bool
has_ticket Opening = false
has_ticket Idle = false
has_ticket Waits = true
has_ticket Serves = true
has_ticket Joined = false
has_ticket Spent = false

-- ---- what a view becomes

module _ {E O : Type 0} where
  -- the first seat, before the value is in the slot; it holds ticket 0
  abbrev pub opening : View E O
  opening = record { caller = 0; stage = Opening; ticket = 0; seen = []; side = (0, 0); out = []; origin = None; noted = []; noted_side = (0, 0); before = []; out_before = []; back = []; back_caller = 0 }

  -- the first seat's first turn, in which the value comes into the slot
  abbrev pub opened : O → ℕ × ℕ → View E O
  opened origin side = record { caller = 0; stage = Serves; ticket = 0; seen = []; side = side; out = []; origin = Some origin; noted = []; noted_side = side; before = []; out_before = []; back = []; back_caller = 0 }

  -- it has drawn this ticket
  abbrev pub waiting : ℕ → View E O → View E O
  waiting ticket v = record v { stage = Waits; ticket = ticket }

  -- its turn has come, and it noted the history and the side
  abbrev pub serving : List E → ℕ × ℕ → View E O → View E O
  serving history side v = record v { stage = Serves; noted = history; noted_side = side }

  -- it has seen the whole history, and knows the side with which the value was left
  abbrev pub passed : List E → ℕ × ℕ → View E O → View E O
  passed history side v = record v { stage = Idle; seen = history; side = side }

  -- the first seat, with this number noted as out
  abbrev pub lending : ℕ → View E O → View E O
  lending caller v = record v { out = caller ∷ v.out }

  -- a new seat for this number, which has seen what the first one has
  abbrev pub newcomer : ℕ → View E O → View E O
  newcomer caller v = record { caller = caller; stage = Idle; ticket = 0; seen = v.seen; side = (0, 0); out = []; origin = v.origin; noted = []; noted_side = (0, 0); before = []; out_before = []; back = []; back_caller = 0 }

  -- the first seat, which has taken another in; it remembers what both had seen
  abbrev pub rejoined : View E O → View E O → View E O
  rejoined v w = record v { stage = Joined; seen = longer v.seen w.seen; out = without w.caller v.out; before = v.seen; out_before = v.out; back = w.seen; back_caller = w.caller }

  -- it was told what that comes to
  abbrev pub settled : View E O → View E O
  settled v = record v { stage = Idle }

  -- a seat that was taken in
  abbrev pub spent : View E O
  spent = record { caller = 0; stage = Spent; ticket = 0; seen = []; side = (0, 0); out = []; origin = None; noted = []; noted_side = (0, 0); before = []; out_before = []; back = []; back_caller = 0 }

-- ---- what holds between steps

-- What there is: the history, the origin, how many turns were passed and tickets drawn, whose seat each ticket is, and the view
-- of the first seat.
pub record Board (E O : Type 0) : Type 0 where
  pub log : List E
  pub source : O
  pub served : ℕ
  pub drawn : ℕ
  pub holder : ℕ → ℕ
  pub first : View E O

-- the words tell how many tickets were drawn and turns passed
pub record WordsTell (drawn served : ℕ) (words : List ℕ) : Type 0 where
  pub count : length words ≡ 17
  pub drawn_is : slice_index words 0 ≡ drawn % 2 ^ 64
  pub served_is : slice_index words 16 ≡ served % 2 ^ 64

module _ {E O : Type 0} (by : E → ℕ) (b : Board E O) (seat : ℕ) (v : View E O) where
  -- A live seat knows a beginning of the history with all entries of its number. But for the first one its number is above 0
  -- and out.
  pub record Lives : Type 0 where
    pub below : v.caller < 2 ^ 32
    pub front : StartsWith b.log v.seen
    pub own : entries_by by v.caller b.log ≡ entries_by by v.caller v.seen
    pub source_is : v.origin ≡ Some b.source
    pub listed : seat ≢ 0 → (0 < v.caller) × (is_out v.caller b.first.out ≡ true)

  -- its ticket is drawn and not served yet, and is this seat's
  pub record HasTicket : Type 0 where
    pub from : b.served ≤ v.ticket
    pub before : v.ticket < b.drawn
    pub held_by : b.holder v.ticket ≡ seat

module _ {V E O : Type 0} (by : E → ℕ) (b : Board E O) (homes : List (maybe.Option (Option V))) (seat : ℕ) (v : View E O) where
  -- its turn has come: the slot is out with it, and it noted the history and the side
  pub record HasTurn : Type 0 where
    pub now : v.ticket ≡ b.served
    pub noted_is : v.noted ≡ b.log
    pub side_is : v.noted_side ≡ b.first.side
    pub away : homes ≡ maybe.none ∷ []

  -- what holds of a seat's view, by its stage
  abbrev pub Fits : Stage → Type 0
  Fits Opening = ⊥
  Fits Idle = Lives by b seat v
  Fits Waits = Lives by b seat v × HasTicket by b seat v
  Fits Serves = Lives by b seat v × HasTicket by b seat v × HasTurn
  Fits Joined = Lives by b seat v × Joins by v.before v.out_before v.back v.back_caller v.seen
  Fits Spent = Unit {0}

module _ {V E O : Type 0} (by : E → ℕ) (history : V → List E) (side : V → ℕ × ℕ) (origin : V → O) (is_still : List E → Bool) where
  -- the slot is out with a seat whose turn has come, or it has the value
  abbrev pub SlotFits : Board E O → List (maybe.Option (Option V)) → List (View E O) → Type 0
  SlotFits b homes views =
      ((seat : ℕ) × (v : View E O) × (get_elem? views seat ≡ some v) × (v.stage ≡ Serves))
      ⊎ ((y : V) × (homes ≡ some (Some y) ∷ []) × (history y ≡ b.log) × (side y ≡ b.first.side) × (origin y ≡ b.source))

  -- The value is in the book. Each ticket that is drawn and not served is held once, live seats have different numbers, the
  -- first seat has all entries of each number that is not out, and while the value is still no number is.
  pub record Runs (s : State (Option V) (View E O)) : Type 0 where
    pub board : Board E O
    pub words_tell : WordsTell board.drawn board.served s.words
    pub behind : board.served ≤ board.drawn
    pub first_is : get_elem? s.views 0 ≡ some board.first
    pub first_caller : board.first.caller ≡ 0
    pub first_lives : is_live board.first.stage ≡ true
    pub each : (seat : ℕ) (v : View E O) → get_elem? s.views seat ≡ some v → Fits by board s.homes seat v v.stage
    pub held : (t : ℕ) → board.served ≤ t → t < board.drawn → (v : View E O) × (get_elem? s.views (board.holder t) ≡ some v) × (has_ticket v.stage ≡ true) × (v.ticket ≡ t)
    pub alone : (i j : ℕ) (v w : View E O) → get_elem? s.views i ≡ some v → get_elem? s.views j ≡ some w → is_live v.stage ≡ true → is_live w.stage ≡ true → v.caller ≡ w.caller → i ≡ j
    pub kept : (n : ℕ) → is_out n board.first.out ≡ false → entries_by by n board.log ≡ entries_by by n board.first.seen
    pub quiet : is_still (entries_by by 0 board.log) ≡ true → board.first.out ≡ []
    pub slot : SlotFits board s.homes s.views

  -- Before the value is in the slot there is the first seat alone.
  pub record Opens (s : State (Option V) (View E O)) : Type 0 where
    pub words_tell : WordsTell 1 0 s.words
    pub views_are : s.views ≡ opening ∷ []
    pub homes_are : s.homes ≡ some None ∷ []

  -- the rule
  abbrev pub GoesInTurns : State (Option V) (View E O) → Type 0
  GoesInTurns s = Opens s ⊎ Runs s
