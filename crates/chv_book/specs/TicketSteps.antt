-- What each step of a book's table tells the seat that makes it. No contract of a user names what stands here.
use Rattle.std.specs.Prelude.{◌≡◌, ◌≢◌, ℕ, ◌%◌, ◌^◌, List, [], ◌∷◌, ◌++◌, Option, Some, None, Bool, true, false}
use mathlib.Core.Option.{some}
use Rattle.atomic_table.specs.Table.{Me, Step}
use Rattle.chv_book.specs.declared.view.View.{View}
use Rattle.chv_defs_book.specs.Histories.{entries_by, is_out, StartsWith}
use Rattle.chv_defs_book.specs.Passes.{Joins}
use Rattle.chv_book.specs.TicketRule.{opened, passed, serving, settled, waiting}

module _ {V E O : Type 0} where
  -- the value that the step announces comes into the slot, in the first seat's first turn
  abbrev pub opens : (V → ℕ × ℕ) → (V → O) → Step (Option V) → Me (Option V) (View E O) → ℕ → Me (Option V) (View E O) → Type 0
  opens side origin st m found m' = (y : V) → st.said ≡ some (Some y) → (m'.0 ≡ opened (origin y) (side y)) × (m'.1 ≡ (0, None) ∷ [])

  -- a ticket is drawn
  abbrev pub draws : Step (Option V) → Me (Option V) (View E O) → ℕ → Me (Option V) (View E O) → Type 0
  draws st m found m' = (t : ℕ) × (found ≡ t % 2 ^ 64) × (m'.0 ≡ waiting t m.0) × (m'.1 ≡ [])

  -- the turn is passed, and the slot given back
  abbrev pub passes_on : (V → List E) → (V → ℕ × ℕ) → Step (Option V) → Me (Option V) (View E O) → ℕ → Me (Option V) (View E O) → Type 0
  passes_on history side st m found m' = (y : V) → m.1 ≡ (0, Some y) ∷ [] → (m'.0 ≡ passed (history y) (side y) m.0) × (m'.1 ≡ [])

  -- what another seat's histories came to is told
  abbrev pub settles : (E → ℕ) → Step (Option V) → Me (Option V) (View E O) → ℕ → Me (Option V) (View E O) → Type 0
  settles by st m found m' = (m'.0 ≡ settled m.0) × (m'.1 ≡ []) × Joins by m.0.before m.0.out_before m.0.back m.0.back_caller m.0.seen

module _ {V E O : Type 0} (by : E → ℕ) (history : V → List E) (side : V → ℕ × ℕ) (origin : V → O) (is_still : List E → Bool) where
  -- what a seat knows of the value when its turn comes
  pub record Begun (v : View E O) (y : V) : Type 0 where
    pub front : StartsWith (history y) v.seen
    pub own : entries_by by v.caller (history y) ≡ entries_by by v.caller v.seen
    pub source_is : v.origin ≡ Some (origin y)
    pub moving : v.caller ≢ 0 → is_still (entries_by by 0 (history y)) ≡ false
    pub side_is : v.caller ≡ 0 → side y ≡ v.side
    pub kept : v.caller ≡ 0 → (n : ℕ) → is_out n v.out ≡ false → entries_by by n (history y) ≡ entries_by by n v.seen
    pub quiet : v.caller ≡ 0 → is_still (entries_by by 0 (history y)) ≡ true → v.out ≡ []

  -- what a seat owes of the value when it passes the turn
  pub record MayPass (v : View E O) (y : V) : Type 0 where
    pub added : List E
    pub longer_by : history y ≡ v.noted ++ added
    pub by_own : (n : ℕ) → n ≢ v.caller → entries_by by n added ≡ []
    pub source_is : v.origin ≡ Some (origin y)
    pub side_is : v.caller ≢ 0 → side y ≡ v.noted_side
    pub quiet : v.caller ≡ 0 → is_still (entries_by by 0 (history y)) ≡ true → v.out ≡ []

  -- a look: where its ticket is found, the seat takes the slot and knows the value, and else nothing changes
  abbrev pub looks : Step (Option V) → Me (Option V) (View E O) → ℕ → Me (Option V) (View E O) → Type 0
  looks st m found m' =
      (found ≡ m.0.ticket % 2 ^ 64 → (y : V) × (m'.0 ≡ serving (history y) (side y) m.0) × (m'.1 ≡ (0, Some y) ∷ []) × Begun m.0 y)
      × (found ≢ m.0.ticket % 2 ^ 64 → (m'.0 ≡ m.0) × (m'.1 ≡ []))
