-- What the steps of a control call leave in the banks: where a test holds they are changed, and all others are as before.
use Rattle.std.specs.Prelude.{◌≡◌, ◌≤◌, ◌<◌, ℕ, ◌+◌, ◌-◌, ◌==◌, ◌&&◌, Bool, true, false, nat_lt, if◌then◌else◌, List, [], ◌∷◌, length, map, min, slice_get, Option, None, Some, Result, MatchResult}
use Rattle.std.specs.List.{range_with_len}
use Rattle.chv_defs_memory.specs.declared.bank.BankCall.{BankCall}
use Rattle.chv_defs_memory.specs.declared.bank.BankCall.TheVariants as call
use Rattle.chv_defs_memory.specs.declared.bank.Refusal.{Refusal}
use Rattle.chv_defs_api.specs.declared.config.ZoneConfig.{ZoneConfig}
use Rattle.chv_defs_base.specs.Sizes.{blocks_in}
use Rattle.chv_defs_memory.specs.BankBook.{pages_used, refused_or}
use Rattle.chv_defs_memory.specs.BankState.{banks, is_frozen, is_owner_call, IsCall}
use Rattle.chv_defs_memory.specs.MadeCalls.{pages_wanted, with_calls}
use Rattle.chv_defs_memory.specs.Zones.{first_due, zone_refusal, IsBank, Known, OwnerMayAsk}
use Rattle.chv_ctl_mem.specs.declared.plan.Plan.{Plan}
use Rattle.chv_ctl_mem.specs.declared.plan.Plan.TheVariants as plan
use Rattle.chv_ctl_mem.specs.ZoneCalls.{AreAsBefore}

-- Of the banks, those that pass a test are changed, by their zone's and their own number, and all others are as before.
pub record AreChanged (at : ℕ → ℕ → Bool) (change : ℕ → ℕ → Known → Known) (before after : ℕ → ℕ → Known) : Type 0 where
  pub each : (z b : ℕ) → IsBank z b → after z b ≡ (if at z b then change z b (before z b) else before z b)

-- ---- which banks

-- one bank
abbrev pub is_bank : ℕ → ℕ → ℕ → ℕ → Bool
is_bank zone bank z b = z == zone && b == bank

-- the banks of a zone below a number
abbrev pub is_bank_below : ℕ → ℕ → ℕ → ℕ → Bool
is_bank_below zone count z b = z == zone && nat_lt b count

-- every bank of a zone
abbrev pub is_in_zone : ℕ → ℕ → ℕ → Bool
is_in_zone zone z b = z == zone

-- every bank of the zones below a number
abbrev pub is_in_zone_below : ℕ → ℕ → ℕ → Bool
is_in_zone_below count z b = nat_lt z count

-- ---- changes

-- room for so many further entries, and for pages
abbrev pub more_places : ℕ → ℕ → ℕ → ℕ → Known → Known
more_places entries pages z b known = record known { entries = known.entries + entries; pages = pages }

-- reserved entries are given back until so many are left, and every reserved page
abbrev pub back_to : ℕ → ℕ → ℕ → Known → Known
back_to keep z b known = record known { entries = min known.entries keep; pages = 0 }

-- calls of the owner are made, each of which uses one reserved entry, and a Fill a reserved page
abbrev pub calls_made : List BankCall → ℕ → ℕ → Known → Known
calls_made calls z b known = record {
  history = with_calls b known.history calls;
  entries = known.entries - length calls;
  pages = known.pages - pages_wanted calls;
}

-- ---- plans

-- the calls of a plan in each bank of a zone of this configuration
abbrev pub plan_calls : Plan → ZoneConfig → List BankCall
plan_calls plan.Shape config = call.Shape (blocks_in config.size) ∷ []
plan_calls plan.Wipe config = call.Wipe ∷ []
plan_calls plan.ThawAndWipe config = call.Thaw ∷ call.Wipe ∷ []

-- where there is such a zone; of no zone there are none
abbrev pub plan_where : Option ZoneConfig → Plan → List BankCall
plan_where None p = []
plan_where (Some config) p = plan_calls p config

-- whether the banks are frozen before a plan
abbrev pub is_for_frozen : Plan → Bool
is_for_frozen plan.Shape = false
is_for_frozen plan.Wipe = false
is_for_frozen plan.ThawAndWipe = true

-- the calls of a plan are made in each zone
abbrev pub planned : List ZoneConfig → Plan → ℕ → ℕ → Known → Known
planned zones p z b known = calls_made (plan_where (slice_get zones z) p) z b known

-- ---- conditions

-- Nothing is reserved in a bank but so many entries.
pub record HasPlaces (count : ℕ) (known : Known) : Type 0 where
  pub entries : known.entries ≡ count
  pub pages : known.pages ≡ 0

-- in every bank of the zones below a number
abbrev pub HavePlaces : ℕ → ℕ → (ℕ → ℕ → Known) → Type 0
HavePlaces zones count known = (z b : ℕ) → z < zones → b < banks → HasPlaces count (known z b)

-- A call of the owner may be made in a bank while no context is lent, and an entry, and for a Fill a page, is reserved for it.
pub record MayMake (bank : ℕ) (c : BankCall) (known : Known) : Type 0 where
  pub call : IsCall bank c
  pub owner : is_owner_call c ≡ true
  pub condition : OwnerMayAsk [] bank known.history c
  pub entry : 0 < known.entries
  pub page : pages_used c ≤ known.pages

-- these calls may be made, one after another
abbrev pub MayMakeAll : ℕ → List BankCall → Known → Type 0
MayMakeAll bank [] known = Unit {0}
MayMakeAll bank (c ∷ calls) known = MayMake bank c known × MayMakeAll bank calls (calls_made (c ∷ []) 0 bank known)

-- A bank is frozen or not, and has places for this many entries, and for no page.
pub record IsReady (frozen : Bool) (places : ℕ) (known : Known) : Type 0 where
  pub frozen_so : is_frozen known.history ≡ frozen
  pub entries : known.entries ≡ places
  pub pages : known.pages ≡ 0

-- ---- room

-- the refusal of room for so many entries and pages in each bank of the zones below a number, where one is due
abbrev pub refusal_below : ℕ → ℕ → ℕ → (ℕ → ℕ → Known) → Option Refusal
refusal_below count entries pages known = first_due (map (λ z. zone_refusal z (known z) entries pages) (range_with_len 0 count))

-- What comes of asking for this room in some banks: the refusal, where one is due, and then all banks are as before; else these
-- have the room.
pub record HasRoom (at : ℕ → ℕ → Bool) (entries pages : ℕ) (due : Option Refusal) (before after : ℕ → ℕ → Known) (answer : Result (Unit {0}) Refusal) : Type 0 where
  pub answered : answer ≡ refused_or due (tt {0})
  pub left : MatchResult answer (λ _. AreChanged at (more_places entries pages) before after) (λ _. AreAsBefore before after)
