-- What the owner's calls leave of a bank as it is between control turns.
use Rattle.std.proofs.Common.{◌≡◌, ℕ, Bool, true, false, List, [], ◌∷◌, Option, None, Some, if◌then◌else◌, nat_lt, refl, sym, ap, subst, ◌∙◌, arith}
use Rattle.std.specs.Prelude.{◌&&◌, is_some}
use Rattle.std.proofs.Math.Bool.{and-false}
use Rattle.std.proofs.lemmas.Bool.Decides.{nat_tests}
use Rattle.chv_defs_base.specs.Sizes.{blocks_in}
use Rattle.chv_defs_api.specs.declared.config.ZoneConfig.{ZoneConfig}
use Rattle.chv_defs_memory.specs.declared.bank.BankCall.{BankCall}
use Rattle.chv_defs_memory.specs.declared.bank.BankCall.TheVariants as call
use Rattle.chv_defs_memory.specs.declared.bank.BankReply.TheVariants as reply
use Rattle.chv_defs_memory.specs.declared.bank.BankEntry.{BankEntry}
use Rattle.chv_defs_memory.specs.BankBook.{with_entry}
use Rattle.chv_defs_memory.specs.BankState.{belongs, is_frozen, is_open, is_sealed}
use Rattle.chv_defs_memory.specs.MadeCalls.{at_rest, with_calls, AreMade, IsAtRest}
use Rattle.chv_defs_memory.specs.Zones.{Known}
use Rattle.chv_defs_memory.proofs.ZoneLaws.{goes-on-none, sees-none, thawed-by-thaw}
use Rattle.chv_defs_control.specs.OwnerCalls.{IsLeft}
use Rattle.chv_control.specs.Rest.{boot_blocks_of}
use Rattle.chv_defs_memory.proofs.GoingOn.{frozen-entry, open-entry, sealed-entry}
use Rattle.chv_defs_memory.proofs.MadeLaws.{made-none}

-- A bank between control turns, by whether the machine is paused, whether it is booted, and the zone's configuration where it
-- is in effect.
pub record IsQuietSo (paused booted : Bool) (zone : Option ZoneConfig) (bank : ℕ) (known : Known) : Type 0 where
  pub rest : IsAtRest known
  pub frozen : is_frozen known.history ≡ (paused && is_some zone)
  pub opened : (block : ℕ) → belongs bank block ≡ true → is_open bank known.history block ≡ (booted && nat_lt block (boot_blocks_of zone))
  pub unsealed : (block : ℕ) → is_sealed bank known.history block ≡ false

never-below : (block : ℕ) → nat_lt block 0 ≡ false
never-below block = grind (arith, nat_tests)

-- no block of a zone that is not in effect is open
none-open : (booted : Bool) (block : ℕ) → (booted && nat_lt block 0) ≡ false
none-open booted block = ap (λ (b : Bool). booted && b) (never-below block) ∙ and-false booted

-- where the zone is not in effect, it does not matter whether the machine is paused or booted
pub quiet-nowhere : (paused booted : Bool) (zone other : Option ZoneConfig) (bank : ℕ) (known : Known) → zone ≡ None → IsQuietSo paused booted zone bank known → IsQuietSo false false other bank known
quiet-nowhere paused booted None other bank known none quiet = record {
  rest = quiet.rest;
  frozen = quiet.frozen ∙ and-false paused;
  opened = λ block mine. quiet.opened block mine ∙ none-open booted block;
  unsealed = quiet.unsealed;
}
quiet-nowhere paused booted (Some config) other bank known none quiet = cc

-- a bank in which no call was made
pub left-same : (zone : Option ZoneConfig) (bank : ℕ) (old new : Known) (calls : List BankCall) → IsAtRest old → calls ≡ [] → IsLeft zone [] bank old calls new → new ≡ old
left-same None bank old new calls rest none left = sees-none old new left
left-same (Some config) bank old new calls rest none left =
    let made : AreMade [] bank old.history [] new.history = subst (λ (cs : List BankCall). AreMade [] bank old.history cs new.history) none left.0 in
    left.1 ∙ ap at_rest (goes-on-none old.history new.history made) ∙ sym rest

-- the history of a bank in which calls were made
left-history : (bank : ℕ) (old new : Known) (calls so : List BankCall) → calls ≡ so → AreMade [] bank old.history calls new.history → new.history ≡ with_calls bank old.history so
left-history bank old new calls so same made = made-none bank old.history calls new.history made ∙ ap (λ (cs : List BankCall). with_calls bank old.history cs) same

-- ---- a boot

-- the calls of a boot in a zone in effect
abbrev pub shape_calls : ZoneConfig → List BankCall
shape_calls config = call.Shape (blocks_in config.size) ∷ []

-- behind a boot the boot blocks are open
pub quiet-booted : (paused booted : Bool) (zone : Option ZoneConfig) (bank : ℕ) (old new : Known) (calls : List BankCall) → paused ≡ false
    → ((config : ZoneConfig) → zone ≡ Some config → calls ≡ shape_calls config) → IsQuietSo paused booted zone bank old → IsLeft zone [] bank old calls new → IsQuietSo false true zone bank new
quiet-booted paused booted None bank old new calls running so quiet left =
    subst (IsQuietSo false true None bank) (sym (sees-none old new left)) (record {
      rest = quiet.rest;
      frozen = quiet.frozen ∙ and-false paused;
      opened = λ block mine. quiet.opened block mine ∙ none-open booted block ∙ sym (never-below block);
      unsealed = quiet.unsealed;
    })
quiet-booted paused booted (Some config) bank old new calls running so quiet left =
    let blocks : ℕ = blocks_in config.size in
    let same : new.history ≡ with_entry old.history 0 (call.Shape blocks) reply.Done = left-history bank old new calls (shape_calls config) (so config refl) left.0 in
    record {
      rest = left.1;
      frozen = ap is_frozen same ∙ frozen-entry old.history (call.Shape blocks) reply.Done ∙ quiet.frozen ∙ ap (λ (b : Bool). b && true) running;
      opened = λ block mine. ap (λ (h : List BankEntry). is_open bank h block) same ∙ open-entry bank block old.history (call.Shape blocks) reply.Done;
      unsealed = λ block. ap (λ (h : List BankEntry). is_sealed bank h block) same ∙ sealed-entry bank block old.history (call.Shape blocks) reply.Done;
    }

-- ---- a wipe

-- the calls of a wipe, by whether the bank is frozen
abbrev pub wipe_calls : Bool → List BankCall
wipe_calls frozen = if frozen then call.Thaw ∷ call.Wipe ∷ [] else call.Wipe ∷ []

wiped-frozen : (paused : Bool) (bank : ℕ) (history : List BankEntry) → is_frozen history ≡ (paused && true) → is_frozen (with_calls bank history (wipe_calls paused)) ≡ false
wiped-frozen true bank history frozen =
    frozen-entry (with_entry history 0 call.Thaw reply.Done) call.Wipe reply.Done ∙ thawed-by-thaw history reply.Done
wiped-frozen false bank history frozen = frozen-entry history call.Wipe reply.Done ∙ frozen

wiped-open : (paused : Bool) (bank block : ℕ) (history : List BankEntry) → is_open bank (with_calls bank history (wipe_calls paused)) block ≡ false
wiped-open true bank block history = open-entry bank block (with_entry history 0 call.Thaw reply.Done) call.Wipe reply.Done
wiped-open false bank block history = open-entry bank block history call.Wipe reply.Done

wiped-sealed : (paused : Bool) (bank block : ℕ) (history : List BankEntry) → is_sealed bank (with_calls bank history (wipe_calls paused)) block ≡ false
wiped-sealed true bank block history = sealed-entry bank block (with_entry history 0 call.Thaw reply.Done) call.Wipe reply.Done
wiped-sealed false bank block history = sealed-entry bank block history call.Wipe reply.Done

-- behind a wipe no block is open, and the bank is not frozen
pub quiet-wiped : (paused booted : Bool) (zone other : Option ZoneConfig) (bank : ℕ) (old new : Known) (calls : List BankCall)
    → ((config : ZoneConfig) → zone ≡ Some config → calls ≡ wipe_calls paused) → IsQuietSo paused booted zone bank old → IsLeft zone [] bank old calls new → IsQuietSo false false other bank new
quiet-wiped paused booted None other bank old new calls so quiet left =
    subst (IsQuietSo false false other bank) (sym (sees-none old new left)) (quiet-nowhere paused booted None other bank old refl quiet)
quiet-wiped paused booted (Some config) other bank old new calls so quiet left =
    let same : new.history ≡ with_calls bank old.history (wipe_calls paused) = left-history bank old new calls (wipe_calls paused) (so config refl) left.0 in
    record {
      rest = left.1;
      frozen = ap is_frozen same ∙ wiped-frozen paused bank old.history quiet.frozen;
      opened = λ block mine. ap (λ (h : List BankEntry). is_open bank h block) same ∙ wiped-open paused bank block old.history;
      unsealed = λ block. ap (λ (h : List BankEntry). is_sealed bank h block) same ∙ wiped-sealed paused bank block old.history;
    }
