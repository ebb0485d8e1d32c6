use Rattle.std.proofs.Common.{◌≡◌, ◌≤◌, ◌++◌, ◌∷◌, [], ◌+◌, ℕ, sym, ap, ◌∙◌, subst, refl, arith, true, false, Bool, List, None, Ok, Err, if◌then◌else◌}
use Rattle.std.proofs.lemmas.Grind.{common_steps}
use Rattle.std.proofs.lemmas.List.Sums.{sum_by_push}
use Rattle.chv_defs_base.specs.Sizes.{most_payload}
use Rattle.chv_defs_control.specs.declared.machine.Machine.{Machine}
use Rattle.chv_defs_api.specs.declared.control.ControlEntry.{ControlEntry}
use Rattle.chv_defs_api.specs.declared.control.ControlCall.{ControlCall}
use Rattle.chv_defs_api.specs.declared.control.ControlCall.TheVariants as call
use Rattle.chv_defs_api.specs.declared.control.ControlReply.{ControlReply}
use Rattle.chv_defs_api.specs.declared.control.ControlReply.TheVariants as reply
use Rattle.chv_defs_api.specs.declared.shelf.OnShelf.{OnShelf}
use Rattle.chv_defs_memory.specs.Zones.{Known}
use Rattle.chv_defs_control.specs.ApiStep.{after, reply_to}
use Rattle.chv_defs_control.specs.ControlBook.{entry_payload, full_at, payload}
use Rattle.chv_defs_control.specs.ControlStep.{MayCall, Step}
use Rattle.chv_defs_control.specs.FullBooks.{first_full}
use Rattle.chv_defs_control.specs.OwnerCalls.{HaveTheCalls}
use Rattle.chv_ctl_api.specs.Changed.{changed}
use Rattle.chv_ctl_mem.specs.ZoneCalls as zones
use Rattle.chv_control.specs.declared.inner.Inner.TheVariants as inner
use Rattle.chv_control.specs.declared.made.Made.{Made}
use Rattle.chv_control.specs.Control.{answer_to, entered, entry_of, IsKept}
use Rattle.chv_control.specs.Rest.{AreKept}
use Rattle.chv_control.specs.Shelf.{sectors_of, shelf_of}
use Rattle.chv_control.proofs.Answered.{answered-full, answered-so, answered-stop, called-so, calls-same, control-not-full, where-full, where-made}
use Rattle.chv_control.proofs.Kept.{not-stop, payload-within, IsKept-after}
use Rattle.chv_control.proofs.KeptBanks.{are-at-rest, called-at-stop, AreKept-after, AreKept-same}
use Rattle.chv_control.proofs.control.Control.apply.Goals as goal

-- ---- a Stop

pub returns-in-Stop-clause-answer : goal.returns-in-Stop-clause-answer
returns-in-Stop-clause-answer g c =
    let shelf : List OnShelf = shelf_of (sectors_of g.D.Disk.sector_count) c.args.self.now.disks in
    let known : ℕ → ℕ → Known = g.Z.Banked.known c.args.self.now.zones in
    ap Ok c.stop.ensures.reply
    ∙ answered-stop shelf c.args.self.now.machine c.args.self.now.history known c.args.caller
    ∙ ap (λ (k : ControlCall). answer_to shelf known c.args.self.now c.args.caller k) (sym c.in-Stop.is)

pub returns-in-Stop-clause-called : goal.returns-in-Stop-clause-called
returns-in-Stop-clause-called g c =
    let known : ℕ → ℕ → Known = g.Z.Banked.known c.args.self.now.zones in
    let m = c.args.self.now.machine in
    let called : HaveTheCalls [] m call.Stop reply.Done known known = called-at-stop m c.args.self.now.history (g.Z.Banked.lent c.args.self.now.zones) known c.stop.ensures.kept in
    let left : HaveTheCalls [] m call.Stop reply.Done known (g.Z.Banked.known c.stop.new.self.zones) = subst (λ x. HaveTheCalls [] m call.Stop reply.Done known (g.Z.Banked.known x.zones)) (sym c.stop.ensures.entered) called in
    subst (λ x. HaveTheCalls [] m x c.stop.result known (g.Z.Banked.known c.stop.new.self.zones)) (sym c.in-Stop.is)
    (subst (λ x. HaveTheCalls [] m call.Stop x known (g.Z.Banked.known c.stop.new.self.zones)) (sym c.stop.ensures.reply) left)

-- ---- the books are asked

pub make_calls-called-requires-clause-rest : goal.make_calls-called-requires-clause-rest
make_calls-called-requires-clause-rest g c =
    are-at-rest c.self.inside.machine c.self.inside.history.items (g.Z.Banked.lent c.self.inside.zones) (g.Z.Banked.known c.self.inside.zones) c.self.invariant.4 c.self.invariant.3.formed.checked

-- ---- a book is full

pub invariant_of-self-in-Err : goal.invariant_of-self-in-Err
invariant_of-self-in-Err g c =
    let m : Machine = c.self.inside.machine in
    let items : c.make_room.new.history.items ≡ c.self.inside.history.items = c.in_ok-make_room.ensures.items in
    let same : zones.AreAsBefore (g.Z.Banked.known c.self.inside.zones) (g.Z.Banked.known c.make_calls-called.new.zones) =
    where-full _ _ c.make_calls-called.result c.in-Err.full (c.in_ok-called.ensures.ok.0 ∙ ap Ok c.in-Err.is) c.make_calls-called.ensures.called in
    let banks : AreKept m c.self.inside.history.items (g.Z.Banked.lent c.make_calls-called.new.zones) (g.Z.Banked.known c.make_calls-called.new.zones) =
    AreKept-same m c.self.inside.history.items (g.Z.Banked.lent c.self.inside.zones) (g.Z.Banked.lent c.make_calls-called.new.zones) (g.Z.Banked.known c.self.inside.zones) (g.Z.Banked.known c.make_calls-called.new.zones) c.self.invariant.4 same c.make_calls-called.ensures.home in (
      c.self.invariant.0,
      c.self.invariant.1 ∙ ap payload (sym items),
      grind (arith, common_steps),
      subst (λ (h : List ControlEntry). IsKept c.self.inside.shelf m h) (sym items) c.self.invariant.3,
      subst (λ (h : List ControlEntry). AreKept m h (g.Z.Banked.lent c.make_calls-called.new.zones) (g.Z.Banked.known c.make_calls-called.new.zones)) (sym items) banks,
    )

pub returns-in-Err-clause-answer : goal.returns-in-Err-clause-answer
returns-in-Err-clause-answer g c =
    let m : Machine = c.self.inside.machine in
    let shelf : List OnShelf = shelf_of (sectors_of g.D.Disk.sector_count) c.self.inside.disks.items in
    let known : ℕ → ℕ → Known = g.Z.Banked.known c.self.inside.zones in
    let caller = c.args.caller in
    let call = c.args.call.now in
    let seen : c.as_slice.result.now ≡ c.self.inside.history.items = c.as_slice.ensures.value ∙ c.in_ok-make_room.ensures.items in
    let entry : c.in_ok-made.made.entry ≡ entry_of shelf m caller call = c.in_ok-made.ensures.entry ∙ ap (λ (s : List OnShelf). entry_of s m caller call) c.self.invariant.0 in
    let due : c.in_ok-called.called ≡ zones.unless_full (first_full m c.as_slice.result.now known c.in_ok-made.made.entry) =
    called-so c.make_calls-called.result c.in_ok-called.called _ c.in_ok-called.ensures.ok.0 c.make_calls-called.ensures.answer in
    subst (λ x. Err (inner.Full c.in-Err.full) ≡ answer_to (shelf_of (sectors_of g.D.Disk.sector_count) x.disks) (g.Z.Banked.known x.zones) x caller call) c.self.view_is
    (answered-full shelf m c.self.inside.history.items c.as_slice.result.now known caller call c.in_ok-made.made.entry c.in_ok-called.called c.in-Err.full seen entry due c.in-Err.is)

pub returns-in-Err-clause-unchanged : goal.returns-in-Err-clause-unchanged
returns-in-Err-clause-unchanged g c =
    let same : zones.AreAsBefore (g.Z.Banked.known c.self.inside.zones) (g.Z.Banked.known c.make_calls-called.new.zones) =
    where-full _ _ c.make_calls-called.result c.in-Err.full (c.in_ok-called.ensures.ok.0 ∙ ap Ok c.in-Err.is) c.make_calls-called.ensures.called in
    λ z b is. same z b is ∙ ap (λ x. g.Z.Banked.known x.zones z b) c.self.view_is

-- ---- the calls were made

pub overflow_add-self : goal.overflow_add-self
overflow_add-self g c =
    let m : Machine = c.self.inside.machine in
    let shelf : List OnShelf = c.self.inside.shelf in
    let history : List ControlEntry = c.self.inside.history.items in
    let known : ℕ → ℕ → Known = g.Z.Banked.known c.self.inside.zones in
    let entry : ControlEntry = entry_of shelf m c.args.caller c.args.call.now in
    let seen : c.as_slice.result.now ≡ history = c.as_slice.ensures.value ∙ c.in_ok-make_room.ensures.items in
    let due : c.in_ok-called.called ≡ zones.unless_full (first_full m c.as_slice.result.now known c.in_ok-made.made.entry) =
    called-so c.make_calls-called.result c.in_ok-called.called _ c.in_ok-called.ensures.ok.0 c.make_calls-called.ensures.answer in
    let none : full_at m history entry ≡ None = control-not-full shelf m history c.as_slice.result.now known c.args.caller c.args.call.now c.in_ok-made.made.entry c.in_ok-called.called c.in_default-called.field-0 seen c.in_ok-made.ensures.entry due c.in_default-called.is in
    let within : payload history + entry_payload entry ≤ most_payload = payload-within m history entry (not-stop c.args.call.now c.in_default.not-Stop) none in
    let bytes : c.self.inside.bytes ≡ payload history = c.self.invariant.1 in
    let added : c.in_ok-called.made.added ≡ entry_payload entry = ap (λ (x : Made). x.added) (c.in_ok-called.ensures.ok.1) ∙ c.in_ok-made.ensures.added ∙ ap entry_payload c.in_ok-made.ensures.entry in
    omega (arith, within, bytes, added)

pub returns-clause-answer : goal.returns-clause-answer
returns-clause-answer g c =
    let sectors = sectors_of g.D.Disk.sector_count in
    let shelf : List OnShelf = shelf_of sectors c.self.inside.disks.items in
    let answers = reply_to shelf c.self.inside.machine c.args.call.now in
    let due : c.in_ok-called.called ≡ zones.unless_full (first_full c.self.inside.machine c.as_slice.result.now (g.Z.Banked.known c.self.inside.zones) c.in_ok-made.made.entry) =
    called-so c.make_calls-called.result c.in_ok-called.called _ c.in_ok-called.ensures.ok.0 c.make_calls-called.ensures.answer in
    let replied : c.in_ok-called.made.reply ≡ answers =
    ap (λ (x : Made). x.reply) c.in_ok-called.ensures.ok.1 ∙ c.in_ok-made.ensures.reply ∙ ap (λ (s : List OnShelf). reply_to s c.self.inside.machine c.args.call.now) c.self.invariant.0 in
    ap Ok replied
    ∙ subst (λ x. Ok answers ≡ answer_to (shelf_of sectors x.disks) (g.Z.Banked.known x.zones) x c.args.caller c.args.call.now) c.self.view_is
    (answered-so shelf c.self.inside.machine c.self.inside.history.items c.as_slice.result.now (g.Z.Banked.known c.self.inside.zones) c.args.caller c.args.call.now c.in_ok-made.made.entry c.in_ok-called.called c.in_default-called.field-0
    (c.as_slice.ensures.value ∙ c.in_ok-make_room.ensures.items)
    (c.in_ok-made.ensures.entry ∙ ap (λ (s : List OnShelf). entry_of s c.self.inside.machine c.args.caller c.args.call.now) c.self.invariant.0)
    due c.in_default-called.is)

pub returns-clause-called : goal.returns-clause-called
returns-clause-called g c =
    let m : Machine = c.self.inside.machine in
    let made : ControlEntry = c.in_ok-made.made.entry in
    let called : HaveTheCalls [] m made.call made.reply (g.Z.Banked.known c.self.inside.zones) (g.Z.Banked.known c.make_calls-called.new.zones) =
    where-made _ _ c.make_calls-called.result c.in_default-called.field-0 (c.in_ok-called.ensures.ok.0 ∙ ap Ok c.in_default-called.is) c.make_calls-called.ensures.called in
    let so : c.args.call.now ≡ made.call = sym (ap (λ (e : ControlEntry). e.call) c.in_ok-made.ensures.entry) in
    let replied : c.in_ok-called.made.reply ≡ made.reply =
    ap (λ (x : Made). x.reply) (c.in_ok-called.ensures.ok.1) ∙ c.in_ok-made.ensures.reply ∙ sym (ap (λ (e : ControlEntry). e.reply) c.in_ok-made.ensures.entry) in
    calls-same m c.args.self.now.machine made.call c.args.call.now made.reply c.in_ok-called.made.reply (g.Z.Banked.known c.self.inside.zones) (g.Z.Banked.known c.args.self.now.zones) (g.Z.Banked.known c.make_calls-called.new.zones)
    (sym (ap (λ x. x.machine) c.self.view_is)) so replied (sym (ap (λ x. g.Z.Banked.known x.zones) c.self.view_is)) called

pub returns-clause-entered : goal.returns-clause-entered
returns-clause-entered g c =
    let m : Machine = c.self.inside.machine in
    let shelf : List OnShelf = c.self.inside.shelf in
    let history : List ControlEntry = c.self.inside.history.items in
    let caller = c.args.caller in
    let call = c.args.call.now in
    let so : ControlReply → ControlEntry = λ r. record { caller = caller; call = call; reply = r } in
    let replied : c.in_ok-called.made.reply ≡ reply_to shelf m call = ap (λ (x : Made). x.reply) c.in_ok-called.ensures.ok.1 ∙ c.in_ok-made.ensures.reply in
    let entry : c.in_ok-called.made.entry ≡ so c.in_ok-called.made.reply = ap (λ (x : Made). x.entry) c.in_ok-called.ensures.ok.1 ∙ c.in_ok-made.ensures.entry ∙ ap so (sym replied) in
    let grown : c.put_entry.new.history.items ≡ history ++ so c.in_ok-called.made.reply ∷ [] =
    c.put_entry.ensures.items ∙ ap (λ (e : ControlEntry). c.make_room.new.history.items ++ e ∷ []) entry ∙ ap (λ (h : List ControlEntry). h ++ so c.in_ok-called.made.reply ∷ []) c.in_ok-make_room.ensures.items in
    let machine : c.api_commit.new.machine ≡ after m caller call c.in_ok-called.made.reply =
    c.api_commit.ensures
    ∙ ap (λ (x : Made). changed m x.change) c.in_ok-called.ensures.ok.1
    ∙ c.in_ok-made.ensures.change
    ∙ ap (λ (x : Made). after m caller call x.reply) (sym c.in_ok-called.ensures.ok.1) in
    subst (λ x. record { machine = c.api_commit.new.machine; history = c.put_entry.new.history.items; disks = c.self.inside.disks.items; zones = c.make_calls-called.new.zones; sessions = c.self.inside.sessions } ≡ record (entered x (so c.in_ok-called.made.reply)) { zones = c.make_calls-called.new.zones }) c.self.view_is
    (λ i. record { machine = machine i; history = grown i; disks = c.self.inside.disks.items; zones = c.make_calls-called.new.zones; sessions = c.self.inside.sessions })

at_most_one : (b : Bool) → (if b then 0 else 1) ≤ 1
at_most_one true = omega arith
at_most_one false = omega arith

pub invariant_of-self-2 : goal.invariant_of-self-2
invariant_of-self-2 g c =
    let m : Machine = c.self.inside.machine in
    let shelf : List OnShelf = c.self.inside.shelf in
    let history : List ControlEntry = c.self.inside.history.items in
    let known : ℕ → ℕ → Known = g.Z.Banked.known c.self.inside.zones in
    let new : ℕ → ℕ → Known = g.Z.Banked.known c.make_calls-called.new.zones in
    let left : List ℕ = g.Z.Banked.lent c.make_calls-called.new.zones in
    let caller = c.args.caller in
    let call = c.args.call.now in
    let entry : ControlEntry = entry_of shelf m caller call in
    let first : c.in_ok-made.made.entry ≡ entry = c.in_ok-made.ensures.entry in
    let same : c.in_ok-called.made ≡ c.in_ok-made.made = c.in_ok-called.ensures.ok.1 in
    let second : c.in_ok-called.made.entry ≡ entry = ap (λ (x : Made). x.entry) same ∙ first in
    let all : c.put_entry.new.history.items ≡ history ++ entry ∷ [] =
    c.put_entry.ensures.items ∙ ap (λ (e : ControlEntry). c.make_room.new.history.items ++ e ∷ []) second ∙ ap (λ (h : List ControlEntry). h ++ entry ∷ []) c.in_ok-make_room.ensures.items in
    let may : MayCall m caller call = subst (λ x. MayCall x.machine caller call) (sym c.self.view_is) c.requires in
    let machine : c.api_commit.new.machine ≡ after m caller call (reply_to shelf m call) =
    c.api_commit.ensures ∙ ap (λ (x : Made). changed m x.change) c.in_ok-called.ensures.ok.1 ∙ c.in_ok-made.ensures.change ∙ ap (after m caller call) c.in_ok-made.ensures.reply in
    let step : Step shelf m entry c.api_commit.new.machine = record { may = may; replied = refl; left = machine } in
    let seen : c.as_slice.result.now ≡ history = c.as_slice.ensures.value ∙ c.in_ok-make_room.ensures.items in
    let due : c.in_ok-called.called ≡ zones.unless_full (first_full m c.as_slice.result.now known c.in_ok-made.made.entry) =
    called-so c.make_calls-called.result c.in_ok-called.called _ c.in_ok-called.ensures.ok.0 c.make_calls-called.ensures.answer in
    let none : full_at m history entry ≡ None = control-not-full shelf m history c.as_slice.result.now known caller call c.in_ok-made.made.entry c.in_ok-called.called c.in_default-called.field-0 seen first due c.in_default-called.is in
    let added : c.in_ok-called.made.added ≡ entry_payload entry = ap (λ (x : Made). x.added) same ∙ c.in_ok-made.ensures.added ∙ ap entry_payload first in
    let bytes : c.self.inside.bytes + c.in_ok-called.made.added ≡ payload history + entry_payload entry = ap (λ n. n + c.in_ok-called.made.added) c.self.invariant.1 ∙ ap (λ n. payload history + n) added in
    let made : HaveTheCalls [] m c.in_ok-made.made.entry.call c.in_ok-made.made.entry.reply known new =
    where-made _ _ c.make_calls-called.result c.in_default-called.field-0 (c.in_ok-called.ensures.ok.0 ∙ ap Ok c.in_default-called.is) c.make_calls-called.ensures.called in
    let called : HaveTheCalls [] m call (reply_to shelf m call) known new = subst (λ (e : ControlEntry). HaveTheCalls [] m e.call e.reply known new) first made in
    let banks : AreKept (after m caller call (reply_to shelf m call)) (history ++ entry ∷ []) left new =
    AreKept-after shelf m history entry (g.Z.Banked.lent c.self.inside.zones) left known new c.self.invariant.4 c.self.invariant.3.legal refl called c.make_calls-called.ensures.home in
    let banks_left : AreKept c.api_commit.new.machine (history ++ entry ∷ []) left new = subst (λ (x : Machine). AreKept x (history ++ entry ∷ []) left new) (sym machine) banks in
    let one = at_most_one c.api_commit.new.machine.stopped in (
      c.self.invariant.0,
      bytes ∙ sym (sum_by_push entry_payload history entry) ∙ ap payload (sym all),
      grind (arith, common_steps, one),
      subst (λ (h : List ControlEntry). IsKept shelf c.api_commit.new.machine h) (sym all) (IsKept-after shelf m c.api_commit.new.machine history entry c.self.invariant.3 step (not-stop c.args.call.now c.in_default.not-Stop) none),
      subst (λ (h : List ControlEntry). AreKept c.api_commit.new.machine h left new) (sym all) banks_left,
    )
