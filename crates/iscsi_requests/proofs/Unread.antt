-- A Data-Out whose data no command that is not finished takes: its header and the length of its data decide all.
use Rattle.std.proofs.Common.{◌≡◌, ℕ, zero, suc, List, [], ◌∷◌, length, Bool, true, false, ◌&&◌, ◌||◌, Option, Some, None, cond, refl, sym, ap, ◌∙◌, arith}
use Rattle.std.specs.Prelude.{position, filter, remove, not, option_map, is_some, is_none, if◌then◌else◌, ⊤}
use Rattle.std.specs.List.{list_any}
use Rattle.iscsi_pdu.specs.Frames.{Frame}
use Rattle.iscsi_pdu.specs.Header.{data_length, initiator_task_tag, opcode_number}
use Rattle.iscsi_transfer.specs.Counted.{brought}
use Rattle.iscsi_transfer.specs.WriteData.{WriteDataState, fault_of}
use Rattle.iscsi_transfer.proofs.Blank.{fault_brought, brought_is}
use Rattle.iscsi_requests.specs.declared.transfers.Transfer.{Transfer}
use Rattle.iscsi_requests.specs.declared.verdict.Verdict.{Verdict}
use Rattle.iscsi_requests.specs.declared.verdict.Verdict.TheVariants.{Violating, Feeding}
use Rattle.iscsi_requests.specs.Drained.{Drained}
use Rattle.iscsi_requests.specs.Functions.{FunctionReach, reaches}
use Rattle.iscsi_requests.specs.State.{TransferList, bears, place_for, transfer_at, judged_at, transfers_without, removed_at}
use Rattle.iscsi_requests.specs.Transfers.{verdict_on}
use Rattle.iscsi_requests.specs.Draining.{drain_with, drain_for, drained_at, judged_drain, fed_drain, judged_in, fed_in}
use Rattle.iscsi_requests.specs.Unread.{IsUnread, takes_out, takes_in}
use Rattle.iscsi_requests.proofs.Places.{position_with}

-- ---- by its header and the length of its data

verdict_brought : (task : WriteDataState) (frame : Frame) (header : List ℕ) (size : ℕ) → frame.header ≡ header → length frame.body ≡ size
    → verdict_on (brought header size) (Some task) ≡ verdict_on frame (Some task)
verdict_brought task frame header size same long = rw (fault_brought task frame header size (sym same) (sym long)) refl

judged_brought_at : (drains : List Drained) (frame : Frame) (header : List ℕ) (size : ℕ) (at : Option ℕ) → frame.header ≡ header
    → length frame.body ≡ size → judged_drain drains (brought header size) at ≡ judged_drain drains frame at
judged_brought_at drains frame header size None same long = refl
judged_brought_at drains frame header size (Some i) same long = verdict_brought (drained_at drains i).transfer.task frame header size same long

pub judged_brought : (drains : List Drained) (frame : Frame) (header : List ℕ) (size : ℕ) → frame.header ≡ header → length frame.body ≡ size
    → judged_drain drains (brought header size) (drain_for (brought header size) drains) ≡ judged_drain drains frame (drain_for frame drains)
judged_brought drains frame header size same long =
    ap (λ (h : List ℕ). judged_drain drains (brought header size) (drain_with (initiator_task_tag h) drains)) (sym same)
    ∙ judged_brought_at drains frame header size (drain_for frame drains) same long

fed_brought_at : (drains : List Drained) (frame : Frame) (header : List ℕ) (size : ℕ) (at : Option ℕ) → frame.header ≡ header
    → length frame.body ≡ size → fed_drain drains (brought header size) at ≡ fed_drain drains frame at
fed_brought_at drains frame header size None same long = refl
fed_brought_at drains frame header size (Some i) same long = rw (brought_is (drained_at drains i).transfer.task frame header size (sym same) (sym long)) refl

pub fed_brought : (drains : List Drained) (frame : Frame) (header : List ℕ) (size : ℕ) → frame.header ≡ header → length frame.body ≡ size
    → fed_drain drains (brought header size) (drain_for (brought header size) drains) ≡ fed_drain drains frame (drain_for frame drains)
fed_brought drains frame header size same long =
    ap (λ (h : List ℕ). fed_drain drains (brought header size) (drain_with (initiator_task_tag h) drains)) (sym same)
    ∙ fed_brought_at drains frame header size (drain_for frame drains) same long

-- every frame with the header and as much data is one

takes_brought : (frame : Frame) (header : List ℕ) (size : ℕ) (list : List Transfer) → frame.header ≡ header → length frame.body ≡ size
    → list_any (takes_out (brought header size)) list ≡ list_any (takes_out frame) list
takes_brought frame header size [] same long = refl
takes_brought frame header size (t ∷ list) same long =
    rw (fault_brought t.task frame header size (sym same) (sym long), takes_brought frame header size list same long)
    (ap (λ (h : List ℕ). (bears (initiator_task_tag h) t && is_none (fault_of t.task frame)) || list_any (takes_out frame) list) (sym same))

pub unread_frame : (transfers : TransferList) (header : List ℕ) (frame : Frame) → frame.header ≡ header → length frame.body ≡ data_length header
    → opcode_number header ≡ 0x05 → takes_in transfers (brought header (data_length header)) ≡ false → IsUnread transfers header frame
unread_frame transfers header frame same long out untaken = record {
  header_is = same;
  long = long;
  out = out;
  untaken = sym (takes_brought frame header (data_length header) transfers.list same long) ∙ untaken;
}

-- ---- a command that is not finished has its tag, and does not take it

abbrev Lacks : (Transfer → Bool) → List Transfer → Option ℕ → Type 0
Lacks r l None = ⊤
Lacks r l (Some i) = r (transfer_at l i) ≡ false

lacks_here : (b : Bool) (r : Transfer → Bool) (x : Transfer) (l : List Transfer) (others : Bool) (at : Option ℕ) → ((b && r x) || others) ≡ false
    → (others ≡ false → Lacks r l at) → Lacks r (x ∷ l) (cond b (Some 0) (option_map suc at))
lacks_here true r x l others at none behind = grind arith
lacks_here false r x l others None none behind = tt
lacks_here false r x l others (Some i) none behind = behind none

-- the first with one property lacks the other
lacks_first : (p r : Transfer → Bool) (l : List Transfer) → list_any (λ x. p x && r x) l ≡ false → Lacks r l (position p l)
lacks_first p r [] none = tt
lacks_first p r (x ∷ l) none =
    rw (position_with (p x) p x l refl)
    (lacks_here (p x) r x l (list_any (λ y. p y && r y) l) (position p l) none (lacks_first p r l))

judged_there : (transfers : TransferList) (frame : Frame) (at : Option ℕ) → is_some at ≡ true
    → Lacks (λ x. is_none (fault_of x.task frame)) transfers.list at → judged_at transfers.list frame at ≡ Violating
judged_there transfers frame None some lacks = absurd cc
judged_there transfers frame (Some i) some lacks = grind arith

pub violates_unread : (transfers : TransferList) (header : List ℕ) (frame : Frame) → IsUnread transfers header frame
    → is_some (place_for frame transfers.list) ≡ true → judged_in transfers frame ≡ Violating
violates_unread transfers header frame unread some =
    rw some (judged_there transfers frame (place_for frame transfers.list) some
    (lacks_first (bears (initiator_task_tag frame.header)) (λ x. is_none (fault_of x.task frame)) transfers.list unread.untaken))

-- ---- its data is drained

by_place : (b : Bool) (v w : Verdict) → (b ≡ true → (if b then v else w) ≡ Violating) → (if b then v else w) ≡ Feeding → (b ≡ false) × (w ≡ Feeding)
by_place true v w violates feeds = absurd (let h = sym feeds ∙ violates refl in cc)
by_place false v w violates feeds = (refl, feeds)

pub drains_unread : (transfers : TransferList) (header : List ℕ) (frame : Frame) → IsUnread transfers header frame → judged_in transfers frame ≡ Feeding
    → (is_some (place_for frame transfers.list) ≡ false) × (judged_drain transfers.drains frame (drain_for frame transfers.drains) ≡ Feeding)
drains_unread transfers header frame unread feeds = by_place _ _ _ (violates_unread transfers header frame unread) feeds

pub fed_unread : (transfers : TransferList) (header : List ℕ) (size : ℕ) (frame : Frame) → IsUnread transfers header frame → size ≡ data_length header
    → judged_in transfers frame ≡ Feeding
    → record transfers { drains = fed_drain transfers.drains (brought header size) (drain_for (brought header size) transfers.drains) } ≡ fed_in transfers frame
fed_unread transfers header size frame unread long feeds =
    rw (drains_unread transfers header frame unread feeds).0
    (ap (λ (l : List Drained). record transfers { drains = l })
    (fed_brought transfers.drains frame header size unread.header_is (unread.long ∙ sym long)))

-- the data of a frame that none of these takes, none of those that are left takes

none_kept : {A : Type 0} (p q : A → Bool) (l : List A) → list_any p l ≡ false → list_any p (filter q l) ≡ false
none_kept p q [] none = refl
none_kept p q (x ∷ l) none = grind (arith, none_kept p q l)

none_left : {A : Type 0} (p : A → Bool) (l : List A) (i : ℕ) → list_any p l ≡ false → list_any p (remove l i) ≡ false
none_left p [] zero none = refl
none_left p [] (suc i) none = refl
none_left p (x ∷ l) zero none = grind arith
none_left p (x ∷ l) (suc i) none = grind (arith, none_left p l i)

pub untaken_without : (transfers : TransferList) (reach : FunctionReach) (frame : Frame) → takes_in transfers frame ≡ false
    → takes_in (record transfers { list = transfers_without reach transfers.list }) frame ≡ false
untaken_without transfers reach frame none = none_kept (takes_out frame) (λ x. not (reaches reach x.header)) transfers.list none

untaken_at : (list : List Transfer) (at : Option ℕ) (frame : Frame) → list_any (takes_out frame) list ≡ false
    → list_any (takes_out frame) (removed_at list at) ≡ false
untaken_at list None frame none = none
untaken_at list (Some i) frame none = none_left (takes_out frame) list i none

pub untaken_removed : (transfers : TransferList) (at : Option ℕ) (frame : Frame) → takes_in transfers frame ≡ false
    → takes_in (record transfers { list = removed_at transfers.list at }) frame ≡ false
untaken_removed transfers at frame none = untaken_at transfers.list at frame none
