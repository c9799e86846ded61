-- The buffer of a half-read PDU is taken back.
use Rattle.std.proofs.Common.{◌≡◌, ℕ, ◌+◌, ◌<◌, List, ◌++◌, length, take, true, not, refl, sym, ap, ◌∙◌, append_assoc, append-nil}
use Rattle.std.proofs.Math.Seq.{take-add}
use Rattle.std.proofs.lemmas.List.{get_or-set_same, length-set, set-get_or, set-set}
use Rattle.iscsi_framer.specs.declared.frame_buffer.FrameRoom.{FrameRoom}
use Rattle.iscsi_connection.specs.Rooms.{filled_in}
use Rattle.iscsi_world.specs.Machine.{LinkState, Machine, link_at, with_link, free_link, is_free, is_open_at, is_reading}
use Rattle.iscsi_world.specs.declared.phase.Phase.{Phase}
use Rattle.iscsi_world.specs.declared.phase.Phase.TheVariants.{Free, Login, FullFeature, Closing}
use Rattle.iscsi_world.specs.Serving.{kept_piece}
use Rattle.iscsi_target.specs.Feeding.{LacksRoom}

open_phase : (phase : Phase) → is_reading phase ≡ true → not (is_free phase) ≡ true
open_phase Free r = absurd cc
open_phase (Login login) r = refl
open_phase (FullFeature session) r = refl
open_phase Closing r = absurd cc

-- the bytes are those that had come, and those that the reader filled in
half_filled : (before now : Machine) (c : ℕ) (lent : FrameRoom) (count : ℕ) → LacksRoom c lent before now
    → (link_at now c).half ++ take (lent.from + count) lent.buffer.items ≡ (link_at before c).half ++ filled_in lent count
half_filled before now c lent count lacks =
    ap (λ (x : List ℕ). (link_at now c).half ++ x) (take-add lent.from count lent.buffer.items)
    ∙ sym (append_assoc (link_at now c).half (take lent.from lent.buffer.items) (filled_in lent count))
    ∙ ap (λ (x : List ℕ). x ++ filled_in lent count) (sym lacks.bytes)

-- the connection as it was, with these bytes
filled_link : (before now : Machine) (c : ℕ) (lent : FrameRoom) (half : List ℕ) → LacksRoom c lent before now
    → record (link_at now c) { half = half } ≡ record (link_at before c) { half = half }
filled_link before now c lent half lacks = ap (λ (l : LinkState). record l { half = half }) lacks.same

-- so is the target
filled_target : (before now mid : Machine) (c : ℕ) (lent : FrameRoom) (half : List ℕ) → LacksRoom c lent before now
    → mid ≡ with_link now c (record (link_at now c) { half = half }) → mid ≡ with_link before c (record (link_at before c) { half = half })
filled_target before now mid c lent half lacks is =
    is ∙ ap (with_link now c) (filled_link before now c lent half lacks)
    ∙ ap (λ (m : Machine). with_link m c (record (link_at before c) { half = half })) lacks.is
    ∙ ap (λ links. record before { links = links }) (set-set before.links c (link_at now c) (record (link_at before c) { half = half }))

-- a piece was filled in
pub kept_in_room : (before now mid : Machine) (c : ℕ) (lent : FrameRoom) (count : ℕ) → LacksRoom c lent before now
    → mid ≡ with_link now c (record (link_at now c) { half = (link_at now c).half ++ take (lent.from + count) lent.buffer.items })
    → mid ≡ kept_piece c (filled_in lent count) before
kept_in_room before now mid c lent count lacks is =
    filled_target before now mid c lent ((link_at before c).half ++ filled_in lent count) lacks
    (is ∙ ap (λ (x : List ℕ). with_link now c (record (link_at now c) { half = x })) (half_filled before now c lent count lacks))

-- as many connections as before
pub lacking_links : (before now : Machine) (c : ℕ) (lent : FrameRoom) → LacksRoom c lent before now → length now.links ≡ length before.links
lacking_links before now c lent lacks = ap (λ (m : Machine). length m.links) lacks.is ∙ length-set before.links c (link_at now c)

-- the connection is read as before
pub lacking_reads : (before now : Machine) (c : ℕ) (lent : FrameRoom) → LacksRoom c lent before now → is_reading (link_at now c).phase ≡ true
    → is_reading (link_at before c).phase ≡ true
lacking_reads before now c lent lacks r = sym (ap (λ (l : LinkState). is_reading l.phase) lacks.same) ∙ r

-- nothing was filled in
pub returned_room : (before now mid : Machine) (c : ℕ) (lent : FrameRoom) → c < length before.links → LacksRoom c lent before now
    → mid ≡ with_link now c (record (link_at now c) { half = (link_at now c).half ++ take (lent.from + 0) lent.buffer.items }) → mid ≡ before
returned_room before now mid c lent lt lacks is =
    filled_target before now mid c lent (link_at before c).half lacks
    (is ∙ ap (λ (x : List ℕ). with_link now c (record (link_at now c) { half = x }))
    (half_filled before now c lent 0 lacks ∙ append-nil (link_at before c).half))
    ∙ ap (λ links. record before { links = links }) (set-get_or before.links c free_link)

-- a connection that is read is open, whatever it keeps
pub reads_open : (now mid : Machine) (c : ℕ) (half : List ℕ) → c < length now.links → mid ≡ with_link now c (record (link_at now c) { half = half })
    → is_reading (link_at now c).phase ≡ true → is_open_at mid c ≡ true
reads_open now mid c half lt is r =
    let link : LinkState = record (link_at now c) { half = half } in
    ap (λ (m : Machine). is_open_at m c) is ∙ ap (λ (l : LinkState). not (is_free l.phase)) (get_or-set_same now.links c link free_link lt)
    ∙ open_phase (link_at now c).phase r
