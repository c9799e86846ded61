-- What is left after the bytes that stand together is whole PDUs.
use Rattle.std.proofs.Common.{◌≡◌, ◌<◌, ◌≤◌, ℕ, ◌+◌, ◌-◌, max, List, [], ◌∷◌, ◌++◌, length, map, take, drop, slice_range, slice_index_or, replicate, refl, sym, ap, subst, ◌∙◌, inl, inr, append_assoc, arith}
use Rattle.std.specs.List.{flat_map, enumerate_from}
use Rattle.std.proofs.lemmas.List.{append-nil, length-drop, length-take-le, take-append-drop, take_all}
use Rattle.std.proofs.lemmas.List.Concat.{flat_map-append}
use Rattle.std.proofs.lemmas.Bool.{cases_lt}
use Rattle.scsi_sense.specs.Given.{headroom}
use Rattle.iscsi_pdu.specs.Answer.{spelling}
use Rattle.iscsi_pdu.specs.Segment.{padded}
use Rattle.iscsi_pdu.specs.declared.answer.Answer.{Answer}
use Rattle.iscsi_outbox.specs.declared.shared.SharedFields.{SharedFields}
use Rattle.iscsi_outbox.specs.declared.limits.Limits.{Limits}
use Rattle.iscsi_outbox.specs.declared.cursor.Cursor.{Cursor}
use Rattle.iscsi_outbox.specs.declared.run.Run.{Run}
use Rattle.iscsi_outbox.specs.Answer.{answered, data_in, data_ins, unpadded}
use Rattle.iscsi_outbox.specs.Cursor.{pieces_left, left, IsPlaced}
use Rattle.iscsi_outbox.specs.Offered.{AreWhole, EndsPdu}
use Rattle.iscsi_outbox.specs.Outbox.{run_bytes, AreUnsent, IsInOrder, AreInOrder}
use Rattle.iscsi_outbox.proofs.Moves.{last_bytes}
use Rattle.iscsi_outbox.proofs.Starts.{padded_last}

pub none_whole : AreWhole []
none_whole = record { pdus = []; spelled = refl }

pub one_whole : (answer : Answer) → AreWhole (spelling answer)
one_whole answer = record { pdus = answer ∷ []; spelled = sym (append-nil (spelling answer)) }

pub both_whole : (xs ys : List ℕ) → AreWhole xs → AreWhole ys → AreWhole (xs ++ ys)
both_whole xs ys first second = record {
  pdus = first.pdus ++ second.pdus;
  spelled =
      ap (λ (bytes : List ℕ). bytes ++ ys) first.spelled ∙ ap (λ (bytes : List ℕ). flat_map spelling first.pdus ++ bytes) second.spelled
      ∙ sym (flat_map-append spelling first.pdus second.pdus);
}

pub same_whole : (xs ys : List ℕ) → xs ≡ ys → AreWhole ys → AreWhole xs
same_whole xs ys same whole = record { pdus = whole.pdus; spelled = same ∙ whole.spelled }

-- the answer to a command is whole PDUs
pub answer_whole : (bytes : List ℕ) (shared : SharedFields) (limits : Limits) (d : List ℕ) (last : Answer)
    → bytes ≡ answered shared limits d (spelling last) → AreWhole bytes
answer_whole bytes shared limits d last is =
    same_whole bytes (flat_map spelling (data_ins shared limits d) ++ spelling last) is
    (both_whole (flat_map spelling (data_ins shared limits d)) (spelling last) (record { pdus = data_ins shared limits d; spelled = refl }) (one_whole last))

-- ---- the cursor

-- what comes after the piece that is being sent
pieces_whole : (c : Cursor) → IsPlaced c → c.offset < c.length
    → AreWhole (flat_map (unpadded c.shared (drop headroom c.buffer.items)) (enumerate_from c.number (pieces_left c))
    ++ drop (headroom + c.length) c.buffer.items)
unfolding pieces_left
pieces_whole c placed more =
    let bytes = drop headroom c.buffer.items in
    let d = take c.length bytes in
    let t = drop c.length bytes in
    let room = placed.within in
    let pieces = enumerate_from c.number (pieces_left c) in
    let pad : List ℕ = replicate (padded c.length - c.length) 0 in
    let ends = placed.ends more in
    let long : c.length ≡ length d = sym (length-take-le c.length bytes (omega (arith, length-drop headroom c.buffer.items))) in
    let data_ins = map (data_in c.shared d) pieces in
    record {
      pdus = data_ins ++ ends.pdus;
      spelled =
          ap (λ (xs : List ℕ). flat_map (unpadded c.shared bytes) pieces ++ xs) ends.spelled
          ∙ sym (append_assoc (flat_map (unpadded c.shared bytes) pieces) pad (flat_map spelling ends.pdus))
          ∙ ap (λ (xs : List ℕ). (flat_map (unpadded c.shared xs) pieces ++ pad) ++ flat_map spelling ends.pdus) (sym (take-append-drop c.length bytes))
          ∙ ap (λ (xs : List ℕ). xs ++ flat_map spelling ends.pdus)
          (sym (padded_last c.length c.limits.burst c.offset (pieces_left c) c.number c.shared d t (placed.by_4 more) long placed.cut))
          ∙ sym (flat_map-append spelling data_ins ends.pdus);
    }

pub front_ends : (c : Cursor) (front : List ℕ) (end : ℕ) → front ≡ slice_range c.buffer.items c.at end → IsPlaced c
    → (c.offset < c.length → end ≡ headroom + c.offset) → (c.length ≤ c.offset → end ≡ length c.buffer.items) → EndsPdu (left c) front
unfolding left
front_ends c front end is placed more last =
    let items = c.buffer.items in
    elim (cases_lt c.offset c.length) [
      | inl within ↦
          let near = placed.near within in
          let pieces = flat_map (unpadded c.shared (drop headroom items)) (enumerate_from c.number (pieces_left c)) in
          let past : max c.at (headroom + c.length) ≡ headroom + c.length = omega arith in
          record {
            after = pieces ++ drop (headroom + c.length) items;
            front =
                ap (λ (n : ℕ). slice_range items c.at (headroom + c.offset) ++ (pieces ++ drop n items)) past
                ∙ ap (λ (n : ℕ). slice_range items c.at n ++ (pieces ++ drop (headroom + c.length) items)) (sym (more within))
                ∙ ap (λ (xs : List ℕ). xs ++ (pieces ++ drop (headroom + c.length) items)) (sym is);
            whole = pieces_whole c placed within;
          }
      | inr past ↦
          let all : front ≡ drop c.at items =
          is ∙ ap (λ (n : ℕ). take (n - c.at) (drop c.at items)) (last past)
          ∙ take_all (length items - c.at) (drop c.at items) (omega (arith, length-drop c.at items)) in
          record {
            after = [];
            front = last_bytes c placed past ∙ sym (append-nil (drop c.at items)) ∙ ap (λ (xs : List ℕ). xs ++ []) (sym all);
            whole = none_whole;
          }
    ]

-- ---- runs

pub runs_whole : (runs : List Run) → AreUnsent runs → AreWhole (flat_map run_bytes runs)
runs_whole [] unsent = none_whole
runs_whole (run ∷ runs) unsent =
    both_whole (run_bytes run) (flat_map run_bytes runs) (both_whole run.before.items run.data_ins unsent.0 unsent.1) (runs_whole runs unsent.2)

unsent_more : (runs : List Run) (run : Run) → AreUnsent runs → AreWhole run.before.items → AreWhole run.data_ins → AreUnsent (runs ++ run ∷ [])
unsent_more [] run unsent before data_ins = (before, data_ins, tt)
unsent_more (r ∷ runs) run unsent before data_ins = (unsent.0, unsent.1, unsent_more runs run unsent.2 before data_ins)

-- one run more, with the answers before it
pub order_more : (runs : List Run) (run : Run) (tail : List ℕ) → AreInOrder runs tail → run.before.items ≡ tail → AreWhole run.data_ins
    → AreInOrder (runs ++ run ∷ []) []
order_more [] run tail order same whole = (λ _. whole, tt, none_whole)
order_more (r ∷ runs) run tail order same whole =
    (order.0, unsent_more runs run order.1 (same_whole run.before.items tail same order.2) whole, none_whole)

-- one answer more
pub order_put : (runs : List Run) (tail : List ℕ) (answer : Answer) → AreInOrder runs tail → AreInOrder runs (tail ++ spelling answer)
order_put [] tail answer order = tt
order_put (run ∷ runs) tail answer order = (order.0, order.1, both_whole tail (spelling answer) order.2 (one_whole answer))

-- the first run ends where a PDU does, and so does what is offered of it
run_ends : (run : Run) (runs : List Run) (tail front : List ℕ) → AreInOrder (run ∷ runs) tail → EndsPdu (run_bytes run) front
    → EndsPdu (flat_map run_bytes (run ∷ runs) ++ tail) front
run_ends run runs tail front order ends =
    let more = flat_map run_bytes runs in
    record {
      after = ends.after ++ (more ++ tail);
      front =
          append_assoc (run_bytes run) more tail ∙ ap (λ (xs : List ℕ). xs ++ (more ++ tail)) ends.front
          ∙ append_assoc front ends.after (more ++ tail);
      whole = both_whole ends.after (more ++ tail) ends.whole (both_whole more tail (runs_whole runs order.1) order.2);
    }

pub first_ends : (runs : List Run) (run : Run) (tail front : List ℕ) → 0 < length runs → run ≡ slice_index_or runs 0 run → AreInOrder runs tail
    → (IsInOrder run → EndsPdu (run_bytes run) front) → EndsPdu (flat_map run_bytes runs ++ tail) front
first_ends [] run tail front some is order ends = absurd (omega arith)
first_ends (r ∷ runs) run tail front some is order ends =
    run_ends r runs tail front order (subst (λ (x : Run). EndsPdu (run_bytes x) front) is (ends (subst IsInOrder (sym is) order.0)))
