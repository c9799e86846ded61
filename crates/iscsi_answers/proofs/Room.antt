-- How many bytes the answers to a command take at most, that they fit into the room that is made for them, and how they are
-- written around the data where it lies.
use Rattle.std.proofs.Common.{◌≡◌, ℕ, ◌+◌, ◌*◌, ◌<◌, ◌≤◌, List, [], ◌∷◌, ◌++◌, length, map, take, get_or, Some, refl, ap, subst, ◌∙◌, arith, append-nil, ◌-◌, drop, replicate}
use Rattle.std.specs.Prelude.{flat_map}
use Rattle.std.specs.List.{enumerate_from, slice_get}
use Rattle.std.proofs.lemmas.Option.{slice_get-get_or, slice_get_within}
use Rattle.std.proofs.lemmas.List.{length-append, length-map, length-take, length-replicate, get_or-map, take_more, append_assoc, drop-take, take-replicate}
use Rattle.std.proofs.lemmas.List.Folds.{length-flat_map-take}
use Rattle.std.proofs.lemmas.List.FromFn.{length-enumerate_from, get_or-enumerate_from}
use Rattle.std.proofs.lemmas.Grind.{flat_map-append}
use Rattle.iscsi_pdu.specs.Answer.{spelling}
use Rattle.iscsi_pdu.specs.DataIn.{DataInFields, data_in_header, data_in_bytes}
use Rattle.iscsi_pdu.specs.Segment.{segment, padded}
use Rattle.iscsi_pdu.specs.Header.{initiator_task_tag}
use Rattle.iscsi_pdu.specs.Frames.{Frame}
use Rattle.iscsi_pdu.specs.declared.answer.Answer.{Answer}
use Rattle.iscsi_pdu.specs.declared.stamp.Stamp.{Stamp}
use Rattle.iscsi_transfer.specs.declared.data_in.Piece.{Piece}
use Rattle.iscsi_transfer.specs.DataIn.{piece_count, part_of}
use Rattle.iscsi_transfer.specs.Laws.{Lies}
use Rattle.iscsi_transfer.proofs.Pieces.{pieces_are_joined}
use Rattle.iscsi_transfer.proofs.Counts.{pieces_are_counted, less_has_fewer, count_fits}
use Rattle.iscsi_transfer.proofs.Lying.{pieces_lie}
use Rattle.scsi_sense.specs.Done.{Outcome}
use Rattle.scsi_disk.specs.DiskCommands.{most_given}
use Rattle.iscsi_login.specs.Values.{AreInRange}
use Rattle.iscsi_login.specs.declared.values.Values.{Values}
use Rattle.iscsi_outbox.specs.Answer as outbox
use Rattle.iscsi_outbox.specs.declared.shared.SharedFields.{SharedFields}
use Rattle.iscsi_outbox.specs.declared.limits.Limits.{Limits}
use Rattle.iscsi_answers.specs.Answers.{data_sent, sent_pieces, data_in, shared_fields, data_answers, scsi_answer, command_answers}
use Rattle.iscsi_answers.specs.Room.{most_sent, most_copied, most_pieces, room_for}
use Rattle.iscsi_pdu.specs.declared.answer.Answer.TheVariants as answers

-- ---- the length of the Data-Ins

pub segment_long : (bytes : List ℕ) → length (segment bytes) ≤ length bytes + 3
segment_long bytes = grind (arith, length-replicate, length-append)

piece_long : (fields : DataInFields) → length (data_in_bytes fields) ≤ 51 + length fields.body
piece_long fields = grind (arith, length-append, segment_long)

all_long : (numbers : Stamp) (frame : Frame) (sent : List ℕ) (k : ℕ) (pieces : List Piece)
    → length (flat_map spelling (map (data_in numbers frame sent) (enumerate_from k pieces))) ≤ length pieces * 51 + length (flat_map (part_of sent) pieces)
all_long numbers frame sent k [] = omega arith
all_long numbers frame sent k (piece ∷ pieces) =
    let answer = data_in numbers frame sent (k, piece) in
    let rest = flat_map spelling (map (data_in numbers frame sent) (enumerate_from (k + 1) pieces)) in
    let parts = flat_map (part_of sent) pieces in
    let fields : DataInFields = record {
      is_final = piece.is_final;
      initiator_task_tag = initiator_task_tag frame.header;
      exp_cmd_sn = numbers.exp_cmd_sn;
      max_cmd_sn = numbers.max_cmd_sn;
      data_sn = k;
      buffer_offset = piece.offset;
      body = part_of sent piece;
    } in
    let first : length (spelling answer) ≤ 51 + length (part_of sent piece) = piece_long fields in
    let more : length rest ≤ length pieces * 51 + length parts = all_long numbers frame sent (k + 1) pieces in
    let bytes : length (spelling answer ++ rest) ≡ length (spelling answer) + length rest = length-append (spelling answer) rest in
    let joined : length (part_of sent piece ++ parts) ≡ length (part_of sent piece) + length parts = length-append (part_of sent piece) parts in
    omega (arith, first, more, bytes, joined)

-- ---- so many pieces

pub pieces_counted : (values : Values) (sent : List ℕ) → AreInRange values
    → length (sent_pieces values sent) ≡ piece_count (length sent) values.max_burst_length values.max_recv_data_segment_length
pieces_counted values sent range = grind (arith, pieces_are_counted)

pub answers_long : (numbers : Stamp) (values : Values) (frame : Frame) (sent : List ℕ) → AreInRange values
    → length (flat_map spelling (data_answers numbers values frame sent)) ≤ length (sent_pieces values sent) * 51 + length sent
unfolding data_answers
answers_long numbers values frame sent range = grind (arith, pieces_are_joined, all_long)

pub sent_short : (frame : Frame) (done : Outcome) → length done.given ≤ most_given → length (data_sent frame done) ≤ most_sent frame
sent_short frame done le = grind (arith, length-take)

-- room for all Data-Ins of data that is copied, and for the SCSI Response after them
pub data_fits : (numbers : Stamp) (values : Values) (frame : Frame) (sent : List ℕ) (n : ℕ) → AreInRange values → n ≡ length sent
    → n ≤ most_copied values frame → length (flat_map spelling (data_answers numbers values frame sent)) + 68 ≤ room_for values frame
data_fits numbers values frame sent n range is le =
    let few = subst (λ (k : ℕ). k ≤ most_copied values frame) is le in
    let fewer = less_has_fewer (length sent) (most_copied values frame) values.max_burst_length values.max_recv_data_segment_length (let some = range.burst
    in omega arith) (let some = range.segment in omega arith) few in
    omega (arith, answers_long numbers values frame sent range, pieces_counted values sent range, fewer, few)

-- no more pieces than bytes
pub most_pieces_fit : (values : Values) (frame : Frame) → AreInRange values → most_copied values frame ≤ most_given → most_pieces values frame ≤ most_given
most_pieces_fit values frame range le = grind (arith, count_fits)

-- ---- one piece

pub record IsOneOf (values : Values) (sent : List ℕ) (k : ℕ) (piece : Piece) : Type 0 where
  pub within : piece.offset + piece.length ≤ length sent
  pub short : piece.length ≤ 262144
  pub early : k < length sent

-- what is found at a place
pub piece_found : (values : Values) (sent : List ℕ) (k : ℕ) (d piece : Piece) → slice_get (sent_pieces values sent) k ≡ Some piece
    → get_or (sent_pieces values sent) k d ≡ piece
piece_found values sent k d piece is = grind (arith, slice_get-get_or, slice_get_within)

pub piece_there : (values : Values) (sent : List ℕ) (k : ℕ) (piece : Piece) → AreInRange values
    → slice_get (sent_pieces values sent) k ≡ Some piece → IsOneOf values sent k piece
piece_there values sent k piece range is =
    let burst = values.max_burst_length in
    let segment_ = values.max_recv_data_segment_length in
    let lt : k < length (sent_pieces values sent) = slice_get_within (sent_pieces values sent) k piece is in
    let lies : Lies piece (length sent) burst = subst (λ (p : Piece). Lies p (length sent) burst) (piece_found values sent k piece piece is)
    (pieces_lie (length sent) burst segment_ (let some = range.burst in omega arith) (let some = range.segment in omega arith) k piece lt) in
    let count = pieces_counted values sent range in
    let fits = count_fits (length sent) burst segment_ (let some = range.burst in omega arith) (let some = range.segment in omega arith) in
    record {
      within = lies.within;
      short = (let longest = range.longest_burst in let short = lies.short in omega arith);
      early = omega (arith, lt, count, fits);
    }

-- ---- as the loop writes them

pub data_answer_at : (numbers : Stamp) (values : Values) (frame : Frame) (sent : List ℕ) (k : ℕ) (d : Answer) (piece : Piece)
    → slice_get (sent_pieces values sent) k ≡ Some piece
    → get_or (data_answers numbers values frame sent) k d ≡ data_in numbers frame sent (k, piece)
unfolding data_answers
data_answer_at numbers values frame sent k d piece is =
    let pieces = sent_pieces values sent in
    let lt : k < length pieces = slice_get_within pieces k piece is in
    let below : k < length (enumerate_from 0 pieces) = omega (arith, lt, length-enumerate_from 0 pieces) in
    get_or-map (data_in numbers frame sent) (enumerate_from 0 pieces) k (0, piece) d below
    ∙ ap (data_in numbers frame sent) (get_or-enumerate_from 0 pieces k (0, piece) lt
    ∙ ap (λ (n : ℕ). (n, get_or pieces k piece)) (omega arith) ∙ ap (λ (p : Piece). (k, p)) (piece_found values sent k piece piece is))

pub data_answers_count : (numbers : Stamp) (values : Values) (frame : Frame) (sent : List ℕ)
    → length (data_answers numbers values frame sent) ≡ length (sent_pieces values sent)
unfolding data_answers
data_answers_count numbers values frame sent = grind (arith, length-map, length-enumerate_from)

-- one more answer is written after the first k
pub record IsWritten (all : List Answer) (k : ℕ) (items before : List ℕ) (left room : ℕ) : Type 0 where
  pub written : items ≡ before ++ flat_map spelling (take k all)
  pub spare : left + length (flat_map spelling (take k all)) ≡ room

more_spelled : (all : List Answer) (k : ℕ) (d : Answer) → k < length all
    → flat_map spelling (take (k + 1) all) ≡ flat_map spelling (take k all) ++ spelling (get_or all k d)
more_spelled all k d lt =
    ap (flat_map spelling) (take_more all k d lt) ∙ flat_map-append spelling (take k all) (get_or all k d ∷ [])
    ∙ ap (λ (bytes : List ℕ). flat_map spelling (take k all) ++ bytes) (append-nil (spelling (get_or all k d)))

pub written_more : (all : List Answer) (k : ℕ) (items after before : List ℕ) (spare left room : ℕ) (answer : Answer) → k < length all
    → get_or all k answer ≡ answer → IsWritten all k items before spare room
    → after ≡ items ++ spelling answer → left + length (spelling answer) ≡ spare → IsWritten all (k + 1) after before left room
written_more all k items after before spare left room answer lt is h written used = grind (arith, more_spelled, append_assoc, length-append)

-- there is room for the next one
pub next_fits : (all : List Answer) (k : ℕ) (items before : List ℕ) (spare room : ℕ) (answer : Answer) → k < length all → get_or all k answer ≡ answer
    → IsWritten all k items before spare room
    → length (flat_map spelling all) ≤ room → length (spelling answer) ≤ spare
next_fits all k items before spare room answer lt is h le =
    omega (arith, h.spare, le, length-flat_map-take spelling all k answer lt, ap (λ (a : Answer). length (spelling a)) is)

-- the pieces can be counted in four bytes
pub pieces_few : (values : Values) (frame : Frame) (done : Outcome) → AreInRange values → length done.given ≤ most_given
    → length (sent_pieces values (data_sent frame done)) ≤ most_given
pieces_few values frame done range le = grind (arith, count_fits, pieces_counted, length-take)

-- ---- each answer

pub one_spelled : (a : Answer) → length (flat_map spelling (a ∷ [])) ≡ length (spelling a)
one_spelled a = ap (λ (l : List ℕ). length l) (append-nil (spelling a))

-- ---- a SCSI Command

pub response_long : (numbers : Stamp) (frame : Frame) (done : Outcome) (data_ins : ℕ) → length (spelling (scsi_answer numbers frame done data_ins)) ≤ 68
unfolding scsi_answer
response_long numbers frame done data_ins = grind arith

-- ---- a header that is written into the room in front of data, and the answers that come of it

-- the padding after the data
pub padded_behind : (header items : List ℕ) (n : ℕ) → n ≡ length (drop 48 items)
    → (header ++ drop 48 items) ++ take (padded n - n) (0 ∷ 0 ∷ 0 ∷ []) ≡ header ++ segment (drop 48 items)
padded_behind header items n is =
    let zeros : take (padded n - n) (0 ∷ 0 ∷ 0 ∷ []) ≡ replicate (padded (length (drop 48 items)) - length (drop 48 items)) 0 =
    take-replicate (padded n - n) 3 0 (omega arith) ∙ ap (λ (k : ℕ). replicate (padded k - k) 0) is in
    append_assoc header (drop 48 items) (take (padded n - n) (0 ∷ 0 ∷ 0 ∷ [])) ∙ ap (λ (xs : List ℕ). header ++ (drop 48 items ++ xs)) zeros

-- ---- one Data-In

only_one : (xs : List Piece) (piece : Piece) → slice_get xs 0 ≡ Some piece → length xs ≡ 1 → xs ≡ piece ∷ []
only_one [] piece is one = absurd cc
only_one (x ∷ []) piece is one = let same : x ≡ piece = cc in ap (λ (p : Piece). p ∷ []) same
only_one (x ∷ y ∷ xs) piece is one = absurd (omega arith)

-- it carries the whole data
pub one_answer : (numbers : Stamp) (values : Values) (frame : Frame) (sent : List ℕ) (piece : Piece) (fields : DataInFields) (items : List ℕ)
    → AreInRange values → slice_get (sent_pieces values sent) 0 ≡ Some piece → length (sent_pieces values sent) ≡ 1
    → answers.DataIn fields ≡ data_in numbers frame sent (0, piece)
    → items ≡ data_in_header fields ++ segment sent → items ≡ flat_map spelling (data_answers numbers values frame sent)
unfolding data_answers
one_answer numbers values frame sent piece fields items range is one made written =
    let pieces : sent_pieces values sent ≡ piece ∷ [] = only_one (sent_pieces values sent) piece is one in
    let joined = pieces_are_joined sent values.max_burst_length values.max_recv_data_segment_length (let some = range.burst
    in omega arith) (let some = range.segment in omega arith) in
    grind (arith, append-nil)

-- ---- all that a command is answered

-- in so many pieces its data is sent
pub count_is : (values : Values) (frame : Frame) (done : Outcome) (sent count : ℕ) → AreInRange values → sent ≡ length (data_sent frame done)
    → count ≡ piece_count sent values.max_burst_length values.max_recv_data_segment_length → count ≡ length (sent_pieces values (data_sent frame done))
count_is values frame done sent count range is counted = grind (arith, pieces_counted)

-- its data in pieces, and how it ended after them
pub all_spelled : (numbers : Stamp) (values : Values) (frame : Frame) (done : Outcome) (count : ℕ) (response : Answer)
    → response ≡ scsi_answer numbers frame done count → count ≡ length (sent_pieces values (data_sent frame done))
    → flat_map spelling (data_answers numbers values frame (data_sent frame done)) ++ spelling response
    ≡ flat_map spelling (command_answers numbers values frame done)
all_spelled numbers values frame done count response told counted = grind (arith, append-nil, flat_map-append)

-- the same, as it is cut from where the data lies
same_data_ins : (numbers : Stamp) (frame : Frame) (sent : List ℕ) (k : ℕ) (pieces : List Piece)
    → map (outbox.data_in (shared_fields numbers frame) sent) (enumerate_from k pieces) ≡ map (data_in numbers frame sent) (enumerate_from k pieces)
same_data_ins numbers frame sent k [] = refl
same_data_ins numbers frame sent k (piece ∷ pieces) =
    ap (λ (rest : List Answer). data_in numbers frame sent (k, piece) ∷ rest) (same_data_ins numbers frame sent (k + 1) pieces)

pub cut_as_sent : (numbers : Stamp) (values : Values) (frame : Frame) (sent bytes last : List ℕ) (shared : SharedFields) (limits : Limits)
    → shared ≡ shared_fields numbers frame → limits ≡ outbox.limits_of values → bytes ≡ sent
    → outbox.answered shared limits bytes last ≡ flat_map spelling (data_answers numbers values frame sent) ++ last
unfolding data_answers
cut_as_sent numbers values frame sent bytes last shared limits shares cuts is = grind (arith, same_data_ins)

-- after the room stands what is sent
pub sent_behind : (items given : List ℕ) (sent : ℕ) → drop 48 items ≡ given → drop 48 (take (48 + sent) items) ≡ take sent given
sent_behind items given sent is = drop-take 48 sent items ∙ ap (take sent) is
