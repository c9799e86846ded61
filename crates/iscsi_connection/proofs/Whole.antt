-- A whole Data-Out of which the header is kept.
use Rattle.std.proofs.Common.{◌≡◌, ℕ, ◌+◌, ◌≤◌, true, List, ◌++◌, length, take, drop, refl, sym, ◌∙◌, arith, length-drop}
use Rattle.std.proofs.lemmas.Bool.{and_parts, eqb-true}
use Rattle.std.proofs.lemmas.List.{take_at, get_or-take, length-take-le}
use Rattle.iscsi_pdu.specs.Header.{header_length, opcode_number, additional_length, data_length}
use Rattle.iscsi_pdu.specs.Segment.{most_data, padded}
use Rattle.iscsi_pdu.specs.Frames.{has_frame, first_frame, frame_length}
use Rattle.iscsi_pdu.specs.Parts.{is_data_out}
use Rattle.iscsi_pdu.proofs.Frames.{has_frame-true}
use Rattle.iscsi_pdu.proofs.Cuts.{data_length-take}
use Rattle.iscsi_connection.specs.Passing.{IsWhole}

pub header_of : (header after : List ℕ) → IsWhole header after → header ≡ (first_frame (header ++ after)).header
unfolding first_frame
header_of header after w = (let long = w.long in sym (take_at header after header_length long))

pub opcode_of_out : (bytes : List ℕ) → is_data_out bytes ≡ true → opcode_number (first_frame bytes).header ≡ 0x05
unfolding is_data_out first_frame
opcode_of_out bytes out =
    let same : opcode_number (take header_length bytes) ≡ opcode_number bytes = rw (get_or-take header_length bytes 0 0 (omega arith)) refl in
    same ∙ eqb-true _ _ (and_parts _ _ out).1

pub size_of_body : (bytes : List ℕ) → has_frame bytes ≡ true → length (first_frame bytes).body ≡ data_length (first_frame bytes).header
unfolding first_frame frame_length
size_of_body bytes there =
    let f = has_frame-true bytes there in
    let whole : header_length + additional_length bytes + padded (data_length bytes) ≤ length bytes = f.whole in
    let start = header_length + additional_length bytes in
    length-take-le (data_length bytes) (drop start bytes) (omega (arith, whole, length-drop start bytes)) ∙ sym (data_length-take bytes)

pub fits_body : (bytes : List ℕ) → has_frame bytes ≡ true → data_length (first_frame bytes).header ≤ most_data
unfolding first_frame
fits_body bytes there = (let taken = (has_frame-true bytes there).taken in omega (arith, taken, data_length-take bytes))
