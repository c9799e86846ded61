-- The fields of bytes whose header is known.
use Rattle.std.proofs.Common.{◌≡◌, ℕ, ◌+◌, ◌≤◌, false, List, take, sym, ap, ◌∙◌, inl, inr, arith}
use Rattle.std.proofs.lemmas.Bool.{cases_Bool}
use Rattle.iscsi_pdu.specs.Header.{header_length, additional_length, data_length}
use Rattle.iscsi_pdu.specs.Segment.{most_data, padded}
use Rattle.iscsi_pdu.specs.Frames.{is_long, frame_length}
use Rattle.iscsi_pdu.proofs.Frames.{is_long-true}
use Rattle.iscsi_pdu.proofs.Cuts.{additional_length-take, data_length-take}

abbrev pub start_of : List ℕ → ℕ
start_of header = header_length + additional_length header

abbrev pub whole_of : List ℕ → ℕ
whole_of header = start_of header + padded (data_length header)

pub record Fields (bytes header : List ℕ) : Type 0 where
  pub additional : additional_length bytes ≡ additional_length header
  pub data_is : data_length bytes ≡ data_length header
  pub framed : frame_length bytes ≡ whole_of header

pub fields : (bytes header : List ℕ) → header ≡ take header_length bytes → Fields bytes header
unfolding frame_length
fields bytes header is =
    let additional : additional_length bytes ≡ additional_length header =
    sym (additional_length-take bytes) ∙ ap (λ (x : List ℕ). additional_length x) (sym is) in
    let body : data_length bytes ≡ data_length header =
    sym (data_length-take bytes) ∙ ap (λ (x : List ℕ). data_length x) (sym is) in
    record { additional = additional; data_is = body; framed = omega arith }

pub not_long : (bytes header : List ℕ) → header ≡ take header_length bytes → data_length header ≤ most_data → is_long bytes ≡ false
not_long bytes header is fits =
    elim (cases_Bool (is_long bytes)) [
      | inl long ↦ (
          let l = is_long-true bytes long in
          let longer_in = l.longer in
          let f = fields bytes header is in
          absurd (omega (arith, longer_in, f.data_is, fits)))
      | inr short ↦ short
    ]
