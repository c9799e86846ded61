-- What a framer's `take` makes of the next bytes of a Data-Out.
use Rattle.std.proofs.Common.{◌≡◌, ℕ, ◌+◌, ◌-◌, ◌<◌, ◌≤◌, min, true, false, List, [], ◌++◌, length, take, drop, replicate, refl, sym, ap, ◌∙◌, subst, inl, inr, arith, append-nil, length-append, length-take}
use Rattle.std.proofs.lemmas.Bool.{cases_lt}
use Rattle.std.proofs.lemmas.List.{take-append-le, take_all, take_at, drop_all, drop-take, length-take-le}
use Rattle.iscsi_pdu.specs.Header.{header_length, additional_length, data_length}
use Rattle.iscsi_pdu.specs.Segment.{most_data}
use Rattle.iscsi_pdu.specs.Frames.{has_frame, frame_length}
use Rattle.iscsi_framer.specs.Framer.{IsSplit}
use Rattle.iscsi_pdu.specs.Parts.{is_data_out, data_so_far, shown, HoldsOne, Waits, Lends, Ends}
use Rattle.iscsi_pdu.proofs.Frames.{has_frame-from}
use Rattle.iscsi_pdu.proofs.Cuts.{data_length-append, frame_length-append}
use Rattle.iscsi_pdu.proofs.Fields.{start_of, whole_of, fields}
use Rattle.iscsi_framer.proofs.Split.{front_full}
use Rattle.iscsi_pdu.proofs.DataOuts.{is_data_out-append, data_so_far-more, next_data, shown-out, one_shown, has_frame-short}

-- ---- a PDU whose header is whole

pub record Begun (bytes header : List ℕ) : Type 0 where
  pub there : header_length ≤ length bytes
  pub header_is : header ≡ take header_length bytes
  pub short : data_length header ≤ most_data
  pub within : length bytes ≤ frame_length bytes

-- the bytes with more of them
pub record Longer (bytes header more : List ℕ) : Type 0 where
  pub long : length (bytes ++ more) ≡ length bytes + length more
  pub header_is : header ≡ take header_length (bytes ++ more)
  pub framed : frame_length (bytes ++ more) ≡ whole_of header
  pub taken : data_length (bytes ++ more) ≤ most_data
  pub out : is_data_out (bytes ++ more) ≡ is_data_out bytes

pub longer : (bytes header more : List ℕ) → Begun bytes header → Longer bytes header more
longer bytes header more b =
    let f = fields bytes header b.header_is in
    let short = b.short in
    record {
      long = length-append bytes more;
      header_is = b.header_is ∙ sym (take-append-le header_length bytes more b.there);
      framed = frame_length-append bytes more b.there ∙ f.framed;
      taken = omega (arith, data_length-append bytes more b.there, f.data_is, short);
      out = is_data_out-append bytes more b.there;
    }

-- it is a frame as soon as all of it is there
pub whole_frame : (bytes header more : List ℕ) → Begun bytes header → whole_of header ≤ length bytes + length more → has_frame (bytes ++ more) ≡ true
whole_frame bytes header more b enough =
    let l = longer bytes header more b in
    let there = b.there in
    has_frame-from (bytes ++ more) (record {
      header = omega (arith, l.long, there);
      taken = l.taken;
      whole = omega (arith, l.long, l.framed, enough);
    })

pub no_whole_frame : (bytes header more : List ℕ) → Begun bytes header → length bytes + length more < whole_of header → has_frame (bytes ++ more) ≡ false
no_whole_frame bytes header more b less =
    let l = longer bytes header more b in
    has_frame-short (bytes ++ more) (omega (arith, l.long, l.framed, less))

-- ---- a Data-Out

-- what is kept of it
pub shown_is : (bytes header more : List ℕ) (n : ℕ) → Begun bytes header → is_data_out bytes ≡ true → n ≡ length more
    → take header_length bytes ++ replicate (length bytes - header_length + n) 0 ≡ shown (bytes ++ more)
shown_is bytes header more n b out is =
    let l = longer bytes header more b in
    let there = b.there in
    let number : length (bytes ++ more) - header_length ≡ length bytes - header_length + n = omega (arith, l.long, there, is) in
    sym (shown-out (bytes ++ more) (l.out ∙ out)
    ∙ ap (λ (x : List ℕ). x ++ replicate (length (bytes ++ more) - header_length) 0) (take-append-le header_length bytes more b.there)
    ∙ ap (λ (k : ℕ). take header_length bytes ++ replicate k 0) number)

-- as the code has it
pub forgotten : (header behind bytes after : List ℕ) (used : ℕ) → header ++ behind ≡ bytes → IsSplit header_length header behind
    → header_length ≤ length bytes → after ≡ replicate (length behind + used) 0
    → header ++ after ≡ take header_length bytes ++ replicate (length bytes - header_length + used) 0
forgotten header behind bytes after used is s there after_is =
    let long : length bytes ≡ length header + length behind = ap (λ (x : List ℕ). length x) (sym is) ∙ length-append header behind in
    let full = front_full header_length header behind s (omega (arith, long, there, length-append header behind)) in
    let first : take header_length bytes ≡ header = ap (take header_length) (sym is) ∙ take_at header behind header_length full in
    let number : length behind + used ≡ length bytes - header_length + used = omega (arith, long, full) in
    ap (λ (x : List ℕ). header ++ x) after_is ∙ ap (λ (n : ℕ). header ++ replicate n 0) number
    ∙ ap (λ (x : List ℕ). x ++ replicate (length bytes - header_length + used) 0) (sym first)

-- the numbers of the code
pub record Counted (bytes header more : List ℕ) (skipped count : ℕ) : Type 0 where
  pub skipped_is : skipped ≡ min (start_of header - length bytes) (length more)
  pub count_is : count ≡ min (start_of header + data_length header - (length bytes + skipped)) (length more - skipped)

-- the data is a part of the piece
lent_is : (bytes header more : List ℕ) (skipped count : ℕ) → Begun bytes header → Counted bytes header more skipped count → 0 < count
    → next_data bytes (take (skipped + count) more) ≡ take count (drop skipped more)
lent_is bytes header more skipped count b c some =
    let f = fields bytes header b.header_is in
    let skipped_is = c.skipped_is in
    let count_is = c.count_is in
    let additional = f.additional in
    let body = f.data_is in
    let gap : header_length + additional_length bytes - length bytes ≡ skipped = omega (arith, skipped_is, count_is, additional, some) in
    let room = data_length bytes - (length bytes - (header_length + additional_length bytes)) in
    let fits : count ≤ room = omega (arith, skipped_is, count_is, additional, body, some) in
    ap (λ (n : ℕ). take room (drop n (take (skipped + count) more))) gap
    ∙ ap (take room) (drop-take skipped count more)
    ∙ take_all room (take count (drop skipped more)) (omega (arith, length-take count (drop skipped more), fits))

pub lends : (bytes header more : List ℕ) (skipped count used : ℕ) → Begun bytes header → is_data_out bytes ≡ true → Counted bytes header more skipped count
    → 0 < count → used ≡ skipped + count
    → Lends header (take (used - skipped) (drop skipped more)) bytes (bytes ++ take used more)
    (take header_length bytes ++ replicate (length bytes - header_length + used) 0)
lends bytes header more skipped count used b out c some used_is =
    let skipped_is = c.skipped_is in
    let count_is = c.count_is in
    let within : used ≤ length more = omega (arith, skipped_is, count_is, used_is, some) in
    let long : length (take used more) ≡ used = length-take-le used more within in
    let l = longer bytes header (take used more) b in
    let number : count ≡ used - skipped = omega (arith, used_is) in
    record {
      some = omega (arith, l.long, long, used_is, some);
      out = l.out ∙ out;
      header_is = l.header_is;
      data_is = data_so_far-more bytes (take used more) out
          ∙ ap (λ (x : List ℕ). data_so_far bytes ++ x)
          (ap (λ (n : ℕ). next_data bytes (take n more)) used_is ∙ lent_is bytes header more skipped count b c some
          ∙ ap (λ (n : ℕ). take n (drop skipped more)) number);
      left = shown_is bytes header (take used more) used b out (sym long);
    }

pub lends_one : (bytes header more : List ℕ) (skipped count used : ℕ) → Begun bytes header → is_data_out bytes ≡ true → Counted bytes header more skipped count
    → 0 < count → used ≡ skipped + count → HoldsOne (take header_length bytes ++ replicate (length bytes - header_length + used) 0)
lends_one bytes header more skipped count used b out c some used_is =
    let skipped_is = c.skipped_is in
    let count_is = c.count_is in
    let within : used ≤ length more = omega (arith, skipped_is, count_is, used_is, some) in
    let long : length (take used more) ≡ used = length-take-le used more within in
    let l = longer bytes header (take used more) b in
    subst HoldsOne (sym (shown_is bytes header (take used more) used b out (sym long)))
    (one_shown (bytes ++ take used more) (l.out ∙ out) (omega (arith, l.long, l.framed, long, skipped_is, count_is, used_is, some)))

-- no data comes
none_lent : (bytes header more : List ℕ) (skipped count used : ℕ) → Begun bytes header → is_data_out bytes ≡ true → Counted bytes header more skipped count
    → count ≡ 0 → data_so_far (bytes ++ take used more) ≡ data_so_far bytes
none_lent bytes header more skipped count used b out c none =
    let f = fields bytes header b.header_is in
    let skipped_is = c.skipped_is in
    let count_is = c.count_is in
    let additional = f.additional in
    let body = f.data_is in
    let room = data_length bytes - (length bytes - (header_length + additional_length bytes)) in
    let gap = header_length + additional_length bytes - length bytes in
    let x : List ℕ = take used more in
    let nothing : next_data bytes x ≡ [] =
    elim (cases_lt skipped (length more)) [
      | inl less ↦ (
          let full : room ≡ 0 = omega (arith, skipped_is, count_is, additional, body, none, less) in
          ap (λ (n : ℕ). take n (drop gap x)) full)
      | inr all ↦ (
          let few : drop gap x ≡ [] = drop_all gap x (omega (arith, length-take used more, skipped_is, additional, all)) in
          ap (take room) few ∙ take_all room [] (omega arith))
    ] in
    data_so_far-more bytes x out ∙ ap (λ (y : List ℕ). data_so_far bytes ++ y) nothing ∙ append-nil (data_so_far bytes)

abbrev pub rest_of : List ℕ → List ℕ → List ℕ → ℕ
rest_of bytes header more = min (whole_of header - length bytes) (length more)

pub lends_nothing : (bytes header more : List ℕ) (skipped count used : ℕ) → Begun bytes header → is_data_out bytes ≡ true
    → Counted bytes header more skipped count → count ≡ 0 → used ≡ rest_of bytes header more → length bytes + used < whole_of header
    → Waits bytes (bytes ++ take used more) (take header_length bytes ++ replicate (length bytes - header_length + used) 0)
lends_nothing bytes header more skipped count used b out c none used_is less =
    let within : used ≤ length more = omega (arith, used_is) in
    let long : length (take used more) ≡ used = length-take-le used more within in
    record {
      none = no_whole_frame bytes header (take used more) b (omega (arith, long, less));
      same = none_lent bytes header more skipped count used b out c none;
      left = shown_is bytes header (take used more) used b out (sym long);
    }

pub lends_nothing_one : (bytes header more : List ℕ) (used : ℕ) → Begun bytes header → is_data_out bytes ≡ true
    → used ≡ rest_of bytes header more → length bytes + used < whole_of header
    → HoldsOne (take header_length bytes ++ replicate (length bytes - header_length + used) 0)
lends_nothing_one bytes header more used b out used_is less =
    let within : used ≤ length more = omega (arith, used_is) in
    let long : length (take used more) ≡ used = length-take-le used more within in
    let l = longer bytes header (take used more) b in
    subst HoldsOne (sym (shown_is bytes header (take used more) used b out (sym long)))
    (one_shown (bytes ++ take used more) (l.out ∙ out) (omega (arith, l.long, l.framed, long, less)))

pub ends : (bytes header more : List ℕ) (skipped count used : ℕ) → Begun bytes header → is_data_out bytes ≡ true → Counted bytes header more skipped count
    → count ≡ 0 → used ≡ rest_of bytes header more → whole_of header ≤ length bytes + used
    → Ends header bytes (bytes ++ take used more) []
ends bytes header more skipped count used b out c none used_is enough =
    let within : used ≤ length more = omega (arith, used_is) in
    let long : length (take used more) ≡ used = length-take-le used more within in
    let l = longer bytes header (take used more) b in
    let f = fields bytes header b.header_is in
    let fits = b.within in
    record {
      out = l.out ∙ out;
      whole = whole_frame bytes header (take used more) b (omega (arith, long, enough));
      exact = omega (arith, l.long, l.framed, long, enough, used_is, f.framed, fits);
      header_is = l.header_is;
      same = none_lent bytes header more skipped count used b out c none;
      left = refl;
    }
