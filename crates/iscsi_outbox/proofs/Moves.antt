-- What stays the same as the cursor moves.
use Rattle.std.proofs.Common.{◌≡◌, ℕ, ◌+◌, ◌-◌, ◌<◌, ◌≤◌, max, List, [], ◌∷◌, ◌++◌, length, take, drop, slice_get, slice_range, Some, refl, ap, sym, subst, ◌∙◌, inl, inr, arith, length-drop, append_assoc}
use Rattle.std.specs.List.{flat_map, enumerate_from}
use Rattle.std.proofs.lemmas.List.{drop-drop, drop_at, length-take-le, length-append, drop-append-le, drop-take, take_at, take-append-drop, length-take}
use Rattle.std.proofs.lemmas.Bool.{cases_lt}
use Rattle.bytes.proofs.Ranges.{take-append_past}
use Rattle.bytes.specs.Filled.{Filled}
use Rattle.scsi_sense.specs.Given.{headroom}
use Rattle.iscsi_pdu.specs.DataIn.{data_in_header}
use Rattle.iscsi_login.proofs.Lists as lists
use Rattle.iscsi_transfer.specs.declared.data_in.Piece.{Piece}
use Rattle.iscsi_transfer.specs.DataIn.{part_of}
use Rattle.iscsi_outbox.specs.declared.shared.SharedFields.{SharedFields}
use Rattle.iscsi_outbox.specs.declared.cursor.Cursor.{Cursor}
use Rattle.iscsi_outbox.specs.Answer.{fields_of, unpadded}
use Rattle.iscsi_outbox.specs.Cut.{IsCut, AreCut}
use Rattle.iscsi_outbox.specs.Cursor.{all_pieces, pieces_left, left, IsPlaced, IsReady}

-- ---- pieces

-- the bytes of pieces are those from where the first begins
pub same_pieces : (size burst from : ℕ) (pieces : List Piece) (number : ℕ) (shared : SharedFields) (d e : List ℕ)
    → AreCut size burst from size pieces → drop from d ≡ drop from e
    → flat_map (unpadded shared d) (enumerate_from number pieces) ≡ flat_map (unpadded shared e) (enumerate_from number pieces)
same_pieces size burst from [] number shared d e cut same = refl
same_pieces size burst from (p ∷ ps) number shared d e cut same =
    let place : from ≡ p.offset = sym cut.0.begins in
    let part : part_of d p ≡ part_of e p =
    ap (take (p.offset + p.length - p.offset)) (ap (λ (n : ℕ). drop n d) (sym place) ∙ same ∙ ap (λ (n : ℕ). drop n e) place) in
    let rest : drop (from + p.length) d ≡ drop (from + p.length) e =
    sym (drop-drop p.length from d) ∙ ap (drop p.length) same ∙ drop-drop p.length from e in
    ap (λ (bytes : List ℕ). (data_in_header (record (fields_of shared d (number, p)) { body = bytes }) ++ bytes)
    ++ flat_map (unpadded shared d) (enumerate_from (number + 1) ps)) part
    ∙ ap (λ (bytes : List ℕ). unpadded shared e (number, p) ++ bytes) (same_pieces size burst (from + p.length) ps (number + 1) shared d e cut.1 rest)

-- where none of the data is left, there is no piece
pub no_piece : (size burst from : ℕ) (pieces : List Piece) → from ≡ size → AreCut size burst from size pieces → pieces ≡ []
no_piece size burst from [] none cut = refl
no_piece size burst from (p ∷ ps) none cut = let some = cut.0.some in let within = cut.0.within in absurd (omega arith)

-- where some is left, there is one
pub some_piece : (size burst from : ℕ) (pieces : List Piece) → from < size → AreCut size burst from size pieces → 0 < length pieces
some_piece size burst from [] more cut = absurd (omega (arith, cut))
some_piece size burst from (p ∷ ps) more cut = omega arith

pub number_within : (c : Cursor) → IsPlaced c → c.offset < c.length → c.number < length (all_pieces c)
unfolding pieces_left
number_within c placed more =
    omega (arith, some_piece c.length c.limits.burst c.offset (pieces_left c) more placed.cut, length-drop c.number (all_pieces c))

-- what the next piece is, and what is after it
pub record Next (c : Cursor) (piece : Piece) : Type 0 where
  pub first : pieces_left c ≡ piece ∷ drop (c.number + 1) (all_pieces c)
  pub is_cut : IsCut c.length c.limits.burst c.offset piece
  pub others : AreCut c.length c.limits.burst (c.offset + piece.length) c.length (drop (c.number + 1) (all_pieces c))

pub next : (c : Cursor) (piece : Piece) → IsPlaced c → slice_get (all_pieces c) c.number ≡ Some piece → Next c piece
unfolding pieces_left
next c piece placed found =
    let first = lists.drop_at (all_pieces c) c.number piece found in
    let cut : AreCut c.length c.limits.burst c.offset c.length (piece ∷ drop (c.number + 1) (all_pieces c)) =
    subst (λ (ps : List Piece). AreCut c.length c.limits.burst c.offset c.length ps) first placed.cut in
    record { first = first; is_cut = cut.0; others = cut.1 }

-- ---- a header written over what was sent

drop-over : (items head : List ℕ) (o : ℕ) → length head ≡ headroom → o + headroom ≤ length items
    → drop o (take o items ++ (head ++ drop (o + headroom) items)) ≡ head ++ drop (o + headroom) items
drop-over items head o long within = drop_at (take o items) (head ++ drop (o + headroom) items) o (length-take-le o items (omega arith))

drop-past : (items head : List ℕ) (o : ℕ) → length head ≡ headroom → o + headroom ≤ length items
    → drop (o + headroom) (take o items ++ (head ++ drop (o + headroom) items)) ≡ drop (o + headroom) items
drop-past items head o long within =
    sym (drop-drop headroom o (take o items ++ (head ++ drop (o + headroom) items))) ∙ ap (drop headroom) (drop-over items head o long within)
    ∙ drop_at head (drop (o + headroom) items) headroom long

-- the next piece after its header
fresh : (items head : List ℕ) (o n : ℕ) → length head ≡ headroom → o + headroom ≤ length items
    → slice_range (take o items ++ (head ++ drop (o + headroom) items)) o (headroom + (o + n)) ≡ head ++ take n (drop (o + headroom) items)
fresh items head o n long within =
    ap (take (headroom + (o + n) - o)) (drop-over items head o long within)
    ∙ take-append_past head (drop (o + headroom) items) n (headroom + (o + n) - o) (omega (arith, long))

behind : (items head : List ℕ) (o m : ℕ) → length head ≡ headroom → o + headroom ≤ length items → o + headroom ≤ m
    → drop m (take o items ++ (head ++ drop (o + headroom) items)) ≡ drop m items
behind items head o m long within past =
    let new = take o items ++ (head ++ drop (o + headroom) items) in
    let count : o + headroom + (m - (o + headroom)) ≡ m = omega arith in
    ap (λ (k : ℕ). drop k new) (sym count) ∙ sym (drop-drop (m - (o + headroom)) (o + headroom) new)
    ∙ ap (drop (m - (o + headroom))) (drop-past items head o long within)
    ∙ drop-drop (m - (o + headroom)) (o + headroom) items ∙ ap (λ (k : ℕ). drop k items) count

put_in_front : (items new head rest : List ℕ) (o n size at : ℕ) → length head ≡ headroom → o + n ≤ size → headroom + size ≤ length items
    → at ≡ headroom + o → new ≡ take o items ++ (head ++ drop (o + headroom) items)
    → slice_range new o (headroom + (o + n)) ++ (rest ++ drop (max o (headroom + size)) new)
    ≡ slice_range items at (headroom + o) ++ (((head ++ take (o + n - o) (drop o (drop headroom items))) ++ rest)
    ++ drop (max at (headroom + size)) items)
put_in_front items new head rest o n size at long within room place written =
    let none : headroom + o - at ≡ 0 = omega arith in
    let first : slice_range new o (headroom + (o + n)) ≡ head ++ take n (drop (o + headroom) items) =
    ap (λ (xs : List ℕ). slice_range xs o (headroom + (o + n))) written ∙ fresh items head o n long (omega arith) in
    let last : drop (max o (headroom + size)) new ≡ drop (max at (headroom + size)) items =
    ap (drop (max o (headroom + size))) written ∙ behind items head o (max o (headroom + size)) long (omega arith) (omega arith)
    ∙ (let same : max o (headroom + size) ≡ max at (headroom + size) = omega arith in ap (λ (k : ℕ). drop k items) same) in
    let part : take n (drop (o + headroom) items) ≡ take (o + n - o) (drop o (drop headroom items)) =
    (let count : n ≡ o + n - o = omega arith in let sum : o + headroom ≡ headroom + o = omega arith in
    ap (λ (k : ℕ). take n (drop k items)) sum ∙ ap (take n) (sym (drop-drop o headroom items)) ∙ ap (λ (k : ℕ). take k (drop o (drop headroom items))) count) in
    ap (λ (xs : List ℕ). xs ++ (rest ++ drop (max o (headroom + size)) new)) (first ∙ ap (λ (xs : List ℕ). head ++ xs) part)
    ∙ ap (λ (xs : List ℕ). (head ++ take (o + n - o) (drop o (drop headroom items))) ++ (rest ++ xs)) last
    ∙ sym (append_assoc (head ++ take (o + n - o) (drop o (drop headroom items))) rest (drop (max at (headroom + size)) items))
    ∙ ap (λ (k : ℕ). take k (drop at items) ++ (((head ++ take (o + n - o) (drop o (drop headroom items))) ++ rest)
    ++ drop (max at (headroom + size)) items)) (sym none)

-- ---- the cursor

-- with the next header written
abbrev pub settled : Cursor → Filled → Piece → Cursor
settled c buffer piece =
    record {
      buffer = buffer;
      shared = c.shared;
      limits = c.limits;
      length = c.length;
      number = c.number + 1;
      offset = c.offset + piece.length;
      at = c.offset;
    }

pub settles : (c : Cursor) (buffer : Filled) (head : List ℕ) (p : Piece) → IsPlaced c → slice_get (all_pieces c) c.number ≡ Some p
    → c.at ≡ headroom + c.offset → head ≡ data_in_header (fields_of c.shared (drop headroom c.buffer.items) (c.number, p))
    → buffer.items ≡ take c.offset c.buffer.items ++ (head ++ drop (c.offset + headroom) c.buffer.items)
    → left (settled c buffer p) ≡ left c
unfolding left pieces_left
settles c buffer head p placed found at is written =
    let o = c.offset in
    let after = next c p placed found in
    let begins = after.is_cut.begins in
    let some = after.is_cut.some in
    let within = after.is_cut.within in
    let long : length head ≡ headroom = ap (λ (xs : List ℕ). length xs) is in
    let ps = drop (c.number + 1) (all_pieces c) in
    let d = drop headroom c.buffer.items in
    let room = placed.within in
    let same : drop (o + p.length) (drop headroom buffer.items) ≡ drop (o + p.length) d =
    drop-drop (o + p.length) headroom buffer.items ∙ ap (drop (headroom + (o + p.length))) written
    ∙ behind c.buffer.items head o (headroom + (o + p.length)) long (omega arith) (omega arith) ∙ sym (drop-drop (o + p.length) headroom c.buffer.items) in
    let rest = flat_map (unpadded c.shared d) (enumerate_from (c.number + 1) ps) in
    ap (λ (xs : List ℕ). slice_range buffer.items o (headroom + (o + p.length)) ++ (xs ++ drop (max o (headroom + c.length)) buffer.items))
    (same_pieces c.length c.limits.burst (o + p.length) ps (c.number + 1) c.shared (drop headroom buffer.items) d after.others same)
    ∙ put_in_front c.buffer.items buffer.items head rest o p.length c.length c.at long within room at written
    ∙ ap (λ (n : ℕ). slice_range c.buffer.items c.at (headroom + o) ++ (((head ++ take (n + p.length - n) (drop n d)) ++ rest)
    ++ drop (max c.at (headroom + c.length)) c.buffer.items)) (sym begins)
    ∙ ap (λ (xs : List ℕ). slice_range c.buffer.items c.at (headroom + o) ++ (((xs ++ part_of d p) ++ rest)
    ++ drop (max c.at (headroom + c.length)) c.buffer.items)) is
    ∙ ap (λ (qs : List Piece). slice_range c.buffer.items c.at (headroom + o)
    ++ (flat_map (unpadded c.shared d) (enumerate_from c.number qs) ++ drop (max c.at (headroom + c.length)) c.buffer.items)) (sym after.first)

pub settles_ready : (c : Cursor) (buffer : Filled) (head : List ℕ) (p : Piece) → IsPlaced c → slice_get (all_pieces c) c.number ≡ Some p
    → length head ≡ headroom → buffer.items ≡ take c.offset c.buffer.items ++ (head ++ drop (c.offset + headroom) c.buffer.items)
    → IsReady (settled c buffer p)
unfolding pieces_left
settles_ready c buffer head p placed found long written =
    let after = next c p placed found in
    let some = after.is_cut.some in
    let lies = after.is_cut.within in
    let room = placed.within in
    let early = placed.early in
    let more : c.offset < c.length = omega arith in
    let same : length buffer.items ≡ length c.buffer.items =
    ap (λ (xs : List ℕ). length xs) written ∙ simp (length-append, length-take, length-drop) (omega arith) in
    record {
      placed = record {
        limits = placed.limits;
        short = placed.short;
        within = omega arith;
        at = omega arith;
        near = λ _. omega arith;
        below = lies;
        early = omega arith;
        cut = after.others;
        by_4 = after.is_cut.aligned;
        ends = λ _. record {
          pdus = (placed.ends more).pdus;
          spelled =
              ap (drop (headroom + c.length)) written
              ∙ behind c.buffer.items head c.offset (headroom + c.length) long (omega arith) (omega arith) ∙ (placed.ends more).spelled;
        };
      };
      some = λ _. omega arith;
    }

-- ---- so many bytes were sent

-- with so many bytes more sent
abbrev pub moved : Cursor → ℕ → Cursor
moved c n = record c { at = c.at + n }

-- where no piece is left, the bytes stand together
pub last_bytes : (c : Cursor) → IsPlaced c → c.length ≤ c.offset → left c ≡ drop c.at c.buffer.items
unfolding left
last_bytes c placed past =
    let items = c.buffer.items in
    let whole : c.offset ≡ c.length = (let below = placed.below in omega arith) in
    let none = no_piece c.length c.limits.burst c.offset (pieces_left c) whole placed.cut in
    ap (λ (ps : List Piece). slice_range items c.at (headroom + c.offset)
    ++ (flat_map (unpadded c.shared (drop headroom items)) (enumerate_from c.number ps) ++ drop (max c.at (headroom + c.length)) items)) none
    ∙ ap (λ (n : ℕ). take (headroom + n - c.at) (drop c.at items) ++ drop (max c.at (headroom + c.length)) items) whole
    ∙ (let count : max c.at (headroom + c.length) ≡ c.at + (headroom + c.length - c.at) = omega arith in
    ap (λ (n : ℕ). take (headroom + c.length - c.at) (drop c.at items) ++ drop n items) count)
    ∙ ap (λ (xs : List ℕ). take (headroom + c.length - c.at) (drop c.at items) ++ xs) (sym (drop-drop (headroom + c.length - c.at) c.at items))
    ∙ take-append-drop (headroom + c.length - c.at) (drop c.at items)

-- the rest of the piece that is being sent stands in front
front_bytes : (items rest : List ℕ) (at end n : ℕ) → at + n ≤ end → end ≤ length items
    → drop n (slice_range items at end ++ rest) ≡ slice_range items (at + n) end ++ rest
front_bytes items rest at end n within room =
    let long : length (slice_range items at end) ≡ end - at = simp (length-take, length-drop) (omega arith) in
    let count : end - at ≡ n + (end - (at + n)) = omega arith in
    drop-append-le n (slice_range items at end) rest (omega arith)
    ∙ ap (λ (xs : List ℕ). xs ++ rest) (
    ap (λ (k : ℕ). drop n (take k (drop at items))) count ∙ drop-take n (end - (at + n)) (drop at items)
    ∙ ap (take (end - (at + n))) (drop-drop n at items)
    )

moves_within : (c : Cursor) (n : ℕ) → IsPlaced c → c.offset < c.length → c.at + n ≤ headroom + c.offset → left (moved c n) ≡ drop n (left c)
unfolding left pieces_left
moves_within c n placed within short =
    let items = c.buffer.items in
    let rest = flat_map (unpadded c.shared (drop headroom items)) (enumerate_from c.number (pieces_left c)) in
    let room = placed.within in
    let same : max (c.at + n) (headroom + c.length) ≡ max c.at (headroom + c.length) = omega arith in
    ap (λ (k : ℕ). slice_range items (c.at + n) (headroom + c.offset) ++ (rest ++ drop k items)) same
    ∙ sym (front_bytes items (rest ++ drop (max c.at (headroom + c.length)) items) c.at (headroom + c.offset) n short (omega arith))

moved_placed : (c : Cursor) (n : ℕ) → IsPlaced c → c.at + n ≤ length c.buffer.items → (c.offset < c.length → c.at + n ≤ headroom + c.offset)
    → IsPlaced (moved c n)
unfolding pieces_left
moved_placed c n placed room near = record {
  limits = placed.limits;
  short = placed.short;
  within = placed.within;
  at = room;
  near = near;
  below = placed.below;
  early = placed.early;
  cut = placed.cut;
  by_4 = placed.by_4;
  ends = placed.ends;
}

pub moves : (c : Cursor) (n end : ℕ) → IsPlaced c → (c.offset < c.length → end ≡ headroom + c.offset) → (c.length ≤ c.offset → end
    ≡ length c.buffer.items) → c.at + n ≤ end
    → IsPlaced (moved c n) × (left (moved c n) ≡ drop n (left c))
moves c n end placed more last short =
    let room = placed.within in
    elim (cases_lt c.offset c.length) [
      | inl within ↦
          let is = more within in
          let placed' = moved_placed c n placed (omega arith) (λ _. omega arith) in
          (placed', moves_within c n placed within (omega arith))
      | inr past ↦
          let is = last past in
          let placed' = moved_placed c n placed (omega arith) (λ h. absurd (omega arith)) in
          (placed', last_bytes (moved c n) placed' past ∙ sym (drop-drop n c.at c.buffer.items) ∙ ap (drop n) (sym (last_bytes c placed past)))
    ]

-- what stands together is the front of what is left
pub fronts : (c : Cursor) (end : ℕ) → IsPlaced c → (c.offset < c.length → end ≡ headroom + c.offset) → (c.length ≤ c.offset → end
    ≡ length c.buffer.items)
    → c.at ≤ end → (end ≤ length c.buffer.items) × (slice_range c.buffer.items c.at end ≡ take (end - c.at) (left c))
unfolding left pieces_left
fronts c end placed more last ahead =
    let room = placed.within in
    let items = c.buffer.items in
    elim (cases_lt c.offset c.length) [
      | inl within ↦
          let is = more within in
          let long : length (slice_range items c.at end) ≡ end - c.at = simp (length-take, length-drop) (omega arith) in
          let rest = flat_map (unpadded c.shared (drop headroom items)) (enumerate_from c.number (pieces_left c))
          ++ drop (max c.at (headroom + c.length)) items in (
            omega arith,
            sym (take_at (slice_range items c.at end) rest (end - c.at) long)
                ∙ ap (λ (k : ℕ). take (end - c.at) (slice_range items c.at k ++ rest)) is,
          )
      | inr past ↦
          let is = last past in
          (omega arith, ap (take (end - c.at)) (sym (last_bytes c placed past)))
    ]

-- where bytes are left, some stand together
pub some_stand : (c : Cursor) (end : ℕ) → IsReady c → (c.offset < c.length → end ≡ headroom + c.offset) → (c.length ≤ c.offset → end
    ≡ length c.buffer.items)
    → 0 < length (left c) → c.at < end
some_stand c end ready more last some =
    elim (cases_lt c.offset c.length) [
      | inl within ↦ let is = more within in let before = ready.some within in omega arith
      | inr past ↦
          let is = last past in
          let whole = ap (λ (xs : List ℕ). length xs) (last_bytes c ready.placed past) in
          omega (arith, whole, length-drop c.at c.buffer.items)
    ]

-- what stands together is left to be sent
pub stand_there : (c : Cursor) (end : ℕ) → IsPlaced c → (c.offset < c.length → end ≡ headroom + c.offset) → (c.length ≤ c.offset → end
    ≡ length c.buffer.items)
    → c.at ≤ end → end - c.at ≤ length (left c)
stand_there c end placed more last ahead =
    let is = fronts c end placed more last ahead in
    let long : length (slice_range c.buffer.items c.at end) ≡ end - c.at = let within = is.0 in simp (length-take, length-drop) (omega arith) in
    omega (arith, long, ap (λ (xs : List ℕ). length xs) is.1, length-take (end - c.at) (left c))
