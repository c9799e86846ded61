-- The frames of a connection's first bytes, computed.
use Rattle.std.specs.Prelude.{◌≡◌, ℕ, List, [], ◌∷◌, ◌++◌, take, true, false, codes, replicate, refl}
use Rattle.iscsi_pdu.specs.Segment.{padded, segment}
use Rattle.iscsi_pdu.specs.Frames.{frames, rest, has_frame, is_long, frame_length, first_frame, missing}
use Rattle.iscsi_pdu.specs.ExamplesHeader.{login_header}

-- an empty data segment has no padding; 1 to 4 bytes take 4, and 5 take 8
padded_lengths : (padded 0 ≡ 0) × (padded 1 ≡ 4) × (padded 4 ≡ 4) × (padded 5 ≡ 8)
padded_lengths = (refl, refl, refl, refl)

padded_bytes : segment (1 ∷ 2 ∷ 3 ∷ 4 ∷ 5 ∷ []) ≡ 1 ∷ 2 ∷ 3 ∷ 4 ∷ 5 ∷ 0 ∷ 0 ∷ 0 ∷ []
padded_bytes = refl

abbrev login_text : List ℕ
login_text = codes "InitiatorName=a" ++ 0 ∷ [] ++ codes "TargetName=t1" ++ 0 ∷ []

abbrev login_request : List ℕ
login_request = login_header ++ login_text ++ replicate 2 0

-- 30 bytes and 2 pad bytes, which are not part of the frame
one_frame : frames (login_request ++ 0x01 ∷ []) ≡ record { header = login_header; body = login_text } ∷ []
unfolding frames has_frame frame_length first_frame
one_frame = refl

one_byte_behind : rest (login_request ++ 0x01 ∷ []) ≡ 0x01 ∷ []
unfolding rest has_frame frame_length
one_byte_behind = refl

-- a header alone is no frame: 32 bytes are missing
not_yet : (frames login_header ≡ []) × (rest login_header ≡ login_header) × (missing login_header ≡ 32)
unfolding frames rest has_frame frame_length missing
not_yet = (refl, refl, refl)

-- nor are 47 bytes of one: the last byte of the header is missing
no_header : (frames (take 47 login_request) ≡ []) × (missing (take 47 login_request) ≡ 1)
unfolding frames has_frame frame_length missing
no_header = (refl, refl)

-- the last pad byte is missing
no_padding : (frames (take 79 login_request) ≡ []) × (missing (take 79 login_request) ≡ 1)
unfolding frames has_frame frame_length missing
no_padding = (refl, refl)

-- a header with this DataSegmentLength
abbrev header_naming : ℕ → ℕ → ℕ → List ℕ
header_naming a b c = replicate 5 0 ++ a ∷ b ∷ c ∷ [] ++ replicate 40 0

-- 262144 bytes are accepted
longest : is_long (header_naming 4 0 0) ≡ false
unfolding is_long
longest = refl

-- 262145 are not, if the header is whole
too_long : (is_long (header_naming 4 0 1) ≡ true) × (is_long (take 47 (header_naming 4 0 1)) ≡ false)
unfolding is_long
too_long = (refl, refl)

-- the frame before a long one is a frame, and the long one is the rest
frame_ahead : (frames (header_naming 0 0 0 ++ header_naming 4 0 1) ≡ record { header = header_naming 0 0 0; body = [] } ∷ [])
    × (rest (header_naming 0 0 0 ++ header_naming 4 0 1) ≡ header_naming 4 0 1)
unfolding frames rest has_frame frame_length first_frame
frame_ahead = (refl, refl)
