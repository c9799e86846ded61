-- Data in pieces, computed.
use Rattle.std.specs.Prelude.{◌≡◌, [], ◌∷◌, true, false, codes, map, refl}
use Rattle.iscsi_transfer.specs.DataIn.{pieces_of, piece_count, part_of}

-- 20 blocks of 512 bytes, MaxBurstLength 8192, MaxRecvDataSegmentLength 4096
twenty_blocks : pieces_of 10240 8192 4096 ≡ record { offset = 0; length = 4096; is_final = false } ∷ record {
  offset = 4096;
  length = 4096;
  is_final = true;
} ∷ record { offset = 8192; length = 2048; is_final = true } ∷ []
twenty_blocks = refl

-- a burst that is no multiple of the segment: each burst is cut from its own start
uneven_bursts : map (part_of (codes "abcdefghijk")) (pieces_of 11 5 3) ≡ codes "abc" ∷ codes "de" ∷ codes "fgh" ∷ codes "ij" ∷ codes "k" ∷ []
uneven_bursts = refl

-- a segment that is longer than a burst
long_segment : pieces_of 6 4 8 ≡ record { offset = 0; length = 4; is_final = true } ∷ record { offset = 4; length = 2; is_final = true } ∷ []
long_segment = refl

no_data : pieces_of 0 4 8 ≡ []
no_data = refl

-- as many as there are above
counts : (piece_count 10240 8192 4096 ≡ 3) × (piece_count 11 5 3 ≡ 5) × (piece_count 6 4 8 ≡ 2) × (piece_count 0 4 8 ≡ 0)
counts = (refl, refl, refl, refl)
