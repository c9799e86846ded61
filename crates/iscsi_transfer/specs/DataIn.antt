-- The data of a command in pieces, one for each SCSI Data-In (RFC 7143 §11.7).
use Rattle.std.specs.Prelude.{ℕ, ◌+◌, ◌-◌, ◌*◌, ◌/◌, ◌%◌, min, ◌==◌, List, map}
use Rattle.std.specs.Int.{div_ceil}
use Rattle.std.specs.List.{flat_map, range_with_len, slice_range}
use Rattle.iscsi_transfer.specs.declared.data_in.Piece.{Piece}

-- RFC 7143 §13.13: burst number b begins at the b-th multiple of MaxBurstLength
abbrev pub burst_start : ℕ → ℕ → ℕ
burst_start burst b = b * burst

-- RFC 7143 §13.13: a burst ends at the next multiple, or with the data
abbrev pub burst_end : ℕ → ℕ → ℕ → ℕ
burst_end length burst b = min length ((b + 1) * burst)

-- RFC 7143 §13.12: piece number k of a burst begins at the k-th multiple of MaxRecvDataSegmentLength from the burst's start
abbrev pub piece_start : ℕ → ℕ → ℕ → ℕ
piece_start start segment k = start + k * segment

-- RFC 7143 §13.12: a piece ends at the next multiple, or with its burst, and then has F (§11.7.1)
abbrev pub piece_in : ℕ → ℕ → ℕ → ℕ → Piece
piece_in start end segment k =
    let offset = piece_start start segment k in
    let stop = min end (piece_start start segment (k + 1)) in
    record { offset = offset; length = stop - offset; is_final = stop == end }

-- the pieces of the burst that lies from start to end
abbrev pub pieces_in : ℕ → ℕ → ℕ → List Piece
pieces_in start end segment = map (piece_in start end segment) (range_with_len 0 (div_ceil (end - start) segment))

-- the pieces of data of this length: those of each burst
abbrev pub pieces_of : ℕ → ℕ → ℕ → List Piece
pieces_of length burst segment =
    flat_map (λ b. pieces_in (burst_start burst b) (burst_end length burst b) segment) (range_with_len 0 (div_ceil length burst))

-- how many pieces these are: those of each whole burst, and those of what is left of the data
abbrev pub piece_count : ℕ → ℕ → ℕ → ℕ
piece_count length burst segment = length / burst * div_ceil burst segment + div_ceil (length % burst) segment

-- the bytes of a piece of data
abbrev pub part_of : List ℕ → Piece → List ℕ
part_of bytes piece = slice_range bytes piece.offset (piece.offset + piece.length)
