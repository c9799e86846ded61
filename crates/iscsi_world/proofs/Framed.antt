-- Of bytes, the frames that become whole have numbers of four bytes.
use Rattle.std.proofs.Common.{◌≡◌, ℕ, zero, suc, ◌+◌, ◌^◌, ◌<◌, List, [], ◌∷◌, ◌++◌, length, map, take, drop, get_or, Bool, true, false, refl, arith}
use Rattle.std.specs.List.{AllByRecursion, enumerate_from}
use Rattle.iscsi_pdu.specs.Header.{cmd_sn, header_length}
use Rattle.iscsi_pdu.specs.Frames.{Frame, frames, frames_within, first_frame, frame_length, has_frame, rest, is_long}
use Rattle.iscsi_world.specs.History.{Arrival, Whole, arrivals, new_arrivals}
use Rattle.iscsi_world.proofs.Arrivals.{long_end}
use Rattle.iscsi_world.proofs.Walks.{KnownArrival}

-- ---- bytes

abbrev pub AreBytes : List ℕ → Type 0
AreBytes bytes = AllByRecursion (λ byte. byte < 256) bytes

pub bytes_joined : (xs ys : List ℕ) → AreBytes xs → AreBytes ys → AreBytes (xs ++ ys)
bytes_joined [] ys a b = b
bytes_joined (x ∷ xs) ys a b = (a.0, bytes_joined xs ys a.1 b)

all_drop : {X : Type 0} (P : X → Type 0) (n : ℕ) (xs : List X) → AllByRecursion P xs → AllByRecursion P (drop n xs)
all_drop P zero xs a = a
all_drop P (suc n) [] a = tt
all_drop P (suc n) (x ∷ xs) a = all_drop P n xs a.1

bytes_taken : (n : ℕ) (xs : List ℕ) → AreBytes xs → AreBytes (take n xs)
bytes_taken zero xs a = tt
bytes_taken (suc n) [] a = tt
bytes_taken (suc n) (x ∷ xs) a = (a.0, bytes_taken n xs a.1)

byte_at : (bytes : List ℕ) (i : ℕ) → AreBytes bytes → get_or bytes i 0 < 256
byte_at [] i a = omega arith
byte_at (b ∷ bytes) zero a = a.0
byte_at (b ∷ bytes) (suc i) a = byte_at bytes i a.1

number_fits : (header : List ℕ) → AreBytes header → cmd_sn header < 2 ^ 32
number_fits header a = omega (arith, byte_at header 24 a, byte_at header 25 a, byte_at header 26 a, byte_at header 27 a)

-- ---- frames of bytes

abbrev pub Fits : Frame → Type 0
Fits frame = cmd_sn frame.header < 2 ^ 32

abbrev pub IsFramed : ℕ × Arrival → Type 0
IsFramed arrival = KnownArrival (λ c frame. Fits frame) 0 arrival

frames_by : (b : Bool) (n : ℕ) (bytes : List ℕ) → has_frame bytes ≡ b → AreBytes bytes
    → AllByRecursion Fits (frames_within n (drop (frame_length bytes) bytes)) → AllByRecursion Fits (frames_within (suc n) bytes)
unfolding first_frame
frames_by true n bytes e a further = rw e (number_fits (take header_length bytes) (bytes_taken header_length bytes a), further)
frames_by false n bytes e a further = rw e tt

frames_fit : (n : ℕ) (bytes : List ℕ) → AreBytes bytes → AllByRecursion Fits (frames_within n bytes)
frames_fit zero bytes a = tt
frames_fit (suc n) bytes a = frames_by (has_frame bytes) n bytes refl a
    (frames_fit n (drop (frame_length bytes) bytes) (all_drop _ (frame_length bytes) bytes a))

end_framed : (b : Bool) (place : ℕ) → AllByRecursion IsFramed (enumerate_from place (long_end b))
end_framed b place = grind arith

all_framed : (fs : List Frame) (b : Bool) (place : ℕ) → AllByRecursion Fits fs → AllByRecursion IsFramed (enumerate_from place (map Whole fs ++ long_end b))
all_framed [] b place a = end_framed b place
all_framed (f ∷ fs) b place a = (a.0, all_framed fs b (place + 1) a.1)

arrivals_framed : (bytes : List ℕ) → AreBytes bytes → AllByRecursion IsFramed (enumerate_from 0 (arrivals bytes))
unfolding arrivals frames
arrivals_framed bytes a = all_framed (frames_within (length bytes) bytes) (is_long (rest bytes)) 0 (frames_fit (length bytes) bytes a)

-- those that a further piece brings
pub new_framed : (bytes piece : List ℕ) → AreBytes bytes → AreBytes piece → AllByRecursion IsFramed (new_arrivals bytes piece)
unfolding new_arrivals
new_framed bytes piece a b = all_drop IsFramed (length (arrivals bytes)) (enumerate_from 0 (arrivals (bytes ++ piece)))
    (arrivals_framed (bytes ++ piece) (bytes_joined bytes piece a b))
