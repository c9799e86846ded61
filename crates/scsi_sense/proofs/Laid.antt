-- Data that lies in pieces, each after room for a header.
use Rattle.std.proofs.Common.{◌≡◌, ◌<◌, ◌≤◌, ℕ, zero, suc, ◌+◌, ◌-◌, ◌*◌, min, List, [], ◌++◌, length, take, drop, refl, ap, sym, ◌∙◌, inl, inr, arith}
use Rattle.std.proofs.Math.Nat.{add-mul, mul-add, zero-mul, mul-le-mul_right}
use Rattle.std.proofs.Math.Seq.{take-add}
use Rattle.std.proofs.lemmas.Bool.{cases_lt}
use Rattle.std.proofs.lemmas.List.{append-nil, length-append, length-take, length-take-le, length-drop, drop-drop, drop-append-le, drop_at, take_at, take_all, take_min, take-take, drop-take}
use lib.Seq.{paste, take-paste, drop-paste, length-paste}
use Rattle.scsi_sense.specs.Given.{headroom, gathered, IsLaid}

-- one more of something
times_more : (n each : ℕ) → suc n * each ≡ n * each + each
times_more n each = omega (arith, add-mul n 1 each)

-- places in bytes with room for headers, and in the data alone
apart : (k piece : ℕ) → k * (headroom + piece) ≡ headroom * k + k * piece
apart k piece = omega (arith, mul-add k headroom piece)

-- the pieces after the first
rest_laid : (piece n : ℕ) (items : List ℕ) → IsLaid piece (suc (suc n)) items → IsLaid piece (suc n) (drop (headroom + piece) items)
rest_laid piece n items laid =
    let full = laid.full in
    let within = laid.within in
    let long = length-drop (headroom + piece) items in
    let one = times_more n (headroom + piece) in
    let two = times_more (suc n) (headroom + piece) in
    record { some = omega arith; full = omega (arith, long, one, two, full); within = omega (arith, long, two, within) }

-- the first of several is as long as the others
first_long : (piece n : ℕ) (items : List ℕ) → IsLaid piece (suc (suc n)) items → length (take piece (drop headroom items)) ≡ piece
first_long piece n items laid =
    let full = laid.full in
    let one = times_more n (headroom + piece) in
    let two = times_more (suc n) (headroom + piece) in
    omega (arith, full, one, two, length-take piece (drop headroom items), length-drop headroom items)

-- all but the room for headers is data
pub gathered_long : (piece count : ℕ) (items : List ℕ) → IsLaid piece count items
    → length (gathered piece count items) + headroom * count ≡ length items
gathered_long piece zero items laid = let some = laid.some in absurd (omega arith)
gathered_long piece (suc zero) items laid =
    let full = laid.full in
    let within = laid.within in
    omega (
      arith,
      full,
      within,
      zero-mul (headroom + piece),
      times_more 0 (headroom + piece),
      length-append (take piece (drop headroom items)) [],
      length-take piece (drop headroom items),
      length-drop headroom items,
    )
gathered_long piece (suc (suc n)) items laid =
    let rest = drop (headroom + piece) items in
    let full = laid.full in
    let one = times_more n (headroom + piece) in
    let two = times_more (suc n) (headroom + piece) in
    omega (
      arith,
      full,
      one,
      two,
      gathered_long piece (suc n) rest (rest_laid piece n items laid),
      first_long piece n items laid,
      length-append (take piece (drop headroom items)) (gathered piece (suc n) rest),
      length-drop (headroom + piece) items,
    )

-- there is some data
pub gathered_some : (piece count : ℕ) (items : List ℕ) → IsLaid piece count items → 0 < length (gathered piece count items)
gathered_some piece zero items laid = let some = laid.some in absurd (omega arith)
gathered_some piece (suc n) items laid =
    let full = laid.full in
    let within = laid.within in
    omega (
      arith,
      full,
      within,
      times_more n (headroom + piece),
      length-append (take piece (drop headroom items)) (gathered piece n (drop (headroom + piece) items)),
      length-take piece (drop headroom items),
      length-drop headroom items,
    )

-- where a piece lies
pub piece_lies : (piece count k : ℕ) (items : List ℕ) → IsLaid piece count items → k < count
    → take piece (drop (k * piece) (gathered piece count items)) ≡ take piece (drop (headroom + k * (headroom + piece)) items)
piece_lies piece zero k items laid below = absurd (omega arith)
piece_lies piece (suc zero) zero items laid below =
    rw (zero-mul piece, zero-mul (headroom + piece), append-nil (take piece (drop headroom items)))
    (take_all piece (take piece (drop headroom items)) (omega (arith, length-take piece (drop headroom items))))
piece_lies piece (suc zero) (suc k) items laid below = absurd (omega arith)
piece_lies piece (suc (suc n)) zero items laid below =
    rw (zero-mul piece, zero-mul (headroom + piece))
    (take_at (take piece (drop headroom items)) (gathered piece (suc n) (drop (headroom + piece) items)) piece (first_long piece n items laid))
piece_lies piece (suc (suc n)) (suc k) items laid below =
    let first = take piece (drop headroom items) in
    let rest = drop (headroom + piece) items in
    let next : suc k * piece ≡ piece + k * piece = omega (arith, times_more k piece) in
    let each = headroom + piece in
    let place : each + (headroom + k * each) ≡ headroom + suc k * each = omega (arith, times_more k each) in
    ap (λ (m : ℕ). take piece (drop m (first ++ gathered piece (suc n) rest))) next
    ∙ ap (take piece) (sym (drop-drop (k * piece) piece (first ++ gathered piece (suc n) rest)))
    ∙ ap (λ (xs : List ℕ). take piece (drop (k * piece) xs)) (drop_at first (gathered piece (suc n) rest) piece (first_long piece n items laid))
    ∙ piece_lies piece (suc n) k rest (rest_laid piece n items laid) (omega arith)
    ∙ ap (take piece) (drop-drop (headroom + k * (headroom + piece)) (headroom + piece) items)
    ∙ ap (λ (m : ℕ). take piece (drop m items)) place

-- ---- pieces that are moved together

-- so many of the pieces lie together, and the others where they lay
pub record IsJoined (piece count k : ℕ) (old now : List ℕ) : Type 0 where
  pub long : length now ≡ length old
  pub joined : take (min (k * piece) (length (gathered piece count old))) (drop headroom now) ≡ take (k * piece) (gathered piece count old)
  pub others : drop (k * (headroom + piece)) now ≡ drop (k * (headroom + piece)) old

-- how much data comes before a piece, and how many bytes
record IsWithin (piece count k : ℕ) (items : List ℕ) : Type 0 where
  begins : k * piece < length (gathered piece count items)
  bytes : headroom + k * (headroom + piece) < length items
  last : min (length items) (headroom + k * (headroom + piece) + piece) - (headroom + k * (headroom + piece))
      ≡ min piece (length (gathered piece count items) - k * piece)

is_within : (piece count k : ℕ) (items : List ℕ) → IsLaid piece count items → k < count → IsWithin piece count k items
is_within piece zero k items laid below = absurd (omega arith)
is_within piece (suc n) k items laid below =
    let full = laid.full in
    let within = laid.within in
    let most = times_more n (headroom + piece) in
    let long = gathered_long piece (suc n) items laid in
    let before = mul-le-mul_right (headroom + piece) (let is : k ≤ n = omega arith in is) in
    let low = mul-le-mul_right piece (let is : k ≤ n = omega arith in is) in
    let here = apart k piece in
    let all = apart n piece in
    let next = times_more k (headroom + piece) in
    elim (cases_lt k n) [
      | inl earlier ↦
          let up = mul-le-mul_right (headroom + piece) (let is : suc k ≤ n = omega arith in is) in
          let high = mul-le-mul_right piece (let is : suc k ≤ n = omega arith in is) in
          let more = times_more k piece in
          record {
            begins = omega (arith, full, most, long, low, all);
            bytes = omega (arith, full, most, before);
            last = omega (arith, full, most, long, up, high, more, next, all);
          }
      | inr later ↦
          let same : k * (headroom + piece) ≡ n * (headroom + piece) = ap (λ (m : ℕ). m * (headroom + piece)) (let is : k ≡ n = omega arith in is) in
          record {
            begins = omega (arith, full, most, long, low, all);
            bytes = omega (arith, full, most, before);
            last = omega (arith, full, within, most, long, same, here);
          }
    ]

pub joined_first : (piece count : ℕ) (items : List ℕ) → IsLaid piece count items → IsJoined piece count 1 items items
joined_first piece count items laid =
    let some = laid.some in
    let g = gathered piece count items in
    let is = is_within piece count 0 items laid (omega arith) in
    let last = is.last in
    let front : min (1 * piece) (length g) ≡ min piece (length (drop headroom items)) =
    omega (arith, last, zero-mul piece, zero-mul (headroom + piece), length-drop headroom items) in
    let lies : take piece g ≡ take piece (drop headroom items) =
    ap (λ (m : ℕ). take piece (drop m g)) (sym (zero-mul piece)) ∙ piece_lies piece count 0 items laid (omega arith)
    ∙ ap (λ (m : ℕ). take piece (drop (headroom + m) items)) (zero-mul (headroom + piece)) in
    let one : 1 * piece ≡ piece = omega arith in
    record {
      long = refl;
      joined = ap (λ (m : ℕ). take m (drop headroom items)) front ∙ take_min piece (drop headroom items) ∙ sym lies
          ∙ ap (λ (m : ℕ). take m g) (sym one);
      others = refl;
    }

-- what stands at the place of a piece, before it is moved
same_from : (k each : ℕ) (old now : List ℕ) → drop (k * each) now ≡ drop (k * each) old → drop (headroom + k * each) now ≡ drop (headroom + k * each) old
same_from k each old now same =
    let at : headroom + k * each ≡ k * each + headroom = omega arith in
    ap (λ (m : ℕ). drop m now) at ∙ sym (drop-drop headroom (k * each) now) ∙ ap (drop headroom) same
    ∙ drop-drop headroom (k * each) old ∙ ap (λ (m : ℕ). drop m old) (sym at)

-- the data in front grows by bytes that are put after it
grown : (m n f : ℕ) (now new : List ℕ) → headroom + m ≤ length now → n ≤ length (drop f now) → new ≡ paste now (headroom + m) (drop f now) n
    → take (m + n) (drop headroom new) ≡ take m (drop headroom now) ++ take n (drop f now)
grown m n f now new room enough is =
    let part = take n (drop f now) in
    let count : headroom + (m + n) ≡ headroom + m + n = omega arith in
    let front : headroom ≤ length (take (headroom + m) now) = omega (arith, length-take-le (headroom + m) now room) in
    sym (drop-take headroom (m + n) new) ∙ ap (λ (c : ℕ). drop headroom (take c new)) count
    ∙ ap (λ (xs : List ℕ). drop headroom (take (headroom + m + n) xs)) is
    ∙ ap (drop headroom) (take-paste now (headroom + m) (drop f now) n room enough)
    ∙ drop-append-le headroom (take (headroom + m) now) part front
    ∙ ap (λ (xs : List ℕ). xs ++ part) (drop-take headroom m now)

-- bytes after those that were put are the same
kept_after : (to n place : ℕ) (now new source : List ℕ) → to ≤ length now → n ≤ length source → new ≡ paste now to source n → to + n ≤ place
    → drop place new ≡ drop place now
kept_after to n place now new source room enough is after =
    let rest : place ≡ to + n + (place - (to + n)) = omega arith in
    ap (λ (m : ℕ). drop m new) rest ∙ sym (drop-drop (place - (to + n)) (to + n) new)
    ∙ ap (λ (xs : List ℕ). drop (place - (to + n)) (drop (to + n) xs)) is
    ∙ ap (drop (place - (to + n))) (drop-paste now to source n room enough)
    ∙ drop-drop (place - (to + n)) (to + n) now ∙ ap (λ (m : ℕ). drop m now) (sym rest)

pub joined_more : (piece count k : ℕ) (old now new : List ℕ) → IsLaid piece count old → IsJoined piece count k old now → k < count
    → new ≡ paste now (headroom + k * piece) (drop (headroom + k * (headroom + piece)) now)
    (min (length now) (headroom + k * (headroom + piece) + piece) - (headroom + k * (headroom + piece)))
    → IsJoined piece count (k + 1) old new
joined_more piece count k old now new laid so_far below put =
    let g = gathered piece count old in
    let m = k * piece in
    let f = headroom + k * (headroom + piece) in
    let n = min piece (length g - m) in
    let long = so_far.long in
    let within = is_within piece count k old laid below in
    let begins = within.begins in
    let bytes = within.bytes in
    let last = within.last in
    let here = apart k piece in
    let next : (k + 1) * (headroom + piece) ≡ k * (headroom + piece) + (headroom + piece) = omega (arith, times_more k (headroom + piece)) in
    let count_is : min (length now) (f + piece) - f ≡ n = omega (arith, long, last) in
    let is : new ≡ paste now (headroom + m) (drop f now) n = put ∙ ap (paste now (headroom + m) (drop f now)) count_is in
    let room : headroom + m ≤ length now = omega (arith, long, bytes, here) in
    let enough : n ≤ length (drop f now) = omega (arith, long, count_is, length-drop f now) in
    let part : take n (drop f now) ≡ take n (drop m g) =
    ap (take n) (same_from k (headroom + piece) old now so_far.others)
    ∙ sym (take-take n piece (drop f old) (omega arith)) ∙ ap (take n) (sym (piece_lies piece count k old laid below))
    ∙ take-take n piece (drop m g) (omega arith) in
    let front : take m (drop headroom now) ≡ take m g =
    (let few : min m (length g) ≡ m = omega (arith, begins) in ap (λ (c : ℕ). take c (drop headroom now)) (sym few) ∙ so_far.joined) in
    let all : min ((k + 1) * piece) (length g) ≡ m + n = omega (arith, begins, times_more k piece) in
    record {
      long = ap (λ (xs : List ℕ). length xs) is
          ∙ length-paste now (headroom + m) (drop f now) n (omega (arith, long, bytes, here, enough, length-drop f now)) enough ∙ long;
      joined = ap (λ (c : ℕ). take c (drop headroom new)) all ∙ grown m n f now new room enough is
          ∙ ap (λ (xs : List ℕ). xs ++ take n (drop f now)) front ∙ ap (λ (xs : List ℕ). take m g ++ xs) part ∙ sym (take-add m n g)
          ∙ ap (λ (c : ℕ). take c g) (sym all) ∙ take_min ((k + 1) * piece) g;
      others = kept_after (headroom + m) n ((k + 1) * (headroom + piece)) now new (drop f now) room enough is (omega (arith, here, next))
          ∙ ap (λ (c : ℕ). drop c now) next ∙ sym (drop-drop (headroom + piece) (k * (headroom + piece)) now)
          ∙ ap (drop (headroom + piece)) so_far.others ∙ drop-drop (headroom + piece) (k * (headroom + piece)) old
          ∙ ap (λ (c : ℕ). drop c old) (sym next);
    }

pub joined_all : (piece count k : ℕ) (old now new : List ℕ) → IsLaid piece count old → IsJoined piece count k old now → count ≤ k
    → new ≡ take (length old - headroom * (count - 1)) now → drop headroom new ≡ gathered piece count old
joined_all piece count k old now new laid so_far past cut =
    let g = gathered piece count old in
    let some = laid.some in
    let within = laid.within in
    let long = gathered_long piece count old laid in
    let here = apart count piece in
    let most = mul-le-mul_right piece past in
    let short : length g ≤ k * piece = omega (arith, within, long, here, most) in
    let all : min (k * piece) (length g) ≡ length g = omega (arith, short) in
    let size : length old - headroom * (count - 1) ≡ headroom + length g = omega (arith, long, some) in
    ap (drop headroom) (cut ∙ ap (λ (c : ℕ). take c now) size) ∙ drop-take headroom (length g) now
    ∙ ap (λ (c : ℕ). take c (drop headroom now)) (sym all) ∙ so_far.joined ∙ take_all (k * piece) g short
