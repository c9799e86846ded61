-- Numbers that are read from a part of a header.
use Rattle.std.proofs.Common.{◌≡◌, ℕ, zero, suc, ◌+◌, ◌≤◌, ◌<◌, List, get_or-take, get_or-drop, add-suc, add-zero, take, drop, refl, arith}
use Rattle.byteorder.specs.Endian.{big_from}

part_from : (n i start count : ℕ) (xs : List ℕ) → i + n ≤ count → big_from i n (take count (drop start xs)) ≡ big_from (start + i) n xs
part_from zero i start count xs within = refl
part_from (suc n) i start count xs within =
    let below : i < count = omega arith in
    rw (get_or-take count (drop start xs) i 0 below, get_or-drop start xs i 0, part_from n (suc i) start count xs (omega arith), add-suc)

-- the number with which a part begins stands in the whole too
pub number_at : (n start more : ℕ) (xs : List ℕ) → big_from 0 n (take (n + more) (drop start xs)) ≡ big_from start n xs
number_at n start more xs = rw add-zero at (part_from n 0 start (n + more) xs (omega arith))
