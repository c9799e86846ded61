-- The bytes of blocks, where they stand.
use Rattle.std.proofs.Common.{◌≡◌, ℕ, zero, suc, ◌+◌, ◌-◌, ◌*◌, ◌≤◌, List, ◌++◌, length, take, drop, slice_range, refl, ap, sym, ◌∙◌, arith, append_assoc}
use Rattle.std.proofs.lemmas.List.{append-nil, drop-drop, drop-take, take-take, length-take-le, length-drop, length-append}
use Rattle.media_tape.proofs.Spelled.{slice-is, slice-behind}
use Rattle.media_tape.specs.BlockData.{data_in}

pub length-data : (count block_length : ℕ) (bytes : List ℕ) → count * (block_length + 8) ≤ length bytes
    → length (data_in count block_length bytes) ≡ count * block_length
length-data zero block_length bytes long = omega arith
length-data (suc count) block_length bytes long =
    let rest = drop (block_length + 8) bytes in
    let more : suc count * (block_length + 8) ≡ (block_length + 8) + count * (block_length + 8) = grind arith in
    let whole : suc count * block_length ≡ block_length + count * block_length = grind arith in
    let front = length-take-le block_length (drop 4 bytes) (omega (arith, more, long, length-drop 4 bytes)) in
    let behind = length-data count block_length rest (omega (arith, more, long, length-drop (block_length + 8) bytes)) in
    length-append (take block_length (drop 4 bytes)) (data_in count block_length rest) ∙ omega (arith, front, behind, whole)

-- one block more
pub data-more : (count block_length from : ℕ) (bytes : List ℕ) → from ≡ count * (block_length + 8) + 4
    → data_in count block_length bytes ++ slice_range bytes from (from + block_length) ≡ data_in (count + 1) block_length bytes
data-more zero block_length from bytes is =
    let at : from ≡ 4 = omega arith in
    slice-is from block_length bytes ∙ ap (λ n. take block_length (drop n bytes)) at ∙ sym (append-nil (take block_length (drop 4 bytes)))
data-more (suc count) block_length from bytes is =
    let rest = drop (block_length + 8) bytes in
    let head = take block_length (drop 4 bytes) in
    let inner : ℕ = count * (block_length + 8) + 4 in
    let more : suc count * (block_length + 8) ≡ (block_length + 8) + count * (block_length + 8) = grind arith in
    let at : block_length + 8 + inner ≡ from = omega (arith, more, is) in
    let here : slice_range bytes from (from + block_length) ≡ slice_range rest inner (inner + block_length) =
    ap (λ n. slice_range bytes n (n + block_length)) (sym at) ∙ slice-behind (block_length + 8) inner block_length bytes in
    let e : suc count + 1 ≡ suc (count + 1) = omega arith in
    append_assoc head (data_in count block_length rest) (slice_range bytes from (from + block_length))
    ∙ ap (λ (xs : List ℕ). head ++ (data_in count block_length rest ++ xs)) here
    ∙ ap (λ (xs : List ℕ). head ++ xs) (data-more count block_length inner rest refl)
    ∙ ap (λ n. data_in n block_length bytes) (sym e)

-- bytes after them change nothing
pub data-take : (count block_length many : ℕ) (bytes : List ℕ) → count * (block_length + 8) ≤ many
    → data_in count block_length (take many bytes) ≡ data_in count block_length bytes
data-take zero block_length many bytes long = refl
data-take (suc count) block_length many bytes long =
    let more : suc count * (block_length + 8) ≡ (block_length + 8) + count * (block_length + 8) = grind arith in
    let size : ℕ = block_length + 8 in
    let four : 4 + (many - 4) ≡ many = omega (arith, more) in
    let rest : size + (many - size) ≡ many = omega (arith, more) in
    let head : take block_length (drop 4 (take many bytes)) ≡ take block_length (drop 4 bytes) =
    ap (λ n. take block_length (drop 4 (take n bytes))) (sym four) ∙ ap (take block_length) (drop-take 4 (many - 4) bytes)
    ∙ take-take block_length (many - 4) (drop 4 bytes) (omega (arith, more)) in
    let behind : drop size (take many bytes) ≡ take (many - size) (drop size bytes) =
    ap (λ n. drop size (take n bytes)) (sym rest) ∙ drop-take size (many - size) bytes in
    ap (λ (xs : List ℕ). xs ++ data_in count block_length (drop size (take many bytes))) head
    ∙ ap (λ (xs : List ℕ). take block_length (drop 4 bytes) ++ data_in count block_length xs) behind
    ∙ ap (λ (xs : List ℕ). take block_length (drop 4 bytes) ++ xs)
    (data-take count block_length (many - size) (drop size bytes) (omega (arith, more)))

-- of one block, and of the bytes that are read from a place on
pub data-one : (count block_length place : ℕ) (content : List ℕ) → count ≡ 1
    → slice_range content (place + 4) (place + 4 + block_length) ≡ data_in count block_length (drop place content)
data-one count block_length place content one =
    slice-is (place + 4) block_length content ∙ sym (ap (take block_length) (drop-drop 4 place content))
    ∙ sym (append-nil (take block_length (drop 4 (drop place content)))) ∙ ap (λ n. data_in n block_length (drop place content)) (sym one)

pub data-slice : (count block_length place : ℕ) (content : List ℕ)
    → data_in count block_length (slice_range content place (place + count * (block_length + 8))) ≡ data_in count block_length (drop place content)
data-slice count block_length place content =
    let size : ℕ = count * (block_length + 8) in
    ap (data_in count block_length) (slice-is place size content) ∙ data-take count block_length size (drop place content) (omega arith)
