-- Items in front of bytes that a walk has come over.
use Rattle.std.proofs.Common.{◌≡◌, ℕ, ◌+◌, ◌≤◌, List, [], ◌∷◌, ◌++◌, length, take, drop, map, sum, Some, None, ap, sym, ◌∙◌, arith}
use Rattle.std.specs.Prelude.{replicate}
use Rattle.std.proofs.Math.Seq.{take-add}
use Rattle.std.proofs.lemmas.List.{length-drop, length-append, map-append, take_all}
use Rattle.media_tape.specs.Items.{Item, item_of, size, size_of, front, items_of}
use Rattle.media_tape.proofs.Items.{items_of-next, items_of-none, drop-items_of, length-front}
use Rattle.media_tape.proofs.Sizes.{sum-sizes}

pub record IsWalked (bytes sizes : List ℕ) : Type 0 where
  pub few : length sizes ≤ length (items_of bytes)
  pub are : map size (take (length sizes) (items_of bytes)) ≡ sizes

behind-is : (bytes sizes : List ℕ) → IsWalked bytes sizes → drop (length sizes) (items_of bytes) ≡ items_of (drop (sum sizes) bytes)
behind-is bytes sizes is =
    let placed : size_of (take (length sizes) (items_of bytes)) ≡ sum sizes = sym (sum-sizes (take (length sizes) (items_of bytes))) ∙ ap sum is.are in
    rw placed at (drop-items_of (length sizes) bytes is.few)

pub walked-next : (bytes sizes : List ℕ) (n : ℕ) → IsWalked bytes sizes → Some n ≡ front (drop (sum sizes) bytes)
    → IsWalked bytes (sizes ++ replicate 1 (n + 8))
walked-next bytes sizes n is some =
    let items = items_of bytes in
    let k = length sizes in
    let rest = drop (sum sizes) bytes in
    let item = item_of (take n (drop 4 rest)) in
    let here : drop k items ≡ item ∷ items_of (drop (n + 8) rest) = behind-is bytes sizes is ∙ items_of-next rest n (sym some) in
    let long : length (sizes ++ replicate 1 (n + 8)) ≡ k + 1 = length-append sizes (replicate 1 (n + 8)) in
    let more = sym (ap length here) ∙ length-drop k items in
    let sized : size item ≡ n + 8 = length-front rest n (sym some) in
    record {
      few = omega (arith, long, more);
      are = ap (λ (m : ℕ). map size (take m items)) long
          ∙ ap (map size) (take-add k 1 items ∙ ap (λ (xs : List Item). take k items ++ xs) (ap (take 1) here))
          ∙ map-append size (take k items) (item ∷ []) ∙ ap (λ (xs : List ℕ). xs ++ size item ∷ []) is.are
          ∙ ap (λ (m : ℕ). sizes ++ m ∷ []) sized;
    }

pub walked-last : (bytes sizes : List ℕ) → IsWalked bytes sizes → None ≡ front (drop (sum sizes) bytes) → sizes ≡ map size (items_of bytes)
walked-last bytes sizes is none =
    let items = items_of bytes in
    let gone = ap length (behind-is bytes sizes is ∙ items_of-none (drop (sum sizes) bytes) (sym none)) in
    sym is.are ∙ ap (map size) (take_all (length sizes) items (omega (arith, gone, length-drop (length sizes) items)))
