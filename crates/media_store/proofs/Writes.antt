-- Bytes written over others, and after them.
use Rattle.std.proofs.Common.{◌≡◌, ℕ, ◌+◌, ◌-◌, ◌<◌, ◌≤◌, nat_lt, true, List, [], ◌++◌, length, take, drop, refl, arith, rules}
use Rattle.std.proofs.lemmas.List.{append-nil, take_all, drop_all, same_lists, places, length-append, length-replicate}
use Rattle.media_store.specs.Content.{resized, overlaid, written}

-- where the content has the range
pub overlaid-within : (at : ℕ) (bytes content : List ℕ) → at + length bytes ≤ length content
    → take at content ++ (bytes ++ drop (at + length bytes) content) ≡ overlaid at bytes content
overlaid-within at bytes content within =
    let none : at - length content ≡ 0 = omega arith in
    rw (none, append-nil (take at content)) refl

-- filled up with zeros to an end, and cut again
take-resized : (at end : ℕ) (content : List ℕ) → at ≤ end → take at (resized end content) ≡ resized at content
take-resized at end content below = same_lists _ _ (search (rules, places)) (λ k d h. grind (arith, places))

-- where the content ends within the range
pub overlaid-grown : (at : ℕ) (bytes content : List ℕ) → length content ≤ at + length bytes
    → take at (resized (at + length bytes) content) ++ (bytes ++ drop (at + length bytes) (resized (at + length bytes) content)) ≡ overlaid at bytes content
overlaid-grown at bytes content short =
    let all : take (at + length bytes) content ≡ content = take_all _ content short in
    let ended : drop (at + length bytes) content ≡ [] = drop_all _ content short in
    let as_long : length (resized (at + length bytes) content) ≤ at + length bytes = simp (all, length-append, length-replicate) (omega arith) in
    let grown : drop (at + length bytes) (resized (at + length bytes) content) ≡ [] =
    drop_all (at + length bytes) (resized (at + length bytes) content) as_long in
    rw (grown, ended, take-resized at (at + length bytes) content (omega arith)) refl

-- some bytes are written
pub written-some : (at : ℕ) (bytes content : List ℕ) → 0 < length bytes → written at bytes content ≡ overlaid at bytes content
written-some at bytes content some =
    let tested : nat_lt 0 (length bytes) ≡ true = search rules in
    rw tested refl
