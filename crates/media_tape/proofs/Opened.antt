-- What a walk over a whole store says of its content.
use borrow.Author.Tests.{eqb-true, eq-eqb}
use Rattle.std.proofs.Common.{◌≡◌, ℕ, ◌<◌, ◌≤◌, List, [], length, take, drop, sum, true, sym, ap, ◌∙◌, arith}
use Rattle.std.proofs.lemmas.List.{take_all, drop_all}
use Rattle.media_tape.specs.Items.{size_of, items_of, torn_at, is_tape}

-- the items end where the walk ended
pub walked_place : (content shown sizes : List ℕ) (end place : ℕ) → shown ≡ content → end ≡ length content
    → (end ≤ length shown → sum sizes ≡ size_of (items_of (take end shown))) → place ≡ sum sizes → place ≡ torn_at content
walked_place content shown sizes end place same long parsed is =
    let whole : end ≤ length shown = omega (arith, ap length same, long) in
    let all : length content ≤ end = omega (arith, long) in
    is ∙ parsed whole ∙ ap (λ (xs : List ℕ). size_of (items_of (take end xs))) same
    ∙ ap (λ (xs : List ℕ). size_of (items_of xs)) (take_all end content all)

pub whole_tape : (content : List ℕ) (place end : ℕ) → place ≡ torn_at content → end ≡ length content → place ≤ end → end ≤ place
    → is_tape content ≡ true
whole_tape content place end at long most least = eq-eqb (torn_at content) (length content) (sym at ∙ omega (arith, most, least) ∙ long)

pub torn_no_tape : (content : List ℕ) (place end : ℕ) → place ≡ torn_at content → end ≡ length content → place < end → is_tape content ≡ true → ⊥
torn_no_tape content place end at long below is = omega (arith, at, long, below, eqb-true (torn_at content) (length content) is)

pub no_tail : (content shown : List ℕ) (place end : ℕ) → shown ≡ content → end ≡ length content → end ≤ place → drop place shown ≡ []
no_tail content shown place end same long past =
    let whole : length shown ≤ place = omega (arith, ap length same, long, past) in
    drop_all place shown whole
