-- Items by their sizes.
use Rattle.std.proofs.Common.{◌≡◌, ℕ, zero, suc, ◌+◌, ◌≤◌, ◌<◌, List, [], ◌∷◌, ◌++◌, length, take}
use Rattle.std.proofs.Common.{drop, reverse, map, sum, All, false, ◌==◌, refl, ap, sym, ◌∙◌, arith}
use Rattle.std.proofs.lemmas.Bool.{ne_eqb}
use Rattle.std.proofs.lemmas.List.{reverse-append, map-append, take-map, drop-map, take-append-drop, length-take-le}
use Rattle.std.proofs.lemmas.List.Elements.{All-head, All-tail, All-nil, All-cons, All-append, All-drop, All-take}
use Rattle.std.proofs.lemmas.List.Sums.{sum_by-cons}
use Rattle.media_tape.specs.Items.{Item, Record, Filemark, size, size_of}
use Rattle.tape_index.specs.Index.{mark_size}
use Rattle.media_tape.specs.Tape.{TapeState}
use Rattle.media_tape.specs.Space.{way, one_more, ahead, tape_spaced}
use Rattle.tape_index.specs.Way.{Way, spaced_to}
use Rattle.tape_index.specs.SizeSpace.{further, size_way, size_way_from}
use Rattle.media_tape.proofs.Items.{HasBytes}
use Rattle.tape_index.specs.declared.outcome.Over.{Over}
use Rattle.tape_index.specs.declared.outcome.Over.TheVariants.{Records, Filemarks}
use Rattle.tape_index.specs.declared.outcome.Direction.{Direction}
use Rattle.tape_index.specs.declared.outcome.Direction.TheVariants.{Forward, Backward}

pub sum-sizes : (items : List Item) → sum (map size items) ≡ size_of items
sum-sizes [] = refl
sum-sizes (item ∷ items) = sum_by-cons (λ n. n) (size item) (map size items) ∙ ap (λ s. size item + s) (sum-sizes items)

no_mark : (bytes : List ℕ) → 0 < length bytes → (length bytes + mark_size == mark_size) ≡ false
no_mark bytes some = ne_eqb (length bytes + mark_size) mark_size (λ e. omega arith)

one_further : (w : Way) → further 1 w ≡ one_more w
one_further w = let e : 1 + w.passed ≡ suc w.passed = omega arith in rw e refl

-- spacing over items is spacing over their sizes
pub ways : (direction : Direction) (over : Over) (count : ℕ) (items : List Item) → All HasBytes items
    → size_way direction over count (map size items) ≡ way direction over count items
ways direction over zero items have = refl
ways direction over (suc left) [] have = refl
ways direction Records (suc left) (Record bytes ∷ items) have =
    rw (no_mark bytes (All-head HasBytes (Record bytes) items have))
    (ap (further 1) (ways direction Records left items (All-tail HasBytes (Record bytes) items have)) ∙ one_further (way direction Records left items))
ways direction Records (suc left) (Filemark ∷ items) have = refl
ways direction Filemarks (suc left) (Record bytes ∷ items) have =
    rw (no_mark bytes (All-head HasBytes (Record bytes) items have))
    (ap (further 1) (ways direction Filemarks (suc left) items (All-tail HasBytes (Record bytes) items have))
    ∙ one_further (way direction Filemarks (suc left) items))
ways direction Filemarks (suc left) (Filemark ∷ items) have =
    ap (further 1) (ways direction Filemarks left items (All-tail HasBytes Filemark items have)) ∙ one_further (way direction Filemarks left items)

-- ---- on the way from a position

pub map-reverse : {A B : Type 0} (f : A → B) (xs : List A) → map f (reverse xs) ≡ reverse (map f xs)
map-reverse f [] = refl
map-reverse f (x ∷ xs) =
    ap (map f) (reverse-append (x ∷ []) xs) ∙ map-append f (reverse xs) (x ∷ []) ∙ ap (λ ys. ys ++ f x ∷ []) (map-reverse f xs)
    ∙ sym (reverse-append (f x ∷ []) (map f xs))

All-reverse : (items : List Item) → All HasBytes items → All HasBytes (reverse items)
All-reverse [] have = have
All-reverse (item ∷ items) have =
    rw (reverse-append (item ∷ []) items)
    (All-append HasBytes (reverse items) (item ∷ []) (All-reverse items (All-tail HasBytes item items have))
    (All-cons HasBytes item [] (All-head HasBytes item items have) (All-nil HasBytes)))

pub ways_ahead : (toward : Direction) (over : Over) (count position : ℕ) (sizes : List ℕ) (tape : TapeState) (items : List Item)
    → tape.before ≡ take position items → tape.after ≡ drop position items → map size items ≡ sizes → All HasBytes items
    → size_way_from toward over count position sizes ≡ way toward over count (ahead toward tape)
ways_ahead Forward over count position sizes tape items before after are have =
    ap (size_way Forward over count) (ap (drop position) (sym are) ∙ drop-map size position items)
    ∙ ways Forward over count (drop position items) (All-drop HasBytes position items have) ∙ ap (way Forward over count) (sym after)
ways_ahead Backward over count position sizes tape items before after are have =
    ap (size_way Backward over count) (ap reverse (ap (take position) (sym are) ∙ take-map size position items) ∙ sym (map-reverse size (take position items)))
    ∙ ways Backward over count (reverse (take position items)) (All-reverse (take position items) (All-take HasBytes position items have))
    ∙ ap (λ (xs : List Item). way Backward over count (reverse xs)) (sym before)

pub spaced_is : (toward : Direction) (over : Over) (count position number : ℕ) (sizes : List ℕ) (tape : TapeState) (all : List Item)
    → tape.before ≡ take position all → tape.after ≡ drop position all → map size all ≡ sizes → All HasBytes all → position ≤ length all
    → number ≡ spaced_to toward position (size_way_from toward over count position sizes).passed
    → record tape { before = take number all; after = drop number all } ≡ tape_spaced toward over count tape
spaced_is toward over count position number sizes tape all before after are have few is =
    let on = ways_ahead toward over count position sizes tape all before after are have in
    let long : position ≡ length tape.before = sym (ap length before ∙ length-take-le position all few) in
    let items : tape.before ++ tape.after ≡ all = ap (λ (xs : List Item). xs ++ tape.after) before
    ∙ ap (λ (xs : List Item). take position all ++ xs) after ∙ take-append-drop position all in
    let to = is ∙ ap (λ (w : Way). spaced_to toward position w.passed) on
    ∙ ap (λ (n : ℕ). spaced_to toward n (way toward over count (ahead toward tape)).passed) long in
    ap (λ (n : ℕ). record tape { before = take n all; after = drop n all }) to
    ∙ ap (λ (xs : List Item). let n = spaced_to toward (length tape.before) (way toward over count (ahead toward tape)).passed in
    record tape { before = take n xs; after = drop n xs }) (sym items)
