-- Items by their sizes, whatever bytes the store holds.
use Rattle.std.proofs.Common.{◌≡◌, ℕ, zero, suc, ◌+◌, ◌-◌, ◌≤◌, ◌<◌, List, [], ◌∷◌, ◌++◌, length, take, drop, map, sum, replicate, get_or, drop-cons, All}
use Rattle.std.proofs.Common.{inl, inr, refl, ap, sym, ◌∙◌, arith}
use Rattle.std.proofs.lemmas.List.{drop-map, length-map, length-append, length-replicate, length-drop, length-take-le, drop-take, take-take, take-append-le}
use Rattle.std.proofs.lemmas.List.Elements.{All-nil, All-cons, All-head, All-tail, All-drop}
use Rattle.std.proofs.lemmas.List.Sums.{sum_by-cons}
use Rattle.media_tape.specs.Items.{Item, Record, Filemark, data_of, item_of, size, IsSize, padded, items_sized, items_in, items_of}
use Rattle.media_tape.specs.Tape.{length_told, first_told, first_data}
use Rattle.media_tape.proofs.Items.{HasBytes, item_of-has, data_of-item_of, front-cases, length-front, items_of-next, items_of-none}
use Rattle.media_tape.proofs.Commands.{first_told-item, first_data-item}

length-padded : (n : ℕ) (bytes : List ℕ) → length (padded n bytes) ≡ n
length-padded n bytes =
    length-take-le n (bytes ++ replicate n 0) (omega (arith, length-append bytes (replicate n 0), length-replicate {A = ℕ} n 0))

pub sizes-sized : (sizes bytes : List ℕ) → All IsSize sizes → map size (items_sized sizes bytes) ≡ sizes
sizes-sized [] bytes are = refl
sizes-sized (n ∷ sizes) bytes are =
    let least = (All-head IsSize n sizes are).least in
    let own = padded (n - 8) (drop 4 bytes) in
    let one : size (item_of own) ≡ n =
    ap (λ (xs : List ℕ). length xs + 8) (data_of-item_of own) ∙ omega (arith, length-padded (n - 8) (drop 4 bytes), least) in
    ap (λ (m : ℕ). m ∷ map size (items_sized sizes (drop n bytes))) one
    ∙ ap (λ (xs : List ℕ). n ∷ xs) (sizes-sized sizes (drop n bytes) (All-tail IsSize n sizes are))

pub length-sized : (sizes bytes : List ℕ) → length (items_sized sizes bytes) ≡ length sizes
length-sized [] bytes = refl
length-sized (n ∷ sizes) bytes = omega (arith, length-sized sizes (drop n bytes))

pub items_sized-have : (sizes bytes : List ℕ) → All HasBytes (items_sized sizes bytes)
items_sized-have [] bytes = All-nil HasBytes
items_sized-have (n ∷ sizes) bytes =
    All-cons HasBytes (item_of (padded (n - 8) (drop 4 bytes))) (items_sized sizes (drop n bytes)) (item_of-has (padded (n - 8) (drop 4 bytes)))
    (items_sized-have sizes (drop n bytes))

pub are_sizes : (many n : ℕ) → IsSize n → All IsSize (replicate many n)
are_sizes zero n is = All-nil IsSize
are_sizes (suc many) n is = All-cons IsSize n (replicate many n) is (are_sizes many n is)

-- ---- where the store has items of these sizes, they are those

pub items_sized-is : (sizes bytes : List ℕ) → sum sizes ≤ length bytes → map size (items_of (take (sum sizes) bytes)) ≡ sizes
    → items_sized sizes bytes ≡ items_of (take (sum sizes) bytes)
unfolding items_in
items_sized-is [] bytes long are = refl
items_sized-is (n ∷ sizes) bytes long are =
    let all = sum_by-cons (λ n. n) n sizes in
    let end : ℕ = n + sum sizes in
    let here = take end bytes in
    let whole : length here ≡ end = length-take-le end bytes (omega (arith, all, long)) in
    let sized : map size (items_of here) ≡ n ∷ sizes = ap (λ (m : ℕ). map size (items_of (take m bytes))) (sym all) ∙ are in
    elim (front-cases here) [
      | inl none ↦ absurd (omega (arith, ap length (sym sized ∙ ap (map size) (items_of-none here none))))
      | inr found ↦
          let m = found.0 in
          let is = items_of-next here m found.1 in
          let rest = items_of (drop (m + 8) here) in
          let both : (m + 8) ∷ map size rest ≡ n ∷ sizes =
          ap (λ (k : ℕ). k ∷ map size rest) (sym (length-front here m found.1)) ∙ sym (ap (map size) is) ∙ sized in
          let first : m + 8 ≡ n = ap (λ (xs : List ℕ). get_or xs 0 0) both in
          let others : map size rest ≡ sizes = ap (λ (xs : List ℕ). drop 1 xs) both in
          let behind : drop (m + 8) here ≡ take (sum sizes) (drop n bytes) =
          ap (λ (k : ℕ). drop k here) first ∙ drop-take n (sum sizes) bytes in
          let next = items_sized-is sizes (drop n bytes) (omega (arith, all, long, length-drop n bytes))
          (ap (λ (xs : List ℕ). map size (items_of xs)) (sym behind) ∙ others) in
          let four : 4 + (end - 4) ≡ end = omega (arith, first) in
          let bytes_are : take m (drop 4 here) ≡ take m (drop 4 bytes) =
          ap (λ (k : ℕ). take m (drop 4 (take k bytes))) (sym four) ∙ ap (take m) (drop-take 4 (end - 4) bytes)
          ∙ take-take m (end - 4) (drop 4 bytes) (omega (arith, first)) in
          let m_is : n - 8 ≡ m = omega (arith, first) in
          let own : padded (n - 8) (drop 4 bytes) ≡ take m (drop 4 here) =
          ap (λ (k : ℕ). padded k (drop 4 bytes)) m_is
          ∙ take-append-le m (drop 4 bytes) (replicate m 0) (omega (arith, first, all, long, length-drop 4 bytes))
          ∙ sym bytes_are in
          ap (λ (xs : List ℕ). item_of xs ∷ items_sized sizes (drop n bytes)) own
          ∙ ap (λ (xs : List Item). item_of (take m (drop 4 here)) ∷ xs) (next ∙ ap (λ (xs : List ℕ). items_of xs) (sym behind))
          ∙ sym is ∙ ap (λ (k : ℕ). items_of (take k bytes)) (sym all)
    ]

-- ---- the item after a position

item_of-bytes : (item : Item) → HasBytes item → item_of (data_of item) ≡ item
item_of-bytes (Record []) has = absurd (omega (arith, has))
item_of-bytes (Record (byte ∷ bytes)) has = refl
item_of-bytes Filemark has = refl

-- of this length
pub record IsAt (items : List Item) (position n : ℕ) : Type 0 where
  pub told : length_told n ≡ first_told (drop position items)
  pub long : length (first_data (drop position items)) ≡ n

is_at : (sizes : List ℕ) (items : List Item) (position size_at : ℕ) → map size items ≡ sizes → All HasBytes items → position < length sizes
    → get_or sizes position 0 ≡ size_at → IsAt items position (size_at - 8)
is_at sizes items position size_at are have less is =
    let few : position < length items = omega (arith, less, ap length are, length-map items size) in
    let item = get_or items position Filemark in
    let rest = drop (suc position) items in
    let here : drop position items ≡ item ∷ rest = drop-cons items position Filemark few in
    let has : HasBytes item = All-head HasBytes item rest (rw here at (All-drop HasBytes position items have)) in
    let own : item_of (data_of item) ≡ item = item_of-bytes item has in
    let sized : size_at ≡ size item =
    sym is ∙ ap (λ (xs : List ℕ). get_or xs 0 0)
    (sym (drop-cons sizes position 0 less) ∙ ap (drop position) (sym are) ∙ drop-map size position items ∙ ap (map size) here) in
    let n_is : size_at - 8 ≡ length (data_of item) = omega (arith, sized) in
    let front : drop position items ≡ item_of (data_of item) ∷ rest = here ∙ ap (λ (i : Item). i ∷ rest) (sym own) in
    record {
      told = ap length_told n_is ∙ first_told-item (data_of item) rest ∙ sym (ap first_told front);
      long = ap (λ (xs : List Item). length (first_data xs)) front ∙ ap length (first_data-item (data_of item) rest) ∙ sym n_is;
    }

pub is_at-sized : (content sizes : List ℕ) (position size_at : ℕ) → All IsSize sizes → position < length sizes → get_or sizes position 0 ≡ size_at
    → IsAt (items_sized sizes content) position (size_at - 8)
is_at-sized content sizes position size_at are less is =
    is_at sizes (items_sized sizes content) position size_at (sizes-sized sizes content are) (items_sized-have sizes content) less is
