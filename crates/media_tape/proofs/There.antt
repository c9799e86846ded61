-- There and back: a record that was written, and records that were spaced over.
use Rattle.std.proofs.Common.{◌≡◌, ◌≢◌, ℕ, zero, suc, ◌+◌, ◌-◌, List, [], ◌∷◌, ◌++◌, length, take}
use Rattle.std.proofs.Common.{drop, reverse, map, refl, ap, sym, ◌∙◌, arith}
use Rattle.std.proofs.lemmas.List.{append-nil, take_at, drop_at, length-append, length-map, length-reverse, reverse-append, append_assoc}
use Rattle.media_tape.specs.Items.{Item, Record, Filemark}
use Rattle.media_tape.specs.Tape.{TapeState, items, located_at, write_told, tape_written, wrote, wrote_if_told}
use Rattle.media_tape.specs.Space.{way, one_more, spaced_told, tape_spaced}
use Rattle.tape_index.specs.Way.{Way}
use Rattle.media_tape.specs.Laws.{IsReadBack}
use Rattle.media_tape.proofs.Sizes.{map-reverse}
use Rattle.media_tape.specs.declared.outcome.Written.{Written}
use Rattle.media_tape.specs.declared.outcome.Written.TheVariants as written
use Rattle.tape_index.specs.declared.outcome.Over.TheVariants.{Records}
use Rattle.tape_index.specs.declared.outcome.Direction.{Direction}
use Rattle.tape_index.specs.declared.outcome.Direction.TheVariants.{Forward, Backward}
use Rattle.tape_index.specs.declared.outcome.Spaced.TheVariants as spaced

wrote-told : (told : Written) (others : List Item) (tape : TapeState) → told ≢ written.Refused → wrote_if_told told others tape ≡ wrote others tape
wrote-told written.Whole others tape some = refl
wrote-told written.Early others tape some = refl
wrote-told written.Refused others tape some = absurd (some refl)

pub read-back : (bytes : List ℕ) (tape : TapeState) → bytes ≢ [] → write_told bytes tape ≢ written.Refused → IsReadBack bytes tape
read-back [] tape some told = absurd (some refl)
read-back (byte ∷ bytes) tape some told =
    let is = wrote-told (write_told (byte ∷ bytes) tape) (Record (byte ∷ bytes) ∷ []) tape told in
    let all : items (tape_written (byte ∷ bytes) tape) ≡ tape.before ++ Record (byte ∷ bytes) ∷ [] =
    ap items is ∙ append-nil (tape.before ++ Record (byte ∷ bytes) ∷ []) in
    record {
      before = ap (take (length tape.before)) all ∙ take_at tape.before (Record (byte ∷ bytes) ∷ []) (length tape.before) refl;
      after = ap (drop (length tape.before)) all ∙ drop_at tape.before (Record (byte ∷ bytes) ∷ []) (length tape.before) refl;
    }

-- spacing over records and no others
way-records : (direction : Direction) (records : List (List ℕ)) (others : List Item)
    → way direction Records (length records) (map Record records ++ others) ≡ record { passed = length records; told = spaced.Whole }
way-records direction [] others = refl
way-records direction (bytes ∷ records) others = ap one_more (way-records direction records others)

-- records that were passed, all of them
record ArePassed (count : ℕ) (items : List Item) : Type 0 where
  pub records : List (List ℕ)
  pub rest : List Item
  pub is : items ≡ map Record records ++ rest
  pub long : length records ≡ count

passed-all : (count : ℕ) (items : List Item) → (way Forward Records count items).told ≡ spaced.Whole → ArePassed count items
passed-all zero items told = record { records = []; rest = items; is = refl; long = refl }
passed-all (suc count) [] told = cc
passed-all (suc count) (Filemark ∷ items) told = cc
passed-all (suc count) (Record bytes ∷ items) told =
    let next = passed-all count items told in
    record {
      records = bytes ∷ next.records;
      rest = next.rest;
      is = ap (λ (xs : List Item). Record bytes ∷ xs) next.is;
      long = omega (arith, next.long);
    }

located-append : (front behind : List Item) (tape : TapeState) (position : ℕ) → position ≡ length front → items tape ≡ front ++ behind
    → located_at position tape ≡ record tape { before = front; after = behind }
located-append front behind tape position long is =
    rw (is, take_at front behind position (sym long), drop_at front behind position (sym long)) refl

pub there-and-back : (count : ℕ) (tape : TapeState) → spaced_told Forward Records count tape ≡ spaced.Whole
    → tape_spaced Backward Records count (tape_spaced Forward Records count tape) ≡ tape
there-and-back count tape told =
    let next = passed-all count tape.after told in
    let xs = map Record next.records in
    let many : length xs ≡ count = length-map next.records Record ∙ next.long in
    let on = ap (λ (ys : List Item). way Forward Records count ys) next.is
    ∙ ap (λ (n : ℕ). way Forward Records n (xs ++ next.rest)) (sym next.long) ∙ way-records Forward next.records next.rest in
    let on_passed = ap (λ (w : Way). w.passed) on in
    let there : tape_spaced Forward Records count tape ≡ record tape { before = tape.before ++ xs; after = next.rest } =
    located-append (tape.before ++ xs) next.rest tape (length tape.before + (way Forward Records count tape.after).passed)
    (omega (arith, on_passed, next.long, many, length-append tape.before xs))
    (ap (λ (ys : List Item). tape.before ++ ys) next.is ∙ sym (append_assoc tape.before xs next.rest)) in
    let moved : TapeState = record tape { before = tape.before ++ xs; after = next.rest } in
    let before_is : reverse (tape.before ++ xs) ≡ map Record (reverse next.records) ++ reverse tape.before =
    reverse-append tape.before xs ∙ ap (λ (ys : List Item). ys ++ reverse tape.before) (sym (map-reverse Record next.records)) in
    let back_long : length (reverse next.records) ≡ count = length-reverse next.records ∙ next.long in
    let back = ap (λ (ys : List Item). way Backward Records count ys) before_is
    ∙ ap (λ (n : ℕ). way Backward Records n (map Record (reverse next.records) ++ reverse tape.before)) (sym back_long)
    ∙ way-records Backward (reverse next.records) (reverse tape.before) in
    let back_passed = ap (λ (w : Way). w.passed) back in
    ap (tape_spaced Backward Records count) there
    ∙ located-append tape.before (xs ++ next.rest) moved (length (tape.before ++ xs) - (way Backward Records count (reverse (tape.before ++ xs))).passed)
    (omega (arith, back_passed, back_long, many, length-append tape.before xs))
    (append_assoc tape.before xs next.rest)
    ∙ ap (λ (ys : List Item). record tape { after = ys }) (sym next.is)
