-- What a store says of a call, from what the whole read or write below it was.
use Rattle.std.proofs.Common.{◌≡◌, ℕ, ◌+◌, ◌&&◌, Bool, true, IsTrue, List, length, take, slice_range, refl, sym, ◌∙◌, ap, arith, rules, Result, Ok, Err, is_ok, OnOk, OnErr, bytes_eq}
use Rattle.std.proofs.lemmas.List.{take_all, places}
use Rattle.std.proofs.lemmas.Bool.{and_parts}
use Rattle.std.proofs.lemmas.Slice.Eq.{bytes_eq-Decides}
use Rattle.media_store.specs.Calls.{FileCall}
use Rattle.media_store.specs.Content.{written, KeepsOutside}
use Rattle.media_store.specs.Honesty.{HasAgreed}
use Rattle.media_store.specs.Replay.{Origin, content_of, agrees_at, is_honest}
use Rattle.media_store.specs.Whole.{HasRead, HasWritten}
use Rattle.media_store.proofs.PartsWritten.{KeepsOutside-written}
use Rattle.media_store.proofs.Joined.{and_true}

pub OnOk-tested : {T E P : Type 0} (result : Result T E) → (IsTrue (is_ok result) → P) → OnOk result P
OnOk-tested (Ok value) holds = holds refl
OnOk-tested (Err error) holds = tt

pub OnErr-always : {T E P : Type 0} (result : Result T E) → P → OnErr result P
OnErr-always (Ok value) holds = tt
OnErr-always (Err error) holds = holds

module _ (origin : Origin) (at : ℕ) (buffer : List ℕ) (ok : Bool) (old now : List FileCall) (read : HasRead origin at buffer ok old now) where
  stands : ℕ → Bool
  stands count = agrees_at at (take count buffer) (content_of origin old)

  pub read-slice : IsTrue ok → IsTrue (is_honest origin now) → buffer ≡ slice_range (content_of origin old) at (at + length buffer)
  read-slice done honest =
      let count : read.count ≡ length buffer = read.whole done in
      let all : take read.count buffer ≡ buffer = take_all read.count buffer (omega arith) in
      let parts = and_parts (is_honest origin old) (agrees_at at (take read.count buffer) (content_of origin old)) (sym read.honest ∙ honest) in
      let same : bytes_eq buffer (slice_range (content_of origin old) at (at + length buffer)) ≡ true =
      rw all at parts.1 in
      (bytes_eq-Decides buffer (slice_range (content_of origin old) at (at + length buffer))).0 same

  pub read-back : IsTrue (is_honest origin now) → IsTrue (is_honest origin old)
  read-back honest = (and_parts (is_honest origin old) (agrees_at at (take read.count buffer) (content_of origin old)) (sym read.honest ∙ honest)).0

  pub read-agreed : HasAgreed (content_of origin old) at buffer ok (is_honest origin old) (is_honest origin now)
  read-agreed =
      let long : length (take read.count buffer) ≡ read.count = search (rules, places, read.within) in
      record {
        count = read.count;
        within = read.within;
        whole = read.whole;
        same = λ same.
            let slice = slice_range (content_of origin old) at (at + read.count) in
            let stands : bytes_eq (take read.count buffer) slice ≡ true = (bytes_eq-Decides (take read.count buffer) slice).1 same in
            let agreed : agrees_at at (take read.count buffer) (content_of origin old) ≡ true = rw long stands in
            read.honest ∙ ap (λ b. is_honest origin old && b) agreed ∙ and_true (is_honest origin old);
      }

module _ (origin : Origin) (at : ℕ) (bytes : List ℕ) (ok : Bool) (old now : List FileCall) (put : HasWritten origin at bytes ok old now) where
  pub put-written : IsTrue ok → content_of origin now ≡ written at bytes (content_of origin old)
  put-written done = put.content ∙ ap (λ (xs : List ℕ). written at xs (content_of origin old)) (put.whole done)

  pub put-torn : KeepsOutside at (length bytes) (content_of origin old) (content_of origin now)
  put-torn = rw put.content (KeepsOutside-written at (length bytes) put.put (content_of origin old) put.within)
