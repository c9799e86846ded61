-- A whole read, part by part.
use Rattle.std.proofs.Common.{◌≡◌, ℕ, ◌+◌, ◌-◌, min, ◌≤◌, ◌&&◌, Bool, false, List, [], ◌∷◌, ◌++◌, length, take, drop, slice_range, refl, sym, ◌∙◌, ap, arith, rules, bytes_eq}
use Rattle.std.proofs.lemmas.List.{same_lists, places, length-append, take_at, drop_at}
use Rattle.std.proofs.lemmas.Bool.{and_parts, and_from, false≢true}
use Rattle.std.proofs.lemmas.Slice.Eq.{bytes_eq-Decides}
use Rattle.media_store.proofs.Joined.{same_test, and_true, and_assoc}
use Rattle.media_store.specs.Whole.{HasRead}
use Rattle.media_store.specs.Calls.{FileCall, Read, NotRead, GaveUp}
use Rattle.media_store.specs.Ends.{HasEnded}
use Rattle.media_store.specs.Replay.{Origin, content_of, agrees_at, is_honest, is_synced}

-- so many bytes have come into the front of a buffer
pub record HasComeTo (origin : Origin) (at : ℕ) (buffer : List ℕ) (done : ℕ) (old new : List FileCall) : Type 0 where
  pub content : content_of origin new ≡ content_of origin old
  pub honest : is_honest origin new ≡ (is_honest origin old && agrees_at at (take done buffer) (content_of origin old))
  pub synced : is_synced new ≡ is_synced old

-- the range of two parts
range-split : (content : List ℕ) (at m n : ℕ)
    → slice_range content at (at + (m + n)) ≡ slice_range content at (at + m) ++ slice_range content (at + m) (at + m + n)
range-split content at m n = same_lists _ _ (search (rules, places)) (λ k d h. grind (arith, places))

-- two parts of what was read agree where the whole does
pub agrees-append : (content : List ℕ) (at : ℕ) (first second : List ℕ) (m : ℕ) → length first ≡ m
    → agrees_at at (first ++ second) content ≡ (agrees_at at first content && agrees_at (at + m) second content)
agrees-append content at first second m is =
    let n = length second in
    let front = slice_range content at (at + m) in
    let back = slice_range content (at + m) (at + m + n) in
    let joined : slice_range content at (at + length (first ++ second)) ≡ front ++ back =
    rw (length-append, is) (range-split content at m n) in
    let front_length : length front ≡ min m (length content - at) = search (rules, places) in
    let back_length : length back ≡ min n (length content - (at + m)) = search (rules, places) in
    rw (joined, is) (same_test _ _
    (λ whole.
    let same : first ++ second ≡ front ++ back = (bytes_eq-Decides _ _).0 whole in
    let lengths : m + n ≡ length front + length back = omega (arith, ap length same, length-append first second, length-append front back) in
    let full : length front ≡ m = omega arith in
    let firsts : first ≡ front = sym (take_at first second m is) ∙ ap (take m) same ∙ take_at front back m full in
    let seconds : second ≡ back = sym (drop_at first second m is) ∙ ap (drop m) same ∙ drop_at front back m full in
    and_from _ _ ((bytes_eq-Decides _ _).1 firsts) ((bytes_eq-Decides _ _).1 seconds))
    (λ both.
    let parts = and_parts (bytes_eq first front) (bytes_eq second back) both in
    let firsts : first ≡ front = (bytes_eq-Decides first front).0 parts.0 in
    let seconds : second ≡ back = (bytes_eq-Decides second back).0 parts.1 in
    let same : first ++ second ≡ front ++ back = cc in
    (bytes_eq-Decides _ _).1 same))

-- nothing has come yet
pub HasComeTo-none : (origin : Origin) (at : ℕ) (buffer : List ℕ) (calls : List FileCall) → HasComeTo origin at buffer 0 calls calls
HasComeTo-none origin at buffer calls =
    let none : slice_range (content_of origin calls) at (at + 0) ≡ [] = same_lists _ _ (search (rules, places)) (λ k d h. grind (arith, places)) in
    record { content = refl; honest = rw none (sym (and_true (is_honest origin calls))); synced = refl }

-- one more part comes
pub HasComeTo-more : (origin : Origin) (at : ℕ) (buffer after part : List ℕ) (done end count : ℕ) (old now : List FileCall)
    → done ≤ length buffer → end ≡ done + length part → take end after ≡ take done buffer ++ part
    → HasComeTo origin at buffer done old now → HasComeTo origin at after end old (Read (at + done) part count ∷ now)
HasComeTo-more origin at buffer after part done end count old now within is parts come =
    let content = content_of origin old in
    let long : length (take done buffer) ≡ done = search (rules, places) in
    let whole : agrees_at at (take done buffer ++ part) content
    ≡ (agrees_at at (take done buffer) content && agrees_at (at + done) part content) =
    agrees-append content at (take done buffer) part done long in
    record {
      content = come.content;
      honest = rw (parts, whole, come.content, come.honest) (and_assoc (is_honest origin old) (agrees_at at (take done buffer) content)
          (agrees_at (at + done) part content));
      synced = come.synced;
    }

-- a call fails
pub HasComeTo-again : (origin : Origin) (at : ℕ) (buffer after : List ℕ) (done from count : ℕ) (interrupted : Bool) (old now : List FileCall)
    → take done after ≡ take done buffer
    → HasComeTo origin at buffer done old now → HasComeTo origin at after done old (NotRead from count interrupted ∷ now)
HasComeTo-again origin at buffer after done from count interrupted old now same come = record {
  content = come.content;
  honest = rw same (and_true _ ∙ come.honest);
  synced = come.synced;
}

-- no further call is made
pub HasComeTo-end : (origin : Origin) (at : ℕ) (buffer : List ℕ) (done : ℕ) (old now : List FileCall)
    → HasComeTo origin at buffer done old now → HasComeTo origin at buffer done old (GaveUp ∷ now)
HasComeTo-end origin at buffer done old now come =
    record { content = come.content; honest = and_true _ ∙ come.honest; synced = come.synced }

-- all bytes have come, or some have not
pub HasRead-whole : (origin : Origin) (at : ℕ) (buffer : List ℕ) (done : ℕ) (ok : Bool) (old now : List FileCall)
    → done ≡ length buffer → HasEnded ok at (length buffer) old now
    → HasComeTo origin at buffer done old now → HasRead origin at buffer ok old now
HasRead-whole origin at buffer done ok old now all ended come = record {
  count = done;
  within = omega (arith, all);
  whole = λ _. all;
  content = come.content;
  honest = come.honest;
  synced = come.synced;
  ended = ended;
}

pub HasRead-part : (origin : Origin) (at : ℕ) (buffer : List ℕ) (done : ℕ) (old now : List FileCall)
    → done ≤ length buffer → HasEnded false at (length buffer) old now
    → HasComeTo origin at buffer done old now → HasRead origin at buffer false old now
HasRead-part origin at buffer done old now within ended come = record {
  count = done;
  within = within;
  whole = λ h. absurd (false≢true h);
  content = come.content;
  honest = come.honest;
  synced = come.synced;
  ended = ended;
}
