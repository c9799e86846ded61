-- A whole write, part by part, and what a failed one leaves.
use Rattle.std.proofs.Common.{◌≡◌, ℕ, ◌+◌, ◌-◌, min, max, nat_lt, ◌<◌, ◌≤◌, Bool, false, List, [], ◌∷◌, ◌++◌, length, take, drop, refl, sym, ◌∙◌, ap, inl, inr, arith, rules}
use Rattle.std.proofs.lemmas.List.{append-nil, append_assoc, nil_from_length, take_min, take_all, same_lists, places, take_at}
use Rattle.std.proofs.lemmas.Bool.{cases_lt, false≢true}
use Rattle.media_store.specs.Content.{resized, overlaid, written, KeepsOutside, KeepsFront}
use Rattle.media_store.specs.Calls.{FileCall, Wrote, NotWritten, GaveUp}
use Rattle.media_store.specs.Ends.{HasEnded}
use Rattle.media_store.specs.Replay.{Origin, content_of, is_honest, path_of, is_synced}
use Rattle.media_store.specs.Whole.{HasWritten}
use Rattle.media_store.proofs.Writes.{written-some}
use Rattle.media_store.proofs.Joined.{and_true}

-- so many of the bytes have been written; after them a failed call may have left others
pub record HasPutTo (origin : Origin) (at : ℕ) (bytes : List ℕ) (done : ℕ) (old new : List FileCall) : Type 0 where
  pub put : List ℕ
  pub within : length put ≤ length bytes
  pub below : done ≤ length put
  pub front : take done put ≡ take done bytes
  pub content : content_of origin new ≡ written at put (content_of origin old)
  pub honest : is_honest origin new ≡ is_honest origin old

pub length-overlaid : (at : ℕ) (bytes content : List ℕ) → length (overlaid at bytes content) ≡ max (length content) (at + length bytes)
length-overlaid at bytes content = search (rules, places)

regrouped : (a b c d e : List ℕ) → (a ++ b) ++ (c ++ (d ++ e)) ≡ a ++ ((b ++ (c ++ d)) ++ e)
regrouped a b c d e = simp append_assoc

-- bytes after each other, cut within the second list
head : (front middle back : List ℕ) (at d : ℕ) → length front ≡ at → d ≤ length middle
    → take (at + d) (front ++ (middle ++ back)) ≡ front ++ take d middle
head front middle back at d is within = same_lists _ _ (search (rules, places)) (λ k e h. grind (arith, places))

tail : (front middle content : List ℕ) (at n : ℕ) → length front ≡ at
    → drop (at + n) (front ++ (middle ++ drop (at + length middle) content)) ≡ drop n middle ++ drop (at + max (length middle) n) content
tail front middle content at n is = same_lists _ _ (search (rules, places)) (λ k e h. grind (arith, places))

length-resized : (n : ℕ) (content : List ℕ) → length (resized n content) ≡ n
length-resized n content = search (rules, places)

resized-below : (n : ℕ) (content : List ℕ) → n ≤ length content → resized n content ≡ take n content
resized-below n content within =
    let none : n - length content ≡ 0 = omega arith in
    rw (none, append-nil (take n content)) refl

-- a write over a part of another one, or going on after it
overlaid-overlaid : (at d : ℕ) (first second content : List ℕ) → d ≤ length first
    → overlaid (at + d) second (overlaid at first content) ≡ overlaid at (overlaid d second first) content
overlaid-overlaid at d first second content within =
    let front = resized at content in
    let back = drop (at + length first) content in
    let n = length second in
    let long : length front ≡ at = length-resized at content in
    let whole : at + d ≤ length (overlaid at first content) = omega (arith, length-overlaid at first content) in
    let cut : resized (at + d) (overlaid at first content) ≡ front ++ take d first =
    resized-below (at + d) (overlaid at first content) whole ∙ head front first back at d long within in
    let same : at + d + n ≡ at + (d + n) = omega arith in
    let rest : drop (at + d + n) (overlaid at first content) ≡ drop (d + n) first ++ drop (at + max (length first) (d + n)) content =
    ap (λ m. drop m (overlaid at first content)) same ∙ tail front first content at (d + n) long in
    let both : overlaid d second first ≡ take d first ++ (second ++ drop (d + n) first) =
    ap (λ (xs : List ℕ). xs ++ (second ++ drop (d + n) first)) (resized-below d first within) in
    let left : overlaid (at + d) second (overlaid at first content)
    ≡ (front ++ take d first) ++ (second ++ (drop (d + n) first ++ drop (at + max (length first) (d + n)) content)) =
    ap (λ (xs : List ℕ). xs ++ (second ++ drop (at + d + n) (overlaid at first content))) cut
    ∙ ap (λ (xs : List ℕ). (front ++ take d first) ++ (second ++ xs)) rest in
    let right : overlaid at (overlaid d second first) content
    ≡ front ++ ((take d first ++ (second ++ drop (d + n) first)) ++ drop (at + max (length first) (d + n)) content) =
    ap (λ m. front ++ (overlaid d second first ++ drop (at + m) content)) (length-overlaid d second first)
    ∙ ap (λ (xs : List ℕ). front ++ (xs ++ drop (at + max (length first) (d + n)) content)) both in
    left ∙ regrouped front (take d first) second (drop (d + n) first) (drop (at + max (length first) (d + n)) content) ∙ sym right

overlaid-nil : (bytes : List ℕ) → overlaid 0 bytes [] ≡ bytes
overlaid-nil bytes = same_lists _ _ (search (rules, places)) (λ k e h. grind (arith, places))

-- no byte is written
pub written-none : (at : ℕ) (bytes content : List ℕ) → length bytes ≡ 0 → written at bytes content ≡ content
written-none at bytes content none =
    let tested : nat_lt 0 (length bytes) ≡ false = search rules in
    rw tested refl

pub written-written : (at d : ℕ) (first second content : List ℕ) → d ≤ length first
    → written (at + d) second (written at first content) ≡ written at (written d second first) content
written-written at d first second content within = elim (cases_lt 0 (length second)) [
  | inr none ↦
      let empty : length second ≡ 0 = omega arith in
      written-none (at + d) second (written at first content) empty
      ∙ ap (λ (xs : List ℕ). written at xs content) (sym (written-none d second first empty))
  | inl some ↦ elim (cases_lt 0 (length first)) [
    | inl any ↦
        let longer : 0 < length (overlaid d second first) = omega (arith, length-overlaid d second first) in
        written-some (at + d) second (written at first content) some
        ∙ ap (overlaid (at + d) second) (written-some at first content any)
        ∙ overlaid-overlaid at d first second content within
        ∙ sym (written-some at (overlaid d second first) content longer)
        ∙ ap (λ (xs : List ℕ). written at xs content) (sym (written-some d second first some))
    | inr none ↦
        let empty : length first ≡ 0 = omega arith in
        let nil : first ≡ [] = nil_from_length first empty in
        let start : d ≡ 0 = omega arith in
        let here : at + d ≡ at = omega arith in
        let put : written d second first ≡ second =
        written-some d second first some ∙ ap (λ m. overlaid m second first) start ∙ ap (overlaid 0 second) nil ∙ overlaid-nil second in
        ap (written (at + d) second) (written-none at first content empty)
        ∙ ap (λ m. written m second content) here ∙ ap (λ (xs : List ℕ). written at xs content) (sym put)
  ]
]

pub length-written : (at : ℕ) (bytes content : List ℕ) → at ≤ length content → length (written at bytes content) ≡ max (length content) (at + length bytes)
length-written at bytes content within = elim (cases_lt 0 (length bytes)) [
  | inl some ↦ ap length (written-some at bytes content some) ∙ length-overlaid at bytes content
  | inr none ↦ ap length (written-none at bytes content (omega arith)) ∙ omega arith
]

-- what lies below a write within a list
take-kept : (d : ℕ) (part first : List ℕ) → d ≤ length first → take d (written d part first) ≡ take d first
take-kept d part first within = elim (cases_lt 0 (length part)) [
  | inl some ↦
      let put : written d part first ≡ take d first ++ (part ++ drop (d + length part) first) =
      written-some d part first some
      ∙ ap (λ (xs : List ℕ). xs ++ (part ++ drop (d + length part) first)) (resized-below d first within) in
      let long : length (take d first) ≡ d = search (rules, places) in
      ap (take d) put ∙ take_at (take d first) (part ++ drop (d + length part) first) d long
  | inr none ↦ ap (take d) (written-none d part first (omega arith))
]

-- the front that a write within a list leaves
pub take-written : (d end : ℕ) (first part bytes : List ℕ) → d ≤ length first → end ≡ d + length part
    → take d first ≡ take d bytes → take end bytes ≡ take d bytes ++ part → take end (written d part first) ≡ take end bytes
take-written d end first part bytes within is front parts = elim (cases_lt 0 (length part)) [
  | inl some ↦
      let put : written d part first ≡ take d first ++ (part ++ drop (d + length part) first) =
      written-some d part first some
      ∙ ap (λ (xs : List ℕ). xs ++ (part ++ drop (d + length part) first)) (resized-below d first within) in
      let long : length (take d first) ≡ d = search (rules, places) in
      let whole : length part ≤ length part = omega arith in
      ap (take end) put ∙ ap (λ n. take n (take d first ++ (part ++ drop (d + length part) first))) is
      ∙ head (take d first) part (drop (d + length part) first) d (length part) long whole
      ∙ ap (λ (xs : List ℕ). take d first ++ xs) (take_all (length part) part whole)
      ∙ ap (λ (xs : List ℕ). xs ++ part) front ∙ sym parts
  | inr none ↦
      let empty : length part ≡ 0 = omega arith in
      let same : end ≡ d = omega arith in
      ap (take end) (written-none d part first empty) ∙ ap (λ n. take n first) same ∙ front ∙ ap (λ n. take n bytes) (sym same)
]

KeepsOutside-overlaid : (at n : ℕ) (bytes content : List ℕ) → length bytes ≤ n → 0 < length bytes → KeepsOutside at n content (overlaid at bytes content)
KeepsOutside-overlaid at n bytes content few some = record {
  before = same_lists _ _ (search (rules, places)) (λ k e h. grind (arith, places));
  behind = same_lists _ _ (search (rules, places)) (λ k e h. grind (arith, places));
  no_shorter = omega (arith, length-overlaid at bytes content);
  no_longer = omega (arith, length-overlaid at bytes content);
}

KeepsOutside-same : (at n : ℕ) (content : List ℕ) → KeepsOutside at n content content
KeepsOutside-same at n content = record {
  before = take_min at content;
  behind = refl;
  no_shorter = omega arith;
  no_longer = omega arith;
}

pub KeepsOutside-written : (at n : ℕ) (bytes content : List ℕ) → length bytes ≤ n → KeepsOutside at n content (written at bytes content)
KeepsOutside-written at n bytes content few = elim (cases_lt 0 (length bytes)) [
  | inl some ↦ rw (written-some at bytes content some) (KeepsOutside-overlaid at n bytes content few some)
  | inr none ↦ rw (written-none at bytes content (omega arith)) (KeepsOutside-same at n content)
]

pub KeepsFront-resized : (len end : ℕ) (content : List ℕ) → min len (length content) ≤ end → end ≤ max (length content) len
    → KeepsFront len content (resized end content)
KeepsFront-resized len end content low high = record {
  front = same_lists _ _ (search (rules, places)) (λ k e h. grind (arith, places));
  no_shorter = search (rules, places);
  no_longer = search (rules, places);
}

-- ---- by parts

pub HasPutTo-none : (origin : Origin) (at : ℕ) (bytes : List ℕ) (calls : List FileCall) → HasPutTo origin at bytes 0 calls calls
HasPutTo-none origin at bytes calls = record {
  put = [];
  within = omega arith;
  below = omega arith;
  front = refl;
  content = refl;
  honest = refl;
}

-- a part is put after those that stand there, of the bytes that are to be written or, where the call failed, of any
put-more : (origin : Origin) (at : ℕ) (bytes part : List ℕ) (done end : ℕ) (old now after : List FileCall)
    → done ≤ length bytes → done + length part ≤ length bytes
    → (p : HasPutTo origin at bytes done old now)
    → end ≤ length (written done part p.put) → take end (written done part p.put) ≡ take end bytes
    → content_of origin after ≡ written (at + done) part (content_of origin now) → is_honest origin after ≡ is_honest origin now
    → HasPutTo origin at bytes end old after
put-more origin at bytes part done end old now after within few p far front content honest = record {
  put = written done part p.put;
  within = omega (arith, length-written done part p.put p.below, p.within);
  below = far;
  front = front;
  content = content ∙ ap (written (at + done) part) p.content ∙ written-written at done p.put part (content_of origin old) p.below;
  honest = honest ∙ p.honest;
}

pub HasPutTo-more : (origin : Origin) (at : ℕ) (bytes part : List ℕ) (done end count : ℕ) (old now : List FileCall)
    → done ≤ length bytes → end ≡ done + length part → end ≤ length bytes → take end bytes ≡ take done bytes ++ part
    → HasPutTo origin at bytes done old now → HasPutTo origin at bytes end old (Wrote (at + done) part count ∷ now)
HasPutTo-more origin at bytes part done end count old now within is few parts p =
    put-more origin at bytes part done end old now (Wrote (at + done) part count ∷ now) within (omega arith) p
    (omega (arith, length-written done part p.put p.below))
    (take-written done end p.put part bytes p.below is p.front parts) refl (and_true (is_honest origin now))

pub HasPutTo-again : (origin : Origin) (at : ℕ) (bytes : List ℕ) (done count : ℕ) (interrupted : Bool) (old now : List FileCall)
    → done ≤ length bytes → count ≡ length bytes - done
    → HasPutTo origin at bytes done old now → HasPutTo origin at bytes done old (NotWritten (at + done) count interrupted ∷ now)
HasPutTo-again origin at bytes done count interrupted old now within is p =
    let part = take count (origin.torn (path_of now) (length now)) in
    let few : length part ≤ count = search (rules, places) in
    put-more origin at bytes part done done old now (NotWritten (at + done) count interrupted ∷ now) within (omega arith) p
    (omega (arith, length-written done part p.put p.below, p.below))
    (take-kept done part p.put p.below ∙ p.front) refl (and_true (is_honest origin now))

-- no further call is made
pub HasPutTo-end : (origin : Origin) (at : ℕ) (bytes : List ℕ) (done : ℕ) (old now : List FileCall)
    → HasPutTo origin at bytes done old now → HasPutTo origin at bytes done old (GaveUp ∷ now)
HasPutTo-end origin at bytes done old now p = record {
  put = p.put;
  within = p.within;
  below = p.below;
  front = p.front;
  content = p.content;
  honest = and_true _ ∙ p.honest;
}

-- all bytes are written, or some are not
pub HasWritten-whole : (origin : Origin) (at : ℕ) (bytes : List ℕ) (done : ℕ) (ok : Bool) (old now : List FileCall)
    → length bytes ≤ done → is_synced now ≡ false → HasEnded ok at (length bytes) old now
    → HasPutTo origin at bytes done old now → HasWritten origin at bytes ok old now
HasWritten-whole origin at bytes done ok old now all synced ended p =
    let long : length p.put ≤ done = omega (arith, p.within) in
    let same : p.put ≡ bytes = sym (take_all done p.put long) ∙ p.front ∙ take_all done bytes all in
    record { put = p.put; within = p.within; whole = λ _. same; content = p.content; honest = p.honest; synced = synced; ended = ended }

pub HasWritten-part : (origin : Origin) (at : ℕ) (bytes : List ℕ) (done : ℕ) (old now : List FileCall)
    → is_synced now ≡ false → HasEnded false at (length bytes) old now
    → HasPutTo origin at bytes done old now → HasWritten origin at bytes false old now
HasWritten-part origin at bytes done old now synced ended p = record {
  put = p.put;
  within = p.within;
  whole = λ h. absurd (false≢true h);
  content = p.content;
  honest = p.honest;
  synced = synced;
  ended = ended;
}
