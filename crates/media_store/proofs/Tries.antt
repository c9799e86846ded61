-- Calls that are made again, and what a store says of them.
use Rattle.std.proofs.Common.{◌≡◌, ℕ, zero, suc, ◌-◌, ◌^◌, ◌<◌, ◌≤◌, ◌==◌, ◌&&◌, min, max, not, Bool, true, false, IsTrue, List, [], ◌∷◌, ◌++◌, length, replicate, refl, sym, ◌∙◌, ap, arith, rules, Result, Ok, Err, is_ok, IfOk, OnOk, OnErr}
use Rattle.std.proofs.lemmas.List.{places, same_lists}
use Rattle.std.proofs.lemmas.Bool.{and_parts, false≢true}
use Rattle.std.proofs.lemmas.Bool.Decides.{Decides-eqb}
use Rattle.media_store.specs.Again.{HasTried, HasFailed, Refused, GivenUp, Tries}
use Rattle.media_store.specs.Calls.{FileCall, Opened, NotOpened, Locked, NotLocked, Measured, NotMeasured, Read, NotRead, Wrote, NotWritten, Resized, NotResized, Synced, NotSynced, GaveUp, SyncRefused}
use Rattle.media_store.specs.Content.{resized, KeepsFront}
use Rattle.media_store.specs.Ends.{failed_calls}
use Rattle.media_store.specs.Failures.{risen, counted}
use Rattle.media_store.specs.Replay.{Origin, content_of, is_honest, sync_has_failed, is_synced, torn_length}
use Rattle.media_store.proofs.PartsWritten.{KeepsFront-resized}
use Rattle.media_store.proofs.Joined.{and_true}

-- so many calls were interrupted, and no further one was made
pub HasFailed-given-up : (note : Bool → FileCall) (times : ℕ) (old before now : List FileCall) → times ≡ 2 ^ 64 - 1
    → before ≡ replicate times (note true) ++ old → now ≡ GaveUp ∷ before → HasFailed note old now
HasFailed-given-up note times old before now all is calls =
    GivenUp (record { times = times; calls = calls ∙ ap (λ (xs : List FileCall). GaveUp ∷ xs) is }) all

-- what no single interrupted call changes, none of them changes
kept : {X : Type 0} (f : List FileCall → X) (call : FileCall) → ((calls : List FileCall) → f (call ∷ calls) ≡ f calls)
    → (times : ℕ) (old : List FileCall) → f (replicate times call ++ old) ≡ f old
kept f call keeps zero old = refl
kept f call keeps (suc times) old = keeps (replicate times call ++ old) ∙ kept f call keeps times old

module _ {T E : Type 0} (done : T → FileCall) (note : Bool → FileCall) (old now : List FileCall) where
  -- what no note changes
  tries-kept : {X : Type 0} (f : List FileCall → X) → ((value : T) (calls : List FileCall) → f (done value ∷ calls) ≡ f calls)
      → ((interrupted : Bool) (calls : List FileCall) → f (note interrupted ∷ calls) ≡ f calls)
      → ((calls : List FileCall) → f (GaveUp ∷ calls) ≡ f calls)
      → (result : Result T E) → Tries done note result old now → f now ≡ f old
  tries-kept f by-done by-note by-end (Ok value) tried =
      rw tried.calls (by-done value _ ∙ kept f (note true) (by-note true) tried.times old)
  tries-kept f by-done by-note by-end (Err error) (Refused tried) = rw tried.calls (by-note false _ ∙ kept f (note true) (by-note true) tried.times old)
  tries-kept f by-done by-note by-end (Err error) (GivenUp tried all) = rw tried.calls (by-end _ ∙ kept f (note true) (by-note true) tried.times old)

  tries-counted : ((value : T) (calls : List FileCall) → failed_calls (done value ∷ calls) ≡ failed_calls calls)
      → ((calls : List FileCall) → failed_calls (note true ∷ calls) ≡ failed_calls calls)
      → ((calls : List FileCall) → failed_calls (note false ∷ calls) ≡ risen (failed_calls calls))
      → (result : Result T E) → Tries done note result old now → failed_calls now ≡ counted result (failed_calls old)
  tries-counted by-done interrupted failed (Ok value) tried =
      rw tried.calls (by-done value (replicate tried.times (note true) ++ old) ∙ kept failed_calls (note true) interrupted tried.times old)
  tries-counted by-done interrupted failed (Err error) (Refused tried) =
      rw tried.calls (failed (replicate tried.times (note true) ++ old) ∙ ap risen (kept failed_calls (note true) interrupted tried.times old))
  tries-counted by-done interrupted failed (Err error) (GivenUp tried all) =
      rw tried.calls (ap risen (kept failed_calls (note true) interrupted tried.times old))

-- ---- the end is told

module _ (origin : Origin) (old now : List FileCall) where
  -- it is as honest as before where the length that was told is that of the content
  told : (len : ℕ) → HasTried (NotMeasured true) (Measured len) old now
      → is_honest origin now ≡ (is_honest origin old && len == length (content_of origin old))
  told len tried =
      let before = replicate tried.times (NotMeasured true) ++ old in
      let honest : is_honest origin before ≡ is_honest origin old =
      kept (is_honest origin) (NotMeasured true) (λ calls. and_true (is_honest origin calls)) tried.times old in
      let content : content_of origin before ≡ content_of origin old =
      kept (content_of origin) (NotMeasured true) (λ calls. refl) tried.times old in
      rw tried.calls (ap (λ h. h && len == length (content_of origin before)) honest
      ∙ ap (λ (xs : List ℕ). is_honest origin old && len == length xs) content)

  not-told : HasFailed NotMeasured old now → is_honest origin now ≡ is_honest origin old
  not-told (Refused tried) = rw tried.calls (and_true _
      ∙ kept (is_honest origin) (NotMeasured true) (λ calls. and_true (is_honest origin calls)) tried.times old)
  not-told (GivenUp tried all) = rw tried.calls (and_true _
      ∙ kept (is_honest origin) (NotMeasured true) (λ calls. and_true (is_honest origin calls)) tried.times old)

module _ {E : Type 0} (origin : Origin) (old now : List FileCall) where
  pub measured-content : (result : Result ℕ E) → Tries Measured NotMeasured result old now → content_of origin now ≡ content_of origin old
  measured-content result tried =
      tries-kept Measured NotMeasured old now (content_of origin) (λ _ _. refl) (λ _ _. refl) (λ _. refl) result tried

  pub measured-synced : (result : Result ℕ E) → Tries Measured NotMeasured result old now → is_synced now ≡ is_synced old
  measured-synced result tried =
      tries-kept Measured NotMeasured old now is_synced (λ _ _. refl) (λ _ _. refl) (λ _. refl) result tried

  pub measured-counted : (result : Result ℕ E) → Tries Measured NotMeasured result old now
      → failed_calls now ≡ counted result (failed_calls old)
  measured-counted result tried =
      tries-counted Measured NotMeasured old now (λ _ _. refl) (λ _. refl) (λ _. refl) result tried

  pub measured-len : (result : Result ℕ E) → Tries Measured NotMeasured result old now
      → IfOk result (λ len. IsTrue (is_honest origin now) → len ≡ length (content_of origin old))
  measured-len (Ok len) tried = λ honest.
      (Decides-eqb len (length (content_of origin old))).0
      (and_parts (is_honest origin old) (len == length (content_of origin old)) (sym (told origin old now len tried) ∙ honest)).1
  measured-len (Err error) tried = tt

  pub measured-agreed : (result : Result ℕ E) → Tries Measured NotMeasured result old now
      → IfOk result (λ len. len ≡ length (content_of origin old) → is_honest origin now ≡ is_honest origin old)
  measured-agreed (Ok len) tried = λ same. told origin old now len tried
      ∙ ap (λ agreed. is_honest origin old && agreed) ((Decides-eqb len (length (content_of origin old))).1 same)
      ∙ and_true (is_honest origin old)
  measured-agreed (Err error) tried = tt

  pub measured-failed : (result : Result ℕ E) → Tries Measured NotMeasured result old now
      → OnErr result (is_honest origin now ≡ is_honest origin old)
  measured-failed (Ok len) tried = tt
  measured-failed (Err error) tried = not-told origin old now tried

  pub measured-back : (result : Result ℕ E) → Tries Measured NotMeasured result old now
      → IsTrue (is_honest origin now) → IsTrue (is_honest origin old)
  measured-back (Ok len) tried honest =
      (and_parts (is_honest origin old) (len == length (content_of origin old)) (sym (told origin old now len tried) ∙ honest)).0
  measured-back (Err error) tried honest = sym (not-told origin old now tried) ∙ honest

-- ---- the length is changed

-- the end lies between the old one and the new one
record IsTorn (len : ℕ) (old new : List ℕ) : Type 0 where
  pub end : ℕ
  pub low : min len (length old) ≤ end
  pub high : end ≤ max (length old) len
  pub content : new ≡ resized end old

resized-resized : (first second : ℕ) (content : List ℕ) → min second (length content) ≤ first
    → resized second (resized first content) ≡ resized second content
resized-resized first second content low = same_lists _ _ (search (rules, places)) (λ k d h. grind (arith, places))

length-resized : (n : ℕ) (content : List ℕ) → length (resized n content) ≡ n
length-resized n content = search (rules, places)

resized-same : (content : List ℕ) → content ≡ resized (length content) content
resized-same content = same_lists _ _ (search (rules, places)) (λ k d h. grind (arith, places))

torn-again : (len : ℕ) (old now torn : List ℕ) → IsTorn len old now → IsTorn len old (resized (torn_length (length now) len torn) now)
torn-again len old now torn was =
    let end = torn_length (length now) len torn in
    let long : length now ≡ was.end = ap length was.content ∙ length-resized was.end old in
    let kept : min len (length now) ≤ end = omega arith in
    let most : end ≤ max (length now) len = omega arith in
    record {
      end = end;
      low = omega (arith, was.low);
      high = omega (arith, was.high);
      content = ap (resized end) was.content ∙ resized-resized was.end end old (omega (arith, was.low, was.high));
    }

torn-tries : (origin : Origin) (len times : ℕ) (old : List FileCall)
    → IsTorn len (content_of origin old) (content_of origin (replicate times (NotResized len true) ++ old))
torn-tries origin len zero old = record {
  end = length (content_of origin old);
  low = omega arith;
  high = omega arith;
  content = resized-same (content_of origin old);
}
torn-tries origin len (suc times) old =
    torn-again len (content_of origin old) (content_of origin (replicate times (NotResized len true) ++ old)) _ (torn-tries origin len times old)

module _ (origin : Origin) (len : ℕ) (old now : List FileCall) where
  failed-torn : HasFailed (NotResized len) old now → IsTorn len (content_of origin old) (content_of origin now)
  failed-torn (Refused tried) = rw tried.calls (torn-again len (content_of origin old) _ _ (torn-tries origin len tried.times old))
  failed-torn (GivenUp tried all) = rw tried.calls (torn-tries origin len tried.times old)

unsynced : (len times : ℕ) (old : List FileCall) → 0 < times → is_synced (replicate times (NotResized len true) ++ old) ≡ false
unsynced len zero old some = absurd (omega (arith, some))
unsynced len (suc times) old some = refl

module _ {T E : Type 0} (origin : Origin) (len : ℕ) (old now : List FileCall) where
  pub tried-resized : (result : Result T E) → Tries (λ _. Resized len) (NotResized len) result old now
      → OnOk result (content_of origin now ≡ resized len (content_of origin old))
  tried-resized (Ok done) tried =
      let torn = torn-tries origin len tried.times old in
      rw (tried.calls, torn.content) (resized-resized torn.end len (content_of origin old) torn.low)
  tried-resized (Err error) tried = tt

  pub tried-torn : (result : Result T E) → Tries (λ _. Resized len) (NotResized len) result old now
      → OnErr result (KeepsFront len (content_of origin old) (content_of origin now))
  tried-torn (Ok done) tried = tt
  tried-torn (Err error) tried =
      let torn = failed-torn origin len old now tried in
      rw torn.content (KeepsFront-resized len torn.end (content_of origin old) torn.low torn.high)

  pub tried-honest : (result : Result T E) → Tries (λ _. Resized len) (NotResized len) result old now
      → is_honest origin now ≡ is_honest origin old
  tried-honest result tried =
      tries-kept (λ _. Resized len) (NotResized len) old now (is_honest origin) (λ _ calls. and_true (is_honest origin calls))
      (λ _ calls. and_true (is_honest origin calls)) (λ calls. and_true (is_honest origin calls)) result tried

  pub tried-counted : (result : Result T E) → Tries (λ _. Resized len) (NotResized len) result old now
      → failed_calls now ≡ counted result (failed_calls old)
  tried-counted result tried =
      tries-counted (λ _. Resized len) (NotResized len) old now (λ _ _. refl) (λ _. refl) (λ _. refl) result tried

  pub tried-unsynced : (result : Result T E) → Tries (λ _. Resized len) (NotResized len) result old now → is_synced now ≡ false
  tried-unsynced (Ok done) tried = rw tried.calls refl
  tried-unsynced (Err error) (Refused tried) = rw tried.calls refl
  tried-unsynced (Err error) (GivenUp tried all) = rw tried.calls (unsynced len tried.times old (omega (arith, all)))

-- ---- the file is synced

interrupted-unsynced : (times : ℕ) (old : List FileCall) → 0 < times → is_synced (replicate times (NotSynced true) ++ old) ≡ false
interrupted-unsynced zero old some = absurd (omega (arith, some))
interrupted-unsynced (suc times) old some = refl

pub failed-unsynced : (calls : List FileCall) → sync_has_failed calls ≡ true → is_synced calls ≡ false
failed-unsynced [] lost = absurd (false≢true lost)
failed-unsynced (Opened path ∷ calls) lost = failed-unsynced calls lost
failed-unsynced (NotOpened path ∷ calls) lost = failed-unsynced calls lost
failed-unsynced (Locked ∷ calls) lost = failed-unsynced calls lost
failed-unsynced (NotLocked ∷ calls) lost = failed-unsynced calls lost
failed-unsynced (Measured len ∷ calls) lost = failed-unsynced calls lost
failed-unsynced (NotMeasured interrupted ∷ calls) lost = failed-unsynced calls lost
failed-unsynced (Read at bytes count ∷ calls) lost = failed-unsynced calls lost
failed-unsynced (NotRead at count interrupted ∷ calls) lost = failed-unsynced calls lost
failed-unsynced (Wrote at bytes count ∷ calls) lost = refl
failed-unsynced (NotWritten at count interrupted ∷ calls) lost = refl
failed-unsynced (Resized len ∷ calls) lost = refl
failed-unsynced (NotResized len interrupted ∷ calls) lost = refl
failed-unsynced (Synced ∷ calls) lost = rw lost refl
failed-unsynced (NotSynced interrupted ∷ calls) lost = refl
failed-unsynced (GaveUp ∷ calls) lost = failed-unsynced calls lost
failed-unsynced (SyncRefused ∷ calls) lost = failed-unsynced calls lost

module _ {T E : Type 0} (origin : Origin) (old now : List FileCall) where
  pub synced-content : (result : Result T E) → Tries (λ _. Synced) NotSynced result old now → content_of origin now ≡ content_of origin old
  synced-content result tried =
      tries-kept (λ _. Synced) NotSynced old now (content_of origin) (λ _ _. refl) (λ _ _. refl) (λ _. refl) result tried

  pub synced-honest : (result : Result T E) → Tries (λ _. Synced) NotSynced result old now → is_honest origin now ≡ is_honest origin old
  synced-honest result tried =
      tries-kept (λ _. Synced) NotSynced old now (is_honest origin) (λ _ calls. and_true (is_honest origin calls))
      (λ _ calls. and_true (is_honest origin calls)) (λ calls. and_true (is_honest origin calls)) result tried

  pub synced-counted : (result : Result T E) → Tries (λ _. Synced) NotSynced result old now
      → failed_calls now ≡ counted result (failed_calls old)
  synced-counted result tried =
      tries-counted (λ _. Synced) NotSynced old now (λ _ _. refl) (λ _. refl) (λ _. refl) result tried

  pub synced-tested : (result : Result T E) → sync_has_failed old ≡ false → Tries (λ _. Synced) NotSynced result old now
      → is_synced now ≡ is_ok result
  synced-tested (Ok done) none tried =
      rw tried.calls (ap not (kept sync_has_failed (NotSynced true) (λ _. refl) tried.times old ∙ none))
  synced-tested (Err error) none (Refused tried) = rw tried.calls refl
  synced-tested (Err error) none (GivenUp tried all) = rw tried.calls (interrupted-unsynced tried.times old (omega (arith, all)))
