-- How the calls of one read or write end, and what is counted of them.
use Rattle.std.proofs.Common.{◌≡◌, ℕ, zero, suc, nat_lt, ◌<◌, ◌+◌, ◌-◌, ◌^◌, ◌≤◌, ◌==◌, ◌&&◌, ◌||◌, not, Bool, true, false, IsTrue, if◌then◌else◌, List, [], ◌∷◌, ◌++◌, length, refl, ap, arith, rules}
use Rattle.std.proofs.lemmas.Bool.{and_parts, and_from, false≢true}
use Rattle.std.proofs.lemmas.Bool.Decides.{Decides-eqb}
use Rattle.media_store.specs.Calls.{FileCall, GaveUp}
use Rattle.media_store.specs.Ends.{has_failed, failed_calls, none_failed, is_given_up, is_far, moved, all_moved, asks_for, ask_for_the_rest, ends, HasEnded}
use Rattle.media_store.specs.Failures.{risen}

-- so many calls were made for a range, none of them failed, and they moved so many bytes
pub record HasGoneOn (at count times done : ℕ) (old new : List FileCall) : Type 0 where
  pub made : List FileCall
  pub calls : new ≡ made ++ old
  pub asked : IsTrue (ask_for_the_rest at count made)
  pub none : IsTrue (none_failed made)
  pub long : length made ≡ times
  pub moved : all_moved made ≡ done

pub HasGoneOn-none : (at count : ℕ) (old : List FileCall) → HasGoneOn at count 0 0 old old
HasGoneOn-none at count old = record { made = []; calls = refl; asked = refl; none = refl; long = refl; moved = refl }

-- a call is of the rest
pub asks-rest : (from at asked count : ℕ) → from ≡ at → asked ≡ count → (from == at && asked == count) ≡ true
asks-rest from at asked count is all = and_from _ _ ((Decides-eqb from at).1 is) ((Decides-eqb asked count).1 all)

pub HasGoneOn-more : (call : FileCall) (at count size times next done end : ℕ) (old now : List FileCall)
    → has_failed call ≡ false → asks_for (at + done) (count - done) call ≡ true
    → size ≡ count → next ≡ times + 1 → end ≡ moved call + done
    → HasGoneOn at count times done old now → HasGoneOn at size next end old (call ∷ now)
HasGoneOn-more call at count size times next done end old now goes asks same is far so = rw same (record {
  made = call ∷ so.made;
  calls = ap (λ (xs : List FileCall). call ∷ xs) so.calls;
  asked = and_from (asks_for (at + all_moved so.made) (count - all_moved so.made) call) (ask_for_the_rest at count so.made)
      (rw so.moved asks) so.asked;
  none = and_from _ _ (ap not goes) so.none;
  long = omega (arith, so.long, is);
  moved = omega (arith, so.moved, far);
})

pub HasEnded-ok : (at count times done : ℕ) (old now : List FileCall) → HasGoneOn at count times done old now
    → HasEnded true at count old now
HasEnded-ok at count times done old now so = record { made = so.made; calls = so.calls; asked = so.asked; ended = so.none }

pub HasEnded-failed : (call : FileCall) (at count size times done : ℕ) (old now : List FileCall)
    → has_failed call ≡ true → is_given_up call ≡ false → asks_for (at + done) (count - done) call ≡ true
    → size ≡ count → HasGoneOn at count times done old now → HasEnded false at size old (call ∷ now)
HasEnded-failed call at count size times done old now failed made asks same so = rw same (record {
  made = call ∷ so.made;
  calls = ap (λ (xs : List FileCall). call ∷ xs) so.calls;
  asked = and_from (asks_for (at + all_moved so.made) (count - all_moved so.made) call) (ask_for_the_rest at count so.made)
      (rw so.moved asks) so.asked;
  ended = and_from _ _ failed (and_from _ _ so.none (rw made refl));
})

pub HasEnded-given-up : (at count times done : ℕ) (old now : List FileCall) → IsTrue (is_far at count || times == 2 ^ 64 - 1)
    → HasGoneOn at count times done old now → HasEnded false at count old (GaveUp ∷ now)
HasEnded-given-up at count times done old now why so = record {
  made = GaveUp ∷ so.made;
  calls = ap (λ (xs : List FileCall). GaveUp ∷ xs) so.calls;
  asked = and_from _ _ refl so.asked;
  ended = and_from _ _ refl (and_from _ _ so.none (rw so.long why));
}

-- 2^64 - 1 calls were made, or the range goes past all offsets
pub many : (far : Bool) (times : ℕ) → times ≡ 2 ^ 64 - 1 → IsTrue (far || times == 2 ^ 64 - 1)
many true times all = refl
many false times all = (Decides-eqb times (2 ^ 64 - 1)).1 all

pub far : (at count times : ℕ) → 2 ^ 64 ≤ at + count → IsTrue (is_far at count || times == 2 ^ 64 - 1)
far at count times past =
    let tested : is_far at count ≡ true = search rules in
    rw tested refl

-- a call that moved some bytes, all, or none of some; these are the bytes, how many, and of how many
pub moved-some : (bytes : List ℕ) (n count : ℕ) → length bytes ≡ n → 0 < n → (length bytes == 0 && nat_lt 0 count) ≡ false
moved-some bytes n count is some =
    let tested : (n == 0) ≡ false = search rules in
    rw (is, tested) refl

pub moved-all : (bytes : List ℕ) (n count : ℕ) → length bytes ≡ n → n ≡ count → (length bytes == 0 && nat_lt 0 count) ≡ false
moved-all bytes zero zero is all = rw is refl
moved-all bytes zero (suc count) is all = absurd (omega (arith, all))
moved-all bytes (suc n) count is all = moved-some bytes (suc n) count is (omega arith)

pub moved-none : (bytes : List ℕ) (n count : ℕ) → length bytes ≡ n → n ≡ 0 → 0 < count → (length bytes == 0 && nat_lt 0 count) ≡ true
moved-none bytes n count is none some =
    let tested : nat_lt 0 count ≡ true = search rules in
    rw (is, none, tested) refl

-- ---- what is counted

not-failed : (b : Bool) → IsTrue (not b) → b ≡ false
not-failed false h = refl
not-failed true h = absurd (false≢true h)

failed-kept : (made old : List FileCall) → IsTrue (none_failed made) → failed_calls (made ++ old) ≡ failed_calls old
failed-kept [] old none = refl
failed-kept (call ∷ made) old none =
    let parts = and_parts (not (has_failed call)) (none_failed made) none in
    rw (not-failed (has_failed call) parts.0) (failed-kept made old parts.1)

ends-counted : (ok far : Bool) (made old : List FileCall) → IsTrue (ends ok far made)
    → failed_calls (made ++ old) ≡ (if ok then failed_calls old else risen (failed_calls old))
ends-counted true far made old ended = failed-kept made old ended
ends-counted false far [] old ended = absurd (false≢true ended)
ends-counted false far (last ∷ made) old ended =
    let parts = and_parts (has_failed last) (none_failed made && (if is_given_up last then far || length made == 2 ^ 64 - 1 else true)) ended in
    let none = and_parts (none_failed made) (if is_given_up last then far || length made == 2 ^ 64 - 1 else true) parts.1 in
    rw parts.0 (ap risen (failed-kept made old none.0))

pub HasEnded-counted : (ok : Bool) (at count : ℕ) (old now : List FileCall) → HasEnded ok at count old now
    → failed_calls now ≡ (if ok then failed_calls old else risen (failed_calls old))
HasEnded-counted ok at count old now so = rw so.calls (ends-counted ok (is_far at count) so.made old so.ended)
