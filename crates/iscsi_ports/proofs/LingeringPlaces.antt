-- A list of places that is gone through from the front, each by one step.
use Rattle.std.proofs.Common.{◌≡◌, ◌≢◌, ℕ, zero, suc, ◌+◌, ◌-◌, ◌<◌, ◌≤◌, List, [], ◌∷◌, Option, Some, None, Result, Bool, true, false, ◌||◌, eq-eqb, is_none, refl, sym, ap, subst, ◌∙◌, inl, inr, arith}
use Rattle.std.specs.Prelude.{nat_lt, ◌&&◌, not, option_map, slice_index_or}
use Rattle.std.specs.List.{list_all}
use Rattle.std.proofs.lemmas.Bool.{false≢true, ne_eqb, cases_eq, cases_lt}
use Rattle.iscsi_ports.specs.Asking.{gave}
use Rattle.iscsi_ports.specs.Lingering.{place_of, LingeringCall, Draining, DrainingRead, Left, left_of, left_in, left_after, bytes_after, IsDrained, AreDrained, answer_in, taken_below, turns_later, turns_left}
use Rattle.iscsi_ports.specs.declared.lingering.LingeringSocket.{LingeringSocket}
use Rattle.iscsi_ports.specs.declared.socket_failure.SocketFailure.{SocketFailure}

-- those before this one have had their step, the others are as they were
pub record IsWalked {A : Type 0} (R : Option A → Option A → Type 0) (before now : List (Option A)) (i : ℕ) : Type 0 where
  pub walked : (d : ℕ) → d < i → R (slice_index_or before d None) (slice_index_or now d None)
  pub ahead : (d : ℕ) → i ≤ d → slice_index_or now d None ≡ slice_index_or before d None

-- ---- each is drained

none_is_some : {A : Type 0} {P : Type 0} (place : Option A) (x : A) → place ≡ None → place ≡ Some x → P
none_is_some place x none some = absurd cc

some_is : {A : Type 0} (x y : A) → Some x ≡ Some y → x ≡ y
some_is x y e = cc

or_right : (a b : Bool) → b ≡ true → (a || b) ≡ true
or_right true b e = refl
or_right false b e = e

or_left : (a b : Bool) → a ≡ true → (a || b) ≡ true
or_left true b e = refl
or_left false b e = absurd cc

-- what was read of the others stays what was read last
answer_before : (d e : ℕ) (answer : Result ℕ SocketFailure) (reads : List DrainingRead) → e < d
    → answer_in e (record { place = d; answer = answer } ∷ reads) ≡ answer_in e reads
answer_before d e answer reads lt = rw (ne_eqb d e (omega arith)) refl

answer_here : (d : ℕ) (answer : Result ℕ SocketFailure) (reads : List DrainingRead)
    → answer_in d (record { place = d; answer = answer } ∷ reads) ≡ answer
answer_here d answer reads = rw (eq-eqb d d refl) refl

module _ (d : ℕ) (before now after : List (Option LingeringSocket)) (calls_before calls_now calls_after : List LingeringCall) (has more : Bool)
    (so : AreDrained d before now calls_before calls_now has)
    (others : (e : ℕ) → e ≢ d → place_of e after ≡ place_of e now) where
  -- a place below this one is as it was
  below : (e : ℕ) → e < d → place_of e after ≡ place_of e now
  below e lt = others e (omega arith)

  -- of all below the next one what holds of this one and of all below
  up_to : (P : ℕ → Type 0) → P d → ((e : ℕ) → e < d → P e) → (e : ℕ) → e < suc d → P e
  up_to P here so_far e lt = elim (cases_eq d e) [
    | inl same ↦ subst P same here
    | inr other ↦ so_far e (omega arith)
  ]

  none_next : place_of d before ≡ None → place_of d after ≡ None → calls_after ≡ calls_now
      → AreDrained (suc d) before after calls_before calls_after (has || more)
  none_next was is calls = record {
    reads = so.reads;
    noted = calls ∙ so.noted;
    each = rw was so.each;
    free = up_to (λ e. place_of e before ≡ None → place_of e after ≡ None) (λ _. is) (λ e lt none. below e lt ∙ so.free e lt none);
    taken = λ e socket lt. up_to (λ e. place_of e before ≡ Some socket → left_in (place_of e after) ≡ left_after (answer_in e so.reads) (left_of socket))
        (λ some. none_is_some (place_of d before) socket was some)
        (λ e lt some. ap left_in (below e lt) ∙ so.taken e socket lt some) e lt;
    more = up_to (λ e. gave (answer_in e so.reads) ≡ true → is_none (place_of e after) ≡ false → (has || more) ≡ true)
        (λ gives stays. absurd (false≢true (sym stays ∙ ap is_none is)))
        (λ e lt gives stays. or_left has more (so.more e lt gives (sym (ap is_none (below e lt)) ∙ stays)));
    ahead = λ e le. others e (omega arith) ∙ so.ahead e (omega arith);
  }

  some_next : (socket : LingeringSocket) (answer : Result ℕ SocketFailure) → place_of d before ≡ Some socket
      → calls_after ≡ Draining (record { place = d; answer = answer }) ∷ calls_now
      → left_in (place_of d after) ≡ left_after answer (left_of socket)
      → (gave answer ≡ true → is_none (place_of d after) ≡ false → more ≡ true)
      → AreDrained (suc d) before after calls_before calls_after (has || more)
  some_next socket answer was calls left gives_more =
      let reads : List DrainingRead = record { place = d; answer = answer } ∷ so.reads in
      record {
        reads = reads;
        noted = calls ∙ ap (λ (cs : List LingeringCall). Draining (record { place = d; answer = answer }) ∷ cs) so.noted;
        each = rw was (ap (λ (places : List ℕ). d ∷ places) so.each);
        free = up_to (λ e. place_of e before ≡ None → place_of e after ≡ None)
            (λ none. none_is_some (place_of d before) socket none was) (λ e lt none. below e lt ∙ so.free e lt none);
        taken = λ e other lt. up_to (λ e. place_of e before ≡ Some other → left_in (place_of e after) ≡ left_after (answer_in e reads) (left_of other))
            (λ some. rw (answer_here d answer so.reads, sym (some_is socket other (sym was ∙ some))) left)
            (λ e lt some. rw (answer_before d e answer so.reads lt) (ap left_in (below e lt) ∙ so.taken e other lt some)) e lt;
        more = up_to (λ e. gave (answer_in e reads) ≡ true → is_none (place_of e after) ≡ false → (has || more) ≡ true)
            (λ gives stays. or_right has more (gives_more (rw (answer_here d answer so.reads) at gives) stays))
            (λ e lt gives stays. or_left has more
            (so.more e lt (rw (answer_before d e answer so.reads lt) at gives) (sym (ap is_none (below e lt)) ∙ stays)));
        ahead = λ e le. others e (omega arith) ∙ so.ahead e (omega arith);
      }

  both : (a b : Bool) → more ≡ (a && not b) → a ≡ true → b ≡ false → more ≡ true
  both a b is gives stays = rw (is, gives, stays) refl

  pub drained_next : IsDrained d (place_of d now) (place_of d after) calls_now calls_after more
      → AreDrained (d + 1) before after calls_before calls_after (has || more)
  drained_next here =
      let next : suc d ≡ d + 1 = omega arith in
      subst (λ (n : ℕ). AreDrained n before after calls_before calls_after (has || more)) next
      (go (place_of d now) (sym (so.ahead d (omega arith))) here)
    where
      go : (place : Option LingeringSocket) → place_of d before ≡ place → IsDrained d place (place_of d after) calls_now calls_after more
          → AreDrained (suc d) before after calls_before calls_after (has || more)
      go None was step = none_next was step.0 step.1
      go (Some socket) was step =
          some_next socket step.0 was step.1 step.2 (λ gives stays. both (gave step.0) (is_none (place_of d after)) step.3 gives stays)

-- none was there
none_in : (places : List (Option LingeringSocket)) (d : ℕ) → list_all is_none places ≡ true → place_of d places ≡ None
none_in [] d all = refl
none_in (None ∷ places) zero all = refl
none_in (Some socket ∷ places) d all = absurd (false≢true all)
none_in (None ∷ places) (suc d) all = none_in places d all

none_taken : (places : List (Option LingeringSocket)) (count : ℕ) → list_all is_none places ≡ true → [] ≡ taken_below count places
none_taken places zero all = refl
none_taken places (suc d) all = rw (none_in places d all) (none_taken places d all)

pub none_drained : (places : List (Option LingeringSocket)) (calls : List LingeringCall) (has_more : Bool) → list_all is_none places ≡ true
    → AreDrained 65 places places calls calls has_more
none_drained places calls has_more all = record {
  reads = [];
  noted = refl;
  each = none_taken places 65 all;
  free = λ d lt none. none;
  taken = λ d socket lt some. none_is_some (place_of d places) socket (none_in places d all) some;
  more = λ d lt gives stays. absurd (false≢true gives);
  ahead = λ d le. refl;
}

pub drained_at_once : (before after : List (Option LingeringSocket)) (calls_before calls_after : List LingeringCall) (has_more at_once : Bool)
    → AreDrained 65 before after calls_before calls_after has_more → has_more ≡ false
    → AreDrained 65 before after calls_before calls_after at_once
drained_at_once before after calls_before calls_after has_more at_once so none = record {
  reads = so.reads;
  noted = so.noted;
  each = so.each;
  free = so.free;
  taken = so.taken;
  more = λ d lt gives stays. absurd (false≢true (sym none ∙ so.more d lt gives stays));
  ahead = so.ahead;
}

-- ---- for how long one stays

abbrev turns_in : Option Left → ℕ
turns_in None = 0
turns_in (Some left) = left.turns

turns_are : (place : Option LingeringSocket) → turns_left place ≡ turns_in (left_in place)
turns_are None = refl
turns_are (Some socket) = refl

read_keeps : (bytes : Option ℕ) (left : Left) → turns_in (option_map (λ n. record left { bytes = n }) bytes) ≤ left.turns
read_keeps None left = omega arith
read_keeps (Some n) left = omega arith

-- one that is drained does not stay for longer
drained_stays : (count : ℕ) (before drained : List (Option LingeringSocket)) (calls_before calls_after : List LingeringCall) (has_more : Bool)
    → AreDrained count before drained calls_before calls_after has_more → (d : ℕ) → turns_left (place_of d drained) ≤ turns_left (place_of d before)
drained_stays count before drained calls_before calls_after has_more so d = elim (cases_lt d count) [
  | inl lt ↦ go lt (place_of d before) refl
  | inr le ↦ rw (so.ahead d le) (omega arith)
]
  where
    go : d < count → (place : Option LingeringSocket) → place_of d before ≡ place → turns_left (place_of d drained) ≤ turns_left place
    go lt None was = rw (so.free d lt was) (omega arith)
    go lt (Some socket) was =
        rw (turns_are (place_of d drained), so.taken d socket lt was) (read_keeps (bytes_after (answer_in d so.reads) socket.bytes) (left_of socket))

-- after a turn one that was drained stays for fewer
fewer_left : (turns : ℕ) (place : Option LingeringSocket) → 1 ≤ turns → turns_left (turns_later turns place) ≤ turns_left place - 1
fewer_left turns None some = omega arith
fewer_left turns (Some socket) some = go (nat_lt 0 (socket.turns - turns)) refl
  where
    go : (b : Bool) → nat_lt 0 (socket.turns - turns) ≡ b → turns_left (turns_later turns (Some socket)) ≤ socket.turns - 1
    go true e = rw e (omega (arith, some))
    go false e = rw e (omega arith)

pub fewer : (turns : ℕ) (before drained after : List (Option LingeringSocket)) (calls_before calls_after : List LingeringCall) (has_more : Bool)
    → 1 ≤ turns → AreDrained 65 before drained calls_before calls_after has_more → (d : ℕ)
    → place_of d after ≡ turns_later turns (place_of d drained) → turns_left (place_of d after) ≤ turns_left (place_of d before) - 1
fewer turns before drained after calls_before calls_after has_more some so d is =
    let stays = drained_stays 65 before drained calls_before calls_after has_more so d in
    let less = fewer_left turns (place_of d drained) some in
    rw is (omega (arith, stays, less))
