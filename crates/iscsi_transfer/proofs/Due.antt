-- The R2Ts that are due.
use Rattle.std.proofs.Common.{◌≡◌, ℕ, zero, suc, ◌+◌, ◌-◌, ◌<◌, ◌≤◌, min, List, [], ◌∷◌, length, map, drop, Bool, true, false, not, ◌&&◌, ◌||◌, Some, None, refl, sym, ap, ◌∙◌, inl, inr, arith}
use Rattle.std.specs.Prelude.{is_some, nat_lt, if◌then◌else◌}
use Rattle.std.specs.List.{range_with_len}
use Rattle.std.proofs.lemmas.Bool.{ltb-true, lt-ltb, le-ltb, cases_lt, cases_Bool}
use Rattle.std.proofs.lemmas.List.FromFn.{length-map-range_with_len}
use Rattle.iscsi_transfer.specs.declared.progress.Ask.{Ask}
use Rattle.iscsi_transfer.specs.WriteData.{WriteDataState, ask, filled, wanted, bursts_wanted, lacks_data, allowed, due_asks, first, is_due, is_asked, with_asked}
use Rattle.iscsi_transfer.specs.WriteDataLaws.{DueRiseByOne, SentIsDueNoMore, FewWhereSent}
use Rattle.iscsi_transfer.proofs.Bursts.{not_all}

-- ---- the first of them

first_of : (f : ℕ → Ask) (a m n : ℕ) → m ≡ n - a → first (map f (range_with_len a m)) ≡ (if nat_lt a n then Some (f a) else None)
first_of f a zero n is = rw (le-ltb a n (omega (arith, is))) refl
first_of f a (suc m) n is = rw (lt-ltb a n (omega (arith, is))) refl

first_if : (b : Bool) (f : ℕ → Ask) (a n : ℕ)
    → first (if b then map f (range_with_len a (n - a)) else []) ≡ (if b && nat_lt a n then Some (f a) else None)
first_if true f a n = first_of f a (n - a) n refl
first_if false f a n = refl

pub first_due : (task : WriteDataState)
    → first (due_asks task) ≡ (if lacks_data task && nat_lt task.sent (allowed task) then Some (ask task task.sent) else None)
first_due task = first_if (lacks_data task) (ask task) task.sent (allowed task)

some_if : (b : Bool) (one : Ask) → is_some (if b then Some one else None) ≡ b
some_if true one = refl
some_if false one = refl

pub due_is : (task : WriteDataState) → is_due task ≡ (lacks_data task && nat_lt task.sent (allowed task))
due_is task = ap is_some (first_due task) ∙ some_if (lacks_data task && nat_lt task.sent (allowed task)) (ask task task.sent)

-- ---- in which order

numbered : (task : WriteDataState) (a n : ℕ) → map (λ one. one.number) (map (ask task) (range_with_len a n)) ≡ range_with_len a n
numbered task a zero = refl
numbered task a (suc n) = ap (λ (ks : List ℕ). a ∷ ks) (numbered task (a + 1) n)

rise_if : (b : Bool) (task : WriteDataState) (a n : ℕ) → map (λ one. one.number) (if b then map (ask task) (range_with_len a n) else [])
    ≡ range_with_len a (length (if b then map (ask task) (range_with_len a n) else []))
rise_if true task a n = numbered task a n ∙ ap (range_with_len a) (sym (length-map-range_with_len (ask task) a n))
rise_if false task a n = refl

pub due_rise_by_one : DueRiseByOne
due_rise_by_one task = rise_if (lacks_data task) task task.sent (allowed task - task.sent)

-- ---- one is sent

rest_of : (f : ℕ → Ask) (a m n : ℕ) → m ≡ n - a → map f (range_with_len (a + 1) (n - (a + 1))) ≡ drop 1 (map f (range_with_len a m))
rest_of f a zero n is = ap (λ (k : ℕ). map f (range_with_len (a + 1) k)) {x = n - (a + 1)} {y = 0} (omega (arith, is))
rest_of f a (suc m) n is = ap (λ (k : ℕ). map f (range_with_len (a + 1) k)) {x = n - (a + 1)} {y = m} (omega (arith, is))

rest_if : (b : Bool) (f : ℕ → Ask) (a n : ℕ) → (if b then map f (range_with_len (a + 1) (n - (a + 1))) else [])
    ≡ drop 1 (if b then map f (range_with_len a (n - a)) else [])
rest_if true f a n = rest_of f a (n - a) n refl
rest_if false f a n = refl

pub sent_is_due_no_more : SentIsDueNoMore
unfolding with_asked
sent_is_due_no_more task tag = rest_if (lacks_data task) (ask task) task.sent (allowed task)

-- ---- how many

many_if : (b : Bool) (f : ℕ → Ask) (a n m : ℕ) → m ≤ length (if b then map f (range_with_len a (n - a)) else []) → m ≤ n - a
many_if true f a n m le = omega (arith, le, length-map-range_with_len f a (n - a))
many_if false f a n m le = omega (arith, le)

pub few_where_sent : FewWhereSent
unfolding with_asked
few_where_sent task tags le few =
    let most = many_if (lacks_data task) (ask task) task.sent (allowed task) (length tags) le in
    omega (arith, most, few)

pub few_due : (task : WriteDataState) → filled task ≤ task.sent → length (due_asks task) ≤ task.outstanding
few_due task within = elim (cases_Bool (lacks_data task)) [
  | inl lacks ↦ rw lacks (omega (arith, within, length-map-range_with_len (ask task) task.sent (allowed task - task.sent)))
  | inr none ↦ rw none (omega arith)
]

-- ---- none is forgotten

due_or_open : (s k all m : ℕ) → 1 ≤ m → k < all → (nat_lt s (min all (k + m)) || nat_lt k s) ≡ true
due_or_open s k all m some less = elim (cases_lt s (min all (k + m))) [
  | inl due ↦ rw (lt-ltb s (min all (k + m)) due) refl
  | inr sent ↦ rw (lt-ltb k s (omega (arith, sent, some, less)), le-ltb s (min all (k + m)) sent) refl
]

both_if : (b d o : Bool) → (b ≡ true → (d || o) ≡ true) → ((b && d) || (b && o)) ≡ b
both_if true d o holds = holds refl
both_if false d o holds = refl

pub lacks_shut : (opened : Bool) (p w : ℕ) → (not opened && nat_lt p w) ≡ true → (opened ≡ false) × (p < w)
lacks_shut true p w e = absurd cc
lacks_shut false p w e = (refl, ltb-true p w e)

pub fewer_than_wanted : (task : WriteDataState) → 1 ≤ task.burst → task.unsolicited ≤ length task.payload → lacks_data task ≡ true
    → filled task < bursts_wanted task
fewer_than_wanted task some behind lacks =
    let at = lacks_shut task.is_open (length task.payload) (wanted task) lacks in
    rw at.0 (not_all (length task.payload) task.unsolicited task.burst (wanted task) some behind at.1)

-- where data is lacking an R2T is due or open, and nowhere else
pub due_or_asked : (task : WriteDataState) → 1 ≤ task.burst → 1 ≤ task.outstanding → task.unsolicited ≤ length task.payload
    → (is_due task || is_asked task) ≡ lacks_data task
due_or_asked task some one behind =
    ap (λ (b : Bool). b || is_asked task) (due_is task) ∙ both_if (lacks_data task) (nat_lt task.sent (allowed task)) (nat_lt (filled task) task.sent)
    (λ lacks. due_or_open task.sent (filled task) (bursts_wanted task) task.outstanding one (fewer_than_wanted task some behind lacks))
