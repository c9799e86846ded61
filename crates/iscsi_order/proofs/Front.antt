-- Which numbers are taken: those below the first one that has not come.
use Rattle.std.proofs.Common.{◌≡◌, ◌≢◌, ℕ, zero, suc, ◌+◌, ◌<◌, ◌≤◌, List, [], ◌∷◌, length, Bool, true, false, not, ◌||◌, eqb, Some, None, refl, sym, ap, ◌∙◌, arith, inl, inr, add-one}
use Rattle.std.specs.Prelude.{find, filter}
use Rattle.std.specs.List.{range_with_len}
use Rattle.std.proofs.lemmas.Bool.{eqb-true, ne_eqb}
use Rattle.std.proofs.lemmas.Bool.Decides.{eqb_tells}
use Rattle.iscsi_order.specs.Window.{taken_from, has_come}

-- how many of at most n numbers from k on are taken
abbrev pub count : ℕ → ℕ → List ℕ → ℕ
count n k came = length (taken_from (λ a. a) n k came)

-- ---- what finds a number also says that it has come

find_missing_with : (b : Bool) (a k : ℕ) (came : List ℕ) → eqb a k ≡ b → (b || has_come came k) ≡ false
    → (has_come came k ≡ false → find (λ x. eqb x k) came ≡ None) → find (λ x. eqb x k) (a ∷ came) ≡ None
find_missing_with true a k came e h rest = absurd cc
find_missing_with false a k came e h rest = rw e (rest h)

find_missing : (k : ℕ) (came : List ℕ) → has_come came k ≡ false → find (λ a. eqb a k) came ≡ None
find_missing k [] h = refl
find_missing k (a ∷ came) h = find_missing_with (eqb a k) a k came refl h (find_missing k came)

find_come_with : (b : Bool) (a k : ℕ) (came : List ℕ) → eqb a k ≡ b → (b || has_come came k) ≡ true
    → (has_come came k ≡ true → find (λ x. eqb x k) came ≡ Some k) → find (λ x. eqb x k) (a ∷ came) ≡ Some k
find_come_with true a k came e h rest = rw e (ap Some (eqb-true a k e))
find_come_with false a k came e h rest = rw e (rest h)

find_come : (k : ℕ) (came : List ℕ) → has_come came k ≡ true → find (λ a. eqb a k) came ≡ Some k
find_come k [] h = absurd cc
find_come k (a ∷ came) h = find_come_with (eqb a k) a k came refl h (find_come k came)

-- ---- counting

count_missing : (n k : ℕ) (came : List ℕ) → has_come came k ≡ false → count (suc n) k came ≡ 0
count_missing n k came h = rw (find_missing k came h) refl

count_come : (n k : ℕ) (came : List ℕ) → has_come came k ≡ true → count (suc n) k came ≡ suc (count n (suc k) came)
count_come n k came h = rw (find_come k came h) refl

count_le : (n k : ℕ) (came : List ℕ) (b : Bool) → has_come came k ≡ b → count n k came ≤ n
count_le zero k came b h = omega arith
count_le (suc n) k came true h = let more = count_le n (suc k) came _ refl in omega (arith, count_come n k came h)
count_le (suc n) k came false h = omega (arith, count_missing n k came h)

-- the numbers counted have come
count_below : (n k i : ℕ) (came : List ℕ) (b : Bool) → has_come came k ≡ b → i < count n k came → has_come came (k + i) ≡ true
count_below zero k i came b h lt = absurd (omega arith)
count_below (suc n) k zero came true h lt = let at : k + 0 ≡ k = omega arith in ap (has_come came) at ∙ h
count_below (suc n) k (suc i) came true h lt =
    let below : i < count n (suc k) came = omega (arith, count_come n k came h) in
    let at : k + suc i ≡ suc k + i = omega arith in
    ap (has_come came) at ∙ count_below n (suc k) i came _ refl below
count_below (suc n) k i came false h lt = absurd (omega (arith, count_missing n k came h))

-- the one after them has not, where some were left to count
count_stops : (n k : ℕ) (came : List ℕ) (b : Bool) → has_come came k ≡ b → count n k came < n → has_come came (k + count n k came) ≡ false
count_stops zero k came b h lt = absurd (omega arith)
count_stops (suc n) k came true h lt =
    let e = count_come n k came h in
    let at : k + count (suc n) k came ≡ suc k + count n (suc k) came = omega arith in
    ap (has_come came) at ∙ count_stops n (suc k) came _ refl (omega arith)
count_stops (suc n) k came false h lt =
    let at : k + count (suc n) k came ≡ k = omega (arith, count_missing n k came h) in
    ap (has_come came) at ∙ h

-- they are the numbers from k on
taken_run : (n k : ℕ) (came : List ℕ) (b : Bool) → has_come came k ≡ b → taken_from (λ a. a) n k came ≡ range_with_len k (count n k came)
taken_run zero k came b h = refl
taken_run (suc n) k came true h =
    rw (find_come k came h) (ap (λ (l : List ℕ). k ∷ l) (taken_run n (suc k) came _ refl
    ∙ ap (λ (m : ℕ). range_with_len m (count n (suc k) came)) (sym (add-one k))))
taken_run (suc n) k came false h = rw (find_missing k came h) refl

pub front_run : (came : List ℕ) → taken_from (λ a. a) (length came) zero came ≡ range_with_len 0 (count (length came) zero came)
front_run came = taken_run (length came) zero came _ refl

-- ---- as many as have come suffice

abbrev without : ℕ → List ℕ → List ℕ
without k came = filter (λ a. not (eqb a k)) came

without_le : (k : ℕ) (came : List ℕ) → length (without k came) ≤ length came
without_le k [] = omega arith
without_le k (a ∷ came) = elim (eqb_tells a k) [
  | inl same ↦ rw same.0 (let le = without_le k came in omega arith)
  | inr differ ↦ rw differ.0 (let le = without_le k came in omega arith)
]

without_less_with : (b : Bool) (a k : ℕ) (came : List ℕ) → eqb a k ≡ b → (b || has_come came k) ≡ true
    → (has_come came k ≡ true → length (without k came) < length came) → length (without k (a ∷ came)) < length (a ∷ came)
without_less_with true a k came e h rest = rw e (let le = without_le k came in omega arith)
without_less_with false a k came e h rest = rw e (let less = rest h in omega arith)

without_less : (k : ℕ) (came : List ℕ) → has_come came k ≡ true → length (without k came) < length came
without_less k [] h = absurd cc
without_less k (a ∷ came) h = without_less_with (eqb a k) a k came refl h (without_less k came)

come_without : (k i : ℕ) (came : List ℕ) → i ≢ k → has_come (without k came) i ≡ has_come came i
come_without k i [] ne = refl
come_without k i (a ∷ came) ne = elim (eqb_tells a k) [
  | inl same ↦ let other : a ≢ i = λ e. ne (sym e ∙ same.1) in rw (same.0, ne_eqb a i other) (come_without k i came ne)
  | inr differ ↦ rw differ.0 (ap (λ (b : Bool). eqb a i || b) (come_without k i came ne))
]

-- where each number below m has come, there are at least so many
crowded : (m : ℕ) (came : List ℕ) → ((i : ℕ) → i < m → has_come came i ≡ true) → m ≤ length came
crowded zero came all = omega arith
crowded (suc m) came all =
    let less = without_less m came (all m (omega arith)) in
    let more = crowded m (without m came) (λ i lt. come_without m i came (λ e. omega arith) ∙ all i (omega arith)) in
    omega arith

-- ---- the numbers taken

-- how many are taken
abbrev pub front : List ℕ → ℕ
front came = count (length came) zero came

pub front_le : (came : List ℕ) → front came ≤ length came
front_le came = count_le (length came) zero came _ refl

pub front_come : (came : List ℕ) (i : ℕ) → i < front came → has_come came i ≡ true
front_come came i lt = let at : i ≡ 0 + i = omega arith in ap (has_come came) at ∙ count_below (length came) zero i came _ refl lt

front_missing_with : (came : List ℕ) (b : Bool) → has_come came (front came) ≡ b → b ≡ false
front_missing_with came false e = refl
front_missing_with came true e =
    let all : (i : ℕ) → i < suc (front came) → has_come came i ≡ true = λ i lt.
    elim (eqb_tells i (front came)) [
      | inl same ↦ ap (has_come came) same.1 ∙ e
      | inr differ ↦ let ne = differ.1 in front_come came i (omega arith)
    ] in
    let stopped : front came < length came → ⊥ = λ lt. let at : front came ≡ 0 + front came = omega arith in let h = ap (has_come came) at
    ∙ count_stops (length came) zero came _ refl lt in absurd cc in
    absurd (let many = crowded (suc (front came)) came all in stopped (omega arith))

pub front_missing : (came : List ℕ) → has_come came (front came) ≡ false
front_missing came = front_missing_with came _ refl
