-- Past the runs of records between a position and the next run of filemarks.
use Rattle.std.proofs.Common.{◌≡◌, ℕ, zero, suc, ◌+◌, ◌-◌, ◌^◌, ◌≤◌, ◌<◌, ◌++◌, inl, inr, List, length, take, drop, reverse}
use Rattle.std.proofs.Common.{max, min, ap, sym, ◌∙◌, refl, subst, arith, add-one}
use Rattle.std.specs.Prelude.{replicate}
use Rattle.std.proofs.Math.Nat.{eq-or-lt_of_le}
use Rattle.std.proofs.lemmas.List.{drop_all}
use Rattle.tape_index.specs.Index.{mark_size, AreAhead}
use Rattle.tape_index.specs.Runs.{no_run, run_before, run_size, sizes_of, AreRecords, AreRuns}
use Rattle.tape_index.specs.SizeSpace.{past_records}
use Rattle.tape_index.specs.declared.outcome.Direction.TheVariants.{Forward, Backward}
use Rattle.tape_index.specs.declared.run.Run.{Run}
use Rattle.tape_index.proofs.Alike.{alike-behind, alike-front, alike-back}
use Rattle.tape_index.proofs.Runs.{HasRun, has_run, are_all, around, ahead_on, ahead_back}
use Rattle.tape_index.proofs.Spacing.{past-forward, past-backward, past-mark, past-none}

-- from number to number
up : (P : ℕ → Type 0) (i many : ℕ) → P i → ((k : ℕ) → i ≤ k → k < i + many → P k → P (suc k)) → P (i + many)
up P i zero here more = let e : i + 0 ≡ i = omega arith in rw e here
up P i (suc many) here more =
    let e : i + suc many ≡ suc (i + many) = omega arith in
    let rest = up P i many here (λ k low high is. more k low (omega arith) is) in
    rw e (more (i + many) (omega arith) (omega arith) rest)

down : (P : ℕ → Type 0) (i many : ℕ) → P (i + many) → ((k : ℕ) → i ≤ k → k < i + many → P (suc k) → P k) → P i
down P i zero here less = let e : i + 0 ≡ i = omega arith in rw e at here
down P i (suc many) here less =
    let e : i + suc many ≡ suc (i + many) = omega arith in
    let last = less (i + many) (omega arith) (omega arith) (rw e at here) in
    down P i many last (λ k low high is. less k low (omega arith) is)

-- how many items there are up to a run
abbrev count_to : List Run → ℕ → ℕ
count_to runs i = (run_before runs i).count

run_here : (runs : List Run) (i : ℕ) → AreRuns no_run runs → i < length runs
    → HasRun (sizes_of no_run runs) (run_before runs i) (run_before runs (suc i))
run_here runs i are lt = rw add-one at (has_run runs i are lt)

-- ---- after a position

on-mark : (runs : List Run) (at i : ℕ) → AreRuns no_run runs → i < length runs → count_to runs i ≤ at
    → at < count_to runs (suc i) → run_size runs i ≡ mark_size → past_records Forward at (sizes_of no_run runs) ≡ at
on-mark runs at i are lt from to mark =
    let sizes = sizes_of no_run runs in
    let next = run_before runs (suc i) in
    let here = alike-behind sizes (count_to runs i) at next.count next.size (run_here runs i are lt).are from (omega arith) in
    past-mark Forward at (next.count - at) sizes (drop next.count sizes) (omega arith)
    (here.is ∙ ap (λ n. replicate (next.count - at) n ++ drop next.count sizes) mark)

-- the records from a position to the end of a run are passed
record IsBehind (sizes : List ℕ) (at now : ℕ) : Type 0 where
  pub behind : at < now
  pub is : past_records Forward at sizes ≡ past_records Forward now sizes

on-runs : (runs : List Run) (at i j : ℕ) → AreRuns no_run runs → count_to runs i ≤ at → at < count_to runs (suc i)
    → i < j → j ≤ length runs → AreRecords runs i j → IsBehind (sizes_of no_run runs) at (count_to runs j)
on-runs runs at i j are from to some le records =
    let sizes = sizes_of no_run runs in
    let P : ℕ → Type 0 = λ k. IsBehind sizes at (count_to runs k) in
    let next = run_before runs (suc i) in
    let one = (run_here runs i are (omega arith)).are in
    let here = alike-behind sizes (count_to runs i) at next.count next.size one from (omega arith) in
    let start : P (suc i) = record {
      behind = to;
      is = past-forward sizes at next.count next.size here (omega arith) (records i (omega arith) some);
    } in
    let there : suc i + (j - suc i) ≡ j = omega arith in
    rw there at (up P (suc i) (j - suc i) start (λ k low high gone.
    let one = run_here runs k are (omega arith) in
    let longer = one.follows.some in
    let that = run_before runs (suc k) in
    record {
      behind = omega (arith, gone.behind, longer);
      is = gone.is ∙ past-forward sizes (count_to runs k) that.count that.size one.are (omega arith)
          (records k (omega arith) (omega arith));
    }))

on-end : (runs : List Run) (j : ℕ) → AreRuns no_run runs → j ≤ length runs
    → (j < length runs → run_size runs j ≡ mark_size)
    → past_records Forward (count_to runs j) (sizes_of no_run runs) ≡ count_to runs j
on-end runs j are le mark = elim (eq-or-lt_of_le le) [
  | inl same ↦
      let sizes = sizes_of no_run runs in
      let all : length sizes ≤ count_to runs (length runs) = omega (arith, (are_all runs are).count) in
      rw same (past-none Forward (count_to runs (length runs)) sizes (drop_all (count_to runs (length runs)) sizes all))
  | inr less ↦
      on-mark runs (count_to runs j) j are less (omega arith) (run_here runs j are less).follows.some (mark less)
]

pub past_on : (runs : List Run) (at i j now : ℕ) → AreRuns no_run runs → i < length runs
    → (run_before runs i).count ≤ at → at < (run_before runs (i + 1)).count → i ≤ j → j ≤ length runs
    → AreRecords runs i j → (j < length runs → run_size runs j ≡ mark_size)
    → now ≡ max (run_before runs j).count at → now ≡ past_records Forward at (sizes_of no_run runs)
past_on runs at i j now are lt from to low le records mark now_is =
    let high : at < count_to runs (suc i) = rw add-one at to in
    elim (eq-or-lt_of_le low) [
      | inl same ↦
          let here : now ≡ at = omega (arith, now_is, ap (count_to runs) same) in
          let is_mark : run_size runs i ≡ mark_size = ap (run_size runs) same ∙ mark (omega arith) in
          here ∙ sym (on-mark runs at i are lt from high is_mark)
      | inr less ↦
          let gone = on-runs runs at i j are from high less le records in
          let here : now ≡ count_to runs j = omega (arith, now_is, gone.behind) in
          here ∙ sym (gone.is ∙ on-end runs j are le mark)
    ]

-- the filemarks where they end, which end after the position
pub marks_end_after : (runs : List Run) (at i j : ℕ) → AreRuns no_run runs → (run_before runs i).count ≤ at
    → at < (run_before runs (i + 1)).count → i ≤ j → j < length runs → AreRecords runs i j
    → at < (run_before runs (j + 1)).count
marks_end_after runs at i j are from to low less records = elim (eq-or-lt_of_le low) [
  | inl same ↦ omega (arith, to, ap (λ k. count_to runs (k + 1)) same)
  | inr more ↦
      let gone = on-runs runs at i j are from (rw add-one at to) more (omega arith) records in
      let longer = (has_run runs j are less).follows.some in
      omega (arith, gone.behind, longer)
]

pub marks_on : (runs : List Run) (j at now near : ℕ) → AreRuns no_run runs → j < length runs
    → run_size runs j ≡ mark_size → (run_before runs (j + 1)).count < 2 ^ 64 → at < (run_before runs (j + 1)).count
    → now ≡ max (run_before runs j).count at
    → AreAhead Forward now (sizes_of no_run runs)
    (record { many = (run_before runs (j + 1)).count - now; size = mark_size; near = near })
marks_on runs j at now near are less mark fits within now_is =
    let sizes = sizes_of no_run runs in
    let next = run_before runs (j + 1) in
    let P : ℕ → Type 0 = λ n. AreAhead Forward now sizes (record { many = next.count - now; size = n; near = near }) in
    let size_is : next.size ≡ mark_size = ap (λ k. (run_before runs k).size) (add-one j) ∙ mark in
    let longer = (has_run runs j are less).follows.some in
    let are_around = around runs j now (run_before runs j) next are less refl refl (omega (arith, now_is))
    (omega (arith, now_is, within, longer)) in
    subst P size_is (ahead_on sizes now near _ are_around fits)

-- ---- before a position

back-mark : (runs : List Run) (at i : ℕ) → AreRuns no_run runs → i < length runs → count_to runs i < at
    → at ≤ count_to runs (suc i) → run_size runs i ≡ mark_size → past_records Backward at (sizes_of no_run runs) ≡ at
back-mark runs at i are lt from to mark =
    let sizes = sizes_of no_run runs in
    let first = count_to runs i in
    let next = run_before runs (suc i) in
    let front = alike-front sizes first at next.count next.size (run_here runs i are lt).are (omega arith) to in
    let here = alike-back sizes first at next.size front (omega arith) in
    past-mark Backward at (at - first) sizes (reverse (take first sizes)) (omega arith)
    (here ∙ ap (λ n. replicate (at - first) n ++ reverse (take first sizes)) mark)

-- the records from the end of a run to a position are passed
record IsBefore (sizes : List ℕ) (at now : ℕ) : Type 0 where
  pub before : now < at
  pub is : past_records Backward at sizes ≡ past_records Backward now sizes

back-runs : (runs : List Run) (at i j : ℕ) → AreRuns no_run runs → i < length runs → count_to runs i < at
    → at ≤ count_to runs (suc i) → j ≤ i → AreRecords runs j (suc i) → IsBefore (sizes_of no_run runs) at (count_to runs j)
back-runs runs at i j are lt from to low records =
    let sizes = sizes_of no_run runs in
    let P : ℕ → Type 0 = λ k. IsBefore sizes at (count_to runs k) in
    let first = count_to runs i in
    let next = run_before runs (suc i) in
    let here = alike-front sizes first at next.count next.size (run_here runs i are lt).are (omega arith) to in
    let start : P i = record {
      before = from;
      is = past-backward sizes first at next.size here (omega arith) (records i low (omega arith));
    } in
    let there : j + (i - j) ≡ i = omega arith in
    down P j (i - j) (rw there start) (λ k least most gone.
    let one = run_here runs k are (omega arith) in
    let longer = one.follows.some in
    let that = run_before runs (suc k) in
    record {
      before = omega (arith, gone.before, longer);
      is = gone.is ∙ past-backward sizes (count_to runs k) that.count that.size one.are (omega arith)
          (records k least (omega arith));
    })

back-end : (runs : List Run) (j : ℕ) → AreRuns no_run runs → j ≤ length runs
    → (0 < j → run_size runs (j - 1) ≡ mark_size)
    → past_records Backward (count_to runs j) (sizes_of no_run runs) ≡ count_to runs j
back-end runs zero are le mark = past-none Backward 0 (sizes_of no_run runs) refl
back-end runs (suc j) are le mark =
    let last : suc j - 1 ≡ j = omega arith in
    let one = run_here runs j are (omega arith) in
    back-mark runs (count_to runs (suc j)) j are (omega arith) one.follows.some (omega arith)
    (ap (run_size runs) (sym last) ∙ mark (omega arith))

pub past_back : (runs : List Run) (at i j now : ℕ) → AreRuns no_run runs → i < length runs → 0 < at
    → (run_before runs i).count ≤ at - 1 → at - 1 < (run_before runs (i + 1)).count → j ≤ i + 1
    → AreRecords runs j (i + 1) → (0 < j → run_size runs (j - 1) ≡ mark_size)
    → now ≡ min (run_before runs j).count at → now ≡ past_records Backward at (sizes_of no_run runs)
past_back runs at i j now are lt some from to low records mark now_is =
    let before : count_to runs i < at = omega arith in
    let next : at - 1 < count_to runs (suc i) = rw add-one at to in
    let within : at ≤ count_to runs (suc i) = omega arith in
    elim (eq-or-lt_of_le low) [
      | inl same ↦
          let that : j ≡ suc i = omega arith in
          let here : now ≡ at = omega (arith, now_is, ap (count_to runs) that) in
          let last : j - 1 ≡ i = omega arith in
          here ∙ sym (back-mark runs at i are lt before within (ap (run_size runs) (sym last) ∙ mark (omega arith)))
      | inr less ↦
          let gone = back-runs runs at i j are lt before within (omega arith) (rw add-one at records) in
          let here : now ≡ count_to runs j = omega (arith, now_is, gone.before) in
          here ∙ sym (gone.is ∙ back-end runs j are (omega arith) mark)
    ]

-- the filemarks where they end, which begin before the position
pub marks_begin_before : (runs : List Run) (at i j : ℕ) → AreRuns no_run runs → i < length runs → 0 < at
    → (run_before runs i).count ≤ at - 1 → at - 1 < (run_before runs (i + 1)).count → j ≤ i + 1 → 0 < j
    → AreRecords runs j (i + 1) → (run_before runs (j - 1)).count < at
marks_begin_before runs at i j are lt some from to low one records =
    let there : j - 1 + 1 ≡ j = omega arith in
    elim (eq-or-lt_of_le low) [
      | inl same ↦ let last : j - 1 ≡ i = omega arith in omega (arith, some, from, ap (count_to runs) last)
      | inr less ↦
          let high : at - 1 < count_to runs (suc i) = rw add-one at to in
          let gone = back-runs runs at i j are lt (omega arith) (omega arith) (omega arith) (rw add-one at records) in
          let longer = (has_run runs (j - 1) are (omega arith)).follows.some in
          omega (arith, gone.before, longer, ap (count_to runs) there)
    ]

pub marks_back : (runs : List Run) (j at now near : ℕ) → AreRuns no_run runs → 0 < j → j ≤ length runs
    → at ≤ length (sizes_of no_run runs) → run_size runs (j - 1) ≡ mark_size → (run_before runs (j - 1)).count < at
    → now ≡ min (run_before runs j).count at
    → AreAhead Backward now (sizes_of no_run runs)
    (record { many = now - (run_before runs (j - 1)).count; size = mark_size; near = near })
marks_back runs j at now near are one le within mark least now_is =
    let sizes = sizes_of no_run runs in
    let k : ℕ = j - 1 in
    let there : k + 1 ≡ j = omega arith in
    let first = count_to runs k in
    let next = run_before runs (k + 1) in
    let P : ℕ → Type 0 = λ n. AreAhead Backward now sizes (record { many = now - first; size = n; near = near }) in
    let size_is : next.size ≡ mark_size = ap (λ n. (run_before runs n).size) (add-one k) ∙ mark in
    let longer = (has_run runs k are (omega arith)).follows.some in
    let next_is : next.count ≡ count_to runs j = ap (count_to runs) there in
    let are_around = around runs k (now - 1) (run_before runs k) next are (omega arith) refl refl
    (omega (arith, now_is, least, longer, next_is)) (omega (arith, now_is, least, longer, next_is)) in
    subst P size_is (ahead_back sizes now near _ (omega (arith, now_is, least, longer, next_is)) (omega (arith, now_is)) are_around)
