-- What runs say of the sizes of their items: those before a run, its own, and those after it.
use Rattle.std.proofs.Common.{◌≡◌, ℕ, zero, suc, ◌+◌, ◌-◌, ◌*◌, ◌^◌, ◌≤◌, ◌<◌, List, [], ◌∷◌, ◌++◌, length}
use Rattle.std.proofs.Common.{take, drop, get_or, sum, refl, ap, sym, ◌∙◌, arith, append_assoc, add-one, mul-le-mul_left, drop-cons}
use Rattle.std.specs.Prelude.{replicate}
use Rattle.std.proofs.lemmas.List.{length-drop, length-reverse, length-take-le, length-replicate, length-append, append-nil, take_all, take_at, drop_at, replicate-append-replicate}
use Rattle.tape_index.specs.Index.{mark_size, most_size, Joins, AreAlike, AreAround, AreAhead, IsLast}
use Rattle.tape_index.specs.declared.index.Alike.{Alike}
use Rattle.tape_index.specs.declared.outcome.Direction.TheVariants.{Forward, Backward}
use Rattle.tape_index.specs.Runs.{no_run, run_before, sizes_of, Follows, AreRuns}
use Rattle.tape_index.specs.declared.run.Run.{Run}
use Rattle.tape_index.proofs.Alike.{sum-append, sum-replicate, alike-front, alike-behind, alike-taken, alike-sum, alike-size, alike-back}

-- runs up to one, which ends them, and those after it; and where another ends them
record IsCut (before : Run) (runs : List Run) (i : ℕ) (last : Run) : Type 0 where
  pub is : sizes_of before runs ≡ sizes_of before (take i runs) ++ sizes_of last (drop i runs)
  pub count : before.count + length (sizes_of before (take i runs)) ≡ last.count
  pub end : before.end + sum (sizes_of before (take i runs)) ≡ last.end
  pub few : before.count * 8 ≤ before.end → last.count * 8 ≤ last.end
  pub rest : AreRuns last (drop i runs)
  pub more : (run : Run) → Follows last run → AreRuns before (take i runs ++ run ∷ [])
  pub sizes_more : (run : Run) → sizes_of before (take i runs ++ run ∷ []) ≡ sizes_of before (take i runs) ++ replicate (run.count - last.count) run.size

cut : (before : Run) (runs : List Run) (i : ℕ) → AreRuns before runs → i ≤ length runs → IsCut before runs i (get_or (before ∷ runs) i no_run)
cut before runs zero are le = record {
  is = refl;
  count = omega arith;
  end = omega arith;
  few = λ is. is;
  rest = are;
  more = λ run is. (is, tt);
  sizes_more = λ run. append-nil (replicate (run.count - before.count) run.size);
}
cut before [] (suc i) are le = absurd (omega arith)
cut before (run ∷ runs) (suc i) are le =
    let rest = cut run runs i are.1 (omega arith) in
    let own = replicate (run.count - before.count) run.size in
    let front = sizes_of run (take i runs) in
    record {
      is = ap (λ l. own ++ l) rest.is ∙ sym (append_assoc own front (sizes_of (get_or (run ∷ runs) i no_run) (drop i runs)));
      count = omega (arith, rest.count, are.0.some, length-append own front, length-replicate (run.count - before.count) run.size);
      end = omega (arith, rest.end, are.0.end, sum-append own front, sum-replicate (run.count - before.count) run.size);
      few = λ is.
          let least : (run.count - before.count) * 8 ≤ (run.count - before.count) * run.size = mul-le-mul_left (run.count - before.count) are.0.least in
          rest.few (omega (arith, is, are.0.end, are.0.some, least));
      rest = rest.rest;
      more = λ next is. (are.0, rest.more next is);
      sizes_more = λ next. ap (λ l. own ++ l) (rest.sizes_more next)
          ∙ sym (append_assoc own front (replicate (next.count - (get_or (run ∷ runs) i no_run).count) next.size));
    }

-- all runs end with the last
pub record AreAll (runs : List Run) (last : Run) : Type 0 where
  pub count : last.count ≡ length (sizes_of no_run runs)
  pub end : last.end ≡ sum (sizes_of no_run runs)
  pub few : last.count * 8 ≤ last.end

pub are_all : (runs : List Run) → AreRuns no_run runs → AreAll runs (run_before runs (length runs))
are_all runs are =
    let here = cut no_run runs (length runs) are (omega arith) in
    let all : take (length runs) runs ≡ runs = take_all (length runs) runs (omega arith) in
    record {
      count = omega (arith, here.count, ap (λ l. length (sizes_of no_run l)) all);
      end = omega (arith, here.end, ap (λ l. sum (sizes_of no_run l)) all);
      few = here.few (omega arith);
    }

-- ---- the runs up to one

pub record HasRun (sizes : List ℕ) (before run : Run) : Type 0 where
  pub follows : Follows before run
  pub are : AreAlike sizes before.count run.count run.size
  pub start : sum (take before.count sizes) ≡ before.end
  pub end : sum (take run.count sizes) ≡ run.end

pub has_run : (runs : List Run) (i : ℕ) → AreRuns no_run runs → i < length runs → HasRun (sizes_of no_run runs) (run_before runs i) (run_before runs (i + 1))
has_run runs i are lt =
    let before = run_before runs i in
    let run = get_or runs i no_run in
    let sizes = sizes_of no_run runs in
    let here = cut no_run runs i are (omega arith) in
    let front = sizes_of no_run (take i runs) in
    let rest = sizes_of run (drop (suc i) runs) in
    let own = replicate (run.count - before.count) run.size in
    let next = drop-cons runs i no_run lt in
    let those : AreRuns before (run ∷ drop (suc i) runs) = rw next at here.rest in
    let is : sizes ≡ front ++ (own ++ rest) = here.is ∙ ap (λ l. front ++ sizes_of before l) next in
    let is_left : sizes ≡ (front ++ own) ++ rest = is ∙ sym (append_assoc front own rest) in
    let many : length front ≡ before.count = omega (arith, here.count) in
    let long : length (front ++ own) ≡ run.count =
    omega (arith, many, those.0.some, length-append front own, length-replicate (run.count - before.count) run.size) in
    rw (add-one i) (record {
      follows = those.0;
      are = record {
        is = ap (drop before.count) is ∙ drop_at front (own ++ rest) before.count many
            ∙ ap (λ l. own ++ l) (sym (ap (drop run.count) is_left ∙ drop_at (front ++ own) rest run.count long));
        within = omega (arith, ap length is_left, length-append (front ++ own) rest, long);
      };
      start = ap sum (ap (take before.count) is ∙ take_at front (own ++ rest) before.count many) ∙ omega (arith, here.end);
      end = ap sum (ap (take run.count) is_left ∙ take_at (front ++ own) rest run.count long) ∙ sum-append front own
          ∙ omega (arith, here.end, those.0.end, sum-replicate (run.count - before.count) run.size);
    })

pub around : (runs : List Run) (i number : ℕ) (before run : Run) → AreRuns no_run runs → i < length runs → before ≡ run_before runs i
    → run ≡ run_before runs (i + 1) → (run_before runs i).count ≤ number → number < (run_before runs (i + 1)).count
    → AreAround (sizes_of no_run runs) (record { first = before.count; next = run.count; end = run.end; size = run.size; runs = i + 1 }) number
around runs i number before run are lt before_is run_is from to =
    let has = has_run runs i are lt in
    rw (before_is, run_is)
    (record { from = from; to = to; are = has.are; end = sym has.end; least = has.follows.least; most = has.follows.most })

-- where a number within it is
pub around-place : (sizes : List ℕ) (alike : Alike) (number : ℕ) → AreAround sizes alike number
    → alike.end ≡ sum (take number sizes) + (alike.next - number) * alike.size
around-place sizes alike number is =
    is.end ∙ alike-sum sizes number alike.next alike.size
    (alike-behind sizes alike.first number alike.next alike.size is.are is.from (omega (arith, is.to))) (omega (arith, is.to))

pub around-size : (sizes : List ℕ) (alike : Alike) (number : ℕ) → AreAround sizes alike number → alike.size ≡ get_or sizes number 0
around-size sizes alike number is =
    sym (alike-size sizes number alike.next alike.size
    (alike-behind sizes alike.first number alike.next alike.size is.are is.from (omega (arith, is.to))) is.to)

-- on the way from a number
pub ahead_on : (sizes : List ℕ) (at near : ℕ) (alike : Alike) → AreAround sizes alike at → alike.next < 2 ^ 64
    → AreAhead Forward at sizes (record { many = alike.next - at; size = alike.size; near = near })
ahead_on sizes at near alike is fits =
    let there : at + (alike.next - at) ≡ alike.next = omega (arith, is.to) in
    let are = alike-behind sizes alike.first at alike.next alike.size is.are is.from (omega (arith, is.to)) in
    record {
      some = omega (arith, is.to);
      is = rw there are.is;
      many = omega (arith, length-drop at sizes, are.within);
      can = omega (arith, there, fits);
      least = is.least;
    }

pub ahead_back : (sizes : List ℕ) (at near : ℕ) (alike : Alike) → 0 < at → at ≤ length sizes → AreAround sizes alike (at - 1)
    → AreAhead Backward at sizes (record { many = at - alike.first; size = alike.size; near = near })
ahead_back sizes at near alike some within is =
    let there : at - (at - alike.first) ≡ alike.first = omega (arith, is.from) in
    let front = alike-front sizes alike.first at alike.next alike.size is.are (omega (arith, is.from)) (omega (arith, is.to)) in
    record {
      some = omega (arith, is.from);
      is = rw there (alike-back sizes alike.first at alike.size front (omega (arith, is.from)));
      many = omega (arith, length-reverse (take at sizes), length-take-le at sizes within);
      can = omega arith;
      least = is.least;
    }

-- the last run
pub is_last : (runs : List Run) (last : Run) → AreRuns no_run runs → last ≡ run_before runs (length runs) → IsLast (sizes_of no_run runs) last
is_last [] last are is = rw is (record { count = refl; end = refl; few = omega arith; size = refl })
is_last (run ∷ runs) last are is =
    let all = are_all (run ∷ runs) are in
    let sizes = sizes_of no_run (run ∷ runs) in
    let i = length runs in
    let end : i + 1 ≡ suc i = add-one i in
    let has : HasRun sizes (run_before (run ∷ runs) i) (run_before (run ∷ runs) (suc i)) = rw end at (has_run (run ∷ runs) i are (omega arith)) in
    let before = run_before (run ∷ runs) i in
    let that = run_before (run ∷ runs) (suc i) in
    let some = has.follows.some in
    let last_one = alike-size sizes (length sizes - 1) that.count that.size
    (alike-behind sizes before.count (length sizes - 1) that.count that.size has.are (omega (arith, all.count)) (omega (arith, all.count)))
    (omega (arith, all.count)) in
    rw is (record { count = all.count; end = all.end; few = omega (arith, all.count, all.few); size = sym last_one })

-- ---- and others in the place of those after it

pub record AreThose (runs : List Run) (sizes : List ℕ) : Type 0 where
  pub are : AreRuns no_run runs
  pub sizes_are : sizes_of no_run runs ≡ sizes

pub put_behind : (runs : List Run) (i : ℕ) (run : Run) → AreRuns no_run runs → i ≤ length runs → Follows (run_before runs i) run
    → AreThose (take i runs ++ run ∷ []) (take (run_before runs i).count (sizes_of no_run runs) ++ replicate (run.count - (run_before runs i).count) run.size)
put_behind runs i run are le follows =
    let here = cut no_run runs i are le in
    let before = run_before runs i in
    let front = sizes_of no_run (take i runs) in
    record {
      are = here.more run follows;
      sizes_are = here.sizes_more run ∙ ap (λ l. l ++ replicate (run.count - before.count) run.size)
          (sym (ap (take before.count) here.is ∙ take_at front (sizes_of before (drop i runs)) before.count (omega (arith, here.count))));
    }

-- ---- what an index becomes

-- cut within a run
pub cut_in : (runs : List Run) (i : ℕ) (run : Run) → AreRuns no_run runs → i < length runs → (run_before runs i).count < run.count
    → run.count ≤ (run_before runs (i + 1)).count → run.size ≡ (run_before runs (i + 1)).size → run.end ≡ sum (take run.count (sizes_of no_run runs))
    → AreThose (take i runs ++ run ∷ []) (take run.count (sizes_of no_run runs))
cut_in runs i run are lt low high size_is end_is =
    let before = run_before runs i in
    let size = (run_before runs (i + 1)).size in
    let sizes = sizes_of no_run runs in
    let has = has_run runs i are lt in
    let front = alike-front sizes before.count run.count (run_before runs (i + 1)).count size has.are (omega arith) high in
    let end : before.end + (run.count - before.count) * size ≡ run.end = omega (arith, has.start, end_is, alike-sum sizes before.count run.count size front (omega arith)) in
    let as_is = ap (λ n. before.end + (run.count - before.count) * n) size_is ∙ end in
    let those = put_behind runs i run are (omega arith)
    (record { some = low; end = as_is; least = rw size_is has.follows.least; most = rw size_is has.follows.most }) in
    record {
      are = those.are;
      sizes_are = those.sizes_are ∙ ap (λ n. take before.count sizes ++ replicate (run.count - before.count) n) size_is
          ∙ sym (alike-taken sizes before.count run.count size front (omega arith));
    }

-- grown by a run
pub grown : (runs : List Run) (run : Run) (many : ℕ) → AreRuns no_run runs → 0 < many → run.count ≡ length (sizes_of no_run runs) + many
    → run.end ≡ sum (sizes_of no_run runs) + many * run.size → mark_size ≤ run.size → run.size ≤ most_size
    → AreThose (runs ++ run ∷ []) (sizes_of no_run runs ++ replicate many run.size)
grown runs run many are some count_is end_is least most =
    let sizes = sizes_of no_run runs in
    let all = are_all runs are in
    let last = run_before runs (length runs) in
    let own : run.count - last.count ≡ many = omega (arith, all.count) in
    let end : last.end + (run.count - last.count) * run.size ≡ run.end = ap (λ n. last.end + n * run.size) own ∙ omega (arith, all.end, end_is) in
    let follows : Follows last run = record { some = omega (arith, all.count); end = end; least = least; most = most } in
    let whole = take_all (length runs) runs (omega arith) in
    let taken = take_all last.count sizes (omega (arith, all.count)) in
    rw (whole, taken, own) at (put_behind runs (length runs) run are (omega arith) follows)

some-runs : (runs : List Run) (size : ℕ) → Joins size (sizes_of no_run runs) → mark_size ≤ size → 0 < length runs
some-runs [] size joins least = absurd (omega (arith, joins))
some-runs (run ∷ runs) size joins least = omega arith

-- or in the last
pub grown_last : (runs : List Run) (i many : ℕ) (run : Run) → AreRuns no_run runs → i ≡ length runs - 1 → Joins run.size (sizes_of no_run runs)
    → mark_size ≤ run.size → run.count ≡ length (sizes_of no_run runs) + many → run.end ≡ sum (sizes_of no_run runs) + many * run.size
    → AreThose (take i runs ++ run ∷ []) (sizes_of no_run runs ++ replicate many run.size)
grown_last runs i many run are i_is joins least count_is end_is =
    let sizes = sizes_of no_run runs in
    let before = run_before runs i in
    let last = run_before runs (length runs) in
    let long = some-runs runs run.size joins least in
    let last_is : i + 1 ≡ length runs = omega arith in
    let has : HasRun sizes before last = rw last_is at (has_run runs i are (omega arith)) in
    let all = is_last runs last are refl in
    let size_is : run.size ≡ last.size = sym (all.size ∙ joins) in
    let own : ℕ = last.count - before.count in
    let some = has.follows.some in
    let more : run.count - before.count ≡ own + many = omega (arith, all.count) in
    let times : (own + many) * run.size ≡ own * run.size + many * run.size = grind arith in
    let end_last : before.end + own * run.size ≡ last.end = ap (λ n. before.end + own * n) size_is ∙ has.follows.end in
    let end : before.end + (run.count - before.count) * run.size ≡ run.end =
    ap (λ n. before.end + n * run.size) more ∙ omega (arith, times, end_last, end_is, all.end) in
    let those = put_behind runs i run are (omega arith)
    (record { some = omega (arith, all.count); end = end; least = least; most = rw size_is has.follows.most }) in
    let taken : sizes ≡ take before.count sizes ++ replicate own run.size =
    sym (take_all last.count sizes (omega (arith, all.count))) ∙ alike-taken sizes before.count last.count last.size has.are (omega arith)
    ∙ ap (λ n. take before.count sizes ++ replicate own n) (sym size_is) in
    record {
      are = those.are;
      sizes_are = those.sizes_are
          ∙ ap (λ n. take before.count sizes ++ replicate n run.size) more
          ∙ ap (λ l. take before.count sizes ++ l) (sym (replicate-append-replicate own many run.size))
          ∙ sym (append_assoc (take before.count sizes) (replicate own run.size) (replicate many run.size))
          ∙ ap (λ l. l ++ replicate many run.size) (sym taken);
    }
