-- What is kept of each life of a history, from one event to the next.
use Rattle.std.proofs.Common.{◌≡◌, ◌≢◌, ℕ, ◌<◌, List, [], ◌∷◌, ◌++◌, map, Bool, true, false, not, Option, Some, None, refl, sym, ap, ◌∙◌, subst, inl, inr, arith}
use Rattle.std.specs.Prelude.{find}
use Rattle.std.specs.List.{AllByRecursion}
use Rattle.std.proofs.lemmas.Bool.Decides.{eqb_tells}
use Rattle.std.proofs.lemmas.List.{map-append}
use Rattle.std.proofs.lemmas.List.Folds.{list_any-append}
use Rattle.iscsi_login.specs.Directory.{KnownTargets}
use Rattle.iscsi_session.specs.Comings.{Coming}
use Rattle.iscsi_world.specs.History.{Open, Bytes, Gone, History, happening, plain, is_among, open_after, connection_limit}
use Rattle.iscsi_world.specs.Life.{Life, Over, is_over, out_of, ended_in}
use Rattle.iscsi_world.specs.World.{Setting, World, is_present, present, over, end, world}
use Rattle.iscsi_world.specs.Output.{out_now, outputs}
use Rattle.iscsi_world.specs.Machine.{LinkState, Machine, link_at, is_free, is_open_at}
use Rattle.iscsi_world.specs.Stands.{link_of, Stands, with_sent}
use Rattle.iscsi_world.specs.Runs.{MayCome, RowState, open_row, row_of, finished, is_on, ended, has, IsFree, AreDistinct, Runs}
use Rattle.iscsi_world.proofs.Standing.{halves_of, present_open, stands_sent, link_stands, waits_there}
use Rattle.iscsi_world.proofs.Linked.{out-ended}
use Rattle.iscsi_world.proofs.Tables.{among-gone, among-gone_other}
use Rattle.iscsi_world.proofs.Keeping.{world-push, rows_in, rows-bring}

-- ---- the rows of a World

abbrev is_there : Option Life → Bool
is_there None = false
is_there (Some life) = true

has_found : (c : ℕ) (lives : List Life) → has c (map row_of lives) ≡ is_there (find (is_present c) lives)
has_found c [] = refl
has_found c (x ∷ lives) = grind (arith, has_found c lives)

-- ---- no connection has two lives that are not over

-- the first life of its connection that is not over
abbrev IsOnly : List Life → Life → Type 0
IsOnly lives x = is_over x.phase ≡ false → find (is_present x.connection) lives ≡ Some x

one_wider : (x y : Life) (lives : List Life) → IsFree (row_of x).connection (map row_of lives) → IsOnly lives y → is_over y.phase ≡ false
    → find (is_present y.connection) (x ∷ lives) ≡ Some y
one_wider x y lives free only e = grind (arith, has_found)

wider : (x : Life) (lives all : List Life) → IsFree (row_of x).connection (map row_of lives) → AllByRecursion (IsOnly lives) all
    → AllByRecursion (IsOnly (x ∷ lives)) all
wider x lives [] free h = tt
wider x lives (y ∷ all) free h = (λ e. one_wider x y lives free h.0 e, wider x lives all free h.1)

all_only : (lives : List Life) → AreDistinct (map row_of lives) → AllByRecursion (IsOnly lives) lives
all_only [] d = tt
all_only (x ∷ lives) d = grind (arith, wider, all_only lives d.1)

-- ---- what waits

-- all that a life was answered waits on its connection
abbrev IsWaiting : Machine → Life → Type 0
IsWaiting machine x = is_over x.phase ≡ false → (link_at machine x.connection).waiting ≡ out_of x

has_row : (s : Setting) (machine : Machine) (rows : List RowState) (before : List ℕ) (history : History) → Runs s machine rows before history
    → (c : ℕ) → has c rows ≡ is_there (present c (world s history))
unfolding present
has_row s machine rows before history r c = ap (has c) r.kept ∙ has_found c (world s history).lives

life_waits : (s : Setting) (machine : Machine) (rows : List RowState) (before : List ℕ) (history : History) (x : Life)
    → Runs s machine rows before history → IsOnly (world s history).lives x → IsWaiting machine x
unfolding present
life_waits s machine rows before history x r only e =
    let c = x.connection in
    let at : present c (world s history) ≡ Some x = only e in
    let lt : c < connection_limit = r.below c (sym (r.tracks c) ∙ has_row s machine rows before history r c ∙ ap is_there at) in
    waits_there s (λ k. 0) (world s history) machine c lt r.stands ∙ ap out_now at

all_wait : (s : Setting) (machine : Machine) (rows : List RowState) (before : List ℕ) (history : History) (lives : List Life)
    → Runs s machine rows before history → AllByRecursion (IsOnly (world s history).lives) lives → AllByRecursion (IsWaiting machine) lives
all_wait s machine rows before history [] r h = tt
all_wait s machine rows before history (x ∷ lives) r h = (life_waits s machine rows before history x r h.0, all_wait s machine rows before history lives r h.1)

waiting : (s : Setting) (machine : Machine) (rows : List RowState) (before : List ℕ) (history : History) → Runs s machine rows before history
    → AllByRecursion (IsWaiting machine) (world s history).lives
waiting s machine rows before history r = all_wait s machine rows before history _ r (all_only _ (subst AreDistinct r.kept r.distinct))

-- ---- the history ends

finish_one : (machine : Machine) (x : Life) → IsWaiting machine x → (finished machine (row_of x)).bytes ≡ out_of x
finish_one machine x waits = grind arith

finish_all : (machine : Machine) (lives : List Life) → AllByRecursion (IsWaiting machine) lives
    → map (λ (row : RowState). (finished machine row).bytes) (map row_of lives) ≡ map out_of lives
finish_all machine [] h = refl
finish_all machine (x ∷ lives) h = cc (finish_one machine x h.0, finish_all machine lives h.1)

pub finished_outputs : (s : Setting) (machine : Machine) (rows : List RowState) (before : List ℕ) (history : History)
    → Runs s machine rows before history → map (λ (row : RowState). (finished machine row).bytes) rows ≡ outputs s history
unfolding outputs
finished_outputs s machine rows before history r = ap (map (λ (row : RowState). (finished machine row).bytes)) r.kept
    ∙ finish_all machine (world s history).lives (waiting s machine rows before history r)

-- ---- which events may come

open_in : (directory : KnownTargets) (sent : ℕ) (half : List ℕ) (c : ℕ) (w : World) (o : Option Life) → present c w ≡ o
    → not (is_free (link_of directory sent half o).phase) ≡ is_there o
open_in directory sent half c w o e = grind (arith, present_open)

is_open : (s : Setting) (machine : Machine) (rows : List RowState) (before : List ℕ) (history : History) (c : ℕ)
    → Runs s machine rows before history → c < connection_limit → is_open_at machine c ≡ is_among c before
is_open s machine rows before history c r lt =
    ap (λ (l : LinkState). not (is_free l.phase)) (link_stands s (λ k. 0) (world s history) machine c lt r.stands)
    ∙ open_in s.directory 0 (halves_of (world s history) c) c (world s history) (present c (world s history)) refl
    ∙ sym (has_row s machine rows before history r c) ∙ r.tracks c

-- ---- the beginning

pub new_runs : (s : Setting) (machine : Machine) → Stands s (λ k. 0) machine [] → Runs s machine [] [] []
unfolding world
new_runs s machine h = record { stands = h; kept = refl; distinct = tt; tracks = λ c. refl; below = λ c e. absurd cc }

-- ---- a connection opens

none_sent : (c d : ℕ) → with_sent (λ k. 0) c 0 d ≡ 0
none_sent c d = grind arith

free_more : (c : ℕ) (o : Option ℕ) (rows : List RowState) → is_on c o ≡ false → IsFree o rows → IsFree o (rows ++ open_row c ∷ [])
free_more c o rows differ free = grind (arith, list_any-append)

distinct_more : (c : ℕ) (rows : List RowState) → has c rows ≡ false → AreDistinct rows → AreDistinct (rows ++ open_row c ∷ [])
distinct_more c [] none d = (refl, tt)
distinct_more c (row ∷ rows) none d =
    (free_more c row.connection rows (grind arith) d.0, distinct_more c rows (grind arith) d.1)

pub below_more : (c : ℕ) (before : List ℕ) → c < connection_limit → ((d : ℕ) → is_among d before ≡ true → d < connection_limit) → (d : ℕ)
    → is_among d (c ∷ before) ≡ true → d < connection_limit
below_more c before lt below d e = grind arith

pub open_runs : (s : Setting) (machine after : Machine) (rows : List RowState) (before : List ℕ) (history : History) (c : ℕ)
    → Runs s machine rows before history → MayCome machine (Open c) → Stands s (with_sent (λ k. 0) c 0) after (history ++ plain (Open c) ∷ [])
    → Runs s after (rows ++ open_row c ∷ []) (c ∷ before) (history ++ plain (Open c) ∷ [])
open_runs s machine after rows before history c r may h =
    let w = world s history in
    let none : has c rows ≡ false = r.tracks c ∙ sym (is_open s machine rows before history c r may.0) ∙ may.1 in
    record {
      stands = stands_sent s (with_sent (λ k. 0) c 0) (λ k. 0) after _ (λ d lt. none_sent c d) h;
      kept = grind (arith, map-append, world-push);
      distinct = distinct_more c rows none r.distinct;
      tracks = grind (arith, list_any-append);
      below = below_more c before may.0 r.below;
    }

-- ---- and brings bytes

pub bytes_runs : (s : Setting) (machine after : Machine) (rows : List RowState) (before : List ℕ) (history : History) (comings : List Coming) (c : ℕ)
    (piece : List ℕ)
    → Runs s machine rows before history → Stands s (λ k. 0) after (history ++ happening [] comings (Bytes c piece) ∷ [])
    → Runs s after rows before (history ++ happening [] comings (Bytes c piece) ∷ [])
bytes_runs s machine after rows before history comings c piece r h = grind (arith, rows-bring, world-push)

-- ---- and ends

out-over : (x : Life) → out_of (ended_in Over x) ≡ out_of x
out-over x = out-ended x Over refl

-- a life that is present is over then, and one that is not stays as it is
end_one : (machine : Machine) (c : ℕ) (x : Life) → IsWaiting machine x → ended machine c (row_of x) ≡ row_of (over c x)
end_one machine c x waits = grind (arith, out-over x)

end_all : (machine : Machine) (c : ℕ) (lives : List Life) → AllByRecursion (IsWaiting machine) lives
    → map (ended machine c) (map row_of lives) ≡ map row_of (map (over c) lives)
end_all machine c [] h = refl
end_all machine c (x ∷ lives) h = cc (end_one machine c x h.0, end_all machine c lives h.1)

row_not : (machine : Machine) (c : ℕ) (row : RowState) → is_on c (ended machine c row).connection ≡ false
row_not machine c row = grind arith

row_other : (machine : Machine) (c d : ℕ) (row : RowState) → d ≢ c → is_on d (ended machine c row).connection ≡ is_on d row.connection
row_other machine c d row differ = grind arith

has-ended : (machine : Machine) (c : ℕ) (rows : List RowState) → has c (map (ended machine c) rows) ≡ false
has-ended machine c [] = refl
has-ended machine c (row ∷ rows) = rw (row_not machine c row) (has-ended machine c rows)

has-ended_other : (machine : Machine) (c d : ℕ) (rows : List RowState) → d ≢ c → has d (map (ended machine c) rows) ≡ has d rows
has-ended_other machine c d [] differ = refl
has-ended_other machine c d (row ∷ rows) differ = rw (row_other machine c d row differ, has-ended_other machine c d rows differ) refl

distinct_ended : (machine : Machine) (c : ℕ) (rows : List RowState) → AreDistinct rows → AreDistinct (map (ended machine c) rows)
distinct_ended machine c [] d = tt
distinct_ended machine c (row ∷ rows) d = grind (arith, has-ended_other, distinct_ended machine c rows d.1)

rows-end : (c : ℕ) (w : World) → rows_in (end c w) ≡ map row_of (map (over c) w.lives)
unfolding end
rows-end c w = refl

pub gone_runs : (s : Setting) (machine after : Machine) (rows : List RowState) (before : List ℕ) (history : History) (c : ℕ)
    → Runs s machine rows before history → Stands s (with_sent (λ k. 0) c 0) after (history ++ plain (Gone c) ∷ [])
    → Runs s after (map (ended machine c) rows) (open_after before (Gone c)) (history ++ plain (Gone c) ∷ [])
unfolding end
gone_runs s machine after rows before history c r h =
    let w = world s history in
    record {
      stands = stands_sent s (with_sent (λ k. 0) c 0) (λ k. 0) after _ (λ d lt. none_sent c d) h;
      kept =
          ap (map (ended machine c)) r.kept
          ∙ end_all machine c w.lives (waiting s machine rows before history r)
          ∙ sym (rows-end c w)
          ∙ ap rows_in (sym (world-push s history (plain (Gone c))));
      distinct = distinct_ended machine c rows r.distinct;
      tracks = λ d. elim (eqb_tells d c) [
        | inl same ↦ rw same.1 (has-ended machine c rows ∙ sym (among-gone c before))
        | inr differ ↦ has-ended_other machine c d rows differ.1 ∙ r.tracks d ∙ sym (among-gone_other d c before differ.1)
      ];
      below = λ d e. elim (eqb_tells d c) [
        | inl same ↦ absurd (cc (e, ap (λ (k : ℕ). is_among k (open_after before (Gone c))) same.1, among-gone c before))
        | inr differ ↦ r.below d (sym (among-gone_other d c before differ.1) ∙ e)
      ];
    }
