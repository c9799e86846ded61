-- The rows as the code goes through them, and its events.
use Rattle.std.proofs.Common.{◌≡◌, ℕ, ◌+◌, ◌<◌, List, [], ◌∷◌, ◌++◌, length, map, take, drop, set, get_or, ◌&&◌, refl, sym, ap, ◌∙◌, drop-cons, add-one, arith, Vec, Global}
use mathlib.Core.List.{map-map}
use Rattle.std.proofs.Math.Seq.{take-append_seam}
use Rattle.std.proofs.lemmas.List.{length-map, map-append, map-set, get_or-map, take_more}
use Rattle.iscsi_world.specs.History.{plain, may_come, open_after, may_follow}
use Rattle.iscsi_target.specs.Events.{event_view, events_view, plain_history}
use Rattle.iscsi_world.specs.Runs.{RowState}
use Rattle.iscsi_target.specs.Rows.{seen}
use Rattle.iscsi_target.specs.declared.event.Event.{Event}
use Rattle.iscsi_target.specs.declared.run.Row.{Row}
use Rattle.iscsi_world.proofs.Lists.{map_over_next}

-- a loop that makes f of each row, at the next of them
pub rows_next : (f : RowState → RowState) (rows initial : List Row) (i : ℕ) (item after : Row) → length rows ≡ length initial → i < length rows
    → seen after ≡ f (seen (get_or rows i item))
    → map seen rows ≡ map f (take i (map seen initial)) ++ drop i (map seen initial)
    → map seen (set rows i after) ≡ map f (take (i + 1) (map seen initial)) ++ drop (i + 1) (map seen initial)
rows_next f rows initial i item after len lt made e =
    map-set seen rows i after
    ∙ ap (set (map seen rows) i) (made ∙ ap f (sym (get_or-map seen rows i item (seen item) lt)))
    ∙ map_over_next f (map seen initial) (map seen rows) i (seen item) (length-map rows seen ∙ len ∙ sym (length-map initial seen))
    (omega (arith, length-map initial seen)) e

-- the bytes of the rows, after f
pub bytes_after : (f : RowState → RowState) (rows after : List Row) → map seen after ≡ map f (map seen rows)
    → map (λ (output : Vec ℕ Global). output.items) (map (λ (row : Row). row.bytes) after) ≡ map (λ (row : RowState). (f row).bytes) (map seen rows)
bytes_after f rows after e =
    map-map (λ (output : Vec ℕ Global). output.items) (λ (row : Row). row.bytes) after
    ∙ sym (map-map (λ (row : RowState). row.bytes) seen after)
    ∙ ap (map (λ (row : RowState). row.bytes)) e
    ∙ map-map (λ (row : RowState). row.bytes) f (map seen rows)

-- a slice of all the rows is written
pub all_written : (after before : List Row) (n : ℕ) → length after ≡ length before → n ≡ length before → take n (after ++ drop (length after) before) ≡ after
all_written after before n len is = ap (λ (k : ℕ). take k (after ++ drop (length after) before)) (is ∙ sym len)
    ∙ take-append_seam after (drop (length after) before)

-- one more event
pub history_more : (es : List Event) (i : ℕ) (e : Event) → i < length es → e ≡ get_or es i e
    → plain_history (take (i + 1) es) ≡ plain_history (take i es) ++ plain (event_view e) ∷ []
history_more es i e lt is =
    ap plain_history (take_more es i e lt)
    ∙ ap (map plain) (map-append event_view (take i es) (get_or es i e ∷ []))
    ∙ map-append plain (events_view (take i es)) _
    ∙ ap (λ (x : Event). plain_history (take i es) ++ plain (event_view x) ∷ []) (sym is)

pub events_more : (es : List Event) (i : ℕ) (e : Event) → i < length es → e ≡ get_or es i e
    → events_view (take (i + 1) es) ≡ events_view (take i es) ++ event_view e ∷ []
events_more es i e lt is =
    ap events_view (take_more es i e lt) ∙ map-append event_view (take i es) (get_or es i e ∷ [])
    ∙ ap (λ (x : Event). events_view (take i es) ++ event_view x ∷ []) (sym is)

-- ---- the events that are left

-- the next of them
next_event : (es : List Event) (i : ℕ) (e : Event) → i < length es → e ≡ get_or es i e → events_view (drop i es) ≡ event_view e ∷ events_view (drop (i + 1) es)
next_event es i e lt is =
    let cut : drop i es ≡ get_or es i e ∷ drop (i + 1) es = rw (add-one, drop-cons es i e) refl in
    ap events_view cut ∙ ap (λ (x : Event). event_view x ∷ events_view (drop (i + 1) es)) (sym is)

pub follows : (es : List Event) (i : ℕ) (e : Event) (before : List ℕ) → i < length es → e ≡ get_or es i e
    → may_follow before (events_view (drop i es)) ≡ (may_come before (event_view e)
    && may_follow (open_after before (event_view e)) (events_view (drop (i + 1) es)))
follows es i e before lt is = ap (may_follow before) (next_event es i e lt is)
