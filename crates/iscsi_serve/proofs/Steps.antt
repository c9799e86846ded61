-- Each thing that the ports tell keeps the loop's promise.
use Rattle.std.proofs.Common.{◌≡◌, ℕ, ◌+◌, ◌<◌, List, [], ◌∷◌, ◌++◌, length, drop, map, true, Option, Some, None, refl, sym, ap, ◌∙◌, subst, inl, inr, append_assoc, append-nil}
use Rattle.std.specs.Prelude.{find}
use Rattle.std.proofs.lemmas.Bool.Decides.{eqb_tells}
use Rattle.std.proofs.lemmas.Grind.{flat_map-append}
use Rattle.std.proofs.lemmas.List.{map-append, length-append}
use Rattle.std.proofs.lemmas.List.Sums.{fold-append}
use Rattle.std.proofs.Math.Seq.{drop-append_seam}
use Rattle.iscsi_session.specs.Comings.{Coming}
use Rattle.iscsi_target.specs.History as history
use Rattle.iscsi_target.specs.History.{Event, Happening, History, Mark, happening, plain, connection_limit}
use Rattle.iscsi_target.specs.Life.{Life, born, out_of}
use Rattle.iscsi_target.specs.World.{Setting, World, is_present, present, over, end, world}
use Rattle.iscsi_target.specs.Output.{out_now}
use Rattle.iscsi_target.specs.Machine.{Machine, link_at, new_machine}
use Rattle.iscsi_target.specs.Stands.{Stands, with_sent}
use Rattle.iscsi_target.proofs.Choices.{cond_true}
use Rattle.iscsi_target.proofs.Keeping.{world-push, answers_stay}
use Rattle.iscsi_target.proofs.Standing.{new_stands, waits_there, stands_sent, sent_here, sent_there}
use Rattle.target_limits.specs.Numbers.{is_number}
use Rattle.iscsi_ports.specs.Log.{Bytes, Entry, Open, Read, Wrote, Close, Written, nothing_written, is_on, closed_row, written_after, written, bytes_in, written_on}
use Rattle.iscsi_serve.specs.Events.{event_of, events}
use Rattle.iscsi_serve.specs.Served.{IsFront, AreFronts, IsServed, NewIsServed}
use Rattle.iscsi_serve.proofs.Rows.{AreBeside, HasMore, with_piece, found, fronts_more, found_more, nothing_in, fronts_go, fronts_wrote, wrote_here, wrote_there, fronts_closed, none_closed, other_closed}

-- ---- one more entry

written-push : (log : List Entry) (entry : Entry) → written (log ++ entry ∷ []) ≡ written_after (written log) entry
unfolding written
written-push log entry = fold-append written_after [] log (entry ∷ [])

events-push : (log : List Entry) (entry : Entry) → events (log ++ entry ∷ []) ≡ events log ++ event_of entry
events-push log entry = flat_map-append event_of log (entry ∷ []) ∙ ap (λ (es : List Event). events log ++ es) (append-nil (event_of entry))

abbrev pub sent_by : List Entry → ℕ → ℕ
sent_by log c = length (written_on c log)

on-push : (c : ℕ) (log : List Entry) (entry : Entry) → written_on c (log ++ entry ∷ []) ≡ bytes_in (find (is_on c) (written_after (written log) entry))
unfolding written_on
on-push c log entry = ap (λ (rows : List Written). bytes_in (find (is_on c) rows)) (written-push log entry)

on-is : (c : ℕ) (log : List Entry) → written_on c log ≡ bytes_in (find (is_on c) (written log))
unfolding written_on
on-is c log = refl

-- ---- what waits

waits_in : (o : Option Written) (life : Option Life) → AreBeside o life → bytes_in o ++ drop (length (bytes_in o)) (out_now life) ≡ out_now life
waits_in None None h = refl
waits_in None (Some life) h = absurd h
waits_in (Some row) None h = absurd h
waits_in (Some row) (Some life) h =
    ap (λ (out : List ℕ). row.bytes ++ drop (length row.bytes) out) h.front.1
    ∙ ap (λ (more : List ℕ). row.bytes ++ more) (drop-append_seam row.bytes h.front.0)
    ∙ sym h.front.1

beside : (c : ℕ) (s : Setting) (h : History) (log : List Entry) → AreFronts (written log) (world s h).lives
    → AreBeside (find (is_on c) (written log)) (present c (world s h))
unfolding present
beside c s h log fronts = found c (written log) (world s h).lives fronts

served : (s : Setting) (h : History) (log : List Entry) (target : Machine) → map (λ (x : Happening). x.event) h ≡ events log
    → Stands s (sent_by log) target h → AreFronts (written log) (world s h).lives → IsServed s h log target
served s h log target es stands fronts = record {
  events = es;
  stands = stands;
  fronts = fronts;
  waits = λ c lt.
      ap (λ (waiting : List ℕ). written_on c log ++ waiting) (waits_there s (sent_by log) (world s h) target c lt stands)
      ∙ ap (λ (bytes : List ℕ). bytes ++ drop (length bytes) (out_now (present c (world s h)))) (on-is c log)
      ∙ waits_in (find (is_on c) (written log)) (present c (world s h)) (beside c s h log fronts);
}

-- the same with as many bytes sent
stands_by : (s : Setting) (sent : ℕ → ℕ) (log : List Entry) (target : Machine) (h : History)
    → ((d : ℕ) → d < connection_limit → sent d ≡ sent_by log d) → Stands s sent target h → Stands s (sent_by log) target h
stands_by s sent log target h same stands = stands_sent s sent (sent_by log) target h same stands

-- the history with one more
happened_more : (h : History) (log : List Entry) (entry : Entry) (x : Happening) → map (λ (x : Happening). x.event) h ≡ events log
    → event_of entry ≡ x.event ∷ [] → map (λ (x : Happening). x.event) (h ++ x ∷ []) ≡ events (log ++ entry ∷ [])
happened_more h log entry x es e =
    map-append (λ (x : Happening). x.event) h (x ∷ []) ∙ ap (λ (all : List Event). all ++ x.event ∷ []) es
    ∙ ap (λ (more : List Event). events log ++ more) (sym e) ∙ sym (events-push log entry)

-- ---- a new target

nothing_on : (c : ℕ) (log : List Entry) → written log ≡ [] → 0 ≡ sent_by log c
nothing_on c log none = sym (ap length (on-is c log) ∙ ap (λ (rows : List Written). length (bytes_in (find (is_on c) rows))) none)

pub new_served : NewIsServed
unfolding world
new_served s log no_events none =
    let target = new_machine s.directory s.units in
    served s [] log target (sym no_events) (stands_by s (λ c. 0) log target [] (λ c lt. nothing_on c log none) (new_stands s))
    (subst (λ (rows : List Written). AreFronts rows (world s []).lives) (sym none) tt)

-- ---- nothing happened, and nothing was written

pub told_served : (s : Setting) (h : History) (log : List Entry) (target : Machine) (entry : Entry) → event_of entry ≡ []
    → ((rows : List Written) → written_after rows entry ≡ rows) → IsServed s h log target → IsServed s h (log ++ entry ∷ []) target
told_served s h log target entry none quiet v =
    let rows : written (log ++ entry ∷ []) ≡ written log = written-push log entry ∙ quiet (written log) in
    let same : (d : ℕ) → sent_by log d ≡ sent_by (log ++ entry ∷ []) d = λ d.
    ap length (on-is d log ∙ ap (λ (rows : List Written). bytes_in (find (is_on d) rows)) (sym (quiet (written log))) ∙ sym (on-push d log entry)) in
    served s h (log ++ entry ∷ []) target
    (v.events ∙ sym (append-nil (events log)) ∙ ap (λ (more : List Event). events log ++ more) (sym none) ∙ sym (events-push log entry))
    (stands_by s (sent_by log) (log ++ entry ∷ []) target h (λ d lt. same d) v.stands)
    (subst (λ (rows : List Written). AreFronts rows (world s h).lives) (sym rows) v.fronts)

-- ---- a connection opens

lives-open : (s : Setting) (h : History) (c : ℕ) → (world s (h ++ plain (history.Open c) ∷ [])).lives ≡ (world s h).lives ++ born c ∷ []
lives-open s h c = ap (λ (w : World). w.lives) (world-push s h (plain (history.Open c)))

born_front : (c : ℕ) → IsFront (nothing_written c) (born c)
unfolding out_of
born_front c = record { connection = refl; closed = refl; front = ([], refl) }

none_beside : (o : Option Written) (life : Option Life) → AreBeside o life → life ≡ None → bytes_in o ≡ []
none_beside None life h e = refl
none_beside (Some row) None h e = absurd h
none_beside (Some row) (Some life) h e = absurd cc

pub open_served : (s : Setting) (h : History) (log : List Entry) (target after : Machine) (c : ℕ) → is_number c ≡ true
    → present c (world s h) ≡ None → IsServed s h log target
    → Stands s (with_sent (sent_by log) c 0) after (h ++ plain (history.Open c) ∷ []) → IsServed s (h ++ plain (history.Open c) ∷ []) (log ++ Open c ∷ []) after
open_served s h log target after c number free v stands =
    let entry : written_after (written log) (Open c) ≡ written log ++ nothing_written c ∷ [] = cond_true (is_number c) _ _ number in
    let rows : written (log ++ Open c ∷ []) ≡ written log ++ nothing_written c ∷ [] = written-push log (Open c) ∙ entry in
    let on : (d : ℕ) → written_on d (log ++ Open c ∷ []) ≡ written_on d log = λ d.
    on-push d log (Open c) ∙ ap (λ (rows : List Written). bytes_in (find (is_on d) rows)) entry
    ∙ found_more (is_on d) (written log) (nothing_written c) (nothing_in d c) ∙ sym (on-is d log) in
    let none : written_on c log ≡ [] = on-is c log ∙ none_beside (find (is_on c) (written log)) (present c (world s h)) (beside c s h log v.fronts) free in
    let same : (d : ℕ) → with_sent (sent_by log) c 0 d ≡ sent_by (log ++ Open c ∷ []) d = λ d.
    elim (eqb_tells d c) [
      | inl e ↦ rw e.1 (sent_here (sent_by log) c 0 ∙ ap length (sym (on c ∙ none)))
      | inr differ ↦ sent_there (sent_by log) c 0 d differ.1 ∙ ap length (sym (on d))
    ] in
    served s (h ++ plain (history.Open c) ∷ []) (log ++ Open c ∷ []) after
    (happened_more h log (Open c) (plain (history.Open c)) v.events (cond_true (is_number c) _ _ number))
    (stands_by s (with_sent (sent_by log) c 0) (log ++ Open c ∷ []) after (h ++ plain (history.Open c) ∷ []) (λ d lt. same d) stands)
    (subst (λ (rows : List Written). AreFronts rows (world s (h ++ plain (history.Open c) ∷ [])).lives) (sym rows)
    (subst (AreFronts (written log ++ nothing_written c ∷ [])) (sym (lives-open s h c))
    (fronts_more (written log) (world s h).lives (nothing_written c) (born c) v.fronts (born_front c))))

-- ---- bytes come

pub read_served : (s : Setting) (h : History) (log : List Entry) (target after : Machine) (c room byte : ℕ) (piece : List ℕ) (marks : List Mark)
    (comings : List Coming) → IsServed s h log target
    → Stands s (sent_by log) after (h ++ happening marks comings (history.Bytes c (byte ∷ piece)) ∷ [])
    → IsServed s (h ++ happening marks comings (history.Bytes c (byte ∷ piece)) ∷ []) (log ++ Read c room (Bytes (byte ∷ piece)) ∷ []) after
read_served s h log target after c room byte piece marks comings v stands =
    let x : Happening = happening marks comings (history.Bytes c (byte ∷ piece)) in
    let entry : Entry = Read c room (Bytes (byte ∷ piece)) in
    let same : (d : ℕ) → sent_by log d ≡ sent_by (log ++ entry ∷ []) d = λ d. ap length (on-is d log ∙ sym (on-push d log entry)) in
    served s (h ++ x ∷ []) (log ++ entry ∷ []) after
    (happened_more h log entry x v.events refl)
    (stands_by s (sent_by log) (log ++ entry ∷ []) after (h ++ x ∷ []) (λ d lt. same d) stands)
    (subst (λ (rows : List Written). AreFronts rows (world s (h ++ x ∷ [])).lives) (sym (written-push log entry))
    (fronts_go (written log) (world s h).lives (world s (h ++ x ∷ [])).lives v.fronts (answers_stay s h marks comings c (byte ∷ piece))))

-- ---- bytes are written

more_beside : (piece more : List ℕ) (o : Option Written) (life : Option Life) → AreBeside o life → bytes_in o ++ (piece ++ more) ≡ out_now life
    → HasMore piece o life
more_beside piece more None life h e = tt
more_beside piece more (Some row) None h e = tt
more_beside piece more (Some row) (Some life) h e = (more, sym e ∙ sym (append_assoc row.bytes piece more))

more_now : (c : ℕ) (s : Setting) (h : History) (piece more : List ℕ) (log : List Entry) → bytes_in (find (is_on c) (written log))
    ++ (piece ++ more) ≡ out_now (present c (world s h))
    → AreBeside (find (is_on c) (written log)) (present c (world s h)) → HasMore piece (find (is_on c) (written log)) (find (is_present c) (world s h).lives)
unfolding present
more_now c s h piece more log whole near = more_beside piece more (find (is_on c) (written log)) (find (is_present c) (world s h).lives) near whole

piece_count : (piece : List ℕ) (o : Option Written) (life : Life) → AreBeside o (Some life) → length (with_piece piece o) ≡ length (bytes_in o) + length piece
piece_count piece None life h = absurd h
piece_count piece (Some row) life h = length-append row.bytes piece

pub wrote_served : (s : Setting) (h : History) (log : List Entry) (target after : Machine) (c offered : ℕ) (piece more : List ℕ) (life : Life)
    → c < connection_limit → present c (world s h) ≡ Some life → (link_at target c).waiting ≡ piece ++ more → IsServed s h log target
    → Stands s (with_sent (sent_by log) c (sent_by log c + length piece)) after h → IsServed s h (log ++ Wrote c offered (Bytes piece) ∷ []) after
wrote_served s h log target after c offered piece more life lt there waiting v stands =
    let entry : Entry = Wrote c offered (Bytes piece) in
    let near : AreBeside (find (is_on c) (written log)) (present c (world s h)) = beside c s h log v.fronts in
    let whole : bytes_in (find (is_on c) (written log)) ++ (piece ++ more) ≡ out_now (present c (world s h)) =
    ap (λ (bytes : List ℕ). bytes ++ (piece ++ more)) (sym (on-is c log)) ∙ ap (λ (waiting : List ℕ). written_on c log ++ waiting) (sym waiting)
    ∙ v.waits c lt in
    let count : length (with_piece piece (find (is_on c) (written log))) ≡ length (bytes_in (find (is_on c) (written log))) + length piece =
    piece_count piece (find (is_on c) (written log)) life (subst (AreBeside (find (is_on c) (written log))) there near) in
    let same : (d : ℕ) → with_sent (sent_by log) c (sent_by log c + length piece) d ≡ sent_by (log ++ entry ∷ []) d = λ d.
    elim (eqb_tells d c) [
      | inl e ↦
          rw e.1 (sent_here (sent_by log) c (sent_by log c + length piece) ∙ ap (λ (bytes : List ℕ). length bytes + length piece) (on-is c log)
          ∙ sym count ∙ ap length (sym (wrote_here c piece (written log))) ∙ ap length (sym (on-push c log entry)))
      | inr differ ↦
          sent_there (sent_by log) c (sent_by log c + length piece) d differ.1
          ∙ ap length (on-is d log ∙ sym (wrote_there c d piece (written log) differ.1) ∙ sym (on-push d log entry))
    ] in
    served s h (log ++ entry ∷ []) after
    (v.events ∙ sym (append-nil (events log)) ∙ sym (events-push log entry))
    (stands_by s (with_sent (sent_by log) c (sent_by log c + length piece)) (log ++ entry ∷ []) after h (λ d below. same d) stands)
    (subst (λ (rows : List Written). AreFronts rows (world s h).lives) (sym (written-push log entry))
    (fronts_wrote c piece (written log) (world s h).lives v.fronts (more_now c s h piece more log whole near)))

-- ---- a connection ends

lives-gone : (s : Setting) (h : History) (c : ℕ) → (world s (h ++ plain (history.Gone c) ∷ [])).lives ≡ map (over c) (world s h).lives
unfolding end
lives-gone s h c = ap (λ (w : World). w.lives) (world-push s h (plain (history.Gone c)))

pub close_served : (s : Setting) (h : History) (log : List Entry) (target after : Machine) (c : ℕ) → is_number c ≡ true → IsServed s h log target
    → Stands s (with_sent (sent_by log) c 0) after (h ++ plain (history.Gone c) ∷ [])
    → IsServed s (h ++ plain (history.Gone c) ∷ []) (log ++ Close c ∷ []) after
close_served s h log target after c number v stands =
    let entry : written_after (written log) (Close c) ≡ map (closed_row c) (written log) = cond_true (is_number c) _ _ number in
    let rows : written (log ++ Close c ∷ []) ≡ map (closed_row c) (written log) = written-push log (Close c) ∙ entry in
    let on : (d : ℕ) → written_on d (log ++ Close c ∷ []) ≡ bytes_in (find (is_on d) (map (closed_row c) (written log))) = λ d.
    on-push d log (Close c) ∙ ap (λ (rows : List Written). bytes_in (find (is_on d) rows)) entry in
    let same : (d : ℕ) → with_sent (sent_by log) c 0 d ≡ sent_by (log ++ Close c ∷ []) d = λ d.
    elim (eqb_tells d c) [
      | inl e ↦ rw e.1 (sent_here (sent_by log) c 0 ∙ ap (λ (o : Option Written). length (bytes_in o)) (sym (none_closed c (written log)))
          ∙ ap length (sym (on c)))
      | inr differ ↦ sent_there (sent_by log) c 0 d differ.1 ∙ ap length (on-is d log ∙ sym (other_closed c d (written log) differ.1) ∙ sym (on d))
    ] in
    served s (h ++ plain (history.Gone c) ∷ []) (log ++ Close c ∷ []) after
    (happened_more h log (Close c) (plain (history.Gone c)) v.events (cond_true (is_number c) _ _ number))
    (stands_by s (with_sent (sent_by log) c 0) (log ++ Close c ∷ []) after (h ++ plain (history.Gone c) ∷ []) (λ d lt. same d) stands)
    (subst (λ (rows : List Written). AreFronts rows (world s (h ++ plain (history.Gone c) ∷ [])).lives) (sym rows)
    (subst (AreFronts (map (closed_row c) (written log))) (sym (lives-gone s h c)) (fronts_closed c (written log) (world s h).lives v.fronts)))
