-- What each step keeps: a target stays served, by what may happen to it.
use Rattle.std.proofs.Common.{◌≡◌, ℕ, ◌+◌, ◌<◌, ◌≤◌, List, [], ◌∷◌, ◌++◌, length, take, drop, Bool, true, false, refl, sym, ap, ◌∙◌, subst, inl, inr, arith, append_assoc, append-nil}
use Rattle.std.proofs.lemmas.Bool.{lt-ltb}
use Rattle.std.proofs.lemmas.Bool.Decides.{eqb_tells}
use Rattle.std.proofs.lemmas.List.{length-take-le, take-append-drop}
use Rattle.std.specs.List.{range_with_len}
use Rattle.iscsi_target.specs.History as history
use Rattle.iscsi_target.specs.History.{Event, Happening, History, happening, plain, connection_limit}
use Rattle.iscsi_target.specs.World.{Setting, World, world}
use Rattle.iscsi_target.specs.Machine.{Machine, ReflectsSoundness, link_at, is_open_at, new_machine}
use Rattle.iscsi_target.specs.Stands.{Stands, with_sent}
use Rattle.iscsi_target.proofs.Reflected.{sound_back}
use Rattle.iscsi_target.proofs.Standing.{is_open_there, is_free_there, stands_sent, sent_here, sent_there}
use Rattle.iscsi_ports.specs.Log.{Bytes, Entry, Open, Read, Wrote, Close, Written, written_after, written}
use Rattle.iscsi_serve.specs.Events.{event_of, events}
use Rattle.iscsi_serve.specs.Served.{IsServed, IsFed, MayFollow, MayHappen, MayComeOut, Stays, ComesOutServed, HasBeenServed}
use Rattle.iscsi_serve.specs.Turn.{Moment, InOrder}
use Rattle.iscsi_serve.specs.Progress.{StandsFed, Keeps, StepsBy}
use Rattle.iscsi_serve.proofs.Fronts.{offered_front}
use Rattle.iscsi_serve.proofs.Moments.{along_next}
use Rattle.iscsi_serve.proofs.Steps.{sent_by, new_served, told_served, open_served, read_served, wrote_served, close_served}

-- ---- numbers of bytes that were sent

none_sent : (sent : ℕ → ℕ) (c : ℕ) → sent c + 0 ≡ sent c
none_sent sent c = omega arith

same_sent : (sent : ℕ → ℕ) (c d : ℕ) → sent d ≡ with_sent sent c (sent c + 0) d
same_sent sent c d = elim (eqb_tells d c) [
  | inl e ↦ rw e.1 (sym (sent_here sent c (sent c + 0) ∙ none_sent sent c))
  | inr differ ↦ sym (sent_there sent c (sent c + 0) d differ.1)
]

-- ---- one step after the other, where this may happen

module _ (May : Setting → World → Happening → Type 0) where
  follow-append : (s : Setting) (h more others : History) → MayFollow May s h more → MayFollow May s (h ++ more) others → MayFollow May s h (more ++ others)
  follow-append s h [] others first second = subst (λ (h : History). MayFollow May s h others) (append-nil h) second
  follow-append s h (x ∷ more) others first second = (
    first.0,
    follow-append s (h ++ x ∷ []) more others first.1
        (subst (λ (h : History). MayFollow May s h others) (sym (append_assoc h (x ∷ []) more)) second),
  )

  nothing_more : (s : Setting) (h : History) (log : List Entry) (target : Machine) → IsServed s h log target
      → (more : History) × MayFollow May s h more × IsServed s (h ++ more) log target
  nothing_more s h log target v = ([], tt, subst (λ (h : History). IsServed s h log target) (sym (append-nil h)) v)

  pub stays_same : (log : List Entry) (target : Machine) → Stays May log log target target
  stays_same log target = λ s h v. nothing_more s h log target v

  stays_then : (log middle log_then : List Entry) (target after target_then : Machine)
      → Stays May log middle target after → Stays May middle log_then after target_then → Stays May log log_then target target_then
  stays_then log middle log_then target after target_then first second = λ s h v.
      (let one = first s h v in
      let two = second s (h ++ one.0) one.2 in (
        one.0 ++ two.0,
        follow-append s h one.0 two.0 one.1 two.1,
        subst (λ (h : History). IsServed s h log_then target_then) (append_assoc h one.0 two.0) two.2,
      ))

  -- what stays served from a new target on has been served
  pub been_served : (s : Setting) (log log_then : List Entry) (target_then : Machine) → events log ≡ [] → written log ≡ []
      → Stays May log log_then (new_machine s.directory s.units) target_then → HasBeenServed May s log_then target_then
  been_served s log log_then target_then no_events none stays =
      let now = stays s [] (new_served s log no_events none) in record { history = now.0; follows = now.1; served = now.2 }

  -- the ports told something that is no event
  stays_told : (log log_then : List Entry) (target : Machine) (entry : Entry) → event_of entry ≡ []
      → ((rows : List Written) → written_after rows entry ≡ rows) → log_then ≡ log ++ entry ∷ [] → Stays May log log_then target target
  stays_told log log_then target entry none silent e = λ s h v.
      nothing_more s h log_then target (subst (λ (log : List Entry). IsServed s h log target) (sym e) (told_served s h log target entry none silent v))

  -- one thing happened to the target
  stays_more : (log log_then : List Entry) (target after : Machine) (entry : Entry) → log_then ≡ log ++ entry ∷ []
      → ((s : Setting) (h : History) → IsServed s h log target
      → (x : Happening) × May s (world s h) x × IsServed s (h ++ x ∷ []) (log ++ entry ∷ []) after) → Stays May log log_then target after
  stays_more log log_then target after entry e one = λ s h v.
      (let x = one s h v in (x.0 ∷ [], (x.1, tt), subst (λ (log : List Entry). IsServed s (h ++ x.0 ∷ []) log after) (sym e) x.2))

  -- a connection opened
  pub open_stays : (log log_then : List Entry) (target after : Machine) (c : ℕ) → ((s : Setting) (w : World) → May s w (plain (history.Open c)))
      → c < connection_limit → is_open_at target c ≡ false → log_then ≡ log ++ Open c ∷ []
      → ((s : Setting) (sent : ℕ → ℕ) (h : History) → Stands s sent target h → Stands s (with_sent sent c 0) after (h ++ plain (history.Open c) ∷ []))
      → Stays May log log_then target after
  open_stays log log_then target after c may lt is_free e stands = stays_more log log_then target after (Open c) e (λ s h v.
      (let none = is_free_there s (sent_by log) (world s h) target c lt v.stands is_free in (
        plain (history.Open c),
        may s (world s h),
        open_served s h log target after c (lt-ltb c connection_limit lt) none v (stands s (sent_by log) h v.stands),
      )))

  -- a piece was fed
  read_one_stays : (log log_then : List Entry) (target after : Machine) (c room byte : ℕ) (piece : List ℕ)
      → log_then ≡ log ++ Read c room (Bytes (byte ∷ piece)) ∷ [] → StandsFed May c (byte ∷ piece) target after → Stays May log log_then target after
  read_one_stays log log_then target after c room byte piece e stands =
      stays_more log log_then target after (Read c room (Bytes (byte ∷ piece))) e (λ s h v.
      (let fed = stands s (sent_by log) h v.stands in (
        happening fed.0 fed.1 (history.Bytes c (byte ∷ piece)),
        fed.2,
        read_served s h log target after c room byte piece fed.0 fed.1 v fed.3,
      )))

  pub read_stays : (log log_then : List Entry) (target after : Machine) (c room : ℕ) (piece : List ℕ) → 0 < length piece
      → log_then ≡ log ++ Read c room (Bytes piece) ∷ [] → StandsFed May c piece target after → Stays May log log_then target after
  read_stays log log_then target after c room [] some e stands = absurd (omega (arith, some))
  read_stays log log_then target after c room (byte ∷ piece) some e stands = read_one_stays log log_then target after c room byte piece e stands

  -- a front of what waits was written
  pub write_stays : (log log_then : List Entry) (target after : Machine) (c n : ℕ) (offered : List ℕ) → c < connection_limit
      → is_open_at target c ≡ true → offered ≡ take (length offered) (link_at target c).waiting → n ≤ length offered
      → log_then ≡ log ++ Wrote c (length offered) (Bytes (take n offered)) ∷ []
      → ((s : Setting) (sent : ℕ → ℕ) (h : History) → Stands s sent target h → Stands s (with_sent sent c (sent c + n)) after h)
      → Stays May log log_then target after
  write_stays log log_then target after c n offered lt is_open_ front le e stands = λ s h v.
      (let piece = take n offered in
      let rest = drop (length offered) (link_at target c).waiting in
      let waiting : (link_at target c).waiting ≡ piece ++ (drop n offered ++ rest) =
      offered_front offered (link_at target c).waiting front ∙ ap (λ (xs : List ℕ). xs ++ rest) (sym (take-append-drop n offered))
      ∙ append_assoc piece (drop n offered) rest in
      let there = is_open_there s (sent_by log) (world s h) target c lt v.stands is_open_ in
      let count : n ≡ length piece = sym (length-take-le n offered le) in
      let now : IsServed s h (log ++ Wrote c (length offered) (Bytes piece) ∷ []) after =
      wrote_served s h log target after c (length offered) piece (drop n offered ++ rest) there.0 lt there.1 waiting v
      (subst (λ (n : ℕ). Stands s (with_sent (sent_by log) c (sent_by log c + n)) after h) count (stands s (sent_by log) h v.stands)) in
      nothing_more s h log_then after (subst (λ (log : List Entry). IsServed s h log after) (sym e) now))

  -- the write would have waited
  pub nothing_stays : (log log_then : List Entry) (target : Machine) (c : ℕ) (offered : List ℕ) → c < connection_limit
      → is_open_at target c ≡ true → offered ≡ take (length offered) (link_at target c).waiting → log_then ≡ log ++ Wrote c (length offered) (Bytes []) ∷ []
      → Stays May log log_then target target
  nothing_stays log log_then target c offered lt is_open_ front e =
      write_stays log log_then target target c 0 offered lt is_open_ front (omega arith) e
      (λ s sent h stands. stands_sent s sent (with_sent sent c (sent c + 0)) target h (λ d below. same_sent sent c d) stands)

  -- a connection ended
  pub close_stays : (log log_then : List Entry) (target after : Machine) (c : ℕ) → ((s : Setting) (w : World) → May s w (plain (history.Gone c)))
      → c < connection_limit → log_then ≡ log ++ Close c ∷ []
      → ((s : Setting) (sent : ℕ → ℕ) (h : History) → Stands s sent target h → Stands s (with_sent sent c 0) after (h ++ plain (history.Gone c) ∷ []))
      → Stays May log log_then target after
  close_stays log log_then target after c may lt e stands = stays_more log log_then target after (Close c) e (λ s h v.
      (plain (history.Gone c), may s (world s h), close_served s h log target after c (lt-ltb c connection_limit lt) v (stands s (sent_by log) h v.stands)))

-- ---- what may happen

pub plain_happens : (event : Event) (s : Setting) (w : World) → MayHappen s w (plain event)
plain_happens event s w = (inl refl, refl)

pub plain_comes_out : (target : Machine) (event : Event) (s : Setting) (w : World) → MayComeOut target s w (plain event)
plain_comes_out target event s w = (refl, λ number sound. tt)

-- what came out as defined where the units are sound later did so where they are sound now
comes_out_later : (s : Setting) (h more : History) (after target_then : Machine) → ReflectsSoundness after target_then
    → MayFollow (MayComeOut after) s h more → MayFollow (MayComeOut target_then) s h more
comes_out_later s h [] after target_then each follows = tt
comes_out_later s h (x ∷ more) after target_then each follows = (
  (follows.0.0, λ number sound. follows.0.1 number (each number sound)),
  comes_out_later s (h ++ x ∷ []) more after target_then each follows.1,
)

comes_out_then : (log middle log_then : List Entry) (target after target_then : Machine) → ReflectsSoundness after target_then
    → ComesOutServed log middle target after → ComesOutServed middle log_then after target_then → ComesOutServed log log_then target target_then
comes_out_then log middle log_then target after target_then each first second =
    stays_then (MayComeOut target_then) log middle log_then target after target_then
    (λ s h v. (let one = first s h v in (one.0, comes_out_later s h one.0 after target_then each one.1, one.2))) second

-- by how its commands came out
pub fed_comes_out : (c : ℕ) (piece : List ℕ) (target target_then : Machine) → IsFed c piece target target_then
    → StandsFed (MayComeOut target_then) c piece target target_then
fed_comes_out c piece target target_then fed = λ s sent h stands.
    (let k = (fed s sent h stands).1 in (k.marks, k.comings, (k.reached, k.calm), k.stands))

-- ---- what each step keeps

pub keeps_same : (tells : Bool) (log : List Entry) (target : Machine) → Keeps tells tells log log target target
keeps_same tells log target = record {
  back = λ e. e;
  each = λ number sound. sound;
  sure = λ sure. sure;
  served = λ e sound. stays_same MayHappen log target;
  came = λ e. stays_same (MayComeOut target) log target;
  bounded = λ bounded. bounded;
}

pub keeps_then : (tells between tells_then : Bool) (log middle log_then : List Entry) (target after target_then : Machine)
    → Keeps tells between log middle target after → Keeps between tells_then middle log_then after target_then → Keeps tells tells_then log log_then
    target target_then
keeps_then tells between tells_then log middle log_then target after target_then first second = record {
  back = λ e. first.back (second.back e);
  each = λ number sound. first.each number (second.each number sound);
  sure = λ sure. second.sure (first.sure sure);
  served = λ e sound.
      stays_then MayHappen log middle log_then target after target_then
      (first.served (second.back e) (sound_back after target_then second.each sound)) (second.served e sound);
  came = λ e. comes_out_then log middle log_then target after target_then second.each (first.came (second.back e)) (second.came e);
  bounded = λ bounded. second.bounded (first.bounded bounded);
}

pub none_does : (R : ℕ → Moment → Moment → Type 0) (tells : Bool) (log : List Entry) (target : Machine) (ended : List Bool)
    → StepsBy (InOrder R []) tells tells log log target target ended ended
none_does R tells log target ended = record { keeps = keeps_same tells log target; goes = λ e before turn at are. (turn, at, are, refl) }

pub one_more_does : (R : ℕ → Moment → Moment → Type 0) (c : ℕ) (tells between tells_then : Bool) (log middle log_then : List Entry)
    (target after target_then : Machine) (ended now ended_then : List Bool)
    → StepsBy (InOrder R (range_with_len 0 c)) tells between log middle target after ended now → StepsBy (R c) between tells_then middle log_then after
    target_then now ended_then
    → StepsBy (InOrder R (range_with_len 0 (c + 1))) tells tells_then log log_then target target_then ended ended_then
one_more_does R c tells between tells_then log middle log_then target after target_then ended now ended_then so_far step = record {
  keeps = keeps_then tells between tells_then log middle log_then target after target_then so_far.keeps step.keeps;
  goes = λ e before turn at are.
      (let first = so_far.goes (step.keeps.back e) before turn at are in
      let second = step.goes e before first.0 first.1 first.2 in
      (second.0, second.1, second.2, along_next R c _ _ _ first.3 second.3));
}

-- what the ports told alone
pub keeps_told : (tells tells_then : Bool) (log log_then : List Entry) (target : Machine) (entry : Entry) → event_of entry ≡ []
    → ((rows : List Written) → written_after rows entry ≡ rows)
    → (tells_then ≡ true → tells ≡ true) → (tells_then ≡ true → log_then ≡ log ++ entry ∷ []) → Keeps tells tells_then log log_then target target
keeps_told tells tells_then log log_then target entry none silent back e = record {
  back = back;
  each = λ number sound. sound;
  sure = λ sure. sure;
  served = λ t sound. stays_told MayHappen log log_then target entry none silent (e t);
  came = λ t. stays_told (MayComeOut target) log log_then target entry none silent (e t);
  bounded = λ bounded. bounded;
}
