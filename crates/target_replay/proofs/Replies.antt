-- What a line does to the target.
use Rattle.std.proofs.Common.{◌≡◌, ℕ, ◌<◌, true, false, List, [], ◌∷◌, ◌++◌, length, drop, refl, sym, ap, ◌∙◌, Option, None, Some, inl, inr}
use Rattle.std.specs.Prelude.{flat_map}
use Rattle.std.specs.Str.{IsUtf8}
use Rattle.std.proofs.lemmas.Bool.Decides.{eqb_tells}
use Rattle.std.proofs.Math.Seq.{drop-nil}
use Rattle.iscsi_session.specs.Comings.{Coming}
use Rattle.iscsi_target.specs.History.{Event, Open, Bytes, Gone, History, happening, plain, connections, connection_limit}
use Rattle.iscsi_target.specs.World.{Setting, World, present, world}
use Rattle.iscsi_target.specs.Output.{out_now}
use Rattle.iscsi_target.specs.Life.{Life}
use Rattle.iscsi_target.specs.Machine.{Machine, ReflectsSoundness, is_open_at}
use Rattle.iscsi_target.specs.Stands.{Stands, with_sent}
use Rattle.iscsi_target.proofs.Standing.{is_free_there, sent_here, sent_there}
use Rattle.target_replay.proofs.Texts.{is_text, is_no_text}
use Rattle.target_replay.proofs.Joint.{gone_life}
use Rattle.target_replay.proofs.Comings.{suits_none, suits_later}
use Rattle.target_replay.specs.Comings.{Kind, Suits}
use Rattle.target_replay.specs.Line.{event_of}
use Rattle.target_replay.specs.Printed.{all_sent, HasSentAll, unsent, printed_of, printed, after_printing}
use Rattle.target_replay.specs.Printing.{HasPrintedAll}
use Rattle.target_replay.specs.Reply.{is_allowed, event_in, reply_by, HasActed, HasReplied}

pub event_of_text : (line : List ℕ) → IsUtf8 line → event_in line ≡ event_of line
event_of_text line text = rw (is_text line text) refl

pub no_event : (line : List ℕ) → ¬ (IsUtf8 line) → event_in line ≡ None
no_event line other = rw (is_no_text line other) refl

-- ---- an event

pub open_acts : (kind : Kind) (s : Setting) (h : History) (c : ℕ) (target now : Machine) → c < connection_limit → is_open_at target c ≡ false
    → ((s : Setting) (sent : ℕ → ℕ) (h : History) → Stands s sent target h → Stands s (with_sent sent c 0) now (h ++ plain (Open c) ∷ []))
    → HasSentAll s h target → HasActed kind s h (Open c) now
unfolding unsent
open_acts kind s h c target now lt free opens stands =
    let all = all_sent (world s h) in
    let after = world s (h ++ plain (Open c) ∷ []) in
    let nothing : all c ≡ 0 = ap (λ (o : Option Life). length (out_now o)) (is_free_there s all (world s h) target c lt stands free) in
    record {
      sent = with_sent all c 0;
      comings = [];
      suits = suits_none kind now;
      stands = opens s all h stands;
      waiting = λ d. elim (eqb_tells d c) [
        | inl same ↦ rw same.1 (ap (λ (n : ℕ). drop n (out_now (present c after))) (sent_here all c 0 ∙ sym nothing))
        | inr differ ↦ ap (λ (n : ℕ). drop n (out_now (present d after))) (sent_there all c 0 d differ.1)
      ];
    }

pub bytes_act : (kind : Kind) (s : Setting) (h : History) (c : ℕ) (piece : List ℕ) (now : Machine)
    → (comings : List Coming) × Suits kind now comings × Stands s (all_sent (world s h)) now (h ++ happening [] comings (Bytes c piece) ∷ [])
    → HasActed kind s h (Bytes c piece) now
bytes_act kind s h c piece now fed = record { sent = all_sent (world s h); comings = fed.0; suits = fed.1; stands = fed.2; waiting = λ d. refl }

nothing_left : (a b : ℕ) (o : Option Life) → o ≡ None → drop a (out_now o) ≡ drop b (out_now o)
nothing_left a b o e = rw e (drop-nil {A = ℕ} a ∙ sym (drop-nil {A = ℕ} b))

pub gone_acts : (kind : Kind) (s : Setting) (h : History) (c : ℕ) (target now : Machine)
    → ((s : Setting) (sent : ℕ → ℕ) (h : History) → Stands s sent target h → Stands s (with_sent sent c 0) now (h ++ plain (Gone c) ∷ []))
    → HasSentAll s h target → HasActed kind s h (Gone c) now
unfolding unsent
gone_acts kind s h c target now ends stands =
    let all = all_sent (world s h) in
    let after = world s (h ++ plain (Gone c) ∷ []) in
    record {
      sent = with_sent all c 0;
      comings = [];
      suits = suits_none kind now;
      stands = ends s all h stands;
      waiting = λ d. elim (eqb_tells d c) [
        | inl same ↦ rw same.1 (nothing_left (with_sent all c 0 c) (all c) (present c after) (gone_life s h c))
        | inr differ ↦ ap (λ (n : ℕ). drop n (out_now (present d after))) (sent_there all c 0 d differ.1)
      ];
    }

-- ---- a line

same_each : {X : Type 0} (f g : ℕ → List X) (cs : List ℕ) → ((c : ℕ) → f c ≡ g c) → flat_map f cs ≡ flat_map g cs
same_each f g [] e = refl
same_each {X} f g (c ∷ cs) e = ap (λ (xs : List X). xs ++ flat_map f cs) (e c) ∙ ap (λ (xs : List X). g c ++ xs) (same_each f g cs e)

one_same : (a b : ℕ → ℕ) (w : World) (c : ℕ) → unsent a w c ≡ unsent b w c → printed_of a w c ≡ printed_of b w c
unfolding printed_of
one_same a b w c e = rw e refl

printed_same : (a b : ℕ → ℕ) (w : World) → ((c : ℕ) → unsent a w c ≡ unsent b w c) → printed a w ≡ printed b w
unfolding printed
printed_same a b w e = same_each (printed_of a w) (printed_of b w) connections (λ c. one_same a b w c (e c))

pub other_form : (s : Setting) (h : History) (line : List ℕ) → event_in line ≡ None → (comings : List Coming) → reply_by s comings h line ≡ None
unfolding reply_by
other_form s h line e comings = rw e refl

pub refused : (s : Setting) (h : History) (line : List ℕ) (event : Event) → event_in line ≡ Some event → is_allowed (world s h) event ≡ false
    → (comings : List Coming) → reply_by s comings h line ≡ None
unfolding reply_by
refused s h line event e not_allowed comings = rw e (rw not_allowed refl)

says : (s : Setting) (comings : List Coming) (h : History) (line : List ℕ) (event : Event) → event_in line ≡ Some event
    → is_allowed (world s h) event ≡ true
    → reply_by s comings h line ≡ Some (
      printed (all_sent (world s h)) (world s (h ++ happening [] comings event ∷ [])),
      after_printing s (h ++ happening [] comings event ∷ []),
    )
unfolding reply_by
says s comings h line event e allowed = rw e (rw allowed refl)

pub replied : (kind : Kind) (s : Setting) (h : History) (line text : List ℕ) (event : Event) (acted now : Machine) → event_in line ≡ Some event
    → is_allowed (world s h) event ≡ true → HasActed kind s h event acted → ReflectsSoundness acted now
    → ((s : Setting) (sent : ℕ → ℕ) (h : History) → Stands s sent acted h → HasPrintedAll s sent h text now) → HasReplied kind s h line text now
replied kind s h line text event acted now e allowed did back prints =
    let next = h ++ happening [] did.comings event ∷ [] in
    let all = prints s did.sent next did.stands in
    record {
      comings = did.comings;
      suits = suits_later kind acted now back did.comings did.suits;
      now = after_printing s next;
      replied = says s did.comings h line event e allowed
          ∙ ap (λ (text : List ℕ). Some (text, after_printing s next))
          (sym (all.prints ∙ printed_same did.sent (all_sent (world s h)) (world s next) did.waiting));
      stands = all.stands;
    }
