-- What an engine takes of the input, one piece after another.
use Rattle.std.proofs.Common.{◌≡◌, ℕ, List, [], ◌∷◌, ◌++◌, sym, ap, subst, ◌∙◌, Option, append_assoc, append-nil}
use Rattle.std.specs.Prelude.{Result, Ok, Err, IfErr, IsErrAnd}
use Rattle.std.proofs.KnownBytes.{Appends-nil, Appends-trans}
use Rattle.iscsi_target.specs.Machine.{Machine}
use Rattle.target_replay.specs.declared.fault.ReplayFault.{ReplayFault}
use Rattle.target_replay.specs.Comings.{Kind}
use Rattle.target_replay.specs.Lines.{StopsBy}
use Rattle.target_replay.specs.Reply.{reply_in, course}
use Rattle.target_replay.specs.Engine.{Progress, HasTaken, Takes, Stops}

pub takes_none : (kind : Kind) (engine : Progress) (w : Option (List ℕ)) → Takes kind engine [] engine w w
takes_none kind engine w s bytes before h =
    ([], Appends-nil w, rw (append-nil bytes, append-nil before) h)

pub takes_more : (kind : Kind) (a b c : Progress) (p q : List ℕ) (w0 w1 w2 : Option (List ℕ)) → Takes kind a p b w0 w1 → Takes kind b q c w1 w2
    → Takes kind a (p ++ q) c w0 w2
takes_more kind a b c p q w0 w1 w2 first second s bytes before h =
    let now = first s bytes before h in
    let then = second s (bytes ++ p) (before ++ now.0) now.2 in (
      now.0 ++ then.0,
      Appends-trans w0 w1 w2 now.0 then.0 now.1 then.1,
      subst (λ (bytes : List ℕ). HasTaken kind s bytes c (before ++ (now.0 ++ then.0))) (append_assoc bytes p q)
          (subst (λ (text : List ℕ). HasTaken kind s ((bytes ++ p) ++ q) c text) (append_assoc before now.0 then.0) then.2),
    )

pub stops_behind : (kind : Kind) (a b : Progress) (p q : List ℕ) (target : Machine) (w0 w1 w2 : Option (List ℕ)) (fault : ReplayFault)
    → Takes kind a p b w0 w1 → Stops kind b q target w1 w2 fault
    → Stops kind a (p ++ q) target w0 w2 fault
stops_behind kind a b p q target w0 w1 w2 fault first second s bytes before h =
    let now = first s bytes before h in
    let then = second s (bytes ++ p) (before ++ now.0) now.2 in
    let start = course [] then.2.0 in (
      now.0 ++ then.0,
      Appends-trans w0 w1 w2 now.0 then.0 now.1 then.1,
      (
        then.2.0,
        then.2.1,
        λ rest.
            subst (λ (input : List ℕ). StopsBy (reply_in s) fault start input (before ++ (now.0 ++ then.0))) (append_assoc bytes p (q ++ rest)
            ∙ ap (λ (behind : List ℕ). bytes ++ behind) (sym (append_assoc p q rest)))
            (subst (λ (text : List ℕ). StopsBy (reply_in s) fault start ((bytes ++ p) ++ (q ++ rest)) text) (append_assoc before now.0 then.0)
            (then.2.2 rest)),
      ),
    )

pub stops_before : (kind : Kind) (a : Progress) (p q : List ℕ) (target : Machine) (w0 w1 : Option (List ℕ)) (fault : ReplayFault)
    → Stops kind a p target w0 w1 fault → Stops kind a (p ++ q) target w0 w1 fault
stops_before kind a p q target w0 w1 fault first s bytes before h =
    let now = first s bytes before h in (
      now.0,
      now.1,
      (
        now.2.0,
        now.2.1,
        λ rest. subst (λ (behind : List ℕ). StopsBy (reply_in s) fault (course [] now.2.0) (bytes ++ behind) (before ++ now.0))
            (sym (append_assoc p q rest)) (now.2.2 (q ++ rest)),
      ),
    )

-- a fault that is passed on is the same
pub passed_on : (r : Result (Unit {0}) ReplayFault) (fault : ReplayFault) (P : ReplayFault → Type 0)
    → IsErrAnd r (λ (other : ReplayFault). other ≡ fault) → P fault → IfErr r P
passed_on (Ok x) fault P is h = tt
passed_on (Err other) fault P is h = subst P (sym is) h

-- ---- a line within a piece

pub cut_more : (piece taken rest line behind : List ℕ) → piece ≡ taken ++ rest → rest ≡ line ++ 10 ∷ behind → piece ≡ (taken ++ (line ++ 10 ∷ [])) ++ behind
cut_more piece taken rest line behind e f =
    e ∙ ap (λ (rest : List ℕ). taken ++ rest) (f ∙ sym (append_assoc line (10 ∷ []) behind)) ∙ sym (append_assoc taken (line ++ 10 ∷ []) behind)

pub stops_within : (kind : Kind) (a b : Progress) (piece taken rest line behind : List ℕ) (target : Machine) (w0 w1 w2 : Option (List ℕ))
    (fault : ReplayFault) → piece ≡ taken ++ rest → rest ≡ line ++ 10 ∷ behind → Takes kind a taken b w0 w1
    → Stops kind b (line ++ 10 ∷ []) target w1 w2 fault → Stops kind a piece target w0 w2 fault
stops_within kind a b piece taken rest line behind target w0 w1 w2 fault e f first second =
    subst (λ (piece : List ℕ). Stops kind a piece target w0 w2 fault) (sym (cut_more piece taken rest line behind e f))
    (stops_before kind a (taken ++ (line ++ 10 ∷ [])) behind target w0 w2 fault
    (stops_behind kind a b taken (line ++ 10 ∷ []) target w0 w1 w2 fault first second))
