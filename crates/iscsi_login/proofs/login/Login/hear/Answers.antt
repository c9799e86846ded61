use Rattle.std.proofs.Common.{◌≡◌, Bool, true, false, List, [], ◌∷◌, Some, None, refl, sym, ◌∙◌}
use Rattle.std.specs.List.{list_any}
use Rattle.std.proofs.lemmas.Result.{err_from_is_err_and}
use Rattle.iscsi_pdu.specs.Frames.{Frame}
use Rattle.iscsi_pdu.specs.declared.login_response.LoginRefusal.TheVariants.{InitiatorError}
use Rattle.iscsi_text.specs.Pairs.{Pair}
use Rattle.iscsi_login.specs.Lookup.{Lookup}
use Rattle.iscsi_login.specs.LoginState.{LoginState}
use Rattle.iscsi_login.specs.Rules.{rule, refusal_by, is_again, is_segment_refused, pairs_with, text_fault, session_refusal, text_refusal, Tells}
use Rattle.iscsi_login.specs.declared.fault.Fault.{Fault}
use Rattle.iscsi_login.specs.declared.fault.Fault.TheVariants as faults
use Rattle.iscsi_login.proofs.login.Login.hear.Goals as goal

-- a text is refused for its keys alone, or its pairs could not be kept
refused_for_keys : (login : LoginState) (lookup : Lookup) (request : Frame) (pairs : List Pair) (fault : Fault)
    → pairs ≡ pairs_with login request → text_fault login request ≡ None
    → session_refusal login.session lookup request.header pairs ≡ None
    → (list_any (is_again login.earlier) pairs ≡ false → fault ≡ faults.Memory) → Tells (Some InitiatorError) fault
    → Tells (text_refusal login lookup request) fault
unfolding text_refusal
refused_for_keys login lookup request pairs fault read whole accepted kept told =
    rw (← read, whole, accepted) (by (list_any (is_again login.earlier) pairs) kept)
  where
    by : (again : Bool) → (again ≡ false → fault ≡ faults.Memory)
        → Tells (refusal_by (rule again InitiatorError ∷ rule (list_any is_segment_refused pairs) InitiatorError ∷ [])) fault
    by true _ = told
    by false memory = rw (memory refl) tt

-- a text is refused for a segment length alone, or for its keys too
segment_refused : (login : LoginState) (lookup : Lookup) (request : Frame) (pairs : List Pair)
    → pairs ≡ pairs_with login request → text_fault login request ≡ None
    → session_refusal login.session lookup request.header pairs ≡ None
    → list_any is_segment_refused pairs ≡ true → text_refusal login lookup request ≡ Some InitiatorError
unfolding text_refusal
segment_refused login lookup request pairs read whole accepted segment =
    rw (← read, whole, accepted, segment) (by (list_any (is_again login.earlier) pairs))
  where
    by : (again : Bool) → refusal_by (rule again InitiatorError ∷ rule true InitiatorError ∷ []) ≡ Some InitiatorError
    by true = refl
    by false = refl

pub returns-then-says_no_segment-clause-refused : goal.returns-then-says_no_segment-clause-refused
returns-then-says_no_segment-clause-refused c =
    segment_refused _ _ _ _ c.in_ok-pairs.ensures.pairs c.in_ok-pairs.ensures.whole c.in_ok-asked.ensures.accepted
    (sym c.says_no_segment.ensures ∙ c.if-says_no_segment.true)

pub returns-in_err-remember-clause-refused : goal.returns-in_err-remember-clause-refused
returns-in_err-remember-clause-refused c =
    let p = err_from_is_err_and c.from_residual-in_err-remember.result c.from_residual-in_err-remember.ensures.1 in
    rw (p.1, p.2) (refused_for_keys _ _ _ _ _ c.in_ok-pairs.ensures.pairs c.in_ok-pairs.ensures.whole c.in_ok-asked.ensures.accepted
    c.in_err-remember.ensures.refused c.in_err-remember.ensures.told)

pub returns-clause-target : goal.returns-clause-target
returns-clause-target c = λ below. c.in_ok-remember.ensures.target _ below c.in_ok-asked.ensures.target
