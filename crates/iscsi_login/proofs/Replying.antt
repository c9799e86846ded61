-- The reply to a request, by what it brought.
use Rattle.std.proofs.Common.{◌≡◌, true, false, Option, Some, None, refl, sym, ap, ◌∙◌}
use Rattle.iscsi_pdu.specs.Frames.{Frame}
use Rattle.iscsi_pdu.specs.LoginRequest.{is_continued}
use Rattle.iscsi_pdu.specs.declared.login_response.LoginRefusal.{LoginRefusal}
use Rattle.iscsi_login.specs.Lookup.{Lookup}
use Rattle.iscsi_login.specs.LoginState.{LoginState}
use Rattle.iscsi_login.specs.Rules.{is_due, pairs_with, request_refusal, text_refusal, refusal_of}
use Rattle.iscsi_login.specs.Login.{brought, kept_with, heard, reply_to, refused_reply, reply_unless, reply_of}

by_refusal : (login : LoginState) (lookup : Lookup) (request : Frame) (refusal : LoginRefusal) → refusal_of login lookup request ≡ Some refusal
    → refused_reply login request refusal ≡ reply_of login lookup request
unfolding reply_of
by_refusal login lookup request refusal e = sym (ap (λ (r : Option LoginRefusal). reply_unless r lookup login request) e)

by_brought : (login middle : LoginState) (lookup : Lookup) (request : Frame) → refusal_of login lookup request ≡ None
    → brought lookup.directory login request ≡ middle
    → reply_to middle request ≡ reply_of login lookup request
unfolding reply_of
by_brought login middle lookup request e is =
    sym (ap (λ (r : Option LoginRefusal). reply_unless r lookup login request) e ∙ ap (λ (l : LoginState). reply_to l request) is)

-- the request itself is refused
pub replies_refused : (login : LoginState) (lookup : Lookup) (request : Frame) (refusal : LoginRefusal) → request_refusal login request ≡ Some refusal
    → refused_reply login request refusal ≡ reply_of login lookup request
unfolding refusal_of
replies_refused login lookup request refusal refused = by_refusal login lookup request refusal (rw refused refl)

-- a piece was due
pub replies_piece : (login : LoginState) (lookup : Lookup) (request : Frame) → request_refusal login request ≡ None → is_due login ≡ true
    → reply_to login request ≡ reply_of login lookup request
unfolding refusal_of
replies_piece login lookup request taken due = by_brought login login lookup request (rw (taken, due) refl) (rw due refl)

-- the text goes on
pub replies_kept : (login middle : LoginState) (lookup : Lookup) (request : Frame) → request_refusal login request ≡ None → is_due login ≡ false
    → is_continued request.header ≡ true
    → middle ≡ kept_with login request → reply_to middle request ≡ reply_of login lookup request
unfolding refusal_of
replies_kept login middle lookup request taken due continued is = by_brought login middle lookup request (rw (taken, due, continued) refl)
    (rw (due, continued) (sym is))

-- the text is whole
pub replies_heard : (login middle : LoginState) (lookup : Lookup) (request : Frame) → request_refusal login request ≡ None → is_due login ≡ false
    → is_continued request.header ≡ false
    → text_refusal login lookup request ≡ None → middle ≡ heard lookup.directory login request.header (pairs_with login request)
    → reply_to middle request ≡ reply_of login lookup request
unfolding refusal_of
replies_heard login middle lookup request taken due whole read is = by_brought login middle lookup request (rw (taken, due, whole) read)
    (rw (due, whole) (sym is))

-- and is refused
pub replies_refused_text : (login : LoginState) (lookup : Lookup) (request : Frame) (refusal : LoginRefusal) → request_refusal login request ≡ None
    → is_due login ≡ false → is_continued request.header ≡ false
    → text_refusal login lookup request ≡ Some refusal → refused_reply login request refusal ≡ reply_of login lookup request
unfolding refusal_of
replies_refused_text login lookup request refusal taken due whole refused = by_refusal login lookup request refusal (rw (taken, due, whole) refused)
