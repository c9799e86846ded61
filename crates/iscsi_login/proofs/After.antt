-- What is remembered after an answer, by what its request brought.
use Rattle.std.proofs.Common.{◌≡◌, true, false, refl, ap, sym, ◌∙◌}
use Rattle.iscsi_pdu.specs.Frames.{Frame}
use Rattle.iscsi_pdu.specs.LoginRequest.{is_continued}
use Rattle.iscsi_login.specs.Directory.{KnownTargets}
use Rattle.iscsi_login.specs.LoginState.{LoginState}
use Rattle.iscsi_login.specs.Rules.{is_due, pairs_with}
use Rattle.iscsi_login.specs.Login.{brought, kept_with, heard, answered, advanced, IsAfter, IsAnswered}
use Rattle.iscsi_login.specs.declared.reply.Reply.{Reply}
use Rattle.iscsi_login.specs.declared.reply.Reply.TheVariants.{GoOn, Full, Refused}

after_answer : (directory : KnownTargets) (old middle new : LoginState) (request : Frame) (reply : Reply) → middle ≡ brought directory old request
    → IsAnswered middle request reply new → IsAfter directory old request reply new
unfolding advanced
after_answer directory old middle new request (GoOn answer) e is = is ∙ ap (λ (login : LoginState). answered login request.header) e
after_answer directory old middle new request (Refused answer) e is = absurd is
after_answer directory old middle new request (Full answer params) e is = tt

-- a piece was due
pub after_piece : (directory : KnownTargets) (old new : LoginState) (request : Frame) (reply : Reply) → is_due old ≡ true
    → IsAnswered old request reply new → IsAfter directory old request reply new
after_piece directory old new request reply due is = after_answer directory old old new request reply (sym (rw due refl)) is

-- the text goes on
pub after_kept : (directory : KnownTargets) (old middle new : LoginState) (request : Frame) (reply : Reply) → is_due old ≡ false
    → is_continued request.header ≡ true
    → middle ≡ kept_with old request → IsAnswered middle request reply new → IsAfter directory old request reply new
after_kept directory old middle new request reply due continued e is =
    after_answer directory old middle new request reply (e ∙ sym (rw (due, continued) refl)) is

-- the text is whole
pub after_heard : (directory : KnownTargets) (old middle new : LoginState) (request : Frame) (reply : Reply) → is_due old ≡ false
    → is_continued request.header ≡ false
    → middle ≡ heard directory old request.header (pairs_with old request) → IsAnswered middle request reply new → IsAfter directory old request reply new
after_heard directory old middle new request reply due whole e is = after_answer directory old middle new request reply (e ∙ sym (rw (due, whole) refl)) is
