-- Histories computed from the definitions alone, with the expected bytes written by hand.
use Rattle.std.specs.Prelude.{◌≡◌, ℕ, List, [], ◌∷◌, ◌++◌, take, drop, true, false, refl}
use Rattle.iscsi_world.specs.History.{Open, Bytes, Gone, Point, Arriving, Before, AtEnd, History, plain, marked}
use Rattle.iscsi_session.specs.Steps.{Judging, Taking, Doing}
use Rattle.iscsi_world.specs.Output.{outputs}
use Rattle.iscsi_world.specs.ExamplesBytes.{computed, one_target, are_read, login_as, login_request, login_response, logged_in, refused, first_request, second_request, first_answer, second_answer, first_test, second_test, attention, attention_third, attention_late, ready_answer}

-- ---- one connection

-- a login and two commands in one piece
in_one_piece : outputs one_target (plain (Open 0) ∷ plain (Bytes 0 (login_request ++ first_test ++ second_test)) ∷ [])
    ≡ (logged_in ++ attention ++ ready_answer) ∷ []
unfolding computed
in_one_piece = refl

-- the same cut in the middle of a header
in_two_pieces : outputs one_target (plain (Open 0) ∷ plain (Bytes 0 (login_request ++ take 20 first_test)) ∷ plain
    (Bytes 0 (drop 20 first_test ++ second_test)) ∷ []) ≡ (logged_in ++ attention ++ ready_answer) ∷ []
unfolding computed
in_two_pieces = refl

-- the second command comes first: it waits for the CmdSN before its own
out_of_order : outputs one_target (plain (Open 0) ∷ plain (Bytes 0 (login_request ++ second_test ++ first_test)) ∷ [])
    ≡ (logged_in ++ attention_late ++ ready_answer) ∷ []
unfolding computed
out_of_order = refl

nothing_yet : outputs one_target (plain (Open 0) ∷ plain (Bytes 0 (login_request ++ second_test)) ∷ []) ≡ logged_in ∷ []
unfolding computed
nothing_yet = refl

-- a login in two requests, and a command
in_two_requests : outputs one_target (plain (Open 0) ∷ plain (Bytes 0 first_request) ∷ plain (Bytes 0 (second_request ++ first_test)) ∷ [])
    ≡ (first_answer ++ second_answer ++ attention_third) ∷ []
unfolding computed
in_two_requests = refl

-- a Login request in full feature phase closes the connection; the next life gets the unit attention of power on
-- again
abbrev after_a_violation : History
after_a_violation =
    plain (Open 0) ∷ plain (Bytes 0 (login_request ++ first_test ++ login_request ++ second_test)) ∷ plain (Gone 0) ∷
    plain (Open 0) ∷ plain (Bytes 0 (login_request ++ first_test)) ∷ []

told_again : outputs one_target after_a_violation ≡ (logged_in ++ attention) ∷ (logged_in ++ attention) ∷ []
unfolding computed
told_again = refl

-- ---- two connections

-- the initiators `a` and `b`, each answered as if alone
abbrev two_initiators : History
two_initiators =
    plain (Open 0) ∷ plain (Open 1) ∷ plain (Bytes 0 login_request) ∷ plain (Bytes 1 (login_as 0x62 0x01 0x00)) ∷
    plain (Bytes 1 first_test) ∷ plain (Bytes 0 first_test) ∷ plain (Bytes 0 second_test) ∷ plain (Bytes 1 second_test) ∷ []

each_as_if_alone : outputs one_target two_initiators ≡ (logged_in ++ attention ++ ready_answer) ∷ (login_response 0x01 0x02 ++ attention ++ ready_answer) ∷ []
unfolding computed
each_as_if_alone = refl

-- `a` logs in again with the same ISID: its older connection closes
abbrev again : History
again = plain (Open 0) ∷ plain (Bytes 0 (login_request ++ first_test)) ∷ plain (Open 1) ∷ plain (Bytes 1 (login_request ++ first_test)) ∷ plain
    (Bytes 0 second_test) ∷ []

the_older_is_ended : outputs one_target again ≡ (logged_in ++ attention) ∷ (login_response 0x01 0x02 ++ attention) ∷ []
unfolding computed
the_older_is_ended = refl

the_newer_is_read : are_read one_target again ≡ false ∷ true ∷ []
unfolding computed
the_newer_is_read = refl

-- with another ISID both sessions go on
another_isid : are_read one_target (plain (Open 0) ∷ plain (Bytes 0 login_request) ∷ plain (Open 1) ∷ plain
    (Bytes 1 (login_as 0x61 0x02 0x00)) ∷ []) ≡ true ∷ true ∷ []
unfolding computed
another_isid = refl

-- TSIH 1 is that of the live session; no session has TSIH 9
abbrev joining : ℕ → History
joining tsih = plain (Open 0) ∷ plain (Bytes 0 login_request) ∷ plain (Open 1) ∷ plain (Bytes 1 (login_as 0x61 0x01 tsih)) ∷ []

too_many_connections : outputs one_target (joining 0x01) ≡ logged_in ∷ refused 0x01 0x06 ∷ []
unfolding computed
too_many_connections = refl

session_does_not_exist : outputs one_target (joining 0x09) ≡ logged_in ∷ refused 0x09 0x0a ∷ []
unfolding computed
session_does_not_exist = refl

-- ---- an allocation fails on connection 0, in the event of its first command, the frame of place 1

abbrev failed_at : Point → History
failed_at point =
    plain (Open 0) ∷ plain (Open 1) ∷ plain (Bytes 0 login_request) ∷ marked (record { connection = 0; point = point } ∷ []) (Bytes 0 first_test) ∷
    plain (Bytes 1 (login_as 0x62 0x01 0x00 ++ first_test)) ∷ []

abbrev unanswered : List (List ℕ)
unanswered = logged_in ∷ (login_response 0x01 0x02 ++ attention) ∷ []

before_it_arrives : outputs one_target (failed_at (Arriving 1)) ≡ unanswered
unfolding computed
before_it_arrives = refl

before_it_is_judged : outputs one_target (failed_at (Before (Judging 1))) ≡ unanswered
unfolding computed
before_it_is_judged = refl

before_it_is_taken : outputs one_target (failed_at (Before (Taking 1 0))) ≡ unanswered
unfolding computed
before_it_is_taken = refl

before_it_is_done : outputs one_target (failed_at (Before (Doing 1 0))) ≡ unanswered
unfolding computed
before_it_is_done = refl

-- the frame sets off one command, so a mark before a second one names no step
before_a_second_is_done : outputs one_target (failed_at (Before (Doing 1 1))) ≡ (logged_in ++ attention) ∷ (login_response 0x01 0x02 ++ attention) ∷ []
unfolding computed
before_a_second_is_done = refl

-- the frame of place 2 lets two commands be taken; an allocation fails before the second is done
before_the_held_one_is_done : outputs one_target (plain (Open 0) ∷ plain (Bytes 0 (login_request ++ second_test)) ∷ marked
    (record { connection = 0; point = Before (Doing 2 1) } ∷ []) (Bytes 0 first_test) ∷ []) ≡ (logged_in ++ attention_late) ∷ []
unfolding computed
before_the_held_one_is_done = refl

-- an allocation fails before the second Login request is answered: the connection closes
before_it_is_answered : outputs one_target (plain (Open 0) ∷ plain (Bytes 0 first_request) ∷ marked
    (record { connection = 0; point = Arriving 1 } ∷ []) (Bytes 0 (second_request ++ first_test)) ∷ []) ≡ first_answer ∷ []
unfolding computed
before_it_is_answered = refl

-- only that connection is closed
it_is_closed : are_read one_target (failed_at (Before (Doing 1 0))) ≡ false ∷ true ∷ []
unfolding computed
it_is_closed = refl

-- a failure at the event's end comes after the answer
at_the_end : outputs one_target (failed_at AtEnd) ≡ (logged_in ++ attention) ∷ (login_response 0x01 0x02 ++ attention) ∷ []
unfolding computed
at_the_end = refl

at_the_end_it_is_closed : are_read one_target (failed_at AtEnd) ≡ false ∷ true ∷ []
unfolding computed
at_the_end_it_is_closed = refl
