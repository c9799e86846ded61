-- Exchanges of texts, computed from the definitions alone.
use Rattle.std.specs.Prelude.{◌≡◌, ℕ, List, [], ◌∷◌, ◌++◌, length, map, replicate, Bool, true, Option, Some, None, codes, refl}
use Rattle.std.specs.Str.{is_utf8, chars}
use Rattle.iscsi_pdu.specs.Frames.{Frame}
use Rattle.iscsi_pdu.specs.declared.text_response.TextStep.TheVariants.{Continued, GoesOn, Ends}
use Rattle.iscsi_text.specs.Pairs.{Pair, text_pairs, text_of, pieces, own_fault}
use Rattle.iscsi_login.specs.ExamplesKeys.{computed as keys_computed}
use Rattle.iscsi_login.specs.ExamplesLogin.{pair}
use Rattle.iscsi_login.specs.Values.{default_values}
use Rattle.iscsi_login.specs.Session.{target_named}
use Rattle.iscsi_login.specs.declared.session_params.SessionParams.{SessionParams}
use Rattle.iscsi_exchange.specs.SendTargets.{told_of, send_targets, pair_answer, pairs_answer}
use Rattle.iscsi_exchange.specs.ExchangeState.{ExchangeState, no_exchange, open_with}
use Rattle.iscsi_exchange.specs.Exchange.{ToldState, rejects, tells, sends, keeps, hears_in, hears}

-- what the examples unfold
unfoldable pub computed : Bool
unfolding keys_computed is_utf8 chars lib.Utf8.encode text_pairs pieces own_fault told_of send_targets pair_answer sends keeps hears_in hears
    target_named
computed = true

-- a session of `a` with these targets at 127.0.0.1:3260, which takes 512 bytes in one PDU; a discovery session, or one
-- with target 0
abbrev params : Option ℕ → List (List ℕ) → SessionParams
params target names = record {
  nexus = record { initiator_name = codes "a"; isid = replicate 6 0 };
  target = target;
  directory = record { names = names; portal = codes "127.0.0.1:3260" };
  connection_id = 0;
  first_cmd_sn = 1;
  next_stat_sn = 1;
  values = record default_values { max_recv_data_segment_length = 512 };
}

-- a Text Request with this byte 1 and Target Transfer Tag
abbrev request : ℕ → List ℕ → List ℕ → Frame
request flags tag text = record { header = 0x04 ∷ flags ∷ replicate 18 0 ++ tag ++ replicate 24 0; body = text }

abbrev final : ℕ
final = 0x80

abbrev continued : ℕ
continued = 0x40

abbrev new : List ℕ
new = replicate 4 0xff

abbrev same : List ℕ
same = 0xff ∷ 0xff ∷ 0xff ∷ 0xfe ∷ []

-- the answer to SendTargets in a discovery session of `t1` and `t2`, and in a session with `t1`
abbrev discovers : List ℕ → List Pair
discovers value = pairs_answer (params None (codes "t1" ∷ codes "t2" ∷ [])) ((codes "SendTargets", value) ∷ [])

abbrev asks_own : List ℕ → List Pair
asks_own value = pairs_answer (params (Some 0) (codes "t1" ∷ [])) ((codes "SendTargets", value) ∷ [])

abbrev at : List ℕ → List Pair
at name = (codes "TargetName", name) ∷ (codes "TargetAddress", codes "127.0.0.1:3260,1") ∷ []

abbrev not_told : List Pair
not_told = (codes "SendTargets", codes "Reject") ∷ []

-- ---- the answers

discovery : map discovers (codes "All" ∷ codes "t2" ∷ codes "t3" ∷ [] ∷ []) ≡ (at (codes "t1") ++ at (codes "t2")) ∷ at (codes "t2") ∷ [] ∷ not_told ∷ []
unfolding computed
discovery = refl

own_target : map asks_own ([] ∷ codes "t1" ∷ codes "All" ∷ codes "t2" ∷ []) ≡ at (codes "t1") ∷ at (codes "t1") ∷ not_told ∷ not_told ∷ []
unfolding computed
own_target = refl

-- a key of a login, one that is not known, and a value that is itself an answer, in the order of the text
other_keys : pairs_answer (params None []) ((codes "InitialR2T", codes "No") ∷ (codes "X-a", codes "b") ∷ (codes "SendTargets", codes "Reject") ∷ [])
    ≡ (codes "InitialR2T", codes "Reject") ∷ (codes "X-a", codes "NotUnderstood") ∷ []
unfolding computed
other_keys = refl

-- ---- exchanges

-- a text in two parts: C is answered by an empty text, and takes precedence over F
front : hears no_exchange (request 0xC0 new (codes "SendTar")) (params None []) ≡ tells (open_with (codes "SendTar") []) GoesOn []
unfolding computed
front = refl

rest : hears (open_with (codes "a") []) (request final same (pair (codes "=b"))) (params None []) ≡ tells no_exchange Ends (pair (codes "a=NotUnderstood"))
unfolding computed
rest = refl

-- eight targets with names of 60 bytes are 824 bytes, of which the initiator takes 512
all_of_eight : length (text_of (pairs_answer (params None (replicate 8 (replicate 60 97))) ((codes "SendTargets", codes "All") ∷ []))) ≡ 824
unfolding computed
all_of_eight = refl

first_piece : sends (params None []) (request final new []) (replicate 824 97) ≡ tells (open_with [] (replicate 312 97)) Continued (replicate 512 97)
unfolding computed
first_piece = refl

last_piece : hears (open_with [] (codes "rest")) (request final same []) (params None []) ≡ tells no_exchange Ends (codes "rest")
unfolding computed
last_piece = refl

-- an empty request with C gets the piece too, and the exchange continues
piece_without_final : hears (open_with [] (codes "rest")) (request continued same []) (params None []) ≡ tells (open_with [] []) GoesOn (codes "rest")
unfolding computed
piece_without_final = refl

-- ---- what is rejected, and ends the exchange

-- no pair; text while a piece is due; a tag of no exchange, and another one than that of the exchange
rejected : hears no_exchange (request final new (codes "a")) (params None []) ∷ hears
    (open_with [] (codes "rest")) (request final same (codes "a")) (params None []) ∷ hears
    no_exchange (request final same []) (params None []) ∷ hears (open_with [] []) (request final (replicate 4 1) []) (params None []) ∷ []
    ≡ replicate 4 rejects
unfolding computed
rejected = refl

-- a request with FFFFFFFFh drops what was due
dropped : hears (open_with [] (codes "a")) (request final new []) (params None []) ≡ tells no_exchange Ends []
unfolding computed
dropped = refl
