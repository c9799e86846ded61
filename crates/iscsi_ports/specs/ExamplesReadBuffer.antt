-- What is given, handed on and ahead, computed.
use Rattle.std.specs.Prelude.{◌≡◌, List, [], ◌∷◌, true, Some, None, Ok, Err, refl}
use Rattle.iscsi_ports.specs.Log.{Bytes, End, Open, Read, Wrote}
use Rattle.iscsi_ports.specs.Calls.{Call, Accepting, Reading, Handing, PuttingOff, Closing, log_by}
use Rattle.iscsi_ports.specs.ReadBuffer.{given, handed, ahead_on, AreDropped}
use Rattle.iscsi_ports.specs.declared.socket_failure.SocketFailure.TheVariants.{WouldWait}

-- a read for two bytes meets five, of which two more are handed on; then a write is put off, and the next read
-- would wait for the system if nothing were ahead
calls : List Call
calls =
    PuttingOff 0 48 ∷ Handing 0 2 (3 ∷ 4 ∷ []) ∷ Reading 1 4 (Err WouldWait) ∷ Reading 0 2 (Ok (1 ∷ 2 ∷ 3 ∷ 4 ∷ 5 ∷ []))
    ∷ Accepting 0 (Some 0) (Ok true) ∷ []

given_by_them : given 0 calls ≡ 1 ∷ 2 ∷ 3 ∷ 4 ∷ 5 ∷ []
unfolding calls
given_by_them = refl

handed_by_them : handed 0 calls ≡ 1 ∷ 2 ∷ 3 ∷ 4 ∷ []
unfolding calls
handed_by_them = refl

ahead_then : ahead_on 0 (Some (5 ∷ []) ∷ None ∷ []) ≡ 5 ∷ []
ahead_then = refl

-- the log has a read where bytes were handed on, and a write of none where it was put off
log_of_them : log_by calls ≡ Open 0 ∷ Read 0 2 (Bytes (1 ∷ 2 ∷ [])) ∷ Read 1 4 (Bytes []) ∷ Read 0 2 (Bytes (3 ∷ 4 ∷ [])) ∷ Wrote 0 48 (Bytes []) ∷ []
unfolding calls
log_of_them = refl

-- what is ahead of a connection that is closed is dropped, and the next one under its number begins with nothing
after_the_close : given 0 (Accepting 0 (Some 0) (Ok true) ∷ Closing 0 (5 ∷ []) ∷ calls) ≡ []
unfolding calls
after_the_close = refl

dropped_by_them : AreDropped (Closing 0 (5 ∷ []) ∷ calls)
unfolding calls
dropped_by_them = refl

-- an end is told by the system alone
end_of_it : log_by (Reading 0 48 (Ok []) ∷ []) ≡ Read 0 48 End ∷ []
end_of_it = refl
