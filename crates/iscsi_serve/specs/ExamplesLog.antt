-- What is read from a log, computed.
use Rattle.std.specs.Prelude.{◌≡◌, List, [], ◌∷◌, map, true, false, refl}
use Rattle.iscsi_target.specs.History as history
use Rattle.iscsi_ports.specs.Log.{Entry, Bytes, End, Open, NobodyCame, Read, Wrote, Close, written, written_on}
use Rattle.iscsi_serve.specs.Events.{events}

-- A connection brings two bytes, gets two of three answer bytes, and ends. Another comes while no number is free. A
-- third comes under the number of the first, gets one byte, and sends nothing more.
log : List Entry
log =
    Open 0 ∷ Read 0 48 (Bytes (1 ∷ 2 ∷ [])) ∷ Read 0 46 (Bytes []) ∷ Wrote 0 3 (Bytes (7 ∷ 8 ∷ [])) ∷ Wrote 0 1 (Bytes [])
    ∷ Open 64 ∷ Close 64 ∷ Close 0 ∷ NobodyCame ∷ Open 0 ∷ Wrote 0 1 (Bytes (9 ∷ [])) ∷ Read 0 48 End ∷ []

-- reads that gave nothing, writes, and entries with the number 64 are no events
events_of_it : events log ≡ history.Open 0 ∷ history.Bytes 0 (1 ∷ 2 ∷ []) ∷ history.Gone 0 ∷ history.Open 0 ∷ []
unfolding log
events_of_it = refl

-- each connection has its own row, also under the same number
written_in_it : map (λ row. row.bytes) (written log) ≡ (7 ∷ 8 ∷ []) ∷ (9 ∷ []) ∷ []
unfolding log written
written_in_it = refl

closed_in_it : map (λ row. row.is_closed) (written log) ≡ true ∷ false ∷ []
unfolding log written
closed_in_it = refl

written_last : written_on 0 log ≡ 9 ∷ []
unfolding log written written_on
written_last = refl

-- no connection is open under this number
written_nowhere : written_on 1 log ≡ []
unfolding log written written_on
written_nowhere = refl
