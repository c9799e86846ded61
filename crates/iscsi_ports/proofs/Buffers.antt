-- A buffer of which a piece is handed on, and one that is lent.
use Rattle.std.proofs.Common.{◌≡◌, ℕ, ◌+◌, ◌-◌, ◌<◌, ◌≤◌, min, List, [], ◌∷◌, ◌++◌, length, take, drop, Result, Ok, Err, refl, sym, ap, ◌∙◌, arith}
use Rattle.std.specs.Io.{WritesAtMost}
use Rattle.std.proofs.lemmas.List.{drop-drop, drop-take, take-append-le, take-take, take_min, length-take-le}
use Rattle.std.proofs.Math.Seq.{take-length}
use Rattle.iscsi_ports.specs.Log.{Bytes}
use Rattle.iscsi_ports.specs.Calls.{read_carried, moved}
use Rattle.iscsi_ports.specs.declared.socket_failure.SocketFailure.{SocketFailure}

-- what is left of it
pub rest_of : (buffer : List ℕ) (from to count : ℕ) → count ≤ to - from
    → take (to - (from + count)) (drop (from + count) buffer) ≡ drop count (take (to - from) (drop from buffer))
rest_of buffer from to count within =
    let parts : to - from ≡ count + (to - (from + count)) = omega arith in
    sym
    (ap (λ n. drop count (take n (drop from buffer))) parts ∙ drop-take count (to - (from + count)) (drop from buffer)
    ∙ ap (take (to - (from + count))) (drop-drop count from buffer))

-- what a read told that is lent this buffer
pub told_lent : (lent : List ℕ) → 0 < length lent → Bytes lent ≡ read_carried (moved (Ok (length lent)) lent)
told_lent [] some = absurd (omega (arith, some))
told_lent (byte ∷ piece) some = sym (ap (λ bytes. read_carried (Ok bytes)) (take-length (byte ∷ piece)))

-- what came into the front of a buffer
pub moved_in_front : (answer : Result ℕ SocketFailure) (front rest : List ℕ) → WritesAtMost answer front
    → moved answer (front ++ rest) ≡ moved answer front
moved_in_front (Ok count) front rest within = ap Ok (take-append-le count front rest within)
moved_in_front (Err failure) front rest within = refl

-- what has room of what came
pub take_in_room : (room came count : ℕ) (buffer : List ℕ) → came ≤ length buffer → count ≡ min came room
    → take room (take came buffer) ≡ take count buffer
take_in_room room came count buffer within is =
    let least : min room (length (take came buffer)) ≡ count = omega (arith, is, length-take-le came buffer within) in
    sym (take_min room (take came buffer)) ∙ ap (λ m. take m (take came buffer)) least ∙ take-take count came buffer (omega (arith, is))
