-- Headers of answers, read.
use Rattle.std.specs.Prelude.{◌≡◌, ℕ, List, [], ◌∷◌, ◌++◌, replicate, refl}
use Rattle.session_log.specs.declared.answer.Answer.TheVariants.{LoggedIn, LoginGoesOn, Refused, LoggedOut, Function, CheckCondition, Ended, Asked, Other}
use Rattle.session_log.specs.Answer.{answer_of}

-- opcode, bytes 1 to 3, TSIH, Initiator Task Tag, and Status-Class and Status-Detail
abbrev header : ℕ → ℕ → ℕ → ℕ → ℕ → ℕ → ℕ → ℕ → List ℕ
header opcode flags second third tsih tag class detail =
    opcode ∷ flags ∷ second ∷ third ∷ replicate 10 0 ++ 0 ∷ tsih ∷ 0 ∷ 0 ∷ 0 ∷ tag ∷ replicate 16 0 ++ class ∷ detail ∷ replicate 10 0

-- T, CSG 1 and NSG 3: full feature phase; without T the login goes on
logins : (answer_of (header 0x23 0x87 0 0 7 1 0 0) ≡ LoggedIn 7) × (answer_of (header 0x23 0x04 0 0 0 1 0 0) ≡ LoginGoesOn)
logins = (refl, refl)

-- 0203h, TARGET NOT FOUND
refusal : answer_of (header 0x23 0 0 0 0 1 2 3) ≡ Refused 0x0203
refusal = refl

-- a Task Management response 5, CHECK CONDITION, GOOD, and a Logout that was done
others : (answer_of (header 0x22 0x80 5 0 0 9 0 0) ≡ Function 5 9) × (answer_of (header 0x21 0x80 0 2 0 9 0 0) ≡ CheckCondition 9)
    × (answer_of (header 0x21 0x80 0 0 0 9 0 0) ≡ Ended 9) × (answer_of (header 0x26 0x80 0 0 0 9 0 0) ≡ LoggedOut)
others = (refl, refl, refl, refl)

-- an R2T with Target Transfer Tag 5 to the command with tag 9, for 1024 bytes from 512 on; and a Data-In
abbrev r2t : List ℕ
r2t = 0x31 ∷ 0x80 ∷ replicate 17 0 ++ 9 ∷ 0 ∷ 0 ∷ 0 ∷ 5 ∷ replicate 18 0 ++ 2 ∷ 0 ∷ 0 ∷ 0 ∷ 4 ∷ 0 ∷ []

asks : (answer_of r2t ≡ Asked 9 5 512 1024) × (answer_of (header 0x25 0x80 0 0 0 9 0 0) ≡ Other)
asks = (refl, refl)
