-- The fields of PERSISTENT RESERVE IN and PERSISTENT RESERVE OUT, computed.
use Rattle.std.specs.Prelude.{◌≡◌, ◌∷◌, ◌++◌, Ok, Err, replicate, refl}
use Rattle.scsi_cdb.specs.Command.{command_of}
use Rattle.scsi_cdb.specs.Fault.{invalid_field}
use Rattle.scsi_cdb.specs.PersistentReserve.{reserve_in_of, reserve_out_of}
use Rattle.scsi_cdb.specs.declared.fault.FieldFault.TheVariants.{InvalidField}
use Rattle.scsi_cdb.specs.declared.command.Command.TheVariants as to
use Rattle.scsi_cdb.specs.declared.command.UnitCommand.TheVariants.{ReserveIn, ReserveOut}
use Rattle.scsi_cdb.specs.declared.operation.Kind.TheVariants.{Disk, Tape}
use Rattle.scsi_cdb.specs.declared.persistent_reserve.ReadAction.TheVariants.{ReadKeys, ReadReservation}
use Rattle.scsi_cdb.specs.declared.persistent_reserve.ServiceAction.TheVariants.{Clear, Reserve, Preempt}

-- READ RESERVATION of 0102h bytes; READ FULL STATUS
reserve_in : (reserve_in_of (0x5e ∷ 0x01 ∷ replicate 5 0 ++ 0x01 ∷ 0x02 ∷ replicate 7 0)
    ≡ Ok (record { action = ReadReservation; allocation_length = 0x0102 }))
    × (reserve_in_of (0x5e ∷ 0x03 ∷ replicate 14 0) ≡ Err InvalidField)
reserve_in = (refl, refl)

-- RESERVE of type 5 with a list of 01020304h bytes; of type 2, and of scope 1 and type 5
reserve_out : (reserve_out_of (0x5f ∷ 0x01 ∷ 0x05 ∷ 0 ∷ 0 ∷ 0x01 ∷ 0x02 ∷ 0x03 ∷ 0x04 ∷ replicate 7 0)
    ≡ Ok (record { action = Reserve; scope = 0; code = 5; list_length = 0x01020304 }))
    × (reserve_out_of (0x5f ∷ 0x01 ∷ 0x02 ∷ replicate 13 0) ≡ Err InvalidField)
    × (reserve_out_of (0x5f ∷ 0x01 ∷ 0x15 ∷ replicate 13 0) ≡ Err InvalidField)
reserve_out = (refl, refl, refl)

-- PREEMPT of scope 1 and type 2; PREEMPT AND ABORT, REGISTER AND MOVE
preempt : (reserve_out_of (0x5f ∷ 0x04 ∷ 0x12 ∷ replicate 5 0 ++ 0x18 ∷ replicate 7 0)
    ≡ Ok (record { action = Preempt; scope = 1; code = 2; list_length = 24 }))
    × (reserve_out_of (0x5f ∷ 0x05 ∷ replicate 14 0) ≡ Err InvalidField)
    × (reserve_out_of (0x5f ∷ 0x07 ∷ replicate 14 0) ≡ Err InvalidField)
preempt = (refl, refl, refl)

-- of disks and tapes alike: READ KEYS of 8 bytes, CLEAR with a list of 24, and what is refused
commands : (command_of (0x5e ∷ replicate 7 0 ++ 8 ∷ replicate 7 0) Disk 0
    ≡ Ok (to.Unit (ReserveIn (record { action = ReadKeys; allocation_length = 8 }))))
    × (command_of (0x5f ∷ 0x03 ∷ replicate 6 0 ++ 24 ∷ replicate 7 0) Tape 0
    ≡ Ok (to.Unit (ReserveOut (record { action = Clear; scope = 0; code = 0; list_length = 24 }))))
    × (command_of (0x5e ∷ 0x03 ∷ replicate 14 0) Disk 0 ≡ Err invalid_field)
    × (command_of (0x5f ∷ 0x02 ∷ replicate 14 0) Tape 0 ≡ Err invalid_field)
commands = (refl, refl, refl, refl)
