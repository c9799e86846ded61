-- The data of a Data-Out that is lent while its PDU arrives, computed.
use Rattle.std.specs.Prelude.{◌≡◌, ℕ, List, [], ◌∷◌, ◌++◌, take, replicate, refl}
use Rattle.std.specs.Borrow.{Bor}
use Rattle.iscsi_pdu.specs.Parts.{is_data_out, data_so_far, shown, joined}
use Rattle.iscsi_pdu.specs.declared.part.Part.TheVariants as parts

-- a Data-Out with four bytes of additional header and a data segment of five bytes
abbrev header : List ℕ
header = 0x05 ∷ 0x80 ∷ 0 ∷ 0 ∷ 1 ∷ 0 ∷ 0 ∷ 5 ∷ replicate 40 0

abbrev data_out : List ℕ
data_out = header ++ replicate 4 9 ++ (1 ∷ 2 ∷ 3 ∷ 4 ∷ 5 ∷ []) ++ replicate 3 0

-- no data has come with the additional header, two bytes have come two bytes later, and pad bytes are no data
data_in_parts : (data_so_far (take 52 data_out) ≡ []) × (data_so_far (take 54 data_out) ≡ 1 ∷ 2 ∷ []) × (data_so_far data_out ≡ 1 ∷ 2 ∷ 3 ∷ 4 ∷ 5 ∷ [])
unfolding data_so_far is_data_out
data_in_parts = (refl, refl, refl)

-- zeros stand for what came after the header
kept_of_it : shown (take 54 data_out) ≡ header ++ replicate 6 0
unfolding shown is_data_out
kept_of_it = refl

-- of any other PDU all is kept: here of a SCSI Command
kept_of_others : shown (0x01 ∷ 1 ∷ 2 ∷ replicate 60 7) ≡ 0x01 ∷ 1 ∷ 2 ∷ replicate 60 7
unfolding shown is_data_out
kept_of_others = refl

-- the data lent, put together, is the data segment of the frame
lent_twice : (a b : Bor (List ℕ)) → joined [] (parts.Nothing ∷ parts.Data header a ∷ parts.Data header b ∷ parts.End header ∷ [])
    ≡ record { header = header; body = a.now ++ b.now } ∷ []
lent_twice a b = refl
