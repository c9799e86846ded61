-- Items and their bytes, computed.
use Rattle.std.specs.Prelude.{◌≡◌, [], ◌∷◌, refl}
use Rattle.media_tape.specs.Items.{Record, Filemark, spelling, front, items_in, items_of, items_sized, torn_at}

-- the record `ab` and a filemark: 00000002 6162 00000002 00000000 00000000
spelled_items : spelling (Record (97 ∷ 98 ∷ []) ∷ Filemark ∷ []) ≡ 0 ∷ 0 ∷ 0 ∷ 2 ∷ 97 ∷ 98 ∷ 0 ∷ 0 ∷ 0 ∷ 2 ∷ 0 ∷ 0 ∷ 0 ∷ 0 ∷ 0 ∷ 0 ∷ 0 ∷ 0 ∷ []
spelled_items = refl

read_back : items_of (0 ∷ 0 ∷ 0 ∷ 2 ∷ 97 ∷ 98 ∷ 0 ∷ 0 ∷ 0 ∷ 2 ∷ 0 ∷ 0 ∷ 0 ∷ 0 ∷ 0 ∷ 0 ∷ 0 ∷ 0 ∷ []) ≡ Record (97 ∷ 98 ∷ []) ∷ Filemark ∷ []
unfolding items_in front
read_back = refl

-- cut to 17 bytes
torn : torn_at (0 ∷ 0 ∷ 0 ∷ 2 ∷ 97 ∷ 98 ∷ 0 ∷ 0 ∷ 0 ∷ 2 ∷ 0 ∷ 0 ∷ 0 ∷ 0 ∷ 0 ∷ 0 ∷ 0 ∷ []) ≡ 10
unfolding items_in front
torn = refl

-- items of 10 and of 8 bytes: those that stand there; and in a store that has one byte of them, zeros in place of the rest
by_their_sizes : (items_sized (10 ∷ 8 ∷ []) (0 ∷ 0 ∷ 0 ∷ 2 ∷ 97 ∷ 98 ∷ 0 ∷ 0 ∷ 0 ∷ 2 ∷ 0 ∷ 0 ∷ 0 ∷ 0 ∷ 0 ∷ 0 ∷ 0 ∷ 0 ∷ [])
    ≡ Record (97 ∷ 98 ∷ []) ∷ Filemark ∷ [])
    × (items_sized (10 ∷ 8 ∷ []) (0 ∷ 0 ∷ 0 ∷ 9 ∷ 97 ∷ []) ≡ Record (97 ∷ 0 ∷ []) ∷ Filemark ∷ [])
by_their_sizes = (refl, refl)
