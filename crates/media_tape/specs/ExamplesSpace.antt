-- SPACE (6), computed: among the record `a`, a filemark and the record `b`.
use Rattle.std.specs.Prelude.{◌≡◌, List, [], ◌∷◌, refl}
use Rattle.media_tape.specs.Items.{Item, Record, Filemark}
use Rattle.media_tape.specs.Space.{way}
use Rattle.tape_index.specs.declared.outcome.Over.TheVariants.{Records, Filemarks}
use Rattle.tape_index.specs.declared.outcome.Direction.TheVariants.{Forward, Backward}
use Rattle.tape_index.specs.declared.outcome.Spaced.TheVariants as spaced

abbrev three : List Item
three = Record (97 ∷ []) ∷ Filemark ∷ Record (98 ∷ []) ∷ []

-- over three records: after one, the filemark ends it, with two left
records_ended : way Forward Records 3 three ≡ record { passed = 2; told = spaced.Filemark 2 }
records_ended = refl

-- over one record
record_passed : way Forward Records 1 three ≡ record { passed = 1; told = spaced.Whole }
record_passed = refl

-- over a filemark, and the record before it; over two, of which one is left at the end
filemarks_passed : (way Forward Filemarks 1 three ≡ record { passed = 2; told = spaced.Whole })
    × (way Forward Filemarks 2 three ≡ record { passed = 3; told = spaced.EndOfData 1 })
filemarks_passed = (refl, refl)

-- back over five records, of which three stand before the position
beginning : way Backward Records 5 (Record (97 ∷ []) ∷ Record (98 ∷ []) ∷ Record (99 ∷ []) ∷ [])
    ≡ record { passed = 3; told = spaced.Beginning 2 }
beginning = refl

-- over none
none : way Backward Filemarks 0 three ≡ record { passed = 0; told = spaced.Whole }
none = refl
