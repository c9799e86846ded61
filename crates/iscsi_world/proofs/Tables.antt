-- Which connections are open, as a list of them and as a test at each number.
use Rattle.std.proofs.Common.{◌≡◌, ◌≢◌, ℕ, zero, suc, replicate, ◌<◌, List, [], ◌∷◌, length, set, get_or, Bool, false, not, eqb, refl, arith}
use Rattle.std.specs.Prelude.{filter}
use Rattle.std.proofs.lemmas.List.{get_or-set_same, get_or-set_other}
use Rattle.iscsi_world.specs.History.{is_among}
use Rattle.iscsi_world.specs.Runs.{IsTable}

-- ---- a connection ends

pub among-gone : (c : ℕ) (before : List ℕ) → is_among c (filter (λ k. not (eqb k c)) before) ≡ false
among-gone c [] = refl
among-gone c (k ∷ before) = grind (arith, among-gone c before)

pub among-gone_other : (d c : ℕ) (before : List ℕ) → d ≢ c → is_among d (filter (λ k. not (eqb k c)) before) ≡ is_among d before
among-gone_other d c [] differ = refl
among-gone_other d c (k ∷ before) differ = grind (arith, among-gone_other d c before differ)

pub gone_table : (table : List Bool) (before : List ℕ) (c : ℕ) → IsTable table before → c < length table
    → IsTable (set table c false) (filter (λ k. not (eqb k c)) before)
gone_table table before c h lt = grind (arith, get_or-set_same, among-gone, get_or-set_other, among-gone_other)

-- ---- no connection is open

none_set : (n c : ℕ) → get_or (replicate n false) c false ≡ false
none_set zero c = refl
none_set (suc n) zero = refl
none_set (suc n) (suc c) = none_set n c

pub new_table : IsTable (replicate 64 false) []
new_table = none_set 64
