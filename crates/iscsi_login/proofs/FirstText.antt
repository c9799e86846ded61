-- The first text of a login, and one without keys.
use Rattle.std.proofs.Common.{◌≡◌, List, [], ◌∷◌, ◌==◌, length, true, false, not, refl, ap, sym, arith}
use Rattle.std.specs.List.{list_any}
use Rattle.std.proofs.lemmas.Bool.Decides.{nat_tests}
use Rattle.iscsi_text.specs.Pairs.{Pair}
use Rattle.iscsi_login.specs.Rules.{is_again}

-- after no pairs none says a key again
pub none_again : (pairs : List Pair) → list_any (is_again []) pairs ≡ false
none_again [] = refl
none_again (pair ∷ pairs) = none_again pairs

pub first_is_new : (earlier more : List Pair) → true ≡ (length earlier == 0) → true ≡ not (list_any (is_again earlier) more)
first_is_new [] more first = sym (ap not (none_again more))
first_is_new (pair ∷ earlier) more first = absurd (grind (arith, nat_tests))

pub empty_is_new : (earlier more : List Pair) → true ≡ (length more == 0) → true ≡ not (list_any (is_again earlier) more)
empty_is_new earlier [] empty = refl
empty_is_new earlier (pair ∷ more) empty = absurd (grind (arith, nat_tests))
