-- A file's contents, up to a limit.
use Rattle.std.proofs.Common.{◌≡◌, ℕ, List, [], ◌++◌, take, Option, Some, None}
use Rattle.std.specs.Prelude.{IfSome, option_map}
use Rattle.std.specs.declared.io.Take.{Take}
use Rattle.std.specs.Io.Take.{take_remaining}

limited : (known : Option (List ℕ)) (limit : ℕ) (contents : List ℕ) → IfSome (option_map (take limit) known) (λ xs. contents ≡ xs)
    → IfSome known (λ all. contents ≡ take limit all)
limited None limit contents h = tt
limited (Some all) limit contents h = h

pub taken_contents : {R : Type 0} (remaining : R → Option (List ℕ)) (file : R) (t : Take R) (limit : ℕ) (contents old : List ℕ) → t.limit ≡ limit
    → t.inner ≡ file → old ≡ []
    → IfSome (take_remaining remaining t) (λ xs. contents ≡ old ++ xs) → IfSome (remaining file) (λ all. contents ≡ take limit all)
taken_contents remaining file t limit contents old most inner none h = limited (remaining file) limit contents (rw (none, most, inner) at h)
