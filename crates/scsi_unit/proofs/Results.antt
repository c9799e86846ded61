-- Clauses on a fault, where what they say holds anyway.
use Rattle.std.proofs.Common.{Result, Ok, Err, OnErr}

pub on_err_any : {T E P : Type 0} (r : Result T E) → P → OnErr r P
on_err_any (Ok x) p = tt
on_err_any (Err e) p = p
