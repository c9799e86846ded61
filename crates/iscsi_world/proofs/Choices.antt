-- Which way a test went.
use Rattle.std.proofs.Common.{◌≡◌, ℕ, Bool, true, false, cond, not, ◌&&◌, eqb, refl, arith}
use Rattle.std.proofs.lemmas.Bool.{eq-eqb}

pub cond_true : {X : Type 0} (b : Bool) (x y : X) → b ≡ true → cond b x y ≡ x
cond_true b x y e = grind arith

pub cond_false : {X : Type 0} (b : Bool) (x y : X) → b ≡ false → cond b x y ≡ y
cond_false b x y e = grind arith

pub and_true : (a b : Bool) → (a && b) ≡ true → (a ≡ true) × (b ≡ true)
and_true a b e = grind arith

pub and_false : (b : Bool) → (b && false) ≡ false
and_false b = grind arith

pub not_true : (b : Bool) → not b ≡ true → b ≡ false
not_true b e = grind arith

pub eqb_self : (n : ℕ) → eqb n n ≡ true
eqb_self n = eq-eqb n n refl
