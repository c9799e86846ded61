-- The lives of a list that are kept: what is done to a life that is kept is done to it there, and what is done to another leaves no trace.
use Rattle.std.proofs.Common.{◌≡◌, ℕ, suc, ◌+◌, List, [], ◌∷◌, ◌++◌, length, map, Bool, true, false, cond, eqb, Option, Some, None, refl, subst, arith}
use Rattle.std.specs.Prelude.{find, slice_get, ⊤}
use Rattle.iscsi_login.specs.declared.session_params.SessionParams.{SessionParams}
use Rattle.iscsi_world.specs.History.{is_among}
use Rattle.iscsi_world.specs.Life.{Life, is_over, session_in}
use Rattle.iscsi_world.specs.World.{is_present, changed_first, over}
use Rattle.iscsi_world.specs.Isolation.{kept_from}

-- ---- lists

unfoldable pub AllFrom : {X : Type 0} → (ℕ → X → Type 0) → ℕ → List X → Type 0
AllFrom P n [] = ⊤
AllFrom P n (x ∷ xs) = P n x × AllFrom P (suc n) xs

pub kept_append : {X : Type 0} (keeps : ℕ → Bool) (n : ℕ) (xs ys : List X)
    → kept_from keeps n (xs ++ ys) ≡ kept_from keeps n xs ++ kept_from keeps (n + length xs) ys
kept_append keeps n [] ys = grind arith
kept_append keeps n (x ∷ xs) ys = grind (arith, kept_append keeps (suc n) xs ys)

pub kept_map : {X Y : Type 0} (keeps : ℕ → Bool) (f : X → Y) (n : ℕ) (xs : List X) → kept_from keeps n (map f xs) ≡ map f (kept_from keeps n xs)
kept_map keeps f n [] = refl
kept_map keeps f n (x ∷ xs) = grind (arith, kept_map keeps f (suc n) xs)

-- ---- a selection of lives, between two events

-- For a target: which lives are kept, by their number; which connections are open, and of which the last life is kept
pub record Selection : Type 0 where
  pub target : ℕ
  pub keeps : ℕ → Bool
  pub opened : List ℕ
  pub keeps_on : ℕ → Bool

-- where there is a target, it is this one exactly where b is true
unfoldable pub HasTarget : Selection → Bool → Option ℕ → Type 0
HasTarget g b o = (t : ℕ) → o ≡ Some t → b ≡ eqb t g.target

-- a life that is not over is the last of an open connection; a session of a kept life is with no other target, and one of another life not with this
pub record Fits (g : Selection) (k : ℕ) (x : Life) : Type 0 where
  pub placed : is_over x.phase ≡ false → (is_among x.connection g.opened ≡ true) × (g.keeps k ≡ g.keeps_on x.connection)
  pub session : (p : SessionParams) → session_in x.phase ≡ Some p → HasTarget g (g.keeps k) p.target

-- a present life is kept where its connection's last is
pub number_of : (g : Selection) (c k : ℕ) (x : Life) → is_present c x ≡ true → Fits g k x → g.keeps k ≡ g.keeps_on c
number_of g c k x e fit = grind arith

-- ---- a connection whose present life is kept, or not

pub find_kept : (g : Selection) (c n : ℕ) (lives : List Life) → AllFrom (Fits g) n lives
    → find (is_present c) (kept_from g.keeps n lives) ≡ cond (g.keeps_on c) (find (is_present c) lives) None
unfolding AllFrom
find_kept g c n [] fits = grind arith
find_kept g c n (x ∷ lives) fits = grind (arith, find_kept g c (suc n) lives fits.1, number_of g c n x)

pub changed_kept : (g : Selection) (f : Life → Life) (c n : ℕ) (lives : List Life) → AllFrom (Fits g) n lives
    → kept_from g.keeps n (changed_first (is_present c) f lives)
    ≡ cond (g.keeps_on c) (changed_first (is_present c) f (kept_from g.keeps n lives)) (kept_from g.keeps n lives)
unfolding AllFrom
changed_kept g f c n [] fits = grind arith
changed_kept g f c n (x ∷ lives) fits = grind (arith, changed_kept g f c (suc n) lives fits.1, number_of g c n x)

pub over_out : (g : Selection) (c n : ℕ) (lives : List Life) → AllFrom (Fits g) n lives → g.keeps_on c ≡ false
    → kept_from g.keeps n (map (over c) lives) ≡ kept_from g.keeps n lives
unfolding AllFrom
over_out g c n [] fits on = refl
over_out g c n (x ∷ lives) fits on = grind (arith, over_out g c (suc n) lives fits.1 on, number_of g c n x)

-- ---- what fits

-- the life that is found
pub found_fits : (P : ℕ → Life → Type 0) (c n : ℕ) (lives : List Life) (life : Life) → AllFrom P n lives → find (is_present c) lives ≡ Some life
    → (k : ℕ) × P k life
unfolding AllFrom
found_fits P c n [] life fits at = absurd cc
found_fits P c n (x ∷ lives) life fits at = grind (arith, found_fits P c (suc n) lives life fits.1, fits.0)

pub first_fits : (P : ℕ → Life → Type 0) (f : Life → Life) (c n : ℕ) (lives : List Life) → AllFrom P n lives
    → ((life : Life) → find (is_present c) lives ≡ Some life → (k : ℕ) → P k life → P k (f life))
    → AllFrom P n (changed_first (is_present c) f lives)
unfolding AllFrom
first_fits P f c n [] fits each = tt
first_fits P f c n (x ∷ lives) fits each = grind (arith, first_fits P f c (suc n) lives fits.1, each x, fits.0)

pub all_map : {X : Type 0} (P Q : ℕ → X → Type 0) (f : X → X) (n : ℕ) (xs : List X) → ((k : ℕ) (x : X) → P k x → Q k (f x)) → AllFrom P n xs
    → AllFrom Q n (map f xs)
unfolding AllFrom
all_map P Q f n [] each all = tt
all_map P Q f n (x ∷ xs) each all = (each n x all.0, all_map P Q f (suc n) xs each all.1)

pub all_as : {X : Type 0} (P Q : ℕ → X → Type 0) (n : ℕ) (xs : List X) → ((k : ℕ) (x : X) → P k x → Q k x) → AllFrom P n xs → AllFrom Q n xs
unfolding AllFrom
all_as P Q n [] each all = tt
all_as P Q n (x ∷ xs) each all = (each n x all.0, all_as P Q (suc n) xs each all.1)

pub all_push : {X : Type 0} (P : ℕ → X → Type 0) (n : ℕ) (xs : List X) (x : X) → AllFrom P n xs → P (n + length xs) x → AllFrom P n (xs ++ x ∷ [])
unfolding AllFrom
all_push P n [] x all last = let same : n + 0 ≡ n = omega arith in (subst (λ (k : ℕ). P k x) same last, tt)
all_push P n (y ∷ xs) x all last =
    let same : n + length (y ∷ xs) ≡ suc n + length xs = omega arith in
    (all.0, all_push P (suc n) xs x all.1 (subst (λ (k : ℕ). P k x) same last))

-- each place of a list
pub all_places : {X : Type 0} (P : ℕ → X → Type 0) (n : ℕ) (xs : List X) → ((k : ℕ) (x : X) → slice_get xs k ≡ Some x → P (n + k) x) → AllFrom P n xs
unfolding AllFrom
all_places P n [] each = tt
all_places P n (x ∷ xs) each =
    let same : n + 0 ≡ n = omega arith in (
      subst (λ (k : ℕ). P k x) same (each 0 x refl),
      all_places P (suc n) xs (λ k y at. (let further : n + suc k ≡ suc n + k = omega arith in
          subst (λ (m : ℕ). P m y) further (each (suc k) y at))),
    )

pub all_both : {X : Type 0} (P Q : ℕ → X → Type 0) (n : ℕ) (xs : List X) → AllFrom P n xs → AllFrom Q n xs → AllFrom (λ k x. P k x × Q k x) n xs
unfolding AllFrom
all_both P Q n [] p q = tt
all_both P Q n (x ∷ xs) p q = ((p.0, q.0), all_both P Q (suc n) xs p.1 q.1)

pub all_front : {X : Type 0} (P : ℕ → X → Type 0) (n : ℕ) (xs ys : List X) → AllFrom P n (xs ++ ys) → AllFrom P n xs
unfolding AllFrom
all_front P n [] ys all = tt
all_front P n (x ∷ xs) ys all = (all.0, all_front P (suc n) xs ys all.1)
