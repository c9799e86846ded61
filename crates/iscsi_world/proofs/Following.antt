-- What a life becomes where bytes come, on any connection: it asks and is answered more.
use Rattle.std.proofs.Common.{◌≡◌, ℕ, List, [], ◌∷◌, ◌++◌, Bool, true, false, not, eqb, Some, refl, sym, ◌∙◌, append_assoc, append-nil, arith}
use Rattle.std.specs.Prelude.{find, ⊤}
use Rattle.iscsi_pdu.specs.Frames.{Frame}
use Rattle.iscsi_world.specs.Life.{Life, is_over, out_of}
use Rattle.iscsi_world.specs.World.{is_present, changed_first}
use Rattle.iscsi_world.specs.Laws.{GoesOn, LivesGoOn}
use Rattle.iscsi_world.proofs.Choices.{and_true, not_true}

pub is_open_here : (c : ℕ) (life : Life) → is_present c life ≡ true → is_over life.phase ≡ false
is_open_here c life e = not_true (is_over life.phase) (and_true (eqb life.connection c) (not (is_over life.phase)) e).1

-- ---- one life

-- it asked this, and perhaps more
pub record Asks (x y : Life) : Type 0 where
  pub connection : y.connection ≡ x.connection
  pub more : List Frame
  pub requests : y.requests ≡ x.requests ++ more

pub asks_same : (x y : Life) → y.connection ≡ x.connection → y.requests ≡ x.requests → Asks x y
asks_same x y c r = record { connection = c; more = []; requests = r ∙ sym (append-nil x.requests) }

pub record Follows (x y : Life) : Type 0 where
  pub goes : GoesOn x y
  pub asks : Asks x y

life_same : (x : Life) → Follows x x
life_same x = grind (arith, append-nil)

life_then : (x y z : Life) → Follows x y → Follows y z → Follows x z
life_then x y z f g = grind (arith, append_assoc)

-- ---- all lives

abbrev pub LivesFollow : List Life → List Life → Type 0
LivesFollow [] [] = ⊤
LivesFollow (x ∷ xs) (y ∷ ys) = Follows x y × LivesFollow xs ys
LivesFollow _ _ = ⊥

pub lives_same : (lives : List Life) → LivesFollow lives lives
lives_same [] = tt
lives_same (x ∷ lives) = (life_same x, lives_same lives)

pub lives_then : (xs ys zs : List Life) → LivesFollow xs ys → LivesFollow ys zs → LivesFollow xs zs
lives_then [] [] zs a b = b
lives_then [] (y ∷ ys) zs a b = absurd a
lives_then (x ∷ xs) [] zs a b = absurd a
lives_then (x ∷ xs) (y ∷ ys) [] a b = absurd b
lives_then (x ∷ xs) (y ∷ ys) (z ∷ zs) a b = (life_then x y z a.0 b.0, lives_then xs ys zs a.1 b.1)

pub lives_go : (xs ys : List Life) → LivesFollow xs ys → LivesGoOn xs ys
lives_go [] [] f = tt
lives_go (x ∷ xs) (y ∷ ys) f = (f.0.goes, lives_go xs ys f.1)
lives_go [] (y ∷ ys) f = absurd f
lives_go (x ∷ xs) [] f = absurd f

-- f of an open life goes on from it, with the same bytes, and reads only where it did
pub record Continues (f : Life → Life) (x : Life) : Type 0 where
  pub connection : (f x).connection ≡ x.connection
  pub is_open : is_over (f x).phase ≡ false
  pub answered : (more : List ℕ) × (out_of (f x) ≡ out_of x ++ more)
  pub asks : Asks x (f x)

goes_by : (f : Life → Life) (x : Life) → is_over x.phase ≡ false → Continues f x → Follows x (f x)
goes_by f x open_ c = grind arith

pub lives_changed : (f : Life → Life) (c : ℕ) (lives : List Life) → ((life : Life) → find (is_present c) lives ≡ Some life → Continues f life)
    → LivesFollow lives (changed_first (is_present c) f lives)
lives_changed f c [] each = tt
lives_changed f c (x ∷ lives) each = by_test (is_present c x) refl (λ later. lives_changed f c lives later)
  where
    by_test : (b : Bool) → is_present c x ≡ b
        → (((life : Life) → find (is_present c) lives ≡ Some life → Continues f life) → LivesFollow lives (changed_first (is_present c) f lives))
        → LivesFollow (x ∷ lives) (changed_first (is_present c) f (x ∷ lives))
    by_test true e further = rw e (goes_by f x (is_open_here c x e) (each x (rw e refl)), lives_same lives)
    by_test false e further = rw e (life_same x, further (λ life at. each life (rw e at)))
