-- Whatever happens, the Login requests of a life stay, and more may come after them: so a life that names a target goes on to name it.
use Rattle.std.proofs.Common.{◌≡◌, ℕ, suc, List, [], ◌∷◌, length, map, Bool, refl, ap, arith}
use Rattle.std.specs.Prelude.{⊤}
use Rattle.std.specs.List.{fold}
use Rattle.iscsi_login.specs.Directory.{KnownTargets}
use Rattle.iscsi_world.specs.History.{Event, Open, Bytes, Gone, Mark, History}
use Rattle.iscsi_world.specs.Life.{Life, born}
use Rattle.iscsi_world.specs.World.{Setting, World, is_present, over, end, bring, happen, begun_event, happened}
use Rattle.iscsi_world.specs.Isolation.{named_in}
use Rattle.iscsi_world.proofs.Following.{Asks, asks_same, LivesFollow}
use Rattle.iscsi_world.proofs.Keeping.{Prolongs, on-bring}
use Rattle.iscsi_world.proofs.IsolatedLives.{AllFrom, Selection, HasTarget, all_front}
use Rattle.iscsi_world.proofs.IsolatedLogin.{named_later}

-- ---- all lives

unfoldable pub LivesAsk : List Life → List Life → Type 0
LivesAsk [] [] = ⊤
LivesAsk (x ∷ xs) (y ∷ ys) = Asks x y × LivesAsk xs ys
LivesAsk _ _ = ⊥

lives_ask : (xs ys : List Life) → LivesFollow xs ys → LivesAsk xs ys
unfolding LivesAsk
lives_ask [] [] f = tt
lives_ask (x ∷ xs) (y ∷ ys) f = (f.0.asks, lives_ask xs ys f.1)
lives_ask [] (y ∷ ys) f = absurd f
lives_ask (x ∷ xs) [] f = absurd f

lives_map : (f : Life → Life) (lives : List Life) → ((x : Life) → Asks x (f x)) → LivesAsk lives (map f lives)
unfolding LivesAsk
lives_map f [] each = tt
lives_map f (x ∷ lives) each = (each x, lives_map f lives each)

lives_count : (xs ys : List Life) → LivesAsk xs ys → length ys ≡ length xs
unfolding LivesAsk
lives_count [] [] a = refl
lives_count [] (y ∷ ys) a = absurd a
lives_count (x ∷ xs) [] a = absurd a
lives_count (x ∷ xs) (y ∷ ys) a = ap suc (lives_count xs ys a.1)

-- ---- what the lives name

-- a life that names a target is kept exactly where it names this one
unfoldable pub Named : Selection → KnownTargets → ℕ → Life → Type 0
Named g directory k x = HasTarget g (g.keeps k) (named_in directory x)

abbrev pub AreNamed : Selection → KnownTargets → World → Type 0
AreNamed g directory w = AllFrom (Named g directory) 0 w.lives

back_from : (g : Selection) (directory : KnownTargets) (n : ℕ) (xs ys : List Life) → LivesAsk xs ys → AllFrom (Named g directory) n ys
    → AllFrom (Named g directory) n xs
unfolding LivesAsk AllFrom Named HasTarget
back_from g directory n [] [] asks all = tt
back_from g directory n [] (y ∷ ys) asks all = absurd asks
back_from g directory n (x ∷ xs) [] asks all = absurd asks
back_from g directory n (x ∷ xs) (y ∷ ys) asks all = grind (arith, named_later, back_from g directory (suc n) xs ys asks.1 all.1)

-- ---- what is done

unfoldable pub Adds : World → World → Type 0
Adds w v = LivesAsk w.lives v.lives

-- what is true of the names later was true before
pub named_before : (g : Selection) (directory : KnownTargets) (w v : World) → Adds w v → AreNamed g directory v → AreNamed g directory w
unfolding Adds
named_before g directory w v adds all = back_from g directory 0 w.lives v.lives adds all

pub adds-goes : (w v : World) → Prolongs w v → Adds w v
unfolding Adds
adds-goes w v goes = lives_ask w.lives v.lives goes.lives

pub adds-bring : (s : Setting) (marks : List Mark) (c : ℕ) (piece : List ℕ) (w : World) → Adds w (bring s marks c piece w)
unfolding Adds
adds-bring s marks c piece w = lives_ask w.lives (bring s marks c piece w).lives (on-bring s marks c piece w)

over_asks : (b : Bool) (c : ℕ) (x : Life) → is_present c x ≡ b → Asks x (over c x)
over_asks b c x e = grind (arith, asks_same)

pub adds-end : (c : ℕ) (w : World) → Adds w (end c w)
unfolding Adds end
adds-end c w = lives_map (over c) w.lives (λ x. over_asks (is_present c x) c x refl)

-- as many lives
pub same_count : (w v : World) → Adds w v → length v.lives ≡ length w.lives
unfolding Adds
same_count w v adds = lives_count w.lives v.lives adds

-- what is true of the names after an event was true before it
named_happen : (g : Selection) (s : Setting) (marks : List Mark) (w : World) (event : Event) → AreNamed g s.directory (happen s marks w event)
    → AreNamed g s.directory w
named_happen g s marks w (Open c) named = all_front (Named g s.directory) 0 w.lives (born c ∷ []) named
named_happen g s marks w (Bytes c piece) named = named_before g s.directory w (bring s marks c piece w) (adds-bring s marks c piece w) named
named_happen g s marks w (Gone c) named = named_before g s.directory w (end c w) (adds-end c w) named

pub named_first : (g : Selection) (s : Setting) (w : World) (h : History) → AreNamed g s.directory (fold (happened s) w h) → AreNamed g s.directory w
named_first g s w [] named = named
named_first g s w (x ∷ h) named = named_happen g s x.marks (begun_event x.comings w) x.event (named_first g s (happened s w x) h named)
