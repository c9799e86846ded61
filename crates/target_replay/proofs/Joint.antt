-- What the target says of a connection, and what the World says of it.
use Rattle.std.proofs.Common.{◌≡◌, ◌≢◌, ℕ, ◌+◌, ◌<◌, Bool, true, false, List, [], ◌∷◌, ◌++◌, length, refl, sym, ap, ◌∙◌, Option, None, Some, is_some, arith}
use Rattle.std.proofs.lemmas.List.{length-drop}
use Rattle.iscsi_login.specs.Directory.{KnownTargets}
use Rattle.iscsi_target.specs.History.{History, Gone, plain, connection_limit}
use Rattle.iscsi_target.specs.Life.{Life, Phase, LoggingIn, FullFeature, Closing, Over}
use Rattle.iscsi_target.specs.World.{Setting, World, present, world}
use Rattle.iscsi_target.specs.Output.{out_now}
use Rattle.iscsi_target.specs.Machine.{Machine, LinkState, link_at, is_open_at, is_closing}
use Rattle.iscsi_target.specs.Stands.{link_of, half_of, phase_for, StandsAt}
use Rattle.iscsi_target.proofs.Lives.{present-end, present-end_other}
use Rattle.iscsi_target.proofs.Standing.{is_free_there, is_open_there, link_stands, waits_there, fresh, present-fresh}
use Rattle.iscsi_target.proofs.Keeping.{world-push}
use Rattle.target_replay.specs.Printed.{is_closing_phase, is_closed, all_sent, unsent}

-- ---- one connection

open_by : (s : Setting) (sent : ℕ → ℕ) (w : World) (machine : Machine) (c : ℕ) (b : Bool) → c < connection_limit → StandsAt s sent w machine
    → is_open_at machine c ≡ b → b ≡ is_some (present c w)
open_by s sent w machine c true lt h e = let there = is_open_there s sent w machine c lt h e in sym (ap is_some there.1)
open_by s sent w machine c false lt h e = sym (ap is_some (is_free_there s sent w machine c lt h e))

pub open_same : (s : Setting) (sent : ℕ → ℕ) (w : World) (machine : Machine) (c : ℕ) → c < connection_limit → StandsAt s sent w machine
    → is_open_at machine c ≡ is_some (present c w)
open_same s sent w machine c lt h = open_by s sent w machine c (is_open_at machine c) lt h refl

closing_in : (directory : KnownTargets) (life : Life) (phase : Phase) → is_closing (phase_for directory life phase) ≡ is_closing_phase phase
closing_in directory life LoggingIn = refl
closing_in directory life (FullFeature session) = refl
closing_in directory life Closing = refl
closing_in directory life Over = refl

closing_of : (directory : KnownTargets) (sent : ℕ) (half : List ℕ) (o : Option Life) → is_closing (link_of directory sent half o).phase ≡ is_closed o
closing_of directory sent half None = refl
closing_of directory sent half (Some life) = closing_in directory life life.phase

pub closing_same : (s : Setting) (sent : ℕ → ℕ) (w : World) (machine : Machine) (c : ℕ) → c < connection_limit → StandsAt s sent w machine
    → is_closing (link_at machine c).phase ≡ is_closed (present c w)
closing_same s sent w machine c lt h =
    ap (λ (link : LinkState). is_closing link.phase) (link_stands s sent w machine c lt h) ∙ closing_of s.directory (sent c) (half_of (present c w)) (present c w)

pub waiting_same : (s : Setting) (sent : ℕ → ℕ) (w : World) (machine : Machine) (c : ℕ) → c < connection_limit → StandsAt s sent w machine
    → (link_at machine c).waiting ≡ unsent sent w c
unfolding unsent
waiting_same s sent w machine c lt h = waits_there s sent w machine c lt h

-- where all that waits is sent, all that was answered is
pub sent_whole : (s : Setting) (sent : ℕ → ℕ) (w : World) (machine : Machine) (c : ℕ) → c < connection_limit → StandsAt s sent w machine
    → sent c + length (link_at machine c).waiting ≡ all_sent w c
sent_whole s sent w machine c lt h =
    omega (arith, h.answered c lt, ap length (waits_there s sent w machine c lt h) ∙ length-drop (sent c) (out_now (present c w)))

-- ---- a connection that is gone

pub gone_life : (s : Setting) (h : History) (c : ℕ) → present c (world s (h ++ plain (Gone c) ∷ [])) ≡ None
gone_life s h c = ap (present c) (world-push s h (plain (Gone c))) ∙ present-end c (fresh (world s h))

pub gone_answered : (s : Setting) (h : History) (c : ℕ) → all_sent (world s (h ++ plain (Gone c) ∷ [])) c ≡ 0
gone_answered s h c = ap (λ (o : Option Life). length (out_now o)) (gone_life s h c)

pub present-gone_other : (s : Setting) (h : History) (c d : ℕ) → d ≢ c → present d (world s (h ++ plain (Gone c) ∷ [])) ≡ present d (world s h)
present-gone_other s h c d differ =
    let w = world s h in
    ap (present d) (world-push s h (plain (Gone c))) ∙ present-end_other c d (fresh w) differ ∙ present-fresh d w
