-- Between two events nothing is due.
use Rattle.std.specs.Prelude.{◌≡◌, ℕ, ◌<◌, [], Option, Some, None, ⊤}
use Rattle.std.specs.List.{AllByRecursion}
use Rattle.iscsi_session.specs.Requests.{Past}
use Rattle.iscsi_session.specs.Steps.{ready}
use Rattle.iscsi_session.specs.Laws.{NothingIsDue}
use Rattle.iscsi_world.specs.History.{History, connection_limit}
use Rattle.iscsi_world.specs.World.{Setting, present, past_of, world}
use Rattle.iscsi_world.specs.Laws.{HasBytes}

-- No request has to act, no R2T has to be sent, and no Task Management Function Request has to be answered. No
-- command can be done: the first that was taken and is not finished lacks data, or there is none.
abbrev pub IsAtRest : Option Past → Type 0
IsAtRest None = ⊤
IsAtRest (Some past) = NothingIsDue past × (ready past ≡ [])

-- After each event nothing is due in any session that goes on, wherever allocations failed. So what an event makes
-- due is done in that same event.
abbrev pub SessionsAreAtRest : Type 0
SessionsAreAtRest = (s : Setting) (h : History) (c : ℕ) → c < connection_limit → AllByRecursion (λ happening. HasBytes happening.event) h
    → IsAtRest (past_of (present c (world s h)))
