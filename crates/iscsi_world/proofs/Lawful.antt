-- Each session of a World has a lawful past, whatever has happened.
use Rattle.std.proofs.Common.{◌≡◌, ℕ, List, Option, Some, None, refl, arith}
use Rattle.iscsi_session.specs.Requests.{Past}
use Rattle.iscsi_session.specs.State.{IsLawful}
use Rattle.iscsi_session.specs.Steps.{Work}
use Rattle.iscsi_session.specs.Laws.{TagsDiffer}
use Rattle.iscsi_session.proofs.Tags.{live_tags_differ}
use Rattle.iscsi_session.proofs.Removing.{lawful_removing}
use Rattle.iscsi_session.proofs.Lawful.{taken_once, finished_as_taken, steps_are_lawful}
use Rattle.iscsi_world.specs.History.{Mark}
use Rattle.iscsi_world.specs.World.{present, past_of, world, fails, reach_from, losing}
use Rattle.iscsi_world.specs.Laws.{FinishesAsTaken, SessionsFinishAsTaken, HaveDistinctTags, LiveTagsAreDistinct, OthersStay}
use Rattle.iscsi_world.proofs.Framed.{Fits}
use Rattle.iscsi_world.proofs.Keeping.{world-push}
use Rattle.iscsi_world.proofs.Linked.{present-close_other}
use Rattle.iscsi_world.proofs.Lives.{present-end_other, present-lives}
use Rattle.iscsi_world.proofs.EachSession.{Each, each_walk, each_past, each_world}
use Rattle.iscsi_world.proofs.Walks.{Walk, IsAny, on-serve}

abbrev AreLawful : ℕ → Past → Type 0
AreLawful d past = IsLawful past

pub lost_lawful : (header : List ℕ) (work : Work) → IsLawful work.past → IsLawful (losing header work).past
lost_lawful header work lawful = lawful_removing (reach_from header work.units.states) work.past lawful

lawful_walk : (marks : List Mark) → Walk marks (λ w v. Each AreLawful w → Each AreLawful v) (λ c frame. Fits frame) IsAny
lawful_walk marks = each_walk AreLawful marks
    (λ c place frame work fits lawful on. steps_are_lawful.served (fails marks c) place frame work fits lawful)
    (λ c target place work own lawful on. steps_are_lawful.settled (fails marks c) place work lawful)
    (λ d target header work same own lawful. lost_lawful header work lawful)

-- lawful, with tags that differ
abbrev AreTagged : ℕ → Past → Type 0
AreTagged d past = IsLawful past × TagsDiffer past

tagged_walk : (marks : List Mark) → Walk marks (λ w v. Each AreTagged w → Each AreTagged v) (λ c frame. Fits frame) IsAny
tagged_walk marks = each_walk AreTagged marks
    (λ c place frame work fits ok on.
    (steps_are_lawful.served (fails marks c) place frame work fits ok.0, live_tags_differ.served (fails marks c) place frame work ok.0 ok.1))
    (λ c target place work own ok on.
    (steps_are_lawful.settled (fails marks c) place work ok.0, live_tags_differ.settled (fails marks c) place work ok.0 ok.1))
    (λ d target header work same own ok. (lost_lawful header work ok.0, live_tags_differ.removed _ work.past ok.1))

-- ---- the laws

distinct_in : (o : Option Past) → ((past : Past) → o ≡ Some past → AreTagged 0 past) → HaveDistinctTags o
distinct_in None tagged = tt
distinct_in (Some past) tagged =
    let ok = tagged past refl in record { commands = ok.0.tags; functions = ok.0.function_tags; apart = ok.1 }

pub live_tags_are_distinct : LiveTagsAreDistinct
live_tags_are_distinct s h c bytes = distinct_in (past_of (present c (world s h))) (λ past is. each_past AreTagged c (world s h) past
    (each_world AreTagged s (λ d session. (steps_are_lawful.begun session, live_tags_differ.begun session))
    (λ marks d place frame session w at fits tagged.
    on-serve (tagged_walk marks) d place session.params.target frame w fits (λ target own. tt) tagged) h bytes) is)

finishes : (o : Option Past) → ((past : Past) → o ≡ Some past → IsLawful past) → FinishesAsTaken o
finishes o lawful = grind (arith, taken_once, finished_as_taken)

pub sessions_finish_as_taken : SessionsFinishAsTaken
sessions_finish_as_taken s h c bytes = finishes (past_of (present c (world s h))) (λ past is. each_past AreLawful c (world s h) past
    (each_world AreLawful s (λ d session. steps_are_lawful.begun session)
    (λ marks d place frame session w at fits lawful.
    on-serve (lawful_walk marks) d place session.params.target frame w fits (λ target own. tt) lawful) h bytes) is)

pub others_stay : OthersStay
others_stay = grind (arith, present-close_other, world-push, present-end_other, present-lives)
