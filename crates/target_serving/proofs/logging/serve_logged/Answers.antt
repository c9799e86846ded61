use Rattle.std.proofs.Common.{[], inl, inr, refl}
use Rattle.std.proofs.KnownBytes.{Appends-nil, Keeps-refl}
use Rattle.target_serving.proofs.LogOpened.{log_opened, log_unopened}
use Rattle.target_serving.proofs.logging.serve_logged.Goals as goal

-- nothing of the line was printed
pub returns-in-Err-clause-serves : goal.returns-in-Err-clause-serves
returns-in-Err-clause-serves g c = elim c.in-Err.ensures.fault [
  | inl is ↦ inl (inr (is, ([], _, refl, Appends-nil _)), refl, refl)
  | inr is ↦ inl (inl (is, Keeps-refl _), refl, refl)
]

pub returns-in-Err-clause-logged : goal.returns-in-Err-clause-logged
returns-in-Err-clause-logged g c = log_unopened _ _ _ _ _ c.in-Err.ensures.unopened

pub returns-clause-logged : goal.returns-clause-logged
returns-clause-logged g c = log_opened _ _ _ _ _ _ _ c.in-Ok.ensures.opened

pub returns-clause-serves : goal.returns-clause-serves
returns-clause-serves g c = c.serve-ended.ensures
