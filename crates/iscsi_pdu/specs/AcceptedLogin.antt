-- The answer of a login that goes on (RFC 7143 §11.13).
use Rattle.std.specs.Prelude.{ℕ, List}
use Rattle.iscsi_pdu.specs.declared.stage.Stage.{Stage}
use Rattle.iscsi_pdu.specs.declared.login_response.LoginStep.{LoginStep}

-- the stage of the login, its step from there, and the text
pub record AcceptedLogin : Type 0 where
  pub stage : Stage
  pub step : LoginStep
  pub text : List ℕ
