-- What a session remembers of its exchange of texts (RFC 7143 §11.10, §11.11).
use Rattle.std.specs.Prelude.{ℕ, List, [], Bool, true, false}

pub record ExchangeState : Type 0 where
  -- an answer was given that did not end it
  pub is_open : Bool
  -- the text of the requests with C since the last whole text
  pub kept : List ℕ
  -- the rest of the answer, which is still to be sent
  pub due : List ℕ

-- no exchange is open
abbrev pub no_exchange : ExchangeState
no_exchange = record { is_open = false; kept = []; due = [] }

-- an exchange is open, with this text kept and this much of the answer due
abbrev pub open_with : List ℕ → List ℕ → ExchangeState
open_with kept due = record { is_open = true; kept = kept; due = due }
