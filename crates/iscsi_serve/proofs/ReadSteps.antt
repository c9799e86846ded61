-- A read, whichever buffer it went into: what it does, and what it keeps.
use Rattle.std.proofs.Common.{◌≡◌, ℕ, ◌<◌, ◌≤◌, List, [], ◌∷◌, ◌++◌, length, set, Bool, true, refl, arith}
use Rattle.iscsi_target.specs.History.{connection_limit}
use Rattle.iscsi_target.specs.Machine.{Machine}
use Rattle.iscsi_ports.specs.Log.{Carried, Bytes, End, Fault, Entry, Read}
use Rattle.iscsi_ports.specs.declared.results.Named.{Named}
use Rattle.iscsi_serve.specs.Progress.{FeedsPiece, IsDue, StepsBy}
use Rattle.iscsi_serve.specs.Served.{MayHappen, MayComeOut}
use Rattle.iscsi_serve.specs.Turn.{Reads, is_end}
use Rattle.iscsi_serve.proofs.Goings.{read_some, read_none, read_ended}
use Rattle.iscsi_serve.proofs.Keeping.{keeps_told, read_stays, fed_comes_out}

module _ {tells tells_then : Bool} {log log_then : List Entry} {target : Machine} {ended : List Bool} (named : Named) (c room : ℕ)
    (due : IsDue named c room target) (back : tells_then ≡ true → tells ≡ true) where
  -- nothing came
  pub reads_none : (tells_then ≡ true → log_then ≡ log ++ Read c room (Bytes []) ∷ [])
      → StepsBy (Reads named c) tells tells_then log log_then target target ended ended
  reads_none told = record {
    keeps = keeps_told tells tells_then log log_then target (Read c room (Bytes [])) refl (λ rows. refl) back told;
    goes = λ tells. read_none log log_then target named ended c room due (told tells);
  }

  -- a piece came, and was fed
  pub reads_piece : {after : Machine} (piece : List ℕ) → 0 < length piece → length piece ≤ room
      → (tells_then ≡ true → log_then ≡ log ++ Read c room (Bytes piece) ∷ []) → FeedsPiece c piece target after
      → StepsBy (Reads named c) tells tells_then log log_then target after ended ended
  reads_piece {after} piece some fits told fed = record {
    keeps = record {
      back = back;
      each = fed.each;
      sure = fed.sure;
      served = λ tells sound. read_stays MayHappen log log_then target after c room piece some (told tells) (fed.stands sound);
      came = λ tells. read_stays (MayComeOut after) log log_then target after c room piece some (told tells)
          (fed_comes_out c piece target after fed.fed);
      bounded = (let is = due.is_room in fed.bounded (omega (arith, fits, is)));
    };
    goes = λ tells. read_some log log_then target after named ended c room piece due some fits (told tells) fed.feeds fed.fed;
  }

  -- the connection ended
  pub reads_end : (carried : Carried) → c < connection_limit → length ended ≡ 64 → is_end carried ≡ true
      → (tells_then ≡ true → log_then ≡ log ++ Read c room carried ∷ [])
      → StepsBy (Reads named c) tells tells_then log log_then target target ended (set ended c true)
  reads_end (Bytes piece) lt long over told = absurd cc
  reads_end End lt long over told = record {
    keeps = keeps_told tells tells_then log log_then target (Read c room End) refl (λ rows. refl) back told;
    goes = λ tells. read_ended log log_then target named ended c room End lt long due refl (told tells);
  }
  reads_end Fault lt long over told = record {
    keeps = keeps_told tells tells_then log log_then target (Read c room Fault) refl (λ rows. refl) back told;
    goes = λ tells. read_ended log log_then target named ended c room Fault lt long due refl (told tells);
  }
