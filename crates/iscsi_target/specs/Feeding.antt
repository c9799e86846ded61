-- A piece that a reader filled into the buffer of its PDU.
use Rattle.std.specs.Prelude.{◌≡◌, ◌≤◌, ℕ, List, [], ◌∷◌, ◌++◌, length, take, true, Result, OnOk, IfErr}
use Rattle.iscsi_framer.specs.declared.frame_buffer.FrameRoom.{FrameRoom}
use Rattle.iscsi_connection.specs.Rooms.{LendsRoom}
use Rattle.iscsi_world.specs.Bounded.{Bounded}
use Rattle.iscsi_world.specs.History.{Bytes, History, Mark, plain, marked}
use Rattle.iscsi_world.specs.World.{Setting, world}
use Rattle.iscsi_world.specs.Machine.{Machine, ReflectsSoundness, WhereSound, IsSure, Feeds, KeepsPart, link_at, with_link, is_closing, want_of}
use Rattle.iscsi_world.specs.Stands.{Stands, StandsAfter, IsStarved}
use Rattle.iscsi_world.specs.Serving.{first_starved}
use Rattle.iscsi_world.specs.declared.fault.Starved.{Starved}

-- own: a connection lends the buffer of its half-read PDU
pub record LendsRoomAt (c : ℕ) (lent : FrameRoom) (room : ℕ) (old new : Machine) : Type 0 where
  pub is : new ≡ with_link old c (link_at new c)
  pub lends : LendsRoom lent room (link_at old c) (link_at new c)

-- own: the connection of a target still lacks this buffer; `before` is the target with it
pub record LacksRoom (c : ℕ) (lent : FrameRoom) (before now : Machine) : Type 0 where
  pub is : now ≡ with_link before c (link_at now c)
  pub same : link_at now c ≡ record (link_at before c) { half = (link_at now c).half }
  pub bytes : (link_at before c).half ≡ (link_at now c).half ++ take lent.from lent.buffer.items

-- A piece of a connection's bytes is taken, as `Target::feed` promises clause by clause.
pub record TakesPiece (c : ℕ) (piece : List ℕ) (result : Result (Unit {0}) Starved) (old new : Machine) : Type 0 where
  pub stands : OnOk result ((s : Setting) (sent : ℕ → ℕ) (h : History) → WhereSound old (Stands s sent old h)
      → WhereSound new (Stands s sent new (h ++ plain (Bytes c piece) ∷ [])))
  pub starved : IfErr result (λ starved. (s : Setting) (sent : ℕ → ℕ) (h : History) → WhereSound old (Stands s sent old h)
      → WhereSound new ((marks : List Mark) × IsStarved s (world s h) (Bytes c piece) starved.connection marks
      × Stands s sent new (h ++ marked marks (Bytes c piece) ∷ [])))
  pub came : (s : Setting) (sent : ℕ → ℕ) (h : History) → Stands s sent old h
      → StandsAfter s sent h (Bytes c piece) (first_starved result) new
  pub each : ReflectsSoundness old new
  pub sure : IsSure old → IsSure new
  pub feeds : Feeds c old new
  pub part : KeepsPart c old new
  pub closing : IfErr result (λ starved. is_closing (link_at new starved.connection).phase ≡ true)
  pub bounded : length piece ≤ want_of (link_at old c) → Bounded old → Bounded new
