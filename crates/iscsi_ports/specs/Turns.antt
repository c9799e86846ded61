-- Whom a poll names: the long connections each in its turn, and of the short ones some more than the last poll.
use Rattle.std.specs.Prelude.{◌≡◌, ◌<◌, ◌≤◌, ℕ, ◌+◌, ◌-◌, ◌==◌, min, nat_lt, nat_le, Bool, true, false, ◌&&◌, ◌||◌, not, List, length, find, Option, Some, None, if◌then◌else◌}
use Rattle.std.specs.Option.{option_or}
use Rattle.std.specs.List.{filter, range_with_len}
use Rattle.target_limits.specs.Numbers.{connections, connection_limit}
use Rattle.iscsi_ports.specs.Flags.{flag_of, flags_with, none_of}
use Rattle.iscsi_ports.specs.declared.readiness.Readiness.{Readiness}
use Rattle.iscsi_ports.specs.declared.turns.Part.{Part}
use Rattle.iscsi_ports.specs.declared.turns.Turns.{Turns}

-- own: eight short ones at first, one and seven more
abbrev pub no_turns : Turns
no_turns = record { long = none_of; cursor = 0; first = 0; more = 7; left_out = false }

-- own: a write that is offered this number of bytes is a long one
abbrev pub is_long : ℕ → Bool
is_long offered = nat_le 65536 offered

-- own: for each connection that becomes long the next poll names eight short ones fewer, but always one
abbrev pub more_after_offer : Bool → ℕ → ℕ
more_after_offer becomes_long more = if becomes_long then more - 8 else more

-- own: a connection is long from a long write on, until fewer bytes are offered after bytes of it were read
abbrev pub after_offer : ℕ → ℕ → Bool → Turns → Turns
after_offer c offered has_read turns = record turns {
  long = flags_with (is_long offered || has_read) c (is_long offered) turns.long;
  more = more_after_offer (is_long offered && not (flag_of c turns.long)) turns.more;
}

-- own: where something was carried after a poll, the next takes turns as ever, whomever this one left out
abbrev pub after_carrying : Bool → Turns → Turns
after_carrying carried turns = record turns { left_out = turns.left_out && not carried }

-- own: the number from which on a poll names short ones
abbrev pub start_of : Turns → ℕ
start_of turns = if nat_lt turns.first connection_limit then turns.first else 0

module _ (ready : List Bool) (turns : Turns) where
  -- own: ready, and long
  abbrev pub is_due : ℕ → Bool
  is_due c = flag_of c ready && flag_of c turns.long

  -- own: ready, and short
  abbrev pub is_short : ℕ → Bool
  is_short c = flag_of c ready && not (flag_of c turns.long)

  -- the first that is due from this number on
  abbrev pub due_from : ℕ → Option ℕ
  due_from from = find is_due (range_with_len from (connection_limit - from))

  -- own: whose turn it is: the first from the cursor on, or else the first of all
  abbrev pub turn : Option ℕ
  turn = option_or (due_from turns.cursor) (due_from 0)

  abbrev pub due_count : ℕ
  due_count = length (filter is_due connections)

  -- the number of short ones that are ready, from this number on
  abbrev pub short_from : ℕ → ℕ
  short_from from = length (filter is_short (range_with_len from (connection_limit - from)))

  -- own: short, and one of those from the start on before this number
  abbrev pub is_before : ℕ → ℕ → Bool
  is_before next c = is_short c && (nat_le (start_of turns) c && not (nat_le next c))

-- own: of the short ones that are ready those from the start on, up to the first that is one too many
pub record IsPart (ready : List Bool) (turns : Turns) (part : Part) : Type 0 where
  pub names : (c : ℕ) → c < connection_limit → flag_of c part.named ≡ is_before ready turns part.next c
  pub counted : short_from ready turns (start_of turns) ≡ part.count + short_from ready turns part.next
  pub few : part.count ≤ turns.more + 1
  pub full : part.next < connection_limit
      → (start_of turns < part.next) × (is_short ready turns part.next ≡ true) × (part.count ≡ turns.more + 1)
  pub within : part.next ≤ connection_limit
  pub all : length part.named ≡ connection_limit

-- own: the next poll begins with the one that was too many, or from the front again
abbrev pub first_after : Part → ℕ
first_after part = if nat_lt part.next connection_limit then part.next else 0

-- own: a poll that left out short ones, or went on from such a poll, lets the next name eight more; and one that named all
-- that were ready, eight more than it named. One that asked nothing and met none leaves it as it was.
abbrev pub more_after : Bool → Part → Turns → ℕ
more_after asked part turns =
    if nat_lt part.next connection_limit || nat_lt 0 (start_of turns) then min (turns.more + 8) 63
    else if not asked && (part.count == 0) then turns.more
    else min (part.count + 7) 63

abbrev pub is_chosen : Option ℕ → ℕ → Bool
is_chosen None c = false
is_chosen (Some chosen) c = c == chosen

-- the next search begins after the one whose turn it was
abbrev pub cursor_after : Option ℕ → ℕ → ℕ
cursor_after None cursor = cursor
cursor_after (Some chosen) cursor = chosen + 1

-- own: it names its part of the short ones, and of the long ones the one whose turn it is
pub record NamesSome (asked : Bool) (ready : List Bool) (before after : Turns) (named : List Bool) : Type 0 where
  pub part : Part
  pub is_part : IsPart ready before part
  pub names : (c : ℕ) → c < connection_limit → flag_of c named ≡ (flag_of c part.named || is_chosen (turn ready before) c)
  pub cursor : after.cursor ≡ cursor_after (turn ready before) before.cursor
  pub first : after.first ≡ first_after part
  pub more : after.more ≡ more_after asked part before
  pub left_out : after.left_out ≡ (nat_lt 1 (due_count ready before) || nat_lt part.count (short_from ready before 0))
  pub long : after.long ≡ before.long

-- own: it names all that are ready
pub record NamesAll (ready : List Bool) (before after : Turns) (named : List Bool) : Type 0 where
  pub names : named ≡ ready
  pub same : after ≡ record before { left_out = false }

-- own: of those that are ready a poll names these: all where nothing came of the last one, which left one out
pub record TakesTurn (asked : Bool) (ready : List Bool) (before after : Turns) (named : List Bool) : Type 0 where
  pub some : before.left_out ≡ false → NamesSome asked ready before after named
  pub all : before.left_out ≡ true → NamesAll ready before after named

-- own: what a poll names of those whom this knows to be ready, by whether it asked the system
pub record Names (asked : Bool) (before after : Readiness) : Type 0 where
  pub same : after ≡ record before { named = after.named; turns = after.turns }
  pub listener : after.named.listener ≡ before.ready.listener
  pub connections : TakesTurn asked before.ready.connections before.turns after.turns after.named.connections

-- ---- that it is fair

-- how many polls may name others first
abbrev pub turns_to : ℕ → ℕ → ℕ
turns_to c cursor = if nat_le cursor c then c - cursor else (c + connection_limit) - min cursor connection_limit

-- own: where the next poll begins to look for those of its kind
abbrev pub cursor_for : ℕ → Turns → ℕ
cursor_for c turns = if flag_of c turns.long then turns.cursor else start_of turns

-- own: a poll names one of the long ones. Each one that is ready and that it leaves out is nearer to its turn, which is less
-- than 64 polls away. Where nothing came of a poll that left one out, the next names all that are ready.
pub record IsFair (before after : Readiness) : Type 0 where
  pub ready : (c : ℕ) → c < connection_limit → flag_of c after.named.connections ≡ true → flag_of c after.ready.connections ≡ true
  pub all : before.turns.left_out ≡ true → (c : ℕ) → c < connection_limit → flag_of c after.ready.connections ≡ true
      → flag_of c after.named.connections ≡ true
  pub one : before.turns.left_out ≡ false → (c d : ℕ) → c < connection_limit → d < connection_limit
      → flag_of c after.named.connections ≡ true
      → flag_of c after.turns.long ≡ true → flag_of d after.named.connections ≡ true → flag_of d after.turns.long ≡ true → c ≡ d
  pub nearer : (c : ℕ) → c < connection_limit → flag_of c after.ready.connections ≡ true → flag_of c after.named.connections ≡ false
      → turns_to c (cursor_for c after.turns) < turns_to c (cursor_for c before.turns)
