-- The descriptors 0 to 2: those of the standard streams, which no unit, socket or log may get.
use Rattle.std.specs.Prelude.{◌≡◌, ◌⊎◌, ◌≤◌, ◌<◌, ◌==◌, ℕ, List, [], ◌∷◌, Bool, true, false, codes, length}
use Rattle.call_record.specs.Noted.{Noted}

-- own: the number of descriptors of standard streams
abbrev pub stream_count : ℕ
stream_count = 3

-- own: the descriptor of standard input
abbrev pub input : ℕ
input = 0

-- own: a file that does nothing was opened, and got this descriptor
abbrev pub given : ℕ → Noted
given number = record { numbers = number ∷ []; bytes = codes "/dev/null"; flags = true ∷ [] }

-- own: it could not be opened
abbrev pub refused : Noted
refused = record { numbers = []; bytes = codes "/dev/null"; flags = false ∷ [] }

-- own: the number of such files held for standard output and standard error, and the record of their opening, the
-- newest first
pub record OthersState : Type 0 where
  pub held : ℕ
  pub told : List Noted

-- own: whether one is held for standard input, the record of its opening, and those of the others
pub record StreamsState : Type 0 where
  pub has_input : Bool
  pub input_told : List Noted
  pub others : OthersState

-- own: nothing was opened
abbrev pub no_others : OthersState
no_others = record { held = 0; told = [] }

abbrev pub no_streams : StreamsState
no_streams = record { has_input = false; input_told = []; others = no_others }

-- own: each was given the descriptor of a standard stream
abbrev pub AreStreams : List Noted → Type 0
AreStreams [] = Unit {0}
AreStreams (note ∷ earlier) = (number : ℕ) × (number < stream_count) × (note ≡ given number) × AreStreams earlier

-- own: each that got the descriptor of a standard stream is held, and then one got another, or three are held
pub record AreOthersTaken (others : OthersState) : Type 0 where
  pub taken : List Noted
  pub standard : AreStreams taken
  pub held : others.held ≡ length taken
  pub rest : ((others.held ≡ stream_count) × (others.told ≡ taken))
      ⊎ ((number : ℕ) × (stream_count ≤ number) × (others.told ≡ given number ∷ taken))

-- own: one of the others could not be opened
pub record AreOthersLacking (others : OthersState) : Type 0 where
  pub taken : List Noted
  pub standard : AreStreams taken
  pub told : others.told ≡ refused ∷ taken

-- own: the descriptors of the standard streams are taken. One file was opened for standard input, and is held if it got
-- that descriptor. Then those of the others were opened
pub record AreTaken (streams : StreamsState) : Type 0 where
  pub number : ℕ
  pub input_told : streams.input_told ≡ given number ∷ []
  pub has_input : streams.has_input ≡ (number == input)
  pub others : AreOthersTaken streams.others

-- own: one could not be opened
abbrev pub AreLacking : StreamsState → Type 0
AreLacking streams = (streams.input_told ≡ refused ∷ []) ⊎ AreOthersLacking streams.others
