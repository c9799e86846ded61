-- The configuration that a text describes, or its first fault.
use Rattle.std.specs.Prelude.{ℕ, List, length, Bool, not, nat_le, Option, Some, None, Result, Ok, Err, if◌then◌else◌}
use Rattle.std.specs.List.{list_all}
use Rattle.std.specs.Str.{is_utf8}
use Rattle.toml.specs.Parse.{parse_document}
use Rattle.target_config.specs.Configuration.{Document}
use Rattle.target_config.specs.Document.{document_of}
use Rattle.target_config.specs.Limits.{keeps_limits}
use Rattle.target_config.specs.Distinct.{comes_each_once, has_lun_zero}
use Rattle.target_config.specs.declared.fault.ConfigFault.{ConfigFault}
use Rattle.target_config.specs.declared.fault.ConfigFault.TheVariants as faults

-- profile: the first fault of a configuration whose fields are all there
unfoldable pub fault_in : Document → Option ConfigFault
fault_in document =
    if not (keeps_limits document) then Some faults.Limit
    else if not (comes_each_once document.targets) then Some faults.Twice
    else if not (list_all has_lun_zero document.targets) then Some faults.NoLunZero
    else None

abbrev pub unless_fault : Option ConfigFault → Document → Result Document ConfigFault
unless_fault None document = Ok document
unless_fault (Some why) document = Err why

-- the next step if this one returned a value, or else this fault
abbrev pub or_fault : {A : Type 0} → ConfigFault → Option A → (A → Result Document ConfigFault) → Result Document ConfigFault
or_fault why None f = Err why
or_fault why (Some x) f = f x

-- the configuration of a text, or its first fault
unfoldable pub config_of : List ℕ → Result Document ConfigFault
config_of text =
    or_fault faults.NotToml (parse_document text)
    (λ table. or_fault faults.Field (document_of table) (λ document. unless_fault (fault_in document) document))

-- profile: a file of configuration has at most 1 MiB
abbrev pub is_readable : List ℕ → Bool
is_readable contents = nat_le (length contents) 1048576

-- the configuration of a file with these contents
unfoldable pub file_config_of : List ℕ → Result Document ConfigFault
file_config_of contents =
    if not (is_readable contents) then Err faults.Unreadable
    else if not (is_utf8 contents) then Err faults.NotToml
    else config_of contents
