-- The answers to the pairs of a text in full feature phase (RFC 7143 §6.2, §11.10, Appendix C).
use Rattle.std.specs.Prelude.{ℕ, List, [], ◌∷◌, ◌++◌, length, filter, flat_map, Bool, true, ◌||◌, ◌==◌, Option, Some, None, is_none, is_some, codes, bytes_eq, if◌then◌else◌}
use Rattle.iscsi_text.specs.Pairs.{Pair}
use Rattle.iscsi_login.specs.Keys.{is_known, is_passed_over}
use Rattle.iscsi_login.specs.Directory.{KnownTargets}
use Rattle.iscsi_login.specs.Session.{target_named}
use Rattle.iscsi_login.specs.declared.session_params.SessionParams.{SessionParams}

-- RFC 7143 §13.4, §13.8: a target's name, and where it is: the portal, with the tag of its group, which is 1
abbrev pub target_pairs : List ℕ → List ℕ → List Pair
target_pairs portal name = (codes "TargetName", name) ∷ (codes "TargetAddress", portal ++ codes ",1") ∷ []

-- this name is asked for, or all are
abbrev pub is_asked : Option (List ℕ) → List ℕ → Bool
is_asked None name = true
is_asked (Some asked) name = bytes_eq asked name

-- of these names those that are asked for, in their order
abbrev pub asked_pairs : List ℕ → Option (List ℕ) → List (List ℕ) → List Pair
asked_pairs portal asked names = flat_map (target_pairs portal) (filter (is_asked asked) names)

-- the targets that are asked for
unfoldable pub told_of : KnownTargets → Option (List ℕ) → List Pair
told_of directory asked = asked_pairs directory.portal asked directory.names

abbrev pub refused : List ℕ → List Pair
refused key = (key, codes "Reject") ∷ []

-- RFC 7143 Appendix C: in a discovery session All is every target, and a name is that target, or nothing if unknown
abbrev pub discovery_answer : KnownTargets → List ℕ → List Pair
discovery_answer directory value =
    if length value == 0 then refused (codes "SendTargets")
    else if bytes_eq value (codes "All") then told_of directory None
    else told_of directory (Some value)

-- RFC 7143 Appendix C: in a normal session nothing, or its name, is the session's own target; own: any other value is
-- rejected
abbrev pub normal_answer : KnownTargets → List ℕ → List Pair
normal_answer directory value =
    if length value == 0 || is_some (target_named directory.names value) then told_of directory None else refused (codes "SendTargets")

-- RFC 7143 §13.3: by the kind of the session
unfoldable pub send_targets : SessionParams → List ℕ → List Pair
send_targets params value = if is_none params.target then discovery_answer params.directory value else normal_answer params.directory value

-- RFC 7143 §6.2: a known key is rejected, since it is not for full feature phase (own), and any other is not understood
abbrev pub other_answer : List ℕ → List Pair
other_answer key = (key, if is_known key then codes "Reject" else codes "NotUnderstood") ∷ []

-- own: a value that is itself an answer is passed over, except for a key that names
unfoldable pub pair_answer : SessionParams → Pair → List Pair
pair_answer params pair =
    if is_passed_over pair.0 pair.1 then []
    else if bytes_eq pair.0 (codes "SendTargets") then send_targets params pair.1
    else other_answer pair.0

-- in the order of the text
abbrev pub pairs_answer : SessionParams → List Pair → List Pair
pairs_answer params pairs = flat_map (pair_answer params) pairs
