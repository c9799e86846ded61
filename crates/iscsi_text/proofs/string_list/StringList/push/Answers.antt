use Rattle.std.proofs.Common.{◌≡◌, length, ap, ◌∙◌, string_bytes, List, ℕ}
use Rattle.iscsi_text.proofs.StringList.{AreEnds-push, strings_in-push}
use Rattle.iscsi_text.proofs.string_list.StringList.push.Goals as goal

pub invariant_of-self-2 : goal.invariant_of-self-2
invariant_of-self-2 c =
    let place : c.len.result ≡ length (string_bytes c.self.inside.text) =
    c.len.ensures ∙ c.reserve.new.self.bytes.ok.0 ∙ ap (λ (bytes : List ℕ). length bytes) c.in_ok-reserve.ensures.bytes in
    rw (c.in_ok-push_str.ensures.bytes, c.in_ok-reserve.ensures.bytes, c.in_ok-push.ensures.added, place)
    (AreEnds-push _ _ 0 _ c.utf8.string c.self.invariant)

pub returns-clause-added : goal.returns-clause-added
returns-clause-added c =
    let place : c.len.result ≡ length (string_bytes c.self.inside.text) =
    c.len.ensures ∙ c.reserve.new.self.bytes.ok.0 ∙ ap (λ (bytes : List ℕ). length bytes) c.in_ok-reserve.ensures.bytes in
    rw (c.in_ok-push_str.ensures.bytes, c.in_ok-reserve.ensures.bytes, c.in_ok-push.ensures.added, place, ← c.self.view_is)
    (strings_in-push _ _ 0 _ c.self.invariant)
