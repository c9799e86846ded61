use Rattle.std.proofs.Common.{◌≡◌, ℕ, List, length, take, sym, ap, ◌∙◌}
use Rattle.std.proofs.lemmas.List.{take_at}
use Rattle.iscsi_framer.proofs.framer.Framer.whole_header.Goals as goal

pub returns : goal.returns
returns c =
    let h = c.self.inside.header.items in
    let read = c.copy_from_slice.ensures.after ∙ c.as_slice.ensures.value in
    let full : length h ≡ 48 = ap (λ (x : List ℕ). length x) (sym read) ∙ c.copy_from_slice.ensures.len in
    c.new.ensures ∙ read ∙ sym (take_at h c.self.inside.behind 48 full) ∙ ap (λ (x : List ℕ). take 48 x) c.self.view_is
