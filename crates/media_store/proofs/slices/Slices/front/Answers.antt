use Rattle.std.proofs.Common.{sym, ◌∙◌}
use Rattle.media_store.proofs.BySlice.{take-joined}
use Rattle.media_store.proofs.slices.Slices.front.Goals as goal

pub returns : goal.returns
returns c =
    c.new.ensures ∙ rw (
      c.cut-left.ensures.front,
      c.cut-left-2.ensures.front,
      c.cut-left-3.ensures.front,
      c.cut.ensures.front,
      c.cut-left-3.ensures.left,
      c.cut-left-2.ensures.left,
      c.cut-left.ensures.left,
      ← c.self.view_is,
    ) (sym (simp take-joined))
