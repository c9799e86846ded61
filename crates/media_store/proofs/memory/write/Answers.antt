use Rattle.std.proofs.Common.{◌≡◌, ℕ, ◌+◌, ◌-◌, ◌≤◌, ◌<◌, List, ◌++◌, length, refl, ◌∙◌, arith, rules}
use Rattle.std.proofs.lemmas.List.{append-nil, take_all, drop_all}
use Rattle.media_store.proofs.Writes.{overlaid-within, overlaid-grown, written-some}
use Rattle.media_store.specs.Content.{resized, written}
use Rattle.media_store.proofs.memory.write.Goals as goal
use Rattle.media_store.proofs.memory.write.Goals.{then-len-end, else-len-end}

pub returns-clause-written : goal.returns-clause-written
returns-clause-written c =
    let at = c.args.at in
    let bytes = c.args.bytes.now in
    let content = c.args.content.now.items in
    let some : 0 < length bytes = search rules in
    let is = written-some at bytes content some in
    elim c.if-len-end.branch [
      | then-len-end w ↦
          let short : length content ≤ at + length bytes = search rules in
          let grown : c.if-len-end.content.items ≡ resized (at + length bytes) content = rw w.content-is w.resize.ensures.resized in
          rw (is, c.overwrite.ensures.written, grown) (overlaid-grown at bytes content short)
      | else-len-end w ↦
          let long : at + length bytes ≤ length content = search rules in
          rw (is, c.overwrite.ensures.written, w.content-is) (overlaid-within at bytes content long)
    ]

-- bytes written at the end follow all others
ends : (at : ℕ) (bytes content : List ℕ) → 0 < length bytes → at ≡ length content → content ++ bytes ≡ written at bytes content
ends at bytes content some is =
    let none : at - length content ≡ 0 = omega arith in
    let ended = drop_all (at + length bytes) content (omega arith) in
    rw (written-some at bytes content some, none, take_all at content (omega arith), ended, append-nil content, append-nil bytes) refl

pub returns-then-at-len-clause-written : goal.returns-then-at-len-clause-written
returns-then-at-len-clause-written c =
    let content = c.args.content.now.items in
    let some : 0 < length c.args.bytes.now = search rules in
    let all : c.args.at ≡ length content = omega arith in
    c.append.ensures.written ∙ ends c.args.at c.args.bytes.now content some all
