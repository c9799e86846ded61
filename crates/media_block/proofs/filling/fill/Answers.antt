use Rattle.std.proofs.Common.{◌≡◌, ℕ, ◌+◌, ◌-◌, ◌≤◌, List, ◌++◌, length, take, drop, ap, sym, ◌∙◌, arith, append_assoc, refl}
use Rattle.std.proofs.Math.Seq.{take-add}
use Rattle.std.proofs.lemmas.List.{length-append, length-take-le, length-drop, take_at, drop-append-le, drop-drop}
use borrow.Rule.Slice.PartMut.{put_mid, post_of}
use Rattle.media_store.proofs.BySlice.{front-slice}
use Rattle.media_block.proofs.filling.fill.Goals as goal

-- the front of a buffer once more bytes were put after its first
put-more : (done part : ℕ) (room bytes : List ℕ) → done ≤ length room → length bytes ≡ part
    → take (done + part) (put_mid done (done + part - done) room bytes) ≡ take done room ++ bytes
put-more done part room bytes within long =
    let front : length (take done room ++ bytes) ≡ done + part = simp (length-append, length-take-le done room within, long) refl in
    rw (← append_assoc (take done room) bytes (post_of done (done + part - done) room))
    (take_at (take done room ++ bytes) (post_of done (done + part - done) room) (done + part) front)

pub loop-done-preserved : goal.loop-done-preserved
loop-done-preserved c =
    let done = c.loop-done.done in
    let part = c.min-part.result in
    let all = c.args.bytes.now ++ c.args.behind in
    let front = c.next_slice.result.0.now in
    let behind = c.next_slice.result.1 in
    let lies : front ++ behind ≡ drop done all = sym c.next_slice.ensures.joined ∙ c.loop-done.invariant.lies in
    let short : part ≤ length front = omega arith in
    let bytes : c.copy_from_slice.new.self ≡ take part (drop done all) =
    c.copy_from_slice.ensures.after ∙ c.split_at.ensures.front ∙ front-slice done part front behind all lies short in
    let next : length c.split_at.result.0.now ≡ part = c.split_at.ensures.front_len in
    let long : length c.copy_from_slice.new.self ≡ part = ap length c.copy_from_slice.ensures.after ∙ next in
    record {
      below = omega arith;
      long = simp (length-append, length-drop) (omega (arith, long, length-take-le done c.loop-done.room (omega arith), c.loop-done.invariant.long));
      lies = ap (λ (x : List ℕ). x ++ behind) c.split_at.ensures.back ∙ sym (drop-append-le part front behind short)
          ∙ ap (drop part) lies ∙ drop-drop part done all;
      filled = put-more done part c.loop-done.room c.copy_from_slice.new.self (omega arith) long
          ∙ rw (bytes, c.loop-done.invariant.filled) (sym (take-add done part all));
    }
