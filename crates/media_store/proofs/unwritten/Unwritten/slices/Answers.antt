use Rattle.std.proofs.Common.{◌≡◌, ◌++◌, append_assoc}
use Rattle.media_store.proofs.BySlice.{take-front}
use Rattle.media_store.proofs.unwritten.Unwritten.slices.Goals as goal

pub returns-clause-front : goal.returns-clause-front
returns-clause-front c =
    let front = c.self.inside.front.now in
    let second = c.split_front-more.result.0.now in
    let third = c.split_front-more-2.result.0.now in
    let fourth = c.split_front.result.0.now in
    let all : front ++ c.self.inside.more ≡ (front ++ (second ++ (third ++ fourth))) ++ c.split_front.result.1 =
    rw (c.split_front-more.ensures.joined, c.split_front-more-2.ensures.joined, c.split_front.ensures.joined) (simp append_assoc) in
    rw (c.front.ensures, c.new.ensures, ← c.self.view_is) (take-front c.self.inside.len _ c.split_front.result.1 _ all)
