use Rattle.std.proofs.Common.{◌≡◌, ◌<◌, None, length, sym, arith}
use Rattle.std.proofs.lemmas.List.{get_or_read, get_or-set_same, get_or-set_other}
use Rattle.iscsi_ports.specs.Lingering.{place_of}
use Rattle.iscsi_ports.proofs.LingeringPlaces.{drained_next}
use Rattle.iscsi_ports.proofs.lingering.LingeringSockets.drain_all.Goals as goal

pub loop-place-preserved : goal.loop-place-preserved
loop-place-preserved c =
    let d = c.loop-place.place in
    let places = c.loop-place.self.places.items in
    let lt : d < length places = omega (arith, c.loop-place-test.true, c.loop-place.self.places_are_65) in
    let was : c.index_mut.result.now ≡ place_of d places = get_or_read places d _ lt c.index_mut.ensures.value None in
    let is = get_or-set_same places d c.drain_place-more.new.place None lt in
    drained_next d _ places _ _ c.loop-place.self.notes c.drain_place-more.new.notes c.loop-place.has_more c.drain_place-more.result
    c.loop-place.invariant (λ e other. get_or-set_other places d e c.drain_place-more.new.place None other)
    (rw (sym was, is) c.drain_place-more.ensures)
