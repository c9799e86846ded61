-- Each piece lies in the data.
use Rattle.std.proofs.Common.{◌≡◌, ℕ, zero, suc, ◌-◌, ◌<◌, ◌≤◌, List, ◌++◌, get_or, ap, sym, ◌∙◌, subst, arith}
use Rattle.std.specs.Prelude.{All}
use Rattle.std.specs.Int.{div_ceil}
use Rattle.std.specs.List.{flat_map, range_with_len}
use Rattle.std.proofs.Math.Nat.{add-mul}
use Rattle.std.proofs.Math.Numerals.{suc-eq-add-one}
use Rattle.std.proofs.lemmas.List.Elements.{All-append}
use Rattle.std.proofs.lemmas.List.FromFn.{get_or-map-range_with_len, length-map-range_with_len}
use Rattle.iscsi_transfer.specs.declared.data_in.Piece.{Piece}
use Rattle.iscsi_transfer.specs.DataIn.{burst_start, burst_end, piece_in}
use Rattle.iscsi_transfer.specs.Laws.{Fits, Lies, PiecesLie}
use Rattle.iscsi_transfer.proofs.Pieces.{bursts-more, pieces_fit}
use Rattle.iscsi_transfer.proofs.Counts.{burst_pieces}

fits_so : (piece : Piece) (size burst segment b : ℕ) → Fits piece size burst segment b → Lies piece size burst
fits_so piece size burst segment b fits = record {
  within = fits.within;
  short = omega (arith, fits.behind, fits.below, add-mul b 1 burst);
}

burst_lies : (size burst segment b : ℕ) → 1 ≤ burst → 1 ≤ segment → b < div_ceil size burst
    → All (λ piece. Lies piece size burst) (burst_pieces size burst segment b)
burst_lies size burst segment b some_burst some lt k d below =
    let start = burst_start burst b in
    let end = burst_end size burst b in
    let count = div_ceil (end - start) segment in
    let inside : k < count = omega (arith, below, length-map-range_with_len (piece_in start end segment) 0 count) in
    let is : get_or (burst_pieces size burst segment b) k d ≡ piece_in start end segment k =
    get_or-map-range_with_len (piece_in start end segment) 0 count k k d inside (omega arith) in
    subst (λ (piece : Piece). Lies piece size burst) (sym is) (fits_so (piece_in start end segment k) size burst segment b
    (pieces_fit size burst segment b k some_burst some lt inside))

bursts_lie : (size burst segment n : ℕ) → 1 ≤ burst → 1 ≤ segment → n ≤ div_ceil size burst
    → All (λ piece. Lies piece size burst) (flat_map (burst_pieces size burst segment) (range_with_len 0 n))
bursts_lie size burst segment zero some_burst some le = λ k d below. absurd (omega arith)
bursts_lie size burst segment (suc n) some_burst some le =
    let both = All-append (λ (piece : Piece). Lies piece size burst) (flat_map (burst_pieces size burst segment) (range_with_len 0 n))
    (burst_pieces size burst segment n)
    (bursts_lie size burst segment n some_burst some (omega arith)) (burst_lies size burst segment n some_burst some (omega arith)) in
    let split : flat_map (burst_pieces size burst segment) (range_with_len 0 (suc n))
    ≡ flat_map (burst_pieces size burst segment) (range_with_len 0 n) ++ burst_pieces size burst segment n =
    ap (λ (m : ℕ). flat_map (burst_pieces size burst segment) (range_with_len 0 m)) (suc-eq-add-one n) ∙ bursts-more size burst segment n in
    subst (λ (pieces : List Piece). All (λ piece. Lies piece size burst) pieces) (sym split) both

pub pieces_lie : PiecesLie
pieces_lie size burst segment some_burst some = bursts_lie size burst segment (div_ceil size burst) some_burst some (omega arith)
