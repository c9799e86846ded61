use Rattle.std.proofs.Common.{◌≡◌, ◌+◌, ◌-◌, ◌*◌, ◌/◌, ◌%◌, min, arith, ap, sym, ◌∙◌}
use Rattle.std.specs.Int.{div_ceil}
use Rattle.std.proofs.lemmas.Nat.{div-add-mod'}
use Rattle.iscsi_transfer.specs.DataIn.{burst_end}
use Rattle.iscsi_transfer.proofs.Pieces.{burst_end-is}
use Rattle.iscsi_transfer.proofs.Numbered.{placed_number, piece_numbered}
use Rattle.iscsi_transfer.proofs.data_in.piece_among.Goals as goal

pub overflow_mul-start : goal.overflow_mul-start
overflow_mul-start c =
    let at = placed_number c.args.length c.args.burst c.args.segment c.args.number c.div_ceil-each.result c.div_ceil-each.ensures
    c.requires.burst c.requires.segment c.requires.number in
    omega (arith, at.begins)

pub overflow_sub-length : goal.overflow_sub-length
overflow_sub-length c =
    let at = placed_number c.args.length c.args.burst c.args.segment c.args.number c.div_ceil-each.result c.div_ceil-each.ensures
    c.requires.burst c.requires.segment c.requires.number in
    omega (arith, at.begins)

pub overflow_add-end : goal.overflow_add-end
overflow_add-end c =
    let at = placed_number c.args.length c.args.burst c.args.segment c.args.number c.div_ceil-each.result c.div_ceil-each.ensures
    c.requires.burst c.requires.segment c.requires.number in
    omega (arith, at.begins, c.min.ensures)

pub overflow_mul-offset : goal.overflow_mul-offset
overflow_mul-offset c =
    let at = placed_number c.args.length c.args.burst c.args.segment c.args.number c.div_ceil-each.result c.div_ceil-each.ensures
    c.requires.burst c.requires.segment c.requires.number in
    omega (arith, at.begins, at.inside)

pub overflow_add-offset : goal.overflow_add-offset
overflow_add-offset c =
    let at = placed_number c.args.length c.args.burst c.args.segment c.args.number c.div_ceil-each.result c.div_ceil-each.ensures
    c.requires.burst c.requires.segment c.requires.number in
    omega (arith, at.begins, at.inside)

pub overflow_sub-end : goal.overflow_sub-end
overflow_sub-end c =
    let at = placed_number c.args.length c.args.burst c.args.segment c.args.number c.div_ceil-each.result c.div_ceil-each.ensures
    c.requires.burst c.requires.segment c.requires.number in
    let end = burst_end-is c.args.length c.args.burst (c.args.number / c.div_ceil-each.result) (let begins = at.begins in omega arith) in
    omega (arith, at.begins, at.inside, c.min.ensures, end)

pub overflow_add-result : goal.overflow_add-result
overflow_add-result c =
    let at = placed_number c.args.length c.args.burst c.args.segment c.args.number c.div_ceil-each.result c.div_ceil-each.ensures
    c.requires.burst c.requires.segment c.requires.number in
    let end = burst_end-is c.args.length c.args.burst (c.args.number / c.div_ceil-each.result) (let begins = at.begins in omega arith) in
    omega (arith, at.begins, at.inside, c.min.ensures, c.min-length.ensures, end)

pub returns : goal.returns
returns c =
    let at = placed_number c.args.length c.args.burst c.args.segment c.args.number c.div_ceil-each.result c.div_ceil-each.ensures
    c.requires.burst c.requires.segment c.requires.number in
    let b = c.args.number / c.div_ceil-each.result in
    let i = c.args.number % c.div_ceil-each.result in
    let parts : b * c.div_ceil-each.result + i ≡ c.args.number = div-add-mod' c.args.number c.div_ceil-each.result in
    let place : c.args.number ≡ b * div_ceil c.args.burst c.args.segment + i = rw (← c.div_ceil-each.ensures) (sym parts) in
    let end : b * c.args.burst + c.min.result ≡ burst_end c.args.length c.args.burst b =
    ap (λ n. b * c.args.burst + n) c.min.ensures ∙ burst_end-is c.args.length c.args.burst b (let begins = at.begins in omega arith) in
    let long : c.min-length.result ≡ min c.args.segment (burst_end c.args.length c.args.burst b - (b * c.args.burst + i * c.args.segment)) =
    c.min-length.ensures ∙ ap (λ n. min c.args.segment (n - (b * c.args.burst + i * c.args.segment))) end in
    rw end (piece_numbered c.args.length c.args.burst c.args.segment c.args.number b i c.min-length.result
    c.requires.burst c.requires.segment c.requires.number place at long)
