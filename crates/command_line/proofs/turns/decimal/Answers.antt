use Rattle.std.proofs.Common.{◌<◌, length, sym, rules}
use Rattle.command_line.proofs.Decimals.{decimal_read, decimal_unread}
use Rattle.command_line.proofs.turns.decimal.Goals as goal

pub returns-in-Ok : goal.returns-in-Ok
returns-in-Ok c =
    let some : 0 < length c.args.text.now = search rules in
    decimal_read c.args.text.now some (sym c.if-not-is_all_digits.ensures) c.in-Ok.number c.in-Ok.ensures.value.0

pub returns-in-Err : goal.returns-in-Err
returns-in-Err c =
    let some : 0 < length c.args.text.now = search rules in
    decimal_unread c.args.text.now some (sym c.if-not-is_all_digits.ensures) c.in-Err.ensures.value.0
