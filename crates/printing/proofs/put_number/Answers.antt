-- `put_number` meets its contract.
use Rattle.printing.proofs.Writing.{written_then, written_byte, written-room}
use Rattle.printing.proofs.put_number.Goals as goal

pub returns : goal.returns
returns c =
    let d = c.put_decimal-end in
    let m = c.args.mark in
    written_then d.ensures (written_byte d.new.text d.result m (written-room d.ensures c.requires))
