use Rattle.std.proofs.Common.{◌<◌, get_or, arith}
use Rattle.printing.proofs.Writing.{lines_start, lines-room, lines_more, lines_end}
use Rattle.printing.proofs.put_words.Goals as goal

pub loop-w-init : goal.loop-w-init
loop-w-init c =
    let a = c.args in
    lines_start a.text.now a.ws.now a.at c.requires

pub put_number-end-requires : goal.put_number-end-requires
put_number-end-requires c =
    let l = c.loop-w in
    let word : get_or c.args.ws.now l.w-index 0 < 65536 = omega arith in
    rw c.from.ensures (lines-room l.invariant c.loop-w-test.true word c.requires)

pub loop-w-preserved : goal.loop-w-preserved
loop-w-preserved c =
    let l = c.loop-w in
    let word : get_or c.args.ws.now l.w-index 0 < 65536 = omega arith in
    lines_more l.invariant c.loop-w-test.true word (rw c.from.ensures at c.put_number-end.ensures)

pub returns : goal.returns
returns c = lines_end c.loop-w.invariant c.loop-w-test.false
