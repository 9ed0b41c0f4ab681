-- `put_numbers` meets its contract.
use Rattle.std.proofs.Common.{arith}
use Rattle.printing.proofs.Decimals.{decimal_ten, decimal_twenty}
use Rattle.printing.proofs.Writing.{number-end, written-length, written-numbers}
use Rattle.printing.proofs.put_numbers.Goals as goal

pub put_number-end-requires : goal.put_number-end-requires
put_number-end-requires c = let d = decimal_ten c.from.result (omega arith) in omega arith

pub put_number-end-requires-2 : goal.put_number-end-requires-2
put_number-end-requires-2 c =
    let w = c.put_number-end in
    let d = decimal_twenty c.args.a.place (omega arith) in
    let e = number-end c.from.result 32 w.ensures (decimal_ten c.from.result (omega arith)) in
    let l = written-length w.ensures in
    omega arith

pub put_number-requires : goal.put_number-requires
put_number-requires c =
    let w = c.put_number-end in
    let p = c.put_number-end-2 in
    let e = number-end c.from.result 32 w.ensures (decimal_ten c.from.result (omega arith)) in
    let f = number-end c.args.a.place 32 p.ensures (decimal_twenty c.args.a.place (omega arith)) in
    let l = written-length w.ensures in
    let m = written-length p.ensures in
    let d = decimal_ten c.from-2.result (omega arith) in
    omega arith

pub returns : goal.returns
returns c =
    let a = c.args.a in
    let w = c.put_number-end in
    let p = c.put_number-end-2 in
    let s = c.put_number in
    let k = number-end c.from.result 32 w.ensures (decimal_ten c.from.result (omega arith)) in
    let l = number-end a.place 32 p.ensures (decimal_twenty a.place (omega arith)) in
    let m = number-end c.from-2.result 10 s.ensures (decimal_ten c.from-2.result (omega arith)) in
    (written-numbers a (rw c.from.ensures at w.ensures) p.ensures (rw c.from-2.ensures at s.ensures), omega arith)
