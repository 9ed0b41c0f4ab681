-- `recording::put_pair` meets its contract.
use native.Mathlib.Omega.{arith}
use mathlib.Core.Path.{sym}
use lib.ListN.{length-set}
use Rattle.records.proofs.Records.{paired-told, paired_none}
use Rattle.records.proofs.recording.put_pair.Goals as goal

pub bounds-record-i : goal.bounds-record-i
bounds-record-i c = let p = c.requires.0 c.if-bounds.true in omega arith

pub bounds-record-i-then-bounds : goal.bounds-record-i-then-bounds
bounds-record-i-then-bounds c =
    let a = c.args in
    let p = c.requires.0 c.if-bounds.true in
    rw length-set (omega arith)

pub offset_bounds-record-i : goal.offset_bounds-record-i
offset_bounds-record-i c = let p = c.requires.0 c.if-bounds.true in omega arith

pub returns-then-bounds : goal.returns-then-bounds
returns-then-bounds c = let a = c.args in sym (paired-told a.bounds.recorded a.«record».now a.k a.at a.number c.if-bounds.true)

pub returns-else-bounds : goal.returns-else-bounds
returns-else-bounds c = let a = c.args in sym (paired_none a.bounds.recorded a.«record».now a.k a.at a.number c.if-bounds.false)
