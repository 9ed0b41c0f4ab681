use Rattle.files.proofs.words.Loads.{words-length, stored, all_stored}
use mathlib.Core.Path.{sym, ◌∙◌}
use Rattle.files.proofs.words.load.Goals as goal

pub loop-i-preserved : goal.loop-i-preserved
loop-i-preserved c =
    let l = c.loop-i in
    stored c.args.words.now l.words c.as_chunks.result.0.now l.i c.from_le_bytes.result l.invariant c.loop-i-test.true c.from_le_bytes.ensures

pub returns-clause-count : goal.returns-clause-count
returns-clause-count c = let e = c.as_chunks.ensures.front_len in let n = words-length c.args.bytes.now in e ∙ sym n

pub returns-clause-loaded : goal.returns-clause-loaded
returns-clause-loaded c =
    let l = c.loop-i in
    all_stored c.args.bytes.now c.args.words.now l.words c.as_chunks.result.0.now l.i c.as_chunks.ensures.front c.loop-i-test.false l.invariant
