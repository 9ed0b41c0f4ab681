-- What was read is an accepted book.
use Rattle.reader.proofs.scan.Scans.{scanned, rules-within, shape-there, accepted-there}
use Rattle.reader.specs.Parser.{read}
use mathlib.Core.Path.{◌∙◌}
use Rattle.reader.proofs.scan.scan_book.Goals as goal

pub shape_at-requires : goal.shape_at-requires
shape_at-requires c = let ws = c.args.words.now in rules-within ws (scanned (read ws) c.in-Ok.ensures)

pub invariant_of-outcome : goal.invariant_of-outcome
invariant_of-outcome c =
    let ws = c.args.words.now in
    let s = scanned (read ws) c.in-Ok.ensures in
    record { accepted = accepted-there ws s (c.shape_at.ensures ∙ shape-there ws s) }
