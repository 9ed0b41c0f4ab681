use Rattle.system.specs.Signature.{signature_of}
use Rattle.sorts.proofs.sides.Marking.{marking-starts}
use Rattle.sorts.proofs.sides.has_sort.Goals as goal

pub loop-j-init : goal.loop-j-init
loop-j-init c = marking-starts (signature_of c.args.book.now) c.args.side.now
