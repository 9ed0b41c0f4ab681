-- `redexes::same_at` meets its contract.
use mathlib.Core.Path.{sym, ◌∙◌}
use Rattle.redexes.proofs.search.Unparted.{slots-hold}
use Rattle.redexes.proofs.search.same_at.Goals as goal

-- ---- the goals

pub returns : goal.returns
returns c =
    let a = c.args in
    let h = c.requires in
    let p = slots-hold h.0 a.p a.n h.1 h.2 (sym c.parted.ensures ∙ c.if-parted.false) c.slot.ensures.0 in
    let q = slots-hold h.0 a.q a.n h.1 h.3 (sym c.parted-else-parted.ensures ∙ c.if-parted-2.false) c.slot-2.ensures.0 in
    rw (p, q) at c.same_slots.ensures
