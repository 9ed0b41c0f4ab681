-- `rules::same_parts` meets its contract.
use Prim.Native.Nat.{◌+◌, ◌-◌}
use native.Mathlib.Nat.{add-sub_cancel_left}
use mathlib.Core.Path.{◌∙◌}
use lib.ListN.{take, drop}
use Rattle.matching.specs.Matching.{same_words}
use Rattle.matching.proofs.SameWords.{same-pointwise}
use Rattle.matching.proofs.rules.same_parts.Goals as goal

pub returns : goal.returns
returns c =
    let a = c.args in
    c.eq.ensures ∙ same-pointwise (take (a.p + a.m - a.p) (drop a.p a.ws.now)) (take (a.q + a.n - a.q) (drop a.q a.ws.now))
    ∙ (λ i. same_words (take (add-sub_cancel_left a.p a.m i) (drop a.p a.ws.now)) (take (add-sub_cancel_left a.q a.n i) (drop a.q a.ws.now)))
