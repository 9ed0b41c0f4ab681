-- `rules::computed_match` meets its contract: the first three words tell which built-in rule there is.
use mathlib.Core.Path.{◌≡◌, sym, ap, ◌∙◌}
use mathlib.Core.List.{[], ◌∷◌}
use Rattle.matching.specs.Matching.{computed}
use Rattle.matching.specs.Bindings.{no_bindings, computed_rule, match_computed}
use Rattle.matching.proofs.Computed.{computed-words}
use Rattle.matching.proofs.rules.computed_match.Goals as goal
use Rattle.matching.proofs.rules.computed_match.Goals.{After-computed}

three : (c : After-computed) → c.computed.result ≡ computed_rule (computed c.args.ws.now)
three c =
    let ws = c.args.ws.now in
    c.computed.ensures
    ∙ ap computed_rule
    ((λ i. computed (c.word_of.ensures i ∷ c.word_of-2.ensures i ∷ c.word_of-3.ensures i ∷ [])) ∙ sym (computed-words ws))

pub returns : goal.returns
unfolding no_bindings match_computed
returns c = λ i. record { rule = three c i; starts = no_bindings.starts; lengths = no_bindings.lengths }
