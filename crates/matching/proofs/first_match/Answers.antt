-- `first_match` meets its contract.
use mathlib.Core.Path.{sym, ap, ◌∙◌}
use Rattle.reader.proofs.scan.Outcomes.{scan-refused, scan-words}
use Rattle.matching.specs.Bindings.{no_bindings, match_in}
use Rattle.matching.proofs.Sources.{match-refused, match-accepted}
use Rattle.matching.proofs.Fits.{match-tells}
use Rattle.matching.proofs.first_match.Goals as goal

pub returns-in-Err : goal.returns-in-Err
unfolding no_bindings
returns-in-Err c =
    let s = c.scan_book in
    let told = match-tells (sym (match-refused c.args.book.now (scan-refused s.result s.ensures c.in-Err.is) c.args.ws.now)) in
    record { matched = told.0; told = told.1 }

pub returns-in-Ok : goal.returns-in-Ok
returns-in-Ok c =
    let s = c.scan_book in
    let b = c.in-Ok.b in
    let ws = c.args.ws.now in
    let is = sym (match-accepted b.words.now b.accepted.accepted ws) ∙ ap (λ w. match_in w ws) (scan-words s.result s.ensures c.in-Ok.is) in
    let told = match-tells (c.first_rule.ensures ∙ is) in
    record { matched = told.0; told = told.1 }
