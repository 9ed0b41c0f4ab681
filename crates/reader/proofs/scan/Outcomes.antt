-- What a scan tells of its words, by its outcome.
use mathlib.Core.Path.{◌≡◌, ap, ◌∙◌}
use mathlib.Core.List.{List}
use lib.ListN.{length}
use Rattle.std.specs.Prelude.{ℕ, Ok, Err}
use Rattle.std.specs.Borrow.{Bor}
use Rattle.std.proofs.lemmas.Result.{MatchResult-at_ok, MatchResult-at_err}
use Rattle.reader.specs.declared.Refusal.{Refusal}
use Rattle.reader.specs.declared.book.Book.{Book}
use Rattle.reader.specs.declared.scan.Scan.{Scan}
use Rattle.reader.specs.Parser.{ok, fault, read}
use Rattle.reader.specs.Book.{system_of}

module _ (s : Scan) {w : Bor (List ℕ)} (is : s.words ≡ w) where
  pub scan-refused : {r : Refusal} → s.outcome ≡ Err r → read w.now ≡ fault r.fault r.place
  scan-refused {r} e = rw (← is) (MatchResult-at_err _ _ r e s.scanned)

  module _ {b : Book} (e : s.outcome ≡ Ok b) where
    pub scan-words : b.words.now ≡ w.now
    scan-words = MatchResult-at_ok _ _ b e s.scanned ∙ ap (λ v. v.now) is

    pub scan-accepted : read w.now ≡ ok (system_of w.now) (length w.now)
    scan-accepted = rw (← scan-words) b.accepted.accepted
