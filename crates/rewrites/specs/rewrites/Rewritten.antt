-- What a rewrite in an area does: "the right side, so filled, replaces the part".
use Rattle.std.specs.Prelude.{ℕ, ◌≤◌, ◌<◌, ◌≡◌, List, length, drop, Some}
use Rattle.std.proofs.Math.Option.{some}
use Rattle.system.specs.Signature.{span, replace}
use Rattle.system.specs.System.{System}
use Rattle.system.specs.Terms.{Whole}
use Rattle.reader.specs.Book.{system_of}
use Rattle.rows.specs.declared.gap.Gap.{Gap}
use Rattle.rows.specs.Rows.{term_in}
use Rattle.rows.specs.Measured.{Measured}
use Rattle.redexes.specs.declared.search.Redex.{Redex}
use Rattle.matching.specs.Matching.{Contraction, contraction}
use Rattle.matching.specs.Bindings.{match_of}
use Rattle.redexes.specs.search.Redexes.{redex_of, binding_words, Bound}
use Rattle.reducts.specs.declared.putting.Reduced.{Reduced}
use Rattle.reducts.specs.declared.putting.Subterm.{Subterm}
use Rattle.rewrites.specs.declared.rewrites.Site.{Site}
use Rattle.reducts.specs.putting.Replaced.{Done, TooLong, Placed, Kept}
use Rattle.system.specs.Limits.{area_words, term_words}

-- the subterm at a site
abbrev pub subterm_of : Site → Subterm
subterm_of site = record { level = site.level; at = site.at; width = site.width }

-- x is the first rule that matches at the subterm, and its reduct
abbrev pub Contracts : List ℕ → List ℕ → Gap → Subterm → Contraction → Type 0
Contracts book ws gap u x = contraction (system_of book) (drop u.at (term_in ws gap)) ≡ some x

-- the rows hold a whole term with true lengths; u is a subterm of it, with no more levels around it than words before it,
-- m the match that was found there, and bs its bindings. What the third row holds does not matter
pub record Reducible (book ws : List ℕ) (gap : Gap) (u : Subterm) (m : Redex) (bs : List ℕ) : Type 0 where
  pub total : length ws ≡ area_words
  pub measured : Measured (system_of book).arities ws gap
  pub whole : Whole (system_of book).arities (term_in ws gap)
  pub inside : u.at < length (term_in ws gap)
  pub around : u.level ≤ u.at
  pub match : redex_of (system_of book) (drop u.at (term_in ws gap)) ≡ Some m
  pub bound : Bound (match_of (system_of book) (drop u.at (term_in ws gap))) bs
  pub many : length bs ≡ binding_words
  pub wide : u.width ≡ span (system_of book).arities (drop u.at (term_in ws gap)) 1
  pub x : Contraction
  pub contracts : Contracts book ws gap u x

-- the term after the rewrite
abbrev pub rewritten : System → List ℕ → Gap → Subterm → Contraction → List ℕ
rewritten s ws gap u x = replace s.arities (term_in ws gap) u.at x.reduct

-- the answer and the area after it; where the term would have too many words it stays as it is
pub data Rewritten (s : System) (ws : List ℕ) (gap : Gap) (u : Subterm) (x : Contraction) (r : Reduced) (ws' : List ℕ) : Type 0 where
  done : length (rewritten s ws gap u x) ≤ term_words → (gap' : Gap) → r ≡ Done gap' →
      Placed s.arities ws (term_in ws gap) (rewritten s ws gap u x) u.at u.level gap' ws' → Rewritten s ws gap u x r ws'
  long : term_words < length (rewritten s ws gap u x) → (gap' : Gap) → r ≡ TooLong gap' →
      Kept s.arities ws (term_in ws gap) gap' ws' → Rewritten s ws gap u x r ws'

abbrev pub Rewrites : List ℕ → List ℕ → Gap → Subterm → Reduced → List ℕ → Type 0
Rewrites book ws gap u r ws' = (x : Contraction) → Contracts book ws gap u x → Rewritten (system_of book) ws gap u x r ws'
