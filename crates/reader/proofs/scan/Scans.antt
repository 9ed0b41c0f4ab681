-- An accepted book: where its sections lie, and so its shape.
use Prim.Native.Nat.{ℕ, ◌+◌, ◌<◌}
use native.Mathlib.Omega.{arith}
use mathlib.Core.Path.{◌≡◌, sym, ap, ◌∙◌}
use mathlib.Core.List.{List}
use lib.ListN.{length, get_or}
use Rattle.std.specs.Prelude.{Ok}
use Rattle.reader.specs.declared.Shape.{Shape}
use Rattle.reader.specs.declared.scan.sections.Sections.{Sections}
use Rattle.system.specs.System.{System}
use Rattle.reader.specs.Format.{encode_strategies}
use Rattle.reader.specs.Parser.{Parsed, ok, fault, read}
use Rattle.reader.specs.Answers.{shape_of}
use Rattle.reader.specs.Book.{system_from, system_of, Accepted}
use Rattle.system.specs.Signature.{signature_of}
use Rattle.reader.specs.scan.Sections.{sections_of}
use Rattle.reader.proofs.Accepts.{read-sound}
use Rattle.reader.proofs.Located.{located, read-signature}

-- the sections of an accepted book
pub record Scanned (o : Parsed System) (s : Sections) : Type 0 where
  pub system : System
  pub equal : o ≡ ok system s.end
  pub rules : s.rules ≡ length system.arities + 2 + length (encode_strategies system.strategies)

pub scanned : (o : Parsed System) {s : Sections} → Ok s ≡ sections_of o → Scanned o s
scanned (ok x i) {s} e =
    let q : s ≡ record { rules = length x.arities + 2 + length (encode_strategies x.strategies); end = i } = cc in
    record { system = x; equal = ap (λ (y : Sections). ok x y.end) (sym q); rules = ap (λ (y : Sections). y.rules) q }
scanned (fault f i) e = cc

module _ (ws : List ℕ) {s : Sections} (a : Scanned (read ws) s) where
  pub rules-within : s.rules < length ws
  rules-within = let l = (located ws a.equal).size in let r = a.rules in omega arith

  pub shape-there : record { symbols = length (signature_of ws); strategies = length (signature_of ws) + 2; rules = get_or ws s.rules 0; first_rule = s.rules + 1 } ≡ shape_of (read ws)
  shape-there =
      let x = a.system in
      let en : length (signature_of ws) ≡ length x.arities = ap length (sym (read-signature ws a.equal)) in
      let em : get_or ws s.rules 0 ≡ length x.rules = ap (λ k. get_or ws k 0) a.rules ∙ (located ws a.equal).count in
      let er : s.rules + 1 ≡ length x.arities + 3 + length (encode_strategies x.strategies) = (let r = a.rules in omega arith) in
      (λ j. record { symbols = en j; strategies = en j + 2; rules = em j; first_rule = er j }) ∙ ap shape_of (sym a.equal)

  -- the words are an accepted book
  pub accepted-there : {shape : Shape} → shape ≡ shape_of (read ws) → Accepted ws shape
  unfolding system_of
  accepted-there e =
      let q = a.equal in
      record { accepted = q ∙ (λ j. ok (ap system_from (sym q) j) ((read-sound ws q).2 j)); shaped = e }
