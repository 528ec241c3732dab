-- A claim by its terms.
use Rattle.std.specs.Prelude.{Ok, Err, Result}
use Rattle.denials.specs.declared.Denial.{Denial}
use Rattle.claims.specs.declared.terms.Terms.{Terms}
use Rattle.claims.specs.declared.claim.Claim.{Claim}

-- the terms of a claim that was made, or the denial
abbrev pub plain : Result Claim Denial → Result Terms Denial
plain (Ok c) = Ok c.terms
plain (Err d) = Err d
