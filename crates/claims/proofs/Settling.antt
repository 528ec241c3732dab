-- A code that is not the settled one does not settle, and what comparing two codes says.
use denote.Enum.Bare.{sameb, same_true}
use Rattle.std.proofs.Common.{◌≡◌, ◌≢◌, true, false, refl, sym, ap, ◌∙◌, rules}
use Rattle.claims.specs.contracts.codes.ResultCode.{the_type}
use Rattle.claims.specs.declared.codes.ResultCode.{ResultCode}
use Rattle.claims.specs.declared.codes.ResultCode.TheVariants.{Settled, ShortOfFunds, NoAccount, StoppedByHolder, NoMandate, StoppedByBiller, Other}
use Rattle.claims.specs.Codes.{settles}

pub not_settled : (k : ResultCode) → (k ≡ Settled → ⊥) → settles k ≡ false
not_settled Settled n = absurd (n refl)
not_settled ShortOfFunds n = refl
not_settled NoAccount n = refl
not_settled StoppedByHolder n = refl
not_settled NoMandate n = refl
not_settled StoppedByBiller n = refl
not_settled Other n = refl

pub same_code : (k j : ResultCode) → true ≡ sameb the_type k j → k ≡ j
same_code k j e = same_true the_type (search rules) k j (sym e)

pub other_code : (k : ResultCode) → false ≡ sameb the_type k Settled → k ≢ Settled
other_code k e same = let z : false ≡ true = e ∙ ap (λ (j : ResultCode). sameb the_type j Settled) same in cc
