-- What finding a result code by its number answers.
use Rattle.std.specs.Prelude.{◌≡◌, ℕ, Ok, Result, IfErr}
use Rattle.std.specs.Result.{result_ok}
use Rattle.claims.specs.declared.codes.ResultCode.{ResultCode}
use Rattle.claims.specs.declared.codes.UnknownCode.{UnknownCode}
use Rattle.claims.specs.Codes.{number_of, code_numbered}

pub record Numbered (number : ℕ) (found : Result ResultCode UnknownCode) : Type 0 where
  -- the code that the numbering has for the number, or none
  pub answer : result_ok found ≡ code_numbered number
  -- a code is found by its number
  pub named : (code : ResultCode) → number ≡ number_of code → found ≡ Ok code
  -- and by no other
  pub only : (code : ResultCode) → found ≡ Ok code → number ≡ number_of code
  -- a number of no code is handed back
  pub unknown : IfErr found (λ e. e.0 ≡ number)
