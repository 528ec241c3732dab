-- The one numbering of the seven result codes.
use Rattle.std.specs.Prelude.{ℕ, Bool, cond, Some, None, Option, ◌==◌}
use Rattle.claims.specs.declared.codes.ResultCode.{ResultCode}
use Rattle.claims.specs.declared.codes.ResultCode.TheVariants.{Settled, ShortOfFunds, NoAccount, StoppedByHolder, NoMandate, StoppedByBiller, Other}

abbrev pub number_of : ResultCode → ℕ
number_of Settled = 0
number_of ShortOfFunds = 1
number_of NoAccount = 2
number_of StoppedByHolder = 3
number_of NoMandate = 4
number_of StoppedByBiller = 8
number_of Other = 9

-- the code of a number, if it is one of the seven
abbrev pub code_numbered : ℕ → Option ResultCode
code_numbered n =
    cond (n == 0) (Some Settled) (cond (n == 1) (Some ShortOfFunds) (cond (n == 2) (Some NoAccount) (cond (n == 3) (Some StoppedByHolder)
    (cond (n == 4) (Some NoMandate) (cond (n == 8) (Some StoppedByBiller) (cond (n == 9) (Some Other) None))))))

-- whether the code is 0
abbrev pub settles : ResultCode → Bool
settles k = number_of k == 0
