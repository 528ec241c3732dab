-- How result codes print: by their numbers.
use Rattle.std.specs.Prelude.{ℕ, List, ◌++◌, codes}
use Rattle.std.specs.Fmt.{decimal}
use Rattle.claims.specs.declared.codes.ResultCode.{ResultCode}
use Rattle.claims.specs.declared.codes.UnknownCode.{UnknownCode}
use Rattle.claims.specs.Codes.{number_of}

abbrev pub code_text : ResultCode → List ℕ
code_text k = decimal (number_of k)

abbrev pub unknown_text : UnknownCode → List ℕ
unknown_text e = codes "no result code has the number " ++ decimal e.0
