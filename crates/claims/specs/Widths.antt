-- The widths that every claim keeps.
use Rattle.std.specs.Prelude.{ℕ, ◌≤◌, Bool, cond, ◌&&◌, Ok, Err, Result, nat_le}
use Rattle.denials.specs.declared.Denial.{Denial}
use Rattle.denials.specs.declared.Denial.TheVariants.{OutsideWidth}
use Rattle.claims.specs.declared.terms.Terms.{Terms}

-- the largest number of ten digits: a biller code, half of a customer number, an amount
abbrev pub ten_digits : ℕ
ten_digits = 9999999999

-- the largest number of fifteen digits: an account, a taken figure, a ceiling
abbrev pub fifteen_digits : ℕ
fifteen_digits = 999999999999999

-- terms that keep the widths, as a claim does
abbrev pub Wide : Terms → Type 0
Wide c = ((c.biller ≤ ten_digits) × (c.account ≤ fifteen_digits)) × ((c.high ≤ ten_digits) × (c.low ≤ ten_digits)) × ((1 ≤ c.amount) × (c.amount ≤ ten_digits))

-- the same as a test
abbrev pub wide : Terms → Bool
wide c = nat_le c.biller ten_digits && (nat_le c.account fifteen_digits && (nat_le c.high ten_digits && (nat_le c.low ten_digits && (nat_le 1 c.amount && nat_le c.amount ten_digits))))

-- what making a claim from these terms gives
abbrev pub made : Terms → Result Terms Denial
made c = cond (wide c) (Ok c) (Err OutsideWidth)
