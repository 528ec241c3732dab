-- What a row of each register is known by, and the widths of its numbers.
use Rattle.std.specs.Prelude.{Bool, ◌&&◌, ◌==◌, nat_le}
use Rattle.claims.specs.declared.terms.Terms.{Terms}
use Rattle.claims.specs.Widths.{ten_digits, fifteen_digits}
use Rattle.tables.specs.declared.rows.AccountRow.{AccountRow}
use Rattle.tables.specs.declared.rows.CustomerRow.{CustomerRow}
use Rattle.tables.specs.declared.rows.CeilingRow.{CeilingRow}

abbrev pub same_account : AccountRow → AccountRow → Bool
same_account k r = k.biller == r.biller && k.account == r.account

abbrev pub wide_account : AccountRow → Bool
wide_account k = nat_le k.biller ten_digits && nat_le k.account fifteen_digits

abbrev pub same_customer : CustomerRow → CustomerRow → Bool
same_customer k r = k.biller == r.biller && (k.high == r.high && k.low == r.low)

abbrev pub wide_customer : CustomerRow → Bool
wide_customer k = nat_le k.biller ten_digits && (nat_le k.high ten_digits && nat_le k.low ten_digits)

-- a ceiling is known by its biller code alone
abbrev pub same_biller : CeilingRow → CeilingRow → Bool
same_biller k r = k.biller == r.biller

abbrev pub wide_biller : CeilingRow → Bool
wide_biller k = nat_le k.biller ten_digits

-- a ceiling may be 0
abbrev pub wide_ceiling : CeilingRow → Bool
wide_ceiling k = wide_biller k && nat_le k.left fifteen_digits

-- the rows that a claim would be listed under
abbrev pub account_row : Terms → AccountRow
account_row c = record { biller = c.biller; account = c.account }

abbrev pub customer_row : Terms → CustomerRow
customer_row c = record { biller = c.biller; high = c.high; low = c.low }
