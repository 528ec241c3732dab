-- What a host means, and the laws that every host keeps, over claims that keep their widths and accounts of fifteen digits.
use Rattle.std.specs.Prelude.{◌≡◌, ℕ, ◌+◌, ◌≤◌, cond, List, [], ◌∷◌, Some, None, Option, ◌==◌, ◌≢◌}
use Rattle.std.specs.Option.{unwrap_or, option_map_or}
use Rattle.claims.specs.declared.terms.Terms.{Terms}
use Rattle.claims.specs.declared.codes.ResultCode.{ResultCode}
use Rattle.claims.specs.declared.codes.ResultCode.TheVariants.{Settled}
use Rattle.claims.specs.Widths.{fifteen_digits, Wide}

-- the most that may have been taken from an account
abbrev pub figure_limit : ℕ
figure_limit = fifteen_digits

-- what a claim adds to the figure of an account
abbrev pub share : ℕ → Terms → ℕ
share a c = cond (c.account == a) c.amount 0

-- the objection of the uppermost register that objects
abbrev pub uppermost : List (Terms → Option ResultCode) → Terms → Option ResultCode
uppermost [] c = None
uppermost (r ∷ rs) c = option_map_or Some (r c) (uppermost rs c)

-- its code, or else that of the bottom host
abbrev pub answered : List (Terms → Option ResultCode) → Terms → ResultCode → ResultCode
answered rs c g = unwrap_or (uppermost rs c) g

-- The laws, for whatever type of host.

abbrev pub SettlingRaises : {S : Type 0} → (S → Terms → ResultCode) → (S → ℕ → ℕ) → (S → Terms → S → Type 0) → Type 0
SettlingRaises {S} verdict taken debits =
    (s t : S) (c : Terms) → Wide c → debits s c t → verdict s c ≡ Settled → (a : ℕ) → a ≤ fifteen_digits → taken t a ≡ taken s a + share a c

abbrev pub RefusingKeepsFigures : {S : Type 0} → (S → Terms → ResultCode) → (S → ℕ → ℕ) → (S → Terms → S → Type 0) → Type 0
RefusingKeepsFigures {S} verdict taken debits =
    (s t : S) (c : Terms) → Wide c → debits s c t → (verdict s c ≢ Settled) → (a : ℕ) → a ≤ fifteen_digits → taken t a ≡ taken s a

abbrev pub RefusingKeepsVerdicts : {S : Type 0} → (S → Terms → ResultCode) → (S → Terms → S → Type 0) → Type 0
RefusingKeepsVerdicts {S} verdict debits =
    (s t : S) (c : Terms) → Wide c → debits s c t → (verdict s c ≢ Settled) → (d : Terms) → Wide d → verdict t d ≡ verdict s d

abbrev pub SettlingWithinLimit : {S : Type 0} → (S → Terms → ResultCode) → (S → ℕ → ℕ) → Type 0
SettlingWithinLimit {S} verdict taken =
    (s : S) (c : Terms) → Wide c → verdict s c ≡ Settled → taken s c.account + c.amount ≤ figure_limit

abbrev pub VerdictOfTheUppermost : {S : Type 0} → (S → Terms → ResultCode) → (S → List (Terms → Option ResultCode)) → (S → Terms → ResultCode) → Type 0
VerdictOfTheUppermost {S} verdict registers bottom_verdict =
    (s : S) (c : Terms) → Wide c → verdict s c ≡ answered (registers s) c (bottom_verdict s c)

-- the laws of a host, together
pub record HostLaws {S : Type 0} (verdict : S → Terms → ResultCode) (taken : S → ℕ → ℕ) (debits : S → Terms → S → Type 0) (registers : S → List (Terms → Option ResultCode)) (bottom_verdict : S → Terms → ResultCode) : Type 0 where
  -- a debit that was settled raises the figure of the claim's account by the amount, and moves no other
  pub raises : SettlingRaises verdict taken debits
  -- a debit that was not settled moves no figure
  pub figures : RefusingKeepsFigures verdict taken debits
  -- a debit that was not settled moves no verdict
  pub verdicts : RefusingKeepsVerdicts verdict debits
  -- a claim is settled only if the raised figure is within the limit
  pub limit : SettlingWithinLimit verdict taken
  -- the verdict is that of the uppermost register that objects, or else the bottom host's
  pub uppermost : VerdictOfTheUppermost verdict registers bottom_verdict
