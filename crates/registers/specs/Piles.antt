-- A host with registers above it, uppermost first: what it shows, what it says of a claim, and what one debit makes of it.
use Rattle.std.specs.Prelude.{◌≡◌, ℕ, cond, List, [], ◌∷◌, ◌++◌, map, Some, None, Vec, vec_items, Option, MatchOption}
use Rattle.std.specs.Option.{unwrap_or}
use Rattle.claims.specs.declared.terms.Terms.{Terms}
use Rattle.claims.specs.declared.codes.ResultCode.{ResultCode}
use Rattle.claims.specs.Codes.{settles}
use Rattle.hosts.specs.Meaning.{uppermost}
use Rattle.tables.specs.Figures.{figures_above}
use Rattle.registers.specs.declared.layered.Layered.{Layered}
use Rattle.registers.specs.declared.register.Register.{Register}
use Rattle.registers.specs.Listings.{Listing, listing, objects, fall}

abbrev pub listings : List Register → List Listing
listings rs = map listing rs

-- what a pile holds above its host
abbrev pub held : {P A : Type 0} → Layered (Vec Register A) P → List Listing
held s = listings (vec_items s.layer)

-- the objection of the uppermost register that objects
abbrev pub objection : List Listing → Terms → Option ResultCode
objection ls c = uppermost (map objects ls) c

-- that objection, or else what the host below says
abbrev pub verdict_above : List Listing → Terms → ResultCode → ResultCode
verdict_above ls c below = unwrap_or (objection ls c) below

-- each register shows itself, above those that the host below shows
abbrev pub registers_above : List Listing → List (Terms → Option ResultCode) → List (Terms → Option ResultCode)
registers_above ls below = map objects ls ++ below

-- the ground, which is what the bottom host says, is that of the host below
abbrev pub ground_above : List Listing → (Terms → ResultCode) → Terms → ResultCode
ground_above ls below = below

-- the registers after a claim of which the host below said this: ceilings fall after 0
abbrev pub after : Terms → ResultCode → List Listing → List Listing
after c k ls = cond (settles k) (map (fall c) ls) ls

-- one debit, from registers and a host to registers and a host: if a register objects, nothing changes; else the host below is debited once
abbrev pub Debited : {S : Type 0} → (S → Terms → ResultCode) → (S → Terms → S → Type 0) → List Listing → S → Terms → List Listing → S → Type 0
Debited verdict debits ls s c ls' s' = MatchOption (objection ls c) (debits s c s' × (ls' ≡ after c (verdict s c) ls)) (λ _. (ls' ≡ ls) × (s' ≡ s))

-- none of these registers objects to the claim
abbrev pub Silent : List Listing → Terms → Type 0
Silent [] c = Unit {0}
Silent (l ∷ ls) c = (objects l c ≡ None) × Silent ls c

-- in any pile the verdict is that of the uppermost register that objects
abbrev pub UppermostObjects : Type 0
UppermostObjects = (above : List Listing) (l : Listing) (below : List Listing) (c : Terms) (k v : ResultCode) → Silent above c → objects l c ≡ Some k → verdict_above (above ++ l ∷ below) c v ≡ k

-- and where none objects, the verdict is the host's
abbrev pub OrElseTheHost : Type 0
OrElseTheHost = (ls : List Listing) (c : Terms) (v : ResultCode) → Silent ls c → verdict_above ls c v ≡ v

-- registers stacked in a list mean what they mean one above the other: the uppermost register above the pile of the others
pub record StackedAsNested {S : Type 0} (verdict : S → Terms → ResultCode) (debits : S → Terms → S → Type 0) : Type 0 where
  pub verdict_same : (l : Listing) (ls : List Listing) (s : S) (c : Terms) →
      verdict_above (l ∷ ls) c (verdict s c) ≡ verdict_above (l ∷ []) c (verdict_above ls c (verdict s c))
  pub registers_same : (l : Listing) (ls : List Listing) (below : List (Terms → Option ResultCode)) →
      registers_above (l ∷ ls) below ≡ registers_above (l ∷ []) (registers_above ls below)
  pub debit_nested : (l l' : Listing) (ls ls' : List Listing) (s s' : S) (c : Terms) →
      Debited verdict debits (l ∷ ls) s c (l' ∷ ls') s' →
      Debited {S = List Listing × S} (λ p d. verdict_above p.0 d (verdict p.1 d)) (λ p d q. Debited verdict debits p.0 p.1 d q.0 q.1) (l ∷ []) (ls, s) c (l' ∷ []) (ls', s')
  pub debit_stacked : (l l' : Listing) (ls ls' : List Listing) (s s' : S) (c : Terms) →
      Debited {S = List Listing × S} (λ p d. verdict_above p.0 d (verdict p.1 d)) (λ p d q. Debited verdict debits p.0 p.1 d q.0 q.1) (l ∷ []) (ls, s) c (l' ∷ []) (ls', s') →
      Debited verdict debits (l ∷ ls) s c (l' ∷ ls') s'

-- where none objects, the host below is debited once, and ceilings fall after 0 and after no other code
abbrev pub Passed : {S : Type 0} → (S → Terms → ResultCode) → (S → Terms → S → Type 0) → Type 0
Passed {S} verdict debits = (ls ls' : List Listing) (s s' : S) (c : Terms) → Silent ls c → Debited verdict debits ls s c ls' s' → debits s c s' × (ls' ≡ after c (verdict s c) ls)

-- where a register objects, nothing below is debited, and no register falls
abbrev pub Stopped : {S : Type 0} → (S → Terms → ResultCode) → (S → Terms → S → Type 0) → Type 0
Stopped {S} verdict debits = (ls ls' : List Listing) (s s' : S) (c : Terms) (k : ResultCode) → objection ls c ≡ Some k → Debited verdict debits ls s c ls' s' → (s' ≡ s) × (ls' ≡ ls)

-- taken figures are those of the host below
abbrev pub FiguresOfTheBottom : {S : Type 0} → (S → ℕ → ℕ) → Type 0
FiguresOfTheBottom {S} taken = (ls : List Listing) (s : S) (a : ℕ) → figures_above ls (taken s) a ≡ taken s a

-- What a host with registers shows.

-- each register that it holds, uppermost first, above those that the host below shows
abbrev pub ShowsItsRegisters : {S : Type 0} → (S → List (Terms → Option ResultCode)) → (S → List Listing) → (S → List (Terms → Option ResultCode)) → Type 0
ShowsItsRegisters {S} shown held below = (s : S) → shown s ≡ map objects (held s) ++ below s

abbrev pub ShowsTheGroundBelow : {S : Type 0} → (S → Terms → ResultCode) → (S → Terms → ResultCode) → Type 0
ShowsTheGroundBelow {S} shown below = (s : S) (c : Terms) → shown s c ≡ below s c

abbrev pub ShowsTheFiguresBelow : {S : Type 0} → (S → ℕ → ℕ) → (S → ℕ → ℕ) → Type 0
ShowsTheFiguresBelow {S} shown below = (s : S) (a : ℕ) → shown s a ≡ below s a
