-- Registers above a host that keeps the laws keep them, however the registers are held.
use Rattle.std.proofs.Common.{◌≡◌, Bool, cond, List, map, ap, ◌∙◌}
use Rattle.claims.specs.declared.terms.Terms.{Terms}
use Rattle.claims.specs.declared.codes.ResultCode.{ResultCode}
use Rattle.claims.specs.declared.codes.ResultCode.TheVariants.{Settled}
use Rattle.claims.proofs.Settling.{not_settled}
use Rattle.hosts.specs.declared.host.Host.{Ghosts}
use Rattle.hosts.specs.Meaning.{HostLaws}
use Rattle.hosts.specs.Layers.{layered}
use Rattle.registers.specs.Listings.{Listing, objects, fall}
use Rattle.tables.specs.Figures.{figures_above}
use Rattle.registers.specs.Piles.{verdict_above, registers_above, ground_above, after, Debited}
use Rattle.registers.specs.Objections.{never_settles}

-- nothing falls unless the host below settled
pub stays : (c : Terms) (k : ResultCode) (ls : List Listing) → (k ≡ Settled → ⊥) → after c k ls ≡ ls
stays c k ls n = ap (λ (b : Bool). cond b (map (fall c) ls) ls) (not_settled k n)

-- the laws of registers above a host that means h
abbrev pub LawsAbove : {S U : Type 0} → Ghosts S → (U → S) → (U → List Listing) → Type 0
LawsAbove {U = U} h below lists =
    HostLaws {S = U} (λ u c. verdict_above (lists u) c (h.verdict (below u) c)) (λ u. figures_above (lists u) (h.taken (below u)))
    (λ u c v. Debited h.verdict h.debits (lists u) (below u) c (lists v) (below v))
    (λ u. registers_above (lists u) (h.registers (below u))) (λ u. ground_above (lists u) (h.bottom_verdict (below u)))

pub pile_laws : {S U : Type 0} (h : Ghosts S) → HostLaws h.verdict h.taken h.debits h.registers h.bottom_verdict → (below : U → S) (lists : U → List Listing) → LawsAbove h below lists
pile_laws h laws below lists =
    layered h.verdict h.taken h.debits h.registers h.bottom_verdict laws below (λ u. map objects (lists u))
    (λ u c v. lists v ≡ after c (h.verdict (below u) c) (lists u))
    (λ u c v. (lists v ≡ lists u) × (below v ≡ below u))
    (λ u c. never_settles (lists u) c)
    (λ u v c fell n. ap (map objects) (fell ∙ stays c (h.verdict (below u) c) (lists u) n))
    (λ u v c kept. ap (map objects) kept.0)
    (λ u v c kept. kept.1)
