use Rattle.std.proofs.Common.{◌≡◌, ℕ, ◌<◌, length, Option, vec_items, rules, None, Some, refl, slice_index_or, ◌∙◌}
use Rattle.std.proofs.iter.runs.Made.{chains}
use Rattle.claims.specs.declared.codes.ResultCode.{ResultCode}
use Rattle.registers.specs.declared.register.Register.{Register}
use Rattle.registers.specs.Listings.{listing, objects}
use Rattle.registers.specs.Piles.{listings, objection}
use Rattle.registers.proofs.Stacking as stacking
use Rattle.registers.proofs.pile.VecRegisterLayer.objection.Goals as goal

pub returns : goal.returns
returns c = by c.find_map.result refl
  where
    by : (o : Option ResultCode) → c.find_map.result ≡ o → c.find_map.result ≡ objection (listings (vec_items c.args.self.now)) c.args.terms
    by None e =
        let rs = vec_items c.args.self.now in
        let none : (k : ℕ) (d : Register) → k < length rs → None ≡ objects (listing (slice_index_or rs k d)) c.args.terms = λ k d l. search (rules, chains) in
        e ∙ stacking.nobody c.args.terms rs none
    by (Some y) e =
        let rs = vec_items c.args.self.now in
        let h : (i : ℕ) × (i < length rs) × ((d : Register) → Some y ≡ objects (listing (slice_index_or rs i d)) c.args.terms) × ((k : ℕ) (d : Register) → k < i → None ≡ objects (listing (slice_index_or rs k d)) c.args.terms) = search (rules, chains) in
        e ∙ stacking.found c.args.terms rs h.0 y h.1 h.2 h.3
