use Rattle.std.proofs.Common.{◌≡◌, map, vec_items}
use Rattle.registers.specs.Listings.{listing, fall}
use Rattle.registers.specs.Piles.{listings}
use Rattle.registers.proofs.Stacking.{partly}
use Rattle.registers.proofs.pile.VecRegisterLayer.lower.Given as goal

abbrev pub invariant-loop-register : goal.invariant-loop-register
invariant-loop-register l = partly listing (fall l.terms) l.register-items l.register-index ≡ map (fall l.terms) (listings (vec_items l.fn.self))
