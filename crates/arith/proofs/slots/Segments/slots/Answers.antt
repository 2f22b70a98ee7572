-- `Segments::slots` meets its contract: h2's sum is made from h1's, before its xor. Assumes nothing.
use Rattle.std.proofs.Common.{◌≡◌, ℕ, ◌+◌, ◌*◌, ◌/◌, ◌^◌, [], ◌∷◌, arith, bit_xor, bit_and}
use Rattle.arith.specs.Slots.{slot0, slot1, slot2, slots_of}
use Rattle.arith.proofs.slots.Segments.slots.Goals as goal

by_sums : (hash L mask span first : ℕ) → first ≡ hash * span / 2 ^ 64
    → first ∷ bit_xor (first + L) (bit_and (hash / 2 ^ 18) mask) ∷ bit_xor (first + L + L) (bit_and hash mask) ∷ []
    ≡ slots_of hash L mask span
unfolding slot0 slot1 slot2
by_sums hash L mask span first is =
    let twice : first + L + L ≡ first + 2 * L = omega arith in
    rw (twice, is)

pub returns : goal.returns
returns c =
    by_sums c.args.hash c.args.self.length c.args.self.mask c.args.self.span c.mul_high-first.result c.mul_high-first.ensures
